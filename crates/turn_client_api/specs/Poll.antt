-- What a client does as time passes (RFC 8656, sections 8 to 12; RFC 6062, section 4.3).
use Rattle.std.specs.Prelude.{ℕ, nat_le, nat_lt, Bool, true, false, not, ◌&&◌, ◌||◌, if◌then◌else◌, List, [], ◌∷◌, ◌++◌, map, filter, find, filter_map, fold}
use Rattle.std.specs.Prelude.{reverse, slice_get, Option, Some, None, is_some}
use Rattle.std.specs.List.{list_any}
use Rattle.std.specs.Option.{option_map_or}
use Rattle.std.specs.declared.net.socket_addr.SocketAddr.{SocketAddr}
use Rattle.turn_types.specs.declared.family.AddressFamily.{AddressFamily}
use Rattle.turn_agent.specs.Agent.{timed_out_transaction}
use Rattle.turn_client_api.specs.State.{State, Phase, New, Requesting, Authenticating, Allocated, Closed, Grant, Allocation, Permission, Channel, Offer}
use Rattle.turn_client_api.specs.State.{Connection, Relay, DataOffer, Active, Reserved, Purpose, agent_of}
use Rattle.turn_client_api.specs.Grants.{allocations, family_of, failures_among, first_in, as_connection, has_request, in_sequence, is_connect}
use Rattle.turn_client_api.specs.Grants.{is_for_allocation, is_for_any, is_of, is_of_family, is_of_request, is_past, is_pending_channel, is_pending_permission}
use Rattle.turn_client_api.specs.Grants.{jump, purposes_of, unlisted, without_grants}
use Rattle.turn_client_api.specs.Effect.{closed, transaction_ended, reserved, without_families}
use Rattle.turn_client_api.specs.Calls.{is_allocated}
use Rattle.turn_client_api.specs.Due.{final_expiry, has_event, has_reply, next_wakeup}
use Rattle.turn_client_api.specs.declared.event.TurnEvent.TheVariants.{AllocationCreateFailed, ChannelCreateFailed}
use Rattle.turn_client_api.specs.declared.poll.TurnPollRet.{TurnPollRet}
use Rattle.turn_client_api.specs.declared.poll.TurnPollRet.TheVariants as Do

-- ---- what expires in one allocation

-- what the request that just timed out was made for, if there is one
abbrev pub timed_out_purposes : Option ℕ → State → List Purpose
timed_out_purposes given s = option_map_or (λ id. purposes_of id s) given []

-- An allocation is removed at its expiry, unless it is marked as expired and a request for it is pending: then it is at its final
-- expiry, if requests are timed from their first copies. A request that was made for these purposes just timed out, and so is not
-- pending.
abbrev pub allocation_expires : List Purpose → ℕ → State → Relay → Bool
allocation_expires purposes now s a =
    is_past now a
    && (is_for_any purposes (Allocation a) || not (has_request (Allocation a) s) || not a.is_expired
    || nat_le (final_expiry a) now && s.config.timed_from_send)

-- these grants are removed, and their failures are queued before other events
abbrev pub failed : (Grant → Bool) → State → State
failed which s = jump (failures_among which s) (without_grants which s)

-- a permission or channel is expired from its expiry on
abbrev pub is_expired_permission : ℕ → Grant → Bool
is_expired_permission now (Permission ip (Active lease)) = nat_le lease.expiry now
is_expired_permission now _ = false

abbrev pub is_expired_channel : ℕ → Grant → Bool
is_expired_channel now (Channel number peer (Active lease)) = nat_le lease.expiry now
is_expired_channel now _ = false

abbrev pub is_over : ℕ → Grant → Bool
is_over now (Channel number peer (Reserved until)) = nat_lt until now
is_over now _ = false

-- the server did not bind the connection in time
abbrev pub is_unbound : List Purpose → ℕ → Grant → Bool
is_unbound purposes now (Connection c) =
    option_map_or (λ deadline. nat_le deadline now || is_for_any purposes (Connection c)) c.deadline false
is_unbound purposes now _ = false

-- one channel per allocation and call: its failure is queued first, and its number and peer are reserved
abbrev pub channel_expired : Option Grant → State → State
channel_expired (Some (Channel number peer (Active lease))) s =
    jump (ChannelCreateFailed s.config.allocation_transport peer ∷ []) (reserved number peer lease.expiry s)
channel_expired _ s = s

-- connections that are not bound are to be closed, after all others
abbrev pub unbound : (Grant → Bool) → State → State
unbound which s = record (failed which s) {
  closes = s.closes ++ map (λ c. c.local) (filter_map as_connection (filter which s.grants));
}

abbrev pub is_timed_out_offer : Option ℕ → Grant → Bool
is_timed_out_offer given grant = option_map_or (λ id. is_of_request id grant) given false

-- what was requested by the request that timed out, which was made for these
abbrev pub failed_by_timeout : AddressFamily → List Purpose → (Grant → Bool) → State → State
failed_by_timeout family purposes which s = failed (λ g. is_of family g && which g && is_for_any purposes g) s

abbrev pub last_channel_expired : AddressFamily → ℕ → State → State
last_channel_expired family now s =
    channel_expired (find (λ g. is_of family g && is_expired_channel now g) (reverse s.grants)) s

abbrev pub permissions_expired : AddressFamily → ℕ → State → State
permissions_expired family now s = failed (λ g. is_of family g && is_expired_permission now g) s

abbrev pub connections_unbound : AddressFamily → List Purpose → ℕ → State → State
connections_unbound family purposes now s = unbound (λ g. is_of family g && is_unbound purposes now g) s

abbrev pub offers_timed_out : AddressFamily → Option ℕ → State → State
offers_timed_out family given s = failed (λ g. is_of family g && is_timed_out_offer given g) s

-- a grant whose refresh timed out may be requested again
abbrev pub refreshes_timed_out : AddressFamily → List Purpose → State → State
refreshes_timed_out family purposes s = unlisted (λ g. is_of family g && is_for_any purposes g) s

-- what was reserved long enough is free
abbrev pub set_free : AddressFamily → ℕ → State → State
set_free family now s = without_grants (λ g. is_of family g && is_over now g) s

-- all of this in an allocation that stays
abbrev pub expired_in : AddressFamily → Option ℕ → List Purpose → ℕ → State → State
expired_in family given purposes now s = in_sequence (
    failed_by_timeout family purposes is_pending_channel
    ∷ failed_by_timeout family purposes is_pending_permission
    ∷ last_channel_expired family now
    ∷ permissions_expired family now
    ∷ failed_by_timeout family purposes is_connect
    ∷ connections_unbound family purposes now
    ∷ offers_timed_out family given
    ∷ refreshes_timed_out family purposes
    ∷ set_free family now
    ∷ []
    ) s

-- an allocation that is removed takes all grants in it, and no event reports it
abbrev pub expired_allocation : Option ℕ → List Purpose → ℕ → State → Relay → State
expired_allocation given purposes now s a =
    if allocation_expires purposes now s a then without_grants (is_of (family_of a.relayed)) s
    else expired_in (family_of a.relayed) given purposes now s

-- all allocations, in the order in which the server granted them
abbrev pub expired_at : Option ℕ → ℕ → State → State
expired_at given now s = fold (expired_allocation given (timed_out_purposes given s) now) s (allocations s)

-- ---- the caller is to open a data connection

-- an offer of a family that was not reported to the caller
abbrev pub unreported_in : AddressFamily → Grant → Option DataOffer
unreported_in family (Offer offer) = if is_of_family family offer.peer && not offer.is_reported then Some offer else None
unreported_in family _ = None

-- the first of them
abbrev pub first_unreported : AddressFamily → State → Option DataOffer
first_unreported family s = first_in (unreported_in family) s

-- the one that is reported to the caller next, allocation by allocation
abbrev pub next_offer : State → Option DataOffer
next_offer s =
    if is_allocated s.phase then slice_get (filter_map (λ a. first_unreported (family_of a.relayed) s) (allocations s)) 0
    else None

abbrev pub as_reported : Grant → Grant
as_reported (Offer offer) = Offer (record offer { is_reported = true })
as_reported grant = grant

-- the first of a family is reported to the caller
abbrev pub first_reported : AddressFamily → List Grant → List Grant
first_reported family [] = []
first_reported family (g ∷ others) =
    if is_some (unreported_in family g) then as_reported g ∷ others else g ∷ first_reported family others

abbrev pub offer_step : DataOffer → State → TurnPollRet × State
offer_step offer s = (
  Do.AllocateTcpSocket offer.connection_id (record { transport = s.transport; from = s.local; to = s.remote }) offer.peer,
  record s { grants = first_reported (family_of offer.peer) s.grants },
)

-- ---- poll

abbrev pub is_listed_for_allocation : ℕ → State → Bool
is_listed_for_allocation id s = list_any is_for_allocation (purposes_of id s)

-- what the caller is to do: close a connection, or wait
abbrev pub answer_by : List SocketAddr → Phase → List Relay → Option ℕ → ℕ → State → TurnPollRet × State
answer_by (local ∷ others) _ _ given now s = (Do.TcpClose local s.remote, record s { closes = others })
answer_by [] Allocated [] given now s = (Do.Closed, s)
answer_by [] _ _ given now s = (Do.WaitUntil (next_wakeup (is_some given) now s), s)

abbrev pub answer_step : Option ℕ → ℕ → State → TurnPollRet × State
answer_step given now s = answer_by s.closes s.phase (allocations s) given now s

-- no response to the first ALLOCATE: the requested families fail
abbrev pub silent_step : State → TurnPollRet × State
silent_step s = (Do.Closed, closed (jump (map AllocationCreateFailed s.families) (without_families s)))

-- at most one transaction timed out
abbrev pub timed_step : Phase → Option ℕ → ℕ → State → TurnPollRet × State
timed_step New given now s = (Do.WaitUntil now, s)
timed_step Requesting None now s = answer_step None now s
timed_step Requesting (Some id) now s = silent_step s
timed_step Authenticating None now s = answer_step None now s
timed_step Authenticating (Some id) now s =
    answer_step (Some id) now (if is_listed_for_allocation id s then closed s else s)
timed_step Allocated given now s = answer_step given now (expired_at given now s)
timed_step Closed given now s = (Do.Closed, s)

abbrev pub timed_out_step : ℕ → State → TurnPollRet × State
timed_out_step now s =
    option_map_or (λ t. timed_step s.phase (Some t.id) now (transaction_ended t.id s)) (timed_out_transaction (agent_of s) now) (timed_step s.phase None now s)

-- what the caller is to do next: first to poll what is pending, and to open a data connection
abbrev pub poll_step : ℕ → State → TurnPollRet × State
poll_step now s =
    if has_event s || has_reply s then (Do.WaitUntil now, s)
    else option_map_or (λ offer. offer_step offer s) (next_offer s) (timed_out_step now s)
