-- Each cause is reported once (RFC 8656, sections 7 to 12; RFC 6062, sections 4.3 and 4.4): an event answers a
-- request of the caller or an attempt of the server, and none is answered by two events that say the same.
use Rattle.std.specs.Prelude.{◌≡◌, ◌==◌, ◌+◌, ◌≤◌, ℕ, nat_lt, Bool, true, false, not, ◌&&◌, if◌then◌else◌, List, [], ◌∷◌, length, filter, is_some, ⊤}
use Rattle.std.specs.List.{list_any}
use Rattle.std.specs.Net.Socket.{socket_ip}
use Rattle.std.specs.Option.{option_map_or}
use Rattle.std.specs.declared.net.socket_addr.SocketAddr.{SocketAddr}
use Rattle.turn_types.specs.declared.family.AddressFamily.{AddressFamily}
use Rattle.turn_agent.specs.Agent.{same_address}
use Rattle.turn_client_api.specs.Answers.{event_step}
use Rattle.turn_client_api.specs.Calls.{is_in_progress}
use Rattle.turn_client_api.specs.Config.{is_family_list, same_family}
use Rattle.turn_client_api.specs.Grants.{family_of, is_of_family, same_ip}
use Rattle.turn_client_api.specs.Judgement.{method_in, peer_in}
use Rattle.turn_client_api.specs.Requests.{connection_attempt_method}
use Rattle.turn_client_api.specs.State.{State}
use Rattle.turn_client_api.specs.Steps.{state_after, state_after_all}
use Rattle.turn_client_api.specs.declared.call.Call.{Call}
use Rattle.turn_client_api.specs.declared.call.Call.TheVariants.{BindChannel, CreatePermission, PollEvent, TcpConnect}
use Rattle.turn_client_api.specs.declared.event.TurnEvent.{TurnEvent}
use Rattle.turn_client_api.specs.declared.event.TurnEvent.TheVariants.{AllocationCreated, AllocationCreateFailed, PermissionCreated}
use Rattle.turn_client_api.specs.declared.event.TurnEvent.TheVariants.{PermissionCreateFailed, ChannelCreated, ChannelCreateFailed}
use Rattle.turn_client_api.specs.declared.event.TurnEvent.TheVariants.{TcpConnected, TcpConnectFailed}
use Rattle.turn_client_api.specs.declared.grant.Grant.{Grant}
use Rattle.turn_client_api.specs.declared.grant.Grant.TheVariants.{Permission, Channel, Connect, Offer, Connection}
use Rattle.turn_client_api.specs.declared.grant.Progress.TheVariants.{Pending}
use Rattle.turn_client_laws.specs.Handled.{Input, handled, processed}
use Rattle.turn_client_runs.specs.Promises.{InEachPart}

-- so many pass the test
abbrev pub count : {X : Type 0} → (X → Bool) → List X → ℕ
count passes xs = length (filter passes xs)

-- ---- one event

-- Both tell the same of the same grant: of a permission or a channel that it was created, or that it failed.
-- Of an allocation both are one answer: a requested family gets an address, or fails. So are both of a data
-- connection: it is bound to its peer, or fails.
abbrev pub is_like : TurnEvent → TurnEvent → Bool
is_like (AllocationCreated over a) (AllocationCreated transport b) = is_of_family (family_of a) b
is_like (AllocationCreated over a) (AllocationCreateFailed family) = same_family (family_of a) family
is_like (AllocationCreateFailed family) (AllocationCreated transport b) = is_of_family family b
is_like (AllocationCreateFailed family) (AllocationCreateFailed other) = same_family family other
is_like (PermissionCreated over ip) (PermissionCreated transport other) = same_ip other ip
is_like (PermissionCreateFailed over ip) (PermissionCreateFailed transport other) = same_ip other ip
is_like (ChannelCreated over peer) (ChannelCreated transport other) = same_address other peer
is_like (ChannelCreateFailed over peer) (ChannelCreateFailed transport other) = same_address other peer
is_like (TcpConnected peer) (TcpConnected other) = same_address other peer
is_like (TcpConnected peer) (TcpConnectFailed other) = same_address other peer
is_like (TcpConnectFailed peer) (TcpConnected other) = same_address other peer
is_like (TcpConnectFailed peer) (TcpConnectFailed other) = same_address other peer
is_like _ _ = false

-- the family is still requested that the event answers
abbrev pub is_awaited_by : TurnEvent → AddressFamily → Bool
is_awaited_by (AllocationCreated over a) family = same_family (family_of a) family
is_awaited_by (AllocationCreateFailed other) family = same_family other family
is_awaited_by _ family = false

-- a data connection to the peer is requested, offered to the caller, or opened
abbrev pub is_connection : SocketAddr → Grant → Bool
is_connection peer (Connect other) = same_address other peer
is_connection peer (Offer offer) = same_address offer.peer peer
is_connection peer (Connection c) = same_address c.peer peer
is_connection peer grant = false

-- and it is not bound yet: a bound one has no deadline
abbrev pub is_connection_to_come : SocketAddr → Grant → Bool
is_connection_to_come peer (Connect other) = same_address other peer
is_connection_to_come peer (Offer offer) = same_address offer.peer peer
is_connection_to_come peer (Connection c) = is_some c.deadline && same_address c.peer peer
is_connection_to_come peer grant = false

-- such a grant exists: a permission, a channel that is not reserved, or a data connection
abbrev pub is_about : TurnEvent → Grant → Bool
is_about (PermissionCreated over ip) (Permission other progress) = same_ip other ip
is_about (PermissionCreateFailed over ip) (Permission other progress) = same_ip other ip
is_about (ChannelCreated over peer) (Channel number other progress) = is_in_progress progress && same_address other peer
is_about (ChannelCreateFailed over peer) (Channel number other progress) = is_in_progress progress && same_address other peer
is_about (TcpConnected peer) grant = is_connection peer grant
is_about (TcpConnectFailed peer) grant = is_connection peer grant
is_about _ grant = false

-- The event may still come: a pending grant is created or fails, and an active one fails when it is lost. No event
-- tells that a bound data connection was lost.
abbrev pub is_to_come : TurnEvent → Grant → Bool
is_to_come (PermissionCreated over ip) (Permission other (Pending is_kept)) = same_ip other ip
is_to_come (ChannelCreated over peer) (Channel number other (Pending is_kept)) = same_address other peer
is_to_come (PermissionCreateFailed over ip) (Permission other progress) = same_ip other ip
is_to_come (ChannelCreateFailed over peer) (Channel number other progress) = is_in_progress progress && same_address other peer
is_to_come (TcpConnected peer) grant = is_connection_to_come peer grant
is_to_come (TcpConnectFailed peer) grant = is_connection_to_come peer grant
is_to_come _ grant = false

-- so many events like this one wait, or may still come
abbrev pub due_of : TurnEvent → State → ℕ
due_of event s = count (is_like event) s.events + count (is_to_come event) s.grants + count (is_awaited_by event) s.families

-- ---- one call

-- the call is a request for the grant of the event
abbrev pub is_request_for : TurnEvent → Call → Bool
is_request_for (PermissionCreated over ip) (CreatePermission transport other now) = same_ip other ip
is_request_for (PermissionCreated over ip) (BindChannel transport peer now) = same_ip (socket_ip peer) ip
is_request_for (PermissionCreateFailed over ip) (CreatePermission transport other now) = same_ip other ip
is_request_for (PermissionCreateFailed over ip) (BindChannel transport peer now) = same_ip (socket_ip peer) ip
is_request_for (ChannelCreated over peer) (BindChannel transport other now) = same_address other peer
is_request_for (ChannelCreateFailed over peer) (BindChannel transport other now) = same_address other peer
is_request_for (TcpConnected peer) (TcpConnect other now) = same_address other peer
is_request_for (TcpConnectFailed peer) (TcpConnect other now) = same_address other peer
is_request_for _ call = false

-- the caller requests the grant anew, and the client accepts it: none existed before the call
abbrev pub is_new_request : TurnEvent → Call → State → Bool
is_new_request event call s =
    is_request_for event call && not (list_any (is_about event) s.grants) && list_any (is_to_come event) (state_after call s).grants

abbrev pub requested_by : TurnEvent → Call → State → ℕ
requested_by event call s = if is_new_request event call s then 1 else 0

-- The input is a ConnectionAttempt of the server for this peer, and the client accepts it: it has an offer more
-- after it (RFC 6062, section 4.4).
abbrev pub is_attempt_of : SocketAddr → Input → Bool
is_attempt_of peer one =
    (method_in one.bytes == connection_attempt_method) && option_map_or (λ from. same_address from peer) (peer_in one.bytes) false
    && nat_lt (length one.before.grants) (length (processed one).1.grants)

-- so many of these inputs are, if the event is of a data connection
abbrev pub attempts_in : TurnEvent → List Input → ℕ
attempts_in (TcpConnected peer) inputs = count (is_attempt_of peer) inputs
attempts_in (TcpConnectFailed peer) inputs = count (is_attempt_of peer) inputs
attempts_in event inputs = 0

-- by the caller's request or the server's attempts so many events like this one may come
abbrev pub caused_by : TurnEvent → Call → State → ℕ
caused_by event call s = requested_by event call s + attempts_in event (handled call s)

-- the call returns an event like this one
abbrev pub reported_by : TurnEvent → Call → State → ℕ
reported_by event PollEvent s = option_map_or (λ reported. if is_like event reported then 1 else 0) (event_step s).0 0
reported_by event call s = 0

-- ---- calls that follow each other

-- so often the client is called so
abbrev pub in_calls : (Call → State → ℕ) → State → List Call → ℕ
in_calls number s [] = 0
in_calls number s (call ∷ calls) = number call s + in_calls number (state_after call s) calls

-- The events like this one that these calls return, and those that wait or may still come after them, are
-- not more than waited or might come before, and one for each new request and each attempt among the calls. A new
-- request finds no such grant.
abbrev pub IsReportedOnce : TurnEvent → State → List Call → Type 0
IsReportedOnce event s calls =
    in_calls (reported_by event) s calls + due_of event (state_after_all s calls) ≤ due_of event s + in_calls (caused_by event) s calls

-- the event is of a permission, a channel or a data connection
abbrev pub IsOfGrant : TurnEvent → Type 0
IsOfGrant (PermissionCreated over ip) = ⊤
IsOfGrant (PermissionCreateFailed over ip) = ⊤
IsOfGrant (ChannelCreated over peer) = ⊤
IsOfGrant (ChannelCreateFailed over peer) = ⊤
IsOfGrant (TcpConnected peer) = ⊤
IsOfGrant (TcpConnectFailed peer) = ⊤
IsOfGrant _ = ⊥

-- If no such grant exists before the first of these calls, and it is caused only once among them, then at most
-- one event more tells that it was created, and at most one that it failed; of a data connection at most one
-- tells either. So between two that tell that it was created, it was lost.
abbrev pub IsReportedOncePerRequest : TurnEvent → State → List Call → Type 0
IsReportedOncePerRequest event s calls =
    IsOfGrant event → list_any (is_about event) s.grants ≡ false → in_calls (caused_by event) s calls ≤ 1
    → in_calls (reported_by event) s calls + count (is_like event) (state_after_all s calls).events ≤ count (is_like event) s.events + 1

-- so it is in each part of a run of a client that is configured with each family once at most
abbrev pub CausesAreReportedOnce : State → List Call → Type 0
CausesAreReportedOnce first calls =
    is_family_list first.config.address_families ≡ true
    → InEachPart (λ s middle. (event : TurnEvent) → IsReportedOnce event s middle × IsReportedOncePerRequest event s middle) first calls
