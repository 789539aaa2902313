-- When requests leave that are timed from their first copies (RFC 8489, section 6.2.1).
use Rattle.std.specs.Prelude.{◌≡◌, ◌⊎◌, ◌^◌, ◌<◌, ◌≤◌, ℕ, true, List, ◌∷◌, ◌++◌, All, Some, filter_map}
use Rattle.std.specs.List.{Contains}
use Rattle.turn_stun.specs.Message.{id_of}
use Rattle.turn_stun.specs.declared.transport.Transmit.{Transmit}
use Rattle.turn_agent.specs.Agent.{timed_out_transaction}
use Rattle.turn_agent.specs.declared.transaction.Transaction.{Transaction}
use Rattle.turn_client_api.specs.State.{State, agent_of, later_by}
use Rattle.turn_client_api.specs.Steps.{state_after, state_after_all}
use Rattle.turn_client_api.specs.Calls.{delete_text}
use Rattle.turn_client_api.specs.Queue.{id_in_header, is_to_send}
use Rattle.turn_client_api.specs.Requests.{first_allocate, fresh_id, request_for}
use Rattle.turn_client_api.specs.Transmit.{idle_step, next_transmit, reply_in}
use Rattle.turn_client_api.specs.declared.grant.Purpose.{Purpose}
use Rattle.turn_client_api.specs.declared.state.Queued.{Queued}
use Rattle.turn_client_api.specs.declared.call.Call.{Call}
use Rattle.turn_client_api.specs.declared.call.Call.TheVariants.{Poll, PollTransmit}
use Rattle.turn_client_runs.specs.OnTime.{time_of}

-- The bytes of each request that a client makes hold its transaction ID in their header (section 5), by which the client tells
-- whether a queued one has ended. No message carries an ID of 2^96 or more.
abbrev pub RequestsAreNamed : Type 0
RequestsAreNamed =
    (s : State) (id : ℕ) → id < 2 ^ 96
    → ((purpose : Purpose) → id_in_header (request_for s purpose id) ≡ Some id)
    × (id_in_header (first_allocate s id) ≡ Some id) × (fresh_id s ≡ id → id_in_header (delete_text s) ≡ Some id)

-- the packet is a queued reply to a request of the server, which waits for no pause
abbrev pub IsReply : Transmit (List ℕ) → State → Type 0
IsReply packet s = Contains (filter_map reply_in s.queue) packet

-- the bytes are those of an outstanding request with this transaction ID
abbrev pub IsRequestUnder : ℕ → List ℕ → State → Type 0
IsRequestUnder id bytes s = (x : Transaction) × Contains s.transactions x × (x.id ≡ id) × (x.request ≡ bytes)

-- One of these calls gave a copy of the request with this transaction ID: the ID stands in its header, or its bytes are those of
-- the request with this ID that is outstanding then.
pub record HasLeft (id : ℕ) (first : State) (calls : List Call) : Type 0 where
  pub earlier : List Call
  pub now : ℕ
  pub later : List Call
  pub split : calls ≡ earlier ++ PollTransmit now ∷ later
  pub copy : Transmit (List ℕ)
  pub given : next_transmit now (state_after_all first earlier) ≡ Some copy
  pub carries : (id_of copy.payload ≡ id)
      ⊎ IsRequestUnder id copy.payload (state_after (PollTransmit now) (state_after_all first earlier))

-- the packet retransmits an outstanding request, of which these calls gave a copy
abbrev pub IsSentAgain : Transmit (List ℕ) → State → List Call → Type 0
IsSentAgain packet first calls =
    (x : Transaction) × Contains (state_after_all first calls).transactions x × (packet.payload ≡ x.request) × HasLeft x.id first calls

-- The pause after each packet that these calls gave is over at this time, unless a call after it was made at an earlier time.
-- Replies are left out: within a pause they do not begin another.
abbrev pub IsApart : ℕ → State → List Call → Type 0
IsApart now first calls =
    (earlier : List Call) (then : ℕ) (between : List Call) (other : Transmit (List ℕ)) → calls ≡ earlier ++ PollTransmit then ∷ between
    → All (λ call. then ≤ time_of then call) between
    → let s = state_after_all first earlier in
    next_transmit then s ≡ Some other → (IsReply other s → ⊥)
    → later_by first.config.request_cadence then ≤ now

-- The packet is a queued request that awaits its response, and something is left that it was made for; or the client makes it
-- now.
abbrev pub IsToLeave : ℕ → Transmit (List ℕ) → State → Type 0
IsToLeave now packet s =
    ((q : Queued) × Contains s.queue q × (q.packet ≡ packet) × (is_to_send s q ≡ true)) ⊎ ((idle_step s.phase now s).0 ≡ Some packet)

-- Each packet of `poll_transmit` is a reply, or a copy of a request of which one was given; or the pause before it is over, and
-- it is no request that has ended.
abbrev pub RequestsLeaveInTurn : State → List Call → Type 0
RequestsLeaveInTurn first calls =
    (earlier : List Call) (now : ℕ) (later : List Call) (packet : Transmit (List ℕ)) → calls ≡ earlier ++ PollTransmit now ∷ later → now ≤ 2 ^ 62
    → let s = state_after_all first earlier in
    next_transmit now s ≡ Some packet → IsReply packet s ⊎ (IsSentAgain packet first earlier ⊎ (IsApart now first earlier × IsToLeave now packet s))

-- No request times out of which no copy was given.
abbrev pub TimesOutOnceSent : State → List Call → Type 0
TimesOutOnceSent first calls =
    (earlier : List Call) (now : ℕ) (later : List Call) (x : Transaction) → calls ≡ earlier ++ Poll now ∷ later → now ≤ 2 ^ 62
    → timed_out_transaction (agent_of (state_after_all first earlier)) now ≡ Some x → HasLeft x.id first earlier

-- So it is of a client whose requests are timed so.
abbrev pub RequestsArePaced : State → List Call → Type 0
RequestsArePaced first calls = first.config.timed_from_send ≡ true → RequestsLeaveInTurn first calls × TimesOutOnceSent first calls
