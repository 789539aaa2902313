-- Which queued packets are still to be sent.
use Rattle.std.specs.Prelude.{ℕ, ◌==◌, Bool, false, not, ◌&&◌, ◌||◌, if◌then◌else◌, List, drop, fold, take, Option, Some, None, is_none, is_some, slice_get}
use Rattle.std.specs.List.{list_any, position_or_len}
use Rattle.std.specs.Option.{option_map_or}
use Rattle.turn_stun.specs.Message.{header_fault_of, id_of}
use Rattle.turn_agent.specs.Agent.{is_outstanding, without_transaction}
use Rattle.turn_agent.specs.declared.transaction.Transaction.{Transaction}
use Rattle.turn_client_api.specs.State.{State, Queued}
use Rattle.turn_client_api.specs.Grants.{allocations, is_listed}
use Rattle.turn_client_api.specs.Judgement.{method_in}
use Rattle.turn_client_api.specs.Requests.{refresh_method}

-- the ID of a message with this header
abbrev pub id_in_header : List ℕ → Option ℕ
id_in_header bytes = if is_none (header_fault_of bytes) then Some (id_of bytes) else None

-- Something is left that the request with this ID and these bytes was made for. A REFRESH is for all allocations (RFC 8656,
-- section 8), and the response to an earlier one unlists it.
abbrev pub is_needed : ℕ → List ℕ → State → Bool
is_needed id request s =
    is_listed id s || (method_in request == refresh_method && is_some (slice_get (allocations s) 0))

-- If requests wait from their first copies on, a queued one ends once it awaits no response, or nothing is left that it was made
-- for, as when its allocation has expired. It is not sent then (our choice).
abbrev pub has_ended : State → Queued → Bool
has_ended s q =
    s.config.timed_from_send && (q.is_request
    && option_map_or (λ id. not (is_outstanding id s.transactions && is_needed id q.packet.payload s)) (id_in_header q.packet.payload) false)

-- a request that is still to be sent
abbrev pub is_to_send : State → Queued → Bool
is_to_send s q = not (has_ended s q) && q.is_request

abbrev pub has_request_to_send : State → Bool
has_request_to_send s = list_any (is_to_send s) s.queue

-- how many packets at the front have ended
abbrev pub ended_count : State → ℕ
ended_count s = position_or_len (λ q. not (has_ended s q)) s.queue

-- the request of a queued packet is no longer outstanding
abbrev pub without_request : List Transaction → Queued → List Transaction
without_request transactions q = option_map_or (λ id. without_transaction id transactions) (id_in_header q.packet.payload) transactions

-- the requests at the front that have ended are dropped
abbrev pub settled : State → State
settled s = record s {
  queue = drop (ended_count s) s.queue;
  transactions = fold without_request s.transactions (take (ended_count s) s.queue);
}
