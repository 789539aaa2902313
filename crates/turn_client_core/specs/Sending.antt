-- What is sent next, and which requests time out.
use Rattle.std.specs.Prelude.{ℕ, Bool, ◌&&◌, if◌then◌else◌, List, Option, Some, None, drop, filter_map, find, fold, slice_get, take}
use Rattle.std.specs.Option.{option_map_or}
use Rattle.turn_stun.specs.declared.transport.Transmit.{Transmit}
use Rattle.turn_agent.specs.Agent.{is_due, is_timed_out, resent, waits_begun, without_transaction}
use Rattle.turn_agent.specs.declared.transaction.Transaction.{Transaction}
use Rattle.turn_client_api.specs.Due.{is_paused}
use Rattle.turn_client_api.specs.State.{State}
use Rattle.turn_client_api.specs.declared.state.Queued.{Queued}
use Rattle.turn_client_api.specs.Queue.{without_request}
use Rattle.turn_client_api.specs.Transmit.{front_sent, id_in_header, queue_step, reply_in, reply_step, without_first_reply}
use Rattle.turn_client_core.specs.Outgoing.{Outgoing, packet_of}

-- the oldest request that is due is retransmitted, to the same destination
abbrev pub resend_step : ℕ → Outgoing → Option (Transmit (List ℕ)) × Outgoing
resend_step now o =
    option_map_or (λ t. (
      Some (record (packet_of o o.local t.request) { to = t.to }),
      record o { transactions = resent t.id now o.transactions; last_send = Some now },
    ))
    (find (is_due o.timers o.transport now) o.transactions) (None, o)

-- the first queued reply is sent, which does not extend the pause
abbrev pub first_reply_step : Outgoing → Option (Transmit (List ℕ)) × Outgoing
first_reply_step o = (slice_get (filter_map reply_in o.queue) 0, record o { queue = without_first_reply o.queue })

-- if requests wait from their first copies on, and that of a request is sent, its waits begin
abbrev pub begun_with : Bool → ℕ → Queued → Outgoing → List Transaction
begun_with timed_from_send now q o =
    if timed_from_send && q.is_request
    then option_map_or (λ id. waits_begun id now o.transactions) (id_in_header q.packet.payload) o.transactions else o.transactions

-- the first queued packet is sent
abbrev pub front_step : Bool → ℕ → Outgoing → Option (Transmit (List ℕ)) × Outgoing
front_step timed_from_send now o =
    option_map_or (λ q. (
      Some q.packet,
      record o { queue = drop 1 o.queue; transactions = begun_with timed_from_send now q o; last_send = Some now },
    ))
    (slice_get o.queue 0) (None, o)

-- the queued packet at this place is sent, and those before it are dropped with their requests
abbrev pub placed_step : ℕ → ℕ → State → Option (Transmit (List ℕ)) × State
placed_step place now s =
    let t = record s { queue = drop place s.queue; transactions = fold without_request s.transactions (take place s.queue) } in
    option_map_or (λ q. (Some q.packet, front_sent now q t)) (slice_get t.queue 0) (None, t)

-- the oldest request whose last wait has ended times out
abbrev pub give_up_step : ℕ → Outgoing → Option ℕ × Outgoing
give_up_step now o =
    option_map_or (λ t. (Some t.id, record o { transactions = without_transaction t.id o.transactions }))
    (find (is_timed_out o.timers o.transport now) o.transactions) (None, o)

-- if no retransmission is due: within the pause a reply alone, and else the next packet
abbrev pub waiting_step : ℕ → State → Option (Transmit (List ℕ)) × State
waiting_step now s = if is_paused now s then reply_step s else queue_step now s
