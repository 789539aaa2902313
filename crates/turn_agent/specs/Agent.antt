-- The requests of an agent that await their responses (RFC 8489, section 6).
use Rattle.std.specs.Prelude.{◌≡◌, ℕ, ◌+◌, ◌-◌, ◌^◌, ◌<◌, min, nat_le, nat_lt, not, ◌==◌, ◌&&◌, ◌||◌, if◌then◌else◌, Bool, true, false, List, [], ◌∷◌, ◌++◌}
use Rattle.std.specs.Prelude.{length, map, filter, find, fold, Option, Some, None, option_map, slice_get, ◌≤◌, IsSome}
use Rattle.std.specs.List.{list_any}
use Rattle.std.specs.Cmp.Lexicographic.{pointwise}
use Rattle.std.specs.declared.net.socket_addr.SocketAddr.{SocketAddr}
use Rattle.std.specs.declared.net.socket_addr.SocketAddr.TheVariants.{V4, V6}
use Rattle.std.specs.Net.Addr.{ipv4_octets, ipv6_segments}
use Rattle.std.specs.Net.Socket.{v4_ip, v4_port, v6_ip, v6_port, v6_flowinfo, v6_scope_id}
use Rattle.turn_stun.specs.declared.message.header.MessageClass.{MessageClass}
use Rattle.turn_stun.specs.declared.message.header.MessageClass.TheVariants.{Request, Indication, Success, Error}
use Rattle.turn_stun.specs.declared.transport.TransportType.{TransportType}
use Rattle.turn_stun.specs.declared.transport.Transmit.{Transmit}
use Rattle.turn_stun.specs.Message.{type_of, id_of}
use Rattle.turn_stun.specs.MessageType.{class_of}
use Rattle.turn_agent.specs.Schedule.{Timers, resends_of, wait_at}
use Rattle.turn_agent.specs.declared.agent.StunAgentPollRet.{StunAgentPollRet}
use Rattle.turn_agent.specs.declared.agent.StunAgentPollRet.TheVariants.{WaitUntil, TransactionTimedOut}
use Rattle.turn_agent.specs.declared.search.Progress.{Progress}
use Rattle.turn_agent.specs.declared.search.Progress.TheVariants.{Over, Waiting, Idle}
use Rattle.turn_agent.specs.declared.transaction.Transaction.{Transaction}

-- an agent as contracts describe it; its transactions are in the order of their first sends
pub record Agent : Type 0 where
  pub transport : TransportType
  pub local : SocketAddr
  pub remote : Option SocketAddr
  pub timers : Timers
  pub transactions : List Transaction

-- a transaction whose request was just sent
abbrev pub first_sent : ℕ → SocketAddr → ℕ → List ℕ → Transaction
first_sent id to now request = record { id = id; to = to; resends = 0; last_send = now; request = request }

-- the transaction after its request was retransmitted at this time
abbrev pub sent_again : ℕ → Transaction → Transaction
sent_again now t = record t { resends = t.resends + 1; last_send = now }

-- the transaction whose waits begin at this time
abbrev pub waiting_from : ℕ → Transaction → Transaction
waiting_from time t = record t { last_send = time }

-- when the wait after its last send ends; the greatest time is 2^63 - 1
abbrev pub transaction_timeout : Timers → TransportType → Transaction → ℕ
transaction_timeout timers transport t = min (t.last_send + wait_at timers transport t.resends) (2 ^ 63 - 1)

-- that wait has ended, and the request is to be retransmitted
abbrev pub is_due : Timers → TransportType → ℕ → Transaction → Bool
is_due timers transport now t =
    nat_lt t.resends (resends_of timers transport) && nat_le (transaction_timeout timers transport t) now

-- that wait has ended, and it was the last one
abbrev pub is_timed_out : Timers → TransportType → ℕ → Transaction → Bool
is_timed_out timers transport now t =
    nat_le (resends_of timers transport) t.resends && nat_le (transaction_timeout timers transport t) now

-- whether a request with this ID awaits its response
abbrev pub is_outstanding : ℕ → List Transaction → Bool
is_outstanding id transactions = list_any (λ t. t.id == id) transactions

-- how often the request with this ID was retransmitted, if it awaits its response
abbrev pub resends_made : ℕ → List Transaction → Option ℕ
resends_made id transactions = option_map (λ t. t.resends) (find (λ t. t.id == id) transactions)

-- no two have the same ID
abbrev pub AreDistinct : List Transaction → Type 0
AreDistinct [] = Unit {0}
AreDistinct (t ∷ others) = (is_outstanding t.id others ≡ false) × AreDistinct others

-- the transactions but for the one with this ID
abbrev pub without_transaction : ℕ → List Transaction → List Transaction
without_transaction id transactions = filter (λ t. not (t.id == id)) transactions

-- the transactions after the request with this ID was retransmitted at this time
abbrev pub resent : ℕ → ℕ → List Transaction → List Transaction
resent id now transactions = map (λ t. if t.id == id then sent_again now t else t) transactions

-- the transactions after the waits of the request with this ID began at this time
abbrev pub waits_begun : ℕ → ℕ → List Transaction → List Transaction
waits_begun id time transactions = map (λ t. if t.id == id then waiting_from time t else t) transactions

-- the two addresses are equal: IP, port and, for IPv6, flow information and scope
abbrev pub same_address : SocketAddr → SocketAddr → Bool
same_address (V4 a) (V4 b) =
    pointwise ◌==◌ (ipv4_octets (v4_ip a)) (ipv4_octets (v4_ip b)) && (v4_port a == v4_port b)
same_address (V6 a) (V6 b) =
    pointwise ◌==◌ (ipv6_segments (v6_ip a)) (ipv6_segments (v6_ip b)) && (v6_port a == v6_port b)
    && (v6_flowinfo a == v6_flowinfo b) && (v6_scope_id a == v6_scope_id b)
same_address (V4 a) (V6 b) = false
same_address (V6 a) (V4 b) = false

-- ---- the calls

-- a request is sent for the first time
abbrev pub request_sent : Agent → ℕ → SocketAddr → ℕ → List ℕ → Agent
request_sent a id to now request =
    record a { transactions = a.transactions ++ first_sent id to now request ∷ [] }

-- the transaction whose request is retransmitted next: the oldest one that is due
abbrev pub due : Agent → ℕ → Option Transaction
due a now = find (is_due a.timers a.transport now) a.transactions

-- the transaction that times out next: the oldest one whose last wait has ended
abbrev pub timed_out_transaction : Agent → ℕ → Option Transaction
timed_out_transaction a now = find (is_timed_out a.timers a.transport now) a.transactions

-- the earliest time at which a wait ends, or 9999 s from now if nothing is outstanding (our
-- choice)
abbrev pub next_timeout : Agent → ℕ → ℕ
next_timeout a now =
    if length a.transactions == 0 then min (now + 9_999_000_000_000) (2 ^ 63 - 1)
    else fold min (2 ^ 63 - 1) (map (transaction_timeout a.timers a.transport) a.transactions)

-- the earlier of this time and the earliest time at which a wait ends
abbrev pub earliest : Agent → ℕ → ℕ
earliest a time = fold min time (map (transaction_timeout a.timers a.transport) a.transactions)

-- the agent after the waits of the request with this ID began at this time
abbrev pub transaction_begun : ℕ → ℕ → Agent → Agent
transaction_begun id time a = record a { transactions = waits_begun id time a.transactions }

-- the agent without the transaction with this ID
abbrev pub transaction_removed : ℕ → Agent → Agent
transaction_removed id a = record a { transactions = without_transaction id a.transactions }

-- the result of `poll`, and the agent after it
abbrev pub agent_poll_step : Agent → ℕ → StunAgentPollRet × Agent
agent_poll_step a now = by (timed_out_transaction a now)
  where
    by : Option Transaction → StunAgentPollRet × Agent
    by None = (WaitUntil (next_timeout a now), a)
    by (Some t) = (TransactionTimedOut t.id, record a { transactions = without_transaction t.id a.transactions })

-- the result of `poll_transmit`, and the agent after it
abbrev pub agent_transmit_step : Agent → ℕ → Option (Transmit (List ℕ)) × Agent
agent_transmit_step a now = by (due a now)
  where
    by : Option Transaction → Option (Transmit (List ℕ)) × Agent
    by None = (None, a)
    by (Some t) = (
      Some (record { payload = t.request; transport = a.transport; from = a.local; to = t.to }),
      record a { transactions = resent t.id now a.transactions },
    )

-- a response with this ID from this address answers the transaction
abbrev pub answers : ℕ → SocketAddr → Transaction → Bool
answers id from t = t.id == id && same_address t.to from

-- a message of this class answers a request
abbrev pub is_response : MessageClass → Bool
is_response Request = false
is_response Indication = false
is_response Success = true
is_response Error = true

-- a message of this class with this ID, from this address, ends a transaction
abbrev pub ends_one : List Transaction → MessageClass → ℕ → SocketAddr → Bool
ends_one transactions class id from = is_response class && list_any (answers id from) transactions

-- the result of `handle_stun_message`, and the agent after it: all messages but responses are
-- accepted
abbrev pub handle_step : Agent → List ℕ → SocketAddr → Bool × Agent
handle_step a message from =
    let class = class_of (type_of message) in
    let transaction_removed = ends_one a.transactions class (id_of message) from in (
      not (is_response class) || transaction_removed,
      record a { transactions = if transaction_removed then without_transaction (id_of message) a.transactions else a.transactions },
    )

-- ---- the returned time

-- at this time nothing is retransmitted and nothing times out
pub record IsSilentAt (a : Agent) (time : ℕ) : Type 0 where
  pub sends_nothing : (agent_transmit_step a time).0 ≡ None
  pub gives_nothing_up : timed_out_transaction a time ≡ None

-- nothing is due before the time that `poll` returns
abbrev pub IsSilentUntil : StunAgentPollRet → Agent → Type 0
IsSilentUntil (WaitUntil t) a = (time : ℕ) → time < t → IsSilentAt a time
IsSilentUntil (TransactionTimedOut id) a = Unit {0}

-- if the returned time is not later than now, a request is due, so a caller that sends what is due
-- does not call for nothing; at the greatest time this may fail, since no later one can be returned
abbrev pub HasRequestDue : StunAgentPollRet → Agent → ℕ → Type 0
HasRequestDue (WaitUntil t) a now = t ≤ now → now < 2 ^ 63 - 1 → IsSome (due a now)
HasRequestDue (TransactionTimedOut id) a now = Unit {0}

-- a transaction that timed out is no longer outstanding
abbrev pub IsEnded : StunAgentPollRet → Agent → Type 0
IsEnded (WaitUntil t) a = Unit {0}
IsEnded (TransactionTimedOut id) a = is_outstanding id a.transactions ≡ false

-- ---- one pass over the transactions

-- their progress: the place of the oldest one whose last wait has ended, or else the earliest time at
-- which a wait ends
abbrev pub IsProgress : Timers → TransportType → ℕ → List Transaction → Progress → Type 0
IsProgress timers transport now ts (Over place) =
    (place < length ts) × (find (is_timed_out timers transport now) ts ≡ slice_get ts place)
IsProgress timers transport now ts (Waiting time) =
    (find (is_timed_out timers transport now) ts ≡ None) × (0 < length ts)
    × (time ≡ fold min (2 ^ 63 - 1) (map (transaction_timeout timers transport) ts))
IsProgress timers transport now ts Idle = ts ≡ []

-- ---- the time that is kept

-- it is the earliest time at which a wait ends, if it is known
abbrev pub IsSoonest : Timers → TransportType → List Transaction → Option ℕ → Type 0
IsSoonest timers transport ts None = Unit {0}
IsSoonest timers transport ts (Some time) =
    (0 < length ts) × (time ≡ fold min (2 ^ 63 - 1) (map (transaction_timeout timers transport) ts))

-- it is that time, and in the future
abbrev pub IsQuietUntil : Agent → ℕ → ℕ → Type 0
IsQuietUntil a now time = (now < time) × IsSoonest a.timers a.transport a.transactions (Some time)

-- ---- what is kept beside the transactions

-- the set has the IDs of the transactions, and no other
abbrev pub AreIdsOf : List Transaction → (ℕ → Bool) → Type 0
AreIdsOf ts has = (id : ℕ) → has id ≡ is_outstanding id ts
