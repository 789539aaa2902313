-- What goes to the server: the queued packets, and the outstanding requests.
use Rattle.std.specs.Prelude.{ℕ, Bool, true, false, List, [], ◌∷◌, ◌++◌, drop, fold, map, option_to_list, take, Option}
use Rattle.std.specs.declared.net.socket_addr.SocketAddr.{SocketAddr}
use Rattle.turn_stun.specs.declared.transport.Transmit.{Transmit}
use Rattle.turn_stun.specs.declared.transport.TransportType.{TransportType}
use Rattle.turn_agent.specs.Agent.{first_sent}
use Rattle.turn_agent.specs.Schedule.{Timers}
use Rattle.turn_agent.specs.TransactionIds.{Source, behind_id}
use Rattle.turn_agent.specs.declared.transaction.Transaction.{Transaction}
use Rattle.turn_client_api.specs.Queue.{without_request}
use Rattle.turn_client_api.specs.declared.state.Queued.{Queued}

pub record Outgoing : Type 0 where
  pub transport : TransportType
  pub local : SocketAddr
  pub remote : SocketAddr
  -- when requests are retransmitted and time out
  pub timers : Timers
  pub ids : Source
  pub transactions : List Transaction
  pub queue : List Queued
  -- how many more packets the queue has room for
  pub room : ℕ
  pub last_send : Option ℕ

-- the packet to the server from this local address
abbrev pub packet_of : Outgoing → SocketAddr → List ℕ → Transmit (List ℕ)
packet_of o from text = record { payload = text; transport = o.transport; from = from; to = o.remote }

-- a request with this ID was sent for the first time now, and is outstanding
abbrev pub begun : ℕ → List ℕ → ℕ → Outgoing → Outgoing
begun id text now o = record o { transactions = o.transactions ++ first_sent id o.remote now text ∷ [] }

-- a packet is queued as the last one
abbrev pub waiting : Transmit (List ℕ) → Bool → Outgoing → Outgoing
waiting packet is_request o = record o { queue = o.queue ++ record { packet = packet; is_request = is_request } ∷ [] }

-- a reply is queued for the control connection, if there is one
abbrev pub answering : Option (List ℕ) → Outgoing → Outgoing
answering reply o = record o {
  queue = o.queue ++ map (λ text. record { packet = packet_of o o.local text; is_request = false }) (option_to_list reply);
}

-- the next ID was used
abbrev pub outbox_id_used : Outgoing → Outgoing
outbox_id_used o = record o { ids = behind_id o.ids }

-- so many packets at the front are dropped, and their requests are no longer outstanding
abbrev pub without_front : ℕ → Outgoing → Outgoing
without_front count o = record o { queue = drop count o.queue; transactions = fold without_request o.transactions (take count o.queue) }

-- with another room in the queue
abbrev pub with_room : ℕ → Outgoing → Outgoing
with_room room o = record o { room = room }

-- a request with this ID, the next one, is queued, to be sent from this local address
abbrev pub request_queued : ℕ → SocketAddr → List ℕ → ℕ → Outgoing → Outgoing
request_queued id from text now o = waiting (packet_of o from text) true (outbox_id_used (begun id text now o))

-- the same after a reply over the control connection, if there is one
abbrev pub asked_over : Option (List ℕ) → ℕ → SocketAddr → List ℕ → ℕ → Outgoing → Outgoing
asked_over reply id local text now o = waiting (packet_of o local text) true (answering reply (outbox_id_used (begun id text now o)))
