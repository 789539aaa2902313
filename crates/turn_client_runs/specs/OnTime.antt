-- A caller that sends what is due, and a server that answers.
use Rattle.std.specs.Prelude.{◌≡◌, ℕ, ◌+◌, ◌^◌, ◌<◌, ◌≤◌, true, List, [], ◌∷◌, None, All}
use Rattle.turn_stun.specs.declared.transport.Transmit.{Transmit}
use Rattle.turn_agent.specs.Agent.{same_address}
use Rattle.turn_client_api.specs.Payloads.{is_message}
use Rattle.turn_client_api.specs.Receive.{is_from_server}
use Rattle.turn_client_api.specs.State.{State}
use Rattle.turn_client_api.specs.Transmit.{next_transmit}
use Rattle.turn_client_api.specs.declared.call.Call.{Call}
use Rattle.turn_client_api.specs.declared.call.Call.TheVariants.{Delete, CreatePermission, BindChannel, TcpConnect, AllocatedTcpSocket, TcpClosed, SendTo}
use Rattle.turn_client_api.specs.declared.call.Call.TheVariants.{Recv, PollRecv, Poll, PollTransmit}

-- when the call is made; some are not told the time, and are made at that of the call before
abbrev pub time_of : ℕ → Call → ℕ
time_of before (Delete now) = now
time_of before (CreatePermission transport peer now) = now
time_of before (BindChannel transport peer now) = now
time_of before (TcpConnect peer now) = now
time_of before (AllocatedTcpSocket id tuple peer local now) = now
time_of before (TcpClosed local remote now) = now
time_of before (SendTo transport peer bytes now) = now
time_of before (Recv packet now) = now
time_of before (PollRecv now) = now
time_of before (Poll now) = now
time_of before (PollTransmit now) = now
time_of before _ = before

-- the time of the last call
abbrev pub time_of_all : ℕ → List Call → ℕ
time_of_all before [] = before
time_of_all before (call ∷ calls) = time_of_all (time_of before call) calls

-- Since the call before this one, the client had no packet to send that the caller did not take. A caller that
-- takes all packets, and calls again at the time that `poll` returned, is on time (`runs_miss_no_deadline`).
pub record IsOnTime (before now : ℕ) (s : State) : Type 0 where
  pub later : before ≤ now
  pub in_range : now ≤ 2 ^ 62
  pub punctual : (time : ℕ) → before ≤ time → time < now → next_transmit time s ≡ None

-- the caller is on time, and no request awaits its reply for longer than the delay
pub record IsInTime (delay before now : ℕ) (s : State) : Type 0 where
  pub on_time : IsOnTime before now s
  pub answered : All (λ x. now ≤ x.last_send + delay) s.transactions

-- a whole message of the server, to the client
pub record IsFromServer (packet : Transmit (List ℕ)) (s : State) : Type 0 where
  pub from_server : is_from_server packet.transport packet.from s ≡ true
  pub to_client : same_address packet.to s.local ≡ true
  pub whole : is_message packet.payload ≡ true
