-- Laws of data: what peers send and receive is the client's.
use Rattle.std.specs.Prelude.{◌≡◌, ℕ, true, false, List}
use Rattle.std.specs.declared.net.socket_addr.SocketAddr.{SocketAddr}
use Rattle.turn_stun.specs.declared.transport.TransportType.{TransportType}
use Rattle.turn_client_api.specs.Calls.{send_to_step}
use Rattle.turn_client_api.specs.Receive.{recv_step}
use Rattle.turn_session_client.specs.Answering.{is_channel_data}
use Rattle.turn_session_client.specs.Drain.{drained}
use Rattle.turn_session_client.specs.Ending.{is_over}
use Rattle.turn_session_client.specs.NotedState.{NotedState}
use Rattle.turn_session_client.specs.Receiving.{is_taken}
use Rattle.turn_session_client.specs.Sending.{sent_step}
use Rattle.turn_session_life.specs.Life.{is_running}
use Rattle.turn_session.specs.Receiving.{Receives, outcome_after, with_sign}
use Rattle.turn_session.specs.SessionState.{SessionState, with_noted}

-- the session before its end
pub record DataIsTheClients : Type 0 where
  -- a packet for a peer
  pub sent : (transport : TransportType) (peer : SocketAddr) (bytes : List ℕ) (now : ℕ) (s : NotedState) → is_over s.life.phase ≡ false
      → let step = send_to_step transport peer bytes now s.client in sent_step transport peer bytes now s ≡ (step.0, record s { client = step.1 })
  -- what ChannelData of a peer is answered
  pub answered : (transport : TransportType) (from to : SocketAddr) (bytes : List ℕ) (now : ℕ) (s : SessionState) → is_channel_data bytes ≡ true
      → is_over s.noted.life.phase ≡ false → outcome_after transport from to bytes now s ≡ (recv_step transport from to bytes now s.noted.client).0
  -- it changes the client and when something was received last, and nothing that is noted; over a stream a message may follow it
  pub received : (transport : TransportType) (from to : SocketAddr) (bytes : List ℕ) (now : ℕ) (was s : SessionState) → is_channel_data bytes ≡ true
      → is_running was.noted.life.phase ≡ true → is_taken (recv_step transport from to bytes now was.noted.client).0 ≡ false
      → Receives transport from to bytes now was s → let step = recv_step transport from to bytes now was.noted.client in
      (s ≡ with_sign step.0 now (with_noted s.noted was)) × (drained now s.noted ≡ drained now (record was.noted { client = step.1 }))
