-- Packets for the server.
use Rattle.std.specs.Prelude.{◌≡◌, ◌⊎◌, ℕ, Bool, true, List, Option, Some, None}
use Rattle.turn_stun.specs.declared.transport.Transmit.{Transmit}
use Rattle.turn_client_api.specs.Effect.{closed}
use Rattle.turn_client_api.specs.State.{State}
use Rattle.turn_session_book.specs.declared.causes.Why.TheVariants.{OutOfMemory}
use Rattle.turn_session_client.specs.Ending.{ended, is_open}
use Rattle.turn_session_client.specs.NotedState.{NotedState}
use Rattle.turn_session_client.specs.Polling.{transmitted}
use Rattle.turn_session_life.specs.declared.watch.OwnRequest.{OwnRequest}
use Rattle.turn_session.specs.Counting.{counted}
use Rattle.turn_session.specs.PathMessages.{request_bytes}
use Rattle.turn_session.specs.SessionState.{SessionState, with_counts, with_noted, with_watch}

abbrev pub own_packet : OwnRequest → State → Transmit (List ℕ)
own_packet r client =
    record { payload = request_bytes r; transport = client.transport; from = client.local; to = client.remote }

-- a request of the path is sent while the session is open, to the server, as the client's are
abbrev pub own_step : SessionState → Option (Transmit (List ℕ)) × SessionState
own_step s = by (is_open s.noted.life.phase) s.watch.outbox
  where
    by : Bool → Option OwnRequest → Option (Transmit (List ℕ)) × SessionState
    by true (Some r) = (Some (own_packet r s.noted.client), with_watch (record s.watch { outbox = None }) s)
    by _ _ = (None, s)

-- those of the client come first, and its requests are counted
abbrev pub or_own : ℕ → SessionState → Option (Transmit (List ℕ)) × NotedState → Option (Transmit (List ℕ)) × SessionState
or_own now s (Some packet, noted) = (Some packet, with_counts (counted packet.payload now noted.client s.counts) (with_noted noted s))
or_own now s (None, noted) = own_step (with_noted noted s)

abbrev pub transmit_step : ℕ → SessionState → Option (Transmit (List ℕ)) × SessionState
transmit_step now s = or_own now s (transmitted now s.noted)

-- ---- without memory

-- the client has ended, and the session with it; or it has nothing to send, and a request of the path is still to be sent
abbrev pub EndsUnsent : ℕ → SessionState → SessionState → Type 0
EndsUnsent now was s =
    (s ≡ with_noted (ended OutOfMemory (record was.noted { client = closed was.noted.client })) was)
    ⊎ (((transmitted now was.noted).0 ≡ None) × (s ≡ with_noted (transmitted now was.noted).1 was))
