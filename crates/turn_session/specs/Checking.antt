-- Checks of the path that the caller asks for.
use Rattle.std.specs.Prelude.{ℕ, ◌+◌, ◌%◌, ◌==◌, ◌^◌, if◌then◌else◌, List, Option, Some, None, Result, Ok, Err}
use Rattle.std.specs.declared.net.socket_addr.SocketAddr.{SocketAddr}
use Rattle.turn_stun.specs.declared.transport.Transmit.{Transmit}
use Rattle.turn_stun.specs.declared.transport.TransportType.{TransportType}
use Rattle.turn_stun.specs.declared.transport.TransportType.TheVariants.{Udp, Tcp}
use Rattle.turn_client_api.specs.declared.error.SendError.{SendError}
use Rattle.turn_session_book.specs.declared.answers.Answer.{Answer}
use Rattle.turn_session_book.specs.declared.answers.Answer.TheVariants.{Ticket, Refused, Ended}
use Rattle.turn_session_book.specs.declared.answers.CallError.TheVariants.{NoAllocation}
use Rattle.turn_session_book.specs.declared.causes.Why.{Why}
use Rattle.turn_session_client.specs.Ending.{is_open}
use Rattle.turn_session_client.specs.NotedState.{NotedState}
use Rattle.turn_session_life.specs.Life.{cause_in}
use Rattle.turn_session_life.specs.Watch.{shared_ticket, watched_check}
use Rattle.turn_session_path.specs.Path.{after_sending}
use Rattle.turn_session_path.specs.PathResponses.{after_received}
use Rattle.turn_session.specs.SessionState.{SessionState, with_noted, with_watch}
use Rattle.turn_session.specs.Uses.{used_peer}

-- the next ticket is used by a check that begins, and not by one that shares another's
abbrev pub next_after : ℕ → ℕ → ℕ
next_after given ticket = if given == ticket then (ticket + 1) % 2 ^ 32 else ticket

abbrev pub checks_now : ℕ → SessionState → Answer × SessionState
checks_now now s =
    let given = shared_ticket s.next_check s.watch in
    (Ticket given, record (with_watch (watched_check s.next_check now s.watch) s) { next_check = next_after given s.next_check })

-- of a session that is not open nothing is checked
abbrev pub unchecked : Option Why → Answer
unchecked None = Refused NoAllocation
unchecked (Some why) = Ended why

abbrev pub checked_step : ℕ → SessionState → Answer × SessionState
checked_step now s = if is_open s.noted.life.phase then checks_now now s else (unchecked (cause_in s.noted.life.phase), s)

-- ---- what was received

-- the path learns when something was received last
abbrev pub told_path : SessionState → SessionState
told_path s = by s.received
  where
    by : Option ℕ → SessionState
    by None = s
    by (Some at) = record (with_watch (record s.watch { path = after_received at s.watch.path }) s) { received = None }

-- ---- what is sent

-- over a stream, data that is sent delays responses
abbrev pub response_delayed : ℕ → SessionState → SessionState
response_delayed now s = by s.watch.path.transport
  where
    by : TransportType → SessionState
    by Udp = s
    by Tcp = with_watch (record s.watch { path = after_sending now s.watch.path }) s

-- and it is a use of the peer
abbrev pub data_sent : SocketAddr → ℕ → SessionState → SessionState
data_sent to now s = used_peer to now (response_delayed now s)

-- what the client refuses to send is neither
abbrev pub sent_after : SocketAddr → ℕ → Result (Transmit (List ℕ)) SendError × NotedState → SessionState → SessionState
sent_after to now (Ok packet, noted) s = data_sent to now (with_noted noted s)
sent_after to now (Err refusal, noted) s = with_noted noted s
