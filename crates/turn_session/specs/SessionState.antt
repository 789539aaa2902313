-- A session: its client with what is noted of it, the checks of the path, the stream to the server, and the uses of peers.
use Rattle.std.specs.Prelude.{◌≡◌, ℕ, Bool, false, List, [], Option, None}
use Rattle.std.specs.Duration.{as_nanos}
use Rattle.turn_types.specs.Streams.{Stream, framed}
use Rattle.turn_client_api.specs.State.{State}
use Rattle.turn_session_counts.specs.Counts.{CountsState, no_requests}
use Rattle.turn_session_client.specs.NotedState.{NotedState, new_noted}
use Rattle.turn_session_idle.specs.IdlePeers.{no_peers}
use Rattle.turn_session_idle.specs.IdleState.{IdleState}
use Rattle.turn_session_life.specs.Watch.{watching}
use Rattle.turn_session_life.specs.declared.watch.Watch.{Watch}
use Rattle.turn_session.specs.Settings.{time_nanos}
use Rattle.turn_session.specs.declared.settings.SessionSettings.{SessionSettings}

pub record SessionState : Type 0 where
  -- the client, its requests and grants, and how far the session has come
  pub noted : NotedState
  -- what was received over a stream to the server, and is not passed to the client yet
  pub frames : Stream
  -- the path to the server
  pub watch : Watch
  -- the time between two probes of it
  pub probe : Option ℕ
  -- whether it is probed, since the session is open
  pub is_watching : Bool
  -- when something was received that the path was not told of
  pub received : Option ℕ
  -- the ticket of the next check of the caller
  pub next_check : ℕ
  -- the requests that were sent, in numbers
  pub counts : CountsState
  -- when the peers were used last
  pub idle : IdleState

abbrev pub new_session : SessionSettings → List ℕ → ℕ → State → SessionState
new_session settings seed now client = record {
  noted = new_noted settings.checks_allocation (as_nanos settings.leave_wait) now client;
  frames = framed [];
  watch = watching client.transport None (record { seed = seed; place = 0 }) now;
  probe = time_nanos settings.probe;
  is_watching = false;
  received = None;
  next_check = 1;
  counts = no_requests;
  idle = no_peers (time_nanos settings.idle) now;
}

abbrev pub with_noted : NotedState → SessionState → SessionState
with_noted noted s = record s { noted = noted }

abbrev pub with_frames : Stream → SessionState → SessionState
with_frames frames s = record s { frames = frames }

abbrev pub with_watch : Watch → SessionState → SessionState
with_watch watch s = record s { watch = watch }

abbrev pub with_counts : CountsState → SessionState → SessionState
with_counts counts s = record s { counts = counts }

abbrev pub with_idle : IdleState → SessionState → SessionState
with_idle idle s = record s { idle = idle }

-- nothing but its client has changed, and what is noted of that
abbrev pub NotesAlone : SessionState → SessionState → Type 0
NotesAlone was s = s ≡ with_noted s.noted was
