-- What the caller reports of its socket.
use Rattle.std.specs.Prelude.{ℕ, if◌then◌else◌}
use Rattle.turn_session_book.specs.declared.tags.Tag.{Tag}
use Rattle.turn_session_client.specs.Ending.{after_socket_error, is_open}
use Rattle.turn_session_path.specs.Path as Path
use Rattle.turn_session.specs.Checking.{told_path}
use Rattle.turn_session.specs.SessionState.{SessionState, with_noted, with_watch}

-- an error makes one doubt the path of an open session too
abbrev pub path_failed : Tag → ℕ → SessionState → SessionState
path_failed tag now s = let t = told_path s in with_watch (record t.watch { path = Path.after_failure tag now t.watch.path }) t

abbrev pub after_failure : Tag → ℕ → SessionState → SessionState
after_failure tag now s =
    let t = if is_open s.noted.life.phase then path_failed tag now s else s in
    with_noted (after_socket_error tag now t.noted) t

abbrev pub after_full : ℕ → SessionState → SessionState
after_full now s = let t = told_path s in with_watch (record t.watch { path = Path.after_full now t.watch.path }) t

abbrev pub after_room : SessionState → SessionState
after_room s = let t = told_path s in with_watch (record t.watch { path = Path.after_room t.watch.path }) t
