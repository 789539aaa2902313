-- What a session does with its path, one call after the other.
use Rattle.std.specs.Prelude.{◌≡◌, ℕ, Bool, true, false, not, List, [], ◌∷◌, Option, None}
use Rattle.turn_session_book.specs.declared.tags.Tag.{Tag}
use Rattle.turn_session_path.specs.Path.{after_check, after_failure, after_full, after_probing, after_room, after_sending}
use Rattle.turn_session_path.specs.PathPoll.{path_step}
use Rattle.turn_session_path.specs.PathResponses.{after_received, respond_step}
use Rattle.turn_session_path.specs.declared.path.Path.{Path}
use Rattle.turn_session_path.specs.declared.path.PathResponse.{PathResponse}
use Rattle.turn_session_path.specs.declared.path.PathResponse.TheVariants.{Other}

pub data PathCall : Type 0 where
  -- something is received that the client does not ignore
  Received : ℕ → PathCall
  -- a response with this ID is received
  Responded : ℕ → ℕ → PathCall
  -- the socket reports an error
  Failed : Tag → ℕ → PathCall
  -- the stream takes no bytes, and then some again
  Full : ℕ → PathCall
  Room : PathCall
  -- data is sent over it
  Sent : ℕ → PathCall
  -- the caller asks for a check under this ticket, and no longer awaits it
  Checked : ℕ → ℕ → PathCall
  GivenUp : PathCall
  -- the session opens
  Probed : Option ℕ → ℕ → PathCall
  Polled : ℕ → PathCall

abbrev pub step : PathCall → Path → Path
step (Received now) p = after_received now p
step (Responded id now) p = (respond_step id now p).1
step (Failed tag now) p = after_failure tag now p
step (Full now) p = after_full now p
step Room p = after_room p
step (Sent now) p = after_sending now p
step (Checked ticket now) p = after_check ticket now p
step GivenUp p = record p { check = None }
step (Probed every now) p = after_probing every now p
step (Polled now) p = (path_step now p).1

-- the path after these calls, of which the latest is the first
abbrev pub path_after : Path → List PathCall → Path
path_after first [] = first
path_after first (call ∷ before) = step call (path_after first before)

-- ---- what a call is

-- the server has answered a request of the path
abbrev pub is_answer : PathResponse → Bool
is_answer Other = false
is_answer _ = true

-- nothing is received
abbrev pub is_quiet : PathCall → Path → Bool
is_quiet (Received now) p = false
is_quiet (Responded id now) p = not (is_answer (respond_step id now p).0)
is_quiet _ p = true

abbrev pub IsError : PathCall → Type 0
IsError (Failed tag now) = Unit {0}
IsError _ = ⊥

-- something is received at this time
abbrev pub IsSignAt : ℕ → PathCall → Path → Type 0
IsSignAt time (Received now) p = now ≡ time
IsSignAt time (Responded id now) p = (is_answer (respond_step id now p).0 ≡ true) × (now ≡ time)
IsSignAt time _ p = ⊥

-- a stream that was full still is, and nothing is received
abbrev pub is_still_full : PathCall → Path → Bool
is_still_full Room p = false
is_still_full call p = is_quiet call p
