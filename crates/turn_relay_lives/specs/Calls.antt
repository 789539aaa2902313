-- Calls of a session.
use Rattle.std.specs.Prelude.{◌≡◌, ℕ, List, slice_get, slice_set, Some}
use Rattle.turn_session.specs.SessionState.{SessionState}
use Rattle.turn_relay_lives.specs.LiveState.{LiveState}

-- a session that was called may have something to do
abbrev pub called_as : SessionState → LiveState → LiveState
called_as s l = record l { due = 0; session = s }

abbrev pub called : (SessionState → SessionState) → LiveState → LiveState
called call l = called_as (call l.session) l

-- the session at this place was called
abbrev pub CallsAt : ℕ → (SessionState → SessionState → Type 0) → List LiveState → List LiveState → Type 0
CallsAt place call was lives =
    (l : LiveState) × (slice_get was place ≡ Some l) × (s : SessionState) × call l.session s × (lives ≡ slice_set was place (called_as s l))
