-- What a session does with the doubts of its allocation, one call after the other.
use Rattle.std.specs.Prelude.{◌≡◌, ℕ, Bool, true, false, not, ◌&&◌, List, [], ◌∷◌, Option}
use Rattle.turn_session_book.specs.declared.replies.ErrorReply.{ErrorReply}
use Rattle.turn_session_path.specs.Suspicion.{is_forgotten}
use Rattle.turn_session_life.specs.Doubts.{after_asking, after_doubt, after_move, after_response, after_told}
use Rattle.turn_session_life.specs.Doubts.{code_of, doubts_step, no_doubts}
use Rattle.turn_session_life.specs.Heard.{has_code, is_challenge}
use Rattle.turn_session_life.specs.declared.doubts.Asking.{Asking}
use Rattle.turn_session_life.specs.declared.doubts.Doubts.{Doubts}
use Rattle.turn_session_life.specs.declared.responses.Response.{Response}
use Rattle.turn_session_life.specs.declared.responses.Said.{Said}
use Rattle.turn_session_life.specs.declared.responses.Said.TheVariants.{Granted, Denied, Nothing}

pub data DoubtCall : Type 0 where
  -- the path makes one doubt, or the server sees another address
  Doubted : DoubtCall
  Moved : DoubtCall
  -- a response to a request of the client is received
  Responded : Response → ℕ → DoubtCall
  -- the client was asked for the request that checks the allocation
  Asked : Asking → DoubtCall
  -- the server has answered that, by this error or by a grant
  Told : Option ErrorReply → ℕ → DoubtCall
  Polled : ℕ → DoubtCall

abbrev pub step : DoubtCall → Doubts → Doubts
step Doubted d = after_doubt d
step Moved d = after_move d
step (Responded r now) d = after_response r now d
step (Asked asking) d = after_asking asking d
step (Told error now) d = after_told error now d
step (Polled now) d = (doubts_step now d).1

-- the doubts of a new session after these calls, of which the latest is the first
abbrev pub doubts_after : Bool → List DoubtCall → Doubts
doubts_after checks [] = no_doubts checks
doubts_after checks (call ∷ before) = step call (doubts_after checks before)

-- ---- what a call is

-- a server that knows the allocation has answered a check
abbrev pub is_known : DoubtCall → Bool
is_known (Told error now) = not (is_forgotten (code_of error))
is_known _ = false

-- the response has a signature that the client has accepted, and is no challenge
abbrev pub is_signed_in : Said → Bool
is_signed_in (Granted lifetime) = true
is_signed_in (Denied e) = e.is_taken && not (is_challenge e)
is_signed_in Nothing = false

abbrev pub is_signed : DoubtCall → Bool
is_signed (Responded r now) = is_signed_in r.said
is_signed _ = false

-- a 401 that nobody signed, at this time
abbrev pub is_refusal_in : Said → Bool
is_refusal_in (Denied e) = not e.is_taken && has_code 401 e
is_refusal_in _ = false

abbrev pub IsRefusalAt : ℕ → DoubtCall → Type 0
IsRefusalAt time (Responded r now) = (is_refusal_in r.said ≡ true) × (now ≡ time)
IsRefusalAt time _ = ⊥
