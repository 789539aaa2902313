-- A stream that takes no bytes.
use Rattle.std.proofs.Common.{◌≡◌, ℕ, true, List, ◌∷◌, Option, Some, None, refl, inl, inr}
use Rattle.turn_session_path.specs.FullStream.{full_since, since_received}
use Rattle.turn_session_path.specs.declared.path.Path.{Path}
use Rattle.turn_session_laws.specs.PathEnds.{IsFullSince}
use Rattle.turn_session_laws.specs.PathRuns.{IsSignAt, PathCall, is_still_full, path_after}
use Rattle.turn_session_laws.specs.PathRuns.PathCall.{Full}

abbrev pub IsFull : Path → Option ℕ → List PathCall → Type 0
IsFull first None before = Unit {0}
IsFull first (Some since) before = IsFullSince first since before

pub still-full : (first : Path) (since : Option ℕ) (call : PathCall) (before : List PathCall) → is_still_full call (path_after first before) ≡ true
    → IsFull first since before → IsFull first since (call ∷ before)
still-full first None call before still h = tt
still-full first (Some since) call before still h = inr (inr (still, h))

pub fills : (first : Path) (now : ℕ) (since : Option ℕ) (before : List PathCall)
    → IsFull first since before → IsFull first (full_since now since) (Full now ∷ before)
fills first now None before h = inl refl
fills first now (Some since) before h = inr (inr (refl, h))

pub sign-full : (first : Path) (now : ℕ) (since : Option ℕ) (call : PathCall) (before : List PathCall) → IsSignAt now call (path_after first before)
    → IsFull first since before → IsFull first (since_received now since) (call ∷ before)
sign-full first now None call before sign h = tt
sign-full first now (Some since) call before sign h = inr (inl (sign, since, h))
