-- What the doubts of an allocation end by.
use Rattle.std.specs.Prelude.{◌≡◌, ◌⊎◌, ℕ, zero, suc, ◌≤◌, Bool, false, List, [], ◌∷◌}
use Rattle.turn_session_book.specs.declared.causes.Why.{Why}
use Rattle.turn_session_book.specs.declared.causes.Why.TheVariants.{CredentialsRefused, Unanswered}
use Rattle.turn_session_life.specs.Doubts.{doubts_step}
use Rattle.turn_session_life.specs.declared.doubts.DoubtsStep.TheVariants.{Ask, End}
use Rattle.turn_session_laws.specs.PathEnds.{after}
use Rattle.turn_session_laws.specs.DoubtRuns.{DoubtCall, IsRefusalAt, is_known, is_signed, doubts_after}
use Rattle.turn_session_laws.specs.DoubtRuns.DoubtCall.{Polled}

-- a check of the allocation begins at this time
abbrev pub Begins : Bool → ℕ → DoubtCall → List DoubtCall → Type 0
Begins checks time call before = (call ≡ Polled time) × ((doubts_step time (doubts_after checks before)).0 ≡ Ask)

-- One began at this time, and so many before it, each 3 s before the next or longer, and none was answered by a server that knows
-- the allocation.
abbrev pub AreUnanswered : Bool → ℕ → ℕ → List DoubtCall → Type 0
AreUnanswered checks n began [] = ⊥
AreUnanswered checks zero began (call ∷ before) =
    ((is_known call ≡ false) × AreUnanswered checks zero began before) ⊎ Begins checks began call before
AreUnanswered checks (suc n) began (call ∷ before) =
    ((is_known call ≡ false) × AreUnanswered checks (suc n) began before)
    ⊎ (Begins checks began call before
    × (earlier : ℕ) × (after 3_000_000_000 earlier ≤ began) × AreUnanswered checks n earlier before)

-- a 401 that nobody signed came at this time, and so many before it, and nothing signed since the first
abbrev pub AreRefusals : ℕ → ℕ → List DoubtCall → Type 0
AreRefusals n at [] = ⊥
AreRefusals zero at (call ∷ before) = (is_signed call ≡ false) × (AreRefusals zero at before ⊎ IsRefusalAt at call)
AreRefusals (suc n) at (call ∷ before) =
    (is_signed call ≡ false)
    × (AreRefusals (suc n) at before ⊎ (IsRefusalAt at call × (earlier : ℕ) × AreRefusals n earlier before))

-- doubts that are polled at this time: three checks in a row were not answered for 3 s each, or a second 401 was followed by
-- nothing signed for 1 s
abbrev pub DoubtsEndBy : Bool → Why → ℕ → List DoubtCall → Type 0
DoubtsEndBy checks (Unanswered n) now before =
    (n ≡ 3) × (began : ℕ) × (after 3_000_000_000 began ≤ now) × AreUnanswered checks 2 began before
DoubtsEndBy checks CredentialsRefused now before = (at : ℕ) × (after 1_000_000_000 at ≤ now) × AreRefusals 1 at before
DoubtsEndBy checks _ now before = ⊥

-- whatever was called before
abbrev pub DoubtsEndByCauses : Type 0
DoubtsEndByCauses = (checks : Bool) (now : ℕ) (before : List DoubtCall) (why : Why)
    → (doubts_step now (doubts_after checks before)).0 ≡ End why → DoubtsEndBy checks why now before
