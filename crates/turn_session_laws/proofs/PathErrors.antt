-- Errors of the socket in a row.
use Rattle.std.proofs.Common.{◌≡◌, ℕ, zero, suc, ◌+◌, ◌*◌, ◌≤◌, Bool, true, false, List, [], ◌∷◌, Option, Some, None, refl, ap, subst, inl, inr, arith, ltb}
use Rattle.std.proofs.lemmas.Bool.{cases_Bool, ltb-false, ltb-true}
use Rattle.turn_session_book.specs.declared.tags.Tag.{Tag}
use Rattle.turn_session_path.specs.SocketErrors.{after_error, second_after}
use Rattle.turn_session_path.specs.declared.path.Path.{Path}
use Rattle.turn_session_path.specs.declared.socket_errors.ErrorRun.{ErrorRun}
use Rattle.turn_session_laws.specs.PathEnds.{AreErrors, after}
use Rattle.turn_session_laws.specs.PathRuns.{PathCall, is_quiet, path_after}
use Rattle.turn_session_laws.specs.PathRuns.PathCall.{Failed}

-- ---- fewer errors

-- without the latest
one-less : (first : Path) (n : ℕ) (tag : Tag) (at : ℕ) (before : List PathCall) → AreErrors first (suc n) tag at before → AreErrors first n tag at before
one-less first n tag at [] h = absurd h
one-less first zero tag at (call ∷ before) (quiet, inl x) = (quiet, inl (one-less first zero tag at before x))
one-less first zero tag at (call ∷ before) (quiet, inr x) = (quiet, inl x.1)
one-less first (suc n) tag at (call ∷ before) (quiet, inl x) = (quiet, inl (one-less first (suc n) tag at before x))
one-less first (suc n) tag at (call ∷ before) (quiet, inr x) = (quiet, inl x.1)

pub fewer : (first : Path) (m n : ℕ) (tag : Tag) (at : ℕ) (before : List PathCall) → n ≤ m → AreErrors first m tag at before → AreErrors first n tag at before
fewer first zero n tag at before le h = let same : zero ≡ n = omega arith in subst (λ (k : ℕ). AreErrors first k tag at before) same h
fewer first (suc m) n tag at before le h = elim (cases_Bool (ltb m n)) [
  | inl above ↦ let same : suc m ≡ n = let more = ltb-true m n above in omega arith in subst (λ (k : ℕ). AreErrors first k tag at before) same h
  | inr below ↦ fewer first m n tag at before (ltb-false m n below) (one-less first m tag at before h)
]

-- ---- a call in which nothing was received

pub goes-on : (first : Path) (n : ℕ) (tag : Tag) (at : ℕ) (call : PathCall) (before : List PathCall) → is_quiet call (path_after first before) ≡ true
    → AreErrors first n tag at before → AreErrors first n tag at (call ∷ before)
goes-on first zero tag at call before quiet h = (quiet, inl h)
goes-on first (suc n) tag at call before quiet h = (quiet, inl h)

-- ---- the errors that a path follows

abbrev pub counted : Bool → ℕ
counted true = 1
counted false = 0

-- the seconds before this one had an error each, and each began a second after the one before or later
abbrev pub Errors : Path → Option ErrorRun → List PathCall → Type 0
Errors first None before = Unit {0}
Errors first (Some run) before =
    (at : ℕ) × (after ((run.seconds + 1) * 1_000_000_000) at ≤ run.until) × AreErrors first (run.seconds + counted run.is_again) run.tag at before

pub errors-go_on : (first : Path) (run : Option ErrorRun) (call : PathCall) (before : List PathCall) → is_quiet call (path_after first before) ≡ true
    → Errors first run before → Errors first run (call ∷ before)
errors-go_on first None call before quiet h = tt
errors-go_on first (Some run) call before quiet h =
    (h.0, h.1, goes-on first (run.seconds + counted run.is_again) run.tag h.0 call before quiet h.2)

-- ---- a further error

-- one that is noted in its second counts, and others of the same second do not
again : (first : Path) (n : ℕ) (is_again : Bool) (tag other : Tag) (at now : ℕ) (before : List PathCall)
    → AreErrors first (n + counted is_again) tag at before → AreErrors first (n + 1) tag at (Failed other now ∷ before)
again first n true tag other at now before h = goes-on first (n + 1) tag at (Failed other now) before refl h
again first n false tag other at now before h =
    let same : suc n ≡ n + 1 = omega arith in
    let less : n + counted false ≡ n = omega arith in
    let was : AreErrors first n tag at before = subst (λ (k : ℕ). AreErrors first k tag at before) less h in
    subst (λ (k : ℕ). AreErrors first k tag at (Failed other now ∷ before)) same (refl, inr (tt, was))

pub failed : (first : Path) (tag : Tag) (now : ℕ) (run : Option ErrorRun) (before : List PathCall)
    → Errors first run before → Errors first (after_error tag now run) (Failed tag now ∷ before)
failed first tag now None before h = (now, omega arith, (refl, inr refl))
failed first tag now (Some run) before h = (h.0, h.1, again first run.seconds run.is_again run.tag tag h.0 now before h.2)

-- ---- the next second

-- a second with a further error is over
pub next-second : (first : Path) (now : ℕ) (run : ErrorRun) (before : List PathCall) → run.until ≤ now → run.is_again ≡ true
    → Errors first (Some run) before → Errors first (Some (record run { seconds = run.seconds + 1; until = second_after now; is_again = false })) before
next-second first now run before over is h =
    let same : run.seconds + counted run.is_again ≡ run.seconds + 1 + 0 = let one : counted run.is_again ≡ 1 = ap counted is in omega arith in
    (h.0, (let since = h.1 in omega arith), subst (λ (k : ℕ). AreErrors first k run.tag h.0 before) same h.2)

-- and three were
pub third-second : (first : Path) (now : ℕ) (run : ErrorRun) (before : List PathCall) → run.until ≤ now → run.is_again ≡ true → 2 ≤ run.seconds
    → Errors first (Some run) before → (at : ℕ) × (after 3_000_000_000 at ≤ now) × AreErrors first 3 run.tag at before
third-second first now run before over is two h =
    let three : 3 ≤ run.seconds + counted run.is_again = let one : counted run.is_again ≡ 1 = ap counted is in omega arith in
    (h.0, (let since = h.1 in omega arith), fewer first (run.seconds + counted run.is_again) 3 run.tag h.0 before three h.2)
