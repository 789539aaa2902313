-- A use of the peer that was used last.
use Rattle.std.proofs.Common.{◌≡◌, ◌∙◌, ℕ, Bool, true, false, List, [], ◌∷◌, map, Option, Some, None, ap, refl, subst, sym}
use Rattle.std.specs.Option.{option_eq}
use Rattle.turn_session_book.proofs.KeyLemmas.{same_key-true}
use Rattle.turn_session_book.specs.Keys.{same_key}
use Rattle.turn_session_book.specs.declared.keys.Key.{Key}
use Rattle.turn_session_idle.specs.IdlePeers.{after_use}
use Rattle.turn_session_idle.specs.IdleState.{IdleState}
use Rattle.turn_session_idle.specs.Usage.{is_used_with, phase_used, used_with}
use Rattle.turn_session_idle.specs.Used.{after_last_use}
use Rattle.turn_session_idle.specs.declared.usage.Usage.{Usage}
use Rattle.turn_session_idle.specs.declared.usage.UsePhase.{UsePhase}
use Rattle.turn_session_idle.specs.declared.usage.UsePhase.TheVariants.{InUse, Idle, Released, UsedAgain}

-- ---- the second of two uses counts

phase-twice : (p : UsePhase) → phase_used (phase_used p) ≡ phase_used p
phase-twice InUse = refl
phase-twice Idle = refl
phase-twice Released = refl
phase-twice UsedAgain = refl

used-twice : (key : Key) (at now : ℕ) (u : Usage) → used_with key now (used_with key at u) ≡ used_with key now u
used-twice key at now u = by (is_used_with key u) refl
  where
    by : (b : Bool) → is_used_with key u ≡ b → used_with key now (used_with key at u) ≡ used_with key now u
    by true e = rw (e, e) (ap (λ (p : UsePhase). record u { last = now; phase = p }) (phase-twice u.phase))
    by false e = rw (e, e) refl

all-twice : (key : Key) (at now : ℕ) (us : List Usage) → map (used_with key now) (map (used_with key at) us) ≡ map (used_with key now) us
all-twice key at now [] = refl
all-twice key at now (u ∷ us) =
    ap (λ (x : Usage). x ∷ map (used_with key now) (map (used_with key at) us)) (used-twice key at now u)
    ∙ ap (λ (later : List Usage). used_with key now u ∷ later) (all-twice key at now us)

abbrev with_idle : Option ℕ → IdleState → IdleState
with_idle idle s = record s { idle = idle }

same-twice : (key : Key) (at now : ℕ) (s : IdleState) (idle : Option ℕ)
    → after_use key now (after_use key at (with_idle idle s)) ≡ after_use key now (with_idle idle s)
same-twice key at now s None = refl
same-twice key at now s (Some idle) =
    ap (λ (us : List Usage). record s { idle = Some idle; usages = us }) (all-twice key at now s.usages)

again : (last key : Key) (at now : ℕ) (s : IdleState) → same_key last key ≡ true
    → after_use key now (after_use last at s) ≡ after_use key now s
again last key at now s same =
    subst (λ (k : Key). after_use key now (after_use k at s) ≡ after_use key now s) (sym (same_key-true last key same)) (same-twice key at now s s.idle)

pub again-last : (last : Option Key) (at : ℕ) (key : Key) (now : ℕ) (s : IdleState) → option_eq same_key last (Some key) ≡ true
    → after_last_use last now s ≡ after_use key now (after_last_use last at s)
again-last None at key now s same = cc
again-last (Some last) at key now s same =
    ap (λ (k : Key). after_use k now s) (same_key-true last key same) ∙ sym (again last key at now s same)

-- ---- a use leaves the time after which a peer is idle

use-keeps : (key : Key) (at : ℕ) (s : IdleState) (idle : Option ℕ) → (after_use key at (with_idle idle s)).idle ≡ idle
use-keeps key at s None = refl
use-keeps key at s (Some idle) = refl

pub last_keeps : (last : Option Key) (at : ℕ) (s : IdleState) → (after_last_use last at s).idle ≡ s.idle
last_keeps None at s = refl
last_keeps (Some key) at s = use-keeps key at s s.idle
