-- What is active after a call was active before it, a `delete` ended it, or an input of the call granted
-- it.
use Rattle.turn_client_laws.proofs.Common.{◌≡◌, ◌⊎◌, ◌∙◌, ℕ, [], Ok, refl, subst, sym, ap, inl, inr, cases_Bool}
use Rattle.turn_client_laws.proofs.Machine.{State, Call, Delete, Grant, Allocation, Relay, delete_step, is_allocated, state_after}
use Rattle.turn_client_laws.proofs.Laws.{handled, IsEndedNow, IsGrantedIn, IsSameGrant, WasActive, IsDoneBy, TakesInput, leaves-grants, Covers, contains-has, covers-stood, has-contains, kept-stood}
use Rattle.turn_client_laws.proofs.Laws.{kept-trans, leaves-bring}
use Rattle.turn_client_runs.specs.Granted.{IsRelayed}
use Rattle.turn_client_runs.specs.Inputs.{IsAmong}
use Rattle.turn_client_runs.proofs.InputsOfRuns.{among-none, takes-or}
use Rattle.turn_client_runs.proofs.GrantInputs.{Granting, IsLeased, granting-brought, kept-alike}

-- ---- a `delete`

-- the call is a `delete`, which ended the allocation that was active
abbrev pub IsEndedBy : Call → State → Grant → Type 0
IsEndedBy call s g =
    (a : Relay) × (now : ℕ) × (g ≡ Allocation a) × (call ≡ Delete now) × (a.expiry ≡ now) × IsRelayed a.relayed s

ended-how : (call : Call) (s : State) (g : Grant) → IsEndedNow call s g → IsEndedBy call s g
ended-how (Delete now) s (Allocation a) (e, was) = (a, now, refl, refl, e, was)
ended-how call s g e = absurd e

pub same-allocation : (a b : Relay) → Allocation a ≡ Allocation b → a ≡ b
same-allocation a b e = cc

-- what is kept as the grant ended with it
ended-kept : (call : Call) (s : State) (is g : Grant) → IsSameGrant is g → IsEndedBy call s is → IsEndedBy call s g
ended-kept call s is g kept (a, now, what, how, ends, was) = elim (kept-alike is g kept) [
  | inl (b, c, named, to, e, f) ↦
      let same = same-allocation a b (sym what ∙ named) in
      let relayed : a.relayed ≡ c.relayed = ap (λ (x : Relay). x.relayed) same ∙ e in
      let expiry : a.expiry ≡ c.expiry = ap (λ (x : Relay). x.expiry) same ∙ f in
      (c, now, to, how, sym expiry ∙ ends, (was.0, was.1, was.2 ∙ relayed))
  | inr (inl e) ↦ (a, now, sym e ∙ what, how, ends, was)
  | inr (inr leased) ↦ absurd (subst IsLeased what leased.0)
]

-- ---- calls that process no input

pub quiet : (call : Call) (s : State) → (TakesInput call → ⊥) → handled call s ≡ []
quiet call s other = elim (takes-or call) [ inl takes ↦ absurd (other takes) | inr none ↦ none s ]

module _ (g : Grant) where
  pub quiet-grants : (call : Call) (s : State) → (TakesInput call → ⊥) → Covers (state_after call s).grants g → Covers s.grants g ⊎ IsEndedBy call s g
  quiet-grants call s other (is, there, kept) =
      elim (leaves-grants call s (state_after call s) is (inl refl) (has-contains is (state_after call s).grants there) (kept-stood is g kept)) [
        | inl (was, before, k) ↦ inl (was, contains-has was s.grants before, kept-trans was is g k kept)
        | inr (inl ended) ↦ inr (ended-kept call s is g kept (ended-how call s is ended))
        | inr (inr done) ↦ absurd (among-none (IsGrantedIn is) (subst (IsAmong (IsGrantedIn is)) (quiet call s other) done))
      ]

  -- why it is active after a call
  abbrev pub IsCaused : Call → State → Type 0
  IsCaused call s = IsEndedBy call s g ⊎ IsDoneBy (Granting g) call s

  pub call-causes : (call : Call) (s : State) → WasActive (state_after call s) g → WasActive s g ⊎ IsCaused call s
  call-causes call s (was, there, kept) =
      let covers : Covers (state_after call s).grants g = (was, contains-has was (state_after call s).grants there, kept) in
      let brought = leaves-bring (λ u. Covers u.grants g) (Granting g) (granting-brought g) (λ call s. IsEndedBy call s g) quiet-grants in
      elim (brought call s (state_after call s) (inl refl) covers) [
        | inl covers ↦ inl (covers-stood s g covers)
        | inr cause ↦ inr cause
      ]

-- a `delete` that is refused changes nothing
pub delete-accepted : (now : ℕ) (s : State) → ((delete_step now s).0 ≡ Ok tt) ⊎ ((delete_step now s).1 ≡ s)
delete-accepted now s = elim (cases_Bool (is_allocated s.phase)) [ inl e ↦ inl (rw e refl) | inr e ↦ inr (rw e refl) ]
