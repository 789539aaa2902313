-- Which events a step adds to those that wait.
use Rattle.turn_client_laws.proofs.Common.{◌≡◌, ◌⊎◌, List, [], ◌∷◌, ◌++◌, fold, reverse, refl, subst, sym, inl, inr}
use Rattle.turn_client_laws.proofs.Machine.{State, TurnEvent, Has, has-append, has-unreversed}

-- If the invariant holds before the step it holds after it, and then each event that waits after it waited
-- before it, or is reported by it.
module _ (Inv : State → Type 0) (Reported : TurnEvent → Type 0) where
  abbrev pub Adds : State → State → Type 0
  Adds s t = (e : TurnEvent) → Has e t.events → Has e s.events ⊎ Reported e

  abbrev pub AddsReported : State → State → Type 0
  AddsReported s t = Inv s → Inv t × Adds s t

  pub adds-none : (s t : State) → t.events ≡ s.events → Adds s t
  adds-none s t same e there = inl (subst (Has e) same there)

  pub adds-after : (s t : State) (events : List TurnEvent) → t.events ≡ s.events ++ events → ((e : TurnEvent) → Has e events → Reported e) → Adds s t
  adds-after s t events is each e there = elim (has-append e s.events events (subst (Has e) is there)) [ inl h ↦ inl h | inr h ↦ inr (each e h) ]

  pub adds-before : (s t : State) (events : List TurnEvent) → t.events ≡ reverse events ++ s.events → ((e : TurnEvent) → Has e events → Reported e) → Adds s t
  adds-before s t events is each e there =
      elim (has-append e (reverse events) s.events (subst (Has e) is there)) [ inl h ↦ inr (each e (has-unreversed e events h)) | inr h ↦ inl h ]

  pub reported-one : (x : TurnEvent) → Reported x → (e : TurnEvent) → Has e (x ∷ []) → Reported e
  reported-one x reported e (inl is) = subst Reported (sym is) reported
  reported-one x reported e (inr none) = absurd none

  pub adds-trans : (s t u : State) → Adds s t → Adds t u → Adds s u
  adds-trans s t u first second e there = elim (second e there) [ inl h ↦ first e h | inr reported ↦ inr reported ]

  pub reports-trans : (s t u : State) → AddsReported s t → AddsReported t u → AddsReported s u
  reports-trans s t u first second inv =
      let a = first inv in
      let b = second a.0 in
      (b.0, adds-trans s t u a.1 b.1)

  pub reports-same : (s : State) → AddsReported s s
  reports-same s inv = (inv, adds-none s s refl)

  pub reports-fold : {X : Type 0} (f : State → X → State) (xs : List X) → ((t : State) (x : X) → Has x xs → AddsReported t (f t x)) → (s : State) → AddsReported s (fold f s xs)
  reports-fold f [] each s = reports-same s
  reports-fold f (x ∷ xs) each s = reports-trans s (f s x) (fold f (f s x) xs) (each s x (inl refl)) (reports-fold f xs (λ t y there. each t y (inr there)) (f s x))
