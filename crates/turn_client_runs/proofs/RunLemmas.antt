-- What holds after a run held from the first on, or one of its calls caused it, and it holds since.
use Rattle.turn_client_laws.proofs.Common.{◌≡◌, ◌⊎◌, List, [], ◌∷◌, ◌++◌, refl, ap, inl, inr}
use Rattle.turn_client_laws.proofs.Machine.{State, state_after, state_after_all, Call}
use Rattle.turn_client_runs.specs.Granted.{HoldsThrough}

-- one of these calls did it, and the claim holds after it and after each later one
pub record IsDoneLast (Did : Call → State → Type 0) (P : State → Type 0) (calls : List Call) (first : State) : Type 0 where
  pub earlier : List Call
  pub call : Call
  pub later : List Call
  pub split : calls ≡ earlier ++ call ∷ later
  pub did : Did call (state_after_all first earlier)
  pub holds : HoldsThrough P later (state_after call (state_after_all first earlier))

module _ (P : State → Type 0) (Did : Call → State → Type 0) (Inv : State → Type 0) (kept : (call : Call) (s : State) → Inv s → Inv (state_after call s)) (each : (call : Call) (s : State) → Inv s
    → P (state_after call s) → P s ⊎ Did call s) where
  pub holds-first : (calls : List Call) (s : State) → HoldsThrough P calls s → P s
  holds-first [] s h = h
  holds-first (call ∷ calls) s h = h.0

  pub run-does : (calls : List Call) (first : State) → Inv first → P (state_after_all first calls) → HoldsThrough P calls first ⊎ IsDoneLast Did P calls first
  run-does [] first inv h = inl h
  run-does (call ∷ calls) first inv h = by (run-does calls (state_after call first) (kept call first inv) h)
    where
      by : HoldsThrough P calls (state_after call first) ⊎ IsDoneLast Did P calls (state_after call first) → HoldsThrough P (call ∷ calls) first ⊎ IsDoneLast Did P (call ∷ calls) first
      by (inl holds) = elim (each call first inv (holds-first calls (state_after call first) holds)) [
        | inl before ↦ inl (before, holds)
        | inr did ↦ inr (record { earlier = []; call = call; later = calls; split = refl; did = did; holds = holds })
      ]
      by (inr is) = inr (record {
        earlier = call ∷ is.earlier;
        call = is.call;
        later = is.later;
        split = ap (λ (l : List Call). call ∷ l) is.split;
        did = is.did;
        holds = is.holds;
      })

  -- if it does not hold at first
  pub run-did : (calls : List Call) (first : State) → Inv first → (P first → ⊥) → P (state_after_all first calls) → IsDoneLast Did P calls first
  run-did calls first inv none h = elim (run-does calls first inv h) [ inl holds ↦ absurd (none (holds-first calls first holds)) | inr is ↦ is ]
