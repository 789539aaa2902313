-- What each call keeps, whole runs keep.
use Rattle.turn_client_laws.proofs.Common.{List, [], ◌∷◌, inl, refl}
use Rattle.turn_client_laws.proofs.Machine.{State, initial, state_after, state_after_all, Call}
use Rattle.turn_client_laws.proofs.Laws.{HoldsAtFirst, StaysInCalls}
use Rattle.turn_client_runs.specs.Holds.{HoldsInAnyRun, HoldsInRuns, Reaches}

-- calls without an allocation failure lead to the state after them
pub reaches-behind : (s : State) (calls : List Call) → Reaches s calls (state_after_all s calls)
reaches-behind s [] = refl
reaches-behind s (call ∷ calls) = (state_after call s, inl refl, reaches-behind (state_after call s) calls)

module _ (P : State → Type 0) (stays : StaysInCalls P) where
  pub kept-reached : (s : State) (calls : List Call) (t : State) → Reaches s calls t → P s → P t
  kept-reached s [] t same p = rw same p
  kept-reached s (call ∷ calls) t (u, leaves, more) p = kept-reached u calls t more (stays call s u leaves p)

  pub kept-behind : (s : State) (calls : List Call) → P s → P (state_after_all s calls)
  kept-behind s calls p = kept-reached s calls (state_after_all s calls) (reaches-behind s calls) p

  -- what holds of each new client and stays in each call holds after all runs
  pub holds-any : HoldsAtFirst P → HoldsInAnyRun P
  holds-any first transport local remote config seed calls t reaches =
      kept-reached (initial transport local remote config seed) calls t reaches (first transport local remote config seed)

  pub holds-found : HoldsAtFirst P → HoldsInRuns P
  holds-found first transport local remote config seed calls =
      kept-behind (initial transport local remote config seed) calls (first transport local remote config seed)
