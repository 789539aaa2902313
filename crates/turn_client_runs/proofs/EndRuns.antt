-- A client that has ended was ended by one of the calls, and tells so.
use Rattle.turn_client_laws.proofs.Common.{◌≡◌, ◌⊎◌, ◌++◌, ℕ, List, [], ◌∷◌, inl, inr, refl, sym, subst, SocketAddr}
use Rattle.turn_client_laws.proofs.Machine.{TransportType, Config, State, New, Allocated, Closed, Call, Poll, initial, poll_step, state_after, state_after_all}
use Rattle.turn_client_laws.proofs.Laws.{HasDistinctNumbers, initial-numbers, leaves-apart}
use Rattle.turn_client_runs.specs.Ends.{Ends, EndsAreFinal, EndsAreTold, EndsAreTrue, HasEnded, HasEndedIn, TellsItsEnd}
use Rattle.turn_client_runs.proofs.EndLemmas.{calls-over, ended-over, over-ended}
use Rattle.turn_client_runs.proofs.EndCalls.{call-ends, ends-at-once, poll-honest, poll-tells}
use Rattle.turn_client_runs.proofs.LastingRuns.{joined}
use Rattle.turn_client_runs.proofs.RunLemmas.{IsDoneLast, run-did}

each-ends : (call : Call) (s : State) → HasDistinctNumbers s → HasEnded (state_after call s) → HasEnded s ⊎ Ends call s
each-ends call s distinct h = elim (call-ends call s distinct (ended-over (state_after call s) h)) [ inl over ↦ inl (over-ended s over) | inr ends ↦ inr ends ]

module _ (transport : TransportType) (local remote : SocketAddr) (config : Config) (seed : List ℕ) where
  new : HasEnded (initial transport local remote config seed) → ⊥
  new (inl e) = let clash : New ≡ Closed = e in cc
  new (inr (e, none)) = let clash : New ≡ Allocated = e in cc

  found : (calls : List Call) → IsDoneLast Ends HasEnded calls (initial transport local remote config seed) → HasEndedIn calls (initial transport local remote config seed)
  found calls is = record { earlier = is.earlier; call = is.call; later = is.later; split = is.split; ends = is.did; since = is.holds }

  are-true : (calls : List Call) → EndsAreTrue (initial transport local remote config seed) calls
  are-true calls earlier now later e told =
      let start = initial transport local remote config seed in
      let s = state_after_all start earlier in
      let so_far = earlier ++ Poll now ∷ [] in
      let over = over-ended (poll_step now s).1 (poll-honest now s told) in
      let ended : HasEnded (state_after_all start so_far) = subst HasEnded (sym (joined start earlier (Poll now ∷ []))) over in
      found so_far
      (run-did HasEnded Ends HasDistinctNumbers (λ call t distinct. leaves-apart call t (state_after call t) (inl refl) distinct) each-ends so_far start
      (initial-numbers transport local remote config seed) new ended)

  are-told : (calls : List Call) → EndsAreTold (initial transport local remote config seed) calls
  are-told calls earlier now later e ended events replies closes =
      let s = state_after_all (initial transport local remote config seed) earlier in
      poll-tells now s (ended-over s ended) events replies closes

  are-final : (calls : List Call) → EndsAreFinal (initial transport local remote config seed) calls
  are-final calls earlier call later e ends =
      let start = initial transport local remote config seed in
      let s = state_after_all start earlier in
      let over = over-ended (state_after_all (state_after call s) later) (calls-over later (state_after call s) (ends-at-once call s ends)) in
      subst (λ (all : List Call). HasEnded (state_after_all start all)) (sym e) (subst HasEnded (sym (joined start earlier (call ∷ later))) over)

pub run-tells-end : (transport : TransportType) (local remote : SocketAddr) (config : Config) (seed : List ℕ) (calls : List Call)
    → TellsItsEnd (initial transport local remote config seed) calls
run-tells-end transport local remote config seed calls =
    (are-true transport local remote config seed calls, are-told transport local remote config seed calls, are-final transport local remote config seed calls)
