-- What a call changes and returns is by its inputs.
use Rattle.turn_client_laws.proofs.Common.{◌≡◌, ℕ, List, sym, subst, inl, inr, refl, Contains, SocketAddr}
use Rattle.turn_client_laws.proofs.Machine.{TransportType, Config, Grant, State, initial, state_after, state_after_all, Call, Poll}
use Rattle.turn_client_laws.proofs.Laws.{HasDistinctNumbers, Input, IsGrantedIn, TakesInput, initial-numbers, leaves-apart, leaves-grants, calls-do}
use Rattle.turn_client_laws.specs.LawsGone.{IsThereOrOver}
use Rattle.turn_client_laws.proofs.MoveInputLemmas.{grants-taken}
use Rattle.turn_client_laws.proofs.OverLemmas.{poll-over}
use Rattle.turn_client_runs.specs.Inputs.{IsAmong}
use Rattle.turn_client_runs.specs.Processed.{ActivatesNothing, CallsProcessInputs, ProcessesAll}
use Rattle.turn_client_runs.proofs.CallGrants.{quiet}
use Rattle.turn_client_runs.proofs.HoldLemmas.{holds-found}
use Rattle.turn_client_runs.proofs.PeerLemmas.{call-answered}
use Rattle.turn_client_runs.proofs.InputsOfRuns.{among-none}

activates-nothing : (call : Call) (s : State) → (TakesInput call → ⊥) → ActivatesNothing call s
activates-nothing call s other g stands there = elim (leaves-grants call s (state_after call s) g (inl refl) there stands) [
  | inl was ↦ inl was
  | inr (inl ended) ↦ inr ended
  | inr (inr done) ↦ absurd (among-none (IsGrantedIn g) (subst (λ (inputs : List Input). IsAmong (IsGrantedIn g) inputs) (quiet call s other) done))
]

-- a grant that is gone after a `poll` is over
polls-over : (call : Call) (s : State) → HasDistinctNumbers s → (now : ℕ) (g : Grant) → call ≡ Poll now → Contains s.grants g → IsThereOrOver now s (state_after call s) g
polls-over call s distinct now g is there =
    subst (λ (c : Call). IsThereOrOver now s (state_after c s) g) (sym is) (poll-over now s (state_after (Poll now) s) g (inl refl) distinct there)

processes-all : (call : Call) (s : State) → HasDistinctNumbers s → ProcessesAll call s
processes-all call s distinct = record {
  inputs = calls-do call s;
  others = activates-nothing call s;
  spared = λ g there. grants-taken call s (state_after call s) g (inl refl) there;
  over = polls-over call s distinct;
  returned = call-answered call s;
}

pub calls-process : (transport : TransportType) (local remote : SocketAddr) (config : Config) (seed : List ℕ) (calls : List Call)
    → CallsProcessInputs (initial transport local remote config seed) calls
calls-process transport local remote config seed calls earlier call later split =
    processes-all call (state_after_all (initial transport local remote config seed) earlier)
    (holds-found HasDistinctNumbers leaves-apart initial-numbers transport local remote config seed earlier)
