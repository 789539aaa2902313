-- What `poll` returns in a run is timely.
use Rattle.turn_client_laws.proofs.Common.{suc, List, [], ◌∷◌, inl, refl, arith, All}
use Rattle.turn_client_laws.proofs.Machine.{State, initial, state_after, Call, Poll}
use Rattle.turn_client_laws.proofs.Laws.{FitsPhase, GrantsHaveAllocations, initial-steady, leaves-steadies, steady-FitsPhaseForPoll, GrantsHaveAllocations-AllHaveAllocation}
use Rattle.turn_client_laws.proofs.Laws.{initial-GrantsHaveAllocations, leaves-GrantsHaveAllocations, poll-timely}
use Rattle.turn_client_runs.specs.Holds.{HoldsInAnyRun, HoldsOfRuns}
use Rattle.turn_client_runs.specs.Sleeps.{IsPolledInTime, SleepsInTime, SleepsThroughNothing, ReportsTimely, ReportsTimelyNext}
use Rattle.turn_client_runs.proofs.ExpiryLemmas.{poll-waits}
use Rattle.turn_client_runs.proofs.HoldLemmas.{holds-any}

-- what a call of a client whose state fits its phase returns is timely
reports-timely : (s : State) (call : Call) → FitsPhase s → GrantsHaveAllocations s → IsPolledInTime call → ReportsTimely s call
reports-timely s (Poll now) steady in_allocations c =
    (poll-timely now s (steady-FitsPhaseForPoll s steady) (GrantsHaveAllocations-AllHaveAllocation s in_allocations) c, poll-waits now s)
reports-timely s _ steady in_allocations c = tt

-- such a client misses no deadline, whatever is called
sleeps-through-nothing : (s : State) (calls : List Call) → FitsPhase s → GrantsHaveAllocations s → All IsPolledInTime calls → SleepsThroughNothing s calls
sleeps-through-nothing s [] steady in_allocations all = tt
sleeps-through-nothing s (call ∷ calls) steady in_allocations all = (
  reports-timely s call steady in_allocations (all 0 call (omega arith)),
  sleeps-through-nothing (state_after call s) calls (leaves-steadies call s (state_after call s) (inl refl) steady) (leaves-GrantsHaveAllocations call s (state_after call s) (inl refl) in_allocations)
      (λ k d less. all (suc k) d (omega (arith, less))),
)

-- nor does a new client
pub run-sleeps : HoldsOfRuns SleepsInTime
run-sleeps transport local remote config seed calls all =
    sleeps-through-nothing (initial transport local remote config seed) calls (initial-steady transport local remote config seed) (initial-GrantsHaveAllocations transport local remote config seed) all

-- nor one for which some memory allocations failed
pub any-reports : HoldsInAnyRun ReportsTimelyNext
any-reports transport local remote config seed calls t reaches now early =
    reports-timely t (Poll now)
    (holds-any FitsPhase leaves-steadies initial-steady transport local remote config seed calls t reaches)
    (holds-any GrantsHaveAllocations leaves-GrantsHaveAllocations initial-GrantsHaveAllocations transport local remote config seed calls t reaches) early
