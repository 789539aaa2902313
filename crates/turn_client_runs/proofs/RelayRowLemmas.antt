-- A handshake, and then 700 s in which each grant is refreshed, are one run.
use Rattle.turn_client_laws.proofs.Common.{◌≡◌, ℕ, ◌+◌, ◌≤◌, List, [], arith, refl, subst, sym, SocketAddr}
use Rattle.turn_client_laws.proofs.Machine.{Transaction, Config, State, state_after_all, PollEvent}
use Rattle.turn_client_runs.specs.HandshakeRows.{new_client}
use Rattle.turn_client_runs.specs.History.{no_history, with_call}
use Rattle.turn_client_runs.specs.Lasting.{RunsSteadily}
use Rattle.turn_client_runs.specs.LastingRows.{LastsFor700Seconds, refreshed_grants, with_allocation}
use Rattle.turn_client_runs.specs.RelayRows.{RelayStaysUpFromFirst, calls_after, just_allocated}
use Rattle.turn_client_runs.proofs.HandshakeRowLemmas.{done, done-is, handshake-is-worked}
use Rattle.turn_client_runs.proofs.LastingRowLemmas.{all-none, at-once, relay-runs, relay-stays-up}

module _ (local remote : SocketAddr) (config : Config) (seed : List ℕ) where
  abbrev first : State
  first = new_client local remote config seed

  abbrev allocated : State
  allocated = done local remote config seed

  -- the event was taken
  abbrev reported : State
  reported = record allocated { events = [] }

  later : LastsFor700Seconds (with_allocation reported)
  later = relay-stays-up reported refl

  abbrev Goes : State → Type 0
  Goes t = RunsSteadily 3 1 0 100_000_000 200_000_000 (no_history t) t (calls_after t) × ((state_after_all t (calls_after t)).grants ≡ refreshed_grants)

  goes : Goes allocated
  goes = (
    (
      record { on_time = at-once 200_000_000 allocated (omega arith); answered = all-none (λ (x : Transaction). 200_000_000 ≤ (no_history allocated).made x.id + 100_000_000) },
      tt,
      (omega arith, omega arith),
      λ since within. omega arith,
      relay-runs reported refl (with_call PollEvent 200_000_000 allocated (no_history allocated)) refl,
    ),
    later.refreshes,
  )

  pub goes-on : Goes (just_allocated first)
  goes-on = subst Goes (sym (done-is local remote config seed)) goes

pub relay-stays-up-from-first : RelayStaysUpFromFirst
relay-stays-up-from-first local remote config seed =
    let worked = handshake-is-worked local remote config seed in
    let goes = goes-on local remote config seed in
    record { handshake = worked.runs; allocates = worked.allocates; begins = worked.steady; runs = goes.0; refreshes = goes.1 }
