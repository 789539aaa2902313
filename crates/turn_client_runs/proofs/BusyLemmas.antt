-- A client without waits is busy for ever.
use Rattle.turn_client_laws.proofs.Common.{◌≡◌, ◌∙◌, ℕ, List, ap, refl}
use Rattle.turn_client_laws.proofs.Machine.{behind_id, State, state_after, Poll, PollTransmit, ForPermission, refresh_time, fresh_id, request_for, is_refresh_due}
use Rattle.turn_client_laws.proofs.Laws.{ip_of_peer}
use Rattle.turn_client_runs.specs.Busy.{IsBusyForEver, without_waits}
use Rattle.turn_client_runs.proofs.LastingRowLemmas.{eqb-self, requesting}

module _ (s : State) where
  abbrev idle : State
  idle = without_waits s

  abbrev asked : ℕ → List ℕ → State
  asked id text = requesting 250_000_000_000 id (ForPermission ip_of_peer) text idle

  sends : state_after (PollTransmit 250_000_000_000) idle ≡ asked (fresh_id idle) (request_for idle (ForPermission ip_of_peer) (fresh_id idle))
  unfolding refresh_time is_refresh_due
  sends = refl

  times-out : (id : ℕ) (text : List ℕ) → state_after (Poll 250_000_000_000) (asked id text) ≡ without_waits (record s { ids = behind_id s.ids })
  times-out id text = rw (eqb-self id) refl

pub busy-for-ever : IsBusyForEver
busy-for-ever s =
    let t = without_waits s in
    ap (state_after (Poll 250_000_000_000)) (sends s) ∙ times-out s (fresh_id t) (request_for t (ForPermission ip_of_peer) (fresh_id t))
