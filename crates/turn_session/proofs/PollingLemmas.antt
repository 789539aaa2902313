-- A path that waits leads on to the doubts.
use Rattle.std.proofs.Common.{◌≡◌, ℕ, None, subst}
use Rattle.turn_client_api.specs.declared.poll.TurnPollRet.{TurnPollRet}
use Rattle.turn_session_life.specs.Watch.{watch_step}
use Rattle.turn_session_life.specs.declared.watch.Watch.{Watch}
use Rattle.turn_session_life.specs.declared.watch.WatchStep.{WatchStep}
use Rattle.turn_session_life.specs.declared.watch.WatchStep.TheVariants.{Idle}
use Rattle.turn_session.specs.Polling.{PathLeads, PollsDoubts, PollsOpen, begun}
use Rattle.turn_session.specs.SessionState.{SessionState, with_watch}

pub path-idle : (now : ℕ) (was first : SessionState) (w : Watch) (s : SessionState) (answer : TurnPollRet) → first ≡ begun now was
    → (Idle, w) ≡ watch_step now first.watch → PollsDoubts None now (with_watch w first) s answer → PollsOpen now was s answer
path-idle now was first w s answer is step polls =
    subst (λ (t : SessionState). PathLeads now (watch_step now t.watch) t s answer) is
    (subst (λ (x : WatchStep × Watch). PathLeads now x first s answer) step polls)
