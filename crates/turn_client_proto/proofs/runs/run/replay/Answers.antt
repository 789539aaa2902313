use Rattle.turn_client_runs.proofs.PromiseLemmas.{run-bound, run-cuts, run-events, run-few, run-granted, run-hears, run-held, run-lasts}
use Rattle.turn_client_runs.proofs.PromiseLemmas.{run-numbers, run-offers, run-order, run-processed, run-realm, run-replies, run-sent, run-short}
use Rattle.turn_client_runs.proofs.LeavingRuns.{run-owns}
use Rattle.turn_client_runs.proofs.PacedLemmas.{run-paced}
use Rattle.turn_client_runs.proofs.ReportedRuns.{causes-reported-once}
use Rattle.turn_client_runs.proofs.CalmRuns.{run-calm}
use Rattle.turn_client_runs.proofs.DeliveryRuns.{run-returns}
use Rattle.turn_client_runs.proofs.EndRuns.{run-tells-end}
use Rattle.turn_client_runs.proofs.SendsRuns.{run-sends_to}
use Rattle.turn_client_runs.proofs.TriedLemmas.{run-tried}
use Rattle.turn_client_api.specs.State.{initial}
use Rattle.turn_client_proto.proofs.DeliveredLemmas.{gives-let-in}
use Rattle.turn_client_proto.proofs.RunLemmas.{timely}
use Rattle.turn_client_proto.proofs.runs.run.replay.Goals as goal
use Rattle.turn_client_api.specs.Steps.{state_after_all}

pub returns-clause-granted : goal.returns-clause-granted
returns-clause-granted c = run-granted c.args.transport c.args.local c.args.remote c.args.config c.args.seed c.args.calls.now

pub returns-clause-numbers : goal.returns-clause-numbers
returns-clause-numbers c = run-numbers c.args.transport c.args.local c.args.remote c.args.config c.args.seed c.args.calls.now

pub returns-clause-bound : goal.returns-clause-bound
returns-clause-bound c = run-bound c.args.transport c.args.local c.args.remote c.args.config c.args.seed c.args.calls.now

pub returns-clause-offers : goal.returns-clause-offers
returns-clause-offers c = run-offers c.args.transport c.args.local c.args.remote c.args.config c.args.seed c.args.calls.now

pub returns-clause-given : goal.returns-clause-given
returns-clause-given c = λ earlier middle later e.
    gives-let-in (state_after_all (initial c.args.transport c.args.local c.args.remote c.args.config c.args.seed) earlier) middle

pub returns-clause-heard : goal.returns-clause-heard
returns-clause-heard c = run-hears c.args.transport c.args.local c.args.remote c.args.config c.args.seed c.args.calls.now

pub returns-clause-delivered : goal.returns-clause-delivered
returns-clause-delivered c = run-returns c.args.transport c.args.local c.args.remote c.args.config c.args.seed c.args.calls.now

pub returns-clause-counted : goal.returns-clause-counted
returns-clause-counted c = run-replies c.args.transport c.args.local c.args.remote c.args.config c.args.seed c.args.calls.now

pub returns-clause-challenges : goal.returns-clause-challenges
returns-clause-challenges c = run-few c.args.transport c.args.local c.args.remote c.args.config c.args.seed c.args.calls.now

pub returns-clause-realm : goal.returns-clause-realm
returns-clause-realm c = run-realm c.args.transport c.args.local c.args.remote c.args.config c.args.seed c.args.calls.now

pub returns-clause-held : goal.returns-clause-held
returns-clause-held c = run-held c.args.transport c.args.local c.args.remote c.args.config c.args.seed c.args.calls.now

pub returns-clause-processed : goal.returns-clause-processed
returns-clause-processed c = run-processed c.args.transport c.args.local c.args.remote c.args.config c.args.seed c.args.calls.now

pub returns-clause-order : goal.returns-clause-order
returns-clause-order c = run-order c.args.transport c.args.local c.args.remote c.args.config c.args.seed c.args.calls.now

pub returns-clause-sent : goal.returns-clause-sent
returns-clause-sent c = run-sent c.args.transport c.args.local c.args.remote c.args.config c.args.seed c.args.calls.now

pub returns-clause-leaves : goal.returns-clause-leaves
returns-clause-leaves c = run-owns c.args.transport c.args.local c.args.remote c.args.config c.args.seed c.args.calls.now

pub returns-clause-paced : goal.returns-clause-paced
returns-clause-paced c = run-paced c.args.transport c.args.local c.args.remote c.args.config c.args.seed c.args.calls.now

pub returns-clause-sends : goal.returns-clause-sends
returns-clause-sends c = run-sends_to c.args.transport c.args.local c.args.remote c.args.config c.args.seed c.args.calls.now

pub returns-clause-events : goal.returns-clause-events
returns-clause-events c = run-events c.args.transport c.args.local c.args.remote c.args.config c.args.seed c.args.calls.now

pub returns-clause-once : goal.returns-clause-once
returns-clause-once c = causes-reported-once c.args.transport c.args.local c.args.remote c.args.config c.args.seed c.args.calls.now

pub returns-clause-short : goal.returns-clause-short
returns-clause-short c = run-short c.args.transport c.args.local c.args.remote c.args.config c.args.seed c.args.calls.now

pub returns-clause-cuts : goal.returns-clause-cuts
returns-clause-cuts c = run-cuts c.args.transport c.args.local c.args.remote c.args.config c.args.seed c.args.calls.now

pub returns-clause-lasts : goal.returns-clause-lasts
returns-clause-lasts c = run-lasts c.args.transport c.args.local c.args.remote c.args.config c.args.seed c.args.calls.now

pub returns-clause-calm : goal.returns-clause-calm
returns-clause-calm c = run-calm c.args.transport c.args.local c.args.remote c.args.config c.args.seed c.args.calls.now

pub returns-clause-tried : goal.returns-clause-tried
returns-clause-tried c = run-tried c.args.transport c.args.local c.args.remote c.args.config c.args.seed c.args.calls.now

pub returns-clause-ends : goal.returns-clause-ends
returns-clause-ends c = run-tells-end c.args.transport c.args.local c.args.remote c.args.config c.args.seed c.args.calls.now

pub returns-clause-alarm : goal.returns-clause-alarm
returns-clause-alarm c = timely c.args.transport c.args.local c.args.remote c.args.config c.args.seed c.args.calls.now c.requires.callable
