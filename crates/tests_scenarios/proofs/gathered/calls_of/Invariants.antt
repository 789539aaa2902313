use Rattle.std.proofs.Common.{All}
use Rattle.turn_gather.specs.Drive.{IsGatherCallable}
use Rattle.tests_scenarios.proofs.gathered.calls_of.Given as goal

abbrev pub invariant-loop-ask : goal.invariant-loop-ask
invariant-loop-ask g l = All (IsGatherCallable l.gatherer.client.config.allocation_transport) l.calls.items
