use Rattle.std.proofs.Common.{sym}
use Rattle.std.proofs.Math.Nat.{min-eq_right}
use Rattle.turn_agent.proofs.ScheduleLemmas.{longer_than_any}
use Rattle.turn_agent.proofs.schedule.doubled_wait.Goals as goal

pub returns-then-place-ge64 : goal.returns-then-place-ge64
returns-then-place-ge64 c = sym (min-eq_right (longer_than_any c.args.first c.args.greatest c.args.place c.requires c.ranges.greatest.fits c.if-place-ge64.true))
