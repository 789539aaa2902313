use Rattle.std.proofs.Common.{◌≡◌, ◌++◌, map, take, drop}
use Rattle.turn_session_idle.specs.Usage.{used_with}
use Rattle.turn_session_idle.proofs.usages.use_all.Given as goal

abbrev pub invariant-loop-usage : goal.invariant-loop-usage
invariant-loop-usage l = l.all ≡ map (used_with l.key l.now) (take l.usage-index l.initial.all) ++ drop l.usage-index l.initial.all
