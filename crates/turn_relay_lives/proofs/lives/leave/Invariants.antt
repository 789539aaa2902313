use Rattle.std.proofs.Common.{◌≡◌, ◌++◌, map, take, drop}
use Rattle.turn_relay_lives.specs.LiveState.{left}
use Rattle.turn_relay_lives.proofs.lives.leave.Given as goal

abbrev pub invariant-loop-live : goal.invariant-loop-live
invariant-loop-live g l = l.all ≡ map (left l.now) (take l.live-index l.initial.all) ++ drop l.live-index l.initial.all
