use Rattle.std.proofs.Common.{◌≡◌, ◌++◌, map, take, drop}
use Rattle.turn_relay_lives.specs.LiveState.{chosen}
use Rattle.turn_relay_lives.proofs.lives.choose.Given as goal

abbrev pub invariant-loop-live : goal.invariant-loop-live
invariant-loop-live g l = l.all ≡ map (chosen l.socket l.now) (take l.live-index l.initial.all) ++ drop l.live-index l.initial.all
