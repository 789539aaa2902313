use Rattle.std.proofs.Common.{◌≡◌, take}
use Rattle.turn_relay_tries.specs.Wanted.{wanted_all}
use Rattle.turn_relay_tries.proofs.wanted.Wanted.want_all.Given as goal

abbrev pub invariant-loop-grant : goal.invariant-loop-grant
invariant-loop-grant l = l.self ≡ wanted_all (take l.grant-index l.grants) l.initial.self
