use Rattle.std.proofs.Common.{◌+◌, arith}
use Rattle.std.specs.Duration.{as_nanos}
use Rattle.turn_client_runs.proofs.room.kept_grants.Goals as goal
use Rattle.turn_client_runs.proofs.RoomLemmas.{kept}

pub returns : goal.returns
returns c = record {
  room = λ count one range. kept count c.args.load.slots c.args.load.extras (as_nanos c.args.cadence) (as_nanos c.args.load.late)
      (c.as_nanos.result + c.as_nanos-2.result) c.in-Some.rest (as_nanos c.args.load.delay) (as_nanos c.args.ahead) c.min.result
      (omega (arith, c.as_nanos.ensures, c.as_nanos-2.ensures)) (omega (arith, c.if-pace-eq0.false)) c.in-Some.ensures.some
      (omega (arith, c.min.ensures, c.saturating_sub-count.ensures, c.from.ensures, c.from-2.ensures, c.from-3.ensures)) one range;
}
