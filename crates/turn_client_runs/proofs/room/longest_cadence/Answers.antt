use Rattle.std.proofs.Common.{◌+◌, arith}
use Rattle.std.specs.Duration.{as_nanos}
use Rattle.turn_client_runs.proofs.room.longest_cadence.Goals as goal
use Rattle.turn_client_runs.proofs.RoomLemmas.{paced}

pub returns : goal.returns
returns c = record {
  room = λ cadence. paced cadence c.args.count c.args.load.slots c.args.load.extras (as_nanos c.args.load.late) c.in_ok-rest.rest
      (as_nanos c.args.load.delay) (as_nanos c.args.ahead) (as_nanos c.from_nanos_u128.result) (c.from.result + c.from-2.result + c.from-3.result)
      (omega (arith, c.from.ensures, c.from-2.ensures, c.from-3.ensures)) (omega (arith, c.requires)) c.in_ok-rest.ensures.some
      (omega (arith, c.in_ok-nanos.ensures, c.as_nanos.ensures, c.from_nanos_u128.ensures));
}
