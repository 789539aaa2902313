use Rattle.std.proofs.Common.{◌+◌, ◌<◌, zero, arith, refl}
use Rattle.turn_client_runs.proofs.RoomLemmas.{kept}
use Rattle.turn_c_calls.proofs.room.kept_grants.Goals as goal
use Rattle.turn_c_calls.proofs.room.kept_grants.Goals.{else-cadence-eq0-via-then-cadence-eq0+else-load-eq0, else-cadence-eq0-via-else-cadence-eq0}

pub returns : goal.returns
returns c = λ count one range.
    let load = c.args.load.now in
    let cadence = c.cadence_by-cadence.result in
    let some : zero < cadence + load.late = elim c.else-cadence-eq0.branch [
      | else-cadence-eq0-via-then-cadence-eq0+else-load-eq0 w ↦ omega (arith, w.if-load-eq0.false)
      | else-cadence-eq0-via-else-cadence-eq0 w ↦ omega (arith, w.if-cadence-eq0.false)
    ] in
    rw (← c.cadence_by-cadence.ensures, ← c.ahead_by.ensures.value) (
    kept count load.slots load.extras cadence load.late (cadence + load.late) c.in-Some.rest load.delay c.ahead_by.result c.saturating_sub.result
    refl some c.in-Some.ensures.some
    (omega (arith, c.saturating_sub.ensures, c.divided.ensures.value, c.divided.ensures.within, c.others.ensures, c.in-Some.ensures.some, c.ahead_by.ensures.short))
    one range)
