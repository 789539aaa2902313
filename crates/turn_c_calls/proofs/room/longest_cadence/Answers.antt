use Rattle.std.proofs.Common.{◌≡◌, ℕ, ◌+◌, ◌/◌, ◌≤◌, ◌∙◌, ap, max, arith}
use Rattle.turn_client_runs.proofs.RoomLemmas.{pace-fits, paced}
use Rattle.turn_c_calls.proofs.room.longest_cadence.Goals as goal

pub returns-in-None : goal.returns-in-None
returns-in-None c = λ cadence. rw (← c.ahead_by.ensures.value) (
    let load = c.args.load.now in
    let packets : ℕ = max 1 c.args.count + load.slots + load.extras in
    let same : c.max.result + c.others.result ≡ packets = omega (arith, c.max.ensures, c.others.ensures) in
    let quotient : c.divided.result ≡ c.in-Some.rest / packets = c.divided.ensures.value ∙ ap (λ (n : ℕ). c.in-Some.rest / n) same in (
      λ none. absurd none,
      λ room.
          let fits : cadence + load.late ≤ c.in-Some.rest / packets =
          (pace-fits packets (cadence + load.late) c.in-Some.rest load.delay load.late c.ahead_by.result (omega arith) c.in-Some.ensures.some).1 room in
          absurd (omega (arith, fits, quotient, c.in-None.ensures)),
    ))

pub returns-in-Some-checked_sub : goal.returns-in-Some-checked_sub
returns-in-Some-checked_sub c = λ cadence. rw (c.setting_of.ensures, ← c.ahead_by.ensures.value) (
    let load = c.args.load.now in
    let packets : ℕ = max 1 c.args.count + load.slots + load.extras in
    let same : c.max.result + c.others.result ≡ packets = omega (arith, c.max.ensures, c.others.ensures) in
    let quotient : c.divided.result ≡ c.in-Some.rest / packets = c.divided.ensures.value ∙ ap (λ (n : ℕ). c.in-Some.rest / n) same in
    paced cadence (max 1 c.args.count) load.slots load.extras load.late c.in-Some.rest load.delay c.ahead_by.result c.in-Some-checked_sub.longest packets
    (omega arith) (omega arith) c.in-Some.ensures.some (omega (arith, quotient, c.in-Some-checked_sub.ensures)))
