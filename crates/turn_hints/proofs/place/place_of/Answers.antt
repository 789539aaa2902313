use Rattle.std.proofs.Common.{ℕ, List, length, ap, arith}
use Rattle.turn_hints.proofs.place.place_of.Goals as goal

pub overflow_add-start : goal.overflow_add-start
overflow_add-start c =
    let within = c.in_ok-offset.ensures.within in
    let same = ap (λ (bytes : List ℕ). length bytes) c.as_bytes-bytes.ensures.bytes in
    omega (arith, within, same, c.as_bytes-bytes.type_inv)

pub overflow_add-result : goal.overflow_add-result
overflow_add-result c =
    let within = c.in_ok-offset.ensures.within in
    let same = ap (λ (bytes : List ℕ). length bytes) c.as_bytes-bytes.ensures.bytes in
    omega (arith, within, same, c.as_bytes-bytes.type_inv)
