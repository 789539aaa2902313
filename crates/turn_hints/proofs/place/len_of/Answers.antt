use Rattle.std.proofs.Common.{arith}
use Rattle.turn_hints.proofs.place.len_of.Goals as goal

pub returns-clause-len : goal.returns-clause-len
returns-clause-len c =
    let message = c.as_bytes-bytes.ensures.message in
    let bytes = c.as_bytes-bytes.ensures.bytes in
    grind (arith, message.whole, bytes)
