use Rattle.std.proofs.Common.{arith}
use Rattle.turn_auth.proofs.SignLemmas.{length-with_attribute, is_unsigned-push}
use Rattle.turn_auth.proofs.write.add.Goals as goal

pub returns-in-Ok-clause-len : goal.returns-in-Ok-clause-len
returns-in-Ok-clause-len g c =
    rw c.in-Ok.ensures.text (length-with_attribute _ _ c.args.message.now (omega (arith, c.as_bytes.ensures.message.whole)))

pub returns-in-Ok-clause-plain : goal.returns-in-Ok-clause-plain
returns-in-Ok-clause-plain g c = λ plain unsigned. is_unsigned-push _ _ _ _ c.in-Ok.ensures.added plain unsigned
