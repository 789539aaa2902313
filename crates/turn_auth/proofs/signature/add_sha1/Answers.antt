use Rattle.std.proofs.Common.{arith, ap, ◌∙◌, length}
use Rattle.turn_auth.specs.Integrity.{mac_of, covered_text}
use Rattle.turn_auth.specs.declared.integrity.IntegrityAlgorithm.TheVariants.{Sha1}
use Rattle.turn_auth.proofs.SignLemmas.{signed_behind}
use Rattle.turn_auth.proofs.signature.add_sha1.Goals as goal

pub returns-clause-holds : goal.returns-clause-holds
returns-clause-holds c = λ k holds.
    let value = c.sha1_value-value.ensures k holds
    ∙ ap (λ bytes. mac_of Sha1 k (covered_text Sha1 (length bytes) bytes)) c.as_bytes-bytes.ensures.bytes in
    signed_behind Sha1 k c.args.message.now c.sha1_value-value.result c.add.new.message value
    c.in_ok-add.ensures.text c.in_ok-add.ensures.added c.requires.unsigned (omega (arith, c.as_bytes-bytes.ensures.message.whole))
