use Rattle.std.proofs.Common.{◌+◌, ◌-◌, ◌∙◌, refl, arith}
use Rattle.turn_auth.proofs.IntegrityLemmas.{covered_pieces}
use Rattle.turn_auth.proofs.integrity.sha1_value.Goals as goal

pub returns : goal.returns
returns c = λ key holds.
    c.code.ensures key holds
    ∙ rw (c.to_be_bytes.ensures, covered_pieces c.args.bytes.now c.args.offset (c.args.offset + 4) (c.args.offset - 20 + (4 + 20)) c.requires.header c.requires.within (omega arith)) refl
