use Rattle.std.proofs.Common.{◌≡◌, ◌-◌, ◌^◌, ◌<◌, length, ◌∙◌, arith, rules}
use Rattle.turn_stun.proofs.GrammarLemmas.{padded_len-ge}
use Rattle.turn_stun.proofs.WriteLemmas.{with_attribute-made, with_attribute-IsWritten, with_attribute-AddsAttribute, with_attribute-Extends}
use Rattle.turn_stun.proofs.message.write.extend.Goals as goal

pub returns-in-Ok-clause-ok : goal.returns-in-Ok-clause-ok
returns-in-Ok-clause-ok g c =
    let value = g.A.AttributeWrite.encoded c.args.attribute.now c.args.id in
    let short : length value < 2 ^ 16 = omega (arith, c.requires.room, padded_len-ge (length value)) in
    let len : c.len-attributes_len.result - 20 ≡ length c.append_attribute.new.out.items - 20 = search rules in
    c.set_length.ensures
    ∙ with_attribute-made (g.A.AttributeWrite.written_kind c.args.attribute.now) _ _ c.args.message.now.items _ c.in-Ok.ensures.kind short c.requires.written.faultless.long c.in-Ok.ensures.ok len

pub returns-in-Ok-clause-added : goal.returns-in-Ok-clause-added
returns-in-Ok-clause-added g c =
    rw (returns-in-Ok-clause-ok g c) (with_attribute-AddsAttribute _ _ _ c.requires.written c.in-Ok.ensures.kind c.requires.room)

pub returns-in-Ok-clause-written : goal.returns-in-Ok-clause-written
returns-in-Ok-clause-written g c =
    rw (returns-in-Ok-clause-ok g c) (with_attribute-IsWritten _ _ _ c.requires.written c.in-Ok.ensures.kind c.requires.room)

pub returns-in-Ok-clause-kept : goal.returns-in-Ok-clause-kept
returns-in-Ok-clause-kept g c =
    rw (returns-in-Ok-clause-ok g c) (with_attribute-Extends _ _ _ c.requires.written)
