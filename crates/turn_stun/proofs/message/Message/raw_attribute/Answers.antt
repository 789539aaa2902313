use Rattle.std.proofs.Common.{◌≡◌, length, Some, eqb, rules, sym}
use Rattle.turn_stun.specs.Message.{IsWithin}
use Rattle.turn_stun.specs.Attributes.{first_of, seen_of}
use Rattle.turn_stun.specs.Iterator.{placed}
use Rattle.turn_stun.proofs.PlaceLemmas.{find-all}
use Rattle.turn_stun.proofs.message.Message.raw_attribute.Goals as goal

pub returns-then-eq-clause-within : goal.returns-then-eq-clause-within
returns-then-eq-clause-within c =
    let message = c.args.self.now in
    let kind = c.args.attribute_type.value in
    let first : Some (placed (c.in-Some.offset, c.in-Some.raw)) ≡ first_of kind (seen_of message) = search rules in
    find-all (IsWithin 20 (length message)) (λ a. eqb a.kind kind) (seen_of message) _ c.iter_attributes-offset-items.ensures.within (sym first)
