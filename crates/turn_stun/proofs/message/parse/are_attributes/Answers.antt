use Rattle.std.proofs.Common.{◌≡◌, ◌+◌, ◌<◌, length, sym, ◌∙◌, refl, arith, ap}
use Rattle.std.proofs.lemmas.Bool.{eqb-true, eqb-false}
use Rattle.std.proofs.lemmas.List.{take_rest}
use Rattle.turn_stun.specs.Message.{attribute_size, padded_len}
use Rattle.turn_stun.proofs.WalkLemmas.{is_some-whole, is_some-cut, is_some-none, is_some-anywhere}
use Rattle.turn_stun.proofs.message.parse.are_attributes.Goals as goal

pub loop-rest-init : goal.loop-rest-init
loop-rest-init c = (20, refl)

pub returns-in_default : goal.returns-in_default
returns-in_default c =
    let left : 0 < length c.loop-rest.rest.now =
    (let some : length c.loop-rest.rest.now ≡ 0 → ⊥ = eqb-false _ _ (sym c.loop-rest-test.ensures) in omega arith) in
    λ at. is_some-anywhere 0 at 20 c.args.bytes.now ∙ (c.loop-rest.invariant.1 ∙ is_some-cut _ c.loop-rest.rest.now left c.in_default.ensures.cut)

pub loop-rest-preserved : goal.loop-rest-preserved
loop-rest-preserved c =
    let rest = c.loop-rest.rest.now in
    let left : 0 < length rest =
    (let some : length c.loop-rest.rest.now ≡ 0 → ⊥ = eqb-false _ _ (sym c.loop-rest-test.ensures) in omega arith) in
    let size : c.size.result ≡ attribute_size rest = c.size.ensures ∙ ap (λ n. 4 + padded_len n) c.in-Some.ensures.len in (
      c.loop-rest.invariant.0 + attribute_size rest,
      rw (take_rest rest c.size.result, size) (c.loop-rest.invariant.1 ∙ is_some-whole _ rest left c.in-Some.ensures.whole),
    )

pub returns : goal.returns
returns c =
    λ at. is_some-anywhere 0 at 20 c.args.bytes.now ∙ (c.loop-rest.invariant.1 ∙ is_some-none _ c.loop-rest.rest.now (eqb-true _ _ (sym c.loop-rest-test.ensures)))
