use Rattle.std.proofs.Common.{◌≡◌, ℕ, ◌+◌, true, false, eqb, is_some, List, length, sym, ap, ◌∙◌, arith, length-drop}
use Rattle.std.proofs.lemmas.Bool.{eqb-true, eqb-false}
use Rattle.std.proofs.lemmas.List.{take_rest}
use Rattle.turn_stun.specs.Message.{attributes_from, attribute_size, padded_len}
use Rattle.turn_stun.proofs.WalkLemmas.{WalksOn, walks_on, found_from-none}
use Rattle.turn_stun.proofs.attribute.walk.AttributeWalkIterator.next.Goals as goal

-- bytes are left, so the walk continues
ahead : (at : ℕ) (bytes : List ℕ) → false ≡ eqb (length bytes) 0 → is_some (attributes_from 0 at bytes) ≡ true → WalksOn at bytes
ahead at bytes some whole =
    let left : length bytes ≡ 0 → ⊥ = eqb-false _ _ (sym some) in
    walks_on at bytes (omega arith) whole

pub returns-then-is_empty-clause-steps : goal.returns-then-is_empty-clause-steps
returns-then-is_empty-clause-steps c =
    let none = found_from-none c.args.self.now.offset c.args.self.now.rest.now (eqb-true _ _ (sym c.if-is_empty.ensures)) in
    (none, none)

pub at_front-raw-requires : goal.at_front-raw-requires
at_front-raw-requires c =
    let i = c.args.self.now in
    (ahead i.offset i.rest.now c.if-is_empty.ensures i.whole).within

pub slice_bounds-self-count : goal.slice_bounds-self-count
slice_bounds-self-count c =
    let i = c.args.self.now in
    let walk = ahead i.offset i.rest.now c.if-is_empty.ensures i.whole in
    let size : c.size-size.result ≡ attribute_size i.rest.now = c.size-size.ensures ∙ ap (λ n. 4 + padded_len n) c.at_front-raw.ensures.len in
    omega (arith, size, walk.within)

pub slice_bounds-self-start : goal.slice_bounds-self-start
slice_bounds-self-start c =
    let i = c.args.self.now in
    let walk = ahead i.offset i.rest.now c.if-is_empty.ensures i.whole in
    let size : c.size-size.result ≡ attribute_size i.rest.now = c.size-size.ensures ∙ ap (λ n. 4 + padded_len n) c.at_front-raw.ensures.len in
    omega (arith, size, walk.within)

pub overflow_add-self : goal.overflow_add-self
overflow_add-self c =
    let i = c.args.self.now in
    let walk = ahead i.offset i.rest.now c.if-is_empty.ensures i.whole in
    let size : c.size-size.result ≡ attribute_size i.rest.now = c.size-size.ensures ∙ ap (λ n. 4 + padded_len n) c.at_front-raw.ensures.len in
    omega (arith, size, walk.within, i.fits)

pub invariant_of-self : goal.invariant_of-self
invariant_of-self c =
    let i = c.args.self.now in
    let rest = i.rest.now in
    let walk = ahead i.offset rest c.if-is_empty.ensures i.whole in
    let size : c.size-size.result ≡ attribute_size rest = c.size-size.ensures ∙ ap (λ n. 4 + padded_len n) c.at_front-raw.ensures.len in
    record {
      fits = rw (take_rest rest c.size-size.result, length-drop) (omega (arith, size, walk.within, i.fits));
      whole = rw (take_rest rest c.size-size.result, size) walk.goes_on;
    }

pub returns-clause-steps : goal.returns-clause-steps
returns-clause-steps c =
    let i = c.args.self.now in
    let rest = i.rest.now in
    let walk = ahead i.offset rest c.if-is_empty.ensures i.whole in
    let size : c.size-size.result ≡ attribute_size rest = c.size-size.ensures ∙ ap (λ n. 4 + padded_len n) c.at_front-raw.ensures.len in
    rw (take_rest rest c.size-size.result, size, c.at_front-raw.ensures.kind, c.at_front-raw.ensures.value) walk.found

pub returns-clause-goes : goal.returns-clause-goes
returns-clause-goes c =
    let i = c.args.self.now in
    let rest = i.rest.now in
    let walk = ahead i.offset rest c.if-is_empty.ensures i.whole in
    let size : c.size-size.result ≡ attribute_size rest = c.size-size.ensures ∙ ap (λ n. 4 + padded_len n) c.at_front-raw.ensures.len in
    record {
      on = λ _. (tt, tt, rw (take_rest rest c.size-size.result, size) (omega (arith, ap length walk.found)));
      keeps = tt;
      rests = λ _. tt;
    }
