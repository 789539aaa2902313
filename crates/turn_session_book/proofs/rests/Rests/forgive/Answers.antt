use Rattle.std.proofs.Common.{◌≡◌, ◌≤◌, List, None, length, sym, ap, ◌∙◌, subst, arith}
use Rattle.std.specs.Prelude.{remove}
use Rattle.std.specs.List.{position}
use Rattle.std.proofs.lemmas.List.Edits.{length-remove}
use Rattle.turn_session_book.specs.declared.rests.Rest.{Rest}
use Rattle.turn_session_book.proofs.RestLemmas.{is_of, without_rest-none, without_rest-some}
use Rattle.turn_session_book.specs.Once.{AreRests, StandOnce, rest_key}
use Rattle.turn_session_book.specs.Rests.{without_rest}
use Rattle.turn_session_book.proofs.FirstLemmas.{position-IsFirst}
use Rattle.turn_session_book.proofs.OnceLemmas.{without_first-once}
use Rattle.turn_session_book.proofs.rests.Rests.forgive.Goals as goal

pub returns-in-Some-clause-after : goal.returns-in-Some-clause-after
returns-in-Some-clause-after c =
    c.remove-forgiven.ensures.items ∙ (ap (λ (rests : List Rest). remove rests c.in-Some.place) c.self.view_is
    ∙ sym (without_rest-some c.args.key c.args.self.now c.in-Some.place (sym c.in-Some.ensures)))

pub returns-in_default-clause-after : goal.returns-in_default-clause-after
returns-in_default-clause-after c =
    let none : position (is_of c.args.key) c.args.self.now ≡ None = cc in
    sym (without_rest-none c.args.key c.args.self.now none)

pub returns-in-Some-clause-once : goal.returns-in-Some-clause-once
returns-in-Some-clause-once c =
    let rests = c.args.self.now in
    let are : AreRests rests = rw (← c.self.view_is) c.self.invariant in
    let made : c.remove-forgiven.new.self.items ≡ without_rest c.args.key rests =
    c.remove-forgiven.ensures.items ∙ (ap (λ (left : List Rest). remove left c.in-Some.place) c.self.view_is
    ∙ sym (without_rest-some c.args.key rests c.in-Some.place (sym c.in-Some.ensures))) in
    let once : StandOnce rest_key (without_rest c.args.key rests) = without_first-once rest_key c.args.key rests c.remove-forgiven.result are.once in
    subst (StandOnce rest_key) (sym made) once

pub invariant_of-self : goal.invariant_of-self
invariant_of-self c =
    let rests = c.args.self.now in
    let are : AreRests rests = rw (← c.self.view_is) c.self.invariant in
    let removed : c.remove-forgiven.new.self.items ≡ remove rests c.in-Some.place =
    c.remove-forgiven.ensures.items ∙ ap (λ (left : List Rest). remove left c.in-Some.place) c.self.view_is in
    let made : c.remove-forgiven.new.self.items ≡ without_rest c.args.key rests =
    removed ∙ sym (without_rest-some c.args.key rests c.in-Some.place (sym c.in-Some.ensures)) in
    let once : StandOnce rest_key (without_rest c.args.key rests) = without_first-once rest_key c.args.key rests c.remove-forgiven.result are.once in
    let less = length-remove rests c.in-Some.place (position-IsFirst (is_of c.args.key) rests c.in-Some.place (sym c.in-Some.ensures)).within in
    let few : length c.remove-forgiven.new.self.items ≤ 4096 = omega (arith, ap length removed, less, are.few) in
    record { few = few; once = subst (StandOnce rest_key) (sym made) once }
