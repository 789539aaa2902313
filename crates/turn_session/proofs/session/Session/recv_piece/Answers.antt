use Rattle.std.proofs.Common.{◌≡◌, ◌∙◌, ℕ, zero, List, ap, inl, inr, subst}
use Rattle.std.specs.Prelude.{option_map}
use Rattle.turn_session_client.proofs.DrainLemmas.{on_err}
use Rattle.turn_session.specs.Framing.{TakesNext, fed}
use Rattle.turn_session.specs.Given.{given_outcome}
use Rattle.turn_session.specs.SessionState.{SessionState}
use Rattle.turn_session.proofs.FramingLemmas.{first-fails, on-err, on-ok, piece-gives}
use Rattle.turn_session.proofs.session.Session.recv_piece.Goals as goal

pub returns-clause-answer : goal.returns-clause-answer
returns-clause-answer g c =
    let kept : c.keep.new.self ≡ fed (g.T.AsSlice.items c.args.transmit.payload) c.args.self.now =
    c.in_ok-keep.ensures.ok ∙ ap (λ (bytes : List ℕ). fed bytes c.args.self.now) c.as_slice.ensures in
    on-ok c.follow.result c.follow.ensures.answer
    (λ answer follows. piece-gives _ c.args.now c.args.self.now _ _ _ _ _ kept c.in_ok-first.ensures.given follows)

pub returns-in_err-keep-clause-no_memory : goal.returns-in_err-keep-clause-no_memory
returns-in_err-keep-clause-no_memory g c = on_err _ (inl c.in_err-keep.ensures.err)

pub returns-in_err-first-clause-no_memory : goal.returns-in_err-first-clause-no_memory
returns-in_err-first-clause-no_memory g c =
    let kept : c.keep.new.self ≡ fed (g.T.AsSlice.items c.args.transmit.payload) c.args.self.now =
    c.in_ok-keep.ensures.ok ∙ ap (λ (bytes : List ℕ). fed bytes c.args.self.now) c.as_slice.ensures in
    on_err _ (inr (zero, c.keep.new.self, kept, c.in_err-first.ensures.no_memory))

pub returns-clause-no_memory : goal.returns-clause-no_memory
returns-clause-no_memory g c =
    let kept : c.keep.new.self ≡ fed (g.T.AsSlice.items c.args.transmit.payload) c.args.self.now =
    c.in_ok-keep.ensures.ok ∙ ap (λ (bytes : List ℕ). fed bytes c.args.self.now) c.as_slice.ensures in
    let first = option_map given_outcome c.in_ok-first.first in
    let takes = subst (λ (s : SessionState). TakesNext c.args.now s c.take_next.new.self first) kept c.in_ok-first.ensures.given in
    on-err c.follow.result c.follow.ensures.no_memory (λ fails. inr (first-fails c.args.now first _ _ _ takes fails))
