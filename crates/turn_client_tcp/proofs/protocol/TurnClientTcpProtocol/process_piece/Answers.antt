use Rattle.std.proofs.Common.{◌≡◌, ◌∙◌, None, ap, subst, sym}
use Rattle.std.specs.Prelude.{IfOk, OnOk, find}
use Rattle.std.proofs.lemmas.Result.{on_err_weaker}
use Rattle.turn_client_api.specs.Answers.{outcome_of}
use Rattle.turn_client_api.specs.Payloads.{Outcome}
use Rattle.turn_client_api.specs.State.{State}
use Rattle.turn_client_api.specs.Streams.{is_ready, stream_with_piece}
use Rattle.turn_client_laws.proofs.AnyStreamsLemmas.{with_streams}
use Rattle.turn_client_tcp.specs.StreamSteps.{left_by}
use Rattle.turn_client_tcp.specs.contracts.protocol.TurnClientTcpProtocol.{the_view}
use Rattle.turn_client_tcp.proofs.ArrivalLemmas.{ends-broken, whole-broken}
use Rattle.turn_client_tcp.proofs.FreePieceLemmas.{free-rests, rests-behind, rests-end}
use Rattle.turn_client_core.proofs.ResultLemmas.{no-err}
use Rattle.turn_client_tcp.proofs.UngrantedLemmas.{framed-none-before}
use Rattle.turn_client_tcp.proofs.protocol.TurnClientTcpProtocol.process_piece.Goals as goal

-- ---- the control stream

pub then_all-requires : goal.then_all-requires
then_all-requires g c = record {
  before =
      rw c.in_ok-first-in-Control.ensures.after
      (framed-none-before (stream_with_piece c.args.stream (g.T.AsSlice.items c.args.transmit.payload)) c.args.now c.args.self.now c.requires.before);
}

pub returns-in_ok-first-in-Control-clause-hands_back : goal.returns-in_ok-first-in-Control-clause-hands_back
returns-in_ok-first-in-Control-clause-hands_back g c = c.then_all.ensures.hands_back c.args.transmit c.in_ok-first-in-Control.ensures.hands_back

pub returns-in_ok-first-in-Control-clause-free_frame : goal.returns-in_ok-first-in-Control-clause-free_frame
returns-in_ok-first-in-Control-clause-free_frame g c = λ whole free.
    let control = sym c.mode.ensures ∙ c.in-Control.is in
    let rest = free-rests c.args.stream (g.T.AsSlice.items c.args.transmit.payload) c.args.now c.args.self.now control free in
    no-err c.then_all.result
    (on_err_weaker c.then_all.result
    (rests-behind c.args.now (outcome_of c.in_ok-first-in-Control.first) c.framed_piece.new.self c.then_all.new.self (rw c.in_ok-first-in-Control.ensures.after rest))
    c.then_all.ensures.no_memory)

-- ---- a broken stream

pub returns-in-Broken-clause-answer : goal.returns-in-Broken-clause-answer
returns-in-Broken-clause-answer g c =
    let put = c.put.ensures (the_view c.self.inside) ∙ ap (left_by c.args.stream) c.self.view_is in
    let same = whole-broken c.args.stream (g.T.AsSlice.items c.args.transmit.payload) c.args.now c.args.self.now
    (with_streams c.put.new.self.list c.self.inside.control.value) c.broken_piece.new.self c.local-local.result (sym c.mode.ensures ∙ c.in-Broken.is) c.local-local.ensures put in
    subst (λ (p : Outcome × State). IfOk c.broken_piece.result (λ given. outcome_of given ≡ p.0)) same c.broken_piece.ensures.answer

pub returns-in-Broken-clause-hands_back : goal.returns-in-Broken-clause-hands_back
returns-in-Broken-clause-hands_back g c = c.broken_piece.ensures.hands_back c.args.transmit

pub returns-in-Broken-clause-after : goal.returns-in-Broken-clause-after
returns-in-Broken-clause-after g c =
    let put = c.put.ensures (the_view c.self.inside) ∙ ap (left_by c.args.stream) c.self.view_is in
    let same = whole-broken c.args.stream (g.T.AsSlice.items c.args.transmit.payload) c.args.now c.args.self.now
    (with_streams c.put.new.self.list c.self.inside.control.value) c.broken_piece.new.self c.local-local.result (sym c.mode.ensures ∙ c.in-Broken.is) c.local-local.ensures put in
    subst (λ (p : Outcome × State). OnOk c.broken_piece.result (c.broken_piece.new.self ≡ p.1)) same c.broken_piece.ensures.after

pub returns-in-Broken-clause-no_memory : goal.returns-in-Broken-clause-no_memory
returns-in-Broken-clause-no_memory g c =
    let put = c.put.ensures (the_view c.self.inside) ∙ ap (left_by c.args.stream) c.self.view_is in
    on_err_weaker c.broken_piece.result
    (ends-broken c.args.stream (g.T.AsSlice.items c.args.transmit.payload) c.args.now c.args.self.now
    (with_streams c.put.new.self.list c.self.inside.control.value) c.broken_piece.new.self c.local-local.result (sym c.mode.ensures ∙ c.in-Broken.is) c.local-local.ensures put)
    c.broken_piece.ensures.no_memory

pub returns-in-Broken-clause-free_broken : goal.returns-in-Broken-clause-free_broken
returns-in-Broken-clause-free_broken g c = λ broken rest.
    let put = c.put.ensures (the_view c.self.inside) ∙ ap (left_by c.args.stream) c.self.view_is in
    no-err c.broken_piece.result
    (on_err_weaker c.broken_piece.result
    (λ ends. rests-end c.args.now (with_streams c.put.new.self.list c.self.inside.control.value) c.broken_piece.new.self
    (subst (λ (u : State). find is_ready u.streams ≡ None) (sym put) rest) ends.1) c.broken_piece.ensures.no_memory)
