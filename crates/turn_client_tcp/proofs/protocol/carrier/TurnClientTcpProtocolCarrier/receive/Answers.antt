use Rattle.std.proofs.Common.{◌≡◌, ◌<◌, ◌⊎◌, ◌∙◌, ℕ, Bool, List, [], true, false, Some, ap, inl, inr, length, refl, subst, sym}
use Rattle.std.specs.Prelude.{IfOk, IsOk, OnOk, None, find}
use Rattle.std.proofs.lemmas.Result.{on_err_weaker}
use Rattle.turn_client_api.specs.Payloads.{Outcome}
use Rattle.turn_client_api.specs.Answers.{is_free_piece, outcome_of}
use Rattle.turn_client_api.specs.Memory.{is_free_frame}
use Rattle.turn_client_api.specs.Receive.{is_from_server}
use Rattle.turn_client_api.specs.State.{State}
use Rattle.turn_client_api.specs.Streams.{is_ready, stream_at, with_bytes}
use Rattle.turn_client_api.specs.declared.state.Stream.{Stream}
use Rattle.turn_client_core.proofs.incoming.EffectLemmas.{nil-from}
use Rattle.turn_client_laws.proofs.AnyStreamsLemmas.{with_streams}
use Rattle.turn_client_laws.specs.LawsOrder.{IsUngranted}
use Rattle.turn_client_streams.specs.Buffered.{is_broken_mode}
use Rattle.turn_client_streams.specs.Held.{taken_out}
use Rattle.turn_client_tcp.specs.contracts.protocol.TurnClientTcpProtocol.{the_view}
use Rattle.turn_client_tcp.proofs.ArrivalLemmas.{piece-ends, piece-ignored, piece-step, piece-takes, recv-end, recv-piece, some-from}
use Rattle.turn_client_tcp.proofs.FreePieceLemmas.{free-bound, free-broken, free-either, free-out, free-waits}
use Rattle.turn_client_tcp.proofs.protocol.carrier.TurnClientTcpProtocolCarrier.receive.Goals as goal

-- the piece of a stream comes from the server

pub returns-then-is_empty-clause-answer : goal.returns-then-is_empty-clause-answer
returns-then-is_empty-clause-answer g c =
    let packet = c.args.transmit in
    let bytes = g.T.AsSlice.items packet.payload in
    let own = subst (λ (u : State). is_from_server packet.transport packet.from u ≡ true) c.self.view_is (ap (is_from_server packet.transport packet.from) (sym c.deref.ensures) ∙ (sym c.is_from_server.ensures ∙ c.if-not-is_from_server.false)) in
    let none : bytes ≡ [] = sym c.as_slice.ensures ∙ nil-from c.as_slice.result.now (sym c.is_empty.ensures ∙ c.if-is_empty.true) in
    c.stream_end.ensures.answer c.args.now
    ∙ sym (ap (λ p. p.0) (recv-end packet.transport packet.from packet.to bytes c.args.self.now c.requires.fit.carrier own c.args.now none))

pub returns-then-is_empty-clause-after : goal.returns-then-is_empty-clause-after
returns-then-is_empty-clause-after g c =
    let packet = c.args.transmit in
    let bytes = g.T.AsSlice.items packet.payload in
    let own = subst (λ (u : State). is_from_server packet.transport packet.from u ≡ true) c.self.view_is (ap (is_from_server packet.transport packet.from) (sym c.deref.ensures) ∙ (sym c.is_from_server.ensures ∙ c.if-not-is_from_server.false)) in
    let none : bytes ≡ [] = sym c.as_slice.ensures ∙ nil-from c.as_slice.result.now (sym c.is_empty.ensures ∙ c.if-is_empty.true) in
    c.stream_end.ensures.after c.args.now
    ∙ sym (ap (λ p. p.1) (recv-end packet.transport packet.from packet.to bytes c.args.self.now c.requires.fit.carrier own c.args.now none))

pub returns-in_default-clause-answer : goal.returns-in_default-clause-answer
returns-in_default-clause-answer g c =
    let packet = c.args.transmit in
    let bytes = g.T.AsSlice.items packet.payload in
    let own = subst (λ (u : State). is_from_server packet.transport packet.from u ≡ true) c.self.view_is (ap (is_from_server packet.transport packet.from) (sym c.deref.ensures) ∙ (sym c.is_from_server.ensures ∙ c.if-not-is_from_server.false)) in
    let taken = c.take_at.ensures.stream (the_view c.self.inside) ∙ ap (stream_at packet.to) c.self.view_is in
    sym (ap (λ p. p.0) (recv-piece packet.transport packet.from packet.to bytes c.args.self.now c.requires.fit.carrier own c.args.now
    ∙ piece-ignored packet.to bytes c.args.now c.args.self.now (sym taken ∙ c.in_default.is)))

pub returns-in_default-clause-after : goal.returns-in_default-clause-after
returns-in_default-clause-after g c =
    let packet = c.args.transmit in
    let bytes = g.T.AsSlice.items packet.payload in
    let own = subst (λ (u : State). is_from_server packet.transport packet.from u ≡ true) c.self.view_is (ap (is_from_server packet.transport packet.from) (sym c.deref.ensures) ∙ (sym c.is_from_server.ensures ∙ c.if-not-is_from_server.false)) in
    let taken = c.take_at.ensures.stream (the_view c.self.inside) ∙ ap (stream_at packet.to) c.self.view_is in
    c.take_at.ensures.after (the_view c.self.inside)
    ∙ (ap (taken_out c.take_at.result) c.self.view_is
    ∙ (ap (λ o. taken_out o c.args.self.now) c.in_default.is
    ∙ sym (ap (λ p. p.1) (recv-piece packet.transport packet.from packet.to bytes c.args.self.now c.requires.fit.carrier own c.args.now
    ∙ piece-ignored packet.to bytes c.args.now c.args.self.now (sym taken ∙ c.in_default.is)))))

pub process_piece-requires-clause-some : goal.process_piece-requires-clause-some
process_piece-requires-clause-some g c =
    subst (λ (bytes : List ℕ). 0 < length bytes) c.as_slice.ensures (some-from c.as_slice.result.now (sym c.is_empty.ensures ∙ c.if-is_empty.false))

pub process_piece-requires-clause-before : goal.process_piece-requires-clause-before
process_piece-requires-clause-before g c = subst (λ (u : State). IsUngranted u.phase → u.grants ≡ []) (sym c.self.view_is) c.requires.fit.fits_phase.3

pub returns : goal.returns
returns g c =
    let packet = c.args.transmit in
    let was = c.args.self.now in
    let taken = c.take_at.ensures.stream (the_view c.self.inside) ∙ ap (stream_at packet.to) c.self.view_is in
    let e : stream_at packet.to was ≡ Some stream = sym taken ∙ c.in-Some.is in
    let same = piece-step packet.to stream piece c.args.now was left e some out back
    ∙ sym (recv-piece packet.transport packet.from packet.to piece was c.requires.fit.carrier own c.args.now) in
    let takes = piece-takes packet.transport packet.from packet.to piece was c.requires.fit.carrier own in
    record {
      answer = subst (λ (p : Outcome × State). IfOk c.process_piece.result (λ given. outcome_of given ≡ p.0)) same c.process_piece.ensures.answer;
      hands_back = c.process_piece.ensures.hands_back;
      after = subst (λ (p : Outcome × State). OnOk c.process_piece.result (c.process_piece.new.self ≡ p.1)) same c.process_piece.ensures.after;
      no_memory =
          on_err_weaker c.process_piece.result (piece-ends packet.to stream piece c.args.now was c.process_piece.new.self left c.requires.fit.carrier e some out back)
          c.process_piece.ensures.no_memory;
      free = λ free. by (is_broken_mode stream.mode) refl (free-either packet.to piece was stream e (sym takes ∙ free));
    }
  where
    piece : List ℕ
    piece = g.T.AsSlice.items c.args.transmit.payload

    stream : Stream
    stream = c.in-Some.stream

    own : is_from_server c.args.transmit.transport c.args.transmit.from c.args.self.now ≡ true
    own =
        subst (λ (u : State). is_from_server c.args.transmit.transport c.args.transmit.from u ≡ true) c.self.view_is
        (ap (is_from_server c.args.transmit.transport c.args.transmit.from) (sym c.deref.ensures) ∙ (sym c.is_from_server.ensures ∙ c.if-not-is_from_server.false))

    some : 0 < length piece
    some = subst (λ (bytes : List ℕ). 0 < length bytes) c.as_slice.ensures (some-from c.as_slice.result.now (sym c.is_empty.ensures ∙ c.if-is_empty.false))

    -- the client without the stream's bytes
    left : State
    left = with_streams c.take_at.new.self.list c.self.inside.control.value

    out : left ≡ with_bytes c.in-Some.stream.local [] c.args.self.now
    out =
        c.take_at.ensures.after (the_view c.self.inside)
        ∙ (ap (taken_out c.take_at.result) c.self.view_is ∙ ap (λ o. taken_out o c.args.self.now) c.in-Some.is)

    back : with_bytes c.in-Some.stream.local c.in-Some.stream.bytes left ≡ c.args.self.now
    back = rw c.in-Some.is at (c.take_at.ensures.back (the_view c.self.inside)) ∙ c.self.view_is

    by : (b : Bool) → is_broken_mode stream.mode ≡ b → (is_free_piece piece stream ≡ true) ⊎ (is_free_frame piece c.args.self.now stream ≡ true) → IsOk c.process_piece.result
    by true broken free =
        c.process_piece.ensures.free_broken broken (subst (λ (t : State). find is_ready t.streams ≡ None) (sym back) (free-broken piece c.args.self.now stream broken free))
    by false whole (inl bound) = c.process_piece.ensures.free (free-bound piece stream bound) (free-waits piece stream bound)
    by false whole (inr frame) =
        c.process_piece.ensures.free_frame whole (subst (λ (t : State). is_free_frame piece t stream ≡ true) (sym out)
        (free-out piece c.args.self.now stream stream.local frame))
