use Rattle.std.proofs.Common.{◌≡◌, ◌∙◌, ℕ, List, Some, ap, false, sym, true}
use Rattle.std.specs.Prelude.{None}
use Rattle.turn_types.specs.Incoming.{ComesWith, incoming_bytes}
use Rattle.turn_client_api.specs.Streams.{stream_with_piece}
use Rattle.turn_client_api.specs.Receive.{place_kept}
use Rattle.turn_client_api.specs.declared.state.Stream.{Stream}
use Rattle.turn_client_streams.specs.Buffered.{front_frame, without_front}
use Rattle.turn_client_tcp.specs.Origins.{carried_step}
use Rattle.turn_client_tcp.proofs.OriginLemmas.{carried-piece}
use Rattle.turn_client_tcp.proofs.FreePieceLemmas.{free-front, free-is}
use Rattle.turn_client_tcp.specs.StreamSteps.{left_by, put_or_broken}
use Rattle.turn_client_tcp.proofs.PieceLemmas.{comes-given, comes-with, fed-none, fed-some, handled-kept}
use Rattle.turn_client_tcp.proofs.TurnLemmas.{front-whole}
use Rattle.turn_client_tcp.proofs.protocol.TurnClientTcpProtocol.framed_piece.Goals as goal

pub first_frame-requires-clause-whole : goal.first_frame-requires-clause-whole
first_frame-requires-clause-whole g c =
    front-whole (stream_with_piece c.args.stream (g.T.AsSlice.items c.args.transmit.payload)) (incoming_bytes g.T.AsSlice.items c.in-Some.front) (rw c.in-Some.is at c.in-Ok.ensures.frame)

pub returns-in-Ok-first_frame-clause-answer : goal.returns-in-Ok-first_frame-clause-answer
returns-in-Ok-first_frame-clause-answer g c =
    let items = g.T.AsSlice.items in
    let waited = c.args.stream.bytes in
    let all : Stream = stream_with_piece c.args.stream (items c.args.transmit.payload) in
    let frame : List ℕ = incoming_bytes items c.in-Some.front in
    let now = c.args.now in
    let t = c.args.self.now in
    let front : Some frame ≡ front_frame all = rw c.in-Some.is at c.in-Ok.ensures.frame in
    let comes : ComesWith items waited c.args.transmit c.in-Some.front = rw c.in-Some.is at c.in-Ok.ensures.place in
    let held = carried-piece c.args.origin c.args.stream (items c.args.transmit.payload) c.requires.origin in
    let same = comes-given items waited c.args.transmit c.in-Some.front (carried_step c.args.origin frame now t).0 comes
    ∙ ap (place_kept waited) (sym (ap (λ p. p.0) (fed-some all c.args.origin frame now t held front))) in
    c.in-Ok-first_frame.ensures.answer ∙ same

pub returns-in_default-given-clause-answer : goal.returns-in_default-given-clause-answer
returns-in_default-given-clause-answer g c =
    let all : Stream = stream_with_piece c.args.stream (g.T.AsSlice.items c.args.transmit.payload) in
    let held = carried-piece c.args.origin c.args.stream (g.T.AsSlice.items c.args.transmit.payload) c.requires.origin in
    let none : None ≡ front_frame all = rw c.in_default-given.is at c.in-Ok.ensures.frame in
    sym (ap (λ p. place_kept c.args.stream.bytes p.0) (fed-none all c.args.origin c.args.now c.args.self.now held none) ∙ handled-kept c.args.stream.bytes)

pub returns-in_default-given-clause-after : goal.returns-in_default-given-clause-after
returns-in_default-given-clause-after g c =
    let all : Stream = stream_with_piece c.args.stream (g.T.AsSlice.items c.args.transmit.payload) in
    let held = carried-piece c.args.origin c.args.stream (g.T.AsSlice.items c.args.transmit.payload) c.requires.origin in
    let none : None ≡ front_frame all = rw c.in_default-given.is at c.in-Ok.ensures.frame in
    c.put_or_break.ensures
    ∙ (ap (λ (u : Stream). put_or_broken u c.args.self.now) c.in-Ok.ensures.after
    ∙ sym (ap (λ p. p.1) (fed-none all c.args.origin c.args.now c.args.self.now held none)))

pub returns-in-Ok-first_frame-clause-hands_back : goal.returns-in-Ok-first_frame-clause-hands_back
returns-in-Ok-first_frame-clause-hands_back g c =
    let items = g.T.AsSlice.items in
    let comes : ComesWith items c.args.stream.bytes c.args.transmit c.in-Some.front = rw c.in-Some.is at c.in-Ok.ensures.place in
    rw (comes-with items c.args.stream.bytes c.args.transmit c.in-Some.front comes) at c.in-Ok-first_frame.ensures.hands_back

pub returns-in-Ok-first_frame-clause-after : goal.returns-in-Ok-first_frame-clause-after
returns-in-Ok-first_frame-clause-after g c =
    let items = g.T.AsSlice.items in
    let all : Stream = stream_with_piece c.args.stream (items c.args.transmit.payload) in
    let frame : List ℕ = incoming_bytes items c.in-Some.front in
    let now = c.args.now in
    let t = c.args.self.now in
    let front : Some frame ≡ front_frame all = rw c.in-Some.is at c.in-Ok.ensures.frame in
    let left : c.incoming_tcp.new.self ≡ without_front all = c.in-Ok.ensures.after in
    let held = carried-piece c.args.origin c.args.stream (items c.args.transmit.payload) c.requires.origin in
    let same = ap (λ (u : Stream). left_by u (carried_step c.args.origin frame now t).1) left ∙ sym (ap (λ p. p.1) (fed-some all c.args.origin frame now t held front)) in
    c.in-Ok-first_frame.ensures.after ∙ same

pub returns-in_default-clause-free : goal.returns-in_default-clause-free
returns-in_default-clause-free g c = λ free.
    let is = free-is (g.T.AsSlice.items c.args.transmit.payload) c.args.self.now c.args.stream free in
    let no : false ≡ true = rw c.in_default.is at (c.incoming_tcp.ensures.whole is.waits is.whole) in
    cc

pub returns-in-Err-clause-free : goal.returns-in-Err-clause-free
returns-in-Err-clause-free g c = λ free.
    let items = g.T.AsSlice.items in
    let all : Stream = stream_with_piece c.args.stream (items c.args.transmit.payload) in
    let frame : List ℕ = incoming_bytes items c.in-Some.front in
    let front : Some frame ≡ front_frame all = rw c.in-Some.is at c.in-Ok.ensures.frame in
    absurd (free-front c.args.stream c.args.origin (items c.args.transmit.payload) frame c.args.self.now c.requires.origin free front c.in-Err.ensures.wanted)
