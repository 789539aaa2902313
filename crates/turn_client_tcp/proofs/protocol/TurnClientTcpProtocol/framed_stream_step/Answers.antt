use Rattle.std.proofs.Common.{◌≡◌, ◌∙◌, ap, sym}
use Rattle.turn_client_api.specs.Streams.{broken_at, framed_stream_step, put_back}
use Rattle.turn_client_api.specs.declared.state.Stream.{Stream}
use Rattle.turn_client_streams.specs.Buffered.{passed}
use Rattle.turn_client_tcp.specs.Origins.{carried_step}
use Rattle.turn_client_tcp.specs.StreamSteps.{left_by, owned_payload}
use Rattle.turn_client_tcp.specs.contracts.protocol.TurnClientTcpProtocol.{the_view}
use Rattle.turn_client_tcp.proofs.OriginLemmas.{carried-step}
use Rattle.turn_client_tcp.proofs.PieceLemmas.{front-begins}
use Rattle.turn_client_tcp.proofs.TurnLemmas.{framed-none, framed-some, framed-stuck}
use Rattle.turn_client_tcp.proofs.protocol.TurnClientTcpProtocol.framed_stream_step.Goals as goal

pub returns-in_ok-given-in-Frame-clause-answer : goal.returns-in_ok-given-in-Frame-clause-answer
returns-in_ok-given-in-Frame-clause-answer c =
    let stream = c.args.stream in
    let frame = c.in-Frame.frame.now in
    let now = c.args.now in
    let t = c.args.self.now in
    let front = c.in-Frame.ensures.0 in
    let step : framed_stream_step stream now t ≡ put_back (passed stream).local (passed stream).bytes (carried_step c.args.origin frame now t) =
    framed-some stream frame now t (front-begins stream frame front) front
    ∙ ap (put_back (passed stream).local (passed stream).bytes) (carried-step c.args.origin stream frame now t c.requires.origin) in
    c.in_ok-given-in-Frame.ensures.answer ∙ (ap owned_payload c.in_ok-reported-in-Frame.ensures.answer ∙ sym (ap (λ p. owned_payload p.0) step))

pub returns-in_ok-given-in-Frame-clause-after : goal.returns-in_ok-given-in-Frame-clause-after
returns-in_ok-given-in-Frame-clause-after c =
    let stream = c.args.stream in
    let frame = c.in-Frame.frame.now in
    let now = c.args.now in
    let t = c.args.self.now in
    let front = c.in-Frame.ensures.0 in
    let step : framed_stream_step stream now t ≡ put_back (passed stream).local (passed stream).bytes (carried_step c.args.origin frame now t) =
    framed-some stream frame now t (front-begins stream frame front) front
    ∙ ap (put_back (passed stream).local (passed stream).bytes) (carried-step c.args.origin stream frame now t c.requires.origin) in
    c.put.ensures (the_view c.self.inside)
    ∙ (ap (λ (u : Stream). left_by u (the_view c.self.inside)) c.pass.ensures
    ∙ (ap (left_by (passed stream)) (c.self.view_is ∙ c.in_ok-reported-in-Frame.ensures.after) ∙ sym (ap (λ p. p.1) step)))

pub returns-in-Partial-clause-after : goal.returns-in-Partial-clause-after
returns-in-Partial-clause-after c =
    c.put-in-Partial.ensures (the_view c.self-in-Partial.inside)
    ∙ (ap (left_by c.args.stream) c.self-in-Partial.view_is
    ∙ sym (ap (λ p. p.1) (framed-none c.args.stream c.args.now c.args.self.now c.in-Partial.ensures.1 c.in-Partial.ensures.0)))

pub returns-in-Stuck-clause-after : goal.returns-in-Stuck-clause-after
returns-in-Stuck-clause-after c =
    c.break_at.ensures (the_view c.self-in-Stuck.inside)
    ∙ (ap (λ a. broken_at a (the_view c.self-in-Stuck.inside)) c.local.ensures
    ∙ (ap (broken_at c.args.stream.local) c.self-in-Stuck.view_is
    ∙ sym (ap (λ p. p.1) (framed-stuck c.args.stream c.args.now c.args.self.now c.in-Stuck.ensures))))
