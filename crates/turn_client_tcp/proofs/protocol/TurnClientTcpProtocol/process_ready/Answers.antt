use Rattle.std.proofs.Common.{◌≡◌, [], subst, sym, ap, ◌∙◌, Some}
use Rattle.std.specs.Prelude.{find}
use Rattle.std.specs.Option.{option_map}
use Rattle.turn_client_laws.proofs.StreamDrainLemmas.{step-lighter}
use Rattle.turn_client_api.specs.Effect.{closed}
use Rattle.turn_client_api.specs.State.{State}
use Rattle.turn_client_api.specs.Streams.{broken_at, is_ready, next_frame_step, detached_frame_step, with_bytes}
use Rattle.turn_client_api.specs.declared.state.Phase.TheVariants.{Authenticating}
use Rattle.turn_client_laws.proofs.AnyStreamsLemmas.{with_streams}
use Rattle.turn_client_streams.specs.Held.{taken_out}
use Rattle.turn_client_tcp.specs.StreamSteps.{received_payload, owned_payload}
use Rattle.turn_client_tcp.specs.contracts.protocol.TurnClientTcpProtocol.{the_view}
use Rattle.turn_client_tcp.specs.Wanted.{StepWantsMemory}
use Rattle.turn_client_tcp.proofs.TurnLemmas.{bound-first, ends, ends-wanted, first-Rests, leads-on, rests-none, rests-on, rests-some, stays-led}
use Rattle.turn_client_tcp.proofs.UngrantedLemmas.{before-authenticating, led-none}
use Rattle.turn_client_tcp.proofs.protocol.TurnClientTcpProtocol.process_ready.Goals as goal

pub loop-stream-init : goal.loop-stream-init
loop-stream-init c =
    record { rests = first-Rests c.args.now c.args.self.now; led = stays-led c.args.now c.args.self.now }

pub process_detached-requires : goal.process_detached-requires
process_detached-requires c =
    let own = before-authenticating c.loop-stream.self (led-none c.args.now c.args.self.now c.loop-stream.self c.loop-stream.invariant.led c.requires.before) in
    record { before = subst (λ (s : State). s.phase ≡ Authenticating → s.grants ≡ []) (sym c.self.view_is) own }

pub loop-stream-smaller : goal.loop-stream-smaller
loop-stream-smaller c =
    let e : find is_ready c.loop-stream.self.streams ≡ Some c.in-Some.stream = (ap (λ (s : State). find is_ready s.streams) (sym c.self.view_is) ∙ (sym c.take_ready.ensures.stream ∙ c.in-Some.is)) in
    let out : with_streams c.take_ready.new.self.list c.self.inside.control.value ≡ with_bytes c.in-Some.stream.local [] c.loop-stream.self =
    c.take_ready.ensures.after (the_view c.self.inside) ∙ (ap (taken_out c.take_ready.result) c.self.view_is ∙ ap (λ o. taken_out o c.loop-stream.self) c.in-Some.is) in
    let is : c.process_detached.new.self ≡ (next_frame_step c.in-Some.stream c.args.now c.loop-stream.self).1 =
    c.in-Ok-None.ensures.after ∙ ap (λ t. (detached_frame_step c.in-Some.stream c.args.now t).1) out in
    rw is (step-lighter c.in-Some.stream c.args.now c.loop-stream.self e)

pub loop-stream-preserved : goal.loop-stream-preserved
loop-stream-preserved c =
    let e : find is_ready c.loop-stream.self.streams ≡ Some c.in-Some.stream = (ap (λ (s : State). find is_ready s.streams) (sym c.self.view_is) ∙ (sym c.take_ready.ensures.stream ∙ c.in-Some.is)) in
    let out : with_streams c.take_ready.new.self.list c.self.inside.control.value ≡ with_bytes c.in-Some.stream.local [] c.loop-stream.self =
    c.take_ready.ensures.after (the_view c.self.inside) ∙ (ap (taken_out c.take_ready.result) c.self.view_is ∙ ap (λ o. taken_out o c.loop-stream.self) c.in-Some.is) in
    let is : c.process_detached.new.self ≡ (next_frame_step c.in-Some.stream c.args.now c.loop-stream.self).1 =
    c.in-Ok-None.ensures.after ∙ ap (λ t. (detached_frame_step c.in-Some.stream c.args.now t).1) out in
    let reported =
    sym (ap (λ t. owned_payload (detached_frame_step c.in-Some.stream c.args.now t).0) out) ∙ (sym c.in-Ok-None.ensures.answer ∙ ap (λ o. option_map received_payload o) c.in-Ok-None.field-0-is) in
    record {
      rests = rw is (rests-on c.args.now c.args.self.now c.loop-stream.self c.in-Some.stream e reported c.loop-stream.invariant.rests);
      led = rw is (leads-on c.args.now c.args.self.now c.loop-stream.self c.in-Some.stream e reported c.loop-stream.invariant.led);
    }

pub returns-in-Ok-Some-clause-answer : goal.returns-in-Ok-Some-clause-answer
returns-in-Ok-Some-clause-answer c =
    let e : find is_ready c.loop-stream.self.streams ≡ Some c.in-Some.stream = (ap (λ (s : State). find is_ready s.streams) (sym c.self.view_is) ∙ (sym c.take_ready.ensures.stream ∙ c.in-Some.is)) in
    let out : with_streams c.take_ready.new.self.list c.self.inside.control.value ≡ with_bytes c.in-Some.stream.local [] c.loop-stream.self =
    c.take_ready.ensures.after (the_view c.self.inside) ∙ (ap (taken_out c.take_ready.result) c.self.view_is ∙ ap (λ o. taken_out o c.loop-stream.self) c.in-Some.is) in
    let reported =
    sym (ap (λ t. owned_payload (detached_frame_step c.in-Some.stream c.args.now t).0) out) ∙ (sym c.in-Ok-Some.ensures.answer ∙ ap (λ o. option_map received_payload o) c.in-Ok-Some.field-0-is) in
    ap (λ g. Some (received_payload g)) c.in-Ok-Some.given-is
    ∙ sym (ap (λ p. p.0) (rests-some c.args.now c.args.self.now c.loop-stream.self c.in-Some.stream _ e reported c.loop-stream.invariant.rests))

pub returns-in-Ok-Some-clause-after : goal.returns-in-Ok-Some-clause-after
returns-in-Ok-Some-clause-after c =
    let e : find is_ready c.loop-stream.self.streams ≡ Some c.in-Some.stream = (ap (λ (s : State). find is_ready s.streams) (sym c.self.view_is) ∙ (sym c.take_ready.ensures.stream ∙ c.in-Some.is)) in
    let out : with_streams c.take_ready.new.self.list c.self.inside.control.value ≡ with_bytes c.in-Some.stream.local [] c.loop-stream.self =
    c.take_ready.ensures.after (the_view c.self.inside) ∙ (ap (taken_out c.take_ready.result) c.self.view_is ∙ ap (λ o. taken_out o c.loop-stream.self) c.in-Some.is) in
    let is : c.process_detached.new.self ≡ (next_frame_step c.in-Some.stream c.args.now c.loop-stream.self).1 =
    c.in-Ok-Some.ensures.after ∙ ap (λ t. (detached_frame_step c.in-Some.stream c.args.now t).1) out in
    let reported =
    sym (ap (λ t. owned_payload (detached_frame_step c.in-Some.stream c.args.now t).0) out) ∙ (sym c.in-Ok-Some.ensures.answer ∙ ap (λ o. option_map received_payload o) c.in-Ok-Some.field-0-is) in
    is ∙ sym (ap (λ p. p.1) (rests-some c.args.now c.args.self.now c.loop-stream.self c.in-Some.stream _ e reported c.loop-stream.invariant.rests))

pub returns-in-Err-clause-no_memory : goal.returns-in-Err-clause-no_memory
returns-in-Err-clause-no_memory c =
    let e : find is_ready c.loop-stream.self.streams ≡ Some c.in-Some.stream = (ap (λ (s : State). find is_ready s.streams) (sym c.self.view_is) ∙ (sym c.take_ready.ensures.stream ∙ c.in-Some.is)) in
    let out : with_streams c.take_ready.new.self.list c.self.inside.control.value ≡ with_bytes c.in-Some.stream.local [] c.loop-stream.self =
    c.take_ready.ensures.after (the_view c.self.inside) ∙ (ap (taken_out c.take_ready.result) c.self.view_is ∙ ap (λ o. taken_out o c.loop-stream.self) c.in-Some.is) in
    ends c.args.now c.args.self.now c.loop-stream.self _ c.in-Some.stream e c.loop-stream.invariant.led
    (c.end_at.ensures ∙ (ap (λ a. closed (broken_at a c.process_detached.new.self)) c.local-local.ensures ∙ ap (λ (s : State). closed (broken_at c.in-Some.stream.local s)) (c.in-Err.ensures.err ∙ out)))

pub returns-in-Err-clause-wanted : goal.returns-in-Err-clause-wanted
returns-in-Err-clause-wanted c =
    let e : find is_ready c.loop-stream.self.streams ≡ Some c.in-Some.stream = (ap (λ (s : State). find is_ready s.streams) (sym c.self.view_is) ∙ (sym c.take_ready.ensures.stream ∙ c.in-Some.is)) in
    let out : with_streams c.take_ready.new.self.list c.self.inside.control.value ≡ with_bytes c.in-Some.stream.local [] c.loop-stream.self =
    c.take_ready.ensures.after (the_view c.self.inside) ∙ (ap (taken_out c.take_ready.result) c.self.view_is ∙ ap (λ o. taken_out o c.loop-stream.self) c.in-Some.is) in
    ends-wanted c.args.now c.args.self.now c.loop-stream.self _ c.in-Some.stream e c.loop-stream.invariant.led
    (subst (StepWantsMemory c.in-Some.stream c.args.now) out c.in-Err.ensures.wanted)
    (c.end_at.ensures ∙ (ap (λ a. closed (broken_at a c.process_detached.new.self)) c.local-local.ensures ∙ ap (λ (s : State). closed (broken_at c.in-Some.stream.local s)) (c.in-Err.ensures.err ∙ out)))

pub returns-in-Err-clause-free : goal.returns-in-Err-clause-free
returns-in-Err-clause-free c = λ bound.
    let e : find is_ready c.loop-stream.self.streams ≡ Some c.in-Some.stream = (ap (λ (s : State). find is_ready s.streams) (sym c.self.view_is) ∙ (sym c.take_ready.ensures.stream ∙ c.in-Some.is)) in
    c.in-Err.ensures.free (bound-first c.args.now c.args.self.now c.loop-stream.self c.in-Some.stream e c.loop-stream.invariant.led bound)

pub returns-clause-answer : goal.returns-clause-answer
returns-clause-answer c =
    sym (ap (λ p. p.0) (rests-none c.args.now c.args.self.now c.loop-stream.self (ap (λ (s : State). find is_ready s.streams) (sym c.self.view_is) ∙ (sym c.take_ready.ensures.stream ∙ c.in_default.is)) c.loop-stream.invariant.rests))

pub returns-clause-after : goal.returns-clause-after
returns-clause-after c =
    c.take_ready.ensures.after (the_view c.self.inside)
    ∙ (ap (taken_out c.take_ready.result) c.self.view_is ∙ (ap (λ o. taken_out o c.loop-stream.self) c.in_default.is
    ∙ sym (ap (λ p. p.1) (rests-none c.args.now c.args.self.now c.loop-stream.self (ap (λ (s : State). find is_ready s.streams) (sym c.self.view_is) ∙ (sym c.take_ready.ensures.stream ∙ c.in_default.is)) c.loop-stream.invariant.rests))))
