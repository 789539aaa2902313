use Rattle.std.proofs.Common.{◌≡◌, None, Some, zero, suc, inr, refl, sym, ap, ◌∙◌, length, arith}
use Rattle.std.specs.Prelude.{Option}
use Rattle.turn_client_api.specs.declared.event.TurnEvent.{TurnEvent}
use Rattle.turn_session_client.specs.Drain.{drained, next_event, next_noted, unnoted}
use Rattle.turn_session_client.specs.NotedState.{NotedState}
use Rattle.turn_session_client.proofs.DrainLemmas.{next-taken, next-unnoted, none-drained, noted-fewer, noted-next, some-drained}
use Rattle.turn_session_client.proofs.noted.NotedClient.drain.Goals as goal

pub returns-clause-ok : goal.returns-clause-ok
returns-clause-ok g c =
    let after : c.next_event.new.self ≡ (next_event c.loop-event.self).1 = ap (λ (x : Option TurnEvent × NotedState). x.1) c.next_event.ensures in
    let given : c.next_event.result ≡ (next_event c.loop-event.self).0 = ap (λ (x : Option TurnEvent × NotedState). x.0) c.next_event.ensures in
    let none : c.next_event.result ≡ None = c.in_default.is in
    let (n, some) = c.loop-event.invariant in
    after ∙ (none-drained c.args.now c.loop-event.self (sym given ∙ none)
    ∙ (ap (drained c.args.now) some ∙ some-drained n c.args.now c.args.self.now))

pub returns-clause-some : goal.returns-clause-some
returns-clause-some g c =
    let after : c.next_event.new.self ≡ (next_event c.loop-event.self).1 = ap (λ (x : Option TurnEvent × NotedState). x.1) c.next_event.ensures in
    let (n, some) = c.loop-event.invariant in
    record { count = n; is = inr (after ∙ ap (λ (s : NotedState). (next_event s).1) some) }

pub returns-in_err-note-clause-some : goal.returns-in_err-note-clause-some
returns-in_err-note-clause-some g c =
    let after : c.next_event.new.self ≡ (next_event c.loop-event.self).1 = ap (λ (x : Option TurnEvent × NotedState). x.1) c.next_event.ensures in
    let (n, some) = c.loop-event.invariant in
    record { count = n; is = inr (c.in_err-note.ensures.err ∙ (after ∙ ap (λ (s : NotedState). (next_event s).1) some)) }

pub loop-event-init : goal.loop-event-init
loop-event-init g c = (zero, refl)

pub loop-event-preserved : goal.loop-event-preserved
loop-event-preserved g c =
    let after : c.next_event.new.self ≡ (next_event c.loop-event.self).1 = ap (λ (x : Option TurnEvent × NotedState). x.1) c.next_event.ensures in
    let found : Some c.in-Some.event ≡ (next_event c.loop-event.self).0 = ap (λ (x : Option TurnEvent × NotedState). x.0) c.in-Some.ensures in
    let (n, some) = c.loop-event.invariant in (
      suc n,
      c.in_ok-note.ensures.ok
          ∙ (noted-next c.args.now c.loop-event.self c.next_event.new.self c.in-Some.event after found ∙ ap (next_noted c.args.now) some),
    )

pub loop-event-smaller : goal.loop-event-smaller
loop-event-smaller g c =
    let after : c.next_event.new.self ≡ (next_event c.loop-event.self).1 = ap (λ (x : Option TurnEvent × NotedState). x.1) c.next_event.ensures in
    let found : Some c.in-Some.event ≡ (next_event c.loop-event.self).0 = ap (λ (x : Option TurnEvent × NotedState). x.0) c.in-Some.ensures in
    let taken : c.next_event.new.self.taken ≡ Some c.in-Some.event = ap (λ (s : NotedState). s.taken) after ∙ (next-taken c.loop-event.self ∙ sym found) in
    omega (
      arith,
      noted-fewer c.args.now c.next_event.new.self c.in-Some.event taken,
      ap (λ (s : NotedState). length (unnoted s)) c.in_ok-note.ensures.ok,
      ap (λ (s : NotedState). length (unnoted s)) after,
      ap length (next-unnoted c.loop-event.self),
    )
