use Rattle.std.proofs.Common.{[], refl, sym, ap, ◌∙◌}
use Rattle.turn_agent.proofs.AgentLemmas.{position-IsFirst, position-none}
use Rattle.turn_client_streams.specs.Buffered.{with_content}
use Rattle.turn_client_streams.specs.Held.{with_streams}
use Rattle.turn_client_streams.proofs.StreamLemmas.{is_at, put-back, set-HasOwnEnds, set-first}
use Rattle.turn_client_streams.proofs.streams.Streams.take_at.Goals as goal

pub invariant_of-self : goal.invariant_of-self
invariant_of-self c =
    rw (c.take_out.ensures.after, c.index_mut.ensures.value)
    (set-HasOwnEnds (is_at c.args.local) (with_content []) (λ x. refl) c.self.inside.list.items c.in-Some.place _ c.self.invariant
    (rw c.as_slice.ensures.value at (sym c.place_at.ensures ∙ c.in-Some.is)))

pub returns-clause-stream : goal.returns-clause-stream
returns-clause-stream c = λ s.
    rw (c.take_out.ensures.stream, c.index_mut.ensures.value, ← c.self.view_is)
    (sym ((position-IsFirst (is_at c.args.local) c.self.inside.list.items c.in-Some.place (rw c.as_slice.ensures.value at (sym c.place_at.ensures ∙ c.in-Some.is))).found _))

pub returns-in_default-clause-stream : goal.returns-in_default-clause-stream
returns-in_default-clause-stream c = λ s.
    rw (← c.self.view_is) (sym (position-none (is_at c.args.local) c.self.inside.list.items (rw c.as_slice.ensures.value at (sym c.place_at.ensures ∙ c.in_default.is))))

pub returns-clause-after : goal.returns-clause-after
returns-clause-after c = λ s.
    rw (c.take_out.ensures.after, c.take_out.ensures.stream, c.index_mut.ensures.value, ← c.self.view_is)
    (ap (λ xs. with_streams xs s) (set-first (is_at c.args.local) (with_content []) c.self.inside.list.items c.in-Some.place _ c.self.invariant
    (rw c.as_slice.ensures.value at (sym c.place_at.ensures ∙ c.in-Some.is))))

pub returns-clause-back : goal.returns-clause-back
returns-clause-back c = λ s.
    rw (c.take_out.ensures.after, c.take_out.ensures.stream, c.index_mut.ensures.value, ← c.self.view_is)
    (ap (λ xs. with_streams xs s) (put-back (is_at c.args.local) c.self.inside.list.items c.in-Some.place _ c.self.invariant
    (rw c.as_slice.ensures.value at (sym c.place_at.ensures ∙ c.in-Some.is))))
