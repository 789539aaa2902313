use Rattle.std.proofs.Common.{refl, sym, ap, ◌∙◌}
use Rattle.turn_client_streams.specs.Buffered.{with_content}
use Rattle.turn_client_streams.specs.Held.{with_streams}
use Rattle.turn_client_streams.proofs.StreamLemmas.{is_at, none-local, set-HasOwnEnds, set-local}
use Rattle.turn_client_streams.proofs.streams.Streams.put.Goals as goal

pub invariant_of-self : goal.invariant_of-self
invariant_of-self c =
    rw (c.hold.ensures, c.index_mut.ensures.value)
    (set-HasOwnEnds (is_at c.args.stream.local) (with_content c.args.stream.bytes) (λ x. refl) c.self.inside.list.items c.in-Some.place _ c.self.invariant
    (rw c.as_slice.ensures.value at (sym c.place_of.ensures ∙ c.in-Some.is)))

pub returns-in-Some : goal.returns-in-Some
returns-in-Some c = λ s.
    rw (c.hold.ensures, c.index_mut.ensures.value, ← c.self.view_is)
    (ap (λ xs. with_streams xs s) (set-local c.args.stream.local (with_content c.args.stream.bytes) c.self.inside.list.items c.in-Some.place _ c.self.invariant
    (rw c.as_slice.ensures.value at (sym c.place_of.ensures ∙ c.in-Some.is))))

pub returns-in_default : goal.returns-in_default
returns-in_default c = λ s.
    rw (← c.self.view_is)
    (ap (λ xs. with_streams xs s) (sym (none-local c.args.stream.local (with_content c.args.stream.bytes) c.self.inside.list.items
    (rw c.as_slice.ensures.value at (sym c.place_of.ensures ∙ c.in_default.is)))))
