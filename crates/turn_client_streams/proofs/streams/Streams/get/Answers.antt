use Rattle.std.proofs.Common.{Some, sym, ap, ◌∙◌}
use Rattle.turn_agent.proofs.AgentLemmas.{position-IsFirst, position-none}
use Rattle.turn_client_streams.proofs.StreamLemmas.{is_at}
use Rattle.turn_client_streams.proofs.streams.Streams.get.Goals as goal

pub returns : goal.returns
returns c = λ s.
    let place = rw c.as_slice.ensures.value at (sym c.place_at.ensures ∙ c.in-Some.is) in
    rw (← c.self.view_is)
    (ap Some c.index.ensures ∙ sym ((position-IsFirst (is_at c.args.local) c.self.inside.list.items c.in-Some.place place).found c.index.result.now))

pub returns-in_default : goal.returns-in_default
returns-in_default c = λ s.
    rw (← c.self.view_is)
    (sym (position-none (is_at c.args.local) c.self.inside.list.items (rw c.as_slice.ensures.value at (sym c.place_at.ensures ∙ c.in_default.is))))
