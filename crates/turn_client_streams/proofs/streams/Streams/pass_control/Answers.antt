use Rattle.turn_client_streams.proofs.StreamLemmas.{passed-control}
use Rattle.turn_client_streams.proofs.streams.Streams.pass_control.Goals as goal

pub returns : goal.returns
returns c = λ s.
    rw (c.pass.ensures, c.index_mut.ensures.value, ← c.self.view_is)
    (passed-control c.self.inside.list.items _ c.args.len s c.self.invariant (rw (← c.self.view_is) at c.requires))
