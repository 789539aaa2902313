use Rattle.turn_client_streams.proofs.StreamLemmas.{cut-stream, passed-whole}
use Rattle.turn_client_streams.proofs.buffered.BufferedStream.pass.Goals as goal
use Rattle.turn_types.proofs.FrameLemmas.{frame_len-IsWhole}

pub pass_front-requires : goal.pass_front-requires
pass_front-requires c =
    (frame_len-IsWhole c.self.inside.buffer.stream.bytes c.args.len (rw (← c.self.view_is) at c.requires)).within

pub invariant_of-self : goal.invariant_of-self
invariant_of-self c = rw (c.pass_front.ensures.after, cut-stream c.args.len c.self.inside.buffer) c.self.invariant

pub returns : goal.returns
returns c =
    rw (c.pass_front.ensures.after, cut-stream c.args.len c.self.inside.buffer, ← c.self.view_is) (passed-whole c.args.len _ (rw (← c.self.view_is) at c.requires))
