use Rattle.std.specs.List.{IsDistinct}
use Rattle.turn_client_streams.proofs.streams.Streams.new.Goals as goal
use Rattle.turn_client_streams.proofs.streams.Streams.new.Goals.{then-eq+in_ok-push, else-eq}

pub invariant_of-result : goal.invariant_of-result
unfolding IsDistinct
invariant_of-result c = elim c.if-eq.branch [
  | then-eq+in_ok-push w ↦ rw (w.list-is, w.in_ok-push.ensures.items, c.new-list.ensures.items) (tt, tt)
  | else-eq w ↦ rw (w.list-is, c.new-list.ensures.items) tt
]
