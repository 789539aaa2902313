use Rattle.turn_c_calls.proofs.handle.plain.Goals as goal

pub plain-requires-clause-callable : goal.plain-requires-clause-callable
plain-requires-clause-callable g c = let h = rw c.in-Some.is at c.requires in h.0 _
