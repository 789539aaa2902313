use Rattle.turn_client_calls.proofs.CallableLemmas.{all_callable_anywhere}
use Rattle.turn_hostile.proofs.session.replayed.Goals as goal

pub replayed_text-requires-clause-callable : goal.replayed_text-requires-clause-callable
replayed_text-requires-clause-callable c = rw c.as_slice.ensures.value (all_callable_anywhere _ c.in_ok-calls.calls.items c.in_ok-calls.ensures)
