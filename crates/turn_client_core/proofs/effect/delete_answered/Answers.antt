use Rattle.turn_client_laws.proofs.Common.{◌∙◌, ap, sym}
use Rattle.turn_client_laws.proofs.Machine.{challenges_reset, closed, Closed}
use Rattle.turn_client_core.proofs.effect.delete_answered.Goals as goal

pub returns-then-is_gone-clause-state : goal.returns-then-is_gone-clause-state
returns-then-is_gone-clause-state c = λ s.
    rw (sym c.is_gone.ensures ∙ c.if-is_gone.true)
    (ap challenges_reset (c.unlist_allocates.ensures.state s Closed ∙ ap closed (c.clear.ensures.state s)))
