use Rattle.turn_client_laws.proofs.Common.{subst, sym}
use Rattle.turn_client_laws.proofs.Machine.{State}
use Rattle.turn_client_core.specs.Attempts.{CanSign}
use Rattle.turn_client_core.proofs.incoming.SignLemmas.{can-sign}
use Rattle.turn_client_core.proofs.protocol.TurnClientProtocol.refuse_attempt.Goals as goal

pub refused_reply-requires : goal.refused_reply-requires
refused_reply-requires c =
    can-sign c.self.inside.phase c.self.inside.auth.held (subst (λ (s : State). CanSign s.phase) (sym c.self.view_is) c.requires) c.self.invariant.held
