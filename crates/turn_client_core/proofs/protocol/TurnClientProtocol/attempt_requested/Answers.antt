use Rattle.turn_client_laws.proofs.Common.{◌∙◌, sym}
use Rattle.turn_client_core.proofs.protocol.TurnClientProtocol.attempt_requested.Goals as goal

pub returns-in_default-clause-ok : goal.returns-in_default-clause-ok
returns-in_default-clause-ok c =
    rw (sym c.connection_id_in.ensures ∙ c.in_default.is, ← c.transaction_id-id.ensures) c.refuse_attempt.ensures.ok

pub returns-in_default-peer_in-clause-ok : goal.returns-in_default-peer_in-clause-ok
returns-in_default-peer_in-clause-ok c =
    rw (sym c.connection_id_in.ensures ∙ c.in-Some.is, sym c.peer_in.ensures ∙ c.in_default-peer_in.is, ← c.transaction_id-id.ensures) c.refuse_attempt-in_default-peer_in.ensures.ok
