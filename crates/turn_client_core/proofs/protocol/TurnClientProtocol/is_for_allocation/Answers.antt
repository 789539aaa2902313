use Rattle.turn_client_laws.proofs.Common.{refl}
use Rattle.turn_client_core.proofs.protocol.TurnClientProtocol.is_for_allocation.Goals as goal

pub returns : goal.returns
returns c = rw (c.is_for_allocation.ensures, c.purposes_of.ensures, c.table.ensures.listed, ← c.self.view_is) refl
