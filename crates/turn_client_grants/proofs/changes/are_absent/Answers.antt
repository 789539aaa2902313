use Rattle.std.proofs.Common.{ap, not}
use Rattle.turn_client_grants.proofs.changes.are_absent.Goals as goal

pub returns : goal.returns
returns c = ap not c.has_any.ensures
