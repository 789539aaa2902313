use Rattle.std.proofs.lemmas.Iterator.{items_from_collect}
use Rattle.std.proofs.lemmas.Iterator.Consumers.{YieldsList-from_first}
use Rattle.turn_client_api.specs.Addresses.{permitted_left}
use Rattle.turn_client_calls.proofs.reads.listed.Goals as goal

pub returns : goal.returns
returns g c = items_from_collect _ c.collect.ensures.ran (YieldsList-from_first (λ x. x) permitted_left _ c.permissions.ensures)
