use Rattle.std.proofs.Common.{rules}
use Rattle.turn_client_requests.proofs.AskedLemmas.{two_families}
use Rattle.turn_client_requests.proofs.request_attributes.add_families.Goals as goal

pub returns-in-len2-up-clause-all : goal.returns-in-len2-up-clause-all
returns-in-len2-up-clause-all c = rw (two_families c.args.families.now c.in-len2-up.len_at_least) (search rules)
