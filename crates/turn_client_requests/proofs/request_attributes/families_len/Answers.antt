use Rattle.std.proofs.Common.{rules}
use Rattle.turn_client_requests.proofs.AskedLemmas.{two_families}
use Rattle.turn_client_requests.proofs.request_attributes.families_len.Goals as goal

pub returns-in-len2-up-clause-exact : goal.returns-in-len2-up-clause-exact
returns-in-len2-up-clause-exact c = rw (two_families c.args.families.now c.in-len2-up.len_at_least) (search rules)
