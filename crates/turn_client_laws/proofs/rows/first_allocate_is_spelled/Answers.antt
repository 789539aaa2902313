use Rattle.turn_client_laws.proofs.Common.{refl}
use Rattle.turn_client_laws.proofs.Machine.{with_attribute}
use Rattle.turn_client_laws.proofs.rows.first_allocate_is_spelled.Goals as goal

pub returns : goal.returns
unfolding with_attribute
returns c = record {
  ipv4 = λ s id e f. rw (e, f) refl;
  both = λ s id e f. rw (e, f) refl;
  ipv6 = λ s id e f. rw (e, f) refl;
}
