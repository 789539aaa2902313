use Rattle.turn_client_laws.proofs.AllocateFamilies.{initial-AllocatesInOrder, leaves-AllocatesInOrder, leaves-allocations}
use Rattle.turn_client_laws.proofs.allocates.allocates_ask_for_families.Goals as goal

pub returns : goal.returns
returns c = record {
  initial = initial-AllocatesInOrder;
  kept = leaves-AllocatesInOrder;
  granted = leaves-allocations;
}
