use Rattle.turn_client_laws.proofs.InAllocation.{initial-GrantsHaveAllocations, leaves-GrantsHaveAllocations, GrantsHaveAllocations-AllHaveAllocation}
use Rattle.turn_client_laws.proofs.grant_allocations.grants_have_allocations.Goals as goal

pub returns : goal.returns
returns c = record {
  initial = initial-GrantsHaveAllocations;
  kept = leaves-GrantsHaveAllocations;
  stands = GrantsHaveAllocations-AllHaveAllocation;
}
