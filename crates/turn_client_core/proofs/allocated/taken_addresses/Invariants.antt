use Rattle.turn_client_laws.proofs.Common.{◌≡◌, ◌++◌}
use Rattle.turn_client_laws.proofs.Machine.{attributes_left, id_of, relayed_among, relayed_in, taken_addresses}
use Rattle.turn_client_core.specs.Allocated.{missing}
use Rattle.turn_client_core.proofs.allocated.taken_addresses.Given as goal

-- the addresses taken so far, and those taken of the rest
abbrev pub invariant-loop-raw : goal.invariant-loop-raw
invariant-loop-raw l =
    l.taken.items ++ taken_addresses (missing l.taken.items l.families) (relayed_among (id_of l.message) (attributes_left l.raw-iterator))
    ≡ taken_addresses l.families (relayed_in l.message)
