use Rattle.turn_client_runs.proofs.AskedRelayLemmas.{asked-relay-stays-up}
use Rattle.turn_client_runs.proofs.CutRelayLemmas.{cut-relay-stays-up}
use Rattle.turn_client_runs.proofs.LastingRowLemmas.{late-relay-stays-up, relay-stays-up}
use Rattle.turn_client_runs.proofs.RelayRowLemmas.{relay-stays-up-from-first}
use Rattle.turn_client_runs.proofs.lasting.a_relay_stays_up.Goals as goal

pub returns : goal.returns
returns c = record { lasts = relay-stays-up; from_first = relay-stays-up-from-first; though_late = late-relay-stays-up; though_cut = cut-relay-stays-up; though_asked = asked-relay-stays-up }
