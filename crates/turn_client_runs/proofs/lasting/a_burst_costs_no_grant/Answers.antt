use Rattle.turn_client_runs.proofs.LastingBurstLemmas.{bursts-cost-nothing, queued-not-extra, queues-need-no-room, queues-need-room}
use Rattle.turn_client_runs.proofs.lasting.a_burst_costs_no_grant.Goals as goal

pub returns : goal.returns
returns c = record { queued = queued-not-extra; no_room = queues-need-no-room; room = queues-need-room; lasts = bursts-cost-nothing }
