use Rattle.std.proofs.Common.{◌≡◌, drop, fold, map, min}
use Rattle.turn_agent.specs.Agent.{transaction_timeout}
use Rattle.turn_agent.proofs.search.least_with.Given as goal

abbrev pub invariant-loop-transaction : goal.invariant-loop-transaction
invariant-loop-transaction l =
    fold min l.least (map (transaction_timeout l.schedule.timers l.schedule.transport) (drop l.transaction-index l.transactions))
    ≡ fold min l.fn.time (map (transaction_timeout l.schedule.timers l.schedule.transport) l.transactions)
