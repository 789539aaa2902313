use Rattle.std.proofs.Common.{◌≡◌, ◌||◌, ℕ, drop}
use Rattle.std.specs.Prelude.{nat_eq}
use Rattle.std.specs.HashSet.{contains}
use Rattle.turn_agent.specs.Agent.{is_outstanding}
use Rattle.turn_agent.proofs.ids.set_ids.Given as goal

abbrev pub invariant-loop-transaction : goal.invariant-loop-transaction
invariant-loop-transaction l = (q : ℕ) → (contains nat_eq l.ids q || is_outstanding q (drop l.transaction-index l.transactions)) ≡ is_outstanding q l.transactions
