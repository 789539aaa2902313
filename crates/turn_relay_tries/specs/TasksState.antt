-- The tasks of the caller that are not answered yet.
use Rattle.std.specs.Prelude.{ℕ, List}
use Rattle.turn_relay_tries.specs.declared.tasks.OpenTask.{OpenTask}

pub record TasksState : Type 0 where
  pub rows : List OpenTask
  -- the number of the next one
  pub next : ℕ
