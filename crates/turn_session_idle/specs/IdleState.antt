-- When the peers of a session were used last.
use Rattle.std.specs.Prelude.{ℕ, List, Option}
use Rattle.turn_session_idle.specs.declared.usage.Usage.{Usage}

pub record IdleState : Type 0 where
  -- a peer that is not used for so long is idle, in nanoseconds; without it none ever is
  pub idle : Option ℕ
  -- when it is looked for idle peers next
  pub look : ℕ
  -- what was granted at the last look, in the order in which it was
  pub usages : List Usage
