-- The earliest of some times.
use Rattle.std.specs.Prelude.{ℕ, ◌≤◌, List, All}
use Rattle.std.specs.List.{Contains}

-- the time is one of these, and none of them is earlier
pub record IsLeast (time : ℕ) (times : List ℕ) : Type 0 where
  pub one : Contains times time
  pub least : All (λ other. time ≤ other) times
