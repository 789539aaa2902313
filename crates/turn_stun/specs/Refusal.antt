-- The contents of an ERROR-CODE (RFC 8489, section 14.8).
use Rattle.std.specs.Prelude.{ℕ, List}

-- the code, and the bytes of the reason
pub record Refusal : Type 0 where
  pub code : ℕ
  pub reason : List ℕ
