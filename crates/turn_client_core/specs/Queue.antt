-- The queued packets.
use Rattle.std.specs.Prelude.{ℕ, List, filter, length, not}
use Rattle.turn_client_api.specs.declared.state.Queued.{Queued}

-- the packets in their order, and for how many more there is room
pub record Packets : Type 0 where
  pub items : List Queued
  pub room : ℕ

-- how many of them are replies to requests of the server
abbrev pub reply_count : List Queued → ℕ
reply_count queue = length (filter (λ q. not q.is_request) queue)
