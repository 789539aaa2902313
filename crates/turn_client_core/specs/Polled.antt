-- What a client does as time passes, step by step.
use Rattle.std.specs.Prelude.{ℕ, Bool, ◌&&◌, if◌then◌else◌, Option, Some, None, is_none, slice_get}
use Rattle.turn_client_api.specs.Calls.{is_allocated}
use Rattle.turn_client_api.specs.Effect.{closed}
use Rattle.turn_client_api.specs.Grants.{allocations}
use Rattle.turn_client_api.specs.Poll.{is_listed_for_allocation}
use Rattle.turn_client_api.specs.State.{State}

-- the client has ended if the request that timed out is an ALLOCATE
abbrev pub unallocated : Option ℕ → State → State
unallocated (Some id) s = if is_listed_for_allocation id s then closed s else s
unallocated None s = s

-- the server granted an allocation, and no allocation is left
abbrev pub is_without_allocation : State → Bool
is_without_allocation s = is_allocated s.phase && is_none (slice_get (allocations s) 0)
