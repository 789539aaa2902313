-- What holds for every client, over all calls.
use Rattle.std.specs.Prelude.{◌≡◌, true, [], None, IsSome, ⊤}
use Rattle.turn_client_api.specs.State.{State}
use Rattle.turn_client_api.specs.declared.state.Phase.{Phase}
use Rattle.turn_client_api.specs.declared.state.Phase.TheVariants.{New, Allocated, Closed}
use Rattle.turn_client_api.specs.Due.{has_queued_request}

-- the client has begun, and has not ended
abbrev pub IsBegun : Phase → Type 0
IsBegun New = ⊥
IsBegun Closed = ⊥
IsBegun _ = ⊤

-- the server has not allocated yet
abbrev pub IsUngranted : Phase → Type 0
IsUngranted Allocated = ⊥
IsUngranted Closed = ⊥
IsUngranted _ = ⊤

-- More than `FitsPhaseForPoll`, which it implies: each call keeps it. A new client has sent nothing, and has
-- nothing to send or to await. One that has begun has sent a packet, and so has one that has a request to
-- send. Before the allocation there are no grants.
abbrev pub FitsPhase : State → Type 0
FitsPhase s =
    (s.phase ≡ New → (s.last_send ≡ None) × (s.queue ≡ []) × (s.transactions ≡ []))
    × (IsBegun s.phase → IsSome s.last_send)
    × (has_queued_request s ≡ true → IsSome s.last_send)
    × (IsUngranted s.phase → s.grants ≡ [])
