-- In any run of a client no grant is lost while the server answers and the caller sends what is due.
use Rattle.std.specs.Prelude.{◌≡◌, ◌≢◌, ◌⊎◌, ℕ, ◌+◌, ◌<◌, Bool, false, true, List, [], ◌∷◌, ◌++◌, None, Ok, Some, ⊤}
use Rattle.std.specs.List.{Contains}
use Rattle.std.specs.Net.Socket.{socket_ip}
use Rattle.turn_stun.specs.Message.{id_of}
use Rattle.turn_stun.specs.declared.transport.TransportType.TheVariants.{Udp}
use Rattle.turn_stun.specs.declared.transport.Transmit.{Transmit}
use Rattle.turn_agent.specs.Agent.{is_outstanding}
use Rattle.turn_client_api.specs.Calls.{bind_channel_step, create_permission_step, free_number, is_open_to}
use Rattle.turn_client_api.specs.Grants.{is_permission_of, permission_state}
use Rattle.turn_client_api.specs.Poll.{poll_step}
use Rattle.turn_client_api.specs.State.{State}
use Rattle.turn_client_api.specs.Steps.{state_after, state_after_all}
use Rattle.turn_client_api.specs.declared.call.Call.{Call}
use Rattle.turn_client_api.specs.declared.call.Call.TheVariants.{BindChannel, CreatePermission, Poll, Recv}
use Rattle.turn_client_api.specs.declared.grant.Grant.{Grant}
use Rattle.turn_client_api.specs.declared.grant.Grant.TheVariants.{Allocation, Channel, Permission}
use Rattle.turn_client_api.specs.declared.grant.Progress.TheVariants.{Pending}
use Rattle.turn_client_api.specs.declared.grant.Relay.{Relay}
use Rattle.turn_client_api.specs.declared.poll.TurnPollRet.TheVariants as TurnPollRet
use Rattle.turn_client_api.specs.declared.state.Phase.TheVariants.{Allocated}
use Rattle.turn_client_runs.specs.History.{IsKeptBy}
use Rattle.turn_client_runs.specs.Lasting.{HasStill, IsFresh, IsInForce, IsOneMessage, IsRequested, IsSuccess}
use Rattle.turn_client_runs.specs.InPieces.{RunsAnswered}
use Rattle.turn_client_runs.specs.Late.{IsSteadyBehind}
use Rattle.turn_client_runs.specs.OnTime.{IsFromServer, time_of_all}
use Rattle.turn_client_runs.specs.Promises.{InEachPart}

-- What is in force after the first calls is in force after the others, if it was not let go by those or its refresh time is
-- yet to come. What is requested then is in force once the delay is over. Both hold of what the others do not let go.
abbrev pub LastsThrough : ℕ → ℕ → State → List Call → List Call → Type 0
LastsThrough delay now s before after =
    let between = time_of_all now before in
    let middle = state_after_all s before in
    let last = time_of_all between after in
    (g : Grant) → Contains middle.grants g → IsKeptBy after between middle g
    → (IsInForce between g → IsKeptBy before now s g ⊎ IsFresh between middle g → HasStill g last (state_after_all middle after))
    × (IsRequested g → between + delay < last → HasStill g last (state_after_all middle after))

-- What the caller is told: the client has not ended.
abbrev pub TellsOpen : Call → State → Type 0
TellsOpen (Poll now) s = (poll_step now s).0 ≢ TurnPollRet.Closed
TellsOpen call s = ⊤

-- so it is in each of these calls
abbrev pub TellAllOpen : List Call → State → Type 0
TellAllOpen [] s = ⊤
TellAllOpen (call ∷ calls) s = TellsOpen call s × TellAllOpen calls (state_after call s)

-- one of these is in force
abbrev pub IsOneInForce : (Grant → Bool) → ℕ → State → Type 0
IsOneInForce which now s = (h : Grant) × Contains s.grants h × (which h ≡ true) × IsInForce now h

-- The first of these calls requests a permission or a channel, and the client accepts it. No other call lets that one go.
-- Then it is in force at the end, once the delay is over.
abbrev pub RequestIsGranted : ℕ → ℕ → State → List Call → Type 0
RequestIsGranted delay before s (CreatePermission transport ip now ∷ calls) =
    (create_permission_step transport ip now s).0 ≡ Ok tt
    → IsKeptBy calls now (state_after (CreatePermission transport ip now) s) (Permission ip (Pending true))
    → now + delay < time_of_all now calls
    → IsOneInForce (is_permission_of ip) (time_of_all now calls) (state_after_all s (CreatePermission transport ip now ∷ calls))
RequestIsGranted delay before s (BindChannel transport peer now ∷ calls) =
    (bind_channel_step transport peer now s).0 ≡ Ok tt
    → ((number : ℕ) → IsKeptBy calls now (state_after (BindChannel transport peer now) s) (Channel number peer (Pending true)))
    → now + delay < time_of_all now calls
    → IsOneInForce (is_open_to peer) (time_of_all now calls) (state_after_all s (BindChannel transport peer now ∷ calls))
RequestIsGranted delay before s calls = ⊤

-- The first of these calls binds a channel, and the client accepts it. The channel has the number that was free. Where the peer's
-- IP address had no permission, the same request brings one. Each of the two that no other call lets go is in force at the end,
-- once the delay is over.
abbrev pub BindIsGranted : ℕ → ℕ → State → List Call → Type 0
BindIsGranted delay before s (BindChannel transport peer now ∷ calls) =
    let next = state_after (BindChannel transport peer now) s in
    let lasts : Grant → Type 0 = λ g. IsKeptBy calls now next g → HasStill g (time_of_all now calls) (state_after_all next calls) in
    (bind_channel_step transport peer now s).0 ≡ Ok tt → now + delay < time_of_all now calls
    → ((number : ℕ) → free_number s ≡ Some number → lasts (Channel number peer (Pending true)))
    × (permission_state (socket_ip peer) s ≡ None → lasts (Permission (socket_ip peer) (Pending true)))
BindIsGranted delay before s calls = ⊤

-- The grants last, a request that the client accepts is granted, and the caller is never told that the client has ended.
pub record Lasts (delay now : ℕ) (s : State) (before after : List Call) : Type 0 where
  pub grants : LastsThrough delay now s before after
  pub request : RequestIsGranted delay (time_of_all now before) (state_after_all s before) after
  pub bind : BindIsGranted delay (time_of_all now before) (state_after_all s before) after
  pub allocated : (state_after_all (state_after_all s before) after).phase ≡ Allocated
  pub open_on : (a : Relay) → Contains (state_after_all s before).grants (Allocation a) → TellAllOpen after (state_after_all s before)

-- So it is of each run that begins in a steady state, and in which the server answers within the delay and the caller is late
-- by so much at most.
abbrev pub GrantsLastBehind : Type 0
GrantsLastBehind =
    (count slots extras late delay now : ℕ) (s : State) (before after : List Call) → IsSteadyBehind count slots extras late delay now s
    → RunsAnswered count slots extras late delay now s (before ++ after)
    → Lasts delay now s before after

-- A signed success that comes and grants what an outstanding request requests ends that request, which awaits no other reply
-- then. Over UDP each message from the server's address to the client's is processed as such.
abbrev pub HearsSuccesses : State → List Call → Type 0
HearsSuccesses first calls =
    (earlier later : List Call) (packet : Transmit (List ℕ)) (now : ℕ) → calls ≡ earlier ++ Recv packet now ∷ later
    → let s = state_after_all first earlier in
    (s.phase ≡ Allocated → IsSuccess packet now s → is_outstanding (id_of packet.payload) (state_after (Recv packet now) s).transactions ≡ false)
    × (s.transport ≡ Udp → IsFromServer packet s → IsOneMessage packet now s)

-- In any part of a run that begins in a steady state, and in which the server answers within the delay and the
-- caller is late by so much at most, this is so from each of its calls to its end. And no success that comes is missed.
abbrev pub GrantsLastInRuns : State → List Call → Type 0
GrantsLastInRuns first calls =
    InEachPart (λ s middle.
    (count slots extras late delay now : ℕ) (before after : List Call) → middle ≡ before ++ after
    → IsSteadyBehind count slots extras late delay now s → RunsAnswered count slots extras late delay now s middle
    → Lasts delay now s before after) first calls
    × HearsSuccesses first calls
