-- Which replies are accepted in a run.
use Rattle.std.specs.Prelude.{◌≡◌, ◌⊎◌, ℕ, true, false, List, [], ◌∷◌, ◌++◌, Some}
use Rattle.std.specs.List.{Contains}
use Rattle.std.specs.declared.net.socket_addr.SocketAddr.{SocketAddr}
use Rattle.turn_stun.specs.Message.{id_of}
use Rattle.turn_agent.specs.Agent.{is_outstanding}
use Rattle.turn_client_api.specs.State.{State}
use Rattle.turn_client_api.specs.Requests.{connection_bind_method, fresh_id}
use Rattle.turn_client_api.specs.Judgement.{bind_judgement, judgement_of, method_in}
use Rattle.turn_client_api.specs.Connections.{connection_at}
use Rattle.turn_client_api.specs.Payloads.{is_message}
use Rattle.turn_client_laws.specs.Handled.{Input, handled, processed}
use Rattle.turn_client_laws.specs.LawsHandled.{IsOverControl, IsOverWaiting}
use Rattle.turn_client_laws.specs.LawsReplies.{IsAccepted, IsAwaited, IsDrawn, IsNotAwaited}
use Rattle.turn_client_api.specs.Steps.{state_after, state_after_all}
use Rattle.turn_client_api.specs.declared.call.Call.{Call}
use Rattle.turn_client_api.specs.declared.grant.DataConnection.{DataConnection}
use Rattle.turn_client_api.specs.declared.state.Phase.TheVariants.{Allocated}
use Rattle.turn_client_runs.specs.Inputs.{IsAmong, handled_in}

-- The input is a whole message over the control connection, or a datagram, which is a signed reply to an
-- outstanding request.
pub record IsControlReply (one : Input) : Type 0 where
  pub over : IsOverControl one
  pub whole : is_message one.bytes ≡ true
  pub accepted : IsAccepted (judgement_of one.before one.bytes)

-- The input is a whole message on a connection that waits to be bound, which is a signed reply to its
-- outstanding CONNECTION_BIND (RFC 6062, section 4.3).
pub record IsBindReply (one : Input) : Type 0 where
  pub local : SocketAddr
  pub over : IsOverWaiting local one
  pub whole : is_message one.bytes ≡ true
  pub phase : one.before.phase ≡ Allocated
  pub method : method_in one.bytes ≡ connection_bind_method
  pub connection : DataConnection
  pub found : connection_at local one.before ≡ Some connection
  pub accepted : IsAccepted (bind_judgement one.before local one.bytes)

-- the input is a reply that is accepted
abbrev pub IsReplyInput : Input → Type 0
IsReplyInput one = IsControlReply one ⊎ IsBindReply one

-- its request was outstanding, and is no longer so after the input
abbrev pub EndsItsRequest : Input → Type 0
EndsItsRequest one = IsAwaited one.bytes one.before × IsNotAwaited one.bytes (processed one).1

-- ---- new requests under an ID

-- The input is a whole message, in answer to which a request is made under this ID: the next one when the
-- input is processed. No request was outstanding under it before, and one is after the input.
pub record InputMakesRequest (id : ℕ) (one : Input) : Type 0 where
  pub whole : is_message one.bytes ≡ true
  pub drawn : id ≡ fresh_id one.before
  pub free : is_outstanding id one.before.transactions ≡ false
  pub made : is_outstanding id (processed one).1.transactions ≡ true

-- The call uses this ID for a request. None was outstanding under it before the call, and one is after it.
pub record MakesInCall (id : ℕ) (call : Call) (s : State) : Type 0 where
  pub drawn : IsDrawn call id s
  pub free : is_outstanding id s.transactions ≡ false
  pub made : is_outstanding id (state_after call s).transactions ≡ true

-- one of these inputs makes a request under the ID
abbrev pub IsMadeAmong : ℕ → List Input → Type 0
IsMadeAmong id inputs = IsAmong (InputMakesRequest id) inputs

-- one of these calls does
abbrev pub IsMadeIn : ℕ → State → List Call → Type 0
IsMadeIn id s [] = ⊥
IsMadeIn id s (call ∷ calls) = MakesInCall id call s ⊎ IsMadeIn id (state_after call s) calls

-- If a call processes the reply, and its ID is outstanding after it and these further calls, a new request
-- was made under it since: by a later input of the call, or by a further call.
abbrev pub IsMadeSince : State → Call → List Call → Input → Type 0
IsMadeSince s call calls one =
    (front later : List Input) → handled call s ≡ front ++ one ∷ later → IsAwaited one.bytes (state_after_all (state_after call s) calls)
    → IsMadeAmong (id_of one.bytes) later ⊎ IsMadeIn (id_of one.bytes) (state_after call s) calls

-- both are replies that are accepted, and they have one ID
abbrev pub AreReplies : Input → Input → Type 0
AreReplies one other = IsReplyInput one × IsReplyInput other × (id_of one.bytes ≡ id_of other.bytes)

-- If a call processes two such replies, a new request was made under the ID between them.
abbrev pub IsMadeBetween : State → Call → Type 0
IsMadeBetween s call =
    (one other : Input) (front between rest : List Input) → AreReplies one other → handled call s ≡ front ++ one ∷ (between ++ other ∷ rest)
    → IsMadeAmong (id_of one.bytes) between

-- So it is if a call processes the first, and another, after these calls, the second: the request was made
-- in the one call, in the calls between, or in the other before the second input.
abbrev pub IsMadeUntil : State → Call → List Call → Call → Type 0
IsMadeUntil s call calls last =
    (one other : Input) (front later before rest : List Input) → AreReplies one other → handled call s ≡ front ++ one ∷ later
    → handled last (state_after_all (state_after call s) calls) ≡ before ++ other ∷ rest
    → IsMadeAmong (id_of one.bytes) later
    ⊎ IsMadeIn (id_of one.bytes) (state_after call s) calls ⊎ IsMadeAmong (id_of one.bytes) before

-- each ID that is outstanding after the calls was so before them, or one of them makes a request under it
abbrev pub MakesNewOnesIn : State → List Call → Type 0
MakesNewOnesIn s calls =
    (id : ℕ) → is_outstanding id (state_after_all s calls).transactions ≡ true → (is_outstanding id s.transactions ≡ true) ⊎ IsMadeIn id s calls

-- what holds for each input of the calls in which a reply is accepted
abbrev pub EachReply : (Input → Type 0) → State → List Call → Type 0
EachReply Q s calls = (one : Input) → Contains (handled_in s calls) one → IsReplyInput one → Q one

-- For calls that follow each other: after a reply its ID is outstanding again only if a new request was
-- made under it since, of two replies with one ID the second is to a new request, and no other ID becomes
-- outstanding.
abbrev pub CountsOnce : State → List Call → Type 0
CountsOnce s calls =
    ((call : Call) (later : List Call) (one : Input) → calls ≡ call ∷ later → IsReplyInput one → IsMadeSince s call later one)
    × ((call : Call) → calls ≡ call ∷ [] → IsMadeBetween s call)
    × ((call : Call) (between : List Call) (last : Call) → calls ≡ call ∷ (between ++ last ∷ []) → IsMadeUntil s call between last)
    × MakesNewOnesIn s calls
