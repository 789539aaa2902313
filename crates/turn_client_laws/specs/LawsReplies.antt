-- Which replies are accepted, and which transaction IDs are used.
use Rattle.std.specs.Prelude.{◌≡◌, ◌⊎◌, ℕ, true, false, List, None, ⊤}
use Rattle.std.specs.List.{Contains}
use Rattle.std.specs.declared.net.socket_addr.SocketAddr.{SocketAddr}
use Rattle.turn_stun.specs.Message.{id_of}
use Rattle.turn_agent.specs.Agent.{is_outstanding, is_response}
use Rattle.turn_client_api.specs.State.{State}
use Rattle.turn_client_api.specs.declared.grant.Grant.TheVariants.{Connection}
use Rattle.turn_client_api.specs.declared.grant.DataConnection.{DataConnection}
use Rattle.turn_client_api.specs.declared.grant.Purpose.{Purpose}
use Rattle.turn_client_api.specs.Requests.{fresh_id}
use Rattle.turn_client_api.specs.Judgement.{Judgement, SignedSuccess, SignedError, bind_judgement, class_in, judgement_of}
use Rattle.turn_client_api.specs.Connections.{bind_answered, bind_step}
use Rattle.turn_client_api.specs.Payloads.{answered_purposes, message_step}
use Rattle.turn_client_api.specs.declared.call.Call.{Call}
use Rattle.turn_client_laws.specs.LawsInputs.{Deed, IsBroughtBy}

-- the server grants what was requested, or denies it, and signed that
abbrev pub IsAccepted : Judgement → Type 0
IsAccepted SignedSuccess = ⊤
IsAccepted SignedError = ⊤
IsAccepted _ = ⊥

-- a response with the message's ID is awaited, and none is
abbrev pub IsAwaited : List ℕ → State → Type 0
IsAwaited message s = is_outstanding (id_of message) s.transactions ≡ true

abbrev pub IsNotAwaited : List ℕ → State → Type 0
IsNotAwaited message s = is_outstanding (id_of message) s.transactions ≡ false

-- a reply that is accepted on the connection is awaited no longer
abbrev pub EndsBind : DataConnection → List ℕ → ℕ → State → Type 0
EndsBind c message now s = IsAccepted (bind_judgement s c.local message) → IsNotAwaited message (bind_answered c message now s)

-- where it is not awaited, a connection that is bound was so before
abbrev pub BindsNothing : SocketAddr → List ℕ → ℕ → State → Type 0
BindsNothing local message now s =
    (c : DataConnection) → IsNotAwaited message s → Contains (bind_step local message now s).grants (Connection c) → c.deadline ≡ None
    → Contains s.grants (Connection c)

-- a reply that is accepted over the control connection is awaited no longer, unless its ID is used anew
abbrev pub EndsRequest : List ℕ → ℕ → State → Type 0
EndsRequest message now s =
    IsAccepted (judgement_of s message) → IsAwaited message (message_step message now s).1 → id_of message ≡ fresh_id s

-- its ID is not used anew by the input
abbrev pub EndsForGood : List ℕ → ℕ → State → Type 0
EndsForGood message now s =
    IsAccepted (judgement_of s message) → IsNotAwaited message (message_step message now s).1

-- a response that is not awaited, such as a second copy, changes no grant
abbrev pub GrantsNothing : List ℕ → ℕ → State → Type 0
GrantsNothing message now s =
    is_response (class_in message) ≡ true → IsNotAwaited message s → (message_step message now s).1.grants ≡ s.grants

-- the message is a signed reply to an outstanding request, and answers something that this was made for
abbrev pub IsReplyAccepted : Deed
IsReplyAccepted message now s = IsAccepted (judgement_of s message) × ((p : Purpose) × Contains (answered_purposes message s) p)

-- a call uses the ID: as the next one of the client before the call, or as it is when a message is
-- processed
abbrev pub IsDrawn : Call → ℕ → State → Type 0
IsDrawn call id s = (id ≡ fresh_id s) ⊎ IsBroughtBy (λ message now t. id ≡ fresh_id t) call s

-- each ID that is outstanding after the call was so before it, or the call uses it
abbrev pub DrawsNewOnes : Call → State → State → Type 0
DrawsNewOnes call s t =
    (id : ℕ) → is_outstanding id t.transactions ≡ true → IsDrawn call id s ⊎ (is_outstanding id s.transactions ≡ true)
