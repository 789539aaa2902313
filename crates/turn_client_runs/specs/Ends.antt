-- Why a client has ended, and that `poll` tells it (RFC 8656, sections 7 and 8; RFC 8489, sections 6.2 and 9.2).
use Rattle.std.specs.Prelude.{◌≡◌, ◌⊎◌, ◌<◌, ◌≤◌, ℕ, true, false, List, [], ◌∷◌, ◌++◌, length, None, Some, IfSome, ⊤}
use Rattle.std.specs.List.{Contains}
use Rattle.turn_stun.specs.Message.{id_of}
use Rattle.turn_stun.specs.declared.message.header.MessageClass.TheVariants.{Error, Success}
use Rattle.turn_types.specs.declared.family.AddressFamily.{AddressFamily}
use Rattle.turn_auth.specs.LongTerm.{Challenge}
use Rattle.turn_auth.specs.Validation.{IsValidated, validation_of}
use Rattle.turn_auth.specs.declared.validation.Validation.TheVariants.{Refused}
use Rattle.turn_agent.specs.Agent.{is_response, timed_out_transaction}
use Rattle.turn_agent.specs.declared.transaction.Transaction.{Transaction}
use Rattle.turn_client_api.specs.State.{State, agent_of, auth_of}
use Rattle.turn_client_api.specs.declared.call.Call.{Call}
use Rattle.turn_client_api.specs.declared.call.Call.TheVariants.{Poll, ProtocolError}
use Rattle.turn_client_api.specs.declared.grant.Grant.TheVariants.{Allocation}
use Rattle.turn_client_api.specs.declared.grant.Purpose.TheVariants.{ForAllocation, ForRefresh}
use Rattle.turn_client_api.specs.declared.grant.Relay.{Relay}
use Rattle.turn_client_api.specs.declared.poll.TurnPollRet.TheVariants.{Closed as Ended}
use Rattle.turn_client_api.specs.declared.state.Phase.TheVariants.{Requesting, Authenticating, Allocated, Closed}
use Rattle.turn_client_api.specs.Due.{has_reply}
use Rattle.turn_client_api.specs.Effect.{allocation_mismatch, family_not_supported, has_code, relayed_in, taken_addresses}
use Rattle.turn_client_api.specs.Grants.{purposes_of}
use Rattle.turn_client_api.specs.Judgement.{Challenged, challenge_in, class_in, judgement_of, lifetime_in, method_in}
use Rattle.turn_client_api.specs.Payloads.{is_message}
use Rattle.turn_client_api.specs.Poll.{poll_step}
use Rattle.turn_client_api.specs.Requests.{refresh_method}
use Rattle.turn_client_api.specs.Steps.{state_after, state_after_all}
use Rattle.turn_client_laws.specs.Handled.{Input}
use Rattle.turn_client_laws.specs.LawsGone.{IsPastWith}
use Rattle.turn_client_laws.specs.LawsHandled.{IsDoneBy, IsOverControl}
use Rattle.turn_client_laws.specs.LawsReplies.{IsAccepted, IsAwaited}
use Rattle.turn_client_runs.specs.Granted.{HoldsThrough}

-- ---- a client that has ended

abbrev pub HasNoAllocation : State → Type 0
HasNoAllocation s = (a : Relay) → Contains s.grants (Allocation a) → ⊥

-- it is closed, or had allocations, and none is left
abbrev pub HasEnded : State → Type 0
HasEnded s = (s.phase ≡ Closed) ⊎ ((s.phase ≡ Allocated) × HasNoAllocation s)

-- ---- by a message

-- The client cannot trust the response: before a realm is known nothing is signed, and only a challenge is
-- expected; then it is a reply to an ALLOCATE with a wrong integrity.
pub record IsUntrusted (one : Input) : Type 0 where
  pub response : is_response (class_in one.bytes) ≡ true
  pub unchallenged : challenge_in one.before one.bytes ≡ None
  pub answers : ((one.before.phase ≡ Requesting) × IsAwaited one.bytes one.before)
      ⊎ ((one.before.phase ≡ Authenticating) × Contains (purposes_of (id_of one.bytes) one.before) ForAllocation
      × (validation_of (auth_of one.before) one.bytes ≡ Refused true))

-- it is a challenge after as many as the client answers
abbrev pub IsOneTooMany : Input → Type 0
IsOneTooMany one =
    (challenge : Challenge) × (judgement_of one.before one.bytes ≡ Challenged challenge) × (one.before.config.max_stale_nonces ≤ one.before.challenges)

-- it is an error, other than that the server has no IPv4 addresses, where IPv6 ones are requested too
abbrev pub DeniesAll : Input → Type 0
DeniesAll one = (class_in one.bytes ≡ Error) × (has_code family_not_supported one.bytes ≡ true → length one.before.families < 2)

-- it is a success without a lifetime, or without an address of a requested family
abbrev pub GrantsNone : Input → Type 0
GrantsNone one =
    (class_in one.bytes ≡ Success)
    × IfSome (lifetime_in one.bytes) (λ lifetime. taken_addresses one.before.families (relayed_in one.bytes) ≡ [])

-- it is a signed reply to the outstanding ALLOCATE, after which no family is requested, and none allocated
pub record RefusesAllocation (one : Input) : Type 0 where
  pub phase : one.before.phase ≡ Authenticating
  pub accepted : IsAccepted (judgement_of one.before one.bytes)
  pub signed : IsValidated (validation_of (auth_of one.before) one.bytes)
  pub listed : Contains (purposes_of (id_of one.bytes) one.before) ForAllocation
  pub outstanding : IsAwaited one.bytes one.before
  pub refused : DeniesAll one ⊎ GrantsNone one

-- it is a signed reply to the outstanding REFRESH of 0: there is no allocation any more
pub record ConfirmsDelete (one : Input) : Type 0 where
  pub phase : one.before.phase ≡ Allocated
  pub accepted : IsAccepted (judgement_of one.before one.bytes)
  pub signed : IsValidated (validation_of (auth_of one.before) one.bytes)
  pub listed : (family : AddressFamily) × Contains (purposes_of (id_of one.bytes) one.before) (ForRefresh family 0)
  pub outstanding : IsAwaited one.bytes one.before
  pub method : method_in one.bytes ≡ refresh_method
  pub deleted : (class_in one.bytes ≡ Success) ⊎ ((class_in one.bytes ≡ Error) × (has_code allocation_mismatch one.bytes ≡ true))

-- the message of the control connection ends the client
pub record EndsClient (one : Input) : Type 0 where
  pub over : IsOverControl one
  pub whole : is_message one.bytes ≡ true
  pub cause : IsUntrusted one ⊎ IsOneTooMany one ⊎ RefusesAllocation one ⊎ ConfirmsDelete one

-- ---- by a call itself

-- no response to its ALLOCATE came in time
pub record IsUnanswered (now : ℕ) (s : State) : Type 0 where
  pub request : Transaction
  pub silent : timed_out_transaction (agent_of s) now ≡ Some request
  pub asks : (s.phase ≡ Requesting) ⊎ ((s.phase ≡ Authenticating) × Contains (purposes_of request.id s) ForAllocation)

-- it has an allocation, and the expiry of each has passed
pub record IsExpired (now : ℕ) (s : State) : Type 0 where
  pub phase : s.phase ≡ Allocated
  pub had : (a : Relay) × Contains s.grants (Allocation a)
  pub past : (a : Relay) → Contains s.grants (Allocation a) → IsPastWith now s (Allocation a)

abbrev pub EndsByItself : Call → State → Type 0
EndsByItself (Poll now) s = IsUnanswered now s ⊎ IsExpired now s
EndsByItself ProtocolError s = ⊤
EndsByItself call s = ⊥

abbrev pub Ends : Call → State → Type 0
Ends call s = EndsByItself call s ⊎ IsDoneBy EndsClient call s

-- ---- a run

-- one of these calls ended the client, which has ended since
pub record HasEndedIn (calls : List Call) (first : State) : Type 0 where
  pub earlier : List Call
  pub call : Call
  pub later : List Call
  pub split : calls ≡ earlier ++ call ∷ later
  pub ends : Ends call (state_after_all first earlier)
  pub since : HoldsThrough HasEnded later (state_after call (state_after_all first earlier))

-- `poll` answers that the client has ended only if it has: one of the calls up to this one ended it
abbrev pub EndsAreTrue : State → List Call → Type 0
EndsAreTrue first calls =
    (earlier : List Call) (now : ℕ) (later : List Call) → calls ≡ earlier ++ Poll now ∷ later
    → (poll_step now (state_after_all first earlier)).0 ≡ Ended → HasEndedIn (earlier ++ Poll now ∷ []) first

-- and it answers so if the client has, once each event, reply and close is taken
abbrev pub EndsAreTold : State → List Call → Type 0
EndsAreTold first calls =
    (earlier : List Call) (now : ℕ) (later : List Call) → calls ≡ earlier ++ Poll now ∷ later
    → let s = state_after_all first earlier in
    HasEnded s → s.events ≡ [] → has_reply s ≡ false → s.closes ≡ [] → (poll_step now s).0 ≡ Ended

-- what ends a client at once
abbrev pub EndsAtOnce : Call → State → Type 0
EndsAtOnce ProtocolError s = ⊤
EndsAtOnce call s = IsDoneBy EndsClient call s

-- after which it has ended, whatever is called
abbrev pub EndsAreFinal : State → List Call → Type 0
EndsAreFinal first calls =
    (earlier : List Call) (call : Call) (later : List Call) → calls ≡ earlier ++ call ∷ later
    → EndsAtOnce call (state_after_all first earlier) → HasEnded (state_after_all first calls)

abbrev pub TellsItsEnd : State → List Call → Type 0
TellsItsEnd first calls = EndsAreTrue first calls × EndsAreTold first calls × EndsAreFinal first calls
