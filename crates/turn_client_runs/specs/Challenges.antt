-- How many challenges are answered in a run.
use Rattle.std.specs.Prelude.{◌≡◌, ◌⊎◌, ◌≤◌, ◌<◌, ℕ, nat_lt, Bool, true, List, filter, length}
use Rattle.std.specs.List.{Contains}
use Rattle.turn_auth.specs.LongTerm.{Challenge}
use Rattle.turn_client_api.specs.State.{State}
use Rattle.turn_client_api.specs.Judgement.{Challenged, judgement_of}
use Rattle.turn_client_api.specs.Payloads.{is_message}
use Rattle.turn_client_laws.specs.Handled.{Input, processed}
use Rattle.turn_client_laws.specs.LawsHandled.{IsOverControl}
use Rattle.turn_client_laws.specs.LawsReplies.{IsReplyAccepted}
use Rattle.turn_client_laws.specs.LawsSteps.{IsChallengeCounted}
use Rattle.turn_client_api.specs.declared.call.Call.{Call}
use Rattle.turn_client_api.specs.Steps.{state_after_all}
use Rattle.turn_client_runs.specs.Inputs.{IsAmong, handled_in}

-- no more challenges were answered than the configuration allows
abbrev pub IsWithinChallengeLimit : State → Type 0
IsWithinChallengeLimit s = s.challenges ≤ s.config.max_stale_nonces

-- the input is a challenge over the control connection
pub record IsChallengeInput (one : Input) : Type 0 where
  pub over : IsOverControl one
  pub whole : is_message one.bytes ≡ true
  pub challenge : Challenge
  pub judged : judgement_of one.before one.bytes ≡ Challenged challenge

-- it is counted if it is answered
abbrev pub CountsIt : Input → Type 0
CountsIt one = IsChallengeCounted one.before (processed one).1

-- the input answers a challenge
abbrev pub is_answer : Input → Bool
is_answer one = nat_lt one.before.challenges (processed one).1.challenges

-- so many challenges are answered by these inputs
abbrev pub answers_in : List Input → ℕ
answers_in inputs = length (filter is_answer inputs)

-- one of these inputs is a signed reply to an outstanding request, after which challenges are counted anew
abbrev pub IsReplyAcceptedAmong : List Input → Type 0
IsReplyAcceptedAmong inputs =
    IsAmong (λ one. ((processed one).1.challenges < one.before.challenges)
    × (is_message one.bytes ≡ true) × IsReplyAccepted one.bytes one.time one.before) inputs

-- an input lowers the count only if it is such a reply
abbrev pub LowersAsReply : Input → Type 0
LowersAsReply one =
    (processed one).1.challenges < one.before.challenges → (is_message one.bytes ≡ true) × IsReplyAccepted one.bytes one.time one.before

-- the count falls by such a reply alone: by none but such an input, and in none of these calls without one
abbrev pub FallsByReplies : State → List Call → Type 0
FallsByReplies s calls =
    ((one : Input) → Contains (handled_in s calls) one → LowersAsReply one)
    × ((state_after_all s calls).challenges < s.challenges → IsReplyAcceptedAmong (handled_in s calls))

-- each challenge among the inputs of the calls is counted if it is answered
abbrev pub CountsAll : State → List Call → Type 0
CountsAll s calls = (one : Input) → Contains (handled_in s calls) one → IsChallengeInput one → CountsIt one

-- at most as many are answered by the calls as configured, unless challenges are counted anew among them
abbrev pub AnswersFew : State → List Call → Type 0
AnswersFew s calls = (answers_in (handled_in s calls) ≤ s.config.max_stale_nonces) ⊎ IsReplyAcceptedAmong (handled_in s calls)
