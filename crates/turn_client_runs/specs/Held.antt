-- The origin of the realm and the algorithm that a client holds (RFC 8489, section 9.2.5).
use Rattle.std.specs.Prelude.{◌≡◌, true, List, Some, None}
use Rattle.turn_auth.specs.LongTerm.{Challenge}
use Rattle.turn_client_api.specs.State.{State}
use Rattle.turn_client_api.specs.Judgement.{Challenged, judgement_of}
use Rattle.turn_client_api.specs.Payloads.{is_message}
use Rattle.turn_client_laws.specs.Handled.{Input, processed}
use Rattle.turn_client_laws.specs.LawsHandled.{IsOverControl}
use Rattle.turn_client_api.specs.declared.call.Call.{Call}
use Rattle.turn_client_runs.specs.Inputs.{IsAmong, handled_in}
use Rattle.turn_client_api.specs.Steps.{state_after_all}

-- the input is this challenge, the first that is answered: nothing was held before it, and it is held after
-- it
pub record IsFirstAnswer (challenge : Challenge) (one : Input) : Type 0 where
  pub over : IsOverControl one
  pub whole : is_message one.bytes ≡ true
  pub none : one.before.held ≡ None
  pub judged : judgement_of one.before one.bytes ≡ Challenged challenge
  pub held : (processed one).1.held ≡ Some challenge

-- it is a challenge of the same realm and algorithm
abbrev pub IsOfChallenge : Challenge → Input → Type 0
IsOfChallenge c one = (d : Challenge) × IsFirstAnswer d one × (c.realm ≡ d.realm) × (c.algorithm ≡ d.algorithm)

-- what is held after the calls is of the realm and the algorithm of the first challenge that was answered in them
abbrev pub HeldFromChallenge : State → List Call → Type 0
HeldFromChallenge s calls = (c : Challenge) → (state_after_all s calls).held ≡ Some c → IsAmong (IsOfChallenge c) (handled_in s calls)
