-- A round of a path check with the transaction IDs of its requests.
use Rattle.std.specs.Prelude.{ℕ, ◌==◌, if◌then◌else◌, Option, Some, None}
use Rattle.turn_stun.specs.declared.transport.TransportType.{TransportType}
use Rattle.turn_agent.specs.TransactionIds.{Source, next_id, behind_id}
use Rattle.turn_session_path.specs.Rounds.{begun_at, round_step}
use Rattle.turn_session_path.specs.declared.asked.Asked.{Asked}
use Rattle.turn_session_path.specs.declared.asked.AskedStep.{AskedStep}
use Rattle.turn_session_path.specs.declared.asked.AskedStep.TheVariants as Steps
use Rattle.turn_session_path.specs.declared.round.Asks.{Asks}
use Rattle.turn_session_path.specs.declared.round.CheckRequest.{CheckRequest}
use Rattle.turn_session_path.specs.declared.round.CheckRequest.TheVariants.{Binding, BarePermission}
use Rattle.turn_session_path.specs.declared.round.RoundStep.{RoundStep}
use Rattle.turn_session_path.specs.declared.round.RoundStep.TheVariants.{Send, WaitUntil, Unanswered}

-- a round that begins now has the next two IDs
abbrev pub asked_with : Asks → ℕ → Source → Asked
asked_with asks now ids = record { round = begun_at asks now; binding = next_id ids; bare = next_id (behind_id ids) }

abbrev pub behind_round : Source → Source
behind_round ids = behind_id (behind_id ids)

abbrev pub id_for : CheckRequest → Asked → ℕ
id_for Binding a = a.binding
id_for BarePermission a = a.bare

abbrev pub request_with : ℕ → Asked → Option CheckRequest
request_with id a = if id == a.binding then Some Binding else (if id == a.bare then Some BarePermission else None)

-- what it sends has its ID
abbrev pub with_id : Asked → RoundStep → AskedStep
with_id a (Send request) = Steps.Send request (id_for request a)
with_id a (WaitUntil time) = Steps.WaitUntil time
with_id a Unanswered = Steps.Unanswered

-- the result of `poll`, and the round after it
abbrev pub asked_step : TransportType → ℕ → Asked → AskedStep × Asked
asked_step transport now a =
    let (step, round) = round_step transport now a.round in (with_id a step, record a { round = round })
