-- No grant is lost either if the server requires another nonce within a stream that is cut.
use Rattle.std.specs.Prelude.{◌≡◌, ◌⊎◌, ℕ, ◌+◌, ◌==◌, ◌<◌, ◌≤◌, nat_lt, Bool, true, not, ◌&&◌, if◌then◌else◌, List, [], ◌∷◌, IsSome}
use Rattle.std.specs.Prelude.{⊤}
use Rattle.std.specs.List.{list_any}
use Rattle.turn_stun.specs.Message.{id_of}
use Rattle.turn_stun.specs.declared.message.header.MessageClass.TheVariants.{Error}
use Rattle.turn_agent.specs.Agent.{is_outstanding}
use Rattle.turn_client_api.specs.Judgement.{challenge_in, class_in}
use Rattle.turn_client_api.specs.Payloads.{is_message}
use Rattle.turn_client_api.specs.Requests.{fresh_id}
use Rattle.turn_client_api.specs.State.{State}
use Rattle.turn_client_api.specs.Steps.{state_after}
use Rattle.turn_client_api.specs.declared.call.Call.{Call}
use Rattle.turn_client_api.specs.declared.call.Call.TheVariants.{PollRecv, Recv}
use Rattle.turn_client_laws.specs.Handled.{Input, handled, processed}
use Rattle.turn_client_laws.specs.LawsHandled.{IsOverControl}
use Rattle.turn_client_runs.specs.History.{History, IsSeldom, no_history, with_call}
use Rattle.turn_client_runs.specs.Lasting.{HoldsAtMost, IsQuiet, queue_ahead}
use Rattle.turn_client_runs.specs.Late.{AreAnswered, IsMild, RunsBehind, RunsGranted, since_next}
use Rattle.turn_client_runs.specs.OnTime.{time_of}

-- ---- what comes in

-- The input is a datagram, or a whole frame of the control connection: a challenge, and the server sent fewer in a row than the
-- client answers (RFC 8489, section 9.2.5).
pub record IsAsking (one : Input) (past : History) : Type 0 where
  pub over : IsOverControl one
  pub whole : is_message one.bytes ≡ true
  pub error : class_in one.bytes ≡ Error
  pub challenge : IsSome (challenge_in one.before one.bytes)
  pub few : past.challenged < one.before.config.max_stale_nonces

-- ---- what came before, input by input

-- a request is made again by it
abbrev pub asks_again : Input → Bool
asks_again one = nat_lt one.before.challenges (processed one).1.challenges

-- a request that is listed has its reply by it
abbrev pub ends_request : Input → Bool
ends_request one =
    let id = id_of one.bytes in
    list_any (λ l. l.id == id) one.before.listed && is_outstanding id one.before.transactions && not (is_outstanding id (processed one).1.transactions)

-- when the request that it makes again was first made: now, unless that is outstanding
abbrev pub made_before : Input → History → ℕ
made_before one past = if is_outstanding (id_of one.bytes) one.before.transactions then past.made (id_of one.bytes) else one.time

-- as `with_call`, for an input
abbrev pub with_input : Input → History → History
with_input one past = record past {
  made = λ id. if id == fresh_id one.before then made_before one past else past.made id;
  extra = if asks_again one then one.time ∷ past.extra else past.extra;
  challenged = if asks_again one then past.challenged + 1 else (if ends_request one then 0 else past.challenged);
}

abbrev pub with_inputs : List Input → History → History
with_inputs [] past = past
with_inputs (one ∷ later) past = with_inputs later (with_input one past)

-- after the call too: where bytes come or are polled for, after each of its inputs
abbrev pub with_all : Call → ℕ → State → History → History
with_all (Recv packet now) time s past = with_inputs (handled (Recv packet now) s) past
with_all (PollRecv now) time s past = with_inputs (handled (PollRecv now) s) past
with_all call time s past = with_call call time s past

-- ---- the run

-- Each input is a success, noise or a challenge, or changes nothing. After it no more packets leave before refreshes, and no more
-- were extra, than may be.
abbrev pub AreCalm : ℕ → ℕ → List Input → History → Type 0
AreCalm slots extras [] past = ⊤
AreCalm slots extras (one ∷ later) past =
    (IsMild one ⊎ IsAsking one past) × (queue_ahead (processed one).1 ≤ slots)
    × IsSeldom extras one.before.config.refresh_ahead one.time (with_input one past) × AreCalm slots extras later (with_input one past)

-- what comes is so, however the stream is cut, and any other call is as in `RunsBehind`
abbrev pub IsCalmByInputs : ℕ → ℕ → Call → History → State → Type 0
IsCalmByInputs slots extras (Recv packet now) past s = AreCalm slots extras (handled (Recv packet now) s) past
IsCalmByInputs slots extras (PollRecv now) past s = AreCalm slots extras (handled (PollRecv now) s) past
IsCalmByInputs slots extras call past s = IsQuiet call past s

-- As `RunsBehind`, by inputs in place of packets: a challenge may come in a stream that is cut anywhere, with anything else in
-- the same piece.
abbrev pub RunsInPieces : ℕ → ℕ → ℕ → ℕ → ℕ → ℕ → ℕ → History → State → List Call → Type 0
RunsInPieces count slots extras late delay since before past s [] = ⊤
RunsInPieces count slots extras late delay since before past s (call ∷ calls) =
    let now = time_of before call in
    let next = state_after call s in
    let later = with_all call now s past in
    (start : ℕ) × AreAnswered late delay since before start now past s × IsCalmByInputs slots extras call past s × HoldsAtMost count slots next
    × IsSeldom extras s.config.refresh_ahead now later
    × RunsInPieces count slots extras late delay (since_next call s start) now later next calls

-- A run from a steady state on, with a caller that is so late and a server that answers: none of the client's requests awaits its
-- success for longer than the delay, by packets or by inputs. So it is if a success for each comes in time
-- (`GrantedAreAnswered`), and this is assumed of the server alone.
abbrev pub RunsAnswered : ℕ → ℕ → ℕ → ℕ → ℕ → ℕ → State → List Call → Type 0
RunsAnswered count slots extras late delay now s calls =
    RunsBehind count slots extras late delay now now (no_history s) s calls
    ⊎ (RunsGranted count slots extras late delay now now (no_history s) s calls ⊎ RunsInPieces count slots extras late delay now now (no_history s) s calls)

-- so it is of a run by packets
abbrev pub PacketsAreEnough : Type 0
PacketsAreEnough =
    (count slots extras late delay now : ℕ) (s : State) (calls : List Call)
    → RunsBehind count slots extras late delay now now (no_history s) s calls ⊎ RunsGranted count slots extras late delay now now (no_history s) s calls
    → RunsAnswered count slots extras late delay now s calls
