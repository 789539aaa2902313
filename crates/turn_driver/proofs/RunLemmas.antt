-- What the loop does is a sequence of calls, and nothing that they return is lost.
use Rattle.turn_client_laws.proofs.Common.{◌≡◌, ◌∙◌, ℕ, zero, suc, Bool, true, false, nat_lt, cond, List, [], ◌∷◌, ◌++◌, Option, Some, None, ap, inl, inr, option_map, refl, subst, sym, IfOk, OnOk}
use Rattle.turn_client_laws.proofs.Common.{Result, Ok, Err, option_to_list, AllByRecursion, append-nil, append_assoc}
use Rattle.turn_client_laws.proofs.Machine.{Transmit, State, event_step, Payload, poll_step, state_after, state_after_all, poll_recv_step, transmit_step, Call, Recv, PollRecv, Poll, PollTransmit}
use Rattle.turn_client_laws.proofs.Machine.{PollEvent, TurnEvent, TurnPollRet}
use Rattle.turn_driver.specs.declared.task.Task.{Task}
use Rattle.turn_client_api.specs.declared.poll.TurnPollRet.TheVariants as Poll
use Rattle.turn_driver.specs.Given.{Given, FromPeer, Happened, ToSend}
use Rattle.turn_driver.specs.Next.{Answer, Does, Rests, by_streams, by_time, next_step, to_send, to_report, waiting}
use Rattle.turn_driver.specs.Run.{IsAsk, IsRun, IsWhole, all_given, asked_for, given_by}
use Rattle.turn_driver.specs.Driver.{DriveState, begun, going, once_more, driven, drive_steps, with_answer}
use Rattle.turn_driver.specs.declared.task.Rest.{Rest}
use Rattle.turn_driver.specs.declared.task.Rest.TheVariants.{Until, Now, Ended}
use Rattle.turn_client_runs.proofs.LastingRuns.{joined}

-- ---- one answer

abbrev in_answer : Answer → List Given
in_answer (Does given) = given ∷ []
in_answer (Rests rest) = []

-- after a call that returned this, some calls return the remaining part of an answer
abbrev GoesOn : ℕ → List Given → State → Answer × State → Type 0
GoesOn now front s p =
    (calls : List Call) × AllByRecursion (IsAsk now) calls × ((in_answer p.0 ≡ front ++ all_given s calls) × (p.1 ≡ state_after_all s calls))

first : (now : ℕ) (call : Call) (s : State) (p : Answer × State) → IsAsk now call → GoesOn now (given_by call s) (state_after call s) p → GoesOn now [] s p
first now call s p asks (calls, all, run) = (call ∷ calls, (asks, all), run)

sent-run : (now : ℕ) (rest : Rest) (p : Option (Transmit (List ℕ)) × State) → GoesOn now (option_to_list (option_map ToSend p.0)) p.1 (to_send rest p)
sent-run now rest (Some packet, s) = ([], tt, (refl, refl))
sent-run now rest (None, s) = ([], tt, (refl, refl))

reported-run : (now : ℕ) (rest : Rest) (p : Option TurnEvent × State) → GoesOn now (option_to_list (option_map Happened p.0)) p.1 (to_report now rest p)
reported-run now rest (Some event, s) = ([], tt, (refl, refl))
reported-run now rest (None, s) = first now (PollTransmit now) s (to_send rest (transmit_step now s)) (inr (inr (inr refl))) (sent-run now rest (transmit_step now s))

waiting-run : (now : ℕ) (rest : Rest) (s : State) → GoesOn now [] s (waiting now rest s)
waiting-run now rest s = first now PollEvent s (waiting now rest s) (inr (inr (inl refl))) (reported-run now rest (event_step s))

until-run : (later : Bool) (now time : ℕ) (s : State) → GoesOn now [] s (cond later (Rests (Until time), s) (waiting now Now s))
until-run true now time s = ([], tt, (refl, refl))
until-run false now time s = waiting-run now Now s

time-run : (now : ℕ) (p : TurnPollRet × State) → GoesOn now (asked_for p.0) p.1 (by_time now p)
time-run now (Poll.AllocateTcpSocket id socket peer, s) = ([], tt, (refl, refl))
time-run now (Poll.TcpClose local remote, s) = ([], tt, (refl, refl))
time-run now (Poll.WaitUntil time, s) = until-run (nat_lt now time) now time s
time-run now (Poll.Closed, s) = waiting-run now Ended s

streams-run : (now : ℕ) (p : Option Payload × State) → GoesOn now (option_to_list (option_map FromPeer p.0)) p.1 (by_streams now p)
streams-run now (Some payload, s) = ([], tt, (refl, refl))
streams-run now (None, s) = first now (Poll now) s (by_time now (poll_step now s)) (inr (inl refl)) (time-run now (poll_step now s))

pub next-run : (now : ℕ) (s : State) → GoesOn now [] s (next_step now s)
next-run now s = first now (PollRecv now) s (next_step now s) (inl refl) (streams-run now (poll_recv_step now s))

-- ---- sequences of calls joined

given-append : (s : State) (calls more : List Call) → all_given s (calls ++ more) ≡ all_given s calls ++ all_given (state_after_all s calls) more
given-append s [] more = refl
given-append s (call ∷ calls) more =
    ap (λ given. given_by call s ++ given) (given-append (state_after call s) calls more)
    ∙ sym (append_assoc (given_by call s) (all_given (state_after call s) calls) (all_given (state_after_all (state_after call s) calls) more))

asks-append : (now : ℕ) (calls more : List Call) → AllByRecursion (IsAsk now) calls → AllByRecursion (IsAsk now) more → AllByRecursion (IsAsk now) (calls ++ more)
asks-append now [] more all others = others
asks-append now (call ∷ calls) more (asks, all) others = (asks, asks-append now calls more all others)

IsRun-append : (calls more : List Call) (t u v : DriveState) → IsRun calls t u → IsRun more u v → IsRun (calls ++ more) t v
IsRun-append calls more t u v one other = (
  other.0
      ∙ (ap (λ given. given ++ all_given u.client more) one.0
      ∙ (ap (λ (s : State). (t.given ++ all_given t.client calls) ++ all_given s more) one.1
      ∙ (append_assoc t.given (all_given t.client calls) (all_given (state_after_all t.client calls) more)
      ∙ sym (ap (λ given. t.given ++ given) (given-append t.client calls more))))),
  other.1 ∙ (ap (λ (s : State). state_after_all s more) one.1 ∙ sym (joined t.client calls more)),
)

-- ---- one iteration of the loop

abbrev Runs : ℕ → DriveState → DriveState → Type 0
Runs now t u = (calls : List Call) × AllByRecursion (IsAsk now) calls × IsRun calls t u

Runs-append : (now : ℕ) (t u v : DriveState) → Runs now t u → Runs now u v → Runs now t v
Runs-append now t u v (calls, all, run) (more, others, after) = (calls ++ more, asks-append now calls more all others, IsRun-append calls more t u v run after)

answer-run : (now : ℕ) (given : List Given) (s : State) (p : Answer × State) → GoesOn now [] s p → Runs now (going given s) (with_answer given p)
answer-run now given s (Does one, t) (calls, all, reported) = (calls, all, (ap (λ more. given ++ more) reported.0, reported.1))
answer-run now given s (Rests rest, t) (calls, all, reported) = (calls, all, (sym (append-nil given) ∙ ap (λ more. given ++ more) reported.0, reported.1))

once_more-run : (now : ℕ) (given : List Given) (rest : Rest) (s : State) → Runs now (record { given = given; rest = rest; client = s })
    (once_more now (record { given = given; rest = rest; client = s }))
once_more-run now given Now s = answer-run now given s (next_step now s) (next-run now s)
once_more-run now given (Until time) s = ([], tt, (sym (append-nil given), refl))
once_more-run now given Ended s = ([], tt, (sym (append-nil given), refl))

steps-run : (n now : ℕ) (t : DriveState) → Runs now t (drive_steps n now t)
unfolding drive_steps
steps-run zero now t = ([], tt, (sym (append-nil t.given), refl))
steps-run (suc n) now t =
    let u = drive_steps n now t in
    Runs-append now t u (once_more now u) (steps-run n now t) (once_more-run now u.given u.rest u.client)

-- the input is passed in first
begun-run : (packet : Transmit (List ℕ)) (now : ℕ) (t : DriveState) → IsRun (Recv packet now ∷ []) t (begun (Some packet) now t)
begun-run packet now t = (ap (λ given. t.given ++ given) (sym (append-nil (given_by (Recv packet now) t.client))), refl)

drive-whole : (came : Option (Transmit (List ℕ))) (most now : ℕ) (t : DriveState) → IsWhole came now t (drive_steps most now (begun came now t))
drive-whole None most now t = steps-run most now t
drive-whole (Some packet) most now t = by (steps-run most now (begun (Some packet) now t))
  where
    by : Runs now (begun (Some packet) now t) (drive_steps most now (begun (Some packet) now t)) → IsWhole (Some packet) now t (drive_steps most now (begun (Some packet) now t))
    by (calls, all, run) = (calls, all, IsRun-append (Recv packet now ∷ []) calls t (begun (Some packet) now t) (drive_steps most now (begun (Some packet) now t)) (begun-run packet now t) run)

-- the same holds of the list that is returned
pub whole-ok : {E : Type 0} (r : Result Rest E) (came : Option (Transmit (List ℕ))) (most now : ℕ) (t : DriveState) (tasks : List Task) (s : State)
    → IfOk r (λ rest. driven tasks rest s ≡ drive_steps most now (begun came now t)) → OnOk r (IsWhole came now t (driven tasks Now s))
whole-ok (Ok rest) came most now t tasks s reported = subst (λ (u : DriveState). IsWhole came now t (record u { rest = Now })) (sym reported) (drive-whole came most now t)
whole-ok (Err e) came most now t tasks s reported = tt
