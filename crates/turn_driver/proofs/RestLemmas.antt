-- A loop that passes nothing in comes to rest.
use Rattle.turn_client_laws.proofs.Common.{◌≡◌, ◌∙◌, ℕ, zero, suc, ◌+◌, ◌^◌, ◌<◌, ◌≤◌, Bool, true, false, cond, nat_lt, List, [], ◌∷◌, Option, Some, None, ◌⊎◌, ap, arith, inl, inr, length, refl}
use Rattle.turn_client_laws.proofs.Common.{subst, suc-add, sym, zero-add, find, ⊤, ltb-false}
use Rattle.turn_client_laws.proofs.Machine.{Transmit, HasWorkNow, IsTimely, Handled, Ignored, Outcome, Payload, PeerData, PeerIcmp, poll_step, State, initial, state_after, state_after_all}
use Rattle.turn_client_laws.proofs.Machine.{first_ready_step, go_on, is_ready, max_steps, next_frame_step, poll_recv_step, steps_until_payload, transmit_step, Call, Poll as PollCall, PollRecv, Recv}
use Rattle.turn_client_laws.proofs.Machine.{TurnEvent, TurnPollRet, Stream}
use Rattle.turn_client_laws.proofs.Laws.{GrantsHaveAllocations, FitsPhase, calls-walk, SameIn, fixed-all-edits, GrantsHaveAllocations-AllHaveAllocation, initial-GrantsHaveAllocations}
use Rattle.turn_client_laws.proofs.Laws.{leaves-GrantsHaveAllocations, initial-steady, leaves-steadies, steady-FitsPhaseForPoll, step-lighter, weight, poll-timely, call-configured}
use Rattle.turn_client_api.specs.declared.poll.TurnPollRet.TheVariants as Poll
use Rattle.turn_driver.specs.Driver.{DriveState, begun, drive_state, drive_steps, going, once_more, with_answer}
use Rattle.turn_driver.specs.Given.{Given, packet_in}
use Rattle.turn_driver.specs.Next.{Answer, Does, Rests, by_streams, by_time, next_step, poll_answer, to_send, waiting}
use Rattle.turn_driver.specs.Rests.{HasWaits, IsAtRest, LeavesNoWork, LoopsComeToRest, RestsWithin}
use Rattle.turn_driver.specs.declared.task.Rest.{Rest}
use Rattle.turn_driver.specs.declared.task.Rest.TheVariants.{Until, Now, Ended}
use Rattle.turn_driver.specs.declared.task.Task.{Task}
use Rattle.turn_driver.proofs.EndedLemmas.{transmit-IsIdle}
use Rattle.turn_driver.proofs.RestPolls.{IsReported, poll-IsReported}
use Rattle.turn_driver.proofs.RestSends.{transmit-GetsOn}
use Rattle.turn_driver.proofs.RestWaitPolls.{poll-reported}
use Rattle.turn_driver.proofs.RestWaitSends.{transmit-awaits}
use Rattle.turn_driver.proofs.RestWaits.{left_to_await}
use Rattle.turn_driver.proofs.RestWeights.{GetsOn, IsLess, KeepsUp, descends, gets-on-further, left_to_do, less-trans}
use Rattle.turn_driver.proofs.RunLemmas.{next-run}
use Rattle.turn_client_runs.proofs.QuietLemmas.{calls-keep}

-- ---- numbers of which the first that changes gets less

-- What has to hold of them for clients of some kind, which calls keep.
pub record Measures (fit : State → Type 0) (left : ℕ → State → List ℕ) (size : ℕ) : Type 0 where
  pub sized : (now : ℕ) (s : State) → length (left now s) ≡ size
  pub calls : (call : Call) (s : State) → fit s → fit (state_after call s)
  pub phase : (s : State) → fit s → FitsPhase s
  pub in_allocations : (s : State) → fit s → GrantsHaveAllocations s
  pub reported : (now : ℕ) (s : State) → now ≤ 2 ^ 62 → fit s → IsReported (left now) s (poll_step now s)
  pub sends : (now : ℕ) (s : State) → now ≤ 2 ^ 62 → fit s → (packet : Transmit (List ℕ)) → (transmit_step now s).0 ≡ Some packet → GetsOn (left now) s (transmit_step now s).1
  pub reports : (now : ℕ) (event : TurnEvent) (events : List TurnEvent) (s : State) → GetsOn (left now) (record s { events = event ∷ events }) (record s { events = events })
  pub drains : (now : ℕ) (s t : State) → weight t.streams < weight s.streams → GetsOn (left now) s t

-- ---- one answer

-- with a rest nothing is left to do, and with a task less
abbrev GoesOn : (State → List ℕ) → State → Answer × State → Type 0
GoesOn left s (Rests (Until time), t) = ⊤
GoesOn left s (Rests Now, t) = GetsOn left s t
GoesOn left s (Rests Ended, t) = ⊤
GoesOn left s (Does given, t) = GetsOn left s t

goes-on-further : (left : State → List ℕ) (s t : State) (p : Answer × State) → GetsOn left s t → GoesOn left t p → GoesOn left s p
goes-on-further left s t (Rests (Until time), u) less goes = tt
goes-on-further left s t (Rests Now, u) less goes = less-trans (left u) (left t) (left s) goes less
goes-on-further left s t (Rests Ended, u) less goes = tt
goes-on-further left s t (Does given, u) less goes = less-trans (left u) (left t) (left s) goes less

module _ (fit : State → Type 0) (measure : ℕ → State → List ℕ) (size : ℕ) (m : Measures fit measure size) (now : ℕ) (range : now ≤ 2 ^ 62) (s : State) where
  abbrev left : State → List ℕ
  left = measure now

  -- nothing was to be reported and sent, though something was due: a request has timed out
  gave-up : (t : State) → KeepsUp left s t → t.events ≡ [] → (transmit_step now t).0 ≡ None → HasWorkNow now s t → GetsOn left s t
  gave-up t (inl less) none idle busy = less
  gave-up t (inr (same, awaits)) none idle (inl some) = absurd (some none)
  gave-up t (inr (same, awaits)) none idle (inr (inl some)) = absurd (let clash : false ≡ true = rw idle at some in cc)
  gave-up t (inr (same, awaits)) none idle (inr (inr (x, before, after))) = absurd (let clash : true ≡ false = sym before ∙ (rw (← awaits) after) in cc)

  sent-goes-on : (rest : Rest) (t : State) → KeepsUp left s t → t.events ≡ [] → fit t → (rest ≡ Now → HasWorkNow now s t)
      → (p : Option (Transmit (List ℕ)) × State) → transmit_step now t ≡ p → GoesOn left s (to_send rest p)
  sent-goes-on rest t keeps none is busy (Some packet, u) e =
      let less : GetsOn left t (transmit_step now t).1 = m.sends now t range is packet (rw e refl) in
      gets-on-further left s t u keeps (rw e at less)
  sent-goes-on (Until time) t keeps none is busy (None, u) e = tt
  sent-goes-on Ended t keeps none is busy (None, u) e = tt
  sent-goes-on Now t keeps none is busy (None, u) e =
      let idle : (transmit_step now t).0 ≡ None = rw e refl in
      let stays : (transmit_step now t).1 ≡ t = transmit-IsIdle now t idle in
      let same : u ≡ t = sym (rw e refl) ∙ stays in
      subst (GetsOn left s) (sym same) (gave-up t keeps none idle (busy refl))

  waiting-goes-on : (rest : Rest) (t : State) → KeepsUp left s t → fit t → (rest ≡ Now → HasWorkNow now s t) → GoesOn left s (waiting now rest t)
  waiting-goes-on rest t = by t.events
    where
      by : (events : List TurnEvent) → KeepsUp left s (record t { events = events }) → fit (record t { events = events }) → (rest ≡ Now → HasWorkNow now s (record t { events = events }))
          → GoesOn left s (waiting now rest (record t { events = events }))
      by [] keeps is busy = let u : State = record t { events = [] } in sent-goes-on rest u keeps refl is busy (transmit_step now u) refl
      by (event ∷ events) keeps is busy =
          gets-on-further left s (record t { events = event ∷ events }) (record t { events = events }) keeps (m.reports now event events t)

  reported-goes-on : (p : TurnPollRet × State) → IsReported left s p → IsTimely p.0 now s p.1 → fit p.1 → GoesOn left s (by_time now p)
  reported-goes-on (Poll.AllocateTcpSocket id socket peer, t) reported timely is = reported
  reported-goes-on (Poll.TcpClose local remote, t) reported timely is = reported
  reported-goes-on (Poll.Closed, t) reported timely is = waiting-goes-on Ended t reported is (λ e. cc)
  reported-goes-on (Poll.WaitUntil time, t) reported timely is = by (nat_lt now time) refl
    where
      by : (b : Bool) → nat_lt now time ≡ b → GoesOn left s (cond b (Rests (Until time), t) (waiting now Now t))
      by true e = tt
      by false e = waiting-goes-on Now t reported is (λ same. timely.1 (ltb-false now time e))

  polled-goes-on : fit s → GoesOn left s (poll_answer now s)
  polled-goes-on is =
      reported-goes-on (poll_step now s) (m.reported now s range is)
      (poll-timely now s (steady-FitsPhaseForPoll s (m.phase s is)) (GrantsHaveAllocations-AllHaveAllocation s (m.in_allocations s is)) range) (m.calls (PollCall now) s is)

-- ---- the streams

-- a step of a stream leaves fewer bytes, and without one nothing changes
drains : (n now : ℕ) (s : State) → (weight (steps_until_payload n now s).1.streams < weight s.streams) ⊎ (steps_until_payload n now s ≡ (None, s))
unfolding steps_until_payload
drains zero now s = inr refl
drains (suc n) now s = by (find is_ready s.streams) refl (λ t. drains n now t)
  where
    Later : Type 0
    Later = (t : State) → (weight (steps_until_payload n now t).1.streams < weight t.streams) ⊎ (steps_until_payload n now t ≡ (None, t))

    goes : (p : Outcome × State) → weight p.1.streams < weight s.streams → Later → weight (go_on (steps_until_payload n now) p).1.streams < weight s.streams
    goes (PeerData payload, t) less later = less
    goes (Handled, t) less later = elim (later t) [ inl more ↦ omega (arith, less, more) | inr e ↦ rw e less ]
    goes (Ignored, t) less later = elim (later t) [ inl more ↦ omega (arith, less, more) | inr e ↦ rw e less ]
    goes (PeerIcmp transport peer icmp, t) less later = elim (later t) [ inl more ↦ omega (arith, less, more) | inr e ↦ rw e less ]

    by : (o : Option Stream) → find is_ready s.streams ≡ o → Later
        → (weight (first_ready_step (steps_until_payload n now) now s o).1.streams < weight s.streams) ⊎ (first_ready_step (steps_until_payload n now) now s o ≡ (None, s))
    by None e later = inr refl
    by (Some stream) e later = inl (goes (next_frame_step stream now s) (step-lighter stream now s e) later)

next-goes-on : (fit : State → Type 0) (measure : ℕ → State → List ℕ) (size : ℕ) (m : Measures fit measure size) (now : ℕ) → now ≤ 2 ^ 62 → (s : State) → fit s
    → GoesOn (measure now) s (next_step now s)
next-goes-on fit measure size m now range s is = elim (drains (max_steps s) now s) [
  | inl less ↦ fed (poll_recv_step now s) less (m.calls (PollRecv now) s is)
  | inr same ↦ rw same (polled-goes-on fit measure size m now range s is)
]
  where
    fed : (p : Option Payload × State) → weight p.1.streams < weight s.streams → fit p.1 → GoesOn (measure now) s (by_streams now p)
    fed (Some payload, t) less is = m.drains now s t less
    fed (None, t) less is = goes-on-further (measure now) s t (poll_answer now t) (m.drains now s t less) (polled-goes-on fit measure size m now range t is)

-- ---- all polls

-- the first poll comes before the others
first-poll : (n now : ℕ) (t : DriveState) → drive_steps (suc n) now t ≡ drive_steps n now (once_more now t)
unfolding drive_steps
first-poll zero now t = refl
first-poll (suc n) now t = ap (once_more now) (first-poll n now t)

stays-at-rest : (n now : ℕ) (t : DriveState) → IsAtRest t.rest → drive_steps n now t ≡ t
unfolding drive_steps
stays-at-rest zero now t rests = refl
stays-at-rest (suc n) now t rests = ap (once_more now) (stays-at-rest n now t rests) ∙ by t.rest rests
  where
    by : (rest : Rest) → IsAtRest rest → once_more now (record t { rest = rest }) ≡ record t { rest = rest }
    by (Until time) is = refl
    by Now is = absurd is
    by Ended is = refl

-- so many polls are enough, whatever was returned before
abbrev Settles : ℕ → State → Type 0
Settles now s = (n : ℕ) × ((most : ℕ) (given : List Given) → n ≤ most → IsAtRest (drive_steps most now (going given s)).rest)

module _ (fit : State → Type 0) (measure : ℕ → State → List ℕ) (size : ℕ) (m : Measures fit measure size) (now : ℕ) (range : now ≤ 2 ^ 62) where
  settles-first : (s : State) → fit s → GoesOn (measure now) s (next_step now s) → ((t : State) → GetsOn (measure now) s t → fit t → Settles now t) → Settles now s
  settles-first s is goes later = by (next_step now s) refl goes
    where
      fit-after : fit (next_step now s).1
      fit-after = let (calls, all, reported) = next-run now s in rw reported.1 (calls-keep fit m.calls calls s is)

      -- after the first poll
      after : (n : ℕ) (p : Answer × State) → next_step now s ≡ p → ((most : ℕ) (given : List Given) → n ≤ most → IsAtRest (drive_steps most now (with_answer given p)).rest) → Settles now s
      after n p e enough = (n + 1, λ most given less. polls most given less)
        where
          polls : (most : ℕ) (given : List Given) → n + 1 ≤ most → IsAtRest (drive_steps most now (going given s)).rest
          polls zero given less = absurd (omega (arith, less))
          polls (suc most) given less =
              let first : drive_steps (suc most) now (going given s) ≡ drive_steps most now (with_answer given p) = first-poll most now (going given s) ∙ rw e refl in
              rw first (enough most given (omega (arith, less)))

      by : (p : Answer × State) → next_step now s ≡ p → GoesOn (measure now) s p → Settles now s
      by (Rests (Until time), t) e goes = after 0 (Rests (Until time), t) e (λ most given less. rw (stays-at-rest most now (with_answer given (Rests (Until time), t)) tt) tt)
      by (Rests Ended, t) e goes = after 0 (Rests Ended, t) e (λ most given less. rw (stays-at-rest most now (with_answer given (Rests Ended, t)) tt) tt)
      by (Rests Now, t) e goes = let (n, enough) = later t goes (rw e at fit-after) in after n (Rests Now, t) e (λ most given few. enough most given few)
      by (Does one, t) e goes = let (n, enough) = later t goes (rw e at fit-after) in after n (Does one, t) e (λ most given few. enough most _ few)

  pub settles : (s : State) → fit s → Settles now s
  settles s is = descends size P step (measure now s) (m.sized now s) s refl is
    where
      P : List ℕ → Type 0
      P xs = (t : State) → measure now t ≡ xs → fit t → Settles now t

      step : (xs : List ℕ) → length xs ≡ size → ((ys : List ℕ) → length ys ≡ size → IsLess ys xs → P ys) → P xs
      step xs sized lesser t e is =
          settles-first t is (next-goes-on fit measure size m now range t is)
          (λ u less fits. lesser (measure now u) (m.sized now u) (subst (IsLess (measure now u)) e less) u refl fits)

-- ---- all iterations

-- what was returned before changes nothing
rest-same : (m now : ℕ) (given other : List Given) (s : State) → (drive_steps m now (going given s)).rest ≡ (drive_steps m now (going other s)).rest
unfolding drive_steps
rest-same zero now given other s = refl
rest-same (suc m) now given other s =
    let one = first-poll m now (going given s) in
    let two = first-poll m now (going other s) in
    rw (one, two) (by (next_step now s) (λ given other t. rest-same m now given other t))
  where
    by : (p : Answer × State) → ((given other : List Given) (t : State) → (drive_steps m now (going given t)).rest ≡ (drive_steps m now (going other t)).rest)
        → (drive_steps m now (with_answer given p)).rest ≡ (drive_steps m now (with_answer other p)).rest
    by (Does one, t) later = later _ _ t
    by (Rests Now, t) later = later given other t
    by (Rests (Until time), t) later =
        rw (stays-at-rest m now (with_answer given (Rests (Until time), t)) tt, stays-at-rest m now (with_answer other (Rests (Until time), t)) tt) refl
    by (Rests Ended, t) later = rw (stays-at-rest m now (with_answer given (Rests Ended, t)) tt, stays-at-rest m now (with_answer other (Rests Ended, t)) tt) refl

more-polls : (m n now : ℕ) (t : DriveState) → drive_steps (m + n) now t ≡ drive_steps m now (drive_steps n now t)
unfolding drive_steps
more-polls zero n now t = rw (zero-add n) refl
more-polls (suc m) n now t = rw (suc-add m n) (ap (once_more now) (more-polls m n now t))

-- so many polls are enough
abbrev IsEnough : ℕ → ℕ → State → Type 0
IsEnough n now s = (most : ℕ) (given : List Given) → n ≤ most → IsAtRest (drive_steps most now (going given s)).rest

iterates : (n most now : ℕ) (s : State) → 0 < most → IsEnough n now s → RestsWithin (suc n) most now s
iterates zero most now s some enough = inl (enough most [] (omega arith))
iterates (suc n) most now s some enough = by t.rest t.given t.client refl (λ u few. iterates n most now u some few)
  where
    t : DriveState
    t = drive_steps most now (going [] s)

    by : (rest : Rest) (given : List Given) (v : State) → t ≡ record { given = given; rest = rest; client = v } → ((u : State) → IsEnough n now u → RestsWithin (suc n) most now u)
        → IsAtRest rest ⊎ RestsWithin (suc n) most now v
    by (Until time) given v e later = inl tt
    by Ended given v e later = inl tt
    by Now given v e later = inr (later v (λ m other less.
        let all : IsAtRest (drive_steps (m + most) now (going [] s)).rest = enough (m + most) [] (omega (arith, less, some)) in
        let same : drive_steps (m + most) now (going [] s) ≡ drive_steps m now (going given v) = more-polls m most now (going [] s) ∙ ap (drive_steps m now) e in
        rw (rest-same m now other given v) (rw same at all)))

-- ---- a run

-- a client of some kind, and each packet and number of polls
pub rests : (fit : State → Type 0) (measure : ℕ → State → List ℕ) (size : ℕ) → Measures fit measure size → (s : State) (now : ℕ) → now ≤ 2 ^ 62 → fit s → LeavesNoWork s now
rests fit measure size m s now range is = record { polls = λ came. polls (packet_in came); iterations = iterations }
  where
    polls : (o : Option (Transmit (List ℕ))) → (n : ℕ) × ((most : ℕ) (tasks : List Task) → n ≤ most → IsAtRest (drive_steps most now (begun o now (drive_state tasks s))).rest)
    polls None = let (n, enough) = settles fit measure size m now range s is in (n, λ most tasks less. enough most _ less)
    polls (Some packet) =
        let (n, enough) = settles fit measure size m now range (state_after (Recv packet now) s) (m.calls (Recv packet now) s is) in
        (n, λ most tasks less. enough most _ less)

    iterations : (most : ℕ) → 0 < most → (n : ℕ) × RestsWithin n most now s
    iterations most some = let (n, enough) = settles fit measure size m now range s is in (suc n, iterates n most now s some enough)

-- ---- with a pause between two requests

record IsFit (s : State) : Type 0 where
  phase : FitsPhase s
  in_allocations : GrantsHaveAllocations s
  pauses : 0 < s.config.request_cadence

call-fit : (call : Call) (s : State) → IsFit s → IsFit (state_after call s)
call-fit call s is = record {
  phase = leaves-steadies call s (state_after call s) (inl refl) is.phase;
  in_allocations = leaves-GrantsHaveAllocations call s (state_after call s) (inl refl) is.in_allocations;
  pauses = rw (call-configured call s) is.pauses;
}

pausing : Measures IsFit left_to_do 5
pausing = record {
  sized = λ now s. refl;
  calls = call-fit;
  phase = λ s is. is.phase;
  in_allocations = λ s is. is.in_allocations;
  reported = λ now s range is. poll-IsReported now s;
  sends = λ now s range is packet e. transmit-GetsOn now s is.pauses range packet e;
  reports = λ now event events s. inr (refl, inr (refl, inr (refl, inr (refl, inl (omega arith)))));
  drains = λ now s t less. inl less;
}

-- ---- with waits

record IsPatient (s : State) : Type 0 where
  phase : FitsPhase s
  in_allocations : GrantsHaveAllocations s
  waits : HasWaits s.transport s.config

call-patient : (call : Call) (s : State) → IsPatient s → IsPatient (state_after call s)
call-patient call s is = record {
  phase = leaves-steadies call s (state_after call s) (inl refl) is.phase;
  in_allocations = leaves-GrantsHaveAllocations call s (state_after call s) (inl refl) is.in_allocations;
  waits =
      let transport : (state_after call s).transport ≡ s.transport = calls-walk (SameIn (λ f. f.0)) (fixed-all-edits (λ f. f.0)) (λ t streams. refl) call s in
      rw (transport, call-configured call s) is.waits;
}

waiting-long : Measures IsPatient left_to_await 7
waiting-long = record {
  sized = λ now s. refl;
  calls = call-patient;
  phase = λ s is. is.phase;
  in_allocations = λ s is. is.in_allocations;
  reported = λ now s range is. poll-reported now s;
  sends = λ now s range is packet e. transmit-awaits now s range is.waits.waits is.waits.keepalive packet e;
  reports = λ now event events s. inr (refl, inr (refl, inr (refl, inr (refl, inr (refl, inr (refl, inl (omega arith)))))));
  drains = λ now s t less. inl less;
}

pub loops-come-to-rest : LoopsComeToRest
loops-come-to-rest transport local remote config seed calls now (inl pauses) range =
    let first : State = initial transport local remote config seed in
    let fits : IsFit first = record {
      phase = initial-steady transport local remote config seed;
      in_allocations = initial-GrantsHaveAllocations transport local remote config seed;
      pauses = pauses;
    } in
    rests IsFit left_to_do 5 pausing (state_after_all first calls) now range (calls-keep IsFit call-fit calls first fits)
loops-come-to-rest transport local remote config seed calls now (inr waits) range =
    let first : State = initial transport local remote config seed in
    let fits : IsPatient first = record {
      phase = initial-steady transport local remote config seed;
      in_allocations = initial-GrantsHaveAllocations transport local remote config seed;
      waits = waits;
    } in
    rests IsPatient left_to_await 7 waiting-long (state_after_all first calls) now range (calls-keep IsPatient call-patient calls first fits)
