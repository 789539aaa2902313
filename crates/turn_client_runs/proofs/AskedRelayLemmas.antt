-- A run over TCP that meets all premises though a challenge is cut.
use Rattle.turn_client_laws.proofs.Common.{◌≡◌, ◌∙◌, ℕ, ◌+◌, ◌≤◌, Bool, true, false, cond, length, take, drop, List, [], ◌∷◌, ◌++◌, Some, ap, append_assoc, arith, inl, inr, refl, IsDistinct}
use Rattle.turn_client_laws.proofs.Common.{subst, sym, All, IsSome, Option, nat_le}
use Rattle.turn_client_laws.proofs.Machine.{Control, Handled, Outcome, PollTransmit, Call, Challenge, Challenged, ForPermission, State, Stream, Transaction, behind_id, broken_at, first_sent}
use Rattle.turn_client_laws.proofs.Machine.{frame_len, frame_step, framed_by, fresh_id, id_of, is_outstanding, judgement_of, listings, message_step, next_frame_step, place_kept, put_back, refresh_time, request_for}
use Rattle.turn_client_laws.proofs.Machine.{state_after, state_after_all, steps_until_payload, then_all, timers_of, to_server, with_bytes}
use Rattle.turn_client_laws.proofs.Laws.{Input, handled, inputs_taken, ip_of_peer, is_front, stream_input, taken_of_len, then_taken}
use Rattle.turn_agent.specs.Schedule as Schedule
use Rattle.turn_client_laws.specs.LawsReceived.{abc_frame, client, empty_stream, server}
use Rattle.turn_types.proofs.FrameLemmas.{IsWhole, IsWhole-append, IsWhole-frame_len}
use Rattle.std.proofs.Math.Seq.{drop-append_seam, take-append_seam}
use Rattle.turn_client_runs.specs.CutRelayRows.{AskedRelayStaysUp, IsStale, LastsThoughAsked, asked_calls, over_tcp, piece_call}
use Rattle.turn_client_runs.specs.History.{History, IsSeldom, all_waits, no_history, with_call}
use Rattle.turn_client_runs.specs.InPieces.{AreCalm, IsAsking, IsCalmByInputs, RunsInPieces, asks_again, ends_request, made_before, with_all, with_input, with_inputs}
use Rattle.turn_client_runs.specs.Lasting.{HasRoom, HoldsAtMost, IsInForce, IsSteady, ahead_of, expiry_of, queue_ahead}
use Rattle.turn_client_runs.specs.Late.{HasRoomBehind, IsSteadyBehind}
use Rattle.turn_client_runs.specs.OnTime.{IsOnTime, time_of}
use Rattle.turn_client_runs.proofs.CutRelayLemmas.{all-waits, begun, first-after, first-handled, id, message-framed, place-handled, sends, sent, text, waiting}
use Rattle.turn_client_runs.proofs.LastingHistory.{call-made, old-apart}
use Rattle.turn_client_runs.proofs.LastingParts.{behind-of, late-at, taken-now}
use Rattle.turn_client_runs.proofs.LastingRowLemmas.{all-none, all-one, all-three, at-once, eqb-self, fits, on-time, requesting, three-in_allocations}
use Rattle.turn_client_runs.proofs.LastingRuns.{challenge-judged}
use Rattle.turn_client_runs.proofs.MadeLemmas.{control-made}

abbrev delay : ℕ
delay = 200_000_000

-- a call that is on time
one-more : (call : Call) (before : ℕ) (past : History) (s t : State) (calls : List Call) → state_after call s ≡ t → IsOnTime before (time_of before call) s
    → All (λ x. time_of before call ≤ past.made x.id + delay) s.transactions → IsCalmByInputs 1 1 call past s → HoldsAtMost 3 1 t
    → IsSeldom 1 s.config.refresh_ahead (time_of before call) (with_all call (time_of before call) s past)
    → RunsInPieces 3 1 1 0 delay (time_of before call) (time_of before call) (with_all call (time_of before call) s past) t calls
    → RunsInPieces 3 1 1 0 delay before before past s (call ∷ calls)
one-more call before past s t calls after punctual answered calm within seldom rest = (
  time_of before call,
  record { caller = late-at 0 before (time_of before call) s punctual; answered = answered },
  calm,
  subst (HoldsAtMost 3 1) (sym after) within,
  seldom,
  subst (λ (since : ℕ). RunsInPieces 3 1 1 0 delay since (time_of before call) (with_all call (time_of before call) s past) (state_after call s) calls) (sym (taken-now call before s))
      (subst (λ (u : State). RunsInPieces 3 1 1 0 delay (time_of before call) (time_of before call) (with_all call (time_of before call) s past) u calls) (sym after) rest),
)

-- one packet is extra, or none
seldom-one : (ahead now time : ℕ) (b : Bool) (past : History) → past.extra ≡ cond b (time ∷ []) [] → IsSeldom 1 ahead now past
seldom-one ahead now time true past e since near = rw e (by (nat_le since time))
  where
    by : (c : Bool) → length (cond c (time ∷ []) []) ≤ 1
    by true = omega arith
    by false = omega arith
seldom-one ahead now time false past e since near = rw e (omega arith)

-- the request has this ID and these bytes, and was made again under the other ID
abbrev sent_as : ℕ → List ℕ → State → State
sent_as id request s = requesting 241_100_000_000 id (ForPermission ip_of_peer) request (over_tcp s)

abbrev asked_as : ℕ → ℕ → List ℕ → Challenge → State → State
asked_as id other request challenge s = record (over_tcp s) {
  ids = behind_id (behind_id s.ids);
  held = Some challenge;
  challenges = 1;
  transactions = first_sent other server 241_200_000_000 request ∷ [];
  listed = listings id (ForPermission ip_of_peer ∷ []) ++ listings other (ForPermission ip_of_peer ∷ []);
  queue = record { packet = to_server (over_tcp s) client request; is_request = true } ∷ [];
  last_send = Some 241_100_000_000;
}

abbrev text_again : ℕ → List ℕ → Challenge → State → List ℕ
text_again id request challenge s =
    request_for (record (sent_as id request s) { transactions = []; challenges = 1; held = Some challenge }) (ForPermission ip_of_peer) (fresh_id (sent_as id request s))

made-again : (s : State) (challenge : Challenge) (id : ℕ) (request message : List ℕ) → id_of message ≡ id → judgement_of (sent_as id request s) message ≡ Challenged challenge
    → message_step message 241_200_000_000 (sent_as id request s) ≡ (Handled, asked_as id (fresh_id (sent_as id request s)) (text_again id request challenge s) challenge s)
made-again s challenge id request message named is = rw is (rw (named, eqb-self id) refl)

module _ (s : State) (some : IsSome s.held) (front : List ℕ) (b : ℕ) (bytes : List ℕ) (challenge : Challenge) (stale : IsStale (front ++ (b ∷ bytes)) challenge (sent s some)) where
  abbrev back : List ℕ
  back = b ∷ bytes

  abbrev message : List ℕ
  message = front ++ back

  abbrev old : ℕ
  old = id s some

  abbrev new : ℕ
  new = fresh_id (sent s some)

  abbrev again : List ℕ
  again = text_again old (text s some) challenge s

  abbrev asked : State
  asked = asked_as old new again challenge s

  abbrev left : State
  left = record asked { queue = []; last_send = Some 241_200_000_000 }

  answered-step : message_step message 241_200_000_000 (sent s some) ≡ (Handled, asked)
  answered-step = made-again s challenge old (text s some) message stale.named (challenge-judged message challenge (sent s some) refl stale.error stale.requires)

  abbrev all : List ℕ
  all = front ++ (back ++ abc_frame)

  abbrev full : Stream
  full = record (empty_stream client Control) { bytes = all }

  all-is : all ≡ message ++ abc_frame
  all-is = sym (append_assoc front back abc_frame)

  whole : IsWhole all (length message)
  whole = subst (λ (m : List ℕ). IsWhole m (length message)) (sym all-is) (IsWhole-append message abc_frame (length message) (message-framed message stale.whole))

  len : frame_len all ≡ Some (length message)
  len = IsWhole-frame_len all (length message) whole

  taken : take (length message) all ≡ message
  taken = ap (take (length message)) all-is ∙ take-append_seam message abc_frame

  rest-is : drop (length message) all ≡ abc_frame
  rest-is = ap (drop (length message)) all-is ∙ drop-append_seam message abc_frame

  abbrev asking : Input
  asking = stream_input (is_front front) full message 241_200_000_000 (sent s some)

  abbrev from_peer : Input
  from_peer = stream_input false (record (empty_stream client Control) { bytes = abc_frame }) abc_frame 241_200_000_000 asked

  stepped : frame_step full message 241_200_000_000 (sent s some) ≡ (Handled, asked)
  stepped = control-made asking refl stale.whole ∙ answered-step

  next-is : next_frame_step full 241_200_000_000 (waiting s some front) ≡ (Handled, with_bytes client abc_frame asked)
  next-is =
      ap (λ (c : Bool). cond c (Handled, broken_at client (sent s some)) (framed_by full 241_200_000_000 (sent s some) (frame_len all))) whole.begins
      ∙ (ap (framed_by full 241_200_000_000 (sent s some)) len
      ∙ (ap (λ (m : List ℕ). put_back client (drop (length message) all) (frame_step full m 241_200_000_000 (sent s some))) taken
      ∙ (ap (λ (m : List ℕ). put_back client m (frame_step full message 241_200_000_000 (sent s some))) rest-is
      ∙ ap (put_back client abc_frame) stepped)))

  abbrev placed : Outcome × State → Outcome × State
  placed p = (place_kept front p.0, p.1)

  abbrev after-first : Outcome × State
  after-first = placed (next_frame_step full 241_200_000_000 (waiting s some front))

  first-is : after-first ≡ (Handled, with_bytes client abc_frame asked)
  first-is =
      ap placed next-is
      ∙ ap (λ (o : Outcome). (o, with_bytes client abc_frame asked)) (place-handled front)

  second-after : state_after (piece_call (back ++ abc_frame) 241_200_000_000) (waiting s some front) ≡ asked
  unfolding steps_until_payload
  second-after = ap (λ (p : Outcome × State). (then_all 241_200_000_000 p).1) first-is

  second-handled : handled (piece_call (back ++ abc_frame) 241_200_000_000) (waiting s some front) ≡ asking ∷ from_peer ∷ []
  unfolding inputs_taken
  second-handled =
      ap (λ (c : Bool). cond c [] (taken_of_len (is_front front) full 241_200_000_000 (sent s some) (frame_len all)) ++ then_taken 241_200_000_000 after-first)
      whole.begins
      ∙ (ap (λ (o : Option ℕ). taken_of_len (is_front front) full 241_200_000_000 (sent s some) o ++ then_taken 241_200_000_000 after-first) len
      ∙ (ap (λ (m : List ℕ). stream_input (is_front front) full m 241_200_000_000 (sent s some) ∷ then_taken 241_200_000_000 after-first) taken
      ∙ ap (λ (p : Outcome × State). asking ∷ then_taken 241_200_000_000 p) first-is))

  third-after : state_after (PollTransmit 241_200_000_000) asked ≡ left
  third-after = refl

  -- ---- what came before

  abbrev past1 : History
  past1 = with_call (PollTransmit 241_100_000_000) 241_100_000_000 (begun s some) (no_history (begun s some))

  abbrev first_input : Input
  first_input = stream_input true (record (empty_stream client Control) { bytes = abc_frame ++ front }) abc_frame 241_150_000_000 (sent s some)

  abbrev past2 : History
  past2 = with_input first_input past1

  abbrev past3 : History
  past3 = with_input asking past2

  abbrev past4 : History
  past4 = with_input from_peer past3

  abbrev past5 : History
  past5 = with_call (PollTransmit 241_200_000_000) 241_200_000_000 asked past4

  made1 : past1.made old ≡ 241_100_000_000
  made1 = call-made (PollTransmit 241_100_000_000) 241_100_000_000 (no_history (begun s some)) (begun s some)

  made2 : past2.made old ≡ 241_100_000_000
  made2 = rw (old-apart (sent s some) (first_sent old server 241_100_000_000 (text s some)) (inl refl)) made1

  made3 : past3.made new ≡ made_before asking past2
  made3 = rw (eqb-self new) refl

  made4 : past4.made new ≡ past3.made new
  made4 = rw (old-apart asked (first_sent new server 241_200_000_000 again) (inl refl)) refl

  in-time : 241_200_000_000 ≤ past4.made new + delay
  in-time =
      let same = ap past2.made stale.named in
      let late = by (is_outstanding (id_of message) (sent s some).transactions) (past2.made (id_of message)) (let made = made2 in omega (arith, same, made)) in
      let three = made3 in
      let four = made4 in
      omega (arith, late, three, four)
    where
      by : (b : Bool) (made : ℕ) → 241_100_000_000 ≤ made → 241_200_000_000 ≤ cond b made 241_200_000_000 + delay
      by true made h = omega (arith, h)
      by false made h = omega arith

  none-challenged : past2.challenged ≡ 0
  none-challenged = by (ends_request first_input)
    where
      by : (b : Bool) → ◌≡◌ {A = ℕ} (cond b 0 0) 0
      by true = refl
      by false = refl

  extra3 : past3.extra ≡ cond (asks_again asking) (241_200_000_000 ∷ []) []
  extra3 = refl

  asks : IsAsking asking past2
  asks = record {
    over = refl;
    whole = stale.whole;
    error = stale.error;
    challenge = rw stale.requires refl;
    few = let none = none-challenged in omega (arith, none);
  }

  waits-short : queue_ahead (Rattle.turn_client_laws.specs.Handled.processed asking).1 ≤ 1
  waits-short = subst (λ (p : Outcome × State). queue_ahead p.1 ≤ 1) (sym stepped) (omega arith)

  -- ---- the run

  begins : IsSteady 3 1 1 delay 1_100_000_000 (begun s some)
  unfolding IsDistinct
  begins = record {
    allocated = refl;
    none_queued = refl;
    none_outstanding = refl;
    none_listed = refl;
    sent_before = omega arith;
    in_force = all-three (IsInForce 1_100_000_000) _ _ _ (refl, omega arith) (refl, omega arith) (refl, omega arith);
    none_late = all-three (λ g. 1_100_000_000 + ahead_of 60_000_000_000 g ≤ expiry_of g) _ _ _ (omega arith) (omega arith) (omega arith);
    room = all-three (λ g. HasRoom 3 1 1 50_000_000 delay (ahead_of 60_000_000_000 g)) _ _ _ (omega arith) (omega arith) (omega arith);
    room_for_more = omega arith;
    within = (omega arith, omega arith);
    distinct = ((refl, (refl, tt)), ((refl, tt), (tt, tt)));
    in_allocations = three-in_allocations 1_000_000_000 600_200_000_000 301_100_000_000 601_100_000_000 s.ids s;
    prompt = let wait : all_waits (timers_of (begun s some).config) (begun s some).transport ≡ 39_500_000_000 = all-waits s some in omega (arith, wait);
    in_range = omega arith;
  }

  steady : IsSteadyBehind 3 1 1 0 delay 1_100_000_000 (begun s some)
  steady = behind-of 3 1 1 0 delay 1_100_000_000 (begun s some) begins
      (all-three (λ g. HasRoomBehind 3 1 1 0 50_000_000 delay (ahead_of 60_000_000_000 g)) _ _ _ (omega arith) (omega arith) (omega arith)) (omega arith)

  due-at : IsOnTime 1_100_000_000 241_100_000_000 (begun s some)
  unfolding refresh_time
  due-at = on-time 1_100_000_000 241_100_000_000 241_100_000_000 (begun s some) (fits (begun s some) refl refl) begins.in_allocations refl (omega arith) (omega arith) (omega arith) (omega arith)

  waits-for : (before now : ℕ) (held : List ℕ) → 241_100_000_000 ≤ before → before ≤ now → now ≤ 241_200_000_000
      → IsOnTime before now (record (sent s some) { streams = record (empty_stream client Control) { bytes = held } ∷ [] })
  unfolding refresh_time Schedule.schedule
  waits-for before now held from later until =
      let t = record (sent s some) { streams = record (empty_stream client Control) { bytes = held } ∷ [] } in
      let long = on-time 241_100_000_000 280_600_000_000 241_200_000_000 t (fits t refl refl) begins.in_allocations refl (omega arith) (omega arith) (omega arith) (omega arith) in
      record { later = later; in_range = omega (arith, until); punctual = λ time after early. long.punctual time (omega (arith, from, after)) (omega (arith, early, until)) }

  awaited : (now : ℕ) (past : History) → past.made old ≡ 241_100_000_000 → now ≤ 241_200_000_000 → All (λ x. now ≤ past.made x.id + delay) (sent s some).transactions
  awaited now past made late = all-one (λ (x : Transaction). now ≤ past.made x.id + delay) (first_sent old server 241_100_000_000 (text s some)) (omega (arith, made, late))

  abbrev third : List Call
  third = piece_call (back ++ abc_frame) 241_200_000_000 ∷ PollTransmit 241_200_000_000 ∷ []

  last-runs : RunsInPieces 3 1 1 0 delay 241_200_000_000 241_200_000_000 past4 asked (PollTransmit 241_200_000_000 ∷ [])
  last-runs = one-more (PollTransmit 241_200_000_000) 241_200_000_000 past4 asked left [] third-after (at-once 241_200_000_000 asked (omega arith))
      (all-one (λ (x : Transaction). 241_200_000_000 ≤ past4.made x.id + delay) (first_sent new server 241_200_000_000 again) in-time) tt (omega arith, omega arith)
      (seldom-one 60_000_000_000 241_200_000_000 241_200_000_000 (asks_again asking) past5 extra3) tt

  third-runs : RunsInPieces 3 1 1 0 delay 241_150_000_000 241_150_000_000 past2 (waiting s some front) third
  third-runs = one-more (piece_call (back ++ abc_frame) 241_200_000_000) 241_150_000_000 past2 (waiting s some front) asked (PollTransmit 241_200_000_000 ∷ []) second-after
      (waits-for 241_150_000_000 241_200_000_000 front (omega arith) (omega arith) (omega arith)) (awaited 241_200_000_000 past2 made2 (omega arith))
      (subst (λ (inputs : List Input). AreCalm 1 1 inputs past2) (sym second-handled) (
        inr asks,
        waits-short,
        seldom-one 60_000_000_000 241_200_000_000 241_200_000_000 (asks_again asking) past3 extra3,
        (inl (inr (inr refl)), omega arith, seldom-one 60_000_000_000 241_200_000_000 241_200_000_000 (asks_again asking) past4 extra3, tt),
      ))
      (omega arith, omega arith)
      (subst (λ (inputs : List Input). IsSeldom 1 60_000_000_000 241_200_000_000 (with_inputs inputs past2)) (sym second-handled)
      (seldom-one 60_000_000_000 241_200_000_000 241_200_000_000 (asks_again asking) past4 extra3))
      (subst (λ (inputs : List Input). RunsInPieces 3 1 1 0 delay 241_200_000_000 241_200_000_000 (with_inputs inputs past2) asked (PollTransmit 241_200_000_000 ∷ [])) (sym second-handled) last-runs)

  second-runs : RunsInPieces 3 1 1 0 delay 241_100_000_000 241_100_000_000 past1 (sent s some) (piece_call (abc_frame ++ front) 241_150_000_000 ∷ third)
  second-runs = one-more (piece_call (abc_frame ++ front) 241_150_000_000) 241_100_000_000 past1 (sent s some) (waiting s some front) third (first-after s some front)
      (waits-for 241_100_000_000 241_150_000_000 [] (omega arith) (omega arith) (omega arith)) (awaited 241_150_000_000 past1 made1 (omega arith))
      (subst (λ (inputs : List Input). AreCalm 1 1 inputs past1) (sym (first-handled s some front))
      (inl (inr (inr refl)), omega arith, seldom-one 60_000_000_000 241_150_000_000 0 false past2 refl, tt))
      (omega arith, omega arith)
      (subst (λ (inputs : List Input). IsSeldom 1 60_000_000_000 241_150_000_000 (with_inputs inputs past1)) (sym (first-handled s some front))
      (seldom-one 60_000_000_000 241_150_000_000 0 false past2 refl))
      (subst (λ (inputs : List Input). RunsInPieces 3 1 1 0 delay 241_150_000_000 241_150_000_000 (with_inputs inputs past1) (waiting s some front) third) (sym (first-handled s some front))
      third-runs)

  runs : RunsInPieces 3 1 1 0 delay 1_100_000_000 1_100_000_000 (no_history (begun s some)) (begun s some) (asked_calls front back)
  runs = one-more (PollTransmit 241_100_000_000) 1_100_000_000 (no_history (begun s some)) (begun s some) (sent s some) (piece_call (abc_frame ++ front) 241_150_000_000 ∷ third) (sends s some) due-at
      (all-none (λ (x : Transaction). 241_100_000_000 ≤ (no_history (begun s some)).made x.id + delay)) tt (omega arith, omega arith)
      (seldom-one 60_000_000_000 241_100_000_000 0 false past1 refl) second-runs

  ends : state_after_all (begun s some) (asked_calls front back) ≡ left
  ends =
      ap (λ (t : State). state_after_all t (piece_call (abc_frame ++ front) 241_150_000_000 ∷ third)) (sends s some)
      ∙ (ap (λ (t : State). state_after_all t third) (first-after s some front)
      ∙ ap (λ (t : State). state_after_all t (PollTransmit 241_200_000_000 ∷ [])) second-after)

  lasts : LastsThoughAsked front back challenge (begun s some)
  lasts = record { begins = steady; runs = runs; holds = ap (λ (t : State). t.held) ends; sends = ap (λ (t : State). t.queue) ends }

pub asked-relay-stays-up : AskedRelayStaysUp
asked-relay-stays-up s front back challenge some stale nonempty = by back stale nonempty
  where
    by : (back : List ℕ) → IsStale (front ++ back) challenge (state_after (PollTransmit 241_100_000_000) (over_tcp s)) → (back ≡ [] → ⊥) → LastsThoughAsked front back challenge (over_tcp s)
    by [] stale none = absurd (none refl)
    by (b ∷ bytes) stale none = lasts s some front b bytes challenge (subst (IsStale (front ++ (b ∷ bytes)) challenge) (sends s some) stale)
