-- A run over TCP that meets all premises though its stream is cut.
use Rattle.turn_client_laws.proofs.Common.{◌≡◌, ◌∙◌, ℕ, ◌+◌, ◌≤◌, AllByRecursion, Bool, true, false, cond, find, length, take, drop, List, [], ◌∷◌, ◌++◌, None, Some, ap, append_assoc, arith, inl, inr, refl}
use Rattle.turn_client_laws.proofs.Common.{IsDistinct, subst, suc, sym, zero, All, IsSome, Option, nat_lt, is_none, is_some, lt-leb, lt-ltb, nil_from_length, length-append}
use Rattle.turn_client_laws.proofs.Machine.{Control, Handled, Outcome, PollRecv, PollTransmit, Call, ForPermission, State, Stream, Transaction, begins_no_frame, behind_id, fault_of, fault_of-none, first_sent}
use Rattle.turn_client_laws.proofs.Machine.{frame_len, frame_step, framed_by, fresh_id, id_of, is_message, is_outstanding, is_ready, max_steps, message_step, place_kept}
use Rattle.turn_client_laws.proofs.Machine.{put_back, refresh_time, is_refresh_due, request_for, response_step, state_after, state_after_all, steps_until_payload, then_all, type_of, with_bytes, broken_at}
use Rattle.turn_client_laws.proofs.Machine.{Tcp, timers_of, next_frame_step}
use Rattle.turn_client_laws.proofs.Laws.{Input, handled, is_front, inputs_taken, ip_of_peer, stream_input, taken_of_len, then_taken}
use Rattle.turn_client_laws.specs.LawsReceived.{abc_frame, client, empty_stream, server}
use Rattle.turn_agent.specs.Schedule as Schedule
use Rattle.turn_types.proofs.FrameLemmas.{IsWhole, IsWhole-append, IsWhole-frame_len, begins_no_frame-append, frame_len-IsWhole, frame_len-append}
use Rattle.std.proofs.Math.Seq.{drop-append_seam, take-append_seam}
use Rattle.turn_client_runs.specs.CutRelayRows.{CutRelayStaysUp, LastsThoughCut, cut_calls, over_tcp, piece_call, refresh_success}
use Rattle.turn_client_runs.specs.History.{History, IsSeldom, all_waits, no_history, with_call}
use Rattle.turn_client_runs.specs.Lasting.{HoldsAtMost, IsInForce, IsSteady, HasRoom, ahead_of, expiry_of}
use Rattle.turn_client_runs.specs.LastingRows.{first_request}
use Rattle.turn_client_runs.specs.Late.{HasRoomBehind, IsCalm, IsGranting, IsMild, IsSteadyBehind, RunsBehind}
use Rattle.turn_client_runs.specs.OnTime.{IsOnTime, time_of}
use Rattle.turn_client_runs.specs.Server.{success_for}
use Rattle.turn_client_runs.proofs.LastingHistory.{call-goes_on, call-made}
use Rattle.turn_client_runs.proofs.LastingParts.{behind-of, late-at, taken-now}
use Rattle.turn_client_runs.proofs.LastingRowLemmas.{all-none, all-one, all-three, at-once, delay, eqb-self, fits, no-extra, on-time, requesting, seldom-none, three-in_allocations, with_three}
use Rattle.turn_client_runs.proofs.LastingRuns.{success-judged}
use Rattle.turn_client_runs.proofs.MadeLemmas.{control-made}
use Rattle.turn_client_runs.proofs.ServerLemmas.{IsReplyFor, IsSignedSuccess, success-read, success-signed}

-- ---- frames

-- a message is one frame
pub message-framed : (message : List ℕ) → is_message message ≡ true → IsWhole message (length message)
message-framed message whole =
    let is = fault_of-none message (none (fault_of message) whole) in
    let less = is.first_two_bits in
    record {
      begins = lt-leb 0x8000 (type_of message) (omega (arith, less));
      size = rw (lt-ltb (type_of message) 0x4000 (omega (arith, less))) is.whole;
      within = omega arith;
      least = let all = is.whole in omega (arith, all);
    }
  where
    none : {X : Type 0} (o : Option X) → is_none o ≡ true → o ≡ None
    none None e = refl
    none (Some x) e = cc

-- the front of a frame waits for the back
front-waits : (front back : List ℕ) → IsWhole (front ++ back) (length (front ++ back)) → (back ≡ [] → ⊥)
    → is_ready (record (empty_stream client Control) { bytes = front }) ≡ false
front-waits front back whole some = by (begins_no_frame front) refl (frame_len front) refl
  where
    by : (b : Bool) → begins_no_frame front ≡ b → (o : Option ℕ) → frame_len front ≡ o → is_ready (record (empty_stream client Control) { bytes = front }) ≡ false
    by true e o f = let no : false ≡ true = sym whole.begins ∙ begins_no_frame-append front back e in cc
    by false e None f = ap (λ (c : Bool). is_some (cond c (Some (length front)) (frame_len front))) e ∙ ap is_some f
    by false e (Some k) f =
        let is = frame_len-IsWhole front k f in
        let same = (IsWhole-append front back k is).size in
        let all = whole.size in
        let long = length-append front back in
        let fits = is.within in
        absurd (some (nil_from_length back (omega (arith, same, all, long, fits))))

-- no stream is ready
steps-none : (n now : ℕ) (s : State) → find is_ready s.streams ≡ None → steps_until_payload n now s ≡ (None, s)
unfolding steps_until_payload
steps-none zero now s e = refl
steps-none (suc n) now s e = rw e refl

inputs-none : (n now : ℕ) (s : State) → find is_ready s.streams ≡ None → inputs_taken n now s ≡ []
unfolding inputs_taken
inputs-none zero now s e = refl
inputs-none (suc n) now s e = rw e refl

pub place-handled : (waited : List ℕ) → place_kept waited Handled ≡ Handled
place-handled [] = refl
place-handled (b ∷ bytes) = refl

-- ---- a call that is on time

one-more : (call : Call) (before : ℕ) (past : History) (s t : State) (calls : List Call) → state_after call s ≡ t → IsOnTime before (time_of before call) s
    → All (λ x. time_of before call ≤ past.made x.id + delay) s.transactions → IsCalm call past s → HoldsAtMost 3 1 t
    → IsSeldom 0 s.config.refresh_ahead (time_of before call) (with_call call (time_of before call) s past)
    → RunsBehind 3 1 0 0 delay (time_of before call) (time_of before call) (with_call call (time_of before call) s past) t calls
    → RunsBehind 3 1 0 0 delay before before past s (call ∷ calls)
one-more call before past s t calls after punctual answered calm within seldom rest = (
  time_of before call,
  record { caller = late-at 0 before (time_of before call) s punctual; answered = answered },
  calm,
  subst (HoldsAtMost 3 1) (sym after) within,
  seldom,
  subst (λ (since : ℕ). RunsBehind 3 1 0 0 delay since (time_of before call) (with_call call (time_of before call) s past) (state_after call s) calls) (sym (taken-now call before s))
      (subst (λ (u : State). RunsBehind 3 1 0 0 delay (time_of before call) (time_of before call) (with_call call (time_of before call) s past) u calls) (sym after) rest),
)

-- ---- the states

abbrev by_stream : List ℕ → State → State
by_stream bytes s = record s { transport = Tcp; local = client; remote = server; streams = record (empty_stream client Control) { bytes = bytes } ∷ [] }

module _ (s : State) (some : IsSome s.held) where
  abbrev pub begun : State
  begun = over_tcp s

  abbrev pub id : ℕ
  id = fresh_id begun

  abbrev pub text : List ℕ
  text = request_for begun (ForPermission ip_of_peer) id

  abbrev pub sent : State
  sent = requesting 241_100_000_000 id (ForPermission ip_of_peer) text begun

  abbrev refreshed : State
  refreshed = by_stream [] (with_three 241_100_000_000 600_200_000_000 541_200_000_000 601_100_000_000 (behind_id s.ids) s)

  abbrev success : List ℕ
  success = success_for sent (ForPermission ip_of_peer) id

  pub sends : state_after (PollTransmit 241_100_000_000) begun ≡ sent
  unfolding refresh_time is_refresh_due
  sends = refl

  success-is : refresh_success begun ≡ success
  success-is = ap (λ (t : State). success_for t (ForPermission ip_of_peer) (first_request t.listed).id) sends

  read : IsReplyFor (ForPermission ip_of_peer) id success
  read = success-read (ForPermission ip_of_peer) id sent (omega arith) some

  is : IsSignedSuccess (ForPermission ip_of_peer) success sent
  is = success-signed (ForPermission ip_of_peer) id sent (omega arith) some

  awaits : is_outstanding (id_of success) sent.transactions ≡ true
  awaits = rw (read.named, eqb-self id) refl

  -- the permission is refreshed by it
  grants : (request message : List ℕ) → IsReplyFor (ForPermission ip_of_peer) id message
      → response_step true message 241_200_000_000 (record sent { transactions = first_sent id server 241_100_000_000 request ∷ [] }) ≡ (Handled, refreshed)
  grants request message is = rw (is.named, is.of_method, eqb-self id) refl

  judged : message_step success 241_200_000_000 sent ≡ (Handled, refreshed)
  judged = processed-is ∙ grants text success read
    where
      processed-is : message_step success 241_200_000_000 sent ≡ response_step true success 241_200_000_000 sent
      processed-is = rw (success-judged success sent refl is.success is.signed awaits) refl

  pub all-waits : all_waits (timers_of begun.config) Tcp ≡ 39_500_000_000
  unfolding Schedule.schedule
  all-waits = refl

  begins : IsSteady 3 1 0 delay 1_100_000_000 begun
  unfolding IsDistinct
  begins = record {
    allocated = refl;
    none_queued = refl;
    none_outstanding = refl;
    none_listed = refl;
    sent_before = omega arith;
    in_force = all-three (IsInForce 1_100_000_000) _ _ _ (refl, omega arith) (refl, omega arith) (refl, omega arith);
    none_late = all-three (λ g. 1_100_000_000 + ahead_of 60_000_000_000 g ≤ expiry_of g) _ _ _ (omega arith) (omega arith) (omega arith);
    room = all-three (λ g. HasRoom 3 1 0 50_000_000 delay (ahead_of 60_000_000_000 g)) _ _ _ (omega arith) (omega arith) (omega arith);
    room_for_more = omega arith;
    within = (omega arith, omega arith);
    distinct = ((refl, (refl, tt)), ((refl, tt), (tt, tt)));
    in_allocations = three-in_allocations 1_000_000_000 600_200_000_000 301_100_000_000 601_100_000_000 s.ids s;
    prompt = let wait : all_waits (timers_of begun.config) begun.transport ≡ 39_500_000_000 = all-waits in omega (arith, wait);
    in_range = omega arith;
  }

  steady : IsSteadyBehind 3 1 0 0 delay 1_100_000_000 begun
  steady = behind-of 3 1 0 0 delay 1_100_000_000 begun begins
      (all-three (λ g. HasRoomBehind 3 1 0 0 50_000_000 delay (ahead_of 60_000_000_000 g)) _ _ _ (omega arith) (omega arith) (omega arith)) (omega arith)

  -- ---- the first piece

  module _ (front : List ℕ) where
    abbrev pub half : Stream
    half = record (empty_stream client Control) { bytes = front }

    abbrev pub waiting : State
    waiting = record sent { streams = half ∷ [] }

    -- the frame of the peer has eight bytes
    abbrev first : Option ℕ → Outcome × State
    first o = framed_by (record (empty_stream client Control) { bytes = abc_frame ++ front }) 241_150_000_000 sent o

    first-len : frame_len (abc_frame ++ front) ≡ Some 8
    first-len = frame_len-append abc_frame front 8 refl

    pub first-after : state_after (piece_call (abc_frame ++ front) 241_150_000_000) sent ≡ waiting
    first-after = ap (λ (o : Option ℕ). (then_all 241_150_000_000 (first o)).1) first-len

    pub first-handled : handled (piece_call (abc_frame ++ front) 241_150_000_000) sent
        ≡ stream_input true (record (empty_stream client Control) { bytes = abc_frame ++ front }) abc_frame 241_150_000_000 sent ∷ []
    first-handled = ap
        (λ (o : Option ℕ). taken_of_len true (record (empty_stream client Control) { bytes = abc_frame ++ front }) 241_150_000_000 sent o ++ then_taken 241_150_000_000 (first o)) first-len

    first-calm : (past : History) → IsCalm (piece_call (abc_frame ++ front) 241_150_000_000) past sent
    first-calm past = inr (tt, subst (AllByRecursion IsMild) (sym first-handled) (inr (inr refl), tt))

    -- ---- the second piece

    module _ (b : ℕ) (bytes : List ℕ) (joins : success ≡ front ++ (b ∷ bytes)) where
      abbrev back : List ℕ
      back = b ∷ bytes

      abbrev all : List ℕ
      all = front ++ (back ++ abc_frame)

      abbrev full : Stream
      full = record (empty_stream client Control) { bytes = all }

      all-is : all ≡ success ++ abc_frame
      all-is = sym (append_assoc front back abc_frame) ∙ ap (λ (m : List ℕ). m ++ abc_frame) (sym joins)

      waits : is_ready half ≡ false
      waits = front-waits front back (subst (λ (m : List ℕ). IsWhole m (length m)) joins (message-framed success is.whole))
          (λ none. let no : suc (length bytes) ≡ 0 = ap length none in absurd (omega (arith, no)))

      none-ready : find is_ready waiting.streams ≡ None
      none-ready = ap (λ (c : Bool). cond c (Some half) None) waits

      polled-none : state_after (PollRecv 241_150_000_000) waiting ≡ waiting
      polled-none = ap (λ p. p.1) (steps-none (max_steps waiting) 241_150_000_000 waiting none-ready)

      polled-calm : (past : History) → IsCalm (PollRecv 241_150_000_000) past waiting
      polled-calm past = inr (tt, subst (AllByRecursion IsMild) (sym (inputs-none (max_steps waiting) 241_150_000_000 waiting none-ready)) tt)

      whole : IsWhole all (length success)
      whole = subst (λ (m : List ℕ). IsWhole m (length success)) (sym all-is) (IsWhole-append success abc_frame (length success) (message-framed success is.whole))

      len : frame_len all ≡ Some (length success)
      len = IsWhole-frame_len all (length success) whole

      taken : take (length success) all ≡ success
      taken = ap (take (length success)) all-is ∙ take-append_seam success abc_frame

      left : drop (length success) all ≡ abc_frame
      left = ap (drop (length success)) all-is ∙ drop-append_seam success abc_frame

      abbrev granted : Input
      granted = stream_input (is_front front) full success 241_200_000_000 sent

      stepped : frame_step full success 241_200_000_000 sent ≡ (Handled, refreshed)
      stepped = control-made granted refl is.whole ∙ judged

      next-is : next_frame_step full 241_200_000_000 waiting ≡ (Handled, with_bytes client abc_frame refreshed)
      next-is =
          ap (λ (c : Bool). cond c (Handled, broken_at client sent) (framed_by full 241_200_000_000 sent (frame_len all))) whole.begins
          ∙ (ap (framed_by full 241_200_000_000 sent) len
          ∙ (ap (λ (m : List ℕ). put_back client (drop (length success) all) (frame_step full m 241_200_000_000 sent)) taken
          ∙ (ap (λ (m : List ℕ). put_back client m (frame_step full success 241_200_000_000 sent)) left
          ∙ ap (put_back client abc_frame) stepped)))

      -- as it is given to the caller
      abbrev placed : Outcome × State → Outcome × State
      placed p = (place_kept front p.0, p.1)

      first-is : placed (next_frame_step full 241_200_000_000 waiting) ≡ (Handled, with_bytes client abc_frame refreshed)
      first-is =
          ap placed next-is
          ∙ ap (λ (o : Outcome). (o, with_bytes client abc_frame refreshed)) (place-handled front)

      second-after : state_after (piece_call (back ++ abc_frame) 241_200_000_000) waiting ≡ refreshed
      unfolding steps_until_payload
      second-after = ap (λ (p : Outcome × State). (then_all 241_200_000_000 p).1) first-is

      second-handled : handled (piece_call (back ++ abc_frame) 241_200_000_000) waiting
          ≡ granted ∷ stream_input false (record (empty_stream client Control) { bytes = abc_frame }) abc_frame 241_200_000_000 refreshed ∷ []
      unfolding inputs_taken
      second-handled =
          ap (λ (c : Bool). cond c [] (taken_of_len (is_front front) full 241_200_000_000 sent (frame_len all)) ++ then_taken 241_200_000_000 (placed (next_frame_step full 241_200_000_000 waiting)))
          whole.begins
          ∙ (ap (λ (o : Option ℕ). taken_of_len (is_front front) full 241_200_000_000 sent o ++ then_taken 241_200_000_000 (placed (next_frame_step full 241_200_000_000 waiting))) len
          ∙ (ap (λ (m : List ℕ). stream_input (is_front front) full m 241_200_000_000 sent ∷ then_taken 241_200_000_000 (placed (next_frame_step full 241_200_000_000 waiting))) taken
          ∙ ap (λ (p : Outcome × State). granted ∷ then_taken 241_200_000_000 p) first-is))

      granting : IsGranting granted
      granting = record {
        over = refl;
        whole = is.whole;
        success = is.success;
        signed = is.signed;
        outstanding = awaits;
        answers = rw (read.named, eqb-self id) is.grants;
      }

      second-calm : (past : History) → IsCalm (piece_call (back ++ abc_frame) 241_200_000_000) past waiting
      second-calm past = inr (tt, subst (AllByRecursion IsMild) (sym second-handled) (inl granting, (inr (inr refl), tt)))

      last-after : state_after (PollRecv 241_200_000_000) refreshed ≡ refreshed
      last-after = ap (λ p. p.1) (steps-none (max_steps refreshed) 241_200_000_000 refreshed refl)

      last-calm : (past : History) → IsCalm (PollRecv 241_200_000_000) past refreshed
      last-calm past = inr (tt, subst (AllByRecursion IsMild) (sym (inputs-none (max_steps refreshed) 241_200_000_000 refreshed refl)) tt)

      -- ---- the run

      abbrev calls : List Call
      calls = cut_calls front back

      -- from the fourth call on, from the third, and from the second
      abbrev fourth : List Call
      fourth = piece_call (back ++ abc_frame) 241_200_000_000 ∷ PollRecv 241_200_000_000 ∷ []

      abbrev third : List Call
      third = PollRecv 241_150_000_000 ∷ fourth

      abbrev second : List Call
      second = piece_call (abc_frame ++ front) 241_150_000_000 ∷ third

      abbrev past1 : History
      past1 = with_call (PollTransmit 241_100_000_000) 241_100_000_000 begun (no_history begun)

      abbrev past2 : History
      past2 = with_call (piece_call (abc_frame ++ front) 241_150_000_000) 241_150_000_000 sent past1

      abbrev past3 : History
      past3 = with_call (PollRecv 241_150_000_000) 241_150_000_000 waiting past2

      abbrev past4 : History
      past4 = with_call (piece_call (back ++ abc_frame) 241_200_000_000) 241_200_000_000 waiting past3

      abbrev past5 : History
      past5 = with_call (PollRecv 241_200_000_000) 241_200_000_000 refreshed past4

      made1 : past1.made id ≡ 241_100_000_000
      made1 = call-made (PollTransmit 241_100_000_000) 241_100_000_000 (no_history begun) begun

      made2 : past2.made id ≡ 241_100_000_000
      made2 = (call-goes_on (piece_call (abc_frame ++ front) 241_150_000_000) 241_150_000_000 past1 sent).same (first_sent id server 241_100_000_000 text) (inl refl) ∙ made1

      made3 : past3.made id ≡ 241_100_000_000
      made3 = (call-goes_on (PollRecv 241_150_000_000) 241_150_000_000 past2 waiting).same (first_sent id server 241_100_000_000 text) (inl refl) ∙ made2

      answered : (now : ℕ) (past : History) → past.made id ≡ 241_100_000_000 → now ≤ 241_200_000_000 → All (λ x. now ≤ past.made x.id + delay) sent.transactions
      answered now past made late = all-one (λ (x : Transaction). now ≤ past.made x.id + delay) (first_sent id server 241_100_000_000 text) (omega (arith, made, late))

      extra2 : past2.extra ≡ []
      extra2 = no-extra (piece_call (abc_frame ++ front) 241_150_000_000) 241_150_000_000 sent past1 refl (subst (λ (t : State). nat_lt 0 t.challenges ≡ false) (sym first-after) refl) refl

      extra4 : past4.extra ≡ []
      extra4 = no-extra (piece_call (back ++ abc_frame) 241_200_000_000) 241_200_000_000 waiting past3 extra2 (subst (λ (t : State). nat_lt 0 t.challenges ≡ false) (sym second-after) refl) refl

      due-at : IsOnTime 1_100_000_000 241_100_000_000 begun
      unfolding refresh_time
      due-at = on-time 1_100_000_000 241_100_000_000 241_100_000_000 begun (fits begun refl refl) begins.in_allocations refl (omega arith) (omega arith) (omega arith) (omega arith)

      -- while the request awaits its reply
      waits-for : (before now : ℕ) (bytes : List ℕ) → 241_100_000_000 ≤ before → before ≤ now → now ≤ 241_200_000_000
          → IsOnTime before now (record sent { streams = record (empty_stream client Control) { bytes = bytes } ∷ [] })
      unfolding refresh_time Schedule.schedule
      waits-for before now bytes from later until =
          let t = record sent { streams = record (empty_stream client Control) { bytes = bytes } ∷ [] } in
          let long = on-time 241_100_000_000 280_600_000_000 241_200_000_000 t (fits t refl refl) begins.in_allocations refl (omega arith) (omega arith) (omega arith) (omega arith) in
          record { later = later; in_range = omega (arith, until); punctual = λ time after early. long.punctual time (omega (arith, from, after)) (omega (arith, early, until)) }

      runs : RunsBehind 3 1 0 0 delay 1_100_000_000 1_100_000_000 (no_history begun) begun calls
      runs =
          one-more (PollTransmit 241_100_000_000) 1_100_000_000 (no_history begun) begun sent second sends due-at
          (all-none (λ (x : Transaction). 241_100_000_000 ≤ (no_history begun).made x.id + delay)) (inl tt) (omega arith, omega arith) (seldom-none 60_000_000_000 241_100_000_000 past1 refl)
          (one-more (piece_call (abc_frame ++ front) 241_150_000_000) 241_100_000_000 past1 sent waiting third first-after
          (waits-for 241_100_000_000 241_150_000_000 [] (omega arith) (omega arith) (omega arith))
          (answered 241_150_000_000 past1 made1 (omega arith)) (first-calm past1) (omega arith, omega arith) (seldom-none 60_000_000_000 241_150_000_000 past2 extra2)
          (one-more (PollRecv 241_150_000_000) 241_150_000_000 past2 waiting waiting fourth polled-none (at-once 241_150_000_000 waiting (omega arith))
          (answered 241_150_000_000 past2 made2 (omega arith)) (polled-calm past2) (omega arith, omega arith) (seldom-none 60_000_000_000 241_150_000_000 past3 extra2)
          (one-more (piece_call (back ++ abc_frame) 241_200_000_000) 241_150_000_000 past3 waiting refreshed (PollRecv 241_200_000_000 ∷ []) second-after
          (waits-for 241_150_000_000 241_200_000_000 front (omega arith) (omega arith) (omega arith))
          (answered 241_200_000_000 past3 made3 (omega arith)) (second-calm past3) (omega arith, omega arith) (seldom-none 60_000_000_000 241_200_000_000 past4 extra4)
          (one-more (PollRecv 241_200_000_000) 241_200_000_000 past4 refreshed refreshed [] last-after (at-once 241_200_000_000 refreshed (omega arith))
          (all-none (λ (x : Transaction). 241_200_000_000 ≤ past4.made x.id + delay)) (last-calm past4) (omega arith, omega arith) (seldom-none 60_000_000_000 241_200_000_000 past5 extra4) tt))))

      ends : state_after_all begun calls ≡ refreshed
      ends =
          ap (λ (t : State). state_after_all t second) sends
          ∙ (ap (λ (t : State). state_after_all t third) first-after
          ∙ (ap (λ (t : State). state_after_all t fourth) polled-none
          ∙ (ap (λ (t : State). state_after_all t (PollRecv 241_200_000_000 ∷ [])) second-after
          ∙ last-after)))

      lasts : LastsThoughCut front back begun
      lasts = record { begins = steady; runs = runs; refreshes = ap (λ (t : State). t.grants) ends }

pub cut-relay-stays-up : CutRelayStaysUp
cut-relay-stays-up s front back some e nonempty = by back e nonempty
  where
    by : (back : List ℕ) → refresh_success (over_tcp s) ≡ front ++ back → (back ≡ [] → ⊥) → LastsThoughCut front back (over_tcp s)
    by [] e none = absurd (none refl)
    by (b ∷ bytes) e none = lasts s some front b bytes (sym (success-is s some) ∙ e)
