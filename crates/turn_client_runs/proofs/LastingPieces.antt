-- No grant is lost by what comes in a stream that is cut, though the server requires another nonce in it.
use Rattle.turn_client_laws.proofs.Common.{◌≡◌, ℕ, ◌+◌, ◌<◌, ◌≤◌, Bool, true, false, cond, ◌&&◌, eqb, List, [], ◌∷◌, length, Option, Some, None, refl, inl, inr, ap, sym, subst, ◌∙◌, arith}
use Rattle.turn_client_laws.proofs.Common.{filter, nat_le, nat_lt, not-true, IsSome, list_any, and_parts, eqb-true, eq-eqb, lt-ltb, le-leb}
use Rattle.turn_client_laws.proofs.Machine.{id_of, is_outstanding, Transaction, State, Grant, Channel, Permission, Purpose, Challenge, challenge_in, challenge_step, message_step, retried, state_after_retry, purposes_of}
use Rattle.turn_client_laws.proofs.Machine.{fresh_id, state_after, Call, PollRecv, Recv, Outcome, Has, all-has, has-all}
use Rattle.turn_client_laws.proofs.Laws.{Input, InputsLead, any-has, calls-do, handled, has-any, processed}
use Rattle.turn_client_runs.specs.History.{History, IsSeldom, extra_since, was_let_go, with_call}
use Rattle.turn_client_runs.specs.InPieces.{AreCalm, IsAsking, PacketsAreEnough, RunsInPieces, asks_again, ends_request, with_all, with_input, with_inputs}
use Rattle.turn_client_runs.specs.Lasting.{queue_ahead}
use Rattle.turn_client_runs.specs.Late.{AreAnswered, IsMild, since_next}
use Rattle.turn_client_runs.specs.OnTime.{time_of}
use Rattle.turn_client_runs.proofs.ComingLemmas.{inputs-come}
use Rattle.turn_client_runs.proofs.LastingAgain.{IsOneMore, goes-retried, kept-retried}
use Rattle.turn_client_runs.proofs.LastingHistory.{GoesOn, call-lets_go, goes-later, goes-row, kept-later, old-apart}
use Rattle.turn_client_runs.proofs.LastingRuns.{KeepsAll, Leads, SameRow, call-kept, challenge-judged, leads-differs, leads-end, leads-mild, retry_step}
use Rattle.turn_client_runs.proofs.LastingSpared.{quiet-alike, call-alike, row-alike}
use Rattle.turn_client_runs.proofs.LastingStands.{IsKept, Lag, goes-trans, taken}
use Rattle.turn_client_runs.proofs.LastingTime.{time-kept}
use Rattle.turn_client_runs.proofs.LastingWays.{Way}
use Rattle.turn_client_runs.proofs.MadeLemmas.{control-made}

module _ (count slots extras : ℕ) (lag : Lag) (delay now : ℕ) (past : History) (one : Input) (at : one.time ≡ now) (k : IsKept count slots extras lag delay now past one.before.transactions one.before)
    (seldom : IsSeldom extras one.before.config.refresh_ahead now (with_input one past)) where
  abbrev first : State
  first = one.before

  abbrev last : State
  last = (processed one).1

  abbrev id : ℕ
  id = id_of one.bytes

  abbrev later : History
  later = with_input one past

  abbrev Keeps : Type 0
  Keeps = KeepsAll count slots extras lag delay now past later first last

  counted : (b : Bool) (since : ℕ) → extra_since since past ≤ length (filter (λ time. nat_le since time) (cond b (one.time ∷ past.extra) past.extra))
  counted false since = omega arith
  counted true since = by (nat_le since one.time)
    where
      by : (c : Bool) → extra_since since past ≤ length (cond c (one.time ∷ filter (λ time. nat_le since time) past.extra) (filter (λ time. nat_le since time) past.extra))
      by true = omega arith
      by false = omega arith

  made-same : (x : Transaction) → Has x first.transactions → later.made x.id ≡ past.made x.id
  made-same x h = rw (old-apart first x h) refl

  on : GoesOn first.transactions past later
  on = record { same = made-same; more = λ since. counted (asks_again one) since; let_go = λ g e. let_go-same g e }
    where
      let_go-same : (g : Grant) → was_let_go past g ≡ true → was_let_go later g ≡ true
      let_go-same (Permission ip progress) e = e
      let_go-same (Channel number peer progress) e = e
      let_go-same g e = e

  -- ---- a success, or noise

  -- the row of challenges is as it was until the input
  abbrev middle : History
  middle = record later { challenged = first.challenges }

  module _ (mild : IsMild one) where
    on-middle : GoesOn first.transactions past middle
    on-middle = record { same = on.same; more = on.more; let_go = on.let_go }

    begun : IsKept count slots extras lag delay now middle first.transactions first
    begun = kept-later count slots extras lag delay now past middle first on-middle seldom (omega arith) k

    leads : Leads count slots extras lag delay now middle first last
    leads = leads-mild count slots extras lag delay now middle one begun at mild

    row : last.challenges ≤ later.challenged
    row = by (asks_again one) (ends_request one) refl
      where
        fewer : last.challenges ≤ first.challenges
        fewer = leads.0.row

        ended : ends_request one ≡ true → SameRow first last → last.challenges ≡ 0
        ended e (inl none) = none
        ended e (inr (as_many, listed, outs)) =
            let some = list_any (λ l. eqb l.id id) first.listed in
            let (both, gone) = and_parts (some && is_outstanding id first.transactions) _ e in
            let (is_listed, was) = and_parts some (is_outstanding id first.transactions) both in
            let no : false ≡ true = sym (not-true _ gone) ∙ outs id is_listed was in
            cc

        by : (a b : Bool) → ends_request one ≡ b → last.challenges ≤ cond a (past.challenged + 1) (cond b 0 past.challenged)
        by true b e = let old = k.row in let less = fewer in omega (arith, old, less)
        by false false e = let old = k.row in let less = fewer in omega (arith, old, less)
        by false true e = let none = ended e leads.2 in omega (arith, none)

    pub mild-input : Keeps
    mild-input = (
      kept-later count slots extras lag delay now middle later last (record { same = λ x h. refl; more = λ since. omega arith; let_go = λ g e. e }) leads.0.seldom row leads.0,
      goes-row past later first.challenges first.transactions last.transactions first last (goes-later past middle last.transactions first last on-middle leads.1),
    )

  -- ---- a challenge

  module _ (is : IsAsking one past) (within : queue_ahead last ≤ slots) where
    made-fresh : later.made (fresh_id first) ≡ cond (is_outstanding id first.transactions) (past.made id) now
    made-fresh =
        let e = eq-eqb (fresh_id first) (fresh_id first) refl in
        rw (e, at) refl

    asked : (challenge : Challenge) → challenge_in first one.bytes ≡ Some challenge → last ≡ (retry_step one.bytes challenge now first).1
    asked challenge o = ap (λ (z : Outcome × State). z.1) (control-made one is.over is.whole ∙ (timed ∙ (judged ∙ answers)))
      where
        few : first.challenges < first.config.max_stale_nonces
        few = let old = k.row in let less = is.few in omega (arith, old, less)

        answers : challenge_step one.bytes challenge now first ≡ retry_step one.bytes challenge now first
        answers = rw (lt-ltb first.challenges first.config.max_stale_nonces few) refl

        judged : message_step one.bytes now first ≡ challenge_step one.bytes challenge now first
        judged = rw (challenge-judged one.bytes challenge first k.phase is.error o) refl

        timed : message_step one.bytes one.time first ≡ message_step one.bytes now first
        timed = ap (λ (time : ℕ). message_step one.bytes time first) at

    retried-input : (challenge : Challenge) (purpose : Purpose) → last ≡ state_after_retry first id purpose challenge now → Keeps
    retried-input challenge purpose e = subst (λ (u : State). KeepsAll count slots extras lag delay now past later first u) (sym e) (
      kept-retried count slots extras lag delay now past later first k on more seldom row id purpose challenge fits early answered as-old,
      goes-retried count slots extras lag delay now past later first k on more seldom row id purpose challenge fits early answered as-old,
    )
      where
        counts : asks_again one ≡ true
        counts = subst (λ (u : State). nat_lt first.challenges u.challenges ≡ true) (sym e) (lt-ltb first.challenges (first.challenges + 1) (omega arith))

        more : IsOneMore now past later
        more since before = rw counts (by (nat_le since one.time) (le-leb since one.time (omega (arith, before, at))))
          where
            by : (c : Bool) → c ≡ true
                → extra_since since past + 1 ≤ length (cond c (one.time ∷ filter (λ time. nat_le since time) past.extra) (filter (λ time. nat_le since time) past.extra))
            by true always = omega arith
            by false never = cc

        row : first.challenges + 1 ≤ later.challenged
        row =
            let one_more : cond (asks_again one) (past.challenged + 1) (cond (ends_request one) 0 past.challenged) ≡ past.challenged + 1 = rw counts refl in
            let old = k.row in
            omega (arith, one_more, old)

        fits : queue_ahead (state_after_retry first id purpose challenge now) ≤ slots
        fits = subst (λ (u : State). queue_ahead u ≤ slots) e within

        there-of : is_outstanding id first.transactions ≡ true → (x : Transaction) × Has x first.transactions × (x.id ≡ id)
        there-of e = let (x, there, same) = any-has (λ (x : Transaction). eqb x.id id) first.transactions e in (x, there, eqb-true x.id id same)

        by-age : (b : Bool) → is_outstanding id first.transactions ≡ b → (later.made (fresh_id first) ≤ now) × (now ≤ later.made (fresh_id first) + delay)
        by-age false f =
            let now_made : cond (is_outstanding id first.transactions) (past.made id) now ≡ now = rw f refl in
            let made : later.made (fresh_id first) ≡ now = made-fresh ∙ now_made in
            (omega (arith, made), omega (arith, made))
        by-age true f =
            let (x, there, same) = there-of f in
            let as_old : cond (is_outstanding id first.transactions) (past.made id) now ≡ past.made id = rw f refl in
            let made : later.made (fresh_id first) ≡ past.made id = made-fresh ∙ as_old in
            let as_x : past.made x.id ≡ past.made id = ap past.made same in
            let begun = k.begun x there in
            let heard = k.heard x there in
            (omega (arith, made, as_x, begun), omega (arith, made, as_x, heard))

        early : later.made (fresh_id first) ≤ now
        early = (by-age (is_outstanding id first.transactions) refl).0

        answered : now ≤ later.made (fresh_id first) + delay
        answered = (by-age (is_outstanding id first.transactions) refl).1

        as-old : (x : Transaction) → Has x first.transactions → x.id ≡ id → later.made (fresh_id first) ≡ past.made x.id
        as-old x there same =
            let here : is_outstanding id first.transactions ≡ true = has-any (λ (y : Transaction). eqb y.id id) x first.transactions there (eq-eqb x.id id same) in
            let as_old : cond (is_outstanding id first.transactions) (past.made id) now ≡ past.made id = rw here refl in
            made-fresh ∙ (as_old ∙ ap past.made (sym same))

    pub asking-input : Keeps
    asking-input = by (challenge_in first one.bytes) refl is.challenge
      where
        by : (o : Option Challenge) → challenge_in first one.bytes ≡ o → IsSome o → Keeps
        by None e some = absurd (let no : false ≡ true = some in cc)
        by (Some challenge) e some = for (retried (purposes_of id first)) refl
          where
            retries-none : retried (purposes_of id first) ≡ None → (retry_step one.bytes challenge now first).1 ≡ first
            retries-none f = rw (f, retry_step) refl

            retries : (purpose : Purpose) → retried (purposes_of id first) ≡ Some purpose → (retry_step one.bytes challenge now first).1 ≡ state_after_retry first id purpose challenge now
            retries purpose f = rw (f, retry_step) refl

            for : (p : Option Purpose) → retried (purposes_of id first) ≡ p → Keeps
            for None f = mild-input (inr (inr (asked challenge e ∙ retries-none f)))
            for (Some purpose) f = retried-input challenge purpose (asked challenge e ∙ retries purpose f)

-- ---- the inputs of a call

module _ (count slots extras : ℕ) (lag : Lag) (delay now : ℕ) where
  inputs-kept : (inputs : List Input) (s t : State) (past : History) → IsKept count slots extras lag delay now past s.transactions s → InputsLead inputs s t → AreCalm slots extras inputs past
      → ((one : Input) → Has one inputs → one.time ≡ now) → KeepsAll count slots extras lag delay now past (with_inputs inputs past) s t
  inputs-kept [] s t past k lead calm times = let (kept, goes, same) = leads-differs count slots extras lag delay now past s t k lead in (kept, goes)
  inputs-kept (one ∷ others) s t past k (differs, lead) (either, within, few, calm) times =
      let at = times one (inl refl) in
      let seldom = subst (λ (time : ℕ). IsSeldom extras one.before.config.refresh_ahead time (with_input one past)) at few in
      let (kept, goes, same) = leads-differs count slots extras lag delay now past s one.before k differs in
      let (next, on) : KeepsAll count slots extras lag delay now past (with_input one past) one.before (processed one).1 = elim either [
        | inl mild ↦ mild-input count slots extras lag delay now past one at kept seldom mild
        | inr asks ↦ asking-input count slots extras lag delay now past one at kept seldom asks within
      ] in
      let (end, as_well) = inputs-kept others (processed one).1 t (with_input one past) next lead calm (λ x h. times x (inr h)) in (
        end,
        goes-trans past past (with_inputs (one ∷ others) past) s.transactions one.before.transactions t.transactions s one.before t goes
            (goes-trans past (with_input one past) (with_inputs (one ∷ others) past) one.before.transactions (processed one).1.transactions t.transactions one.before (processed one).1 t on as_well),
      )

  end-kept : (inputs : List Input) (s t : State) (past : History) → inputs ≡ [] → Leads count slots extras lag delay now past s t
      → KeepsAll count slots extras lag delay now past (with_inputs inputs past) s t
  end-kept inputs s t past none (kept, goes, same) = subst (λ (is : List Input). KeepsAll count slots extras lag delay now past (with_inputs is past) s t) (sym none) (kept, goes)

  recv-kept : (packet : _) (s : State) (past : History) → IsKept count slots extras lag delay now past s.transactions s → AreCalm slots extras (handled (Recv packet now) s) past
      → KeepsAll count slots extras lag delay now past (with_inputs (handled (Recv packet now) s) past) s (state_after (Recv packet now) s)
  recv-kept packet s past k calm = elim (calls-do (Recv packet now) s tt) [
    | inl lead ↦ inputs-kept (handled (Recv packet now) s) s (state_after (Recv packet now) s) past k lead calm (λ one h. (inputs-come (Recv packet now) s one h).0)
    | inr end ↦ end-kept (handled (Recv packet now) s) s (state_after (Recv packet now) s) past end.nothing
        (leads-end count slots extras lag delay now past (Recv packet now) s (state_after (Recv packet now) s) k end)
  ]

  poll-kept : (s : State) (past : History) → IsKept count slots extras lag delay now past s.transactions s → AreCalm slots extras (handled (PollRecv now) s) past
      → KeepsAll count slots extras lag delay now past (with_inputs (handled (PollRecv now) s) past) s (state_after (PollRecv now) s)
  poll-kept s past k calm = elim (calls-do (PollRecv now) s tt) [
    | inl lead ↦ inputs-kept (handled (PollRecv now) s) s (state_after (PollRecv now) s) past k lead calm (λ one h. (inputs-come (PollRecv now) s one h).0)
    | inr end ↦ end-kept (handled (PollRecv now) s) s (state_after (PollRecv now) s) past end.nothing
        (leads-end count slots extras lag delay now past (PollRecv now) s (state_after (PollRecv now) s) k end)
  ]

-- ---- the run

abbrev pub InPieces : ℕ → ℕ → ℕ → ℕ → ℕ → ℕ → ℕ → History → State → List Call → Type 0
InPieces count slots extras delay late since before past s calls = RunsInPieces count slots extras late delay since before past s calls

pieces-step : (count slots extras delay : ℕ) (lag : Lag) (before : ℕ) (past : History) (s : State) (call : Call) (calls : List Call) → IsKept count slots extras lag delay before past s.transactions s
    → RunsInPieces count slots extras lag.late delay lag.since before past s (call ∷ calls)
    → (since : ℕ) × KeepsAll count slots extras (taken since lag) delay (time_of before call) past (with_all call (time_of before call) s past) s (state_after call s)
    × RunsInPieces count slots extras lag.late delay since (time_of before call) (with_all call (time_of before call) s past) (state_after call s) calls
pieces-step count slots extras delay lag before past s (Recv packet now) calls k (start, in_time, calm, within, seldom, run) =
    (start, recv-kept count slots extras (taken start lag) delay now packet s past (time-kept count slots extras lag delay before start now past s k in_time) calm, run)
pieces-step count slots extras delay lag before past s (PollRecv now) calls k (start, in_time, calm, within, seldom, run) =
    (start, poll-kept count slots extras (taken start lag) delay now s past (time-kept count slots extras lag delay before start now past s k in_time) calm, run)
pieces-step count slots extras delay lag before past s call calls k (start, in_time, quiet, within, seldom, run) =
    (since_next call s start, call-kept count slots extras lag delay before past s start call k in_time (inl quiet) within seldom, run)

-- runs by packets are among these
pub packets-enough : PacketsAreEnough
packets-enough count slots extras late delay now s calls (inl behind) = inl behind
packets-enough count slots extras late delay now s calls (inr granted) = inr (inl granted)

-- ---- whatever was let go before

record AreAlike (past other : History) : Type 0 where
  made : (id : ℕ) → past.made id ≡ other.made id
  extra : past.extra ≡ other.extra
  challenged : past.challenged ≡ other.challenged

input-alike : (one : Input) (past other : History) → AreAlike past other → AreAlike (with_input one past) (with_input one other)
input-alike one past other a = record {
  made = λ id. rw (a.made (id_of one.bytes), a.made id) refl;
  extra = rw a.extra refl;
  challenged = rw a.challenged refl;
}

inputs-alike : (inputs : List Input) (past other : History) → AreAlike past other → AreAlike (with_inputs inputs past) (with_inputs inputs other)
inputs-alike [] past other a = a
inputs-alike (one ∷ later) past other a = inputs-alike later (with_input one past) (with_input one other) (input-alike one past other a)

seldom-alike : (extras ahead now : ℕ) (past other : History) → AreAlike past other → IsSeldom extras ahead now past → IsSeldom extras ahead now other
seldom-alike extras ahead now past other a seldom = λ since near. subst (λ (times : List ℕ). length (filter (λ time. nat_le since time) times) ≤ extras) a.extra (seldom since near)

calm-alike : (slots extras : ℕ) (inputs : List Input) (past other : History) → AreAlike past other → AreCalm slots extras inputs past → AreCalm slots extras inputs other
calm-alike slots extras [] past other a calm = tt
calm-alike slots extras (one ∷ later) past other a (either, within, seldom, calm) = (
  elim either [
    | inl mild ↦ inl mild
    | inr asks ↦ inr (record {
      over = asks.over;
      whole = asks.whole;
      error = asks.error;
      challenge = asks.challenge;
      few = subst (λ (n : ℕ). n < one.before.config.max_stale_nonces) a.challenged asks.few;
    })
  ],
  within,
  seldom-alike extras one.before.config.refresh_ahead one.time (with_input one past) (with_input one other) (input-alike one past other a) seldom,
  calm-alike slots extras later (with_input one past) (with_input one other) (input-alike one past other a) calm,
)

call-as : (call : Call) (now : ℕ) (s : State) (past other : History) → AreAlike past other → AreAlike (with_call call now s past) (with_call call now s other)
call-as call now s past other a = record { made = call-alike call now s past other a.made; extra = rw a.extra refl; challenged = row-alike call now s past other a.challenged }

answered-alike : (late delay since before start now : ℕ) (past other : History) (s : State) → AreAlike past other → AreAnswered late delay since before start now past s
    → AreAnswered late delay since before start now other s
answered-alike late delay since before start now past other s a is = record { caller = is.caller; answered = all-has (λ (x : Transaction). now ≤ other.made x.id + delay) s.transactions by }
  where
    by : (x : Transaction) → Has x s.transactions → now ≤ other.made x.id + delay
    by x h =
        let soon = has-all (λ (x : Transaction). now ≤ past.made x.id + delay) x s.transactions is.answered h in
        let same = a.made x.id in
        omega (arith, soon, same)

pieces-alike : (count slots extras delay late since before : ℕ) (past other : History) (s : State) (calls : List Call) → AreAlike past other
    → RunsInPieces count slots extras late delay since before past s calls → RunsInPieces count slots extras late delay since before other s calls
pieces-alike count slots extras delay late since before past other s [] a run = tt
pieces-alike count slots extras delay late since before past other s (Recv packet now ∷ calls) a (start, in_time, calm, within, seldom, run) =
    let next = inputs-alike (handled (Recv packet now) s) past other a in (
      start,
      answered-alike late delay since before start now past other s a in_time,
      calm-alike slots extras (handled (Recv packet now) s) past other a calm,
      within,
      seldom-alike extras s.config.refresh_ahead now _ _ next seldom,
      pieces-alike count slots extras delay late start now _ _ (state_after (Recv packet now) s) calls next run,
    )
pieces-alike count slots extras delay late since before past other s (PollRecv now ∷ calls) a (start, in_time, calm, within, seldom, run) =
    let next = inputs-alike (handled (PollRecv now) s) past other a in (
      start,
      answered-alike late delay since before start now past other s a in_time,
      calm-alike slots extras (handled (PollRecv now) s) past other a calm,
      within,
      seldom-alike extras s.config.refresh_ahead now _ _ next seldom,
      pieces-alike count slots extras delay late start now _ _ (state_after (PollRecv now) s) calls next run,
    )
pieces-alike count slots extras delay late since before past other s (call ∷ calls) a (start, in_time, quiet, within, seldom, run) =
    let now = time_of before call in
    let next = call-as call now s past other a in (
      start,
      answered-alike late delay since before start now past other s a in_time,
      quiet-alike call past other s a.challenged quiet,
      within,
      seldom-alike extras s.config.refresh_ahead now _ _ next seldom,
      pieces-alike count slots extras delay late (since_next call s start) now _ _ (state_after call s) calls next run,
    )

-- inputs let nothing go
inputs-free : (inputs : List Input) (past : History) (g : Grant) → was_let_go (with_inputs inputs past) g ≡ true → was_let_go past g ≡ true
inputs-free [] past g e = e
inputs-free (one ∷ later) past g e = by g (inputs-free later (with_input one past) g e)
  where
    by : (g : Grant) → was_let_go (with_input one past) g ≡ true → was_let_go past g ≡ true
    by (Permission ip progress) e = e
    by (Channel number peer progress) e = e
    by g e = e

all-frees : (call : Call) (now : ℕ) (s : State) (past : History) (g : Grant) → was_let_go (with_all call now s past) g ≡ true → was_let_go (with_call call now s past) g ≡ true
all-frees (Recv packet time) now s past g e = call-lets_go (Recv packet time) now past s g (inputs-free (handled (Recv packet time) s) past g e)
all-frees (PollRecv time) now s past g e = call-lets_go (PollRecv time) now past s g (inputs-free (handled (PollRecv time) s) past g e)
all-frees call now s past g e = e

pub pieces-way : (count slots extras delay : ℕ) → Way count slots extras delay (InPieces count slots extras delay) with_all
pieces-way count slots extras delay = record {
  step = pieces-step count slots extras delay;
  alike = λ late since before past other s calls made extra row run.
      pieces-alike count slots extras delay late since before past other s calls (record { made = made; extra = extra; challenged = row }) run;
  frees = all-frees;
}
