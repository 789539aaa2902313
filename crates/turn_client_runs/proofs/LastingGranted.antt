-- If a success for each request comes in time, no request awaits its success for longer.
use Rattle.turn_client_laws.proofs.Common.{◌≡◌, ◌⊎◌, ℕ, ◌+◌, ◌≤◌, Bool, true, false, not, eqb, List, [], ◌∷◌, refl, inl, inr, ap, sym, subst, ◌∙◌, AllByRecursion, eqb-true, eq-eqb}
use Rattle.turn_client_laws.proofs.Machine.{id_of, is_outstanding, is_outstanding-without, Transaction, transaction_ended, State, Call, PollRecv, Recv, state_after, Has, has-filter, all-has}
use Rattle.turn_client_laws.proofs.Laws.{DiffersInStreams, Input, InputsLead, TakesInput, any-has, calls-do, handled, has-any, has-contains, processed}
use Rattle.turn_client_runs.specs.History.{History, no_history, with_call}
use Rattle.turn_client_runs.specs.Late.{AreAnswered, AreGranted, GrantedAreAnswered, IsChallengedIn, IsGrantedAmong, IsGrantedBy, IsGrantedIn, IsGranting, IsMild, RunsBehind, RunsGranted, since_next}
use Rattle.turn_client_runs.specs.OnTime.{time_of}
use Rattle.turn_client_runs.proofs.ComingLemmas.{inputs-come}
use Rattle.turn_client_runs.proofs.LastingHistory.{call-goes_on}
use Rattle.turn_client_runs.proofs.LastingParts.{first_lag, steady-kept}
use Rattle.turn_client_runs.proofs.LastingRuns.{Kept_at, call-kept, granting-ends, leads-differs, leads-mild, success-ended}
use Rattle.turn_client_runs.proofs.LastingNoise.{noise-changes-nothing}
use Rattle.turn_client_runs.proofs.LastingStands.{IsKept, Lag, taken}
use Rattle.turn_client_runs.proofs.LastingTime.{time-kept}

-- no request is made
abbrev MakesNone : State → State → Type 0
MakesNone s t = (id : ℕ) → is_outstanding id s.transactions ≡ false → is_outstanding id t.transactions ≡ false

module _ (count slots extras : ℕ) (lag : Lag) (delay now : ℕ) (past : History) where
  abbrev Kept_in : State → Type 0
  Kept_in s = Kept_at count slots extras lag delay now past s

  none-differs : (s t : State) → DiffersInStreams s t → MakesNone s t
  none-differs s t differs id none = ap (λ (x : State). is_outstanding id x.transactions) differs.others ∙ none

  none-granting : (one : Input) → Kept_in one.before → one.time ≡ now → IsGranting one → MakesNone one.before (processed one).1
  none-granting one k at is id none = ap (is_outstanding id) (granting-ends count slots extras lag delay now past one k at is) ∙ by (is_outstanding id (transaction_ended (id_of one.bytes) one.before).transactions) refl
    where
      by : (b : Bool) → is_outstanding id (transaction_ended (id_of one.bytes) one.before).transactions ≡ b → is_outstanding id (transaction_ended (id_of one.bytes) one.before).transactions ≡ false
      by false e = e
      by true e =
          let (x, there, f) = any-has (λ (x : Transaction). eqb x.id id) (transaction_ended (id_of one.bytes) one.before).transactions e in
          let was = (has-filter (λ (x : Transaction). not (eqb x.id (id_of one.bytes))) x one.before.transactions there).0 in
          let no : false ≡ true = sym none ∙ has-any (λ (x : Transaction). eqb x.id id) x one.before.transactions was f in
          cc

  none-mild : (one : Input) → Kept_in one.before → one.time ≡ now → IsMild one → MakesNone one.before (processed one).1
  none-mild one k at (inl is) = none-granting one k at is
  none-mild one k at (inr (inl (over, noise))) = λ id none. ap (λ (x : State). is_outstanding id x.transactions) (noise-changes-nothing one k.phase over noise) ∙ none
  none-mild one k at (inr (inr same)) = λ id none. ap (λ (x : State). is_outstanding id x.transactions) same ∙ none

  none-all : (inputs : List Input) (s t : State) → Kept_in s → InputsLead inputs s t → AllByRecursion IsMild inputs → ((one : Input) → Has one inputs → one.time ≡ now) → MakesNone s t
  none-all [] s t k lead all times = none-differs s t lead
  none-all (one ∷ later) s t k (differs, lead) (mild, all) times = λ id none.
      let first = leads-differs count slots extras lag delay now past s one.before k differs in
      let next = leads-mild count slots extras lag delay now past one first.0 (times one (inl refl)) mild in
      none-all later (processed one).1 t next.0 lead all (λ x h. times x (inr h)) id
      (none-mild one first.0 (times one (inl refl)) mild id (none-differs s one.before differs id none))

  -- what is granted is no longer outstanding
  ends-all : (id : ℕ) (inputs : List Input) (s t : State) → Kept_in s → InputsLead inputs s t → AllByRecursion IsMild inputs → ((one : Input) → Has one inputs → one.time ≡ now)
      → IsGrantedAmong id inputs → is_outstanding id t.transactions ≡ false
  ends-all id [] s t k lead all times none = absurd none
  ends-all id (one ∷ later) s t k (differs, lead) (mild, all) times (inl (is, same)) =
      let first = leads-differs count slots extras lag delay now past s one.before k differs in
      let next = leads-mild count slots extras lag delay now past one first.0 (times one (inl refl)) mild in
      let gone : is_outstanding (id_of one.bytes) (processed one).1.transactions ≡ false =
      ap (is_outstanding (id_of one.bytes)) (granting-ends count slots extras lag delay now past one first.0 (times one (inl refl)) is)
      ∙ is_outstanding-without (id_of one.bytes) one.before.transactions in
      none-all later (processed one).1 t next.0 lead all (λ x h. times x (inr h)) id (subst (λ (i : ℕ). is_outstanding i (processed one).1.transactions ≡ false) same gone)
  ends-all id (one ∷ later) s t k (differs, lead) (mild, all) times (inr granted) =
      let first = leads-differs count slots extras lag delay now past s one.before k differs in
      let next = leads-mild count slots extras lag delay now past one first.0 (times one (inl refl)) mild in
      ends-all id later (processed one).1 t next.0 lead all (λ x h. times x (inr h)) granted

  ends-among : (id : ℕ) (c : Call) (s : State) → Kept_in s → TakesInput c → ((one : Input) → Has one (handled c s) → one.time ≡ now) → AllByRecursion IsMild (handled c s)
      → IsGrantedAmong id (handled c s) → is_outstanding id (state_after c s).transactions ≡ false
  ends-among id c s k takes times all granted = elim (calls-do c s takes) [
    | inl lead ↦ ends-all id (handled c s) s (state_after c s) k lead all times granted
    | inr end ↦ absurd (subst (IsGrantedAmong id) end.nothing granted)
  ]

  ends-in : (id before : ℕ) (c : Call) (s : State) → time_of before c ≡ now → Kept_in s → IsGrantedIn id c s → is_outstanding id (state_after c s).transactions ≡ false
  ends-in id before (Recv packet time) s at k (inl (is, same)) = subst (λ (i : ℕ). is_outstanding i (state_after (Recv packet time) s).transactions ≡ false) same (success-ended packet time s k.phase is)
  ends-in id before (Recv packet time) s at k (inr (all, granted)) = ends-among id (Recv packet time) s k tt (λ one h. (inputs-come (Recv packet time) s one h).0 ∙ at) all granted
  ends-in id before (PollRecv time) s at k (all, granted) = ends-among id (PollRecv time) s k tt (λ one h. (inputs-come (PollRecv time) s one h).0 ∙ at) all granted
  ends-in id before c s at k none = absurd none

-- ---- the run

challenged-ends : (id : ℕ) (c : Call) (s : State) → IsChallengedIn id c s → is_outstanding id (state_after c s).transactions ≡ false
challenged-ends id (Recv packet now) s is = is.3
challenged-ends id c s none = absurd none

-- a request that is outstanding after the call was so before it, and has no success in it, or the call made it
next-granted : (count slots extras : ℕ) (lag : Lag) (delay before : ℕ) (past : History) (s : State) (call : Call) (calls : List Call) → IsKept count slots extras lag delay (time_of before call) past s.transactions s
    → ((x : Transaction) → Has x s.transactions → IsGrantedBy x.id (past.made x.id + delay) before s (call ∷ calls))
    → AreGranted delay call (time_of before call) (with_call call (time_of before call) s past) s calls
    → (x : Transaction) → Has x (state_after call s).transactions
    → IsGrantedBy x.id ((with_call call (time_of before call) s past).made x.id + delay) (time_of before call) (state_after call s) calls
next-granted count slots extras lag delay before past s call calls k granted news x h = by (is_outstanding x.id s.transactions) refl
  where
    now : ℕ
    now = time_of before call

    Goal : ℕ → Type 0
    Goal id = IsGrantedBy id ((with_call call (time_of before call) s past).made id + delay) (time_of before call) (state_after call s) calls

    over : (y : Transaction) → y.id ≡ x.id → is_outstanding y.id (state_after call s).transactions ≡ false → Goal x.id
    over y same gone =
        let still = has-any (λ (z : Transaction). eqb z.id y.id) x (state_after call s).transactions h (eq-eqb x.id y.id (sym same)) in
        absurd (let no : false ≡ true = sym gone ∙ still in cc)

    rest : (y : Transaction) → Has y s.transactions → y.id ≡ x.id
        → IsGrantedIn y.id call s ⊎ (IsChallengedIn y.id call s ⊎ IsGrantedBy y.id (past.made y.id + delay) (time_of before call) (state_after call s) calls) → Goal x.id
    rest y there same (inl done) = over y same (ends-in count slots extras lag delay (time_of before call) past y.id before call s refl k done)
    rest y there same (inr (inl again)) = over y same (challenged-ends y.id call s again)
    rest y there same (inr (inr later)) =
        subst Goal same (subst (λ (made : ℕ). IsGrantedBy y.id (made + delay) (time_of before call) (state_after call s) calls) (sym ((call-goes_on call (time_of before call) past s).same y there)) later)

    by : (b : Bool) → is_outstanding x.id s.transactions ≡ b → Goal x.id
    by false e = news x (has-contains x (state_after call s).transactions h) e
    by true e =
        let (y, there, f) = any-has (λ (z : Transaction). eqb z.id x.id) s.transactions e in
        rest y there (eqb-true y.id x.id f) (granted y there).1

granted-behind : (count slots extras : ℕ) (lag : Lag) (delay before : ℕ) (past : History) (s : State) (calls : List Call) → IsKept count slots extras lag delay before past s.transactions s
    → ((x : Transaction) → Has x s.transactions → IsGrantedBy x.id (past.made x.id + delay) before s calls)
    → RunsGranted count slots extras lag.late delay lag.since before past s calls → RunsBehind count slots extras lag.late delay lag.since before past s calls
granted-behind count slots extras lag delay before past s [] k granted run = tt
granted-behind count slots extras lag delay before past s (call ∷ calls) k granted (start, late, calm, within, seldom, news, run) =
    let now = time_of before call in
    let in_time : AreAnswered lag.late delay lag.since before start now past s =
    record { caller = late; answered = all-has (λ (x : Transaction). now ≤ past.made x.id + delay) s.transactions (λ x h. (granted x h).0) } in
    let both = call-kept count slots extras lag delay before past s start call k in_time calm within seldom in
    let then = time-kept count slots extras lag delay before start now past s k in_time in (
      start,
      in_time,
      calm,
      within,
      seldom,
      granted-behind count slots extras (taken (since_next call s start) lag) delay now (with_call call now s past) (state_after call s) calls both.0
          (next-granted count slots extras (taken start lag) delay before past s call calls then granted news) run,
    )

pub granted-answered : GrantedAreAnswered
granted-answered count slots extras late delay now s calls steady run =
    granted-behind count slots extras (first_lag late now s) delay now (no_history s) s calls (steady-kept count slots extras late delay now s steady)
    (λ x h. absurd (subst (λ (xs : List Transaction). Has x xs) steady.none_outstanding h)) run
