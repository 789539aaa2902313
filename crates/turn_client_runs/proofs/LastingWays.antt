-- What a run keeps, by what each of its calls keeps.
use Rattle.turn_client_laws.proofs.Common.{◌≡◌, ℕ, Bool, true, false, List, [], ◌∷◌, ◌++◌, refl, sym, ◌∙◌}
use Rattle.turn_client_laws.proofs.Machine.{Call, Grant, State, state_after, state_after_all}
use Rattle.turn_client_runs.specs.History.{History, no_history, was_let_go, with_call, with_calls}
use Rattle.turn_client_runs.specs.Late.{RunsBehind, since_next}
use Rattle.turn_client_runs.specs.OnTime.{time_of, time_of_all}
use Rattle.turn_client_runs.proofs.LastingRuns.{KeepsAll, call-kept, goes-same}
use Rattle.turn_client_runs.proofs.LastingSpared.{call-frees, runs-alike}
use Rattle.turn_client_runs.proofs.LastingStands.{IsKept, Lag, goes-trans, taken}

-- what came before, once all of these calls are made
abbrev pub onwards : (Call → ℕ → State → History → History) → List Call → ℕ → State → History → History
onwards onward [] before s past = past
onwards onward (call ∷ calls) before s past = onwards onward calls (time_of before call) (state_after call s) (onward call (time_of before call) s past)

-- A kind of runs, with what came before as it counts it: each call keeps all, and the others go on from there. It counts when
-- requests were made, which packets were extra, and how many challenges came, and lets go what calls do.
pub record Way (count slots extras delay : ℕ) (Runs : ℕ → ℕ → ℕ → History → State → List Call → Type 0) (onward : Call → ℕ → State → History → History) : Type 0 where
  pub step : (lag : Lag) (before : ℕ) (past : History) (s : State) (call : Call) (calls : List Call) → IsKept count slots extras lag delay before past s.transactions s
      → Runs lag.late lag.since before past s (call ∷ calls)
      → (since : ℕ) × KeepsAll count slots extras (taken since lag) delay (time_of before call) past (onward call (time_of before call) s past) s (state_after call s)
      × Runs lag.late since (time_of before call) (onward call (time_of before call) s past) (state_after call s) calls
  pub alike : (late since before : ℕ) (past other : History) (s : State) (calls : List Call) → ((id : ℕ) → past.made id ≡ other.made id) → past.extra ≡ other.extra
      → past.challenged ≡ other.challenged → Runs late since before past s calls → Runs late since before other s calls
  pub frees : (call : Call) (now : ℕ) (s : State) (past : History) (g : Grant) → was_let_go (onward call now s past) g ≡ true → was_let_go (with_call call now s past) g ≡ true

-- After the first calls of a run all is kept, and the others go on from there.
pub record Halves (count slots extras delay : ℕ) (Runs : ℕ → ℕ → ℕ → History → State → List Call → Type 0) (onward : Call → ℕ → State → History → History)
    (lag : Lag) (before : ℕ) (past : History) (s : State) (earlier later : List Call) : Type 0 where
  pub since : ℕ
  pub kept : IsKept count slots extras (taken since lag) delay (time_of_all before earlier) (onwards onward earlier before s past) (state_after_all s earlier).transactions (state_after_all s earlier)
  pub run : Runs lag.late since (time_of_all before earlier) (onwards onward earlier before s past) (state_after_all s earlier) later

module _ (count slots extras delay : ℕ) (Runs : ℕ → ℕ → ℕ → History → State → List Call → Type 0) (onward : Call → ℕ → State → History → History)
    (way : Way count slots extras delay Runs onward) where
  pub all-kept : (lag : Lag) (before : ℕ) (past : History) (s : State) (calls : List Call) → IsKept count slots extras lag delay before past s.transactions s
      → Runs lag.late lag.since before past s calls
      → (since : ℕ) × KeepsAll count slots extras (taken since lag) delay (time_of_all before calls) past (onwards onward calls before s past) s (state_after_all s calls)
  all-kept lag before past s [] k run = (lag.since, (k, goes-same past s s refl refl refl))
  all-kept lag before past s (call ∷ calls) k run =
      let later = onward call (time_of before call) s past in
      let (next, (kept, goes), rest) = way.step lag before past s call calls k run in
      let (since, (last, as_well)) = all-kept (taken next lag) (time_of before call) later (state_after call s) calls kept rest in (
        since,
        (
          last,
          goes-trans past later (onwards onward calls (time_of before call) (state_after call s) later) s.transactions (state_after call s).transactions
              (state_after_all (state_after call s) calls).transactions s (state_after call s) (state_after_all (state_after call s) calls) goes as_well,
        ),
      )

  pub halves : (lag : Lag) (before : ℕ) (past : History) (s : State) (earlier later : List Call) → IsKept count slots extras lag delay before past s.transactions s
      → Runs lag.late lag.since before past s (earlier ++ later) → Halves count slots extras delay Runs onward lag before past s earlier later
  halves lag before past s [] later k run = record { since = lag.since; kept = k; run = run }
  halves lag before past s (call ∷ earlier) later k run =
      let (next, (kept, goes), others) = way.step lag before past s call (earlier ++ later) k run in
      let rest = halves (taken next lag) (time_of before call) (onward call (time_of before call) s past) (state_after call s) earlier later kept others in
      record { since = rest.since; kept = rest.kept; run = rest.run }

  calls-free : (calls : List Call) (before : ℕ) (s : State) (past other : History) (g : Grant) → (was_let_go past g ≡ true → was_let_go other g ≡ true)
      → was_let_go (onwards onward calls before s past) g ≡ true → was_let_go (with_calls calls before s other) g ≡ true
  calls-free [] before s past other g more e = more e
  calls-free (call ∷ calls) before s past other g more e =
      calls-free calls (time_of before call) (state_after call s) (onward call (time_of before call) s past) (with_call call (time_of before call) s other) g
      (λ is. call-frees call (time_of before call) s past other g more (way.frees call (time_of before call) s past g is)) e

  -- what was not let go before, nor by these calls, is not
  pub none-by : (calls : List Call) (before : ℕ) (s : State) (past : History) (g : Grant) → was_let_go past g ≡ false → was_let_go (with_calls calls before s (no_history s)) g ≡ false
      → was_let_go (onwards onward calls before s past) g ≡ false
  none-by calls before s past g was none = by (was_let_go (onwards onward calls before s past) g) refl
    where
      by : (b : Bool) → was_let_go (onwards onward calls before s past) g ≡ b → was_let_go (onwards onward calls before s past) g ≡ false
      by false e = e
      by true e =
          let no : false ≡ true = sym none ∙ calls-free calls before s past (no_history s) g (λ is. let no : false ≡ true = sym was ∙ is in cc) e in
          cc

-- ---- by packets

abbrev pub Behind : ℕ → ℕ → ℕ → ℕ → ℕ → ℕ → ℕ → History → State → List Call → Type 0
Behind count slots extras delay late since before past s calls = RunsBehind count slots extras late delay since before past s calls

behind-step : (count slots extras delay : ℕ) (lag : Lag) (before : ℕ) (past : History) (s : State) (call : Call) (calls : List Call) → IsKept count slots extras lag delay before past s.transactions s
    → RunsBehind count slots extras lag.late delay lag.since before past s (call ∷ calls)
    → (since : ℕ) × KeepsAll count slots extras (taken since lag) delay (time_of before call) past (with_call call (time_of before call) s past) s (state_after call s)
    × RunsBehind count slots extras lag.late delay since (time_of before call) (with_call call (time_of before call) s past) (state_after call s) calls
behind-step count slots extras delay lag before past s call calls k (start, in_time, quiet, within, seldom, run) =
    (since_next call s start, call-kept count slots extras lag delay before past s start call k in_time quiet within seldom, run)

pub behind-way : (count slots extras delay : ℕ) → Way count slots extras delay (Behind count slots extras delay) with_call
behind-way count slots extras delay = record {
  step = behind-step count slots extras delay;
  alike = λ late since before past other s calls made extra row run. runs-alike count slots extras late delay since before past other s calls made extra row run;
  frees = λ call now s past g e. e;
}
