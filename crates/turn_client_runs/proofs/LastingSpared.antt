-- A part of a run counts for a grant as if it had not been let go before.
use Rattle.turn_client_laws.proofs.Common.{◌≡◌, ◌⊎◌, ℕ, ◌+◌, ◌<◌, ◌≤◌, Bool, true, false, not, ◌&&◌, List, [], ◌∷◌, length, refl, inl, inr, ap, sym, subst, ◌∙◌, arith, filter, nat_le, eq-eqb}
use Rattle.turn_client_laws.proofs.Common.{or_cases, or_left, or_right}
use Rattle.turn_client_laws.proofs.Machine.{id_of, Transaction, is_kept, is_channel_of, is_for, is_permission_of, State, state_after, Call, Recv, Grant, Channel, Permission, Listing, Purpose}
use Rattle.turn_client_laws.proofs.Machine.{ForChannel, ForPermission, Has, all-has, has-all}
use Rattle.turn_client_runs.specs.History.{History, challenged_by, first_made, was_let_go, with_call}
use Rattle.turn_client_runs.specs.Late.{IsCalm, RunsBehind, since_next}
use Rattle.turn_client_runs.specs.Lasting.{IsQuiet}
use Rattle.turn_client_runs.specs.OnTime.{time_of}
use Rattle.turn_client_runs.proofs.LastingCounts.{passes-same}
use Rattle.turn_client_runs.proofs.LastingExpiry.{reserved-waits}
use Rattle.turn_client_runs.proofs.LastingHistory.{kept-with, stands-later}
use Rattle.turn_client_runs.proofs.LastingStands.{IsUnique, granted-active, leased-active, not-waiting, IsKept, IsKnown, IsPending, requested-more, IsWell, Lag, Stands, is_waiting}
use Rattle.turn_client_runs.proofs.LastingTransmits.{same_ip-self}

-- the grant was not let go before
abbrev pub sparing : Grant → History → History
sparing g past = record past {
  permission_let_go = λ ip. past.permission_let_go ip && not (is_permission_of ip g);
  channel_let_go = λ number peer. past.channel_let_go number peer && not (is_channel_of number g);
}

and-not : (a b : Bool) → b ≡ true → (a && not b) ≡ false
and-not true b e = rw e refl
and-not false b e = refl

pub spared-none : (g : Grant) (past : History) → was_let_go (sparing g past) g ≡ false
spared-none (Permission ip progress) past = and-not (past.permission_let_go ip) (is_permission_of ip (Permission ip progress)) (same_ip-self ip)
spared-none (Channel number peer progress) past = and-not (past.channel_let_go number peer) (is_channel_of number (Channel number peer progress)) (eq-eqb number number refl)
spared-none g past = refl

-- the purpose is for both
abbrev IsUniqueFor : Purpose → Grant → Grant → Type 0
IsUniqueFor p h g = IsUnique p × (is_for p h ≡ true) × (is_for p g ≡ true)

pub pending-spared : (until : ℕ) (past : History) (xs : List Transaction) (ls : List Listing) (g h : Grant) → IsPending until past xs ls h → IsPending until (sparing g past) xs ls h
pending-spared until past xs ls g h = requested-more (λ made. made ≤ until) past (sparing g past) xs xs ls ls h (λ x there. refl) (λ x there. there) (λ l there for. there)

-- what was let go is so still, or it is this one
module _ (g : Grant) (past : History) where
  others-spared : (h : Grant) → was_let_go past h ≡ true → (was_let_go (sparing g past) h ≡ true) ⊎ ((p : Purpose) × IsUniqueFor p h g)
  others-spared (Permission ip progress) e = by (is_permission_of ip g) refl
    where
      by : (b : Bool) → is_permission_of ip g ≡ b → (was_let_go (sparing g past) (Permission ip progress) ≡ true) ⊎ ((p : Purpose) × IsUniqueFor p (Permission ip progress) g)
      by false f = inl (rw (e, f) refl)
      by true f = inr (ForPermission ip, (tt, same_ip-self ip, f))
  others-spared (Channel number peer progress) e = by (is_channel_of number g) refl
    where
      by : (b : Bool) → is_channel_of number g ≡ b → (was_let_go (sparing g past) (Channel number peer progress) ≡ true) ⊎ ((p : Purpose) × IsUniqueFor p (Channel number peer progress) g)
      by false f = inl (rw (e, f) refl)
      by true f = inr (ForChannel number peer, (tt, eq-eqb number number refl, f))
  others-spared h e = cc

module _ (count slots extras : ℕ) (lag : Lag) (delay now : ℕ) (past : History) (s : State) (k : IsKept count slots extras lag delay now past s.transactions s) (g : Grant) (here : Has g s.grants)
    (sure : Stands count slots extras lag delay now past s.transactions s g ⊎ ((is_waiting g ≡ true) × (is_kept g ≡ true))) where
  abbrev later : History
  later = sparing g past

  stands-spared : (h : Grant) → Stands count slots extras lag delay now past s.transactions s h → Stands count slots extras lag delay now later s.transactions s h
  stands-spared = stands-later count slots extras lag delay now past later s.transactions s (λ x h. refl) (λ since. omega arith)

  -- what is for the same is the same
  only : (h : Grant) → Has h s.grants → (p : Purpose) × IsUniqueFor p h g → h ≡ g
  only h there (p, (unique, one, two)) = passes-same (is_for p) h g s.grants (k.single p unique) there here one two

  well-spared : (h : Grant) → Has h s.grants → IsWell count slots extras lag delay now later s.transactions s h
  well-spared h there = elim (k.each h there) [
    | inl (waits, pending) ↦ inl (waits, pending-spared now past s.transactions s.listed g h pending)
    | inr (inl stands) ↦ inr (inl (stands-spared h stands))
    | inr (inr (inr reserved)) ↦ inr (inr (inr reserved))
    | inr (inr (inl (freed, leased))) ↦ elim (others-spared g past h freed) [
      | inl still ↦ inr (inr (inl (still, leased)))
      | inr same ↦ subst (IsWell count slots extras lag delay now later s.transactions s) (sym (only h there same)) (by sure (k.each g here))
    ]
  ]
    where
      by : Stands count slots extras lag delay now past s.transactions s g ⊎ ((is_waiting g ≡ true) × (is_kept g ≡ true)) → IsWell count slots extras lag delay now past s.transactions s g
          → IsWell count slots extras lag delay now later s.transactions s g
      by (inl stands) well = inr (inl (stands-spared g stands))
      by (inr waits) (inl (is, pending)) = inl (is, pending-spared now past s.transactions s.listed g g pending)
      by (inr waits) (inr (inl stands)) = inr (inl (stands-spared g stands))
      by (inr waits) (inr (inr (inl (freed, leased)))) = absurd (let no : false ≡ true = sym (not-waiting g (leased-active g leased)) ∙ waits.0 in cc)
      by (inr waits) (inr (inr (inr (is, none)))) = absurd (reserved-waits g is waits.0)

  known-spared : (h : Grant) → Has h s.grants → IsKnown now later s h
  known-spared h there = let (waits, due) = k.known h there in (
    λ w. elim (or_cases (is_kept h) (was_let_go past h) (waits w)) [
      | inl kept ↦ or_left (is_kept h) _ kept
      | inr freed ↦ elim (others-spared g past h freed) [
        | inl still ↦ or_right (is_kept h) _ still
        | inr same ↦ let is = only h there same in or_left (is_kept h) _ (ap is_kept is ∙ by sure (ap is_waiting (sym is) ∙ w))
      ]
    ],
    due,
  )
    where
      by : Stands count slots extras lag delay now past s.transactions s g ⊎ ((is_waiting g ≡ true) × (is_kept g ≡ true)) → is_waiting g ≡ true → is_kept g ≡ true
      by (inl stands) w = absurd (let no : false ≡ true = sym (not-waiting g (granted-active g stands.granted)) ∙ w in cc)
      by (inr waits) w = waits.1

  pub kept-spared : IsKept count slots extras lag delay now (sparing g past) s.transactions s
  kept-spared = kept-with count slots extras lag delay now past (sparing g past) s (λ x h. refl) k.seldom k.row known-spared well-spared k

-- ---- the rest of the run

first-alike : (call : Call) (now : ℕ) (s : State) (past other : History) → ((id : ℕ) → past.made id ≡ other.made id) → first_made call now s past ≡ first_made call now s other
first-alike (Recv packet received) now s past other made = rw (made (id_of packet.payload)) refl
first-alike call now s past other made = refl

pub call-alike : (call : Call) (now : ℕ) (s : State) (past other : History) → ((id : ℕ) → past.made id ≡ other.made id)
    → (id : ℕ) → (with_call call now s past).made id ≡ (with_call call now s other).made id
call-alike call now s past other made id = rw (first-alike call now s past other made, made id) refl

pub row-alike : (call : Call) (now : ℕ) (s : State) (past other : History) → past.challenged ≡ other.challenged → (with_call call now s past).challenged ≡ (with_call call now s other).challenged
row-alike call now s past other row = ap (challenged_by call s) row

pub quiet-alike : (call : Call) (past other : History) (s : State) → past.challenged ≡ other.challenged → IsQuiet call past s → IsQuiet call other s
quiet-alike (Recv packet now) past other s row (inl success) = inl success
quiet-alike (Recv packet now) past other s row (inr (inl is)) = inr (inl (record {
  message = is.message;
  error = is.error;
  challenge = is.challenge;
  few = subst (λ (n : ℕ). n < s.config.max_stale_nonces) row is.few;
}))
quiet-alike (Recv packet now) past other s row (inr (inr same)) = inr (inr same)
quiet-alike call past other s row quiet = quiet

calm-alike : (call : Call) (past other : History) (s : State) → past.challenged ≡ other.challenged → IsCalm call past s → IsCalm call other s
calm-alike call past other s row (inl quiet) = inl (quiet-alike call past other s row quiet)
calm-alike call past other s row (inr mild) = inr mild

-- when requests were made, which packets were extra, and how many challenges came, is all that counts
pub runs-alike : (count slots extras late delay since before : ℕ) (past other : History) (s : State) (calls : List Call) → ((id : ℕ) → past.made id ≡ other.made id) → past.extra ≡ other.extra
    → past.challenged ≡ other.challenged → RunsBehind count slots extras late delay since before past s calls → RunsBehind count slots extras late delay since before other s calls
runs-alike count slots extras late delay since before past other s [] made extra row run = tt
runs-alike count slots extras late delay since before past other s (call ∷ calls) made extra row (start, in_time, quiet, within, seldom, run) =
    let now = time_of before call in
    let more : (with_call call now s past).extra ≡ (with_call call now s other).extra = rw extra refl in (
      start,
      record { caller = in_time.caller; answered = all-has (λ (x : Transaction). now ≤ other.made x.id + delay) s.transactions answered },
      calm-alike call past other s row quiet,
      within,
      λ since near. subst (λ (times : List ℕ). length (filter (λ time. nat_le since time) times) ≤ extras) more (seldom since near),
      runs-alike count slots extras late delay (since_next call s start) now (with_call call now s past) (with_call call now s other)
          (state_after call s) calls (call-alike call now s past other made) more (row-alike call now s past other row) run,
    )
  where
    answered : (x : Transaction) → Has x s.transactions → time_of before call ≤ other.made x.id + delay
    answered x h =
        let late = has-all (λ (x : Transaction). time_of before call ≤ past.made x.id + delay) x s.transactions in_time.answered h in
        let same = made x.id in
        omega (arith, late, same)

-- a call lets go what it does, whatever was before
pub call-frees : (call : Call) (now : ℕ) (s : State) (past other : History) (g : Grant) → (was_let_go past g ≡ true → was_let_go other g ≡ true) → was_let_go (with_call call now s past) g ≡ true
    → was_let_go (with_call call now s other) g ≡ true
call-frees call now s past other (Permission ip progress) more e =
    elim (or_cases (past.permission_let_go ip) _ e) [ inl was ↦ or_left (other.permission_let_go ip) _ (more was) | inr is ↦ or_right (other.permission_let_go ip) _ is ]
call-frees call now s past other (Channel number peer progress) more e =
    elim (or_cases (past.channel_let_go number peer) _ e) [ inl was ↦ or_left (other.channel_let_go number peer) _ (more was) | inr is ↦ or_right (other.channel_let_go number peer) _ is ]
call-frees call now s past other g more e = cc
