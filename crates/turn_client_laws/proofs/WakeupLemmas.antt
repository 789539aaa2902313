-- When a caller is to call again.
use Rattle.turn_client_laws.proofs.Common.{◌≡◌, ◌⊎◌, ℕ, ◌+◌, ◌≤◌, Bool, true, false, cond, ltb, length, List, [], ◌∷◌, fold, min, max, refl, ap, ◌∙◌, inl, inr, arith, ◌||◌, ◌≢◌, All, Contains}
use Rattle.turn_client_laws.proofs.Common.{min-le_left, min-le_right, min-eq_left, cases_lt, lt-ltb, or_left, or_right, All-nil, All-cons}
use Rattle.turn_client_laws.proofs.Machine.{State, max_time, later_by, Phase, New, Allocated, due_times, final_times, has_event, has_reply, is_new, latest_wakeup, least_due, max_wait, next_wakeup, allocations, is_allocated, least-start, TurnEvent}
use Rattle.turn_client_laws.specs.LawsWakeup.{IsLeast}
use Rattle.turn_client_laws.proofs.PeerLemmas.{Contains-here, Contains-later}

-- the earliest of some times and one more
pub record IsFolded (first least : ℕ) (times : List ℕ) : Type 0 where
  pub below : least ≤ first
  pub below_all : All (λ other. least ≤ other) times
  pub one : (least ≡ first) ⊎ Contains times least

min-one : (a b : ℕ) → (min a b ≡ a) ⊎ (min a b ≡ b)
min-one a b = elim (cases_lt a b) [ inl h ↦ inl (min-eq_left (omega (arith, h))) | inr h ↦ inr (omega (arith, h)) ]

fold-IsFolded : (first : ℕ) (times : List ℕ) → IsFolded first (fold min first times) times
fold-IsFolded first [] = record { below = omega arith; below_all = All-nil _; one = inl refl }
fold-IsFolded first (m ∷ times) = by (fold-IsFolded (min first m) times)
  where
    least : ℕ
    least = fold min (min first m) times

    which : (least ≡ min first m) ⊎ Contains times least → (least ≡ first) ⊎ Contains (m ∷ times) least
    which (inr there) = inr (Contains-later least m times there)
    which (inl is) = elim (min-one first m) [ inl e ↦ inl (is ∙ e) | inr e ↦ inr (rw (is ∙ e) (Contains-here m times)) ]

    by : IsFolded (min first m) least times → IsFolded first least (m ∷ times)
    by f = record {
      below = let b = f.below in omega (arith, b, min-le_left first m);
      below_all = All-cons (λ other. least ≤ other) m times (let b = f.below in omega (arith, b, min-le_right first m)) f.below_all;
      one = which f.one;
    }

from_first : (greatest first : ℕ) (times : List ℕ) → first ≤ greatest → IsLeast (fold min greatest (first ∷ times)) (first ∷ times)
from_first greatest first times h = rw e (by (fold-IsFolded first times))
  where
    e : min greatest first ≡ first
    e = omega (arith, h)

    which : (fold min first times ≡ first) ⊎ Contains times (fold min first times) → Contains (first ∷ times) (fold min first times)
    which (inl is) = rw is (Contains-here first times)
    which (inr there) = Contains-later (fold min first times) first times there

    by : IsFolded first (fold min first times) times → IsLeast (fold min first times) (first ∷ times)
    by f = record { one = which f.one; least = All-cons (λ other. fold min first times ≤ other) first times f.below f.below_all }

-- the longest wait ends at the greatest `Instant` at most, so the minimum is one of the times
pub latest-within : (now : ℕ) (s : State) → latest_wakeup now s ≤ max_time
latest-within now s =
    let finals : List ℕ = cond s.config.timed_from_send (final_times now (allocations s)) [] in
    omega (arith, least-start (later_by max_wait now) finals, min-le_right (now + max_wait) max_time)

pub due-IsLeast : (now : ℕ) (s : State) → IsLeast (least_due now s) (due_times now s)
due-IsLeast now s = from_first max_time (latest_wakeup now s) _ (latest-within now s)

pub wakeup-new : (has_given_up : Bool) (now : ℕ) (s : State) → s.phase ≡ New → next_wakeup has_given_up now s ≡ now
wakeup-new given now s e = rw e refl

wakeup-busy : (given : Bool) (now : ℕ) (s : State) → (is_new s.phase || has_event s || has_reply s || given) ≡ true → next_wakeup given now s ≡ now
wakeup-busy given now s e = rw e refl

events-waiting : (events : List TurnEvent) → events ≢ [] → ltb 0 (length events) ≡ true
events-waiting [] h = absurd (h refl)
events-waiting (e ∷ es) h = lt-ltb 0 (length (e ∷ es)) (omega arith)

pub wakeup-event : (has_given_up : Bool) (now : ℕ) (s : State) → s.events ≢ [] → next_wakeup has_given_up now s ≡ now
wakeup-event given now s h = wakeup-busy given now s (or_left _ given (or_left _ (has_reply s) (or_right (is_new s.phase) _ (events-waiting s.events h))))

pub wakeup-reply : (has_given_up : Bool) (now : ℕ) (s : State) → has_reply s ≡ true → next_wakeup has_given_up now s ≡ now
wakeup-reply given now s h = wakeup-busy given now s (or_left _ given (or_right (is_new s.phase || has_event s) _ h))

pub wakeup-given_up : (now : ℕ) (s : State) → next_wakeup true now s ≡ now
wakeup-given_up now s = wakeup-busy true now s (or_right (is_new s.phase || has_event s || has_reply s) true refl)

-- ---- if nothing is pending

waits_not : (events : List TurnEvent) → events ≡ [] → ltb 0 (length events) ≡ false
waits_not events e = rw e refl

pub phase-old : (p : Phase) → p ≢ New → is_new p ≡ false
phase-old p old = grind arith

phase-other : (p : Phase) → p ≢ Allocated → is_allocated p ≡ false
phase-other p other = grind arith

quiet : (now : ℕ) (s : State) → is_new s.phase ≡ false → s.events ≡ [] → has_reply s ≡ false → next_wakeup false now s ≡ cond (is_allocated s.phase) (max now (least_due now s)) (least_due now s)
quiet now s old none no_reply =
    let no_event : has_event s ≡ false = waits_not s.events none in
    rw (old, no_event, no_reply) refl

pub wakeup-others : (now : ℕ) (s : State) → s.phase ≢ New → s.phase ≢ Allocated → s.events ≡ [] → has_reply s ≡ false → next_wakeup false now s ≡ least_due now s
wakeup-others now s old other none no_reply =
    let sleeps : is_allocated s.phase ≡ false = phase-other s.phase other in
    quiet now s (phase-old s.phase old) none no_reply ∙ rw sleeps refl

pub wakeup-allocated : (now : ℕ) (s : State) → s.phase ≡ Allocated → s.events ≡ [] → has_reply s ≡ false → next_wakeup false now s ≡ max now (least_due now s)
wakeup-allocated now s live none no_reply = quiet now s (ap is_new live) none no_reply ∙ rw live refl
