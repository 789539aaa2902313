-- The waits of a schedule, singly and summed.
use Rattle.std.proofs.Common.{◌≡◌, ℕ, zero, suc, ◌+◌, ◌-◌, ◌*◌, ◌^◌, ◌<◌, ◌≤◌, map, sum, refl, arith, add-one, ltb, true, false}
use Rattle.std.proofs.Math.Nat.{pow-suc, pow-le-pow_right, min-eq_right, min-eq_left, mul-le-mul_right}
use Rattle.std.proofs.lemmas.Bool.{lt-ltb, le-ltb}
use Rattle.std.proofs.lemmas.List.Sums.{sum_by-cons}
use Rattle.std.specs.List.{range_with_len}
use Rattle.turn_agent.specs.Schedule.{Timers, doubled_wait, doubled_sum, udp_wait_at, udp_resends, schedule}

-- twice as much of the same power of two
pub doubled_once : (first place : ℕ) → first * 2 ^ (place + 1) ≡ first * 2 ^ place * 2
doubled_once first place = rw (add-one, pow-suc) (omega arith)

-- once the doubled wait has reached the greatest, all later waits are the greatest
pub doubled_sum-greatest : (first greatest place n : ℕ) → greatest ≤ first * 2 ^ place → doubled_sum first greatest place n ≡ n * greatest
unfolding doubled_sum
doubled_sum-greatest first greatest place zero h = omega arith
doubled_sum-greatest first greatest place (suc n) h =
    let others = doubled_sum-greatest first greatest (place + 1) n (omega (arith, doubled_once first place)) in
    rw (min-eq_right h, others) (omega arith)

-- a wait of more than zero, doubled 64 times, is at least the greatest
pub longer_than_any : (first greatest place : ℕ) → 0 < first → greatest < 2 ^ 64 → 64 ≤ place → greatest ≤ first * 2 ^ place
longer_than_any first greatest place some small far =
    omega (arith, mul-le-mul_right (2 ^ place) some, pow-le-pow_right {n = 2} (omega arith) far)

-- one wait, and then the others
pub doubled_sum-first : (first greatest place n : ℕ) → 0 < n → doubled_sum first greatest place n ≡ doubled_wait first greatest place + doubled_sum first greatest (place + 1) (n - 1)
unfolding doubled_sum
doubled_sum-first first greatest place zero h = absurd (omega arith)
doubled_sum-first first greatest place (suc n) h =
    let e : suc n - 1 ≡ n = omega arith in
    rw e

-- the waits from a place on, if the last send comes so many places later
sum_from : (t : Timers) (place n : ℕ) → place + n ≡ udp_resends t → sum (map (udp_wait_at t) (range_with_len place (n + 1))) ≡ doubled_sum t.initial t.max place n + t.last
unfolding doubled_sum
sum_from t place zero h =
    let last : ltb place (udp_resends t) ≡ false = le-ltb _ _ (omega arith) in
    rw last
sum_from t place (suc n) h =
    let more : ltb place (udp_resends t) ≡ true = lt-ltb _ _ (omega arith) in
    let len : suc n + 1 ≡ suc (n + 1) = omega arith in
    let others = sum_from t (place + 1) n (omega arith) in
    rw (len, sum_by-cons (λ x. x) (udp_wait_at t place) (map (udp_wait_at t) (range_with_len (place + 1) (n + 1))), others, more) (omega arith)

-- the sum of all waits: the doubled ones, and the last
pub sum-schedule : (t : Timers) → sum (schedule t) ≡ doubled_sum t.initial t.max 0 (udp_resends t) + t.last
unfolding schedule
sum-schedule t = sum_from t 0 (udp_resends t) (omega arith)

-- the progress of the sum of the doubled waits: the next wait, how many are left, and their sum so far
pub record IsDoubling (first greatest count round wait left so_far : ℕ) : Type 0 where
  pub next : wait ≡ first * 2 ^ round
  pub places : round + left ≡ count
  pub range : so_far ≤ round * 2 ^ 64
  pub whole : so_far + doubled_sum first greatest round left ≡ doubled_sum first greatest 0 count

-- one more wait
pub IsDoubling-more : (first greatest count round wait left so_far : ℕ) → IsDoubling first greatest count round wait left so_far → (left ≡ 0 → ⊥) → wait < greatest → greatest < 2 ^ 64
    → IsDoubling first greatest count (round + 1) (wait * 2) (left - 1) (so_far + wait)
IsDoubling-more first greatest count round wait left so_far is some below small =
    let step = doubled_sum-first first greatest round left (omega arith) in
    let here : doubled_wait first greatest round ≡ first * 2 ^ round = min-eq_left (omega (arith, is.next)) in
    record {
      next = rw (doubled_once first round, is.next) refl;
      places = omega (arith, is.places);
      range = omega (arith, is.range);
      whole = omega (arith, is.whole, is.next, step, here);
    }

-- the sum when no wait is left, when all others are the greatest, and after 64 iterations
pub IsDoubling-none : (first greatest count round wait left so_far : ℕ) → IsDoubling first greatest count round wait left so_far → left ≡ 0
    → so_far + left * greatest ≡ doubled_sum first greatest 0 count
unfolding doubled_sum
IsDoubling-none first greatest count round wait left so_far is none =
    let whole : so_far + 0 ≡ doubled_sum first greatest 0 count = rw none at is.whole in
    rw none (omega (arith, whole))

pub IsDoubling-greatest : (first greatest count round wait left so_far : ℕ) → IsDoubling first greatest count round wait left so_far → greatest ≤ wait
    → so_far + left * greatest ≡ doubled_sum first greatest 0 count
IsDoubling-greatest first greatest count round wait left so_far is above =
    omega (arith, is.whole, doubled_sum-greatest first greatest round left (omega (arith, is.next)))

pub IsDoubling-far : (first greatest count round wait left so_far : ℕ) → IsDoubling first greatest count round wait left so_far → 64 ≤ round → greatest < 2 ^ 64 → (0 < count → 0 < first)
    → so_far + left * greatest ≡ doubled_sum first greatest 0 count
IsDoubling-far first greatest count round wait zero so_far is far small some = IsDoubling-none first greatest count round wait 0 so_far is refl
IsDoubling-far first greatest count round wait (suc n) so_far is far small some =
    IsDoubling-greatest first greatest count round wait (suc n) so_far is
    (rw is.next (longer_than_any first greatest round (some (omega (arith, is.places))) small far))
