-- The transactions in front, which are not due before a time.
use Rattle.std.proofs.Common.{◌≡◌, ℕ, zero, suc, ◌+◌, ◌-◌, ◌<◌, ◌≤◌, Bool, true, false, List, [], ◌∷◌, ◌++◌, length, take, drop, get_or, set, Some, None, refl, arith}
use Rattle.std.specs.List.{list_any, position, position_or_len}
use Rattle.std.proofs.Math.Seq.{take-length}
use Rattle.std.proofs.lemmas.Bool.{or_parts, lt-ltb}
use Rattle.std.proofs.lemmas.List.{length-append, length-set, take-append-le, take-set-le}
use Rattle.turn_stun.specs.declared.transport.TransportType.{TransportType}
use Rattle.turn_agent.specs.Agent.{is_due}
use Rattle.turn_agent.specs.Front.{IsFront, no_front}
use Rattle.turn_agent.specs.Schedule.{Timers}
use Rattle.turn_agent.specs.declared.front.Front.{Front}
use Rattle.turn_agent.specs.declared.transaction.Transaction.{Transaction}
use Rattle.turn_agent.proofs.AgentLemmas.{position-unpassed}

-- ---- the first that passes

-- if none in front passes and the next one does, it is the first
position_or_len-next : {X : Type 0} (p : X → Bool) (xs : List X) (i : ℕ) (d : X) → i < length xs → list_any p (take i xs) ≡ false → p (get_or xs i d) ≡ true → position_or_len p xs ≡ i
position_or_len-next p [] i d within none passes = absurd (omega arith)
position_or_len-next p (x ∷ xs) zero d within none passes = rw passes refl
position_or_len-next p (x ∷ xs) (suc i) d within none passes =
    let parts = or_parts (p x) (list_any p (take i xs)) none in
    rw (parts.0, position_or_len-next p xs i d (omega arith) parts.1 passes) (omega arith)

pub position-next : {X : Type 0} (p : X → Bool) (xs : List X) (i : ℕ) (d : X) → i < length xs → list_any p (take i xs) ≡ false → p (get_or xs i d) ≡ true → position p xs ≡ Some i
position-next p xs i d within none passes =
    rw (position_or_len-next p xs i d within none passes, lt-ltb i (length xs) within) refl

-- ---- the search

-- before this place none is due before a time, and none is due now
pub record IsPassed (timers : Timers) (transport : TransportType) (now : ℕ) (ts : List Transaction) (place until : ℕ) : Type 0 where
  pub front : IsFront timers transport ts (record { count = place; until = until })
  pub none : list_any (is_due timers transport now) (take place ts) ≡ false

take_nothing : {X : Type 0} (p : X → Bool) (xs : List X) → list_any p (take 0 xs) ≡ false
take_nothing p [] = refl
take_nothing p (x ∷ xs) = refl

-- after the last place none is due
pub IsPassed-all : (timers : Timers) (transport : TransportType) (now : ℕ) (ts : List Transaction) (place until : ℕ) → IsPassed timers transport now ts place until → length ts ≤ place
    → position (is_due timers transport now) ts ≡ None
IsPassed-all timers transport now ts place until is past =
    let all : place ≡ length ts = omega (arith, past, is.front.within) in
    position-unpassed (is_due timers transport now) ts (rw (all, take-length ts) at is.none)

-- ---- changes

-- nothing is known of any request
pub IsFront-none : (timers : Timers) (transport : TransportType) (ts : List Transaction) → IsFront timers transport ts no_front
IsFront-none timers transport ts = record { within = omega arith; waits = λ now before. take_nothing (is_due timers transport now) ts }

-- one more request
pub IsFront-push : (timers : Timers) (transport : TransportType) (ts more : List Transaction) (front : Front) → IsFront timers transport ts front → IsFront timers transport (ts ++ more) front
IsFront-push timers transport ts more front is = record {
  within = rw (length-append ts more) (omega (arith, is.within));
  waits = λ now before. rw (take-append-le front.count ts more is.within) (is.waits now before);
}

-- a request at or behind the end of the front changes
pub IsFront-set : (timers : Timers) (transport : TransportType) (ts : List Transaction) (front : Front) (i : ℕ) (t : Transaction) → IsFront timers transport ts front → front.count ≤ i
    → IsFront timers transport (set ts i t) front
IsFront-set timers transport ts front i t is behind = record {
  within = rw (length-set ts i t) is.within;
  waits = λ now before. rw (take-set-le front.count ts i t behind) (is.waits now before);
}

-- a request is removed: of one less none passes
list_any-removed : {X : Type 0} (p : X → Bool) (n i : ℕ) (xs : List X) → list_any p (take (suc n) xs) ≡ false → list_any p (take n (take i xs ++ drop (suc i) xs)) ≡ false
list_any-removed p zero i xs none = take_nothing p (take i xs ++ drop (suc i) xs)
list_any-removed p (suc n) zero [] none = refl
list_any-removed p (suc n) (suc i) [] none = refl
list_any-removed p (suc n) zero (x ∷ xs) none = (or_parts (p x) (list_any p (take (suc n) xs)) none).1
list_any-removed p (suc n) (suc i) (x ∷ xs) none =
    let parts = or_parts (p x) (list_any p (take (suc n) xs)) none in
    rw (parts.0, list_any-removed p n i xs parts.1) refl

list_any-one_less : {X : Type 0} (p : X → Bool) (n i : ℕ) (xs : List X) → list_any p (take n xs) ≡ false → list_any p (take (n - 1) (take i xs ++ drop (suc i) xs)) ≡ false
list_any-one_less p zero i xs none = take_nothing p (take i xs ++ drop (suc i) xs)
list_any-one_less p (suc n) i xs none =
    let less : suc n - 1 ≡ n = omega arith in
    rw less (list_any-removed p n i xs none)

length-removed : {X : Type 0} (i : ℕ) (xs : List X) → i < length xs → length (take i xs ++ drop (suc i) xs) + 1 ≡ length xs
length-removed i [] within = absurd (omega arith)
length-removed zero (x ∷ xs) within = omega arith
length-removed (suc i) (x ∷ xs) within = omega (arith, length-removed i xs (omega arith))

pub IsFront-removed : (timers : Timers) (transport : TransportType) (ts : List Transaction) (front less : Front) (i : ℕ) → IsFront timers transport ts front → i < length ts
    → less.count ≡ front.count - 1 → less.until ≡ front.until → IsFront timers transport (take i ts ++ drop (suc i) ts) less
IsFront-removed timers transport ts front less i is within count until = record {
  within = omega (arith, count, is.within, length-removed i ts within);
  waits = λ now before. rw count (list_any-one_less (is_due timers transport now) front.count i ts (is.waits now (omega (arith, before, until))));
}
