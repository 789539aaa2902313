-- The number of queued replies.
use Rattle.turn_client_laws.proofs.Common.{◌≡◌, ℕ, zero, suc, ◌+◌, ◌-◌, ◌<◌, ◌≤◌, Bool, true, false, ltb, List, [], ◌∷◌, None, Some, length, get_or, ap, refl, sym, ◌∙◌, arith, lt-ltb, le-ltb, ltb-false}
use Rattle.turn_client_laws.proofs.Common.{not-true, list_any, position, remove, filter, is_some, not}
use Rattle.turn_client_laws.proofs.Machine.{find-passes, position-IsFirst, position-none, Queued}
use Rattle.std.proofs.lemmas.List.Filters.{length-filter_both}
use Rattle.turn_client_core.specs.Queue.{reply_count}
use Rattle.turn_client_core.proofs.incoming.BindLemmas.{found_any}
use Rattle.turn_client_core.proofs.outbox.ReplyLemmas.{NoReply}

-- one passes exactly if the number of those that pass is not zero
any-counted : {X : Type 0} (p : X → Bool) (xs : List X) → list_any p xs ≡ ltb 0 (length (filter p xs))
any-counted p [] = refl
any-counted p (x ∷ xs) = by (any-counted p xs) (p x) refl
  where
    by : list_any p xs ≡ ltb 0 (length (filter p xs)) → (b : Bool) → p x ≡ b → list_any p (x ∷ xs) ≡ ltb 0 (length (filter p (x ∷ xs)))
    by later true passes = rw passes (sym (lt-ltb 0 (length (x ∷ filter p xs)) (omega arith)))
    by later false fails = rw fails later

pub reply-counted : (queue : List Queued) → list_any (λ q. not q.is_request) queue ≡ ltb 0 (reply_count queue)
reply-counted queue = any-counted (λ q. not q.is_request) queue

-- whether a number is not zero, by a sum with it
positive_part : (a b n : ℕ) → a + b ≡ n → ltb 0 a ≡ ltb b n
positive_part zero b n sum = sym (le-ltb b n (omega (arith, sum)))
positive_part (suc a) b n sum = lt-ltb 0 (suc a) (omega arith) ∙ sym (lt-ltb b n (omega (arith, sum)))

pub request-counted : (queue : List Queued) → list_any (λ q. q.is_request) queue ≡ ltb (reply_count queue) (length queue)
request-counted queue =
    any-counted (λ q. q.is_request) queue
    ∙ positive_part _ (reply_count queue) (length queue) (length-filter_both (λ q. q.is_request) (λ q. not q.is_request) (λ q. refl) queue)

-- those that are no replies
pub requests-counted : (queue : List Queued) → length (filter (λ q. q.is_request) queue) ≡ length queue - reply_count queue
requests-counted queue = omega (arith, length-filter_both (λ q. q.is_request) (λ q. not q.is_request) (λ q. refl) queue)

-- there are no more replies than packets
pub reply_count-le : (queue : List Queued) → reply_count queue ≤ length queue
reply_count-le queue = omega (arith, length-filter_both (λ q. q.is_request) (λ q. not q.is_request) (λ q. refl) queue)

-- without replies none is the first
pub none-counted : (queue : List Queued) → reply_count queue ≡ 0 → NoReply queue
none-counted [] none = record { first = refl; rest = refl }
none-counted (q ∷ queue) none = by q.is_request refl none (none-counted queue)
  where
    by : (b : Bool) → q.is_request ≡ b → reply_count (q ∷ queue) ≡ 0 → (reply_count queue ≡ 0 → NoReply queue) → NoReply (q ∷ queue)
    by true e none later =
        let rest = later (rw e at none) in
        record { first = rw e rest.first; rest = rw (e, rest.rest) refl }
    by false e none later = absurd (omega (arith, rw e at none))

pub no_reply : (queue : List Queued) → position (λ q. not q.is_request) queue ≡ None → NoReply queue
no_reply queue none =
    let found = found_any (λ (q : Queued). not q.is_request) queue in
    let fails = sym (reply-counted queue) ∙ (sym found ∙ ap is_some (position-none (λ (q : Queued). not q.is_request) queue none)) in
    none-counted queue (omega (arith, ltb-false 0 (reply_count queue) fails))

-- a reply is removed
reply_count-removed : (queue : List Queued) (i : ℕ) (d : Queued) → i < length queue → (get_or queue i d).is_request ≡ false → reply_count (remove queue i) + 1 ≡ reply_count queue
reply_count-removed [] i d within is = absurd (omega arith)
reply_count-removed (q ∷ queue) zero d within is = rw is (omega arith)
reply_count-removed (q ∷ queue) (suc i) d within is = by (reply_count-removed queue i d (omega arith) is) q.is_request refl
  where
    by : reply_count (remove queue i) + 1 ≡ reply_count queue → (b : Bool) → q.is_request ≡ b → reply_count (remove (q ∷ queue) (suc i)) + 1 ≡ reply_count (q ∷ queue)
    by others true request = rw request others
    by others false reply = rw reply (omega (arith, others))

-- the first reply is removed
pub reply_count-taken : (queue : List Queued) (i : ℕ) (d : Queued) → position (λ q. not q.is_request) queue ≡ Some i → reply_count (remove queue i) + 1 ≡ reply_count queue
reply_count-taken queue i d found =
    let first = position-IsFirst (λ (q : Queued). not q.is_request) queue i found in
    let passes = find-passes (λ (q : Queued). not q.is_request) queue (get_or queue i d) (first.found d) in
    reply_count-removed queue i d first.within (not-true (get_or queue i d).is_request passes)
