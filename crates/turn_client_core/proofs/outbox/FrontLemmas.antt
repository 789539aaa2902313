-- Packets that are dropped at the front of the queue.
use Rattle.turn_client_laws.proofs.Common.{◌≡◌, ◌∙◌, ℕ, zero, suc, List, [], ◌∷◌, Some, None, refl, sym, ap, subst, drop, fold, same_Some, slice_get, take}
use Rattle.turn_client_laws.proofs.Machine.{Queued, Transaction, without_request}
use Rattle.turn_client_core.specs.Outgoing.{Outgoing, with_room, without_front}

-- the outbox after packets of the queue were dropped, and the rest stayed
abbrev left_of : Outgoing → List Queued → List Queued → Outgoing
left_of o dropped rest = record o { room = 0; queue = rest; transactions = fold without_request o.transactions dropped }

-- one more is dropped, in whatever room
pub front-next : (count : ℕ) (o p : Outgoing) → with_room o.room p ≡ without_front 1 o → without_front count (with_room 0 p) ≡ without_front (suc count) (with_room 0 o)
front-next count o p first = ap (λ (x : Outgoing). without_front count (with_room 0 x)) first ∙ both o.queue
  where
    none : (n : ℕ) → left_of o (take n []) (drop n []) ≡ left_of o [] []
    none zero = refl
    none (suc n) = refl

    both : (queue : List Queued)
        → record o { room = 0; queue = drop count (drop 1 queue); transactions = fold without_request (fold without_request o.transactions (take 1 queue)) (take count (drop 1 queue)) }
        ≡ left_of o (take (suc count) queue) (drop (suc count) queue)
    both [] = none count
    both (q ∷ queue) = refl

-- with none left to drop, the room is as it was
pub front-last : (left count : ℕ) (o p : Outgoing) → left ≡ 0 → without_front left (with_room 0 p) ≡ without_front count (with_room 0 o) → with_room o.room p ≡ without_front count o
front-last left count o p none e =
    ap (with_room o.room) (subst (λ n. without_front n (with_room 0 p) ≡ without_front count (with_room 0 o)) none e)

-- what is taken of the queue is the first one
pub first-some : (o : Outgoing) (q : Queued) → Some q ≡ slice_get o.queue 0 → fold without_request o.transactions (take 1 o.queue) ≡ without_request o.transactions q
first-some o q = by o.queue
  where
    by : (queue : List Queued) → Some q ≡ slice_get queue 0 → fold without_request o.transactions (take 1 queue) ≡ without_request o.transactions q
    by [] e = let no : Some q ≡ None = e in cc
    by (x ∷ queue) e = let same : q ≡ x = same_Some q x e in ap (without_request o.transactions) (sym same)

pub first-none : (o : Outgoing) → None ≡ slice_get o.queue 0 → fold without_request o.transactions (take 1 o.queue) ≡ o.transactions
first-none o = by o.queue
  where
    by : (queue : List Queued) → None ≡ slice_get queue 0 → fold without_request o.transactions (take 1 queue) ≡ o.transactions
    by [] e = refl
    by (x ∷ queue) e = let no : None ≡ Some x = e in cc

-- the outbox without its first packet, and with these requests
abbrev pub dropped : Outgoing → List Transaction → Outgoing
dropped o transactions = record o { queue = drop 1 o.queue; transactions = transactions }
