-- The first queued reply.
use Rattle.turn_client_laws.proofs.Common.{◌≡◌, ◌∙◌, ℕ, ◌<◌, Bool, true, false, suc, ltb, List, [], ◌∷◌, None, Some, get_or, length, refl, ap, sym, arith, ltb-true, cond_some, position}
use Rattle.turn_client_laws.proofs.Common.{position_or_len, remove, filter_map, not, slice_get}
use Rattle.turn_client_laws.proofs.Machine.{reply_in, without_first_reply, Queued}

abbrev place_in : List Queued → ℕ
place_in queue = position_or_len (λ q. not q.is_request) queue

-- no reply is queued
pub record NoReply (queue : List Queued) : Type 0 where
  pub first : slice_get (filter_map reply_in queue) 0 ≡ None
  pub rest : without_first_reply queue ≡ queue

-- the first reply is at this index
pub record IsReplyAt (queue : List Queued) (i : ℕ) (d : Queued) : Type 0 where
  pub first : slice_get (filter_map reply_in queue) 0 ≡ Some (get_or queue i d).packet
  pub rest : without_first_reply queue ≡ remove queue i

at-by : (queue : List Queued) (i : ℕ) (d : Queued) → place_in queue ≡ i → i < length queue → IsReplyAt queue i d
at-by [] i d is less = absurd (omega arith)
at-by (q ∷ queue) i d is less = by q.is_request refl is less (at-by queue (place_in queue) d refl)
  where
    by : (b : Bool) → q.is_request ≡ b → place_in (q ∷ queue) ≡ i → i < length (q ∷ queue) → (place_in queue < length queue → IsReplyAt queue (place_in queue) d) → IsReplyAt (q ∷ queue) i d
    by true e is less others =
        let next : suc (place_in queue) ≡ i = omega (arith, rw e at is) in
        let later = others (omega (arith, next, less)) in
        rw (← next) (record { first = rw e later.first; rest = rw (e, later.rest) refl })
    by false e is less others =
        let here : 0 ≡ i = rw e at is in
        rw (← here) (record { first = rw e refl; rest = rw e refl })

pub reply-at : (queue : List Queued) (i : ℕ) (reply : Queued) → position (λ q. not q.is_request) queue ≡ Some i → reply ≡ get_or queue i reply
    → (slice_get (filter_map reply_in queue) 0 ≡ Some reply.packet) × (without_first_reply queue ≡ remove queue i)
reply-at queue i reply found is =
    let parts = cond_some (ltb (place_in queue) (length queue)) (place_in queue) i found in
    let at = at-by queue i reply parts.1 (omega (arith, ltb-true _ _ parts.0, parts.1)) in
    (at.first ∙ ap (λ (q : Queued). Some q.packet) (sym is), at.rest)
