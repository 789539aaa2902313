-- The returned time, part by part.
use Rattle.turn_client_laws.proofs.Common.{◌≡◌, ℕ, ◌+◌, ◌≤◌, max, min, cond, List, [], ◌∷◌, ◌++◌, map, filter_map, flat_map, fold, Option, Some, None, refl, ap, ◌∙◌, arith, option_to_list}
use Rattle.turn_client_laws.proofs.Machine.{transaction_timeout, State, agent_of, max_time, Grant, end_of, has_request_to_send, keepalive_times, latest_wakeup, least_due, pause_end, refresh_of}
use Rattle.turn_client_laws.proofs.Machine.{refresh_time, least-start}
use Rattle.turn_client_laws.proofs.WakeupLemmas.{latest-within}
use Rattle.turn_client_laws.specs.LawsBodies.{soonest, soonest_keepalive, soonest_queued, soonest_transaction}

-- any start that is not above the greatest
least-from : (greatest start : ℕ) (ms : List ℕ) → start ≤ greatest → fold min start ms ≡ min start (fold min greatest ms)
least-from greatest start [] h = omega (arith, h)
least-from greatest start (m ∷ ms) h =
    omega (
      arith,
      h,
      least-from greatest (min start m) ms (omega (arith, h)),
      least-from greatest (min greatest m) ms (omega arith),
    )

least-append : (greatest start : ℕ) (xs ys : List ℕ) → start ≤ greatest → fold min start (xs ++ ys) ≡ min (fold min start xs) (fold min greatest ys)
least-append greatest start [] ys h = least-from greatest start ys h
least-append greatest start (x ∷ xs) ys h = least-append greatest (min start x) xs ys (omega (arith, h))

pause-within : (s : State) → pause_end s ≤ max_time
pause-within s = grind arith

joined : (p a b e r : ℕ) → min (min a (max p b)) (min e (max p r)) ≡ min (min a e) (max p (min b r))
joined p a b e r = omega arith

-- the earliest expiries and refreshes of one and of the others
combined : (p a b e r whole front later ends refreshes : ℕ) → whole ≡ min front later → front ≡ min a (max p b) → later ≡ min e (max p r) → ends ≡ min a e → refreshes ≡ min b r
    → whole ≡ min ends (max p refreshes)
combined p a b e r whole front later ends refreshes h f l he hr = rw (h, f, l, he, hr) (joined p a b e r)

-- ---- grants

module _ (now : ℕ) (s : State) (greatest : ℕ) (within : pause_end s ≤ greatest) where
  refresh-part : (o : Option ℕ) → fold min greatest (map (max (pause_end s)) (option_to_list o)) ≡ max (pause_end s) (fold min greatest (option_to_list o))
  refresh-part o = grind arith

  cons-part : (o : Option ℕ) (g : Grant) (gs : List Grant) → refresh_time s g ≡ o
      → fold min greatest (filter_map (refresh_time s) (g ∷ gs)) ≡ min (fold min greatest (option_to_list o)) (fold min greatest (filter_map (refresh_time s) gs))
  cons-part None g gs e = rw e (omega (arith, least-start greatest (filter_map (refresh_time s) gs)))
  cons-part (Some m) g gs e = rw e (least-append greatest greatest (m ∷ []) (filter_map (refresh_time s) gs) (omega arith))

  abbrev ends : List Grant → ℕ
  ends gs = fold min greatest (flat_map (end_of now) gs)

  abbrev refreshes : List Grant → ℕ
  refreshes gs = fold min greatest (filter_map (refresh_time s) gs)

  -- what is due by one grant
  abbrev by_grant : Grant → List ℕ
  by_grant g = end_of now g ++ refresh_of s g

  grant-part : (g : Grant) → fold min greatest (by_grant g) ≡ min (fold min greatest (end_of now g)) (max (pause_end s) (fold min greatest (option_to_list (refresh_time s g))))
  grant-part g =
      least-append greatest greatest (end_of now g) (refresh_of s g) (omega arith)
      ∙ ap (min (fold min greatest (end_of now g))) (refresh-part (refresh_time s g))

  grants-part : (gs : List Grant) → fold min greatest (flat_map by_grant gs) ≡ min (ends gs) (max (pause_end s) (refreshes gs))
  grants-part [] = omega (arith, within)
  grants-part (g ∷ gs) =
      combined (pause_end s) (fold min greatest (end_of now g)) (fold min greatest (option_to_list (refresh_time s g))) (ends gs) (refreshes gs) _ _ _ _ _
      (least-append greatest greatest (by_grant g) (flat_map by_grant gs) (omega arith))
      (grant-part g)
      (grants-part gs)
      (least-append greatest greatest (end_of now g) (flat_map (end_of now) gs) (omega arith))
      (cons-part (refresh_time s g) g gs refl)

-- ---- all of them

queued-part : (s : State) (greatest : ℕ) → pause_end s ≤ greatest → fold min greatest (cond (has_request_to_send s) (pause_end s ∷ []) []) ≡ cond (has_request_to_send s) (pause_end s) greatest
queued-part s greatest within = grind arith

in-row : (first q t e k : ℕ) → min (min (min (min first q) t) e) k ≡ min first (min q (min t (min e k)))
in-row first q t e k = omega arith

pub due-parts : (now : ℕ) (s : State) → least_due now s ≡ soonest now s
due-parts now s =
    least-append max_time start (queued ++ transactions ++ grants) (keepalive_times s) below
    ∙ (ap (λ x. min x (soonest_keepalive s)) (least-append max_time start (queued ++ transactions) grants below)
    ∙ (ap (λ x. min (min x (fold min max_time grants)) (soonest_keepalive s)) front
    ∙ (in-row (latest_wakeup now s) (soonest_queued s) (soonest_transaction s) (fold min max_time grants) (soonest_keepalive s)
    ∙ ap (λ x. min (latest_wakeup now s) (min (soonest_queued s) (min (soonest_transaction s) (min x (soonest_keepalive s))))) (grants-part now s max_time (pause-within s) s.grants))))
  where
    queued : List ℕ
    queued = cond (has_request_to_send s) (pause_end s ∷ []) []

    transactions : List ℕ
    transactions = map (transaction_timeout (agent_of s).timers s.transport) s.transactions

    grants : List ℕ
    grants = flat_map (λ g. end_of now g ++ refresh_of s g) s.grants

    start : ℕ
    start = min max_time (latest_wakeup now s)

    below : start ≤ max_time
    below = omega arith

    first : start ≡ latest_wakeup now s
    first = let within = latest-within now s in omega (arith, within)

    front : fold min start (queued ++ transactions) ≡ min (min (latest_wakeup now s) (soonest_queued s)) (soonest_transaction s)
    front =
        least-append max_time start queued transactions below
        ∙ ap (λ x. min x (soonest_transaction s)) (
        least-from max_time start queued below
        ∙ (ap (λ x. min x (fold min max_time queued)) first
        ∙ ap (min (latest_wakeup now s)) (queued-part s max_time (pause-within s)))
        )
