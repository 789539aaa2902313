-- Which queued packet is sent next, and what is dropped before it.
use Rattle.turn_agent.specs.Agent.{without_transaction}
use Rattle.turn_client_laws.proofs.Common.{◌≡◌, ◌&&◌, ◌||◌, ℕ, zero, suc, Bool, true, false, not, cond, List, [], ◌∷◌, Option, Some, None, refl, inl, inr, drop, take, find, fold, list_any}
use Rattle.turn_client_laws.proofs.Common.{◌+◌, ◌∙◌, arith, ap, sym, eqb, eqb-true, eq-eqb, none-some, not-true, and_parts, or_left, or_parts, option_map_or, position_or_len, same_Some, slice_get, subst}
use Rattle.turn_client_laws.proofs.Machine.{State, Queued, Transaction, next_queued, refreshes_first, has_ended, has_request_to_send, is_to_send, settled, ended_count, id_in_header, without_request}
use Rattle.turn_client_laws.proofs.Machine.{Has, filter-has, has-filter, has-found, is_listed, is_needed, is_outstanding, Listing}
use Rattle.turn_client_laws.proofs.InAllocationLemmas.{has-any}

-- a packet of a part of the queue is in the queue
pub has-drop : {X : Type 0} (n : ℕ) (x : X) (xs : List X) → Has x (drop n xs) → Has x xs
has-drop zero x xs there = there
has-drop (suc n) x [] there = there
has-drop (suc n) x (y ∷ xs) there = inr (has-drop n x xs there)

-- ---- the one that is sent next

-- the first one that has not ended
abbrev pub first_left : State → List Queued → Option Queued
first_left s queue = find (λ q. not (has_ended s q)) queue

-- it is queued, and has not ended
pub queued-there : (now : ℕ) (s : State) (q : Queued) → next_queued now s ≡ Some q → Has q s.queue × (has_ended s q ≡ false)
queued-there now s q = by (refreshes_first now s)
  where
    by : (b : Bool) → cond {A = Option Queued} b None (first_left s s.queue) ≡ Some q → Has q s.queue × (has_ended s q ≡ false)
    by true e = absurd (none-some q e)
    by false e = let (there, is) = has-found (λ (q : Queued). not (has_ended s q)) q s.queue e in (there, not-true (has_ended s q) is)

pub queued-left : (now : ℕ) (s : State) (q : Queued) → next_queued now s ≡ Some q → first_left s s.queue ≡ Some q
queued-left now s q = by (refreshes_first now s)
  where
    by : (b : Bool) → cond {A = Option Queued} b None (first_left s s.queue) ≡ Some q → first_left s s.queue ≡ Some q
    by true e = absurd (none-some q e)
    by false e = e

-- if none is left there is none
pub none-left : (now : ℕ) (s : State) → first_left s s.queue ≡ None → next_queued now s ≡ None
none-left now s e = by (refreshes_first now s)
  where
    by : (b : Bool) → cond {A = Option Queued} b None (first_left s s.queue) ≡ None
    by true = refl
    by false = e

-- with nothing queued there is none
pub none-queued : (now : ℕ) (s : State) → s.queue ≡ [] → next_queued now s ≡ None
none-queued now s e = none-left now s (rw e refl)

-- ---- what is left

-- only a request ends
pub ended-request : (s : State) (q : Queued) → has_ended s q ≡ true → q.is_request ≡ true
ended-request s q e =
    (and_parts q.is_request _ (and_parts s.config.timed_from_send _ e).1).0

-- with neither a reply nor a request to send, none is left
pub none-to_send : (s : State) (queue : List Queued) → list_any (λ q. not q.is_request) queue ≡ false → list_any (is_to_send s) queue ≡ false → first_left s queue ≡ None
none-to_send s [] replies requests = refl
none-to_send s (q ∷ queue) replies requests =
    let (reply, others) = or_parts (not q.is_request) (list_any (λ (q : Queued). not q.is_request) queue) replies in
    let (request, later) = or_parts (is_to_send s q) (list_any (is_to_send s) queue) requests in
    rw (by (has_ended s q) q.is_request reply request) (none-to_send s queue others later)
  where
    by : (ended is : Bool) → not is ≡ false → (not ended && is) ≡ false → not ended ≡ false
    by true is reply request = refl
    by false true reply request = request
    by false false reply request = reply

-- with none left no request is to be sent
pub left-none : (s : State) (queue : List Queued) → first_left s queue ≡ None → list_any (is_to_send s) queue ≡ false
left-none s [] e = refl
left-none s (q ∷ queue) e = by (has_ended s q) refl (left-none s queue)
  where
    by : (b : Bool) → has_ended s q ≡ b → (first_left s queue ≡ None → list_any (is_to_send s) queue ≡ false) → list_any (is_to_send s) (q ∷ queue) ≡ false
    by true f later = rw f (later (rw f at e))
    by false f later = let no : Some q ≡ None = rw f at e in cc

-- and no reply
pub left-unreplied : (s : State) (queue : List Queued) → first_left s queue ≡ None → list_any (λ q. not q.is_request) queue ≡ false
left-unreplied s [] e = refl
left-unreplied s (q ∷ queue) e = by (has_ended s q) refl (left-unreplied s queue)
  where
    by : (b : Bool) → has_ended s q ≡ b → (first_left s queue ≡ None → list_any (λ q. not q.is_request) queue ≡ false) → list_any (λ q. not q.is_request) (q ∷ queue) ≡ false
    by true f later = rw (ended-request s q f) (later (rw f at e))
    by false f later = let no : Some q ≡ None = rw f at e in cc

-- ---- what is dropped before it

-- fewer requests are outstanding
pub has-without : (q : Queued) (transactions : List Transaction) (x : Transaction) → Has x (without_request transactions q) → Has x transactions
has-without q transactions x = by (id_in_header q.packet.payload)
  where
    by : (o : Option ℕ) → Has x (option_map_or (λ id. without_transaction id transactions) o transactions) → Has x transactions
    by None there = there
    by (Some id) there = (has-filter _ x transactions there).0

pub has-unended : (queue : List Queued) (transactions : List Transaction) (x : Transaction) → Has x (fold without_request transactions queue) → Has x transactions
has-unended [] transactions x there = there
has-unended (q ∷ queue) transactions x there = has-without q transactions x (has-unended queue (without_request transactions q) x there)

pub settled-has : (s : State) (x : Transaction) → Has x (settled s).transactions → Has x s.transactions
settled-has s = has-unended (take (ended_count s) s.queue) s.transactions

pub settled-queued : (s : State) (q : Queued) → Has q (settled s).queue → Has q s.queue
settled-queued s q = has-drop (ended_count s) q s.queue

-- ---- where it is

one-more : (n : ℕ) → 1 + n ≡ suc n
one-more n = omega arith

abbrev place : State → List Queued → ℕ
place s queue = position_or_len (λ q. not (has_ended s q)) queue

-- the one that is sent next is the first one behind those that are dropped
left-first : (s : State) (queue : List Queued) (q : Queued) → first_left s queue ≡ Some q → (others : List Queued) × (drop (place s queue) queue ≡ q ∷ others)
left-first s [] q e = absurd (none-some q e)
left-first s (x ∷ queue) q e = by (has_ended s x) refl (left-first s queue q)
  where
    Behind : List Queued → Type 0
    Behind queue = (others : List Queued) × (drop (place s queue) queue ≡ q ∷ others)

    by : (b : Bool) → has_ended s x ≡ b → (first_left s queue ≡ Some q → Behind queue) → Behind (x ∷ queue)
    by true f later =
        let (others, is) = later (rw f at e) in
        (others, rw f (ap (λ n. drop n (x ∷ queue)) (one-more (place s queue)) ∙ is))
    by false f later =
        let same : x ≡ q = same_Some x q (rw f at e) in
        (queue, rw f (ap (λ y. y ∷ queue) same))

pub settled-first : (s : State) (q : Queued) → first_left s s.queue ≡ Some q → (others : List Queued) × ((settled s).queue ≡ q ∷ others)
settled-first s q e = left-first s s.queue q e

-- those that are dropped have ended
ahead-ended : (s : State) (queue : List Queued) (q : Queued) → Has q (take (place s queue) queue) → has_ended s q ≡ true
ahead-ended s [] q there = absurd there
ahead-ended s (x ∷ queue) q there = by (has_ended s x) refl there (ahead-ended s queue q)
  where
    by : (b : Bool) → has_ended s x ≡ b → Has q (take (cond (not (not b)) (1 + place s queue) 0) (x ∷ queue)) → (Has q (take (place s queue) queue) → has_ended s q ≡ true)
        → has_ended s q ≡ true
    by true f there more =
        elim (subst (λ n. Has q (take n (x ∷ queue))) (one-more (place s queue)) there) [ inl e ↦ rw e f | inr later ↦ more later ]
    by false f there more = absurd there

-- ---- what stays outstanding

module _ (s : State) (x : Transaction) (l : Listing) (outstanding : Has x s.transactions) (listed : Has l s.listed) (same : x.id ≡ l.id) where
  -- what is listed is needed
  listed-needed : (request : List ℕ) → is_needed l.id request s ≡ true
  listed-needed request =
      or_left (is_listed l.id s) _ (or_left (list_any (λ (m : Listing). eqb m.id l.id) s.listed) _ (has-any (λ (m : Listing). eqb m.id l.id) l s.listed listed (eq-eqb l.id l.id refl)))

  not-ended : (q : Queued) (id : ℕ) → id_in_header q.packet.payload ≡ Some id → has_ended s q ≡ true → eqb x.id id ≡ false
  not-ended q id header ended = by (eqb x.id id) refl
    where
      by : (b : Bool) → eqb x.id id ≡ b → eqb x.id id ≡ false
      by false e = e
      by true e =
          let is : l.id ≡ id = sym same ∙ eqb-true x.id id e in
          let waits : is_outstanding id s.transactions ≡ true = has-any (λ (t : Transaction). eqb t.id id) x s.transactions outstanding e in
          let needed : is_needed id q.packet.payload s ≡ true = subst (λ n. is_needed n q.packet.payload s ≡ true) is (listed-needed q.packet.payload) in
          let over = (and_parts q.is_request _ (and_parts s.config.timed_from_send _ ended).1).1 in
          let no : false ≡ true = rw (header, waits, needed) at over in
          cc

  stays-one : (q : Queued) → has_ended s q ≡ true → (transactions : List Transaction) → Has x transactions → Has x (without_request transactions q)
  stays-one q ended transactions there = by (id_in_header q.packet.payload) refl
    where
      by : (o : Option ℕ) → id_in_header q.packet.payload ≡ o → Has x (option_map_or (λ id. without_transaction id transactions) o transactions)
      by None e = there
      by (Some id) e = filter-has (λ (t : Transaction). not (eqb t.id id)) x transactions there (rw (not-ended q id e ended) refl)

  stays : (queue : List Queued) → ((q : Queued) → Has q queue → has_ended s q ≡ true) → (transactions : List Transaction) → Has x transactions
      → Has x (fold without_request transactions queue)
  stays [] ended transactions there = there
  stays (q ∷ queue) ended transactions there =
      stays queue (λ y inside. ended y (inr inside)) (without_request transactions q) (stays-one q (ended q (inl refl)) transactions there)

  -- a request that is listed stays outstanding
  pub settled-stays : Has x (settled s).transactions
  settled-stays = stays (take (ended_count s) s.queue) (ahead-ended s s.queue) s.transactions outstanding

-- ---- requests that are timed from their calls

untimed-place : (s : State) → s.config.timed_from_send ≡ false → (queue : List Queued) → place s queue ≡ 0
untimed-place s e [] = refl
untimed-place s e (q ∷ queue) = rw e refl

-- none is dropped
pub settled-untimed : (s : State) → s.config.timed_from_send ≡ false → settled s ≡ s
settled-untimed s e =
    ap (λ n. record s { queue = drop n s.queue; transactions = fold without_request s.transactions (take n s.queue) }) (untimed-place s e s.queue)
