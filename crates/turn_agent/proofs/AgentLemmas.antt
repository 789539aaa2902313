-- The calls of an agent, by the place of the transaction that each is for.
use Rattle.std.proofs.Common.{◌≡◌, ℕ, suc, add-one, drop-cons, ◌+◌, ◌-◌, ◌<◌, ◌≤◌, ◌^◌, Bool, true, false, eqb, leb, ltb, ◌&&◌, List, [], ◌∷◌, length, drop, get_or, set, map, find, fold, min, Option}
use Rattle.std.proofs.Common.{Some, None, refl, sym, ◌∙◌, inl, inr, arith}
use Rattle.std.specs.Prelude.{slice_get, IsSome}
use Rattle.std.specs.List.{list_any, position, position_or_len}
use Rattle.std.proofs.Math.Nat.{min-le_left, min-le_right, min-eq_left, le-min}
use Rattle.std.proofs.lemmas.Bool.{cases_Bool, or_parts, ltb-true, ltb-false, eqb-true, ne_eqb, and_parts, and_right, lt-leb, leb-false}
use Rattle.std.proofs.lemmas.List.Folds.{find_at}
use Rattle.std.proofs.lemmas.Option.{cond_some, slice_get-get_or, slice_get_past, none-some, same_Some}
use Rattle.std.specs.declared.net.socket_addr.SocketAddr.{SocketAddr}
use Rattle.turn_stun.specs.declared.message.header.MessageClass.{MessageClass}
use Rattle.turn_stun.specs.declared.message.header.MessageClass.TheVariants.{Success, Error}
use Rattle.turn_stun.specs.declared.transport.TransportType.{TransportType}
use Rattle.turn_stun.specs.declared.transport.Transmit.{Transmit}
use Rattle.turn_stun.specs.Message.{type_of, id_of}
use Rattle.turn_stun.specs.MessageType.{class_of, IsResponse}
use Rattle.turn_agent.specs.Schedule.{Timers, resends_of}
use Rattle.turn_agent.specs.Agent.{Agent, AreDistinct, sent_again, answers, same_address, is_outstanding, is_response, handle_step, agent_poll_step, agent_transmit_step, due, timed_out_transaction}
use Rattle.turn_agent.specs.Agent.{is_due, is_timed_out, transaction_timeout, earliest, transaction_removed, IsSilentAt, IsSoonest, IsQuietUntil}
use Rattle.turn_agent.specs.declared.agent.StunAgentPollRet.{StunAgentPollRet}
use Rattle.turn_agent.specs.declared.agent.StunAgentPollRet.TheVariants.{TransactionTimedOut, WaitUntil}
use Rattle.turn_agent.specs.declared.transaction.Transaction.{Transaction}
use Rattle.turn_agent.proofs.TransactionLemmas.{set-resent}

-- the first one that passes, and its place
pub record IsFirst {X : Type 0} (p : X → Bool) (xs : List X) (i : ℕ) : Type 0 where
  pub within : i < length xs
  pub found : (d : X) → find p xs ≡ Some (get_or xs i d)

pub position-IsFirst : {X : Type 0} (p : X → Bool) (xs : List X) (i : ℕ) → position p xs ≡ Some i → IsFirst p xs i
position-IsFirst p xs i at =
    let parts = cond_some (ltb (position_or_len p xs) (length xs)) (position_or_len p xs) i at in
    let within = ltb-true _ _ parts.0 in
    record {
      within = omega (arith, within, parts.1);
      found = λ d. rw (find_at p xs, parts.1) (slice_get-get_or xs i d (omega (arith, within, parts.1)));
    }

pub position-found : {X : Type 0} (p : X → Bool) (xs : List X) (i : ℕ) (x : X) → position p xs ≡ Some i → slice_get xs i ≡ Some x → find p xs ≡ Some x
position-found p xs i x at taken =
    let first = position-IsFirst p xs i at in
    first.found x ∙ (sym (slice_get-get_or xs i x first.within) ∙ taken)

pub position-none : {X : Type 0} (p : X → Bool) (xs : List X) → position p xs ≡ None → find p xs ≡ None
position-none p xs none = elim (cases_Bool (ltb (position_or_len p xs) (length xs))) [
  | inl within ↦ absurd (none-some _ (sym (rw within at none)))
  | inr past ↦ rw (find_at p xs) (slice_get_past xs (position_or_len p xs) (ltb-false _ _ past))
]

-- what is found passes
pub find-passes : {X : Type 0} (p : X → Bool) (xs : List X) (x : X) → find p xs ≡ Some x → p x ≡ true
find-passes p [] x found = absurd (none-some x found)
find-passes p (y ∷ xs) x found = elim (cases_Bool (p y)) [
  | inl passes ↦ rw (← same_Some y x (rw passes at found)) passes
  | inr fails ↦ find-passes p xs x (rw fails at found)
]

-- the first test fails where the second one passes and both do not
and_false_left : (x y : Bool) → y ≡ true → (x && y) ≡ false → x ≡ false
and_false_left true y passes fails = sym passes ∙ fails
and_false_left false y passes fails = refl

-- if one is found, at least one passes
pub list_any-some : {X : Type 0} (p : X → Bool) (xs : List X) (x : X) → find p xs ≡ Some x → list_any p xs ≡ true
list_any-some p [] x found = absurd (none-some x found)
list_any-some p (y ∷ xs) x found =
    elim (cases_Bool (p y)) [ inl passes ↦ rw passes refl | inr fails ↦ rw fails (list_any-some p xs x (rw fails at found)) ]

pub list_any-none : {X : Type 0} (p : X → Bool) (xs : List X) → find p xs ≡ None → list_any p xs ≡ false
list_any-none p [] none = refl
list_any-none p (y ∷ xs) none = elim (cases_Bool (p y)) [
  | inl passes ↦ absurd (none-some y (sym (rw passes at none)))
  | inr fails ↦ rw fails (list_any-none p xs (rw fails at none))
]

-- if none passes, there is no first one
pub position-unpassed : {X : Type 0} (p : X → Bool) (xs : List X) → list_any p xs ≡ false → position p xs ≡ None
position-unpassed p [] none = refl
position-unpassed p (x ∷ xs) none = by (position p (x ∷ xs)) refl
  where
    by : (found : Option ℕ) → position p (x ∷ xs) ≡ found → position p (x ∷ xs) ≡ None
    by None at = at
    by (Some i) at = cc (sym none ∙ list_any-some p (x ∷ xs) _ ((position-IsFirst p (x ∷ xs) i at).found x))

-- ---- messages

-- a response with an ID that is not outstanding answers no transaction
pub unanswered : (id : ℕ) (from : SocketAddr) (ts : List Transaction) → is_outstanding id ts ≡ false → list_any (answers id from) ts ≡ false
unanswered id from [] none = refl
unanswered id from (t ∷ ts) none =
    let parts = or_parts (eqb t.id id) (is_outstanding id ts) none in
    rw (parts.0, unanswered id from ts parts.1) refl

-- a class answers a request
IsResponse-true : (class : MessageClass) → IsResponse class → is_response class ≡ true
IsResponse-true Success is = refl
IsResponse-true Error is = refl
IsResponse-true class is = absurd is

-- a response that answers no transaction
pub handle_step-stray : (a : Agent) (message : List ℕ) (from : SocketAddr) → IsResponse (class_of (type_of message)) → position (answers (id_of message) from) a.transactions ≡ None
    → ◌≡◌ {A = Bool × Agent} (false, a) (handle_step a message from)
handle_step-stray a message from is none =
    let unanswered = list_any-none _ a.transactions (position-none _ a.transactions none) in
    rw (IsResponse-true (class_of (type_of message)) is, unanswered) refl

-- the transaction at this place has this ID, and is outstanding
pub record IsOf (id : ℕ) (ts : List Transaction) (t : Transaction) : Type 0 where
  pub same : t.id ≡ id
  pub was : is_outstanding id ts ≡ true

pub position-IsOf : (id : ℕ) (ts : List Transaction) (i : ℕ) (t : Transaction) → position (λ u. eqb u.id id) ts ≡ Some i → slice_get ts i ≡ Some t → IsOf id ts t
position-IsOf id ts i t at taken =
    let found = position-found (λ u. eqb u.id id) ts i t at taken in
    record { same = eqb-true t.id id (find-passes (λ u. eqb u.id id) ts t found); was = list_any-some (λ u. eqb u.id id) ts t found }

-- a transaction that a response answers has its ID
pub answers-id : (id : ℕ) (from : SocketAddr) (ts : List Transaction) (i : ℕ) (t : Transaction) → position (answers id from) ts ≡ Some i → slice_get ts i ≡ Some t → t.id ≡ id
answers-id id from ts i t at taken =
    let passes = find-passes (answers id from) ts t (position-found (answers id from) ts i t at taken) in
    eqb-true t.id id (and_parts (eqb t.id id) (same_address t.to from) passes).0

-- a response that answers the transaction at this place
pub handle_step-ended : (a : Agent) (message : List ℕ) (from : SocketAddr) (i : ℕ) (t : Transaction) → IsResponse (class_of (type_of message))
    → position (answers (id_of message) from) a.transactions ≡ Some i → slice_get a.transactions i ≡ Some t → ◌≡◌ {A = Bool × Agent} (true, transaction_removed t.id a) (handle_step a message from)
handle_step-ended a message from i t is at taken =
    let found = position-found (answers (id_of message) from) a.transactions i t at taken in
    let answered = list_any-some (answers (id_of message) from) a.transactions t found in
    let same = answers-id (id_of message) from a.transactions i t at taken in
    rw (IsResponse-true (class_of (type_of message)) is, answered, same) refl

-- ---- one pass over the transactions

-- those before the place were passed: none of them times out, and `least` takes them into account
pub record IsScanned (timers : Timers) (transport : TransportType) (now : ℕ) (ts : List Transaction) (i least : ℕ) : Type 0 where
  pub none : find (is_timed_out timers transport now) (drop i ts) ≡ find (is_timed_out timers transport now) ts
  pub rest : fold min least (map (transaction_timeout timers transport) (drop i ts)) ≡ fold min (2 ^ 63 - 1) (map (transaction_timeout timers transport) ts)

-- the one at the place is the first that times out
pub IsScanned-found : (timers : Timers) (transport : TransportType) (now : ℕ) (ts : List Transaction) (i least : ℕ) (d : Transaction) → IsScanned timers transport now ts i least → i < length ts
    → is_timed_out timers transport now (get_or ts i d) ≡ true → find (is_timed_out timers transport now) ts ≡ slice_get ts i
IsScanned-found timers transport now ts i least d is within over =
    let front : drop i ts ≡ get_or ts i d ∷ drop (i + 1) ts = rw add-one (drop-cons ts i d within) in
    let none = rw front at is.none in
    rw (slice_get-get_or ts i d within) (sym (rw over at none))

-- ---- poll

-- the transaction at this place times out
pub poll_step-over : (a : Agent) (now i : ℕ) (t : Transaction) → timed_out_transaction a now ≡ slice_get a.transactions i → slice_get a.transactions i ≡ Some t
    → ◌≡◌ {A = StunAgentPollRet × Agent} (TransactionTimedOut t.id, transaction_removed t.id a) (agent_poll_step a now)
poll_step-over a now i t first taken = rw (first ∙ taken) refl

-- the least of all is not above the start value
fold_min-le : (start : ℕ) (times : List ℕ) → fold min start times ≤ start
fold_min-le start [] = omega arith
fold_min-le start (m ∷ times) = omega (arith, fold_min-le (min start m) times, min-le_left start m)

-- before the earliest time of all none is found, if each fails the test before its own time
find-before : (next : Transaction → ℕ) (p : Transaction → Bool) (time : ℕ) → ((t : Transaction) → time < next t → p t ≡ false) → (start : ℕ) (ts : List Transaction)
    → time < fold min start (map next ts) → find p ts ≡ None
find-before next p time waits start [] before = refl
find-before next p time waits start (t ∷ ts) before =
    let here = waits t (omega (arith, before, fold_min-le (min start (next t)) (map next ts), min-le_right start (next t))) in
    rw here (find-before next p time waits (min start (next t)) ts before)

pub IsSilentAt-before : (a : Agent) (time : ℕ) → time < fold min (2 ^ 63 - 1) (map (transaction_timeout a.timers a.transport) a.transactions) → IsSilentAt a time
IsSilentAt-before a time before =
    let next = transaction_timeout a.timers a.transport in
    let none_due = find-before next (is_due a.timers a.transport time) time (λ t later. and_right _ _ (lt-leb (next t) time later)) (2 ^ 63 - 1) a.transactions before in
    let none_over = find-before next (is_timed_out a.timers a.transport time) time (λ t later. and_right _ _ (lt-leb (next t) time later)) (2 ^ 63 - 1) a.transactions before in
    record { sends_nothing = rw none_due refl; gives_nothing_up = none_over }

-- what is neither due nor timed out waits further
waits_on : (timers : Timers) (transport : TransportType) (now : ℕ) (t : Transaction) → is_due timers transport now t ≡ false → is_timed_out timers transport now t ≡ false
    → now < transaction_timeout timers transport t
waits_on timers transport now t not_due not_over = elim (cases_Bool (leb (transaction_timeout timers transport t) now)) [
  | inl past ↦
      let more : ltb t.resends (resends_of timers transport) ≡ false = and_false_left _ _ past not_due in
      let last : leb (resends_of timers transport) t.resends ≡ false = and_false_left _ _ past not_over in
      absurd (omega (arith, ltb-false _ _ more, leb-false _ _ last))
  | inr later ↦ leb-false (transaction_timeout timers transport t) now later
]

-- if a wait has ended and nothing times out, a request is due
pub some_due : (timers : Timers) (transport : TransportType) (now start : ℕ) (ts : List Transaction) → find (is_timed_out timers transport now) ts ≡ None → now < start
    → fold min start (map (transaction_timeout timers transport) ts) ≤ now → IsSome (find (is_due timers transport now) ts)
some_due timers transport now start [] none below past = absurd (omega arith)
some_due timers transport now start (t ∷ ts) none below past = elim (cases_Bool (is_due timers transport now t)) [
  | inl is ↦ rw is refl
  | inr is ↦ elim (cases_Bool (is_timed_out timers transport now t)) [
    | inl over ↦ absurd (none-some t (sym (rw over at none)))
    | inr waits ↦
        let later = le-min {k = suc now} below (waits_on timers transport now t is waits) in
        rw is (some_due timers transport now (min start (transaction_timeout timers transport t)) ts (rw waits at none) later past)
  ]
]

-- ---- poll_transmit

pub transmit_step-none : (a : Agent) (now : ℕ) → position (is_due a.timers a.transport now) a.transactions ≡ None → ◌≡◌ {A = Option (Transmit (List ℕ)) × Agent} (None, a) (agent_transmit_step a now)
transmit_step-none a now none = rw (position-none _ a.transactions none) refl

-- the request at this place is sent
pub transmit_step-sent : (a : Agent) (now i : ℕ) (d : Transaction) → AreDistinct a.transactions → position (is_due a.timers a.transport now) a.transactions ≡ Some i
    → ◌≡◌ {A = Option (Transmit (List ℕ)) × Agent} (
      Some (record { payload = (get_or a.transactions i d).request; transport = a.transport; from = a.local; to = (get_or a.transactions i d).to }),
      record a { transactions = set a.transactions i (sent_again now (get_or a.transactions i d)) },
    ) (agent_transmit_step a now)
transmit_step-sent a now i d distinct at =
    let first = position-IsFirst (is_due a.timers a.transport now) a.transactions i at in
    rw (first.found d, set-resent now a.transactions i d distinct first.within) refl

-- a packet is its four parts
pub same_transmit : (packet : Transmit (List ℕ)) (payload : List ℕ) (transport : TransportType) (from to : SocketAddr) → packet.payload ≡ payload → packet.transport ≡ transport → packet.from ≡ from
    → packet.to ≡ to → packet ≡ record { payload = payload; transport = transport; from = from; to = to }
same_transmit packet payload transport from to p k f t = rw (← p, ← k, ← f, ← t) refl

-- it is not sent more often than a number of 32 bits can count
pub is_due-counted : (timers : Timers) (transport : TransportType) (now : ℕ) (ts : List Transaction) (i : ℕ) (d : Transaction) → position (is_due timers transport now) ts ≡ Some i
    → (get_or ts i d).resends < resends_of timers transport
is_due-counted timers transport now ts i d at =
    let first = position-IsFirst (is_due timers transport now) ts i at in
    let passes = find-passes (is_due timers transport now) ts (get_or ts i d) (first.found d) in
    ltb-true (get_or ts i d).resends (resends_of timers transport) (and_parts (ltb (get_or ts i d).resends (resends_of timers transport))
    (leb (transaction_timeout timers transport (get_or ts i d)) now) passes).0

-- ---- the time that is kept

-- before it nothing is due
pub IsSilentAt-quiet : (a : Agent) (now soonest time : ℕ) → IsQuietUntil a now soonest → time < soonest → IsSilentAt a time
IsSilentAt-quiet a now soonest time quiet before = IsSilentAt-before a time (rw (← quiet.1.1) before)

pub poll_step-quiet : (a : Agent) (now soonest : ℕ) → IsQuietUntil a now soonest → ◌≡◌ {A = StunAgentPollRet × Agent} (WaitUntil soonest, a) (agent_poll_step a now)
poll_step-quiet a now soonest quiet =
    let silent = IsSilentAt-quiet a now soonest now quiet quiet.0 in
    let some : eqb (length a.transactions) 0 ≡ false = ne_eqb (length a.transactions) 0 (λ none. omega (arith, none, quiet.1.0)) in
    rw (silent.gives_nothing_up, some, ← quiet.1.1) refl

pub due-quiet : (a : Agent) (now soonest : ℕ) → IsQuietUntil a now soonest → due a now ≡ None
due-quiet a now soonest quiet =
    let next = transaction_timeout a.timers a.transport in
    find-before next (is_due a.timers a.transport now) now (λ t later. and_right _ _ (lt-leb (next t) now later)) (2 ^ 63 - 1) a.transactions (rw (← quiet.1.1) quiet.0)

min_assoc : (a b c : ℕ) → min (min a b) c ≡ min a (min b c)
min_assoc a b c = omega arith

fold_min-min : (a b : ℕ) (times : List ℕ) → fold min (min a b) times ≡ min a (fold min b times)
fold_min-min a b [] = refl
fold_min-min a b (m ∷ times) = rw (min_assoc a b m) (fold_min-min a (min b m) times)

-- the least of all and of a time that is not past the greatest
pub earliest-known : (a : Agent) (time soonest : ℕ) → IsSoonest a.timers a.transport a.transactions (Some soonest) → time < 2 ^ 63 → min time soonest ≡ earliest a time
earliest-known a time soonest known range =
    let start : min time (2 ^ 63 - 1) ≡ time = min-eq_left (omega (arith, range)) in
    rw known.1 (sym (fold_min-min time (2 ^ 63 - 1) (map (transaction_timeout a.timers a.transport) a.transactions)) ∙ rw start refl)
