-- All steps of the streams, with what each of them returns, and the polls that take them.
use Rattle.turn_client_laws.proofs.Common.{◌≡◌, ℕ, zero, suc, ◌+◌, ◌<◌, ◌≤◌, List, [], ◌∷◌, ◌++◌, find, Option, Some, None, refl, ap, sym, ◌∙◌, arith, option_map_or}
use Rattle.turn_client_laws.proofs.Machine.{State, Stream, Payload, Outcome, Handled, Ignored, PeerData, go_on, is_ready, max_steps, poll_recv_step, next_frame_step, first_ready_step}
use Rattle.turn_client_laws.proofs.Machine.{steps_until_payload, then_all}
use Rattle.turn_client_laws.proofs.Laws.{none-ready, IsDone, step-lighter, steps-done, steps-enough, walk-enough, IsLessThan, steps-less, weight, weight-le}
use Rattle.turn_client_laws.proofs.RestingStreamLemmas.{steps-rest}
use Rattle.turn_client_runs.specs.Cut.{and_then, outcome_payloads, polled_until_none}

-- what an outcome returns, and then the rest in the state after it
abbrev pub gives_then : (State → List Payload × State) → Outcome × State → List Payload × State
gives_then next p = (outcome_payloads p.0 ++ (next p.1).0, (next p.1).1)

abbrev step_by_step : (State → List Payload × State) → ℕ → State → Option Stream → List Payload × State
step_by_step next now s None = ([], s)
step_by_step next now s (Some stream) = gives_then next (next_frame_step stream now s)

-- so many steps, each of the first stream that is ready, or as many as there are
unfoldable pub all_steps : ℕ → ℕ → State → List Payload × State
all_steps zero now s = ([], s)
all_steps (suc n) now s = step_by_step (all_steps n now) now s (find is_ready s.streams)

-- ---- step by step

pub all-rest : (n now : ℕ) (s : State) → find is_ready s.streams ≡ None → all_steps n now s ≡ ([], s)
unfolding all_steps
all-rest zero now s e = refl
all-rest (suc n) now s e = rw e refl

pub all-first : (n now : ℕ) (s : State) (stream : Stream) → find is_ready s.streams ≡ Some stream → all_steps (suc n) now s ≡ gives_then (all_steps n now) (next_frame_step stream now s)
unfolding all_steps
all-first n now s stream e = rw e refl

-- more steps than the streams' weight give the same
pub all-enough : (n m now : ℕ) (s : State) → weight s.streams ≤ n → weight s.streams ≤ m → all_steps n now s ≡ all_steps m now s
unfolding all_steps
all-enough n m now =
    walk-enough (λ n. all_steps n now) (λ s. ([], s)) gives_then now (λ s. refl) (λ n s. all-rest (suc n) now s) (λ n s stream. all-first n now s stream)
    (λ next other p. ap (λ (q : List Payload × State). (outcome_payloads p.0 ++ q.0, q.1))) n m

-- after as many no stream is ready
pub all-done : (n now : ℕ) (s : State) → weight s.streams ≤ n → find is_ready (all_steps n now s).1.streams ≡ None
unfolding all_steps
all-done zero now s h = none-ready now s h _ refl
all-done (suc n) now s h = by (find is_ready s.streams) refl (λ t p. all-done n now t p)
  where
    by : (o : Option Stream) → find is_ready s.streams ≡ o → ((t : State) → weight t.streams ≤ n → find is_ready (all_steps n now t).1.streams ≡ None)
        → find is_ready (step_by_step (all_steps n now) now s o).1.streams ≡ None
    by None e more = e
    by (Some stream) e more = let less = step-lighter stream now s e in more (next_frame_step stream now s).1 (omega (arith, less, h))

-- ---- one poll after the other

and_then-enough : (n now : ℕ) (t : State) → weight t.streams ≤ n → and_then (all_steps n now) (poll_recv_step now t) ≡ and_then (all_steps (suc n) now) (poll_recv_step now t)
and_then-enough n now t h = by (poll_recv_step now t) (steps-less (max_steps t) now t)
  where
    by : (r : Option Payload × State) → IsLessThan (weight t.streams) r → and_then (all_steps n now) r ≡ and_then (all_steps (suc n) now) r
    by (None, u) less = refl
    by (Some q, u) less =
        let lighter : weight u.streams < weight t.streams = less refl in
        ap (λ (p : List Payload × State). (q ∷ p.0, p.1)) (all-enough n (suc n) now u (omega (arith, lighter, h)) (omega (arith, lighter, h)))

-- the first step of a poll
poll-first : (now : ℕ) (s : State) (stream : Stream) → find is_ready s.streams ≡ Some stream → (k : ℕ) → max_steps s ≡ k → (m : ℕ) × (max_steps s ≡ suc m)
    × (poll_recv_step now s ≡ go_on (steps_until_payload m now) (next_frame_step stream now s))
unfolding steps_until_payload
poll-first now s stream e zero same =
    let less = step-lighter stream now s e in
    let most = weight-le s.streams in
    absurd (omega (arith, less, most, same))
poll-first now s stream e (suc m) same = (m, same, ap (λ k. steps_until_payload k now s) same ∙ rw e refl)

pub all-poll : (n now : ℕ) (s : State) → weight s.streams ≤ n → all_steps n now s ≡ and_then (all_steps n now) (poll_recv_step now s)
all-poll zero now s h =
    let none = none-ready now s h _ refl in
    all-rest zero now s none ∙ ap (and_then (all_steps zero now)) (sym (steps-rest (max_steps s) now s none))
all-poll (suc n) now s h = by (find is_ready s.streams) refl (λ t p. all-poll n now t p)
  where
    Goal : Type 0
    Goal = all_steps (suc n) now s ≡ and_then (all_steps (suc n) now) (poll_recv_step now s)

    Later : Type 0
    Later = (t : State) → weight t.streams ≤ n → all_steps n now t ≡ and_then (all_steps n now) (poll_recv_step now t)

    on : (m : ℕ) (t : State) → weight t.streams ≤ n → weight t.streams ≤ m → Later → all_steps n now t ≡ and_then (all_steps (suc n) now) (steps_until_payload m now t)
    on m t few enough more =
        more t few
        ∙ (and_then-enough n now t few
        ∙ ap (and_then (all_steps (suc n) now)) (sym (steps-enough m (max_steps t) now t enough (weight-le t.streams))))

    step : (m : ℕ) (p : Outcome × State) → weight p.1.streams ≤ n → weight p.1.streams ≤ m → Later
        → gives_then (all_steps n now) p ≡ and_then (all_steps (suc n) now) (go_on (steps_until_payload m now) p)
    step m (PeerData payload, t) few enough more = ap (λ (q : List Payload × State). (record payload { place = None } ∷ q.0, q.1)) (all-enough n (suc n) now t few (omega (arith, few)))
    step m (_, t) few enough more = on m t few enough more

    by : (o : Option Stream) → find is_ready s.streams ≡ o → Later → Goal
    by None e more = all-rest (suc n) now s e ∙ ap (and_then (all_steps (suc n) now)) (sym (steps-rest (max_steps s) now s e))
    by (Some stream) e more =
        let (m, same, is) = poll-first now s stream e (max_steps s) refl in
        let less = step-lighter stream now s e in
        let most = weight-le s.streams in
        all-first n now s stream e
        ∙ (step m (next_frame_step stream now s) (omega (arith, less, h)) (omega (arith, less, most, same)) more
        ∙ ap (and_then (all_steps (suc n) now)) (sym is))

-- polled more often than the streams' weight, a client takes all steps
pub polled-all : (k n now : ℕ) (s : State) → weight s.streams < k → weight s.streams ≤ n → polled_until_none k now s ≡ all_steps n now s
unfolding polled_until_none
polled-all zero n now s some h = absurd (omega (arith, some))
polled-all (suc k) n now s some h = by (poll_recv_step now s) refl (steps-less (max_steps s) now s) (λ t p q. polled-all k n now t p q)
  where
    by : (r : Option Payload × State) → poll_recv_step now s ≡ r → IsLessThan (weight s.streams) r
        → ((t : State) → weight t.streams < k → weight t.streams ≤ n → polled_until_none k now t ≡ all_steps n now t) → and_then (polled_until_none k now) (poll_recv_step now s) ≡ all_steps n now s
    by (None, u) e less more = ap (and_then (polled_until_none k now)) e ∙ sym (all-poll n now s h ∙ ap (and_then (all_steps n now)) e)
    by (Some q, u) e less more =
        let lighter : weight u.streams < weight s.streams = less refl in
        ap (and_then (polled_until_none k now)) e
        ∙ (ap (λ (p : List Payload × State). (q ∷ p.0, p.1)) (more u (omega (arith, lighter, some)) (omega (arith, lighter, h)))
        ∙ sym (all-poll n now s h ∙ ap (and_then (all_steps n now)) e))

-- ---- after a piece was received

-- a payload that is polled is owned
abbrev IsOwned : Option Payload × State → Type 0
IsOwned (None, t) = Unit {0}
IsOwned (Some q, t) = record q { place = None } ≡ q

go_on-owned : (next : State → Option Payload × State) (p : Outcome × State) → IsOwned (next p.1) → IsOwned (go_on next p)
go_on-owned next (PeerData payload, t) later = refl
go_on-owned next (_, t) later = later

steps-owned : (n now : ℕ) (s : State) → IsOwned (steps_until_payload n now s)
unfolding steps_until_payload
steps-owned zero now s = tt
steps-owned (suc n) now s = by (find is_ready s.streams) (λ t. steps-owned n now t)
  where
    by : (o : Option Stream) → ((t : State) → IsOwned (steps_until_payload n now t)) → IsOwned (first_ready_step (steps_until_payload n now) now s o)
    by None later = tt
    by (Some stream) later = go_on-owned (steps_until_payload n now) (next_frame_step stream now s) (later (next_frame_step stream now s).1)

-- what the piece returned, and what is polled then
abbrev pub polled_out : ℕ → Outcome × State → List Payload × State
polled_out now p = gives_then (polled_until_none (max_steps p.1 + 1) now) p

pub polled_out-all : (n now : ℕ) (p : Outcome × State) → weight p.1.streams ≤ n → polled_out now p ≡ gives_then (all_steps n now) p
polled_out-all n now p h =
    let most = weight-le p.1.streams in
    ap (λ (q : List Payload × State). (outcome_payloads p.0 ++ q.0, q.1)) (polled-all (max_steps p.1 + 1) n now p.1 (omega (arith, most)) h)

poll-then : (n now : ℕ) (s : State) (o : Outcome) → outcome_payloads o ≡ [] → weight s.streams ≤ n → (r : Option Payload × State) → IsLessThan (weight s.streams) r → IsOwned r → IsDone r
    → polled_out now (option_map_or PeerData r.0 o, r.1) ≡ and_then (all_steps n now) r
poll-then n now s o nothing h (None, u) less is done =
    polled_out-all (weight u.streams) now (o, u) (omega arith)
    ∙ (ap (λ (q : List Payload × State). (outcome_payloads o ++ q.0, q.1)) (all-rest (weight u.streams) now u (done refl))
    ∙ ap (λ (l : List Payload). (l ++ [], u)) nothing)
poll-then n now s o nothing h (Some q, u) less is done =
    let lighter : weight u.streams < weight s.streams = less refl in
    polled_out-all n now (PeerData q, u) (omega (arith, lighter, h))
    ∙ ap (λ (x : Payload). (x ∷ (all_steps n now u).0, (all_steps n now u).1)) is

poll-all : (n now : ℕ) (s : State) (o : Outcome) → outcome_payloads o ≡ [] → weight s.streams ≤ n
    → polled_out now (option_map_or PeerData (poll_recv_step now s).0 o, (poll_recv_step now s).1) ≡ all_steps n now s
poll-all n now s o nothing h =
    let most = max_steps s in
    poll-then n now s o nothing h (poll_recv_step now s) (steps-less most now s) (steps-owned most now s) (steps-done most now s (weight-le s.streams))
    ∙ sym (all-poll n now s h)

-- what `then_all` takes is not polled again
pub then_all-all : (n now : ℕ) (p : Outcome × State) → weight p.1.streams ≤ n → polled_out now (then_all now p) ≡ gives_then (all_steps n now) p
then_all-all n now (Handled, t) h = poll-all n now t Handled refl h
then_all-all n now (Ignored, t) h = poll-all n now t Ignored refl h
then_all-all n now (x, t) h = polled_out-all n now (x, t) h
