-- The law of cuts over the calls of a run.
use Rattle.turn_client_laws.proofs.Common.{◌≡◌, ◌≢◌, ℕ, zero, suc, ◌+◌, ◌<◌, List, [], ◌∷◌, ◌++◌, Option, Some, None, refl, ap, sym, subst, ◌∙◌, arith, append_assoc, MatchOption, option_to_list}
use Rattle.turn_client_laws.proofs.Common.{All-cons, All-nil, SocketAddr}
use Rattle.turn_client_laws.proofs.Machine.{Tcp, State, Call, Payload, max_steps, poll_recv_step, recv_step, state_after, state_after_all}
use Rattle.turn_client_laws.proofs.Laws.{IsLessThan, steps-less, weight, weight-le}
use Rattle.turn_client_runs.specs.Cut.{AreNonempty, ArePieces, ArePolls, AwaitsBytes, IsSameInRuns, and_then, fed_pieces, outcome_payloads, given_in, given_in_run, joined, polled_until_none}
use Rattle.turn_client_runs.proofs.PiecesLemmas.{any-cut}

-- what calls return, and the state after them
abbrev run_from : State → List Call → List Payload × State
run_from s calls = (given_in_run s calls, state_after_all s calls)

-- ---- polls

polls-same : (polls : List Call) (n now : ℕ) (s : State) → ArePolls now polls s → weight s.streams < n → run_from s polls ≡ polled_until_none n now s
unfolding polled_until_none
polls-same [] n now s none some = absurd none
polls-same (call ∷ calls) zero now s is some = absurd (omega (arith, some))
polls-same (call ∷ calls) (suc n) now s (e, ends) some =
    subst (λ (c : Call). run_from s (c ∷ calls) ≡ and_then (polled_until_none n now) (poll_recv_step now s)) (sym e)
    (by (poll_recv_step now s) ends (steps-less (max_steps s) now s) (λ t is less. polls-same calls n now t is less))
  where
    Later : Type 0
    Later = (t : State) → ArePolls now calls t → weight t.streams < n → run_from t calls ≡ polled_until_none n now t

    by : (r : Option Payload × State) → MatchOption r.0 (calls ≡ []) (λ payload. ArePolls now calls r.1) → IsLessThan (weight s.streams) r → Later
        → (option_to_list r.0 ++ given_in_run r.1 calls, state_after_all r.1 calls) ≡ and_then (polled_until_none n now) r
    by (None, t) over less later = rw over refl
    by (Some payload, t) is less later =
        let lighter : weight t.streams < weight s.streams = less refl in
        ap (λ (p : List Payload × State). (payload ∷ p.0, p.1)) (later t is (omega (arith, lighter, some)))

-- ---- calls in sequence

run-append : (first more : List Call) (s : State) → run_from s (first ++ more) ≡ (given_in_run s first ++ given_in_run (state_after_all s first) more, state_after_all (state_after_all s first) more)
run-append [] more s = refl
run-append (call ∷ calls) more s =
    let t = state_after call s in
    ap (λ (p : List Payload × State). (given_in call s ++ p.0, p.1)) (run-append calls more t)
    ∙ ap (λ (l : List Payload). (l, state_after_all (state_after_all t calls) more)) (sym (append_assoc (given_in call s) (given_in_run t calls) (given_in_run (state_after_all t calls) more)))

pieces-run : (a : SocketAddr) (pieces : List (List ℕ)) (now : ℕ) (calls : List Call) (s : State) → ArePieces a pieces now calls s → run_from s calls ≡ fed_pieces a pieces now s
unfolding fed_pieces
pieces-run a [] now calls s over = rw over refl
pieces-run a (piece ∷ pieces) now calls s (polls, later, e, some, are, more) =
    let came = recv_step Tcp s.remote a piece now s in
    let given = outcome_payloads came.0 in
    let most = weight-le came.1.streams in
    let polls-are = polls-same polls (max_steps came.1 + 1) now came.1 are (omega (arith, most)) in
    let u = state_after_all came.1 polls in
    let rest = pieces-run a pieces now later u more in
    subst (λ (l : List Call). run_from s l ≡ fed_pieces a (piece ∷ pieces) now s) (sym e)
    (ap (λ (p : List Payload × State). (given ++ p.0, p.1)) (run-append polls later came.1)
    ∙ (ap (λ (p : List Payload × State). (given ++ (given_in_run came.1 polls ++ p.0), p.1)) rest
    ∙ (ap (λ (q : List Payload × State). (given ++ (q.0 ++ (fed_pieces a pieces now q.1).0), (fed_pieces a pieces now q.1).1)) polls-are
    ∙ again given (polled_until_none (max_steps came.1 + 1) now came.1))))
  where
    again : (given : List Payload) (q : List Payload × State) → ◌≡◌ {A = List Payload × State} (given ++ (q.0 ++ (fed_pieces a pieces now q.1).0), (fed_pieces a pieces now q.1).1)
        ((given ++ q.0) ++ (fed_pieces a pieces now q.1).0, (fed_pieces a pieces now q.1).1)
    again given q = ap (λ (l : List Payload). (l, (fed_pieces a pieces now q.1).1)) (sym (append_assoc given q.0 (fed_pieces a pieces now q.1).0))

pieces-some : (a : SocketAddr) (pieces : List (List ℕ)) (now : ℕ) (calls : List Call) (s : State) → ArePieces a pieces now calls s → AreNonempty pieces
pieces-some a [] now calls s over = All-nil (λ (l : List ℕ). l ≢ [])
pieces-some a (piece ∷ pieces) now calls s (polls, later, e, some, are, more) =
    All-cons (λ (l : List ℕ). l ≢ []) piece pieces some (pieces-some a pieces now later (state_after_all (recv_step Tcp s.remote a piece now s).1 polls) more)

pub run-cut : (a : SocketAddr) (pieces : List (List ℕ)) (now : ℕ) (s : State) → AwaitsBytes s → IsSameInRuns a pieces now s
run-cut a pieces now s quiet calls are =
    let run = pieces-run a pieces now calls s are in
    let same = any-cut a now pieces s quiet (pieces-some a pieces now calls s are) in (
      ap (λ (p : List Payload × State). joined a s p.0) run ∙ same.0,
      ap (λ (p : List Payload × State). p.1) run ∙ same.1,
    )
