-- A client that was polled until nothing was returned is quiet.
use Rattle.turn_client_laws.proofs.Common.{◌≡◌, ℕ, zero, suc, ◌+◌, List, [], ◌∷◌, find, Option, Some, None, refl, ap, ◌∙◌, arith, SocketAddr}
use Rattle.turn_client_laws.proofs.Machine.{Tcp, Config, State, initial, Payload, Outcome, is_ready, max_steps, poll_recv_step, recv_step, state_after, state_after_all, Call}
use Rattle.turn_client_laws.proofs.Laws.{AreApart, IgnoresAll, KeepsAllEdits, calls-walk, edits-IsKept, fixed-all-edits, IsKept, poll_recv-kept, recv-kept, call-apart, initial-apart, steps-done}
use Rattle.turn_client_laws.proofs.Laws.{weight, weight-le}
use Rattle.turn_client_laws.proofs.StreamStepLemmas.{poll_recv-apart, recv-apart}
use Rattle.turn_client_runs.specs.Cut.{GetsQuiet, AwaitsBytes, and_then, fed_piece, polled_until_none}
use Rattle.turn_client_runs.proofs.AllStepsLemmas.{all-done, polled_out, polled_out-all}

-- ---- the transport of its packets

abbrev SameTransport : State → State → Type 0
SameTransport s t = t.transport ≡ s.transport

all-edits : KeepsAllEdits SameTransport
all-edits = fixed-all-edits (λ f. f.0)

any-streams : IgnoresAll SameTransport
any-streams s streams = refl

transport-kept : IsKept SameTransport
transport-kept = edits-IsKept SameTransport all-edits any-streams

-- ---- polled

-- what a poll keeps, polls keep
polled-keeps : (P : State → Type 0) → ((now : ℕ) (s : State) → P s → P (poll_recv_step now s).1) → (n now : ℕ) (s : State) → P s → P (polled_until_none n now s).1
unfolding polled_until_none
polled-keeps P step zero now s h = h
polled-keeps P step (suc n) now s h = by (poll_recv_step now s) (step now s h) (λ t k. polled-keeps P step n now t k)
  where
    by : (r : Option Payload × State) → P r.1 → ((t : State) → P t → P (polled_until_none n now t).1) → P (and_then (polled_until_none n now) r).1
    by (None, t) k later = k
    by (Some payload, t) k later = later t k

polled_out-done : (now : ℕ) (p : Outcome × State) → find is_ready (polled_out now p).1.streams ≡ None
polled_out-done now p =
    let n = weight p.1.streams in
    rw (ap (λ (q : List Payload × State). q.1) (polled_out-all n now p (omega arith))) (all-done n now p.1 (omega arith))

-- after each piece the client is quiet again
pub fed-quiet : (a : SocketAddr) (piece : List ℕ) (now : ℕ) (s : State) → AwaitsBytes s → AwaitsBytes (fed_piece a piece now s).1
fed-quiet a piece now s quiet =
    let came = (recv_step Tcp s.remote a piece now s).1 in
    let n = max_steps came + 1 in
    record {
      transport = polled-keeps (λ (t : State). t.transport ≡ Tcp) (λ now t h. poll_recv-kept SameTransport transport-kept now t ∙ h) n now came
          (recv-kept SameTransport transport-kept Tcp s.remote a piece now s ∙ quiet.transport);
      apart = polled-keeps AreApart poll_recv-apart n now came (recv-apart Tcp s.remote a piece now s quiet.apart);
      none_ready = polled_out-done now (recv_step Tcp s.remote a piece now s);
    }

pub poll-quiet : (s : State) → s.transport ≡ Tcp → AreApart s → GetsQuiet s
poll-quiet s tcp apart now none = record {
  transport = poll_recv-kept SameTransport transport-kept now s ∙ tcp;
  apart = poll_recv-apart now s apart;
  none_ready = steps-done (max_steps s) now s (weight-le s.streams) none;
}

pub initial-quiet : (local remote : SocketAddr) (config : Config) (seed : List ℕ) → AwaitsBytes (initial Tcp local remote config seed)
initial-quiet local remote config seed = record { transport = refl; apart = initial-apart Tcp local remote config seed; none_ready = refl }

-- what each call keeps, all calls keep
pub calls-keep : (P : State → Type 0) → ((call : Call) (s : State) → P s → P (state_after call s)) → (calls : List Call) (s : State) → P s → P (state_after_all s calls)
calls-keep P step [] s h = h
calls-keep P step (call ∷ calls) s h = calls-keep P step calls (state_after call s) (step call s h)

pub run-quiet : (local remote : SocketAddr) (config : Config) (seed : List ℕ) (calls : List Call) → GetsQuiet (state_after_all (initial Tcp local remote config seed) calls)
run-quiet local remote config seed calls =
    let first = initial Tcp local remote config seed in
    poll-quiet (state_after_all first calls)
    (calls-keep (λ (t : State). t.transport ≡ Tcp) (λ call t h. calls-walk SameTransport all-edits any-streams call t ∙ h) calls first refl)
    (calls-keep AreApart call-apart calls first (initial-apart Tcp local remote config seed))
