-- With each payload that `poll_recv` returns, the streams hold fewer bytes.
use Rattle.turn_client_laws.proofs.Common.{◌≡◌, ℕ, zero, suc, ◌<◌, List, [], ◌∷◌, length, Option, Some, None, refl, arith, IsSome, find, sum_by, IsDistinct, sum_by-cons, SocketAddr}
use Rattle.turn_client_laws.proofs.Machine.{same_address, State, Stream, Payload, Outcome, go_on, is_ready, max_steps, poll_recv_step, next_frame_step, first_ready_step, steps_until_payload, IsNoneOf}
use Rattle.turn_client_laws.proofs.Machine.{ends, differ-sym}
use Rattle.turn_client_laws.specs.LawsStreams.{AreApart}
use Rattle.turn_client_laws.proofs.StreamDrainLemmas.{step-lighter}
use Rattle.turn_client_laws.proofs.StreamStepLemmas.{poll_recv-apart}
use Rattle.turn_client_laws.proofs.StreamWeightLemmas.{top, weight}

-- ---- with distinct local addresses, all bytes count

top-none : (local : SocketAddr) (xs : List Stream) → IsNoneOf local xs → top local xs ≡ 0
unfolding top
top-none local [] h = refl
top-none local (x ∷ xs) h = rw (differ-sym local x.local h.0) (omega (arith, top-none local xs h.1))

weight-all : (xs : List Stream) → IsDistinct same_address (ends xs) → weight xs ≡ sum_by (λ stream. length stream.bytes) xs
unfolding weight IsDistinct
weight-all [] h = refl
weight-all (x ∷ xs) h =
    omega (arith, weight-all xs h.1, top-none x.local xs h.0, sum_by-cons (λ (stream : Stream). length stream.bytes) x xs)

-- ---- steps

-- so much weighs more than what the streams hold after a payload
abbrev pub IsLessThan : ℕ → Option Payload × State → Type 0
IsLessThan n p = IsSome p.0 → weight p.1.streams < n

go_on-less : (next : State → Option Payload × State) (n : ℕ) (p : Outcome × State) → weight p.1.streams < n → IsLessThan (weight p.1.streams) (next p.1) → IsLessThan n (go_on next p)
go_on-less next n p first more = grind arith

pub steps-less : (n now : ℕ) (s : State) → IsLessThan (weight s.streams) (steps_until_payload n now s)
unfolding steps_until_payload
steps-less zero now s = λ h. cc
steps-less (suc n) now s = by (find is_ready s.streams) refl (λ t. steps-less n now t)
  where
    by : (o : Option Stream) → find is_ready s.streams ≡ o → ((t : State) → IsLessThan (weight t.streams) (steps_until_payload n now t))
        → IsLessThan (weight s.streams) (first_ready_step (steps_until_payload n now) now s o)
    by None e more = λ h. cc
    by (Some stream) e more =
        go_on-less (steps_until_payload n now) (weight s.streams) (next_frame_step stream now s) (step-lighter stream now s e) (more (next_frame_step stream now s).1)

pub poll_recv-fewer : (now : ℕ) (s : State) → AreApart s → IsSome (poll_recv_step now s).0 → max_steps (poll_recv_step now s).1 < max_steps s
poll_recv-fewer now s apart some =
    let t = (poll_recv_step now s).1 in
    let later = poll_recv-apart now s apart in
    omega (arith, weight-all s.streams apart.0, weight-all t.streams later.0, steps-less (max_steps s) now s some)
