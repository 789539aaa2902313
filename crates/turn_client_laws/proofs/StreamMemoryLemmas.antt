-- The streams keep distinct local addresses, even if memory allocation fails.
use Rattle.turn_client_laws.proofs.Common.{◌≡◌, ◌≢◌, ◌⊎◌, ℕ, List, Option, Some, None, refl, subst, sym, inl, inr, arith, IsSomeAnd, find, SocketAddr}
use Rattle.turn_client_laws.proofs.Machine.{same_address, State, Mode, Control, Broken, Stream, closed, Payload, broken_at, is_ready, EndsAfterSteps, RecvEnds, before_others, EndsWithoutMemory}
use Rattle.turn_client_laws.proofs.Machine.{Leaves, state_after, Call, Recv, PollRecv}
use Rattle.turn_client_laws.specs.LawsHandled.{TakesInput}
use Rattle.turn_client_laws.specs.LawsStreams.{AreApart}
use Rattle.turn_client_laws.proofs.MemoryLemmas.{IsBehind, before-IsBehind, memory-ends}
use Rattle.turn_client_laws.proofs.StreamApartLemmas.{broken-apart, found-NotBroken}
use Rattle.turn_client_laws.proofs.StreamCallLemmas.{call-apart}
use Rattle.turn_client_laws.proofs.StreamDrainLemmas.{broken_by}
use Rattle.turn_client_laws.proofs.StreamStepLemmas.{StayApart, first_frame_step-apart, steps-apart}

-- what a state is equal to that keeps them distinct
equal-apart : (s t u : State) → u ≡ t → StayApart s t → StayApart s u
equal-apart s t u e kept h = subst (λ (x : State). AreApart x) (sym e) (kept h)

broken_at-apart : (local : SocketAddr) (s : State) → StayApart s (broken_at local s)
unfolding broken_by
broken_at-apart local s h = broken-apart local s.streams h

steps_end-apart : (now : ℕ) (s u : State) → EndsAfterSteps now s u → StayApart s u
steps_end-apart now s u (t, (n, led), broken) h = by (find is_ready t.streams) broken
  where
    by : (o : Option Stream) → IsSomeAnd o (λ stream. u ≡ closed (broken_at stream.local t)) → AreApart u
    by None none = absurd none
    by (Some stream) e =
        equal-apart t (closed (broken_at stream.local t)) u e (broken_at-apart stream.local t)
        (subst (λ (p : Option Payload × State). AreApart p.1) led (steps-apart n now s h))

control-whole : (mode : Mode) → mode ≡ Control → mode ≢ Broken
control-whole mode e f = grind arith

before-apart : (to : SocketAddr) (piece : List ℕ) (now : ℕ) (s u : State) → IsBehind to piece now s u → StayApart s u
before-apart to piece now s u (stream, f, inl (mode, e)) h =
    let whole = found-NotBroken (λ x. same_address x.local to) s.streams stream f (control-whole stream.mode mode) h.0 in
    equal-apart s _ u e (first_frame_step-apart stream piece now s whole) h
before-apart to piece now s u (stream, f, inr e) h = equal-apart s s u e (λ k. k) h

recv_end-apart : (to : SocketAddr) (piece : List ℕ) (now : ℕ) (s t : State) → RecvEnds to piece now s t → StayApart s t
recv_end-apart to piece now s t (inl e) h = equal-apart s _ t e (broken_at-apart to s) h
recv_end-apart to piece now s t (inr (over, some, later)) h = by (before_others to piece now s) refl later
  where
    by : (o : Option State) → before_others to piece now s ≡ o → IsSomeAnd o (λ u. EndsAfterSteps now u t) → AreApart t
    by None e none = absurd none
    by (Some u) e end = steps_end-apart now u t end (before-apart to piece now s u (before-IsBehind to piece now s u e) h)

amid-apart : (call : Call) (s t : State) → TakesInput call → EndsWithoutMemory call s t → StayApart s t
amid-apart (Recv packet now) s t takes (asks, end) = recv_end-apart packet.to packet.payload now s t end
amid-apart (PollRecv now) s t takes end = steps_end-apart now s t end
amid-apart call s t takes end = absurd takes

memory-apart : (call : Call) (s t : State) → EndsWithoutMemory call s t → StayApart s t
memory-apart call s t end = by (memory-ends call s t end)
  where
    by : (t ≡ s) ⊎ (t ≡ closed s) ⊎ (TakesInput call × EndsWithoutMemory call s t) → StayApart s t
    by (inl e) = equal-apart s s t e (λ h. h)
    by (inr (inl e)) = equal-apart s (closed s) t e (λ h. h)
    by (inr (inr (takes, end))) = amid-apart call s t takes end

pub leaves-apart : (call : Call) (s t : State) → Leaves call s t → StayApart s t
leaves-apart call s t (inl e) = equal-apart s (state_after call s) t e (call-apart call s)
leaves-apart call s t (inr h) = memory-apart call s t h
