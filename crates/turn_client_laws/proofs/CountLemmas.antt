-- Only a signed reply decreases the count of challenges.
use Rattle.turn_client_laws.proofs.Common.{◌⊎◌, ◌<◌, ◌≤◌, ℕ, inl, inr, arith}
use Rattle.turn_client_laws.proofs.Machine.{State, bind_step, message_step, connection_gone, Leaves, state_after, Call, Delete, AllocatedTcpSocket, Recv, PollRecv}
use Rattle.turn_client_laws.specs.LawsHandled.{TakesInput}
use Rattle.turn_client_laws.specs.LawsReplies.{IsReplyAccepted}
use Rattle.turn_client_laws.specs.LawsInputs.{IsBroughtBy}
use Rattle.turn_client_laws.proofs.InputLemmas.{IsBringing, message-brings}
use Rattle.turn_client_laws.proofs.Edits.{IgnoresAll, KeepsEdits, KeepsAccepted}
use Rattle.turn_client_laws.proofs.PhaseEdits.{KeepsPhaseEdits, all-phase-edits, phase-edits}
use Rattle.turn_client_laws.proofs.EditsOfReplies.{gone-walk}
use Rattle.turn_client_laws.proofs.EditsOfMessages.{bind-walk, message-walk}
use Rattle.turn_client_laws.proofs.EditsOfCalls.{delete-walk, expires-walk, quiet-walk, tcp_socket-walk}

-- no fewer challenges were answered, or the message is accepted
abbrev Grows : Type 0 → State → State → Type 0
Grows HasAccepted s t = (s.challenges ≤ t.challenges) ⊎ HasAccepted

grows-trans : (HasAccepted : Type 0) (s t u : State) → Grows HasAccepted s t → Grows HasAccepted t u → Grows HasAccepted s u
grows-trans HasAccepted s t u (inl first) (inl second) = inl (omega (arith, first, second))
grows-trans HasAccepted s t u (inl first) (inr accepted) = inr accepted
grows-trans HasAccepted s t u (inr accepted) second = inr accepted

Grows-KeepsPhaseEdits : (HasAccepted : Type 0) → KeepsPhaseEdits (Grows HasAccepted)
Grows-KeepsPhaseEdits HasAccepted = record {
  rest = λ s t. inl (omega arith);
  trans = grows-trans HasAccepted;
  sends = λ now s. inl (omega arith);
  begins = λ now s new. inl (omega arith);
  ends = λ s. inl (omega arith);
}

Grows-KeepsEdits : (HasAccepted : Type 0) → KeepsEdits (Grows HasAccepted)
Grows-KeepsEdits HasAccepted = phase-edits (Grows HasAccepted) (Grows-KeepsPhaseEdits HasAccepted)

Grows-KeepsAccepted : (HasAccepted : Type 0) → KeepsAccepted HasAccepted (Grows HasAccepted)
Grows-KeepsAccepted HasAccepted = all-phase-edits HasAccepted (Grows HasAccepted) (record {
  edits = Grows-KeepsPhaseEdits HasAccepted;
  holds = λ message d s e. inl (omega arith);
  counts = λ s held few. inl (omega arith);
  resets = λ accepted s. inr accepted;
  allocates = λ addresses s e. inl (omega arith);
})

any-streams : (HasAccepted : Type 0) → IgnoresAll (Grows HasAccepted)
any-streams HasAccepted s streams = inl (omega arith)

-- fewer than so many challenges were answered
abbrev Fewer : ℕ → State → Type 0
Fewer n s = s.challenges < n

back : (HasAccepted : Type 0) (n : ℕ) (s t : State) → Grows HasAccepted s t → Fewer n t → Fewer n s ⊎ HasAccepted
back HasAccepted n s t (inl no_less) fewer = inl (omega (arith, no_less, fewer))
back HasAccepted n s t (inr accepted) fewer = inr accepted

-- without a message that is accepted
never : {X : Type 0} → X ⊎ ⊥ → X
never (inl x) = x
never (inr none) = absurd none

pub bringing : (n : ℕ) → IsBringing (Fewer n) IsReplyAccepted
bringing n = record {
  streams = λ s streams fewer. fewer;
  message = λ message now s is fewer.
      let HasAccepted = IsReplyAccepted message now s in
      back HasAccepted n s (message_step message now s).1 (message-walk HasAccepted (Grows HasAccepted) (Grows-KeepsAccepted HasAccepted) message now s (λ h. h)) fewer;
  binds = λ local message now s is fewer.
      inl (never (back ⊥ n s (bind_step local message now s) (bind-walk ⊥ (Grows ⊥) (Grows-KeepsAccepted ⊥) (any-streams ⊥) local message now s) fewer));
  gone = λ local s fewer. never (back ⊥ n s (connection_gone local s) (gone-walk (Grows ⊥) (Grows-KeepsEdits ⊥) local s) fewer);
  ended = λ s fewer. fewer;
}

-- no call that processes no input decreases it
call-same : (n : ℕ) (call : Call) (s : State) → (TakesInput call → ⊥) → Fewer n (state_after call s) → Fewer n s ⊎ ⊥
call-same n call s other fewer = back ⊥ n s (state_after call s) (by call other) fewer
  where
    by : (call : Call) → (TakesInput call → ⊥) → Grows ⊥ s (state_after call s)
    by (Recv packet now) other = absurd (other tt)
    by (PollRecv now) other = absurd (other tt)
    by (Delete now) other = delete-walk (Grows ⊥) (Grows-KeepsEdits ⊥) (expires-walk ⊥ (Grows ⊥) (Grows-KeepsAccepted ⊥)) now s
    by (AllocatedTcpSocket id tuple peer local now) other = tcp_socket-walk (Grows ⊥) (Grows-KeepsEdits ⊥) (any-streams ⊥) id tuple peer local now s
    by call other = quiet-walk (Grows ⊥) (Grows-KeepsEdits ⊥) call s tt

-- even if memory allocation fails
pub leaves-accepted : (call : Call) (s t : State) → Leaves call s t → t.challenges < s.challenges → IsBroughtBy IsReplyAccepted call s
leaves-accepted call s t leaves fewer =
    elim (message-brings (Fewer s.challenges) IsReplyAccepted (bringing s.challenges) (λ call s. ⊥) (call-same s.challenges) call s t leaves fewer) [
      | inl same ↦ absurd (omega (arith, same))
      | inr (inl none) ↦ absurd none
      | inr (inr did) ↦ did
    ]
