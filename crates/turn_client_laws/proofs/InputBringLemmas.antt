-- What the inputs of a call cause, the call causes.
use Rattle.turn_client_laws.proofs.Common.{◌≡◌, ◌⊎◌, true, List, [], ◌∷◌, ◌++◌, Some, refl, sym, subst, inl, inr, SocketAddr}
use Rattle.turn_client_laws.proofs.Machine.{State, Waiting, Stream, closed, bind_step, is_message, message_step, connection_gone, without_stream, EndsWithoutMemory, Leaves, state_after, Call, Recv}
use Rattle.turn_client_laws.proofs.Machine.{PollRecv, Has, has-left}
use Rattle.turn_client_laws.specs.Handled.{Input, handled, processed}
use Rattle.turn_client_laws.specs.LawsHandled.{DiffersInStreams, ProcessesInputs, EndsAmidInputs, IsDoneBy, IsOverControl, TakesInput, InputsLead}
use Rattle.turn_client_laws.proofs.MemoryLemmas.{memory-ends}
use Rattle.turn_client_laws.proofs.OneInputLemmas.{input-by}
use Rattle.turn_client_laws.proofs.StandLemmas.{has-contains}
use Rattle.turn_client_laws.proofs.InputChainLemmas.{calls-do, dropped-differs}
use Rattle.turn_client_laws.proofs.InputEndLemmas.{calls-end}

-- Of a claim on states and what an input does: the bytes of streams do not count, and if the claim holds
-- after a message and did not before it, the input of the message did it. The end of a connection, or of
-- the client, causes nothing.
pub record IsBrought (P : State → Type 0) (Did : Input → Type 0) : Type 0 where
  pub differs : (s t : State) → DiffersInStreams s t → P t → P s
  pub message : (one : Input) → IsOverControl one → is_message one.bytes ≡ true → P (message_step one.bytes one.time one.before).1 → P one.before ⊎ Did one
  pub binds : (one : Input) (stream : Stream) → one.stream ≡ Some stream → stream.mode ≡ Waiting → is_message one.bytes ≡ true → P (bind_step stream.local one.bytes one.time one.before)
      → P one.before ⊎ Did one
  pub gone : (local : SocketAddr) (s : State) → P (connection_gone local s) → P s
  pub ended : (s : State) → P (closed s) → P s

-- ---- inputs in sequence

-- one of these inputs did it
abbrev pub Among : (Input → Type 0) → List Input → Type 0
Among Did inputs = (one : Input) × Has one inputs × Did one

pub later-among : (Did : Input → Type 0) (one : Input) (inputs : List Input) → Among Did inputs → Among Did (one ∷ inputs)
later-among Did one inputs (x, there, did) = (x, inr there, did)

pub among-done : (Did : Input → Type 0) (call : Call) (s : State) → Among Did (handled call s) → IsDoneBy Did call s
among-done Did call s (one, there, did) = (one, has-contains one (handled call s) there, did)

-- the first inputs of the call are among all of them
pub front-done : (Did : Input → Type 0) (call : Call) (s : State) (front later : List Input) → handled call s ≡ front ++ later → Among Did front
    → IsDoneBy Did call s
front-done Did call s front later all (one, there, did) = among-done Did call s (one, subst (Has one) (sym all) (has-left one front later there), did)

-- what holds after the inputs held before them, or one of them caused it
pub leads-back : (P : State → Type 0) (Did : Input → Type 0) → ((s t : State) → DiffersInStreams s t → P t → P s)
    → ((one : Input) → P (processed one).1 → P one.before ⊎ Did one)
    → (inputs : List Input) (s t : State) → InputsLead inputs s t → P t → P s ⊎ Among Did inputs
leads-back P Did alike step [] s t differs h = inl (alike s t differs h)
leads-back P Did alike step (one ∷ inputs) s t (differs, lead) h = by (leads-back P Did alike step inputs (processed one).1 t lead h)
  where
    by : P (processed one).1 ⊎ Among Did inputs → P s ⊎ Among Did (one ∷ inputs)
    by (inl here) = elim (step one here) [ inl before ↦ inl (alike s one.before differs before) | inr did ↦ inr (one, inl refl, did) ]
    by (inr among) = inr (later-among Did one inputs among)

-- ---- what is brought

module _ (P : State → Type 0) (Did : Input → Type 0) (k : IsBrought P Did) where
  -- it held before, or the input did it
  abbrev Brings : Input → Type 0
  Brings one = P one.before ⊎ Did one

  pub processed-brings : (one : Input) → P (processed one).1 → Brings one
  processed-brings one =
      input-by (λ t. P t → Brings one) one (λ h. inl h) (λ over whole h. k.message one over whole h)
      (λ stream of waits whole h. k.binds one stream of waits whole h)

  pub lead-brings : (inputs : List Input) (s t : State) → InputsLead inputs s t → P t → P s ⊎ Among Did inputs
  lead-brings = leads-back P Did k.differs processed-brings

  does-brings : (call : Call) (s : State) → ProcessesInputs call s → P (state_after call s) → P s ⊎ IsDoneBy Did call s
  does-brings call s (inl lead) h =
      elim (lead-brings (handled call s) s (state_after call s) lead h) [ inl there ↦ inl there | inr among ↦ inr (among-done Did call s among) ]
  does-brings call s (inr end) h =
      let t = connection_gone end.local s in
      inl (k.gone end.local s (k.differs t (without_stream end.local t) (dropped-differs end.local t) (subst P end.gone h)))

  end-brings : (call : Call) (s t : State) → EndsAmidInputs call s t → P t → P s ⊎ IsDoneBy Did call s
  end-brings call s t end h =
      elim (lead-brings end.front s end.last end.lead (k.ended end.last (subst P end.ended h))) [
        | inl there ↦ inl there
        | inr among ↦ inr (front-done Did call s end.front end.later end.all among)
      ]

  -- ---- a call

  module _ (Other : Call → State → Type 0) (others : (call : Call) (s : State) → (TakesInput call → ⊥) → P (state_after call s) → P s ⊎ Other call s) where
    abbrev Brought : Call → State → Type 0
    Brought call s = P s ⊎ Other call s ⊎ IsDoneBy Did call s

    by-input : (call : Call) (s : State) → P s ⊎ IsDoneBy Did call s → Brought call s
    by-input call s h = elim h [ inl there ↦ inl there | inr did ↦ inr (inr did) ]

    found-brings : (call : Call) (s : State) → P (state_after call s) → Brought call s
    found-brings (Recv packet now) s h = by-input (Recv packet now) s (does-brings (Recv packet now) s (calls-do (Recv packet now) s tt) h)
    found-brings (PollRecv now) s h = by-input (PollRecv now) s (does-brings (PollRecv now) s (calls-do (PollRecv now) s tt) h)
    found-brings call s h = elim (others call s (λ is. is) h) [ inl there ↦ inl there | inr did ↦ inr (inl did) ]

    -- memory allocation fails
    none-brings : (call : Call) (s t : State) → EndsWithoutMemory call s t → P t → Brought call s
    none-brings call s t end h = by (memory-ends call s t end)
      where
        by : (t ≡ s) ⊎ (t ≡ closed s) ⊎ (TakesInput call × EndsWithoutMemory call s t) → Brought call s
        by (inl e) = inl (subst P e h)
        by (inr (inl e)) = inl (k.ended s (subst P e h))
        by (inr (inr (takes, end))) = by-input call s (end-brings call s t (calls-end call s t takes end) h)

    pub leaves-bring : (call : Call) (s t : State) → Leaves call s t → P t → Brought call s
    leaves-bring call s t (inl e) h = found-brings call s (subst P e h)
    leaves-bring call s t (inr end) h = none-brings call s t end h
