-- What messages keep, the inputs of a call keep, up to each of them.
use Rattle.turn_client_laws.proofs.Common.{List, [], ◌∷◌, inl, inr, sym, subst, Contains}
use Rattle.turn_client_laws.proofs.Machine.{State, state_after, Call, Recv, PollRecv, Has}
use Rattle.turn_client_laws.specs.Handled.{Input, handled, processed}
use Rattle.turn_client_laws.specs.LawsHandled.{ProcessesInputs, InputsLead}
use Rattle.turn_client_laws.proofs.RunKeepLemmas.{IsKept, differs-kept, input-kept}
use Rattle.turn_client_laws.proofs.StandLemmas.{contains-has}
use Rattle.turn_client_laws.proofs.InputChainLemmas.{calls-do}

module _ (R : State → State → Type 0) (k : IsKept R) where
  -- up to the input
  lead-kept : (inputs : List Input) (s t : State) → InputsLead inputs s t → (one : Input) → Has one inputs → R s one.before
  lead-kept [] s t lead one none = absurd none
  lead-kept (x ∷ later) s t (first, lead) one (inl e) = subst (λ (y : Input). R s y.before) (sym e) (differs-kept R k s x.before first)
  lead-kept (x ∷ later) s t (first, lead) one (inr there) =
      k.trans s x.before one.before (differs-kept R k s x.before first)
      (k.trans x.before (processed x).1 one.before (input-kept R k x) (lead-kept later (processed x).1 t lead one there))

  does-kept : (call : Call) (s : State) → ProcessesInputs call s → (one : Input) → Has one (handled call s) → R s one.before
  does-kept call s (inl lead) one there = lead-kept (handled call s) s (state_after call s) lead one there
  does-kept call s (inr end) one there = absurd (subst (Has one) end.nothing there)

  by-call : (call : Call) (s : State) (one : Input) → Has one (handled call s) → R s one.before
  by-call (Recv packet now) s one there = does-kept (Recv packet now) s (calls-do (Recv packet now) s tt) one there
  by-call (PollRecv now) s one there = does-kept (PollRecv now) s (calls-do (PollRecv now) s tt) one there
  by-call call s one none = absurd none

  -- the state in which one of the inputs of the call is processed
  pub before-kept : (call : Call) (s : State) (one : Input) → Contains (handled call s) one → R s one.before
  before-kept call s one there = by-call call s one (contains-has one (handled call s) there)
