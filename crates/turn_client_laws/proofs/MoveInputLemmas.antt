-- What all calls request and remove, including those that process inputs.
use Rattle.turn_client_laws.proofs.Common.{◌≡◌, ◌⊎◌, ℕ, List, [], ◌∷◌, Option, Some, None, true, refl, sym, subst, ◌∙◌, inl, inr, Contains}
use Rattle.turn_client_laws.proofs.Machine.{Transmit, Transaction, State, Grant, Listing, ForBind, Stream, is_connection_from, is_permission_of, max_steps, closed, EndsWithoutMemory, Leaves}
use Rattle.turn_client_laws.proofs.Machine.{state_after, Call, Delete, CreatePermission, BindChannel, TcpConnect, AllocatedTcpSocket, TcpClosed, SendTo, Recv, PollRecv, Poll, PollTransmit, PollEvent}
use Rattle.turn_client_laws.proofs.Machine.{ProtocolError, SetPermissionKept, SetChannelKept, Has, has-filter, is_open_to}
use Rattle.turn_client_laws.specs.Handled.{Input, handled, processed}
use Rattle.turn_client_laws.specs.LawsHandled.{DiffersInStreams, ProcessesInputs, EndsAmidInputs, IsDoneBy, IsStreamEnd, TakesInput, InputsLead}
use Rattle.turn_client_laws.specs.LawsRequests.{IsListedByInput, IsListingOf, IsMadeByInput, IsRequestOf}
use Rattle.turn_client_laws.specs.LawsGone.{IsOverItself, IsStillThere, IsTakenBy, IsRemovedByInput}
use Rattle.turn_client_laws.proofs.MoveCallLemmas.{channel-does, connect-does, does-same, does-settled, permission-does, keep-does}
use Rattle.turn_client_laws.proofs.MoveLemmas.{IsOfBare, Moves, Remains, Settles, adds-filter, adds-same, loses-same, loses-wider, moves-same, remains-here, settles-moves, settles-same, settles-wider}
use Rattle.turn_client_laws.proofs.MoveMessageLemmas.{input-moves}
use Rattle.turn_client_laws.proofs.MovePollLemmas.{poll-does, transmit-does}
use Rattle.turn_client_laws.proofs.MoveReplyLemmas.{is_for-whole}
use Rattle.turn_client_laws.proofs.MoveSocketLemmas.{closed-does, delete-does, error-does, gone-settles, send-does, taken-does}
use Rattle.turn_client_laws.proofs.StandLemmas.{contains-has, has-contains}
use Rattle.turn_client_laws.proofs.MemoryLemmas.{memory-ends}
use Rattle.turn_client_laws.proofs.InputBringLemmas.{Among, among-done, front-done, later-among, leads-back}
use Rattle.turn_client_laws.proofs.InputChainLemmas.{calls-do, steps-lead}
use Rattle.turn_client_laws.proofs.InputEndLemmas.{calls-end}

-- ---- inputs in sequence

-- what held before the inputs holds after them, or one of them ended it
leads-on : (P : State → Type 0) (Did : Input → Type 0) → ((s t : State) → DiffersInStreams s t → P s → P t) → ((one : Input) → P one.before → P (processed one).1 ⊎ Did one)
    → (inputs : List Input) (s t : State) → InputsLead inputs s t → P s → P t ⊎ Among Did inputs
leads-on P Did alike step [] s t differs h = inl (alike s t differs h)
leads-on P Did alike step (one ∷ inputs) s t (differs, lead) h =
    by (step one (alike s one.before differs h)) (λ here. leads-on P Did alike step inputs (processed one).1 t lead here)
  where
    further : P t ⊎ Among Did inputs → P t ⊎ Among Did (one ∷ inputs)
    further (inl there) = inl there
    further (inr among) = inr (later-among Did one inputs among)

    by : P (processed one).1 ⊎ Did one → (P (processed one).1 → P t ⊎ Among Did inputs) → P t ⊎ Among Did (one ∷ inputs)
    by (inl here) more = further (more here)
    by (inr did) more = inr (one, inl refl, did)

-- ---- what an input removes, it removes whatever the progress of that

taken-whole : (one : Input) → IsOfBare (λ g. IsRemovedByInput g one)
taken-whole one g is same (inl (accepted, (p, answers, inl h))) = inl (accepted, (p, answers, inl (is_for-whole p g is same h)))
taken-whole one g is same (inl (accepted, (p, answers, inr back))) = inl (accepted, (p, answers, inr back))
taken-whole one g is same (inr over) = inr (by one.stream over)
  where
    by : (o : Option Stream) → IsOverItself o is → IsOverItself o g
    by None over = over
    by (Some stream) (mode, h) = (mode, is_for-whole (ForBind stream.local stream.local 0) g is same h)

-- ---- a call that processes inputs

module _ (inputs : List Input) (s t : State) (lead : InputsLead inputs s t) where
  lead-transactions : (x : Transaction) → Has x t.transactions → Has x s.transactions ⊎ Among (IsMadeByInput x) inputs
  lead-transactions x h =
      leads-back (λ u. Has x u.transactions) (IsMadeByInput x)
      (λ u v differs there. subst (λ (w : State). Has x w.transactions) differs.others there)
      (λ one there. (input-moves one).0 x there) inputs s t lead h

  lead-listed : (l : Listing) → Has l t.listed → Has l s.listed ⊎ Among (IsListedByInput l) inputs
  lead-listed l h =
      leads-back (λ u. Has l u.listed) (IsListedByInput l)
      (λ u v differs there. subst (λ (w : State). Has l w.listed) differs.others there)
      (λ one there. (input-moves one).1 l there) inputs s t lead h

  lead-grants : (g : Grant) → Has g s.grants → Remains g t.grants ⊎ Among (IsRemovedByInput g) inputs
  lead-grants g h =
      leads-on (λ u. Remains g u.grants) (IsRemovedByInput g)
      (λ u v differs there. subst (λ (w : State). Remains g w.grants) (sym differs.others) there)
      step inputs s t lead (remains-here g s.grants h)
    where
      step : (one : Input) → Remains g one.before.grants → Remains g (processed one).1.grants ⊎ IsRemovedByInput g one
      step one (is, there, same) =
          elim ((input-moves one).2 is there) [ inl (last, here, e) ↦ inl (last, here, same ∙ e) | inr taken ↦ inr (taken-whole one g is same taken) ]

-- ---- the law

-- a call leaves this
abbrev ObeysTo : Call → State → State → Type 0
ObeysTo call s t = Moves (IsRequestOf call s) (IsListingOf call s) (IsTakenBy call s) s t

abbrev pub Obeys : Call → State → Type 0
Obeys call s = ObeysTo call s (state_after call s)

-- what the inputs do, the call does
lead-obeys : (call : Call) (s t : State) (inputs : List Input) → InputsLead inputs s t → ((Did : Input → Type 0) → Among Did inputs → IsDoneBy Did call s)
    → Moves (λ x. IsDoneBy (IsMadeByInput x) call s) (λ l. IsDoneBy (IsListedByInput l) call s) (λ g. IsDoneBy (IsRemovedByInput g) call s) s t
lead-obeys call s t inputs lead done = (
  λ x h. by (IsMadeByInput x) (lead-transactions inputs s t lead x h),
  λ l h. by (IsListedByInput l) (lead-listed inputs s t lead l h),
  λ g h. by (IsRemovedByInput g) (lead-grants inputs s t lead g h),
)
  where
    by : {X : Type 0} (Did : Input → Type 0) → X ⊎ Among Did inputs → X ⊎ IsDoneBy Did call s
    by Did (inl x) = inl x
    by Did (inr among) = inr (done Did among)

-- the end of a stream removes its connection
end-settles : (call : Call) (s t : State) (end : IsStreamEnd call s t) → Settles (λ g. is_connection_from end.local g ≡ true) s t
end-settles call s t end = subst (λ u. Settles (λ g. is_connection_from end.local g ≡ true) s u) (sym end.gone) (gone-settles end.local s)

-- of the inputs of a packet, or as the stream ends
packet-obeys : (packet : Transmit (List ℕ)) (now : ℕ) (s t : State)
    → Moves (λ x. IsDoneBy (IsMadeByInput x) (Recv packet now) s) (λ l. IsDoneBy (IsListedByInput l) (Recv packet now) s)
    (λ g. IsDoneBy (IsRemovedByInput g) (Recv packet now) s) s t → ObeysTo (Recv packet now) s t
packet-obeys packet now s t (made, listed, lost) =
    (made, listed, loses-wider (λ g. IsDoneBy (IsRemovedByInput g) (Recv packet now) s) (IsTakenBy (Recv packet now) s) s.grants t.grants (λ g h. inl h) lost)

recv-obeys : (packet : Transmit (List ℕ)) (now : ℕ) (s : State) → Obeys (Recv packet now) s
recv-obeys packet now s = by (calls-do call s tt)
  where
    call : Call
    call = Recv packet now

    t : State
    t = state_after call s

    by : ProcessesInputs call s → Obeys call s
    by (inl lead) = packet-obeys packet now s t (lead-obeys call s t (handled call s) lead (λ Did. among-done Did call s))
    by (inr end) =
        settles-moves (IsRequestOf call s) (IsListingOf call s) (IsTakenBy call s) s t
        (settles-wider (λ g. is_connection_from end.local g ≡ true) (IsTakenBy call s) s t (λ g is. inr (end, is)) (end-settles call s t end))

pub all-obey : (call : Call) (s : State) → Obeys call s
all-obey (Delete now) s = delete-does now s
all-obey (CreatePermission transport ip now) s = permission-does transport ip now s
all-obey (BindChannel transport peer now) s = channel-does transport peer now s
all-obey (TcpConnect peer now) s = connect-does peer now s
all-obey (AllocatedTcpSocket id tuple peer local now) s = taken-does id tuple peer now s local
all-obey (TcpClosed local remote now) s = closed-does local remote now s
all-obey (SendTo transport peer bytes now) s = send-does transport peer bytes now s
all-obey (Recv packet now) s = recv-obeys packet now s
all-obey (PollRecv now) s =
    lead-obeys (PollRecv now) s _ (handled (PollRecv now) s) (steps-lead (max_steps s) now s) (λ Did. among-done Did (PollRecv now) s)
all-obey (Poll now) s = poll-does now s
all-obey (PollTransmit now) s = transmit-does now s
all-obey PollEvent s = does-settled PollEvent s (state_after PollEvent s) (settles-same (IsTakenBy PollEvent s) s)
all-obey ProtocolError s = error-does s
all-obey (SetPermissionKept transport peer is_kept) s = keep-does (SetPermissionKept transport peer is_kept) transport (is_permission_of peer) is_kept s
all-obey (SetChannelKept transport peer is_kept) s = keep-does (SetChannelKept transport peer is_kept) transport (is_open_to peer) is_kept s
all-obey call s = does-same call s

-- ---- allocation failure

end-obeys : (call : Call) (s t : State) → EndsAmidInputs call s t → Moves (λ x. IsDoneBy (IsMadeByInput x) call s) (λ l. IsDoneBy (IsListedByInput l) call s)
    (λ g. IsDoneBy (IsRemovedByInput g) call s) s t
end-obeys call s t end =
    let (made, listed, lost) = lead-obeys call s end.last end.front end.lead (λ Did. front-done Did call s end.front end.later end.all) in
    rw end.ended (made, λ l h. listed l (has-filter _ l end.last.listed h).0, lost)

amid-obeys : (call : Call) (s t : State) → TakesInput call → EndsAmidInputs call s t → ObeysTo call s t
amid-obeys (Recv packet now) s t takes end = packet-obeys packet now s t (end-obeys (Recv packet now) s t end)
amid-obeys (PollRecv now) s t takes end = end-obeys (PollRecv now) s t end
amid-obeys call s t takes end = absurd takes

none-obeys : (call : Call) (s t : State) → EndsWithoutMemory call s t → ObeysTo call s t
none-obeys call s t end = by (memory-ends call s t end)
  where
    by : (t ≡ s) ⊎ (t ≡ closed s) ⊎ (TakesInput call × EndsWithoutMemory call s t) → ObeysTo call s t
    by (inl e) = subst (ObeysTo call s) (sym e) (moves-same (IsRequestOf call s) (IsListingOf call s) (IsTakenBy call s) s)
    by (inr (inl e)) =
        subst (ObeysTo call s) (sym e)
        (adds-same (IsRequestOf call s) s.transactions, adds-filter (IsListingOf call s) _ s.listed, loses-same (IsTakenBy call s) s.grants)
    by (inr (inr (takes, end))) = amid-obeys call s t takes (calls-end call s t takes end)

-- even if memory allocation fails
leaves-obeys : (call : Call) (s t : State) → Leaves call s t → ObeysTo call s t
leaves-obeys call s t (inl e) = subst (ObeysTo call s) (sym e) (all-obey call s)
leaves-obeys call s t (inr end) = none-obeys call s t end

pub requests-made : (call : Call) (s t : State) (x : Transaction) → Leaves call s t → Contains t.transactions x → Contains s.transactions x ⊎ IsRequestOf call s x
requests-made call s t x leaves there = by ((leaves-obeys call s t leaves).0 x (contains-has x t.transactions there))
  where
    by : Has x s.transactions ⊎ IsRequestOf call s x → Contains s.transactions x ⊎ IsRequestOf call s x
    by (inl h) = inl (has-contains x s.transactions h)
    by (inr is) = inr is

pub listings-made : (call : Call) (s t : State) (l : Listing) → Leaves call s t → Contains t.listed l → Contains s.listed l ⊎ IsListingOf call s l
listings-made call s t l leaves there =
    elim ((leaves-obeys call s t leaves).1 l (contains-has l t.listed there)) [ inl h ↦ inl (has-contains l s.listed h) | inr is ↦ inr is ]

pub grants-taken : (call : Call) (s t : State) (g : Grant) → Leaves call s t → Contains s.grants g → IsStillThere t g ⊎ IsTakenBy call s g
grants-taken call s t g leaves there = by ((leaves-obeys call s t leaves).2 g (contains-has g s.grants there))
  where
    by : Remains g t.grants ⊎ IsTakenBy call s g → IsStillThere t g ⊎ IsTakenBy call s g
    by (inl (is, h, same)) = inl (is, has-contains is t.grants h, same)
    by (inr taken) = inr taken
