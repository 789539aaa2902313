-- Which requests are outstanding after a call: those that were, and one with an ID that was used.
use Rattle.turn_client_laws.proofs.Common.{◌≡◌, ◌⊎◌, ℕ, true, List, refl, inl, inr, is_some, SocketAddr}
use Rattle.turn_client_laws.proofs.Machine.{is_outstanding, Transaction, State, fresh_id, connection_at, connection_gone, Leaves, state_after, Call, Recv, PollRecv, PollTransmit, Has}
use Rattle.turn_client_laws.specs.LawsReplies.{IsDrawn}
use Rattle.turn_client_laws.specs.LawsRequests.{IsMadeAgain, IsRequestOf}
use Rattle.turn_client_laws.specs.LawsHandled.{TakesInput}
use Rattle.turn_client_laws.specs.LawsInputs.{IsBroughtBy}
use Rattle.turn_client_laws.proofs.MoveLemmas.{Adds}
use Rattle.turn_client_laws.proofs.MoveMessageLemmas.{bind-moves, message-moves}
use Rattle.turn_client_laws.proofs.MoveInputLemmas.{all-obey}
use Rattle.turn_client_laws.proofs.NewIdMessageLemmas.{AsksNothing, IsOneOf, asks-cond, has-IsOneOf, outstanding-IsOneOf}
use Rattle.turn_client_laws.proofs.StandLemmas.{contains-has}
use Rattle.turn_client_laws.proofs.InputLemmas.{IsBringing, message-brings}

-- a call that processes no input makes its request under the next ID, or sends one again
request-IsOneOf : (call : Call) (s : State) → (TakesInput call → ⊥) → (x : Transaction) → IsRequestOf call s x → IsOneOf x.id s.transactions s
request-IsOneOf (Recv packet now) s other x is = absurd (other tt)
request-IsOneOf (PollRecv now) s other x is = absurd (other tt)
request-IsOneOf (PollTransmit now) s other x (inl (was, there, inl e)) = rw e (has-IsOneOf was s.transactions s (contains-has was s.transactions there))
request-IsOneOf (PollTransmit now) s other x (inl (was, there, inr (timed, e))) = rw e (has-IsOneOf was s.transactions s (contains-has was s.transactions there))
request-IsOneOf call s other x (inl none) = absurd none
request-IsOneOf call s other x (inr (purpose, at, asks, (made, e))) = inr (rw e refl)

again-IsOneOf : (message : List ℕ) (now : ℕ) (s t : State) (x : Transaction) → IsMadeAgain message now s t x → IsOneOf x.id s.transactions s
again-IsOneOf message now s t x (purpose, answers, (made, e)) = inr (rw e refl)

gone-asks : (local : SocketAddr) (s : State) → AsksNothing s (connection_gone local s)
gone-asks local s = asks-cond (is_some (connection_at local s)) s _ _ refl refl

module _ (id : ℕ) where
  -- it was outstanding, or is the ID of a request that was made
  drawn : (Made : Transaction → Type 0) (s : State) (later : List Transaction) → Adds Made s.transactions later
      → ((x : Transaction) → Made x → IsOneOf x.id s.transactions s)
      → is_outstanding id later ≡ true → IsOneOf id s.transactions s
  drawn Made s later adds made = outstanding-IsOneOf id later s.transactions s (λ x there. by x (adds x there))
    where
      by : (x : Transaction) → Has x s.transactions ⊎ Made x → IsOneOf x.id s.transactions s
      by x (inl old) = has-IsOneOf x s.transactions s old
      by x (inr new) = made x new

  pub draws-IsBringing : IsBringing (λ t. is_outstanding id t.transactions ≡ true) (λ message now t. id ≡ fresh_id t)
  draws-IsBringing = record {
    streams = λ s streams h. h;
    message = λ message now s is. drawn _ s _ (message-moves message now s).0 (again-IsOneOf message now s _);
    binds = λ local message now s is. drawn _ s _ (bind-moves local message now s).0 (again-IsOneOf message now s _);
    gone = λ local s h. rw (gone-asks local s) at h;
    ended = λ u there. there;
  }

  -- even if memory allocation fails
  pub leaves-draws : (call : Call) (s t : State) → Leaves call s t → is_outstanding id t.transactions ≡ true → IsDrawn call id s ⊎ (is_outstanding id s.transactions ≡ true)
  leaves-draws call s t leaves h =
      by (message-brings (λ t. is_outstanding id t.transactions ≡ true) (λ message now t. id ≡ fresh_id t) draws-IsBringing (λ call s. id ≡ fresh_id s)
      (λ call s other. drawn (IsRequestOf call s) s (state_after call s).transactions (all-obey call s).0 (request-IsOneOf call s other)) call s t leaves h)
    where
      by : (is_outstanding id s.transactions ≡ true) ⊎ (id ≡ fresh_id s) ⊎ IsBroughtBy (λ message now t. id ≡ fresh_id t) call s → IsDrawn call id s ⊎ (is_outstanding id s.transactions ≡ true)
      by (inl was) = inr was
      by (inr new) = inl new
