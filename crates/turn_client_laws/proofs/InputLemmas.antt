-- What messages cause, a call causes by processing them.
use Rattle.turn_client_laws.proofs.Common.{◌≡◌, ◌⊎◌, ℕ, true, List, inl, inr, subst, SocketAddr}
use Rattle.turn_client_laws.proofs.Machine.{State, Stream, bind_step, closed, is_message, message_step, connection_gone, Leaves, state_after, Call}
use Rattle.turn_client_laws.specs.Handled.{Input}
use Rattle.turn_client_laws.specs.LawsHandled.{TakesInput}
use Rattle.turn_client_laws.specs.LawsInputs.{Deed, IsBroughtBy}
use Rattle.turn_client_laws.proofs.InputBringLemmas.{IsBrought, leaves-bring}

-- Of a claim on states and what a message does: streams do not count, and if the claim holds after a
-- message and did not before it, the message did it. The end of a connection, or of the client, causes
-- nothing.
pub record IsBringing (P : State → Type 0) (Did : Deed) : Type 0 where
  pub streams : (s : State) (streams : List Stream) → P (record s { streams = streams }) → P s
  pub message : (message : List ℕ) (now : ℕ) (s : State) → is_message message ≡ true → P (message_step message now s).1 → P s ⊎ Did message now s
  pub binds : (local : SocketAddr) (message : List ℕ) (now : ℕ) (s : State) → is_message message ≡ true → P (bind_step local message now s) → P s ⊎ Did message now s
  pub gone : (local : SocketAddr) (s : State) → P (connection_gone local s) → P s
  pub ended : (s : State) → P (closed s) → P s

module _ (P : State → Type 0) (Did : Deed) (k : IsBringing P Did) where
  -- the input is a whole message, which did it
  abbrev DidIn : Input → Type 0
  DidIn one = (is_message one.bytes ≡ true) × Did one.bytes one.time one.before

  whole-did : (one : Input) → is_message one.bytes ≡ true → P one.before ⊎ Did one.bytes one.time one.before → P one.before ⊎ DidIn one
  whole-did one whole (inl there) = inl there
  whole-did one whole (inr did) = inr (whole, did)

  pub brought : IsBrought P DidIn
  brought = record {
    differs = λ s t differs h. k.streams s t.streams (subst P differs.others h);
    message = λ one over whole h. whole-did one whole (k.message one.bytes one.time one.before whole h);
    binds = λ one stream of waits whole h. whole-did one whole (k.binds stream.local one.bytes one.time one.before whole h);
    gone = k.gone;
    ended = k.ended;
  }

  pub message-brings : (Other : Call → State → Type 0) → ((call : Call) (s : State) → (TakesInput call → ⊥) → P (state_after call s) → P s ⊎ Other call s)
      → (call : Call) (s t : State) → Leaves call s t → P t → P s ⊎ Other call s ⊎ IsBroughtBy Did call s
  message-brings Other others call s t leaves h = leaves-bring P DidIn brought Other others call s t leaves h
