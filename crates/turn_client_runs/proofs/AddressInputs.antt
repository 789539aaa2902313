-- Each relayed address is that of a success to an ALLOCATE.
use Rattle.turn_client_laws.proofs.Common.{◌≡◌, ◌⊎◌, ◌∙◌, ℕ, true, List, refl, subst, sym, ap, inl, inr, ⊤, is_some, SocketAddr}
use Rattle.turn_client_laws.proofs.Machine.{State, state_after, Call, Grant, Allocation, Relay, Phase, Allocated, bind_step, connection_at, is_message, message_step, Has}
use Rattle.turn_client_laws.proofs.Laws.{Input, IsDoneBy, IsOverControl, TakesInput, IsUngranted, by_test, bind-walk, message-walk, Covers, contains-has, IsBrought, leaves-bring}
use Rattle.turn_client_runs.proofs.AddressEdits.{AddressesWithin, HasAddress, KeepsAddresses, KeepsAddresses-KeepsAllEdits, filter-within}
use Rattle.turn_client_runs.proofs.CallGrants.{quiet-grants, same-allocation}
use Rattle.turn_client_runs.proofs.GrantInputs.{Granting, granting-brought, kept-alike}

-- the input granted an allocation with this address, to a client that had none
pub record Allocating (relayed : SocketAddr) (one : Input) : Type 0 where
  pub a : Relay
  pub granting : Granting (Allocation a) one
  pub address : a.relayed ≡ relayed
  pub first : IsUngranted one.before.phase

module _ (relayed : SocketAddr) where
  abbrev Has-it : State → Type 0
  Has-it s = HasAddress relayed s.grants

  covered : (a : Relay) (s : State) → a.relayed ≡ relayed → Covers s.grants (Allocation a) → Has-it s
  covered a s e (was, there, kept) = elim (kept-alike was (Allocation a) kept) [
    | inl (b, c, named, to, same, ends) ↦ (b, subst (λ (g : Grant). Has g s.grants) named there, same ∙ (ap (λ (x : Relay). x.relayed) (same-allocation c a (sym to)) ∙ e))
    | inr (inl is) ↦ (a, subst (λ (g : Grant). Has g s.grants) is there, e)
    | inr (inr leased) ↦ absurd leased.1
  ]

  message-allocates : (one : Input) → IsOverControl one → is_message one.bytes ≡ true → Has-it (message_step one.bytes one.time one.before).1 → Has-it one.before ⊎ Allocating relayed one
  message-allocates one over whole (a, there, e) = elim (message-walk ⊤ KeepsAddresses KeepsAddresses-KeepsAllEdits one.bytes one.time one.before (λ h. tt)).1 [
    | inr within ↦ inl (within relayed (a, there, e))
    | inl first ↦ elim ((granting-brought (Allocation a)).message one over whole (Allocation a, there, (refl, refl))) [
      | inl covers ↦ inl (covered a one.before e covers)
      | inr is ↦ inr (record { a = a; granting = is; address = e; first = first })
    ]
  ]

  bind-allocates : (local : SocketAddr) (message : List ℕ) (now : ℕ) (s : State) → Has-it (bind_step local message now s) → Has-it s
  bind-allocates local message now s h = by s.phase refl (bind-walk ⊤ KeepsAddresses KeepsAddresses-KeepsAllEdits (λ t streams. (λ u. u, inr (λ a there. there))) local message now s).1
    where
      by : (p : Phase) → s.phase ≡ p → IsUngranted s.phase ⊎ AddressesWithin s.grants (bind_step local message now s).grants → Has-it s
      by p e (inr within) = within relayed h
      by Allocated e (inl first) = absurd (subst IsUngranted e first)
      by p e (inl first) = let same : bind_step local message now s ≡ s = rw e refl in subst Has-it same h

  allocating-brought : IsBrought Has-it (Allocating relayed)
  allocating-brought = record {
    differs = λ s t differs h. subst (HasAddress relayed) (ap (λ (x : State). x.grants) differs.others) h;
    message = message-allocates;
    binds = λ one stream of waits whole h. inl (bind-allocates stream.local one.bytes one.time one.before h);
    gone = λ local s. by_test (λ (t : State). Has-it t → Has-it s) (is_some (connection_at local s)) _ s (λ e. filter-within _ s.grants relayed) (λ e h. h);
    ended = λ s h. h;
  }

  quiet-allocates : (call : Call) (s : State) → (TakesInput call → ⊥) → Has-it (state_after call s) → Has-it s ⊎ ⊥
  quiet-allocates call s other (a, there, e) = elim (quiet-grants (Allocation a) call s other (Allocation a, there, (refl, refl))) [
    | inl covers ↦ inl (covered a s e covers)
    | inr (b, now, what, how, ends, (was, before, same)) ↦
        inl (was, contains-has (Allocation was) s.grants before, same ∙ (ap (λ (x : Relay). x.relayed) (same-allocation b a (sym what)) ∙ e))
  ]

  pub call-allocated : (call : Call) (s : State) → HasAddress relayed (state_after call s).grants → HasAddress relayed s.grants ⊎ IsDoneBy (Allocating relayed) call s
  call-allocated call s h = elim (leaves-bring Has-it (Allocating relayed) allocating-brought (λ call s. ⊥) quiet-allocates call s (state_after call s) (inl refl) h) [
    | inl there ↦ inl there
    | inr (inl none) ↦ absurd none
    | inr (inr done) ↦ inr done
  ]
