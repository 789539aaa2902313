-- What is active after all calls: only a signed success grants more.
use Rattle.turn_client_laws.proofs.Common.{◌≡◌, ℕ, Bool, true, false, not, cond, List, filter, Some, None, Result, Ok, Err, refl, subst, sym, ap, ◌∙◌, inl, inr, ◌⊎◌, Contains, SocketAddr, cases_Bool}
use Rattle.turn_client_laws.proofs.Machine.{State, Grant, Allocation, Permission, Channel, Connect, Offer, Connection, DataConnection, Purpose, ForAllocation, Waiting, Pending, Stream}
use Rattle.turn_client_laws.proofs.Machine.{changed_allocation, bind_step, deadline_set, same_address, connection_gone, deleted, is_allocated, is_granted_in, is_message, message_step, state_after}
use Rattle.turn_client_laws.proofs.Machine.{Call, Delete, AllocatedTcpSocket, Recv, PollRecv, Has, has-filter, same_address-true}
use Rattle.turn_client_api.specs.declared.error.DeleteError.{DeleteError}
use Rattle.turn_client_api.specs.declared.error.DeleteError.TheVariants as No
use Rattle.turn_client_laws.specs.Handled.{Input}
use Rattle.turn_client_laws.specs.LawsHandled.{IsOverControl, TakesInput}
use Rattle.turn_client_laws.specs.LawsBound.{IsBindInput}
use Rattle.turn_client_laws.specs.LawsGranted.{HasCause, IsEndedNow, IsGivenFor, IsGrant, IsGrantInput, IsGrantedBy, IsGrantedIn, IsSameGrant, IsActiveGrant, WasActive}
use Rattle.turn_client_api.specs.Steps as S
use Rattle.turn_client_laws.proofs.StandLemmas.{Covers, Leaves, contains-has, covers-has, covers-left, covers-stood, has-contains, kept-stood, kept-trans, leaves-same}
use Rattle.turn_client_laws.proofs.GrantOriginLemmas.{has-mapped}
use Rattle.turn_client_laws.proofs.GrantOriginMessageLemmas.{message-brings}
use Rattle.turn_client_laws.proofs.GrantOriginCallLemmas.{Binds, BindsOrLeaves, Leaves-KeepsEdits, bind-leaves, gone-leaves}
use Rattle.turn_client_laws.proofs.EditsOfCalls.{quiet-walk, tcp_socket-walk}
use Rattle.turn_client_laws.proofs.BoundLemmas.{binds-input}
use Rattle.turn_client_laws.proofs.CaseLemmas.{found-local}
use Rattle.turn_client_laws.proofs.InputBringLemmas.{IsBrought, leaves-bring}

-- ---- all of them

-- what the caller deletes expires now
delete-ends : (now : ℕ) (s : State) (g : Grant) → Has g (state_after (Delete now) s).grants → IsActiveGrant g → WasActive s g ⊎ IsEndedNow (Delete now) s g
delete-ends now s g = by (is_allocated s.phase)
  where
    all : Grant → Grant
    all = changed_allocation (λ a. true) (λ a. record a { expiry = now; is_expired = true })

    at : (x : Grant) → Has x s.grants → IsActiveGrant (all x) → WasActive s (all x) ⊎ IsEndedNow (Delete now) s (all x)
    at (Allocation a) there stands = inr (refl, (a, has-contains (Allocation a) s.grants there, refl))
    at (Connect peer) there stands = absurd stands
    at (Offer offer) there stands = absurd stands
    at x there stands = inl (covers-stood s x (covers-has s.grants x there stands))

    by : (b : Bool) → Has g (cond {A = Result Unit DeleteError × State} b (Ok tt, deleted now s) (Err No.NoAllocation, s)).1.grants → IsActiveGrant g → WasActive s g ⊎ IsEndedNow (Delete now) s g
    by false there stands = inl (covers-stood s g (covers-has s.grants g there stands))
    by true there stands =
        let (x, before, e) = has-mapped all g (filter (λ g. not (is_granted_in g)) s.grants) there in
        subst (λ (h : Grant). WasActive s h ⊎ IsEndedNow (Delete now) s h) (sym e) (at x (has-filter (λ g. not (is_granted_in g)) x s.grants before).0 (subst IsActiveGrant e stands))

-- ---- what the inputs of a call grant

-- an allocation, a permission or a channel is granted over the control connection
control-grants : (g : Grant) (one : Input) → IsOverControl one → is_message one.bytes ≡ true → Covers (message_step one.bytes one.time one.before).1.grants g → Covers one.before.grants g
    ⊎ IsGrantedIn g one
control-grants g one over whole covers = by g (message-brings g one.bytes one.time one.before covers)
  where
    Grants : Grant → Type 0
    Grants g = IsGrant g one.bytes one.time one.before

    of_input : (g : Grant) → Grants g → IsGrantInput g one
    of_input g grant = record { over = over; whole = whole; grant = grant }

    -- a connection is not
    connection : (c : DataConnection) (was : Grant) → IsGrantedBy one.bytes one.time one.before was → IsSameGrant was (Connection c) → ⊥
    connection c (Connection d) is kept = unlike is.purpose is.given
      where
        unlike : (p : Purpose) → IsGivenFor p one.bytes one.time one.before (Connection d) → ⊥
        unlike ForAllocation given = given
        unlike p given = given
    connection c (Permission ip (Pending is_kept)) is kept = kept
    connection c (Channel number peer (Pending is_kept)) is kept = kept
    connection c was is kept = kept

    by : (g : Grant) → Covers one.before.grants g ⊎ Grants g → Covers one.before.grants g ⊎ IsGrantedIn g one
    by g (inl there) = inl there
    by (Connection c) (inr (was, is, kept)) = absurd (connection c was is kept)
    by g (inr grant) = inr (of_input g grant)

-- a grant that a map leaves existed before, or is a connection at this local address
pub deadline-has : (local : SocketAddr) (g x : Grant) → g ≡ deadline_set local None x → (g ≡ x) ⊎ ((c : DataConnection) × (g ≡ Connection c) × (c.local ≡ local))
deadline-has local g (Connection c) e = elim (cases_Bool (same_address c.local local)) [
  | inl f ↦ inr (record c { deadline = None }, e ∙ rw f refl, same_address-true c.local local f)
  | inr f ↦ inl (e ∙ rw f refl)
]
deadline-has local g x e = inl e

bind-covers : (one : Input) (stream : Stream) (g : Grant) (t : State) → one.stream ≡ Some stream → stream.mode ≡ Waiting → is_message one.bytes ≡ true → Binds stream.local one.bytes one.before t
    → Covers t.grants g → Covers one.before.grants g ⊎ IsGrantedIn g one
bind-covers one stream g t of waits whole b (is, there, kept) = by (has-mapped (deadline_set b.c.local None) is one.before.grants (subst (Has is) b.grants there))
  where
    bound : (c : DataConnection) (h : Grant) → c.local ≡ b.c.local → IsSameGrant (Connection c) h → IsGrantedIn h one
    bound c (Connection d) at (same, none) =
        let ends : stream.local ≡ d.local = sym (found-local stream.local b.c _ b.found) ∙ (sym at ∙ ap (λ (x : DataConnection). x.local) same) in
        (b.c.peer, subst (λ (local : SocketAddr). IsBindInput local b.c.peer one) ends (binds-input one stream t of waits whole b))
    bound c h at k = absurd k

    by : (x : Grant) × Has x one.before.grants × (is ≡ deadline_set b.c.local None x) → Covers one.before.grants g ⊎ IsGrantedIn g one
    by (x, before, e) = elim (deadline-has b.c.local is x e) [
      | inl same ↦ inl (is, rw same before, kept)
      | inr (c, connection, ends) ↦ inr (bound c g ends (rw connection at kept))
    ]

-- for each grant: it was active, or an input granted it
pub bringing : (g : Grant) → IsBrought (λ s. Covers s.grants g) (IsGrantedIn g)
bringing g = record {
  differs = λ s t differs covers. subst (λ (x : List Grant). Covers x g) (ap (λ (x : State). x.grants) differs.others) covers;
  message = control-grants g;
  binds = λ one stream of waits whole. binds one stream of waits whole (bind-leaves stream.local one.bytes one.time one.before);
  gone = λ local s. covers-left s.grants (connection_gone local s).grants g (gone-leaves local s);
  ended = λ s covers. covers;
}
  where
    binds : (one : Input) (stream : Stream) → one.stream ≡ Some stream → stream.mode ≡ Waiting → is_message one.bytes ≡ true
        → BindsOrLeaves stream.local one.bytes one.before (bind_step stream.local one.bytes one.time one.before)
        → Covers (bind_step stream.local one.bytes one.time one.before).grants g → Covers one.before.grants g ⊎ IsGrantedIn g one
    binds one stream of waits whole (inl b) covers = bind-covers one stream g _ of waits whole b covers
    binds one stream of waits whole (inr (leaves, same)) covers = inl (covers-left one.before.grants _ g leaves covers)

module _ (s : State) (g : Grant) where
  abbrev Before : Call → Type 0
  Before call = Covers s.grants g ⊎ IsEndedNow call s g

  -- what grants nothing
  left : (call : Call) → Leaves s (state_after call s) → Covers (state_after call s).grants g → Before call
  left call leaves covers = inl (covers-left s.grants (state_after call s).grants g leaves covers)

  -- what is deleted now existed before
  deleted-covers : (now : ℕ) → Covers (state_after (Delete now) s).grants g → Before (Delete now)
  deleted-covers now (is, there, kept) = by (delete-ends now s is there (kept-stood is g kept))
    where
      ended : (h i : Grant) → IsEndedNow (Delete now) s h → IsSameGrant h i → IsEndedNow (Delete now) s i
      ended (Allocation a) (Allocation b) (e, (was, before, same)) (f, d) = (sym d ∙ e, (was, before, same ∙ f))
      ended (Allocation a) i e k = absurd k
      ended h i e k = absurd e

      by : WasActive s is ⊎ IsEndedNow (Delete now) s is → Before (Delete now)
      by (inl (was, before, k)) = inl (was, contains-has was s.grants before, kept-trans was is g k kept)
      by (inr e) = inr (ended is g e kept)

  call-grants : (call : Call) → (TakesInput call → ⊥) → Covers (state_after call s).grants g → Before call
  call-grants (Recv packet now) other covers = absurd (other tt)
  call-grants (PollRecv now) other covers = absurd (other tt)
  call-grants (Delete now) other covers = deleted-covers now covers
  call-grants (AllocatedTcpSocket id tuple peer local now) other covers =
      left (AllocatedTcpSocket id tuple peer local now) (tcp_socket-walk Leaves Leaves-KeepsEdits (λ s streams. leaves-same s) id tuple peer local now s) covers
  call-grants call other covers = left call (quiet-walk Leaves Leaves-KeepsEdits call s tt) covers

pub leaves-grants : (call : Call) (s t : State) (g : Grant) → S.Leaves call s t → Contains t.grants g → IsActiveGrant g → HasCause call s g
leaves-grants call s t g leaves there stands =
    elim (leaves-bring (λ u. Covers u.grants g) (IsGrantedIn g) (bringing g) (λ call s. IsEndedNow call s g) (λ call s. call-grants s g call) call s t leaves
    (covers-has t.grants g (contains-has g t.grants there) stands)) [
      | inl covers ↦ inl (covers-stood s g covers)
      | inr other ↦ inr other
    ]
