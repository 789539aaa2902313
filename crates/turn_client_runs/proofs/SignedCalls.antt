-- Once the first challenge is answered, and until the allocation, all that is outstanding is a signed
-- ALLOCATE: calls keep that.
use Rattle.turn_client_laws.proofs.Common.{◌≡◌, ◌⊎◌, ◌≤◌, ◌∙◌, ℕ, true, false, cond, ◌&&◌, [], Option, None, inl, inr, refl, sym, subst, ap, arith, socket_ip, IpAddr}
use Rattle.turn_client_laws.proofs.Machine.{TransportType, Tcp, Transaction, State, Call, Delete, CreatePermission, BindChannel, TcpConnect, AllocatedTcpSocket, Recv, PollRecv, PollTransmit}
use Rattle.turn_client_laws.proofs.Machine.{RelayedAddresses, Permissions, HavePermission, Relay, Purpose, ForAllocation, Phase, New, Requesting, Authenticating, Allocated, Closed, is_allocated}
use Rattle.turn_client_laws.proofs.Machine.{is_control, find_allocation_to, same_transport, fresh_id, request_for, state_after, Has}
use Rattle.turn_client_laws.proofs.Laws.{AllocatesInOrder, FitsPhase, IsUngranted, AsksFor, IsMadeAs, IsRequestOf, IsSentAgain, rank, KeepsEdits, phase-edits, IsQuiet, quiet-walk, and-false}
use Rattle.turn_client_laws.proofs.Laws.{requests-made, call-keeps, poll_recv-kept, recv-kept, leaves-steadies, contains-has, has-contains, call-configured}
use Rattle.turn_client_runs.specs.Granted.{IsSignedAllocate}
use Rattle.turn_client_runs.proofs.SignedLemmas.{AreSigned, Signs, SignsIn, StaySigned, StaySigned-IsKept, further-signs, later-signs, same-signs}

-- ---- what a caller requests needs an allocation

unallocated : (p : Phase) → IsUngranted p → is_allocated p ≡ false
unallocated Allocated u = absurd u
unallocated Closed u = absurd u
unallocated p u = refl

no-allocation : (transport : TransportType) (ip : IpAddr) (s : State) → s.grants ≡ [] → find_allocation_to transport ip s ≡ None
no-allocation transport ip s e =
    rw e (elim (same_transport transport s.config.allocation_transport) as (λ b. cond {A = Option Relay} b None None ≡ None) [ true ↦ refl | false ↦ refl ])

-- so that before it nothing changes
abbrev IsIdle : Call → State → Type 0
IsIdle call s = IsUngranted s.phase → s.grants ≡ [] → state_after call s ≡ s

idle-signs : (call : Call) (s : State) → IsIdle call s → FitsPhase s → Signs s → Signs (state_after call s)
idle-signs call s idle steady h = by s.phase refl
  where
    t : State
    t = state_after call s

    same : IsUngranted s.phase → Signs t
    same u = same-signs s t (idle u (steady.3 u)) h

    by : (p : Phase) → s.phase ≡ p → Signs t
    by Allocated e = further-signs Allocated s t e (omega arith) (call-keeps call s)
    by Closed e = further-signs Closed s t e (omega arith) (call-keeps call s)
    by p e = same (rw e tt)

-- ---- all other calls answer no challenge

abbrev Awaits : State → State → Type 0
Awaits s t = t.phase ≡ Authenticating → s.phase ≡ Authenticating

Awaits-KeepsEdits : KeepsEdits Awaits
Awaits-KeepsEdits = phase-edits Awaits (record {
  rest = λ s t h. h;
  trans = λ s t u first second h. first (second h);
  sends = λ now s h. h;
  begins = λ now s new h. cc;
  ends = λ s h. cc;
})

-- what is outstanding was so before, under this ID and with these bytes
abbrev WasSent : State → Transaction → Type 0
WasSent s x = (was : Transaction) × Has was s.transactions × (x.id ≡ was.id) × (x.request ≡ was.request)

-- or the client requests it by itself
abbrev Asks : State → Transaction → Type 0
Asks s x = WasSent s x ⊎ (((s.phase ≡ New) × (x.id ≡ fresh_id s)) ⊎ (s.phase ≡ Allocated))

abbrev AsksSo : Call → State → Type 0
AsksSo call s = (x : Transaction) → IsRequestOf call s x → Asks s x

transmit-asks : (now : ℕ) (s : State) → AsksSo (PollTransmit now) s
transmit-asks now s x (inl (was, there, inl e)) =
    inl (was, contains-has was s.transactions there, ap (λ (y : Transaction). y.id) e, ap (λ (y : Transaction). y.request) e)
transmit-asks now s x (inl (was, there, inr (timed, e))) =
    inl (was, contains-has was s.transactions there, ap (λ (y : Transaction). y.id) e, ap (λ (y : Transaction). y.request) e)
transmit-asks now s x (inr (purpose, at, (same, inl (new, first)), (made, e))) = inr (inl (new, ap (λ (y : Transaction). y.id) e))
transmit-asks now s x (inr (purpose, at, (same, inr (allocated, due)), made)) = inr (inr allocated)

module _ (call : Call) (s : State) (quiet : IsQuiet call) (asks : AsksSo call s) (steady : FitsPhase s) (h : Signs s) where
  abbrev t : State
  t = state_after call s

  awaits : Awaits s t
  awaits = quiet-walk Awaits Awaits-KeepsEdits call s quiet

  source : (x : Transaction) → Has x t.transactions → Asks s x
  source x there = elim (requests-made call s t x (inl refl) (has-contains x t.transactions there)) [
    | inl old ↦ inl (x, contains-has x s.transactions old, refl, refl)
    | inr is ↦ asks x is
  ]

  in_phase : (p : Phase) → s.phase ≡ p → SignsIn p s.config s.held s.transactions
  in_phase p e = subst (λ (q : Phase). SignsIn q s.config s.held s.transactions) e h

  on : (p q : Phase) → s.phase ≡ p → t.phase ≡ q → rank p ≤ rank q
  on p q e f = subst (λ (r : Phase). rank p ≤ rank r) f (subst (λ (r : Phase). rank r ≤ rank t.phase) e (call-keeps call s).3.0)

  -- the first ALLOCATE
  begun : s.phase ≡ New → (x : Transaction) → Asks s x → x.id ≡ fresh_id s
  begun e x (inl (was, there, named, text)) = absurd (subst (Has was) (in_phase New e) there)
  begun e x (inr (inl (new, named))) = named
  begun e x (inr (inr allocated)) = let no : New ≡ Allocated = sym e ∙ allocated in cc

  -- and later what was
  sent : (p : Phase) → s.phase ≡ p → (p ≡ New → ⊥) → (p ≡ Allocated → ⊥) → (x : Transaction) → Asks s x → WasSent s x
  sent p e other further x (inl was) = was
  sent p e other further x (inr (inl (new, named))) = absurd (other (sym e ∙ new))
  sent p e other further x (inr (inr allocated)) = absurd (further (sym e ∙ allocated))

  signed : (x : Transaction) → AreSigned t.config t.held s.transactions → WasSent s x → IsSignedAllocate t.config t.held x
  signed x are (was, there, named, text) =
      let (u, configured, realm, spelled) = are was there in
      (u, configured, realm, text ∙ (spelled ∙ ap (request_for u ForAllocation) (sym named)))

  from-new : s.phase ≡ New → (q : Phase) → t.phase ≡ q → SignsIn q t.config t.held t.transactions
  from-new e New f = ((leaves-steadies call s t (inl refl) steady).0 f).2
  from-new e Requesting f = λ x y here there. begun e x (source x here) ∙ sym (begun e y (source y there))
  from-new e Authenticating f = let no : New ≡ Authenticating = sym e ∙ awaits f in cc
  from-new e q f = tt

  from-requesting : s.phase ≡ Requesting → (q : Phase) → t.phase ≡ q → SignsIn q t.config t.held t.transactions
  from-requesting e New f = let no : 1 ≤ 0 = on Requesting New e f in absurd (omega (arith, no))
  from-requesting e Requesting f = λ x y here there.
      let (a, among, named, text) = sent Requesting e (λ g. cc) (λ g. cc) x (source x here) in
      let (b, besides, called, other) = sent Requesting e (λ g. cc) (λ g. cc) y (source y there) in
      named ∙ (in_phase Requesting e a b among besides ∙ sym called)
  from-requesting e Authenticating f = let no : Requesting ≡ Authenticating = sym e ∙ awaits f in cc
  from-requesting e q f = tt

  quiet-signs : Signs t
  quiet-signs = by s.phase refl
    where
      by : (p : Phase) → s.phase ≡ p → Signs t
      by New e = from-new e t.phase refl
      by Requesting e = from-requesting e t.phase refl
      by Authenticating e =
          later-signs s t e h (call-keeps call s) (call-configured call s)
          (λ x there phase held are. signed x are (sent Authenticating e (λ g. cc) (λ g. cc) x (source x there)))
      by p e = further-signs p s t e (omega arith) (call-keeps call s)

-- ---- all calls

asks-nothing : (call : Call) (s : State) (x : Transaction) → (IsSentAgain call s x → ⊥) → ((purpose : Purpose) (at : ℕ) → AsksFor call s purpose at → ⊥) → IsSentAgain call s x
    ⊎ ((purpose : Purpose) × (at : ℕ) × AsksFor call s purpose at × IsMadeAs purpose at s (state_after call s) x) → Asks s x
asks-nothing call s x again never (inl is) = absurd (again is)
asks-nothing call s x again never (inr (purpose, at, asks, made)) = absurd (never purpose at asks)

pub call-signs : (call : Call) (s : State) → AllocatesInOrder s → FitsPhase s → Signs s → Signs (state_after call s)
call-signs (Recv packet now) s order steady h = (recv-kept StaySigned StaySigned-IsKept packet.transport packet.from packet.to packet.payload now s (order, h)).1
call-signs (PollRecv now) s order steady h = (poll_recv-kept StaySigned StaySigned-IsKept now s (order, h)).1
call-signs (Delete now) s order steady h = idle-signs (Delete now) s (λ u empty. rw (unallocated s.phase u, state_after) refl) steady h
call-signs (CreatePermission transport ip now) s order steady h =
    idle-signs (CreatePermission transport ip now) s (λ u empty. rw (no-allocation transport ip s empty, state_after) refl) steady h
call-signs (BindChannel transport peer now) s order steady h =
    idle-signs (BindChannel transport peer now) s (λ u empty. rw (no-allocation transport (socket_ip peer) s empty, state_after) refl) steady h
call-signs (TcpConnect peer now) s order steady h =
    idle-signs (TcpConnect peer now) s (λ u empty. rw (no-allocation Tcp (socket_ip peer) s empty, state_after) refl) steady h
call-signs (AllocatedTcpSocket id tuple peer local now) s order steady h =
    let none = and-false (same_transport s.config.allocation_transport Tcp && is_control tuple s) in
    idle-signs (AllocatedTcpSocket id tuple peer local now) s (λ u empty. rw (unallocated s.phase u, none, state_after) refl) steady h
call-signs (PollTransmit now) s order steady h = quiet-signs (PollTransmit now) s tt (transmit-asks now s) steady h
call-signs RelayedAddresses s order steady h = h
call-signs (Permissions transport relayed) s order steady h = h
call-signs (HavePermission transport to) s order steady h = h
call-signs call s order steady h = quiet-signs call s tt (λ x. asks-nothing call s x (λ no. no) (λ p at no. no)) steady h
