-- What is active after a run was granted in it.
use Rattle.turn_client_laws.proofs.Common.{◌≡◌, ◌⊎◌, ◌∙◌, ◌++◌, arith, ℕ, List, [], ◌∷◌, Ok, refl, subst, sym, ap, inl, inr, Contains, SocketAddr}
use Rattle.turn_client_laws.proofs.Machine.{id_of, TransportType, Udp, Tcp, Config, State, initial, Call, Delete, Grant, Allocation, Permission, Channel, Connect, Offer, Connection, Relay, Pending}
use Rattle.turn_client_laws.proofs.Machine.{Active, Reserved, Purpose, ForAllocation, ForBind, ForRefresh, ForPermission, ForChannel, delete_step, purposes_of, state_after, state_after_all, Has}
use Rattle.turn_client_laws.proofs.Laws.{Input, handled, AllocatesInOrder, HasChannelTo, IsActiveGrant, WasActive, IsDoneBy, GivesBack, HasDistinctNumbers, FitsPhase, HasGrantsAsked}
use Rattle.turn_client_laws.proofs.Laws.{initial-AllocatesInOrder, leaves-AllocatesInOrder, HasNoDoubles, initial-single, leaves-single, initial-numbers, leaves-apart, initial-HasGrantsAsked}
use Rattle.turn_client_laws.proofs.Laws.{leaves-HasGrantsAsked, initial-steady, leaves-steadies, contains-has, covers-has, covers-stood, has-contains}
use Rattle.turn_client_runs.specs.Granted.{GrantsAddress, HasReply, IsAllocated, IsAnsweredIn, IsDeletedBy, IsGivenIn, IsGranted, IsGranting, IsRelayed, HoldsThrough}
use Rattle.turn_client_runs.proofs.AddressInputs.{call-allocated}
use Rattle.turn_client_runs.proofs.AskedFamilies.{asks-family, inputs-signed}
use Rattle.turn_client_runs.proofs.AskedLemmas.{was-asked}
use Rattle.turn_client_runs.proofs.AskedPeers.{HasAskedConnections, HasAskedPeers, inputs-ask-connections, inputs-ask-peers}
use Rattle.turn_client_runs.proofs.CallGrants.{IsEndedBy, call-causes, delete-accepted, same-allocation}
use Rattle.turn_client_runs.proofs.ComingLemmas.{inputs-come}
use Rattle.turn_client_runs.proofs.GrantInputs.{Granting, IsConnectionTo, IsGivenAt}
use Rattle.turn_client_runs.proofs.ReceivedRuns.{HoldNothing, inputs-received}
use Rattle.turn_client_runs.proofs.RunLemmas.{IsDoneLast, run-did}
use Rattle.turn_client_runs.proofs.SignedCalls.{call-signs}
use Rattle.turn_client_runs.proofs.SignedLemmas.{Signs, for-allocation}

-- ---- one input

module _ (one : Input) where
  -- the channel has the peer that the request named
  abbrev Asked : Purpose → Type 0
  Asked p = (number : ℕ) (peer to : SocketAddr) → p ≡ ForChannel number peer → HasChannelTo number to one.before → to ≡ peer

  -- so has a data connection
  abbrev Joined : Purpose → Type 0
  Joined p = (local peer to : SocketAddr) (id : ℕ) → p ≡ ForBind local peer id → IsConnectionTo local to one → to ≡ peer

  given-in : (g : Grant) (p : Purpose) → IsActiveGrant g → Asked p → Joined p → IsGivenAt one p g → IsGivenIn one p g
  given-in (Allocation a) ForAllocation stands peers joins h = h
  given-in (Allocation a) (ForRefresh family lifetime) stands peers joins h = h
  given-in (Permission other (Active expiry)) (ForPermission ip) stands peers joins h = h
  given-in (Channel other to (Active expiry)) (ForChannel number peer) stands peers joins h = (h.0, peers number peer to refl (subst (λ (n : ℕ). HasChannelTo n to one.before) h.0 h.2), h.1)
  given-in (Connection c) (ForBind local peer id) stands peers joins h = (h.0, joins local peer c.peer id refl h.1, h.2)
  given-in (Connection c) p stands peers joins h = absurd h
  given-in (Permission other (Pending is_kept)) p stands peers joins h = absurd stands
  given-in (Permission other (Reserved until)) p stands peers joins h = absurd stands
  given-in (Channel other to (Pending is_kept)) p stands peers joins h = absurd stands
  given-in (Channel other to (Reserved until)) p stands peers joins h = absurd stands
  given-in (Connect to) p stands peers joins h = absurd stands
  given-in (Offer offer) p stands peers joins h = absurd stands
  given-in g p stands peers joins h = absurd h

  pub granting : (g : Grant) → IsActiveGrant g → HasAskedPeers one × HasAskedConnections one → AllocatesInOrder one.before × Signs one.before → (is : Granting g one) → IsGranting g is.purpose one
  granting g stands asked order is = record {
    over = is.over;
    whole = is.accepting.whole;
    success = is.accepting.success;
    signed = is.accepting.signed;
    listed = is.accepting.listed;
    outstanding = is.accepting.outstanding;
    ended = is.accepting.ended;
    asks = asks-family one order is.accepting.heard is.accepting.outstanding is.purpose is.accepting.listed;
    given = given-in g is.purpose stands peers joins is.given;
  }
    where
      peers : Asked is.purpose
      peers number peer to e = asked.0 number peer to (subst (λ (p : Purpose). Contains (purposes_of (id_of one.bytes) one.before) p) e is.accepting.listed)

      joins : Joined is.purpose
      joins local peer to id e (was, there, at, same) =
          sym same ∙ asked.1 local peer id was (subst (λ (p : Purpose). Contains (purposes_of (id_of one.bytes) one.before) p) e is.accepting.listed) there at

-- ---- one call

-- what every client keeps about channels, and about what an ALLOCATE requests and how
abbrev pub Keeps : State → Type 0
Keeps s = HasGrantsAsked s × HasDistinctNumbers s × HasNoDoubles s × AllocatesInOrder s × FitsPhase s × Signs s

pub call-keeps : (call : Call) (s : State) → Keeps s → Keeps (state_after call s)
call-keeps call s (asked, distinct, single, order, steady, signs) = (
  leaves-HasGrantsAsked call s (state_after call s) (inl refl) asked,
  leaves-apart call s (state_after call s) (inl refl) distinct,
  leaves-single call s (state_after call s) (inl refl) steady single,
  leaves-AllocatesInOrder call s (state_after call s) (inl refl) order,
  leaves-steadies call s (state_after call s) (inl refl) steady,
  call-signs call s order steady signs,
)

-- the requests have their peers when an input is processed
pub keeps-peers : (call : Call) (s : State) → Keeps s → (one : Input) → Contains (handled call s) one → HasAskedPeers one × HasAskedConnections one
keeps-peers call s (asked, distinct, single, order, steady, signs) one among = (
  inputs-ask-peers call s asked distinct one among,
  inputs-ask-connections call s asked steady single one among,
)

pub keeps-signed : (call : Call) (s : State) → Keeps s → (one : Input) → Contains (handled call s) one → AllocatesInOrder one.before × Signs one.before
keeps-signed call s (asked, distinct, single, order, steady, signs) one among = inputs-signed call s (order, signs) one among

-- an input of the call answered a request for a purpose, and did this for it
abbrev pub IsDoneFor : (Purpose → Input → Type 0) → Call → State → Type 0
IsDoneFor Did call s = (one : Input) × Contains (handled call s) one × ((p : Purpose) × Did p one)

granted-in : (g : Grant) (call : Call) (s : State) → IsActiveGrant g → Keeps s → IsDoneBy (Granting g) call s → IsDoneFor (IsGranting g) call s
granted-in g call s stands keeps (one, among, is) =
    (one, among, (is.purpose, granting one g stands (keeps-peers call s keeps one among) (keeps-signed call s keeps one among) is))

-- a `delete` that the client accepted
abbrev IsAcceptedEnd : Grant → Call → State → Type 0
IsAcceptedEnd g call s = IsEndedBy call s g × ((now : ℕ) → call ≡ Delete now → (delete_step now s).0 ≡ Ok tt)

-- why it is active after the call
abbrev Causes : Grant → Call → State → Type 0
Causes g call s = IsAcceptedEnd g call s ⊎ IsDoneFor (IsGranting g) call s

same-time : (n m : ℕ) → Delete n ≡ Delete m → n ≡ m
same-time n m e = cc

call-grants : (g : Grant) → IsActiveGrant g → (call : Call) (s : State) → Keeps s → WasActive (state_after call s) g → WasActive s g ⊎ Causes g call s
call-grants g stands call s keeps stood = elim (call-causes g call s stood) [
  | inl was ↦ inl was
  | inr (inl ended) ↦ let (a, now, what, how, ends, was) = ended in deleted now how ended (delete-accepted now s)
  | inr (inr done) ↦ inr (inr (granted-in g call s stands keeps done))
]
  where
    deleted : (now : ℕ) → call ≡ Delete now → IsEndedBy call s g → ((delete_step now s).0 ≡ Ok tt) ⊎ ((delete_step now s).1 ≡ s) → WasActive s g ⊎ Causes g call s
    deleted now how ended (inl accepted) = inr (inl (ended, λ other e. subst (λ (n : ℕ). (delete_step n s).0 ≡ Ok tt) (same-time now other (sym how ∙ e)) accepted))
    deleted now how ended (inr same) = inl (subst (λ (t : State). WasActive t g) (ap (λ (c : Call). state_after c s) how ∙ same) stood)

-- the address of an allocation
call-allocates : (relayed : SocketAddr) (call : Call) (s : State) → Keeps s → IsRelayed relayed (state_after call s) → IsRelayed relayed s ⊎ IsDoneFor (GrantsAddress relayed) call s
call-allocates relayed call s keeps (a, there, e) =
    elim (call-allocated relayed call s (a, contains-has (Allocation a) (state_after call s).grants there, e)) [
      | inl (b, here, same) ↦ inl (b, has-contains (Allocation b) s.grants here, same)
      | inr (one, among, is) ↦
          let ordered = keeps-signed call s keeps one among in
          let purpose = is.granting.purpose in
          let listed = contains-has purpose (purposes_of (id_of one.bytes) one.before) is.granting.accepting.listed in
          let allocates = for-allocation (id_of one.bytes) one.before purpose ordered.0 is.first listed in
          let granted = granting one (Allocation is.a) tt (keeps-peers call s keeps one among) ordered is.granting in
          inr (one, among, (purpose, (is.a, granted, is.address, allocates)))
    ]

-- ---- a run

-- what is in a list has a place in it
has-cut : {X : Type 0} (x : X) (xs : List X) → Has x xs → (front back : List X) × (xs ≡ front ++ x ∷ back)
has-cut x (y ∷ xs) (inl e) = ([], xs, rw e refl)
has-cut {X} x (y ∷ xs) (inr there) = let (front, back, e) = has-cut x xs there in (y ∷ front, back, ap (λ (l : List X). y ∷ l) e)
has-cut x [] none = absurd none

-- it answers a request for this, which deletes nothing
abbrev pub AnswersFor : (Purpose → Input → Type 0) → Type 0
AnswersFor Did = (p : Purpose) (one : Input) → Did p one → Contains (purposes_of (id_of one.bytes) one.before) p × (GivesBack p → ⊥)

-- what is granted is granted for a request that deletes nothing
no-return : (one : Input) (g : Grant) (p : Purpose) → IsGivenIn one p g → GivesBack p → ⊥
no-return one (Allocation a) (ForRefresh family lifetime) (least, same, reported) back = absurd (omega (arith, least, back))
no-return one g (ForRefresh family lifetime) given back = given
no-return one g p given back = back

pub granting-answers : (g : Grant) → AnswersFor (IsGranting g)
granting-answers g p one is = (is.listed, no-return one g p is.given)

address-answers : (relayed : SocketAddr) → AnswersFor (GrantsAddress relayed)
address-answers relayed p one (a, is, e, allocates) = granting-answers (Allocation a) p one is

module _ (first : State) (unlisted : first.listed ≡ []) (hold : HoldNothing first) (calls : List Call) where
  pub answered-in : (Did : Purpose → Input → Type 0) → AnswersFor Did → (P : State → Type 0) → IsDoneLast (IsDoneFor Did) P calls first → IsAnsweredIn Did P calls first
  answered-in Did answers P is =
      let (one, there, why) = is.did in
      let (p, did) = why in
      let here = contains-has one (handled is.call (state_after_all first is.earlier)) there in
      let (front, back, e) = has-cut one (handled is.call (state_after_all first is.earlier)) here in
      record {
        earlier = is.earlier;
        call = is.call;
        later = is.later;
        split = is.split;
        front = front;
        input = one;
        back = back;
        cut = e;
        comes = inputs-come is.call (state_after_all first is.earlier) one here;
        received = inputs-received is.earlier is.call first hold one here;
        purpose = p;
        did = did;
        asked = was-asked is.earlier is.call is.later first unlisted front one back e p (answers p one did).1 (answers p one did).0;
        holds = is.holds;
      }

module _ (first : State) (empty : first.grants ≡ []) (unlisted : first.listed ≡ []) (hold : HoldNothing first) (keeps : Keeps first) where
  nothing : (g : Grant) → Contains first.grants g → ⊥
  nothing g there = contains-has g [] (subst (λ (grants : List Grant). Contains grants g) empty there)

  run-allocates : (relayed : SocketAddr) (calls : List Call) → IsRelayed relayed (state_after_all first calls) → IsAllocated relayed calls first
  run-allocates relayed calls h =
      answered-in first unlisted hold calls (GrantsAddress relayed) (address-answers relayed) (IsRelayed relayed)
      (run-did (IsRelayed relayed) (IsDoneFor (GrantsAddress relayed)) Keeps call-keeps (call-allocates relayed) calls first keeps (λ is. nothing (Allocation is.0) is.1) h)

  run-caused : (g : Grant) → IsActiveGrant g → (calls : List Call) → WasActive (state_after_all first calls) g → IsDoneLast (Causes g) (λ s. WasActive s g) calls first
  run-caused g stands calls h = run-did (λ s. WasActive s g) (Causes g) Keeps call-keeps (call-grants g stands) calls first keeps (λ was. nothing was.0 was.1) h

  -- the last cause was an input, or a `delete`
  run-granting : (g : Grant) (calls : List Call) (is : IsDoneLast (Causes g) (λ s. WasActive s g) calls first) → IsDoneFor (IsGranting g) is.call (state_after_all first is.earlier)
      → IsGranted g calls first
  run-granting g calls is done =
      answered-in first unlisted hold calls (IsGranting g) (granting-answers g) (λ s. WasActive s g)
      (record { earlier = is.earlier; call = is.call; later = is.later; split = is.split; did = done; holds = is.holds })

  run-gave : (a : Relay) (calls : List Call) (is : IsDoneLast (Causes (Allocation a)) (λ s. WasActive s (Allocation a)) calls first)
      → IsAcceptedEnd (Allocation a) is.call (state_after_all first is.earlier) → IsDeletedBy a calls first
  run-gave a calls is ((b, now, what, how, ends, was), accepted) =
      let same : a ≡ b = same-allocation a b what in
      record {
        earlier = is.earlier;
        now = now;
        later = is.later;
        split = is.split ∙ ap (λ (c : Call). is.earlier ++ c ∷ is.later) how;
        accepted = accepted now how;
        ends = ap (λ (x : Relay). x.expiry) same ∙ ends;
        allocated = run-allocates a.relayed is.earlier (subst (λ (x : Relay). IsRelayed x.relayed (state_after_all first is.earlier)) (sym same) was);
        stands = subst (λ (c : Call). HoldsThrough (λ s. WasActive s (Allocation a)) is.later (state_after c (state_after_all first is.earlier))) how is.holds;
      }

  run-grants : (calls : List Call) (g : Grant) → IsActiveGrant g → Contains (state_after_all first calls).grants g → HasReply g calls first
  run-grants calls g stands there = by g there (run-caused g stands calls (covers-stood (state_after_all first calls) g
      (covers-has (state_after_all first calls).grants g (contains-has g (state_after_all first calls).grants there) stands)))
    where
      granted_by : (h : Grant) (is : IsDoneLast (Causes h) (λ s. WasActive s h) calls first) → ((a : Relay) → h ≡ Allocation a → ⊥) → IsGranted h calls first
      granted_by h is other = elim is.did [
        | inl (ended, accepted) ↦ absurd (other ended.0 ended.2)
        | inr done ↦ run-granting h calls is done
      ]

      by : (h : Grant) → Contains (state_after_all first calls).grants h → IsDoneLast (Causes h) (λ s. WasActive s h) calls first → HasReply h calls first
      by (Allocation a) there is = (
        elim is.did [ inl end ↦ inr (run-gave a calls is end) | inr done ↦ inl (run-granting (Allocation a) calls is done) ],
        run-allocates a.relayed calls (a, there, refl),
      )
      by h there is = granted_by h is (λ a e. cc)

pub first-hold : (transport : TransportType) (local remote : SocketAddr) (config : Config) (seed : List ℕ) → HoldNothing (initial transport local remote config seed)
first-hold Udp local remote config seed x absent = absurd absent
first-hold Tcp local remote config seed x (inl e) = rw e refl
first-hold Tcp local remote config seed x (inr absent) = absurd absent

pub first-keeps : (transport : TransportType) (local remote : SocketAddr) (config : Config) (seed : List ℕ) → Keeps (initial transport local remote config seed)
first-keeps transport local remote config seed = (
  initial-HasGrantsAsked transport local remote config seed,
  initial-numbers transport local remote config seed,
  initial-single transport local remote config seed,
  initial-AllocatesInOrder transport local remote config seed,
  initial-steady transport local remote config seed,
  refl,
)

pub grants-have-replies : (transport : TransportType) (local remote : SocketAddr) (config : Config) (seed : List ℕ) (calls : List Call) (g : Grant) → IsActiveGrant g
    → Contains (state_after_all (initial transport local remote config seed) calls).grants g → HasReply g calls (initial transport local remote config seed)
grants-have-replies transport local remote config seed =
    run-grants (initial transport local remote config seed) refl refl (first-hold transport local remote config seed) (first-keeps transport local remote config seed)
