-- A request is listed for two purposes at most.
use Rattle.turn_client_laws.proofs.Common.{◌≡◌, ◌⊎◌, ℕ, Bool, true, false, not, eqb, List, filter, Option, Some, inl, inr, refl, sym, subst, ◌∙◌, arith, flat_map, slice_get, Contains, list_any}
use Rattle.turn_client_laws.proofs.Common.{socket_ip, eq-eqb, eqb-true, or_parts, SocketAddr}
use Rattle.turn_client_laws.proofs.Machine.{id_of, TransportType, AddressFamily, IPV4, IPV6, is_outstanding, Config, State, initial, Phase, New, Allocated, Purpose, ForAllocation, ForRefresh}
use Rattle.turn_client_laws.proofs.Machine.{ForPermission, ForChannel, ForConnect, ForBind, Listing, allocations, is_for_allocation, is_of_request, purposes_of, fresh_id, closed, free_number}
use Rattle.turn_client_laws.proofs.Machine.{refreshes_in, connection_gone, Leaves, state_after, Call, Delete, CreatePermission, BindChannel, TcpConnect, AllocatedTcpSocket, Recv, PollRecv}
use Rattle.turn_client_laws.proofs.Machine.{PollTransmit, Has, filter-has, has-filter, map-has}
use Rattle.std.specs.Prelude.{unwrap_or}
use Rattle.turn_client_laws.specs.LawsPurposes.{HasTwoPurposes}
use Rattle.turn_client_laws.specs.LawsRequests.{AsksFor, IsListedAgain, IsListedAs, IsListedFor}
use Rattle.turn_client_laws.proofs.Edits.{listing}
use Rattle.turn_client_laws.proofs.InAllocationLemmas.{has-any}
use Rattle.turn_client_laws.proofs.MemoryLemmas.{leaves-kept}
use Rattle.turn_client_laws.proofs.MoveLemmas.{Adds}
use Rattle.turn_client_laws.proofs.RunKeepLemmas.{IsKept, poll_recv-kept, recv-kept}
use Rattle.turn_client_laws.proofs.GrantOriginLemmas.{has-mapped}
use Rattle.turn_client_laws.proofs.MoveMessageLemmas.{bind-moves, message-moves}
use Rattle.turn_client_laws.proofs.MoveSocketLemmas.{gone-settles}
use Rattle.turn_client_laws.proofs.MoveInputLemmas.{listings-made}
use Rattle.turn_client_laws.proofs.NewIdLemmas.{fresh-free}
use Rattle.turn_client_laws.proofs.StandLemmas.{contains-has, has-contains}

-- ---- what is listed under an ID

-- all that is listed under the ID is among two purposes
abbrev AmongTwo : ℕ → List Listing → Type 0
AmongTwo id ls = (one other : Purpose) × ((p : Purpose) → Has (listing id p) ls → (p ≡ one) ⊎ (p ≡ other))

abbrev AllAmongTwo : State → Type 0
AllAmongTwo s = (id : ℕ) → AmongTwo id s.listed

abbrev StayTwo : State → State → Type 0
StayTwo s t = AllAmongTwo s → AllAmongTwo t

with-purpose : (id : ℕ) (p : Purpose) (s : State) → Has (listing id p) s.listed → Has p (purposes_of id s)
with-purpose id p s there = map-has (λ (l : Listing). l.purpose) (listing id p) (filter (λ (l : Listing). eqb l.id id) s.listed)
    (filter-has (λ (l : Listing). eqb l.id id) (listing id p) s.listed there (eq-eqb id id refl))

is-listing : (l : Listing) (id : ℕ) (p : Purpose) → p ≡ l.purpose → l.id ≡ id → l ≡ listing id p
is-listing l id p e f = rw (e, sym f) refl

pub purpose-with : (id : ℕ) (p : Purpose) (s : State) → Has p (purposes_of id s) → Has (listing id p) s.listed
purpose-with id p s there =
    let (l, kept, e) = has-mapped (λ (l : Listing). l.purpose) p (filter (λ (l : Listing). eqb l.id id) s.listed) there in
    let (here, is) = has-filter (λ (l : Listing). eqb l.id id) l s.listed kept in
    subst (λ (x : Listing). Has x s.listed) (is-listing l id p e (eqb-true l.id id is)) here

two-stated : (s : State) → AllAmongTwo s → HasTwoPurposes s
two-stated s h id = let (one, other, all) = h id in (one, other, λ p there. all p (purpose-with id p s (contains-has p (purposes_of id s) there)))

stated-two : (s : State) → HasTwoPurposes s → AllAmongTwo s
stated-two s h id = let (one, other, all) = h id in (one, other, λ p there. all p (has-contains p (purposes_of id s) (with-purpose id p s there)))

-- ---- one request more

-- the next ID is listed for nothing
fresh-unlisted : (s : State) → (p : Purpose) → Has (listing (fresh_id s) p) s.listed → ⊥
fresh-unlisted s p there =
    let free = or_parts (is_outstanding (fresh_id s) s.transactions) _ (fresh-free s) in
    let none : list_any (λ (l : Listing). eqb l.id (fresh_id s)) s.listed ≡ false =
    (or_parts (list_any (λ (l : Listing). eqb l.id (fresh_id s)) s.listed) (list_any (is_of_request (fresh_id s)) s.grants) free.1).0 in
    let some = has-any (λ (l : Listing). eqb l.id (fresh_id s)) (listing (fresh_id s) p) s.listed there (eq-eqb (fresh_id s) (fresh_id s) refl) in
    let no : true ≡ false = sym some ∙ none in
    cc

-- what is added is listed under the next ID, for two purposes at most
two-more : (Came : Purpose → Type 0) (s t : State) → ((one other : Purpose) × ((p : Purpose) → Came p → (p ≡ one) ⊎ (p ≡ other)))
    → ((l : Listing) → Has l t.listed → Has l s.listed ⊎ ((l.id ≡ fresh_id s) × Came l.purpose)) → AllAmongTwo s → AllAmongTwo t
two-more Came s t new came h id = by (eqb id (fresh_id s)) refl
  where
    by : (b : Bool) → eqb id (fresh_id s) ≡ b → AmongTwo id t.listed
    by true e = let (one, other, all) = new in (one, other, λ p there. of one other all p (came (listing id p) there))
      where
        of : (one other : Purpose) → ((p : Purpose) → Came p → (p ≡ one) ⊎ (p ≡ other)) → (p : Purpose) → Has (listing id p) s.listed ⊎ ((id ≡ fresh_id s) × Came p) → (p ≡ one) ⊎ (p ≡ other)
        of one other all p (inl old) = absurd (fresh-unlisted s p (subst (λ (n : ℕ). Has (listing n p) s.listed) (eqb-true id (fresh_id s) e) old))
        of one other all p (inr (is, made)) = all p made
    by false e = let (one, other, all) = h id in (one, other, λ p there. of one other all p (came (listing id p) there))
      where
        of : (one other : Purpose) → ((p : Purpose) → Has (listing id p) s.listed → (p ≡ one) ⊎ (p ≡ other)) → (p : Purpose) → Has (listing id p) s.listed ⊎ ((id ≡ fresh_id s) × Came p) → (p ≡ one)
            ⊎ (p ≡ other)
        of one other all p (inl old) = all p old
        of one other all p (inr (is, made)) = let no : false ≡ true = sym e ∙ eq-eqb id (fresh_id s) is in cc

-- no more is added
two-less : (s t : State) → ((l : Listing) → Has l t.listed → Has l s.listed) → AllAmongTwo s → AllAmongTwo t
two-less s t less h id = let (one, other, all) = h id in (one, other, λ p there. all p (less (listing id p) there))

-- ---- what a call requests

-- what is listed with it, too
partner : Purpose → Purpose
partner (ForChannel number peer) = ForPermission (socket_ip peer)
partner p = p

with-partner : (q p : Purpose) → IsListedFor q p → (p ≡ q) ⊎ (p ≡ partner q)
unfolding partner
with-partner q p listed = grind arith

refresh-either : (family : AddressFamily) (p : Purpose) → IsListedFor (ForRefresh family 0) p → (p ≡ ForRefresh IPV4 0) ⊎ (p ≡ ForRefresh IPV6 0)
refresh-either family p listed = grind arith

-- the call lists a request of its own for this
abbrev Lists : Call → State → Purpose → Type 0
Lists call s p = (purpose : Purpose) × (at : ℕ) × AsksFor call s purpose at × IsListedFor purpose p

abbrev OfTwo : (Purpose → Type 0) → Type 0
OfTwo Came = (one other : Purpose) × ((p : Purpose) → Came p → (p ≡ one) ⊎ (p ≡ other))

-- with its partner, if the call asks for one purpose
one-two : (call : Call) (s : State) (q : Purpose) → ((purpose : Purpose) (at : ℕ) → AsksFor call s purpose at → purpose ≡ q) → OfTwo (Lists call s)
one-two call s q asks = (q, partner q, λ p l. with-partner q p (subst (λ (x : Purpose). IsListedFor x p) (asks l.0 l.1 l.2) l.3))

-- what is sent next for a purpose: the first ALLOCATE, or a refresh
next-purpose : Phase → Option Purpose → Purpose
next-purpose Allocated (Some p) = p
next-purpose phase wanted = ForAllocation

next-first : (phase : Phase) (wanted : Option Purpose) → phase ≡ New → ForAllocation ≡ next-purpose phase wanted
unfolding next-purpose
next-first phase wanted e = rw e refl

next-refresh : (phase : Phase) (wanted : Option Purpose) (p : Purpose) → phase ≡ Allocated → wanted ≡ Some p → p ≡ next-purpose phase wanted
unfolding next-purpose
next-refresh phase wanted p e f = rw (e, f) refl

lists-two : (call : Call) (s : State) → OfTwo (Lists call s)
lists-two (Delete now) s = (ForRefresh IPV4 0, ForRefresh IPV6 0, λ p l. refresh-either l.2.1.0 p (subst (λ (x : Purpose). IsListedFor x p) l.2.1.1 l.3))
lists-two (CreatePermission transport ip now) s = one-two (CreatePermission transport ip now) s (ForPermission ip) (λ purpose at asks. asks.1)
lists-two (BindChannel transport peer now) s =
    one-two (BindChannel transport peer now) s (ForChannel (unwrap_or (free_number s) 0) peer) (λ purpose at asks. asks.1.2 ∙ rw asks.1.1 refl)
lists-two (TcpConnect peer now) s = one-two (TcpConnect peer now) s (ForConnect peer) (λ purpose at asks. asks.1)
lists-two (AllocatedTcpSocket id tuple peer (Some local) now) s =
    one-two (AllocatedTcpSocket id tuple peer (Some local) now) s (ForBind local peer id) (λ purpose at asks. asks.1)
lists-two (PollTransmit now) s = one-two (PollTransmit now) s (next-purpose s.phase wanted) by
  where
    wanted : Option Purpose
    wanted = slice_get (flat_map (refreshes_in now s) (allocations s)) 0

    by : (purpose : Purpose) (at : ℕ) → AsksFor (PollTransmit now) s purpose at → purpose ≡ next-purpose s.phase wanted
    by purpose at (is, inl (first, asks)) = asks ∙ next-first s.phase wanted first
    by purpose at (is, inr (there, asks)) = next-refresh s.phase wanted purpose there asks
lists-two call s = (ForAllocation, ForAllocation, λ p l. absurd l.2)

-- ---- calls that process no input

-- what holds for each listing that is added
abbrev pub IsListingHere : Call → State → Listing → Type 0
IsListingHere call s l =
    (purpose : Purpose) × (at : ℕ) × AsksFor call s purpose at × IsListedFor purpose l.purpose × IsListedAs purpose at s (state_after call s) l

quiet-two : (call : Call) (s : State) → ((l : Listing) → Contains (state_after call s).listed l → Contains s.listed l ⊎ IsListingHere call s l)
    → StayTwo s (state_after call s)
quiet-two call s came =
    two-more (Lists call s) s (state_after call s) (lists-two call s) (λ l there. by l (came l (has-contains l (state_after call s).listed there)))
  where
    by : (l : Listing) → Contains s.listed l ⊎ IsListingHere call s l → Has l s.listed ⊎ ((l.id ≡ fresh_id s) × Lists call s l.purpose)
    by l (inl old) = inl (contains-has l s.listed old)
    by l (inr (purpose, at, asks, for, (made, is))) = inr (is, (purpose, at, asks, for))

-- ---- messages

-- a request is made again for what it was made for
again-two : (message : List ℕ) (now : ℕ) (s t : State) → Adds (IsListedAgain message now s t) s.listed t.listed → StayTwo s t
again-two message now s t adds h = two-more (λ p. Has (listing (id_of message) p) s.listed) s t (h (id_of message)) (λ l there. by l (adds l there)) h
  where
    by : (l : Listing) → Has l s.listed ⊎ IsListedAgain message now s t l
        → Has l s.listed ⊎ ((l.id ≡ fresh_id s) × Has (listing (id_of message) l.purpose) s.listed)
    by l (inl old) = inl old
    by l (inr (purpose, asked, answers, (made, is))) =
        inr (is, purpose-with (id_of message) l.purpose s (contains-has l.purpose (purposes_of (id_of message) s) answers))

StayTwo-IsKept : IsKept StayTwo
StayTwo-IsKept = record {
  same = λ s h. h;
  trans = λ s t u first later h. later (first h);
  streams = λ s streams h. h;
  message = λ message now s. again-two message now s _ (message-moves message now s).1;
  binds = λ local message now s. again-two message now s _ (bind-moves local message now s).1;
  gone = λ local s. two-less s (connection_gone local s) (λ l there. elim ((gone-settles local s).1 l there) [ inl old ↦ old | inr none ↦ absurd none ]);
}

-- ---- all calls

call-two : (call : Call) (s : State) → StayTwo s (state_after call s)
call-two (Recv packet now) s = recv-kept StayTwo StayTwo-IsKept packet.transport packet.from packet.to packet.payload now s
call-two (PollRecv now) s = poll_recv-kept StayTwo StayTwo-IsKept now s
call-two call s = quiet-two call s (λ l. listings-made call s (state_after call s) l (inl refl))

closed-two : (s : State) → StayTwo s (closed s)
closed-two s = two-less s (closed s) (λ l there. (has-filter (λ (l : Listing). not (is_for_allocation l.purpose)) l s.listed there).0)

pub initial-HasTwoPurposes : (transport : TransportType) (local remote : SocketAddr) (config : Config) (seed : List ℕ) → HasTwoPurposes (initial transport local remote config seed)
initial-HasTwoPurposes transport local remote config seed = two-stated (initial transport local remote config seed) (λ id. (ForAllocation, ForAllocation, λ p none. absurd none))

pub leaves-two : (call : Call) (s t : State) → Leaves call s t → HasTwoPurposes s → HasTwoPurposes t
leaves-two call s t leaves h = two-stated t (leaves-kept StayTwo StayTwo-IsKept closed-two call-two call s t leaves (stated-two s h))
