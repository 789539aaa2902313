-- Once the server has allocated, no edit gives an allocation another relayed address, or adds one.
use Rattle.turn_client_laws.proofs.Common.{◌≡◌, ◌⊎◌, ◌∙◌, Bool, true, not, List, [], ◌∷◌, ◌++◌, map, filter, refl, subst, sym, ap, inl, inr, SocketAddr}
use Rattle.turn_client_laws.proofs.Machine.{State, Grant, Allocation, Relay, is_offer_of, offer_taken, without_first, OwnConnect, with_offer, is_channel_of, is_connect_to, is_of, is_permission_of}
use Rattle.turn_client_laws.proofs.Machine.{without_grants, Has, has-append, has-filter}
use Rattle.turn_client_laws.proofs.Laws.{IsUngranted, KeepsAllEdits, KeepsEdits, aged-outlines, outline, was-first, granted-with, ungranted-after}

-- one of these allocations has this address
abbrev pub HasAddress : SocketAddr → List Grant → Type 0
HasAddress relayed grants = (a : Relay) × Has (Allocation a) grants × (a.relayed ≡ relayed)

abbrev pub AddressesWithin : List Grant → List Grant → Type 0
AddressesWithin grants later = (relayed : SocketAddr) → HasAddress relayed later → HasAddress relayed grants

-- the server has not allocated before the first state, or the second has no more addresses
abbrev pub KeepsAddresses : State → State → Type 0
KeepsAddresses s t = (IsUngranted t.phase → IsUngranted s.phase) × (IsUngranted s.phase ⊎ AddressesWithin s.grants t.grants)

keeps-trans : (s t u : State) → KeepsAddresses s t → KeepsAddresses t u → KeepsAddresses s u
keeps-trans s t u (back, first) (further, second) = (λ h. back (further h), by first second)
  where
    by : IsUngranted s.phase ⊎ AddressesWithin s.grants t.grants → IsUngranted t.phase ⊎ AddressesWithin t.grants u.grants → IsUngranted s.phase ⊎ AddressesWithin s.grants u.grants
    by (inl h) later = inl h
    by (inr within) (inl h) = inl (back h)
    by (inr within) (inr more) = inr (λ relayed h. within relayed (more relayed h))

-- the phase is as it was
module _ (s t : State) (same : t.phase ≡ s.phase) where
  within : AddressesWithin s.grants t.grants → KeepsAddresses s t
  within h = (λ u. subst IsUngranted same u, inr h)

  none : t.grants ≡ s.grants → KeepsAddresses s t
  none e = within (λ relayed h. subst (HasAddress relayed) e h)

pub filter-within : (p : Grant → Bool) (grants : List Grant) → AddressesWithin grants (filter p grants)
filter-within p grants relayed (a, there, e) = (a, (has-filter p (Allocation a) grants there).0, e)

-- one more grant, which is no allocation
one-within : (grants later : List Grant) (g : Grant) → ((a : Relay) → Allocation a ≡ g → ⊥) → AddressesWithin grants later → AddressesWithin grants (later ++ g ∷ [])
one-within grants later g other within relayed (a, there, e) = elim (has-append (Allocation a) later (g ∷ []) there) [
  | inl old ↦ within relayed (a, old, e)
  | inr (inl is) ↦ absurd (other a is)
  | inr (inr absent) ↦ absurd absent
]

first-within : (which : Grant → Bool) (grants : List Grant) → AddressesWithin grants (without_first which grants)
first-within which grants relayed (a, there, e) = (a, was-first which (Allocation a) grants there, e)

-- an outline keeps the address
outline-address : (g : Grant) (a : Relay) → outline g ≡ outline (Allocation a) → (b : Relay) × (g ≡ Allocation b) × (b.relayed ≡ a.relayed)
outline-address (Allocation b) a e = (b, refl, one (ap addresses e))
  where
    addresses : Grant → List SocketAddr
    addresses (Allocation x) = x.relayed ∷ []
    addresses g = []

    one : b.relayed ∷ [] ≡ a.relayed ∷ [] → b.relayed ≡ a.relayed
    one f = cc
outline-address g a e = cc

outlines-within : (grants later : List Grant) → map outline later ≡ map outline grants → AddressesWithin grants later
outlines-within [] [] e relayed h = h
outlines-within (g ∷ grants) (x ∷ later) e relayed (a, inl is, same) =
    let first : outline g ≡ outline x = cc in
    let (b, named, address) = outline-address g a (first ∙ ap outline (sym is)) in
    (b, inl (sym named), address ∙ same)
outlines-within (g ∷ grants) (x ∷ later) e relayed (a, inr there, same) =
    let rest : map outline later ≡ map outline grants = cc in
    let (b, here, address) = outlines-within grants later rest relayed (a, there, same) in
    (b, inr here, address)
outlines-within grants later e relayed h = cc

edits : KeepsEdits KeepsAddresses
edits = record {
  rest = record {
    same = λ s. none s s refl refl;
    trans = keeps-trans;
    aside = λ s t. none s (record s { ids = t.ids; events = t.events; closes = t.closes }) refl refl;
    queues = λ queue s begun. none s (record s { queue = queue }) refl refl;
    dequeues = λ queue s fewer. none s (record s { queue = queue }) refl refl;
    families = λ families s may. none s (record s { families = families }) refl refl;
    sends = λ now s waits. (λ h. h, inr (λ relayed h. h));
    begins = λ now s new. (λ h. rw new tt, inr (λ relayed h. h));
    ends = λ s unlisted. (λ h. absurd h, inr (λ relayed h. h));
    finishes = λ id s. (λ h. h, inr (λ relayed h. h));
    resends = λ id now s. (λ h. h, inr (λ relayed h. h));
    starts = λ id now s. (λ h. h, inr (λ relayed h. h));
  };
  asks = λ id text purposes now s begun askable spelled. (λ h. h, inr (λ relayed h. h));
  unlists = λ which s. (λ h. h, inr (λ relayed h. h));
  removes = λ which s spares. (λ h. h, inr (filter-within (λ g. not (which g)) s.grants));
  removes_family = λ family s. (λ h. h, inr (filter-within (λ g. not (is_of family g)) s.grants));
  takes_offer = λ id peer s. (λ h. h, inr (first-within (is_offer_of id peer) s.grants));
  ages = λ grants s e. (λ h. h, inr (outlines-within s.grants grants (aged-outlines grants s.grants e)));
  permission = λ ip s phase room absent. (λ h. h, inr (one-within s.grants s.grants _ (λ a is. cc) (λ relayed h. h)));
  channel = λ number peer s phase room absent range. (λ h. h, inr (one-within s.grants s.grants _ (λ a is. cc) (λ relayed h. h)));
  connect = λ peer s phase room absent. (λ h. h, inr (one-within s.grants s.grants _ (λ a is. cc) (λ relayed h. h)));
  connection = λ id c origin s phase offer absent waits.
      (λ h. h, inr (one-within s.grants (offer_taken id c.peer s).grants _ (λ a is. cc) (first-within (is_offer_of id c.peer) s.grants)));
  reserves = λ number peer was until s there. (λ h. h, inr (one-within s.grants _ _ (λ a is. cc) (filter-within (λ g. not (is_channel_of number g)) s.grants)));
}

pub KeepsAddresses-KeepsAllEdits : KeepsAllEdits KeepsAddresses
KeepsAddresses-KeepsAllEdits = record {
  edits = edits;
  reshapes = λ grants s e. (λ h. h, inr (outlines-within s.grants grants e));
  rebinds = λ number peer was progress s there. (λ h. h, inr (one-within s.grants _ _ (λ a is. cc) (filter-within (λ g. not (is_channel_of number g)) s.grants)));
  holds = λ message d s e. (λ h. h, inr (λ relayed h. h));
  counts = λ s held few. (ungranted-after s.phase, inr (λ relayed h. h));
  resets = λ accepted s. (λ h. h, inr (λ relayed h. h));
  empties = λ s. (λ h. h, inr (filter-within (λ g. not true) s.grants));
  allocates = λ message lifetime now s phase unlisted. (λ h. absurd (granted-with _ h), inl (rw phase tt));
  permits = λ ip is_kept expiry s is. (λ h. h, inr (one-within s.grants _ _ (λ a is. cc) (filter-within (λ g. not (is_permission_of ip g)) s.grants)));
  connects = λ id connection_id peer s t since stay granted listed.
      let end = with_offer connection_id peer OwnConnect (without_grants (is_connect_to peer) t) in
      keeps-trans s t end since (λ h. h, inr (one-within t.grants _ _ (λ a is. cc) (filter-within (λ g. not (is_connect_to peer g)) t.grants)));
  offers = λ id peer origin s room few. (λ h. h, inr (one-within s.grants s.grants _ (λ a is. cc) (λ relayed h. h)));
}
