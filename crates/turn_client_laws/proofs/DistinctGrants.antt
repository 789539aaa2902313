-- No two grants are for the same.
use Rattle.turn_client_laws.proofs.Common.{◌≡◌, ℕ, Bool, true, false, not, List, [], ◌∷◌, ◌++◌, map, filter, filter_map, Some, refl, sym, ◌∙◌, ap, subst, inr, inl, slice_get, list_any, IsDistinct}
use Rattle.turn_client_laws.proofs.Common.{or_parts, cases_Bool, none-some, IpAddr, SocketAddr, Contains}
use Rattle.turn_client_laws.proofs.Machine.{TransportType, AddressFamily, IPV4, IPV6, Config, same_family, State, initial, Phase, New, Requesting, Authenticating, Allocated, Closed, Grant, Allocation}
use Rattle.turn_client_laws.proofs.Machine.{Permission, Channel, Connect, Connection, Progress, Pending, Active, Reserved, family_of, is_channel_of, is_connect_to, is_connection_from, is_of}
use Rattle.turn_client_laws.proofs.Machine.{is_of_family, is_permission_of, permission_state, permission_progress, with_grant, without_grants, new_allocation, phase_with, relayed_in, taken_addresses}
use Rattle.turn_client_laws.proofs.Machine.{phase_after, is_offer_of, offer_taken, without_first, Leaves, Call, Has}
use Rattle.turn_client_laws.specs.Handled.{Input, handled}
use Rattle.turn_client_laws.proofs.EditsOfMessages.{edits-IsKept, granted-with}
use Rattle.turn_client_laws.proofs.InputKeepLemmas.{before-kept}
use Rattle.turn_client_laws.specs.LawsDoubles.{HasNoDoubles, is_double}
use Rattle.turn_client_laws.specs.LawsOrder.{FitsPhase, IsUngranted}
use Rattle.turn_client_laws.proofs.InAllocationLemmas.{Room}
use Rattle.turn_client_laws.proofs.NumberLemmas.{none-filter}
use Rattle.turn_client_laws.proofs.DoubleLemmas.{AreSingle, IsNew, IsSingle, channel-which, connect-which, connection-which, none-IsNew, none-without_first, offer-IsNew, permission-which}
use Rattle.turn_client_laws.proofs.DoubleLemmas.{single-filter, single-last, single-map, single-unmap, single-without_first, outline-alike}
use Rattle.turn_client_laws.proofs.Edits.{aged-outlines, KeepsAllEdits, KeepsEdits, outline}
use Rattle.turn_client_laws.proofs.EditsOfCalls.{leaves-walk}

-- ---- the first allocations

differ : (x y : AddressFamily) (families : List AddressFamily) → list_any (λ f. same_family x f) families ≡ false → list_any (λ f. same_family y f) families ≡ true → same_family x y ≡ false
differ IPV4 IPV6 families none some = refl
differ IPV6 IPV4 families none some = refl
differ x y families none some = let no : true ≡ false = sym some ∙ none in cc

none-left : {X : Type 0} (p q : X → Bool) (xs : List X) → list_any p xs ≡ false → list_any p (filter q xs) ≡ false
none-left p q [] none = refl
none-left p q (x ∷ xs) none =
    let (here, later) = or_parts (p x) (list_any p xs) none in
    elim (cases_Bool (q x)) [ inl e ↦ rw (e, here, none-left p q xs later) refl | inr e ↦ rw e (none-left p q xs later) ]

module _ (lifetime now : ℕ) where
  -- what is allocated of these families
  abbrev new : List AddressFamily → List SocketAddr → List Grant
  new families addresses = map (new_allocation lifetime now) (taken_addresses families addresses)

  others-single : (a : SocketAddr) (families : List AddressFamily) (addresses : List SocketAddr) → list_any (λ f. is_of_family f a) families ≡ false
      → IsSingle (new_allocation lifetime now a) (new families addresses)
  others-single a families [] none = tt
  others-single a families (b ∷ later) none =
      let left = filter (λ f. not (is_of_family f b)) families in
      elim (cases_Bool (list_any (λ f. is_of_family f b) families)) [
        | inl e ↦
            rw e
            (differ (family_of a) (family_of b) families none e, others-single a left later (none-left (λ f. is_of_family f a) (λ f. not (is_of_family f b)) families none))
        | inr e ↦ rw e (others-single a families later none)
      ]

  taken-single : (families : List AddressFamily) (addresses : List SocketAddr) → AreSingle (new families addresses)
  unfolding IsDistinct
  taken-single families [] = tt
  taken-single families (a ∷ later) =
      let left = filter (λ f. not (is_of_family f a)) families in
      elim (cases_Bool (list_any (λ f. is_of_family f a) families)) [
        | inl e ↦ rw e (others-single a left later (none-filter (λ f. is_of_family f a) families), taken-single left later)
        | inr e ↦ rw e (taken-single families later)
      ]

-- ---- grants that keep their outlines

single-outline : (gs hs : List Grant) → map outline hs ≡ map outline gs → AreSingle gs → AreSingle hs
single-outline gs hs e h = single-unmap outline outline-alike hs (subst AreSingle (sym e) (single-map outline outline-alike gs h))

pub empty-outline : (hs : List Grant) → map outline hs ≡ [] → hs ≡ []
empty-outline [] e = refl
empty-outline (h ∷ hs) e = cc

-- ---- no grants before the server allocated, and none that are for the same

pub record HasDistinctGrants (phase : Phase) (gs : List Grant) : Type 0 where
  pub none : IsUngranted phase → gs ≡ []
  pub single : AreSingle gs

-- distinct grants stay so, and once the server allocated there are some
abbrev KeepsDistinctGrants : State → State → Type 0
KeepsDistinctGrants s t = (IsUngranted t.phase → IsUngranted s.phase) × (HasDistinctGrants s.phase s.grants → HasDistinctGrants t.phase t.grants)

granted : (p : Phase) → p ≡ Allocated → IsUngranted p → ⊥
granted p e h = subst IsUngranted e h

-- grants are removed
fewer : (f : List Grant → List Grant) → f [] ≡ [] → ((gs : List Grant) → AreSingle gs → AreSingle (f gs)) → (p : Phase) (gs : List Grant) → HasDistinctGrants p gs → HasDistinctGrants p (f gs)
fewer f empty single p gs h = record { none = λ u. ap f (h.none u) ∙ empty; single = single gs h.single }

filtered : (which : Grant → Bool) (p : Phase) (gs : List Grant) → HasDistinctGrants p gs → HasDistinctGrants p (filter which gs)
filtered which = fewer (filter which) refl (single-filter which)

taken : (id : ℕ) (peer : SocketAddr) (p : Phase) (gs : List Grant) → HasDistinctGrants p gs → HasDistinctGrants p (without_first (is_offer_of id peer) gs)
taken id peer = fewer (without_first (is_offer_of id peer)) refl (single-without_first (is_offer_of id peer))

-- one is added
more : (g : Grant) (p : Phase) (gs : List Grant) → (IsUngranted p → ⊥) → IsNew g gs → HasDistinctGrants p gs → HasDistinctGrants p (gs ++ g ∷ [])
more g p gs allocated new h = record { none = λ u. absurd (allocated u); single = single-last g gs new h.single }

-- in place of others, where the server allocated
replaced : (which : Grant → Bool) (g : Grant) → ((x : Grant) → is_double x g ≡ which x) → (s : State) → (HasDistinctGrants s.phase s.grants → IsUngranted s.phase → ⊥)
    → KeepsDistinctGrants s (with_grant g (without_grants which s))
replaced which g is s allocated = (
  λ u. u,
  λ h. more g s.phase (without_grants which s).grants (allocated h) (none-IsNew which g is (without_grants which s).grants (none-filter which s.grants))
      (filtered (λ x. not (which x)) s.phase s.grants h),
)

-- if a grant exists, the server allocated
there-granted : (g : Grant) (s : State) → Has g s.grants → HasDistinctGrants s.phase s.grants → IsUngranted s.phase → ⊥
there-granted g s there h u = subst (λ (gs : List Grant). Has g gs) (h.none u) there

room-granted : (family : AddressFamily) (s : State) → Room s.grants family → HasDistinctGrants s.phase s.grants → IsUngranted s.phase → ⊥
room-granted family s (a, there, e) = there-granted (Allocation a) s there

permission-granted : (ip : IpAddr) (progress : Progress) (s : State) → permission_state ip s ≡ Some progress → HasDistinctGrants s.phase s.grants → IsUngranted s.phase → ⊥
permission-granted ip progress s e h u =
    none-some progress (subst (λ (gs : List Grant). slice_get (filter_map (permission_progress ip) gs) 0 ≡ Some progress) (h.none u) e)

pub ungranted-after : (p : Phase) → IsUngranted (phase_after p) → IsUngranted p
ungranted-after Allocated u = u
ungranted-after Closed u = u
ungranted-after p u = tt

allocates-tidy : (message : List ℕ) (lifetime now : ℕ) (s : State) → s.phase ≡ Authenticating
    → KeepsDistinctGrants s (record s {
      phase = phase_with (taken_addresses s.families (relayed_in message));
      grants = s.grants ++ map (new_allocation lifetime now)
          (taken_addresses s.families (relayed_in message));
    })
allocates-tidy message lifetime now s e = (λ u. absurd (granted-with addresses u), λ h. record { none = λ u. absurd (granted-with addresses u); single = by h })
  where
    addresses : List SocketAddr
    addresses = taken_addresses s.families (relayed_in message)

    by : HasDistinctGrants s.phase s.grants → AreSingle (s.grants ++ map (new_allocation lifetime now) addresses)
    by h =
        let empty = h.none (subst IsUngranted (sym e) tt) in
        subst (λ (gs : List Grant). AreSingle (gs ++ map (new_allocation lifetime now) addresses)) (sym empty) (taken-single lifetime now s.families (relayed_in message))

-- a client that begins
begins-tidy : (now : ℕ) (s : State) → s.phase ≡ New → KeepsDistinctGrants s (record s { phase = Requesting; last_send = Some now })
begins-tidy now s e = (λ u. subst IsUngranted (sym e) tt, λ h. record { none = λ u. h.none (subst IsUngranted (sym e) tt); single = h.single })

reshaped-tidy : (grants : List Grant) (s : State) → map outline grants ≡ map outline s.grants → KeepsDistinctGrants s (record s { grants = grants })
reshaped-tidy grants s e =
    (λ u. u, λ h. record { none = λ u. empty-outline grants (e ∙ ap (map outline) (h.none u)); single = single-outline s.grants grants e h.single })

rebound-tidy : (number : ℕ) (peer : SocketAddr) (was progress : Progress) (s : State) → Has (Channel number peer was) s.grants
    → KeepsDistinctGrants s (with_grant (Channel number peer progress) (without_grants (is_channel_of number) s))
rebound-tidy number peer was progress s there =
    replaced (is_channel_of number) (Channel number peer progress) (channel-which number peer progress) s (there-granted (Channel number peer was) s there)

KeepsDistinctGrants-KeepsEdits : KeepsEdits KeepsDistinctGrants
KeepsDistinctGrants-KeepsEdits = record {
  rest = record {
    same = λ s. (λ u. u, λ h. h);
    trans = λ s t u first second. (λ x. first.0 (second.0 x), λ h. second.1 (first.1 h));
    aside = λ s t. (λ u. u, λ h. h);
    queues = λ queue s begun. (λ u. u, λ h. h);
    dequeues = λ queue s fewer. (λ u. u, λ h. h);
    families = λ families s may. (λ u. u, λ h. h);
    sends = λ now s waits. (λ u. u, λ h. h);
    begins = begins-tidy;
    ends = λ s none. (λ u. absurd u, λ h. record { none = λ u. absurd u; single = h.single });
    finishes = λ id s. (λ u. u, λ h. h);
    resends = λ id now s. (λ u. u, λ h. h);
    starts = λ id now s. (λ u. u, λ h. h);
  };
  asks = λ id text purposes now s begun askable spelled. (λ u. u, λ h. h);
  unlists = λ which s. (λ u. u, λ h. h);
  removes = λ which s spares. (λ u. u, filtered (λ g. not (which g)) s.phase s.grants);
  removes_family = λ family s. (λ u. u, filtered (λ g. not (is_of family g)) s.phase s.grants);
  takes_offer = λ id peer s. (λ u. u, taken id peer s.phase s.grants);
  ages = λ grants s e. reshaped-tidy grants s (aged-outlines grants s.grants e);
  permission = λ ip s phase room none. (
    λ u. u,
    more (Permission ip (Pending true)) s.phase s.grants (granted s.phase phase)
        (none-IsNew (is_permission_of ip) (Permission ip (Pending true)) (permission-which ip (Pending true)) s.grants none),
  );
  channel = λ number peer s phase room none within. (
    λ u. u,
    more (Channel number peer (Pending true)) s.phase s.grants (granted s.phase phase)
        (none-IsNew (is_channel_of number) (Channel number peer (Pending true)) (channel-which number peer (Pending true)) s.grants none),
  );
  connect = λ peer s phase room none.
      (λ u. u, more (Connect peer) s.phase s.grants (granted s.phase phase) (none-IsNew (is_connect_to peer) (Connect peer) (connect-which peer) s.grants none));
  connection = λ id c origin s phase offer none waits. (
    λ u. u,
    λ h. more (Connection c) s.phase (offer_taken id c.peer s).grants (granted s.phase phase)
        (none-IsNew (is_connection_from c.local) (Connection c) (connection-which c) (offer_taken id c.peer s).grants
        (none-without_first (is_connection_from c.local) (is_offer_of id c.peer) s.grants none))
        (taken id c.peer s.phase s.grants h),
  );
  reserves = λ number peer was until s there. rebound-tidy number peer was (Reserved until) s there;
}

KeepsDistinctGrants-KeepsAllEdits : KeepsAllEdits KeepsDistinctGrants
KeepsDistinctGrants-KeepsAllEdits = record {
  edits = KeepsDistinctGrants-KeepsEdits;
  reshapes = reshaped-tidy;
  rebinds = rebound-tidy;
  holds = λ message d s e. (λ u. u, λ h. h);
  counts = λ s held few. (ungranted-after s.phase, λ h. record { none = λ u. h.none (ungranted-after s.phase u); single = h.single });
  resets = λ accepted s. (λ u. u, λ h. h);
  empties = λ s. (λ u. u, filtered (λ g. not true) s.phase s.grants);
  allocates = λ message lifetime now s e none. allocates-tidy message lifetime now s e;
  permits = λ ip is_kept expiry s is.
      replaced (is_permission_of ip) (Permission ip (Active expiry)) (permission-which ip (Active expiry)) s (permission-granted ip (Pending is_kept) s is);
  connects = λ id connection_id peer s t since stay granted listed. (
    since.0,
    λ h. more _ t.phase (without_grants (is_connect_to peer) t).grants (λ u. granted (since.0 u)) (offer-IsNew _ (without_grants (is_connect_to peer) t).grants)
        (filtered (λ g. not (is_connect_to peer g)) t.phase t.grants (since.1 h)),
  );
  offers = λ id peer origin s room few.
      (λ u. u, λ h. more _ s.phase s.grants (room-granted (family_of peer) s room h) (offer-IsNew _ s.grants) h);
}

-- when an input of a call is processed
pub before-single : (call : Call) (s : State) (one : Input) → FitsPhase s → HasNoDoubles s → Contains (handled call s) one → HasNoDoubles one.before
before-single call s one steady h among =
    let kept = before-kept KeepsDistinctGrants (edits-IsKept KeepsDistinctGrants KeepsDistinctGrants-KeepsAllEdits (λ s streams. (λ u. u, λ h. h))) call s one among in
    (kept.1 (record { none = steady.3; single = h })).single

pub initial-single : (transport : TransportType) (local remote : SocketAddr) (config : Config) (seed : List ℕ) → HasNoDoubles (initial transport local remote config seed)
unfolding IsDistinct
initial-single transport local remote config seed = tt

-- even if memory allocation fails
pub leaves-single : (call : Call) (s t : State) → Leaves call s t → FitsPhase s → HasNoDoubles s → HasNoDoubles t
leaves-single call s t leaves steady h = ((leaves-walk KeepsDistinctGrants KeepsDistinctGrants-KeepsAllEdits (λ s streams. (λ u. u, λ h. h)) call s t leaves).1
    (record { none = steady.3; single = h })).single
