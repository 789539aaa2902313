-- What a request is listed for exists.
use Rattle.turn_client_laws.proofs.Common.{arith, ◌≡◌, ℕ, Bool, true, not, eqb, ◌&&◌, List, [], ◌∷◌, ◌++◌, map, ◌⊎◌, inl, inr, refl, sym, subst, ap, ◌∙◌, list_any, and_from, and_parts, or_left}
use Rattle.turn_client_laws.proofs.Common.{cases_Bool, list_any-append, SocketAddr}
use Rattle.turn_client_laws.proofs.Machine.{TransportType, same_address, Config, State, initial, Grant, Channel, Connection, Purpose, ForAllocation, ForChannel, ForBind, Listing, is_connect_to}
use Rattle.turn_client_laws.proofs.Machine.{is_for, is_of, is_permission_of, is_channel_of, with_grant, without_grants, listings, is_offer_of, offer_taken, Leaves, Call, Has, all-has, has-all}
use Rattle.turn_client_laws.proofs.Machine.{has-append, has-filter}
use Rattle.turn_client_laws.specs.LawsStates.{HasGrantsAsked, HasItsGrant, is_asked_by}
use Rattle.turn_client_laws.proofs.InAllocationLemmas.{any-has, has-any, not-both, stays}
use Rattle.turn_client_laws.proofs.TakenOfferLemmas.{no-offer, stays-first}
use Rattle.turn_client_laws.proofs.GrantOriginLemmas.{has-mapped}
use Rattle.turn_client_laws.proofs.Edits.{aged-outlines, IsAskable, KeepsAllEdits, KeepsEdits, outline, rest-ignored}
use Rattle.turn_client_laws.proofs.EditsOfCalls.{leaves-walk}

-- what is requested, the request is for
pub asked-for : (p : Purpose) (g : Grant) → is_asked_by p g ≡ true → is_for p g ≡ true
asked-for (ForChannel number peer) (Channel other to progress) e = (and_parts (eqb other number) (same_address to peer) e).0
asked-for (ForBind local peer id) (Connection c) e = (and_parts (same_address c.local local) (same_address c.peer peer) e).0
asked-for p g e = e

-- the request is an ALLOCATE, or is for one of these
abbrev pub HasGrant : List Grant → Purpose → Type 0
HasGrant gs p = (p ≡ ForAllocation) ⊎ (list_any (is_asked_by p) gs ≡ true)

abbrev pub AllHaveGrant : State → Type 0
AllHaveGrant s = (l : Listing) → Has l s.listed → HasGrant s.grants l.purpose

abbrev pub StayFounded : State → State → Type 0
StayFounded s t = AllHaveGrant s → AllHaveGrant t

-- ---- grants are added

founded-append : (gs hs : List Grant) (p : Purpose) → HasGrant gs p → HasGrant (gs ++ hs) p
founded-append gs hs p (inl e) = inl e
founded-append gs hs p (inr there) = inr (list_any-append (is_asked_by p) gs hs ∙ or_left (list_any (is_asked_by p) gs) (list_any (is_asked_by p) hs) there)

with_grant-founded : (g : Grant) (s : State) → StayFounded s (with_grant g s)
with_grant-founded g s h l there = founded-append s.grants (g ∷ []) l.purpose (h l there)

-- ---- grants are removed

without-founded : (which : Grant → Bool) (s : State) → StayFounded s (without_grants which s)
without-founded which s h l there =
    let (listed, keeps) = has-filter (λ l. not (gone l)) l s.listed there in
    elim (h l listed) [
      | inl e ↦ inl e
      | inr some ↦ let (g, here, for) = any-has (is_asked_by l.purpose) s.grants some in
          inr (elim (cases_Bool (which g)) [
            | inl e ↦ absurd (not-both (gone l) (has-any (λ g. which g && is_for l.purpose g) g s.grants here (and_from (which g) (is_for l.purpose g) e (asked-for l.purpose g for))) keeps)
            | inr e ↦ has-any (is_asked_by l.purpose) g (without_grants which s).grants (stays which g s.grants here e) for
          ])
    ]
  where
    gone : Listing → Bool
    gone l = list_any (λ g. which g && is_for l.purpose g) s.grants

taken-founded : (id : ℕ) (peer : SocketAddr) (s : State) → StayFounded s (offer_taken id peer s)
taken-founded id peer s h l there = elim (h l there) [
  | inl e ↦ inl e
  | inr some ↦
      let (g, here, for) = any-has (is_asked_by l.purpose) s.grants some in
      inr (has-any (is_asked_by l.purpose) g (offer_taken id peer s).grants (stays-first (is_offer_of id peer) g s.grants here (no-offer id peer l.purpose g (asked-for l.purpose g for))) for)
]

-- ---- grants change

asked-outline : (p : Purpose) (g : Grant) → is_asked_by p (outline g) ≡ is_asked_by p g
asked-outline p g = grind arith

any-outline : (p : Purpose) (gs : List Grant) → list_any (is_asked_by p) (map outline gs) ≡ list_any (is_asked_by p) gs
any-outline p [] = refl
any-outline p (g ∷ gs) = rw (asked-outline p g, any-outline p gs) refl

reshaped-founded : (grants : List Grant) (s : State) → map outline grants ≡ map outline s.grants → StayFounded s (record s { grants = grants })
reshaped-founded grants s e h l there = elim (h l there) [
  | inl is ↦ inl is
  | inr some ↦ inr (sym (any-outline l.purpose grants) ∙ (ap (list_any (is_asked_by l.purpose)) e ∙ (any-outline l.purpose s.grants ∙ some)))
]

-- ---- requests

askable-founded : (s : State) (p : Purpose) → AllHaveGrant s → IsAskable s p → HasGrant s.grants p
askable-founded s p h (inl e) = inl e
askable-founded s p h (inr (inl there)) = inr there
askable-founded s p h (inr (inr (l, there, e))) = subst (HasGrant s.grants) e (h l there)

asked-founded : (id : ℕ) (purposes : List Purpose) (s : State) → ((p : Purpose) → Has p purposes → IsAskable s p) → AllHaveGrant s → (l : Listing) → Has l (s.listed ++ listings id purposes)
    → HasGrant s.grants l.purpose
asked-founded id purposes s askable h l there = elim (has-append l s.listed (listings id purposes) there) [
  | inl old ↦ h l old
  | inr new ↦
      let (p, here, e) = has-mapped (λ (p : Purpose). record { id = id; purpose = p }) l purposes new in
      subst (λ (x : Listing). HasGrant s.grants x.purpose) (sym e) (askable-founded s p h (askable p here))
]

StayFounded-KeepsEdits : KeepsEdits StayFounded
StayFounded-KeepsEdits = record {
  rest = rest-ignored StayFounded (λ s t h. h) (λ s t u first second h. second (first h));
  asks = λ id text purposes now s begun askable spelled h. asked-founded id purposes s askable h;
  unlists = λ which s h l there. h l (has-filter which l s.listed there).0;
  removes = λ which s spares. without-founded which s;
  removes_family = λ family s. without-founded (is_of family) s;
  takes_offer = taken-founded;
  ages = λ grants s e. reshaped-founded grants s (aged-outlines grants s.grants e);
  permission = λ ip s phase room none. with_grant-founded _ s;
  channel = λ number peer s phase room none within. with_grant-founded _ s;
  connect = λ peer s phase room none. with_grant-founded _ s;
  connection = λ id c origin s phase offer none waits h. with_grant-founded (Connection c) (offer_taken id c.peer s) (taken-founded id c.peer s h);
  reserves = λ number peer was until s there h. with_grant-founded _ (without_grants (is_channel_of number) s) (without-founded (is_channel_of number) s h);
}

pub StayFounded-KeepsAllEdits : KeepsAllEdits StayFounded
StayFounded-KeepsAllEdits = record {
  edits = StayFounded-KeepsEdits;
  reshapes = reshaped-founded;
  rebinds = λ number peer was progress s there h. with_grant-founded _ (without_grants (is_channel_of number) s) (without-founded (is_channel_of number) s h);
  holds = λ message d s e h. h;
  counts = λ s held few h. h;
  resets = λ accepted s h. h;
  empties = λ s. without-founded (λ g. true) s;
  allocates = λ message lifetime now s e none h l there. founded-append s.grants _ l.purpose (h l there);
  permits = λ ip is_kept expiry s is h. with_grant-founded _ (without_grants (is_permission_of ip) s) (without-founded (is_permission_of ip) s h);
  connects = λ id connection_id peer s t since stay granted listed h. with_grant-founded _ (without_grants (is_connect_to peer) t) (without-founded (is_connect_to peer) t (since h));
  offers = λ id peer origin s room few. with_grant-founded _ s;
}

pub initial-HasGrantsAsked : (transport : TransportType) (local remote : SocketAddr) (config : Config) (seed : List ℕ) → HasGrantsAsked (initial transport local remote config seed)
initial-HasGrantsAsked transport local remote config seed = all-has (HasItsGrant (initial transport local remote config seed)) [] (λ l none. absurd none)

pub leaves-HasGrantsAsked : (call : Call) (s t : State) → Leaves call s t → HasGrantsAsked s → HasGrantsAsked t
leaves-HasGrantsAsked call s t leaves h =
    all-has (HasItsGrant t) t.listed (leaves-walk StayFounded StayFounded-KeepsAllEdits (λ s streams h. h) call s t leaves (λ l there. has-all (HasItsGrant s) l s.listed h there))
