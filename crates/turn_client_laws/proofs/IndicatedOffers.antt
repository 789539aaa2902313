-- Offers by indications are few.
use Rattle.turn_client_laws.proofs.Common.{◌≡◌, ℕ, ◌+◌, ◌<◌, ◌≤◌, Bool, true, false, not, List, [], ◌∷◌, ◌++◌, map, filter, length, refl, sym, ap, ◌∙◌, subst, arith, inl, inr, length-append}
use Rattle.turn_client_laws.proofs.Common.{filter-append, SocketAddr, cases_Bool}
use Rattle.turn_client_laws.proofs.Machine.{TransportType, Config, State, initial, Grant, Allocation, Permission, Channel, Connect, Offer, Connection, DataOffer, Origin, OwnConnect, ServerRequest}
use Rattle.turn_client_laws.proofs.Machine.{ServerIndication, Pending, is_channel_of, new_allocation, taken_addresses, is_offer_of, without_first, is_indicated, max_indicated, Leaves, Call}
use Rattle.turn_client_laws.specs.LawsStates.{HasFewIndicated}
use Rattle.turn_client_laws.proofs.Edits.{outline}
use Rattle.turn_client_laws.proofs.GrantEdits.{KeepsGrants, grants-KeepsAllEdits}
use Rattle.turn_client_laws.proofs.EditsOfCalls.{leaves-walk}
use Rattle.turn_client_laws.proofs.CaseLemmas.{by_test}

abbrev indicated : List Grant → ℕ
indicated gs = length (filter is_indicated gs)

abbrev AreFew : List Grant → Type 0
AreFew gs = indicated gs ≤ max_indicated

abbrev weight : Bool → ℕ
weight true = 1
weight false = 0

indicated-cons : (g : Grant) (gs : List Grant) → indicated (g ∷ gs) ≡ weight (is_indicated g) + indicated gs
indicated-cons g gs = elim (cases_Bool (is_indicated g)) [ inl e ↦ rw e (omega arith) | inr e ↦ rw e (omega arith) ]

indicated-filter : (p : Grant → Bool) (gs : List Grant) → indicated (filter p gs) ≤ indicated gs
indicated-filter p [] = omega arith
indicated-filter p (g ∷ gs) =
    let later = indicated-filter p gs in
    by_test (λ (hs : List Grant). indicated hs ≤ indicated (g ∷ gs)) (p g) _ _ (λ e. omega (arith, later, indicated-cons g (filter p gs), indicated-cons g gs))
    (λ e. omega (arith, later, indicated-cons g gs))

indicated-without_first : (which : Grant → Bool) (gs : List Grant) → indicated (without_first which gs) ≤ indicated gs
indicated-without_first which [] = omega arith
indicated-without_first which (g ∷ gs) =
    let later = indicated-without_first which gs in
    by_test (λ (hs : List Grant). indicated hs ≤ indicated (g ∷ gs)) (which g) _ _ (λ e. omega (arith, indicated-cons g gs))
    (λ e. omega (arith, later, indicated-cons g (without_first which gs), indicated-cons g gs))

outline-indicated : (g : Grant) → is_indicated (outline g) ≡ is_indicated g
outline-indicated (Allocation a) = refl
outline-indicated g = refl

indicated-outlined : (gs : List Grant) → indicated (map outline gs) ≡ indicated gs
indicated-outlined [] = refl
indicated-outlined (g ∷ gs) =
    let same : weight (is_indicated (outline g)) ≡ weight (is_indicated g) = ap weight (outline-indicated g) in
    omega (arith, indicated-outlined gs, same, indicated-cons (outline g) (map outline gs), indicated-cons g gs)

indicated-append : (gs hs : List Grant) → indicated (gs ++ hs) ≡ indicated gs + indicated hs
indicated-append gs hs = ap length (filter-append is_indicated gs hs) ∙ length-append (filter is_indicated gs) (filter is_indicated hs)

-- what is added is no such offer
few-append : (gs hs : List Grant) → indicated hs ≡ 0 → AreFew gs → AreFew (gs ++ hs)
few-append gs hs none few = omega (arith, few, none, indicated-append gs hs)

none-allocated : (lifetime now : ℕ) (addresses : List SocketAddr) → indicated (map (new_allocation lifetime now) addresses) ≡ 0
none-allocated lifetime now [] = refl
none-allocated lifetime now (a ∷ others) = none-allocated lifetime now others

few-offer : (origin : Origin) (offer : DataOffer) (gs : List Grant) → (origin ≡ ServerIndication → indicated gs < max_indicated) → AreFew gs
    → AreFew (gs ++ Offer (record offer { origin = origin }) ∷ [])
few-offer OwnConnect offer gs less few = few-append gs (Offer (record offer { origin = OwnConnect }) ∷ []) refl few
few-offer (ServerRequest request) offer gs less few = few-append gs (Offer (record offer { origin = ServerRequest request }) ∷ []) refl few
few-offer ServerIndication offer gs less few =
    let one : indicated (Offer (record offer { origin = ServerIndication }) ∷ []) ≡ 1 = refl in
    omega (arith, one, less refl, indicated-append gs (Offer (record offer { origin = ServerIndication }) ∷ []))

AreFew-KeepsGrants : KeepsGrants AreFew
AreFew-KeepsGrants = record {
  filters = λ p gs few. omega (arith, few, indicated-filter p gs);
  takes_offer = λ id peer gs few. omega (arith, few, indicated-without_first (is_offer_of id peer) gs);
  reshapes = λ gs hs e few. subst (λ (n : ℕ). n ≤ max_indicated) (sym (indicated-outlined gs) ∙ (ap indicated (sym e) ∙ indicated-outlined hs)) few;
  permission = λ ip progress gs none. few-append gs (Permission ip progress ∷ []) refl;
  channel = λ number peer gs none within. few-append gs (Channel number peer (Pending true) ∷ []) refl;
  connect = λ peer gs none. few-append gs (Connect peer ∷ []) refl;
  connection = λ c gs none. few-append gs (Connection c ∷ []) refl;
  offers = λ offer gs less. few-offer offer.origin offer gs less;
  rebinds = λ number peer was progress gs there few.
      few-append (filter (λ g. not (is_channel_of number g)) gs) (Channel number peer progress ∷ []) refl (omega (arith, few, indicated-filter (λ g. not (is_channel_of number g)) gs));
  allocates = λ lifetime now families addresses gs. few-append gs (map (new_allocation lifetime now) (taken_addresses families addresses))
      (none-allocated lifetime now (taken_addresses families addresses));
}

pub initial-HasFewIndicated : (transport : TransportType) (local remote : SocketAddr) (config : Config) (seed : List ℕ) → HasFewIndicated (initial transport local remote config seed)
initial-HasFewIndicated transport local remote config seed = omega arith

pub leaves-HasFewIndicated : (call : Call) (s t : State) → Leaves call s t → HasFewIndicated s → HasFewIndicated t
leaves-HasFewIndicated = leaves-walk (λ s t. AreFew s.grants → AreFew t.grants) (grants-KeepsAllEdits AreFew AreFew-KeepsGrants) (λ s streams h. h)
