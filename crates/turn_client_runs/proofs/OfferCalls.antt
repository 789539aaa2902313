-- Calls that process no input make no offer, and one that opens a connection takes the first one of its kind.
use Rattle.turn_client_laws.proofs.Common.{◌≡◌, ◌∙◌, ℕ, Bool, true, false, not, cond, eqb, List, [], ◌∷◌, ◌++◌, map, filter, Some, refl, subst, sym, ap, inl, inr, filter_map, is_some, slice_get}
use Rattle.turn_client_laws.proofs.Common.{option_map, SocketAddr, and_parts, eq-eqb, eqb-true, none-some, same_Some}
use Rattle.turn_client_laws.proofs.Machine.{same_address-self, same_address-true, same_address, State, later_by, Call, Delete, AllocatedTcpSocket, Recv, PollRecv, DataOffer, Grant, Offer, Connection}
use Rattle.turn_client_laws.proofs.Machine.{Origin, ServerRequest, Relay, all_expired, is_offer_of, offer_origin, offer_taken, socket_opened, without_first, connection_at, as_offer}
use Rattle.turn_client_laws.proofs.Machine.{changed_allocation, is_channel_of, is_of, connection_gone, bind_time, state_after, Has, has-filter}
use Rattle.turn_client_laws.proofs.Laws.{TakesInput, by_test, KeepsEdits, aged, rest-ignored, delete-walk, quiet-walk, tcp_socket-walk, has-mapped, contains-has, was-first}
use Rattle.turn_client_runs.specs.Offers.{TakesOffer, offer_to}
use Rattle.turn_client_runs.proofs.AppendLemmas.{has-last}
use Rattle.turn_client_runs.proofs.OfferMessages.{allocation-alike}

-- ---- offers, reported or not

module _ (id : ℕ) (peer : SocketAddr) (origin : Origin) where
  abbrev pub HasOffer : List Grant → Type 0
  HasOffer grants = (is_reported : Bool) × Has (offer_to id peer origin is_reported) grants

  abbrev pub Within : State → State → Type 0
  Within s t = HasOffer t.grants → HasOffer s.grants

  within-filter : (p : Grant → Bool) (grants : List Grant) → HasOffer (filter p grants) → HasOffer grants
  within-filter p grants (r, there) = (r, (has-filter p (offer_to id peer origin r) grants there).0)

  -- one more grant, which is no offer
  within-one : (grants : List Grant) (g : Grant) → ((o : DataOffer) → Offer o ≡ g → ⊥) → HasOffer (grants ++ g ∷ []) → HasOffer grants
  within-one grants g other (r, there) = elim (has-last (offer_to id peer origin r) grants g there) [
    | inl old ↦ (r, old)
    | inr is ↦ absurd (other _ is)
  ]

  within-first : (which : Grant → Bool) (grants : List Grant) → HasOffer (without_first which grants) → HasOffer grants
  within-first which grants (r, there) = (r, was-first which (offer_to id peer origin r) grants there)

  -- an offer ages as one of its kind
  aged-offer : (g : Grant) (r : Bool) → aged g ≡ aged (offer_to id peer origin r) → (is_reported : Bool) × (g ≡ offer_to id peer origin is_reported)
  aged-offer (Offer o) r e =
      let same : record o { is_reported = false } ≡ record { connection_id = id; peer = peer; is_reported = false; origin = origin } = cc in
      (o.is_reported, ap (λ (x : DataOffer). Offer (record x { is_reported = o.is_reported })) same)
  aged-offer g r e = cc

  within-aged : (grants later : List Grant) → map aged later ≡ map aged grants → HasOffer later → HasOffer grants
  within-aged [] [] e h = h
  within-aged (g ∷ grants) (x ∷ later) e (r, inl is) =
      let first : aged g ≡ aged x = cc in
      let (reported, named) = aged-offer g r (first ∙ ap aged (sym is)) in
      (reported, inl (sym named))
  within-aged (g ∷ grants) (x ∷ later) e (r, inr there) =
      let rest : map aged later ≡ map aged grants = cc in
      let (reported, here) = within-aged grants later rest (r, there) in
      (reported, inr here)
  within-aged grants later e h = cc

  edits : KeepsEdits Within
  edits = record {
    rest = rest-ignored Within (λ s t h. h) (λ s t u first second h. first (second h));
    asks = λ request text purposes now s begun askable spelled h. h;
    unlists = λ which s h. h;
    removes = λ which s spares. within-filter (λ g. not (which g)) s.grants;
    removes_family = λ family s. within-filter (λ g. not (is_of family g)) s.grants;
    takes_offer = λ other to s. within-first (is_offer_of other to) s.grants;
    ages = λ grants s e. within-aged s.grants grants e;
    permission = λ ip s phase room absent. within-one s.grants _ (λ o f. cc);
    channel = λ number to s phase room absent range. within-one s.grants _ (λ o f. cc);
    connect = λ to s phase room absent. within-one s.grants _ (λ o f. cc);
    connection = λ other c from s phase offer absent waits h. within-first (is_offer_of other c.peer) s.grants (within-one (offer_taken other c.peer s).grants _ (λ o f. cc) h);
    reserves = λ number to was until s there h. within-filter (λ g. not (is_channel_of number g)) s.grants (within-one _ _ (λ o f. cc) h);
  }

  expires : (now : ℕ) (s : State) → Within s (all_expired now s)
  expires now s (r, there) =
      let expire = changed_allocation (λ (a : Relay). true) (λ (a : Relay). record a { expiry = now; is_expired = true }) in
      let offer : DataOffer = record { connection_id = id; peer = peer; is_reported = r; origin = origin } in
      let (g, here, e) = has-mapped expire (Offer offer) s.grants there in
      (r, subst (λ (x : Grant). Has x s.grants) (allocation-alike offer (λ a. true) (λ a. record a { expiry = now; is_expired = true }) g (sym e)) here)

  -- a call that processes no input makes none
  pub quiet-offers : (call : Call) (s : State) → (TakesInput call → ⊥) → Within s (state_after call s)
  quiet-offers (Delete now) s other = delete-walk Within edits expires now s
  quiet-offers (AllocatedTcpSocket number tuple to local now) s other = tcp_socket-walk Within edits (λ t streams h. h) number tuple to local now s
  quiet-offers (Recv packet now) s other = absurd (other tt)
  quiet-offers (PollRecv now) s other = absurd (other tt)
  quiet-offers call s other = quiet-walk Within edits call s tt

  -- nor does the end of a connection
  pub gone-offers : (local : SocketAddr) (s : State) → Within s (connection_gone local s)
  gone-offers local s = by_test (Within s) (is_some (connection_at local s)) _ s (λ e. within-filter _ s.grants) (λ e h. h)

-- ---- the first offer of this ID and this peer is taken

-- such an offer stands before all others, and is taken
pub record IsFirst (id : ℕ) (peer : SocketAddr) (origin : Origin) (grants : List Grant) : Type 0 where
  pub front : List Grant
  pub is_reported : Bool
  pub back : List Grant
  pub stood : grants ≡ front ++ offer_to id peer origin is_reported ∷ back
  pub first : (offer : DataOffer) → Has (Offer offer) front → offer.connection_id ≡ id → offer.peer ≡ peer → ⊥
  pub taken : without_first (is_offer_of id peer) grants ≡ front ++ back

module _ (id : ℕ) (peer : SocketAddr) (origin : Origin) where
  abbrev HasOrigin : List Grant → Type 0
  HasOrigin grants = option_map (λ (offer : DataOffer). offer.origin) (slice_get (filter_map as_offer (filter (is_offer_of id peer) grants)) 0) ≡ Some origin

  offer-is : (o : DataOffer) → is_offer_of id peer (Offer o) ≡ true → o.origin ≡ origin → Offer o ≡ offer_to id peer origin o.is_reported
  offer-is o e f =
      let (same, to) = and_parts (eqb o.connection_id id) (same_address o.peer peer) e in
      rw (sym (eqb-true o.connection_id id same), sym (same_address-true o.peer peer to), sym f) refl

  is-offer : (o : DataOffer) → o.connection_id ≡ id → o.peer ≡ peer → is_offer_of id peer (Offer o) ≡ true
  is-offer o e f = rw (e, f, eq-eqb id id refl, same_address-self peer) refl

  -- the first grant is such an offer
  here : (g : Grant) (grants : List Grant) → is_offer_of id peer g ≡ true → option_map (λ (offer : DataOffer). offer.origin) (slice_get (filter_map as_offer (g ∷ [])) 0) ≡ Some origin
      → IsFirst id peer origin (g ∷ grants)
  here (Offer o) grants e h = record {
    front = [];
    is_reported = o.is_reported;
    back = grants;
    stood = ap (λ (x : Grant). x ∷ grants) (offer-is o e (same_Some o.origin origin h));
    first = λ offer none same to. none;
    taken = rw e refl;
  }
  here g grants e h = cc

  later : (g : Grant) (grants : List Grant) → is_offer_of id peer g ≡ false → IsFirst id peer origin grants → IsFirst id peer origin (g ∷ grants)
  later g grants e is = record {
    front = g ∷ is.front;
    is_reported = is.is_reported;
    back = is.back;
    stood = ap (λ (l : List Grant). g ∷ l) is.stood;
    first = λ offer there same to. elim there [
      | inl f ↦ let neither : true ≡ false = sym (is-offer offer same to) ∙ (ap (is_offer_of id peer) f ∙ e) in cc
      | inr more ↦ is.first offer more same to
    ];
    taken = rw e (ap (λ (l : List Grant). g ∷ l) is.taken);
  }

  -- of the first grant and the offers after it
  from-first : (g : Grant) (grants : List Grant) (b : Bool) → is_offer_of id peer g ≡ b
      → option_map (λ (offer : DataOffer). offer.origin) (slice_get (filter_map as_offer (cond b (g ∷ filter (is_offer_of id peer) grants) (filter (is_offer_of id peer) grants))) 0) ≡ Some origin
      → (HasOrigin grants → IsFirst id peer origin grants) → IsFirst id peer origin (g ∷ grants)
  from-first (Offer o) grants true e h more = here (Offer o) grants e h
  from-first g grants true e h more = cc
  from-first g grants false e h more = later g grants e (more h)

  pub first-offer : (grants : List Grant) → HasOrigin grants → IsFirst id peer origin grants
  first-offer [] h = absurd (none-some origin h)
  first-offer (g ∷ grants) h = from-first g grants (is_offer_of id peer g) refl h (first-offer grants)

-- the call that opens the connection takes it
pub opened-takes : (id : ℕ) (peer local : SocketAddr) (origin : Origin) (now : ℕ) (s : State) → offer_origin id peer s ≡ Some origin
    → TakesOffer id local peer origin s (socket_opened id peer local origin now s)
opened-takes id peer local origin now s found =
    let is = first-offer id peer origin s.grants found in
    record {
      front = is.front;
      is_reported = is.is_reported;
      back = is.back;
      stood = is.stood;
      first = λ offer there. is.first offer (contains-has (Offer offer) is.front there);
      deadline = later_by bind_time now;
      opened = by origin ∙ ap (λ (l : List Grant). l ++ Connection (record { local = local; peer = peer; deadline = Some (later_by bind_time now) }) ∷ []) is.taken;
    }
  where
    by : (from : Origin) → (socket_opened id peer local from now s).grants
        ≡ without_first (is_offer_of id peer) s.grants ++ Connection (record { local = local; peer = peer; deadline = Some (later_by bind_time now) }) ∷ []
    by (ServerRequest request) = refl
    by from = refl
