-- What is bound in a run was opened for an offer, and each offer has its cause.
use Rattle.turn_client_laws.proofs.Common.{◌≡◌, ◌⊎◌, ◌∙◌, ℕ, Bool, true, not, ltb, ◌||◌, List, [], ◌∷◌, ◌++◌, filter, length, Option, Some, Result, refl, subst, sym, ap, inl, inr, ⊤, filter_map}
use Rattle.turn_client_laws.proofs.Common.{is_some, Contains, socket_ip, IpAddr, SocketAddr, and_parts, cases_Bool, eqb-true, none-some, same_Some}
use Rattle.turn_client_laws.proofs.Machine.{id_of, Request, Indication, IsValidated, validation_of, TransportType, Tcp, Config, State, auth_of, initial, Call, AllocatedTcpSocket, TcpAllocateError}
use Rattle.turn_client_laws.proofs.Machine.{DataConnection, DataOffer, Grant, Permission, Connection, Lease, Origin, OwnConnect, ServerRequest, ServerIndication, Progress, Active, Purpose}
use Rattle.turn_client_laws.proofs.Machine.{ForAllocation, ForBind, ForConnect, accepts_attempt, is_connected, is_connecting, is_indicated, max_indicated, find_allocation_to, has_active_permission}
use Rattle.turn_client_laws.proofs.Machine.{is_active, permission_progress, permission_state, purposes_of, same_ip, SignedSuccess, class_in, connection_id_in, judgement_of, method_in, peer_in}
use Rattle.turn_client_laws.proofs.Machine.{answered_purposes, is_answered, is_message, message_step, connect_method, connection_attempt_method, state_after, state_after_all, same_ip-true, Has}
use Rattle.turn_client_laws.proofs.Machine.{first-has, has-filter, has-filter_map, has-right}
use Rattle.turn_client_laws.proofs.Laws.{Input, handled, GivesBack, IsDoneBy, IsOverControl, HasPermission, judgement-says, SignedSuccess-is, contains-has, has-contains, IsBrought, leaves-bring}
use Rattle.turn_client_runs.specs.Bound.{IsBoundSince}
use Rattle.turn_client_runs.specs.Granted.{IsGivenIn, IsGranted}
use Rattle.turn_client_runs.specs.Offers.{Attempts, AttemptsAs, BoundAreOffered, IsConnectSuccess, HasOfferCause, IsAttemptedIn, IsBoundForOffer, IsConnectCalled, IsConnectedIn, IsGrantedForOffer}
use Rattle.turn_client_runs.specs.Offers.{IsOffered, IsOpened, TakesOffer, offer_to}
use Rattle.turn_client_runs.proofs.BoundLemmas.{streams-have-success}
use Rattle.turn_client_runs.proofs.ComingLemmas.{inputs-come}
use Rattle.turn_client_runs.proofs.ListedPurposes.{IsConnectTo, IsListed, IsOpening, answered-listed, bind-listed, connect-listed, input-listed}
use Rattle.turn_client_runs.proofs.MadeLemmas.{control-made, success-ends}
use Rattle.turn_client_runs.proofs.OfferCalls.{HasOffer, gone-offers, opened-takes, quiet-offers}
use Rattle.turn_client_runs.proofs.OfferMessages.{IsMadeFor, bind-back, judgement-reports, message-offers}
use Rattle.turn_client_runs.proofs.ReceivedRuns.{HoldNothing, inputs-received}
use Rattle.turn_client_runs.proofs.RunGrants.{AnswersFor, answered-in, first-hold, grants-have-replies}
use Rattle.turn_client_runs.proofs.RunLemmas.{IsDoneLast, run-did}

-- ---- one input

progress-is : (ip : IpAddr) (g : Grant) (lease : Lease) → permission_progress ip g ≡ Some (Active lease) → g ≡ Permission ip (Active lease)
progress-is ip (Permission other p) lease e = elim (cases_Bool (same_ip other ip)) [
  | inl f ↦ rw (same_ip-true other ip f, same_Some p (Active lease) (rw f at e)) refl
  | inr f ↦ absurd (none-some (Active lease) (rw f at e))
]
progress-is ip g lease e = absurd (none-some (Active lease) e)

active-is : (o : Option Progress) → is_active o ≡ true → (lease : Lease) × (o ≡ Some (Active lease))
active-is (Some (Active lease)) e = (lease, refl)
active-is o e = cc

permitted-in : (ip : IpAddr) (s : State) → has_active_permission ip s ≡ true → HasPermission ip s
permitted-in ip s e =
    let (lease, found) = active-is (permission_state ip s) e in
    let (g, there, is) = has-filter_map (permission_progress ip) (Active lease) s.grants (first-has (Active lease) (filter_map (permission_progress ip) s.grants) found) in
    (lease, has-contains (Permission ip (Active lease)) s.grants (subst (λ (x : Grant). Has x s.grants) (progress-is ip g lease is) there))

-- a peer whose attempt is accepted has a permission
accepts-permitted : (peer : SocketAddr) (s : State) → accepts_attempt peer s ≡ true → HasPermission (socket_ip peer) s
accepts-permitted peer s e =
    let few = and_parts _ (ltb (length (filter is_indicated s.grants)) max_indicated) e in
    let free = and_parts _ (not (is_connected peer s || is_connecting peer s)) few.0 in
    let permitted = and_parts (is_some (find_allocation_to Tcp (socket_ip peer) s)) (has_active_permission (socket_ip peer) s) free.0 in
    permitted-in (socket_ip peer) s permitted.1

module _ (id : ℕ) (peer : SocketAddr) (origin : Origin) where
  -- the input makes the offer
  abbrev Making : Input → Type 0
  Making one = ((origin ≡ OwnConnect) × IsConnectSuccess id peer (ForConnect peer) one) ⊎ AttemptsAs origin id peer one

  abbrev AsOffer : Bool → DataOffer
  AsOffer r = record { connection_id = id; peer = peer; is_reported = r; origin = origin }

  message-makes : (one : Input) → IsOverControl one → is_message one.bytes ≡ true → HasOffer id peer origin (message_step one.bytes one.time one.before).1.grants
      → HasOffer id peer origin one.before.grants ⊎ Making one
  message-makes one over whole (r, there) = elim (message-offers (AsOffer r) one.bytes one.before one.time there) [ inl old ↦ inl (r, old) | inr made ↦ inr (by made) ]
    where
      attempts : method_in one.bytes ≡ connection_attempt_method → (connection_id_in one.bytes ≡ Some id) × (peer_in one.bytes ≡ Some peer) → Attempts id peer one
      attempts method named = record { over = over; whole = whole; method = method; named = named.0; from = named.1 }

      connects : judgement_of one.before one.bytes ≡ SignedSuccess → Has (ForConnect peer) (answered_purposes one.bytes one.before) → connection_id_in one.bytes ≡ Some id
          → IsConnectSuccess id peer (ForConnect peer) one
      connects judged among named =
          let is = (SignedSuccess-is one.before one.bytes judged).0 in
          let (listed, answers) = has-filter (is_answered (method_in one.bytes)) (ForConnect peer) (purposes_of (id_of one.bytes) one.before) among in
          record {
            over = over;
            whole = whole;
            method = sym (eqb-true connect_method (method_in one.bytes) answers);
            success = is.class_is;
            signed = is.signed;
            for = refl;
            listed = has-contains (ForConnect peer) (purposes_of (id_of one.bytes) one.before) listed;
            outstanding = is.outstanding;
            ended = rw (control-made one over whole) (success-ends one.bytes one.time one.before judged);
            named = named;
          }

      by : IsMadeFor (AsOffer r) one.bytes one.before (judgement_of one.before one.bytes) → Making one
      by (inl (judged, own, among, named)) = inl (own, connects judged among named)
      by (inr (inl (judged, from, named, method))) =
          let class : class_in one.bytes ≡ Request = rw judged at (judgement-says one.before one.bytes) in
          let signed : IsValidated (validation_of (auth_of one.before) one.bytes) = rw judged at (judgement-reports one.before one.bytes) in
          inr (subst (λ (o : Origin). AttemptsAs o id peer one) (sym from) (attempts method named, class, signed, refl))
      by (inr (inr (judged, from, named, accepts))) =
          let class : class_in one.bytes ≡ Indication = rw judged at (judgement-says one.before one.bytes) in
          let method : method_in one.bytes ≡ connection_attempt_method = rw judged at (judgement-reports one.before one.bytes) in
          inr (subst (λ (o : Origin). AttemptsAs o id peer one) (sym from) (attempts method named, class, accepts-permitted peer one.before accepts))

  making-brought : IsBrought (λ s. HasOffer id peer origin s.grants) Making
  making-brought = record {
    differs = λ s t differs h. subst (HasOffer id peer origin) (ap (λ (x : State). x.grants) differs.others) h;
    message = message-makes;
    binds = λ one stream of waits whole (r, there). inl (r, bind-back (AsOffer r) stream.local one.bytes one.time one.before there);
    gone = gone-offers id peer origin;
    ended = λ s h. h;
  }

  -- ---- one call

  offered-has : (s : State) → IsOffered id peer origin s → HasOffer id peer origin s.grants
  offered-has s (r, there) = (r, contains-has (offer_to id peer origin r) s.grants there)

  has-offered : (s : State) → HasOffer id peer origin s.grants → IsOffered id peer origin s
  has-offered s (r, there) = (r, has-contains (offer_to id peer origin r) s.grants there)

  call-offers : (call : Call) (s : State) → ⊤ → IsOffered id peer origin (state_after call s) → IsOffered id peer origin s ⊎ IsDoneBy Making call s
  call-offers call s any h =
      elim (leaves-bring (λ u. HasOffer id peer origin u.grants) Making making-brought (λ call s. ⊥) (λ call s other h. inl (quiet-offers id peer origin call s other h)) call s
      (state_after call s) (inl refl) (offered-has (state_after call s) h)) [
        | inl old ↦ inl (has-offered s old)
        | inr (inl none) ↦ absurd none
        | inr (inr done) ↦ inr done
      ]

-- ---- a run

module _ (first : State) (empty : first.grants ≡ []) (unlisted : first.listed ≡ []) (hold : HoldNothing first) where
  none-listed : (p : Purpose) → IsListed p first → ⊥
  none-listed p (id, there) = rw unlisted at there

  -- the CONNECT that an input answers was asked for in an earlier call
  connect-called : (peer : SocketAddr) (earlier : List Call) (call : Call) (one : Input) → Contains (handled call (state_after_all first earlier)) one
      → Contains (purposes_of (id_of one.bytes) one.before) (ForConnect peer) → IsConnectCalled peer earlier first
  connect-called peer earlier call one among listed =
      let s = state_after_all first earlier in
      let h = input-listed (ForConnect peer) call s one among (answered-listed (ForConnect peer) one.bytes one.before listed) in
      let is = run-did (IsListed (ForConnect peer)) (IsConnectTo peer) (λ s. ⊤) (λ call s any. tt) (λ call s any. connect-listed peer call s) earlier first tt (none-listed (ForConnect peer)) h in
      let (now, named, accepted) = is.did in
      record { earlier = is.earlier; now = now; later = is.later; split = is.split ∙ ap (λ (c : Call). is.earlier ++ c ∷ is.later) named; accepted = accepted }

  connects-answers : (id : ℕ) (peer : SocketAddr) → AnswersFor (IsConnectSuccess id peer)
  connects-answers id peer p one is =
      (subst (Contains (purposes_of (id_of one.bytes) one.before)) (sym is.for) is.listed, subst (λ (q : Purpose). GivesBack q → ⊥) (sym is.for) (λ none. none))

  module _ (id : ℕ) (peer : SocketAddr) (calls : List Call) where
    -- the last input that made it
    abbrev IsMadeLast : Origin → Type 0
    IsMadeLast origin = IsDoneLast (IsDoneBy (Making id peer origin)) (IsOffered id peer origin) calls first

    attempted : (origin : Origin) (is : IsMadeLast origin) → (one : Input) → Contains (handled is.call (state_after_all first is.earlier)) one → AttemptsAs origin id peer one
        → IsAttemptedIn id peer origin calls first
    attempted origin is one among attempts =
        let here = contains-has one (handled is.call (state_after_all first is.earlier)) among in
        record {
          earlier = is.earlier;
          call = is.call;
          later = is.later;
          split = is.split;
          input = one;
          among = among;
          comes = inputs-come is.call (state_after_all first is.earlier) one here;
          received = inputs-received is.earlier is.call first hold one here;
          attempts = attempts;
          stands = is.holds;
        }

    connected : (is : IsMadeLast OwnConnect) → (one : Input) → Contains (handled is.call (state_after_all first is.earlier)) one → IsConnectSuccess id peer (ForConnect peer) one
        → IsConnectedIn id peer calls first
    connected is one among connects =
        let answered = answered-in first unlisted hold calls (IsConnectSuccess id peer) (connects-answers id peer) (IsOffered id peer OwnConnect)
        (record { earlier = is.earlier; call = is.call; later = is.later; split = is.split; did = (one, among, (ForConnect peer, connects)); holds = is.holds }) in
        let inputs = answered.front ++ answered.input ∷ answered.back in
        let there : Contains inputs answered.input = has-contains answered.input inputs (has-right answered.input answered.front (answered.input ∷ answered.back) (inl refl)) in
        (answered, connect-called peer answered.earlier answered.call answered.input (subst (λ (l : List Input). Contains l answered.input) (sym answered.cut) there) answered.did.listed)

    caused : (origin : Origin) → IsMadeLast origin → HasOfferCause id peer origin calls first
    caused OwnConnect is = by is.did
      where
        by : IsDoneBy (Making id peer OwnConnect) is.call (state_after_all first is.earlier) → IsConnectedIn id peer calls first
        by (one, among, inl (own, connects)) = connected is one among connects
        by (one, among, inr none) = absurd none
    caused (ServerRequest request) is = by is.did
      where
        by : IsDoneBy (Making id peer (ServerRequest request)) is.call (state_after_all first is.earlier) → IsAttemptedIn id peer (ServerRequest request) calls first
        by (one, among, inl (own, connects)) = cc
        by (one, among, inr attempts) = attempted (ServerRequest request) is one among attempts
    caused ServerIndication is = by is.did
      where
        by : IsDoneBy (Making id peer ServerIndication) is.call (state_after_all first is.earlier) → IsAttemptedIn id peer ServerIndication calls first
        by (one, among, inl (own, connects)) = cc
        by (one, among, inr attempts) = attempted ServerIndication is one among attempts

    offer-caused : (origin : Origin) → IsOffered id peer origin (state_after_all first calls) → HasOfferCause id peer origin calls first
    offer-caused origin h =
        caused origin
        (run-did (IsOffered id peer origin) (IsDoneBy (Making id peer origin)) (λ s. ⊤) (λ call s any. tt) (call-offers id peer origin) calls first tt
        (λ (r, there). contains-has (offer_to id peer origin r) [] (subst (λ (gs : List Grant). Contains gs (offer_to id peer origin r)) empty there)) h)

  -- the call that opened a connection took an offer that has its cause
  opened : (id : ℕ) (local peer : SocketAddr) (calls : List Call) (is : IsDoneLast (IsOpening id local peer) (IsListed (ForBind local peer id)) calls first) → IsOpened id local peer calls first
  opened id local peer calls is =
      let s = state_after_all first is.earlier in
      let (tuple, now, named, opens) = is.did in
      let step = AllocatedTcpSocket id tuple peer (Some local) now in
      let takes = opened-takes id peer local opens.origin now s opens.found in
      let stood = takes.front ++ offer_to id peer opens.origin takes.is_reported ∷ takes.back in
      let there = has-contains (offer_to id peer opens.origin takes.is_reported) stood (has-right _ takes.front (offer_to id peer opens.origin takes.is_reported ∷ takes.back) (inl refl)) in
      record {
        earlier = is.earlier;
        tuple = tuple;
        now = now;
        later = is.later;
        split = is.split ∙ ap (λ (c : Call). is.earlier ++ c ∷ is.later) named;
        accepted = ap (λ (x : Result Unit TcpAllocateError × State). x.0) opens.step;
        origin = opens.origin;
        takes = subst (λ (x : Result Unit TcpAllocateError × State). TakesOffer id local peer opens.origin s x.1) (sym opens.step) takes;
        cause = offer-caused id peer is.earlier opens.origin
            (takes.is_reported, subst (λ (gs : List Grant). Contains gs (offer_to id peer opens.origin takes.is_reported)) (sym takes.stood) there);
      }

  -- the connection that an input is to bind was opened in an earlier call
  bind-opened : (id : ℕ) (local peer : SocketAddr) (earlier : List Call) (call : Call) (one : Input) → Contains (handled call (state_after_all first earlier)) one
      → Contains (purposes_of (id_of one.bytes) one.before) (ForBind local peer id) → IsOpened id local peer earlier first
  bind-opened id local peer earlier call one among listed =
      let p = ForBind local peer id in
      let s = state_after_all first earlier in
      let h = input-listed p call s one among (answered-listed p one.bytes one.before listed) in
      opened id local peer earlier
      (run-did (IsListed p) (IsOpening id local peer) (λ s. ⊤) (λ call s any. tt) (λ call s any. bind-listed id local peer call s) earlier first tt (none-listed p) h)

  -- what grants a bound connection binds it
  given-bind : (one : Input) (c : DataConnection) (p : Purpose) → IsGivenIn one p (Connection c) → (id : ℕ) × (p ≡ ForBind c.local c.peer id)
  given-bind one c (ForBind local peer id) (at, to, none) = (id, rw (at, to) refl)
  given-bind one c ForAllocation given = absurd given
  given-bind one c p given = absurd given

  granted-for : (c : DataConnection) (calls : List Call) → IsGranted (Connection c) calls first → IsGrantedForOffer c calls first
  granted-for c calls granted =
      let one = granted.input in
      let (id, for) = given-bind one c granted.purpose granted.did.given in
      let inputs = granted.front ++ one ∷ granted.back in
      let there : Contains inputs one = has-contains one inputs (has-right one granted.front (one ∷ granted.back) (inl refl)) in
      let among = subst (λ (l : List Input). Contains l one) (sym granted.cut) there in
      let listed = subst (Contains (purposes_of (id_of one.bytes) one.before)) for granted.did.listed in
      (granted, (id, for, bind-opened id c.local c.peer granted.earlier granted.call one among listed))

  bound-for : (local peer : SocketAddr) (calls : List Call) (since : IsBoundSince local peer calls first) → IsBoundForOffer local peer calls first
  bound-for local peer calls since =
      let (one, among, (bind, asked, ended)) = since.success in
      let listed = subst (λ (to : SocketAddr). Contains (purposes_of (id_of one.bytes) one.before) (ForBind local to bind.number)) asked bind.listed in
      (since, bind-opened bind.number local peer since.earlier since.call one among listed)

pub bound-are-offered : (transport : TransportType) (own remote : SocketAddr) (config : Config) (seed : List ℕ) (calls : List Call)
    → BoundAreOffered (initial transport own remote config seed) calls
bound-are-offered transport own remote config seed calls =
    let first = initial transport own remote config seed in
    let hold = first-hold transport own remote config seed in (
      λ c (there, none). granted-for first refl refl hold c calls (grants-have-replies transport own remote config seed calls (Connection c) none there),
      λ local peer h. bound-for first refl refl hold local peer calls (streams-have-success transport own remote config seed calls local peer h),
    )
