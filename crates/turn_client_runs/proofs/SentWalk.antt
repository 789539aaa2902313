-- What a run queues, requests and holds: what its calls named, signed under challenges that came in.
use Rattle.turn_client_laws.proofs.Common.{◌≡◌, ◌∙◌, ◌++◌, ℕ, leb, ltb, List, [], ◌∷◌, Option, Some, refl, sym, subst, ap, inl, inr, ⊤, Contains, SocketAddr, cases_Bool, same_Some, none-some, IsSome, socket_ip, IpAddr}
use Rattle.turn_client_laws.proofs.Machine.{id_of, Challenge, challenge_in, message_step, bind_step, connection_gone, without_stream, Transaction, State, Call, Delete, CreatePermission, BindChannel, next_refresh}
use Rattle.turn_client_laws.proofs.Machine.{TcpConnect, AllocatedTcpSocket, PollTransmit, Recv, PollRecv, Grant, Allocation, Permission, Channel, Listing, Active, Purpose, ForAllocation}
use Rattle.turn_client_laws.proofs.Machine.{ForPermission, ForChannel, ForBind, Phase, Authenticating, Allocated, phase_after, phase_with, Queued, Stream, purposes_of}
use Rattle.turn_client_laws.proofs.Machine.{refresh_purpose, same_ip-true, state_after, state_after_all, Has, Connection, connection_at, is_connection_from, without_grants}
use Rattle.turn_client_laws.proofs.Laws.{Input, handled, processed, InputsLead, DiffersInStreams, ProcessesInputs, TakesInput, AsksFor, IsAnswer, IsListedFor, IsSameGrant, IsActiveGrant, HasDistinctNumbers, on_test}
use Rattle.turn_client_laws.proofs.Laws.{HasGrantsAsked, KeepsAllEdits, all-phase-edits, edits-IsKept, IsKept, input-by, calls-do, calls-walk, listings-made, purposes-listed, message-moves, bind-moves, gone-settles}
use Rattle.turn_client_laws.proofs.Laws.{leaves-HasGrantsAsked, leaves-apart, contains-has, has-contains, covers-has, covers-stood, listing, HasChannelTo}
use Rattle.turn_client_laws.specs.LawsStates.{HoldsChallenge, IsHeldIn}
use Rattle.turn_client_runs.specs.Leaving.{IsOwnRequest, Names}
use Rattle.turn_client_runs.proofs.AskedPeers.{inputs-ask-peers, HasAskedPeers}
use Rattle.turn_client_runs.proofs.CallGrants.{call-causes}
use Rattle.turn_client_runs.proofs.GrantInputs.{IsGivenAt}
use Rattle.turn_client_runs.specs.Inputs.{handled_in}
use Rattle.turn_client_runs.proofs.InputsOfRuns.{takes-or}
use Rattle.turn_client_runs.proofs.LastingTransmits.{next-of}
use Rattle.turn_client_runs.proofs.ListedPurposes.{answered-listed, input-listed}
use Rattle.turn_client_runs.proofs.SentCalls.{IsAskedNow, IsOpenedIf, call-queues, listed-opens, else-opened}
use Rattle.turn_client_runs.proofs.SentQueues.{GoesOut, IsControlText, IsListedOrFirst, IsRequestText, IsTakenBy, Queues, bind-queues, message-queues, queues-same}
use Rattle.turn_client_runs.proofs.SentTexts.{IsElse, Requests, Responds}
use Rattle.turn_client_runs.proofs.TogetherLemmas.{listing-here}
use Rattle.turn_client_laws.proofs.Common.{Contains-append_left, Contains-append_right, is_some}

-- ---- what never changes of a client

abbrev pub Stays : State → State → Type 0
Stays s t = (t.transport ≡ s.transport) × (t.local ≡ s.local) × (t.remote ≡ s.remote) × (t.config ≡ s.config)

pub Stays-KeepsAllEdits : KeepsAllEdits Stays
Stays-KeepsAllEdits = all-phase-edits ⊤ Stays (record {
  edits = record {
    rest = λ s t. (refl, refl, refl, refl);
    trans = λ s t u first later. (later.0 ∙ first.0, later.1 ∙ first.1, later.2 ∙ first.2, later.3 ∙ first.3);
    sends = λ now s. (refl, refl, refl, refl);
    begins = λ now s new. (refl, refl, refl, refl);
    ends = λ s. (refl, refl, refl, refl);
  };
  holds = λ message d s e. (refl, refl, refl, refl);
  counts = λ s held few. (refl, refl, refl, refl);
  resets = λ accepted s. (refl, refl, refl, refl);
  allocates = λ addresses s e. (refl, refl, refl, refl);
})

stays-kept : IsKept Stays
stays-kept = edits-IsKept Stays Stays-KeepsAllEdits (λ s streams. (refl, refl, refl, refl))

-- ---- a challenge is held from the first one on

abbrev StaysHeld : State → State → Type 0
StaysHeld s t = HoldsChallenge s → HoldsChallenge t

held-in : (p : Phase) (held : Option Challenge) → IsSome held → IsHeldIn p held
held-in Authenticating held some = some
held-in Allocated held some = some
held-in p held some = tt

StaysHeld-KeepsAllEdits : KeepsAllEdits StaysHeld
StaysHeld-KeepsAllEdits = all-phase-edits ⊤ StaysHeld (record {
  edits = record { rest = λ s t h. h; trans = λ s t u before after h. after (before h); sends = λ now s h. h; begins = λ now s new h. tt; ends = λ s h. tt };
  holds = λ message d s e h. held-in s.phase (Some d) refl;
  counts = λ s held few h. held-in (phase_after s.phase) s.held held;
  resets = λ accepted s h. h;
  allocates = λ addresses s e h. held-in (phase_with addresses) s.held (subst (λ (p : Phase). IsHeldIn p s.held) e h);
})

held-kept : IsKept StaysHeld
held-kept = edits-IsKept StaysHeld StaysHeld-KeepsAllEdits (λ s streams h. h)

-- ---- what is queued, awaited, listed and held

-- this may be requested, and these challenges came in
module _ (Asked : Purpose → Type 0) (Taken : Challenge → Type 0) (first : State) (own : (p : Purpose) → IsOwnRequest p → Asked p)
    (brings : (number : ℕ) (peer : SocketAddr) → Asked (ForChannel number peer) → Asked (ForPermission (socket_ip peer))) where
  pub record GoesWell (s : State) : Type 0 where
    pub stays : Stays first s
    pub holds : HoldsChallenge s
    pub queue : (q : Queued) → Has q s.queue → GoesOut Asked Taken first q
    pub outstanding : (x : Transaction) → Has x s.transactions → IsRequestText Asked Taken first x.request
    pub listed : (l : Listing) → Has l s.listed → Asked l.purpose
    pub held : (d : Challenge) → s.held ≡ Some d → Taken d

  -- what is asked and taken now was asked and taken in the run
  module _ (AskedNow : Purpose → Type 0) (TakenNow : Challenge → Type 0) (s : State) (well : GoesWell s) (asked : (p : Purpose) → AskedNow p → Asked p)
      (taken : (d : Challenge) → TakenNow d → Taken d) where
    requests-still : (p : Purpose) (text : List ℕ) → Requests TakenNow s.config p text → Requests Taken first.config p text
    requests-still p text (u, (config, (d, held, is)), made) = (u, (config ∙ well.stays.3, (d, held, taken d is)), made)

    responds-still : (text : List ℕ) → Responds TakenNow s.config text → Responds Taken first.config text
    responds-still text (u, (config, (d, held, is)), says) = (u, (config ∙ well.stays.3, (d, held, taken d is)), says)

    control-still : (text : List ℕ) → IsControlText AskedNow TakenNow s text → IsControlText Asked Taken first text
    control-still text (inl (p, other, is, requests)) = inl (p, other, asked p is, requests-still p text requests)
    control-still text (inr responds) = inr (responds-still text responds)

    queued-still : (q : Queued) → GoesOut AskedNow TakenNow s q → GoesOut Asked Taken first q
    queued-still q (transport, to, inl (control, text)) = (transport ∙ well.stays.0, to ∙ well.stays.2, inl (control ∙ well.stays.1, control-still q.packet.payload text))
    queued-still q (transport, to, inr (peer, id, is, requests)) =
        (transport ∙ well.stays.0, to ∙ well.stays.2, inr (peer, id, asked (ForBind q.packet.from peer id) is, requests-still (ForBind q.packet.from peer id) q.packet.payload requests))

    request-still : (text : List ℕ) → IsRequestText AskedNow TakenNow s text → IsRequestText Asked Taken first text
    request-still text (inl (p, is, requests)) = inl (p, asked p is, requests-still p text requests)
    request-still text (inr (u, config, made)) = inr (u, config ∙ well.stays.3, made)

    goes-on : (t : State) → Stays s t → StaysHeld s t → Queues AskedNow TakenNow s t → ((l : Listing) → Has l t.listed → Asked l.purpose) → GoesWell t
    goes-on t stays holds (queue, outstanding, held) listed = record {
      stays = (stays.0 ∙ well.stays.0, stays.1 ∙ well.stays.1, stays.2 ∙ well.stays.2, stays.3 ∙ well.stays.3);
      holds = holds well.holds;
      queue = λ q there. elim (queue q there) [ inl old ↦ well.queue q old | inr new ↦ queued-still q new ];
      outstanding = λ x there. elim (outstanding x there) [
        | inl (y, old, same) ↦ subst (IsRequestText Asked Taken first) (sym same) (well.outstanding y old)
        | inr new ↦ request-still x.request new
      ];
      listed = listed;
      held = λ d e. taken d (held d e);
    }

  -- ---- an input

  listed-asked : (s : State) → GoesWell s → (p : Purpose) → IsListedOrFirst s p → Asked p
  listed-asked s well p (inl (l, there, is)) = subst Asked is (well.listed l there)
  listed-asked s well p (inr is) = subst Asked (sym is) (own ForAllocation tt)

  -- what is listed in answer to a message was listed before
  answers-asked : (message : List ℕ) (s : State) → GoesWell s → (p : Purpose) → IsAnswer message s p → Asked p
  answers-asked message s well p answers =
      listed-asked s well p (inl (purposes-listed (id_of message) s p (contains-has p (purposes_of (id_of message) s) answers)))

  -- the challenge in the message came in
  module _ (message : List ℕ) (s : State) (well : GoesWell s) (heard : (d : Challenge) → challenge_in s message ≡ Some d → Taken d) where
    taken-by : (d : Challenge) → IsTakenBy message s d → Taken d
    taken-by d (inl held) = well.held d held
    taken-by d (inr is) = heard d is

    message-goes : (now : ℕ) → GoesWell (message_step message now s).1
    message-goes now =
        goes-on (IsListedOrFirst s) (IsTakenBy message s) s well (listed-asked s well) taken-by (message_step message now s).1 (stays-kept.message message now s)
        (held-kept.message message now s)
        (message-queues message now s well.holds)
        (λ l there. elim ((message-moves message now s).1 l there) [ inl old ↦ well.listed l old | inr (purpose, answers, also, made) ↦ answers-asked message s well l.purpose also ])

    bind-goes : (local : SocketAddr) (now : ℕ) → GoesWell (bind_step local message now s)
    bind-goes local now =
        goes-on (IsListedOrFirst s) (IsTakenBy message s) s well (listed-asked s well) taken-by (bind_step local message now s) (stays-kept.binds local message now s)
        (held-kept.binds local message now s)
        (bind-queues message now s local)
        (λ l there. elim ((bind-moves local message now s).1 l there) [ inl old ↦ well.listed l old | inr (purpose, answers, also, made) ↦ answers-asked message s well l.purpose also ])

  streams-go : (s : State) (streams : List Stream) → GoesWell s → GoesWell (record s { streams = streams })
  streams-go s streams well = record { stays = well.stays; holds = well.holds; queue = well.queue; outstanding = well.outstanding; listed = well.listed; held = well.held }

  differs-go : (s t : State) → DiffersInStreams s t → GoesWell s → GoesWell t
  differs-go s t differs well = subst GoesWell (sym differs.others) (streams-go s t.streams well)

  gone-goes : (at : SocketAddr) (s : State) → GoesWell s → GoesWell (connection_gone at s)
  gone-goes at s well =
      goes-on (λ p. ⊥) (λ d. s.held ≡ Some d) s well (λ p none. absurd none) well.held (connection_gone at s) (stays-kept.gone at s) (held-kept.gone at s)
      (on_test (Queues (λ p. ⊥) (λ d. s.held ≡ Some d) s) (is_some (connection_at at s)) _ s (same (record (without_grants (is_connection_from at) s) { closes = at ∷ s.closes }) refl refl refl)
      (same s refl refl refl))
      (λ l there. elim ((gone-settles at s).1 l there) [ inl old ↦ well.listed l old | inr none ↦ absurd none ])
    where
      same : (t : State) → t.queue ≡ s.queue → t.transactions ≡ s.transactions → t.held ≡ s.held → Queues (λ p. ⊥) (λ d. s.held ≡ Some d) s t
      same t e f g = queues-same (λ p. ⊥) (λ d. s.held ≡ Some d) s t e (λ x there. subst (Has x) f there) (λ d h. sym g ∙ h)

  -- each challenge in the input came in
  abbrev pub IsHeard : Input → Type 0
  IsHeard one = (d : Challenge) → challenge_in one.before one.bytes ≡ Some d → Taken d

  input-goes : (one : Input) → IsHeard one → GoesWell one.before → GoesWell (processed one).1
  input-goes one heard well =
      input-by GoesWell one well (λ over whole. message-goes one.bytes one.before well heard one.time)
      (λ stream of waits whole. bind-goes one.bytes one.before well heard stream.local one.time)

  lead-goes : (inputs : List Input) (s t : State) → InputsLead inputs s t → ((one : Input) → Has one inputs → IsHeard one) → GoesWell s → GoesWell t
  lead-goes [] s t lead heard well = differs-go s t lead well
  lead-goes (x ∷ later) s t (front, lead) heard well =
      lead-goes later (processed x).1 t lead (λ one there. heard one (inr there)) (input-goes x (heard x (inl refl)) (differs-go s x.before front well))

  -- ---- a call

  -- each active grant for a peer was asked
  abbrev pub IsGrantAsked : Grant → Type 0
  IsGrantAsked (Permission ip (Active lease)) = Asked (ForPermission ip)
  IsGrantAsked (Channel number peer (Active lease)) = Asked (ForChannel number peer)
  IsGrantAsked g = ⊤

  abbrev pub GrantsAreAsked : State → Type 0
  GrantsAreAsked s = (g : Grant) → Has g s.grants → IsGrantAsked g

  -- so is each that is the same but for its times
  same-asked : (was g : Grant) → IsSameGrant was g → IsGrantAsked was → IsGrantAsked g
  same-asked (Permission ip (Active m)) (Permission other (Active n)) (e, d) asked = subst (λ (x : IpAddr). Asked (ForPermission x)) e asked
  same-asked (Channel number peer (Active m)) (Channel other to (Active n)) (e, f, d) asked =
      subst (λ (x : ℕ). Asked (ForChannel x to)) e (subst (λ (x : SocketAddr). Asked (ForChannel number x)) f asked)
  same-asked (Allocation a) (Allocation b) kept asked = tt
  same-asked (Connection c) (Connection d) kept asked = tt
  same-asked was g kept asked = absurd kept

  -- and each that was granted for what was asked
  given-asked : (one : Input) → HasAskedPeers one → (g : Grant) (p : Purpose) → Contains (purposes_of (id_of one.bytes) one.before) p → Asked p → IsGivenAt one p g → IsGrantAsked g
  given-asked one peers (Permission other (Active lease)) (ForPermission ip) listed asked (same, ends) =
      subst (λ (x : IpAddr). Asked (ForPermission x)) (sym (same_ip-true other ip same)) asked
  given-asked one peers (Channel other to (Active lease)) (ForChannel number peer) listed asked (same, ends, here) =
      let at : to ≡ peer = peers number peer to listed (subst (λ (n : ℕ). HasChannelTo n to one.before) same here) in
      subst (λ (x : ℕ). Asked (ForChannel x to)) (sym same) (subst (λ (x : SocketAddr). Asked (ForChannel number x)) (sym at) asked)
  given-asked one peers (Permission other (Active lease)) p listed asked given = absurd given
  given-asked one peers (Channel other to (Active lease)) p listed asked given = absurd given
  given-asked one peers g p listed asked given = tt

  -- what is listed for a request that was asked was asked, too
  for-asked : (request p : Purpose) → IsListedFor request p → Asked request → Asked p
  for-asked request p (inl is) asked = subst Asked (sym is) asked
  for-asked (ForChannel number peer) (ForPermission ip) (inr is) asked = subst (λ (x : IpAddr). Asked (ForPermission x)) (sym is) (brings number peer asked)
  for-asked request p (inr none) asked = absurd none

  -- what is refreshed was granted
  refresh-asked : (now : ℕ) (g : Grant) (p : Purpose) → IsGrantAsked g → refresh_purpose now g ≡ Some p → Asked p
  refresh-asked now (Allocation a) p is e = elim (cases_Bool (leb now a.expiry)) [
    | inl f ↦ subst Asked (same_Some _ p (rw f at e)) (own _ refl)
    | inr f ↦ absurd (none-some p (rw f at e))
  ]
  refresh-asked now (Permission ip (Active lease)) p is e = elim (cases_Bool (ltb now lease.expiry)) [
    | inl f ↦ subst Asked (same_Some _ p (rw f at e)) is
    | inr f ↦ absurd (none-some p (rw f at e))
  ]
  refresh-asked now (Channel number peer (Active lease)) p is e = elim (cases_Bool (ltb now lease.expiry)) [
    | inl f ↦ subst Asked (same_Some _ p (rw f at e)) is
    | inr f ↦ absurd (none-some p (rw f at e))
  ]
  refresh-asked now g p is e = absurd (none-some p e)

  pub next-asked : (now : ℕ) (s : State) → GrantsAreAsked s → (p : Purpose) → next_refresh now s ≡ Some p → Asked p
  next-asked now s granted p e = let next = next-of now s p e in refresh-asked now next.grant p (granted next.grant next.there) next.gives

  module _ (call : Call) (s : State) (well : GoesWell s) (granted : GrantsAreAsked s) (named : (p : Purpose) → Names call p → IsOpenedIf call s p → Asked p) where
    t : State
    t = state_after call s

    -- what the call requests it names, or refreshes
    request-asked : (c : Call) → c ≡ call → (request : Purpose) (at : ℕ) → AsksFor c s request at → IsOpenedIf call s request → Asked request
    request-asked (Delete now) same request at (e, (family, f)) opened = named request (subst (λ (c : Call). Names c request) same (rw f refl)) opened
    request-asked (CreatePermission transport ip now) same request at (e, f) opened = named request (subst (λ (c : Call). Names c request) same (rw f refl)) opened
    request-asked (BindChannel transport peer now) same request at (e, (number, free, f)) opened = named request (subst (λ (c : Call). Names c request) same (rw f refl)) opened
    request-asked (TcpConnect peer now) same request at (e, f) opened = named request (subst (λ (c : Call). Names c request) same (rw f refl)) opened
    request-asked (AllocatedTcpSocket id tuple peer (Some local) now) same request at (e, f) opened =
        named request (subst (λ (c : Call). Names c request) same (rw f (refl, refl, refl))) opened
    request-asked (PollTransmit now) same request at (e, inl (new, f)) opened = subst Asked (sym f) (own ForAllocation tt)
    request-asked (PollTransmit now) same request at (e, inr (phase, f)) opened = next-asked now s granted request f
    request-asked c same request at none opened = absurd none

    asked-now : (p : Purpose) → IsAskedNow call s p → Asked p
    asked-now p ((at, asks), opened) = request-asked call refl p at asks opened

    -- what it lists was asked
    listed-else : (request p : Purpose) → IsElse p → IsListedFor request p → IsElse request
    listed-else request p other (inl is) = subst IsElse is other
    listed-else (ForBind local peer id) p other (inr none) = absurd none
    listed-else request p other (inr more) = tt

    call-lists : (TakesInput call → ⊥) → (l : Listing) → Has l t.listed → Asked l.purpose
    unfolding t
    call-lists other l there = by l.purpose refl
      where
        by : (p : Purpose) → l.purpose ≡ p → Asked l.purpose
        by (ForBind local peer id) is = elim (listed-opens local peer id call s l other is there) [
          | inl old ↦ well.listed l old
          | inr (tuple, now, e, accepted) ↦
              let names : Names call (ForBind local peer id) = subst (λ (c : Call). Names c (ForBind local peer id)) (sym e) (refl, refl, refl) in
              subst Asked (sym is) (named (ForBind local peer id) names (tuple, now, e, accepted))
        ]
        by p is = elim (listings-made call s t l (inl refl) (has-contains l t.listed there)) [
          | inl old ↦ well.listed l (contains-has l s.listed old)
          | inr made ↦ elim (listing-here call s) [
            | inl takes ↦ absurd (other takes)
            | inr here ↦
                let (request, at, asks, for, more) = here l made in
                let listed = subst (IsListedFor request) is for in
                subst Asked (sym is)
                (for-asked request p listed (request-asked call refl request at asks (else-opened call s request (listed-else request p tt listed))))
          ]
        ]

    -- it goes on, if the challenges among its inputs came in
    module _ (heard : (one : Input) → Has one (handled call s) → IsHeard one) where
      takes-goes : ProcessesInputs call s → GoesWell t
      unfolding t
      takes-goes (inl lead) = lead-goes (handled call s) s t lead heard well
      takes-goes (inr end) =
          let u = connection_gone end.local s in
          subst GoesWell (sym end.gone) (streams-go u (without_stream end.local u).streams (gone-goes end.local s well))

      other-goes : (TakesInput call → ⊥) → GoesWell t
      unfolding t
      other-goes other =
          goes-on (IsAskedNow call s) (λ d. s.held ≡ Some d) s well asked-now well.held t (calls-walk Stays Stays-KeepsAllEdits (λ s streams. (refl, refl, refl, refl)) call s)
          (calls-walk StaysHeld StaysHeld-KeepsAllEdits (λ s streams h. h) call s)
          (call-queues call s well.holds other) (call-lists other)

      call-goes : GoesWell t
      call-goes = elim (takes-or call) [ inl takes ↦ takes-goes (calls-do call s takes) | inr none ↦ by call refl ]
        where
          by : (c : Call) → c ≡ call → GoesWell t
          by (Recv packet now) same = takes-goes (calls-do call s (subst TakesInput same tt))
          by (PollRecv now) same = takes-goes (calls-do call s (subst TakesInput same tt))
          by c same = other-goes (λ takes. subst (λ (x : Call). TakesInput x) (sym same) takes)

    -- what is granted was asked
    grants-asked : HasGrantsAsked s → HasDistinctNumbers s → GrantsAreAsked t
    unfolding t
    grants-asked have distinct g there = by g there
      where
        active : (g : Grant) → Has g t.grants → IsActiveGrant g → IsGrantAsked g
        active g there stands = elim (call-causes g call s (covers-stood t g (covers-has t.grants g there stands))) [
          | inl (was, before, kept) ↦ same-asked was g kept (granted was (contains-has was s.grants before))
          | inr (inl (a, now, is, how, end, was)) ↦ subst IsGrantAsked (sym is) tt
          | inr (inr (one, among, grants)) ↦
              let p = grants.purpose in
              let (id, listed) = input-listed p call s one among (answered-listed p one.bytes one.before grants.accepting.listed) in
              given-asked one (inputs-ask-peers call s have distinct one among) g p grants.accepting.listed (well.listed (listing id p) listed) grants.given
        ]

        by : (g : Grant) → Has g t.grants → IsGrantAsked g
        by (Permission ip (Active lease)) there = active (Permission ip (Active lease)) there tt
        by (Channel number peer (Active lease)) there = active (Channel number peer (Active lease)) there tt
        by g there = tt

  -- ---- a run

  pub record GoesOn (s : State) : Type 0 where
    pub well : GoesWell s
    pub granted : GrantsAreAsked s
    pub have : HasGrantsAsked s
    pub distinct : HasDistinctNumbers s

  pub run-goes : (calls : List Call) (s : State)
      → ((before : List Call) (call : Call) (later : List Call) → calls ≡ before ++ call ∷ later → (p : Purpose) → Names call p → IsOpenedIf call (state_after_all s before) p → Asked p)
      → ((one : Input) → Contains (handled_in s calls) one → IsHeard one) → GoesOn s → GoesOn (state_after_all s calls)
  unfolding t
  run-goes [] s named heard on = on
  run-goes (call ∷ calls) s named heard on =
      let t = state_after call s in
      let first_named = named [] call calls refl in
      let here : (one : Input) → Has one (handled call s) → IsHeard one = λ one there.
      heard one (Contains-append_left (handled call s) (handled_in t calls) one (has-contains one (handled call s) there)) in
      run-goes calls t (λ before x later e. named (call ∷ before) x later (ap (λ (l : List Call). call ∷ l) e))
      (λ one among. heard one (Contains-append_right (handled call s) (handled_in t calls) one among))
      (record {
        well = call-goes call s on.well on.granted first_named here;
        granted = grants-asked call s on.well on.granted first_named on.have on.distinct;
        have = leaves-HasGrantsAsked call s t (inl refl) on.have;
        distinct = leaves-apart call s t (inl refl) on.distinct;
      })
