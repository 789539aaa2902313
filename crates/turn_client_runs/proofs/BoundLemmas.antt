-- What is bound after a run was bound by an input of it.
use Rattle.turn_client_laws.proofs.Common.{◌≡◌, ◌⊎◌, ◌∙◌, ℕ, true, List, [], ◌∷◌, ◌++◌, Option, Some, None, inl, inr, refl, sym, subst, ap, Contains, SocketAddr, Contains-append_left}
use Rattle.turn_client_laws.proofs.Machine.{TransportType, Udp, Tcp, Config, State, first_streams, initial, bind_judgement, bind_answered, bind_step, is_message, state_after, state_after_all, Call}
use Rattle.turn_client_laws.proofs.Machine.{DataConnection, Connection, Purpose, ForBind, Control, Waiting, Phase, Allocated, Stream}
use Rattle.turn_client_laws.proofs.Laws.{Input, handled, processed, IsBindInput, IsBoundConnection, IsConnecting, IsSameGrant, IsBoundAt, IsDoneBy, IsOverControl, IsOverWaiting, TakesInput}
use Rattle.turn_client_laws.proofs.Laws.{IsAccepted, IsNotAwaited, HasNoDoubles, FitsPhase, HasGrantsAsked, found-local, initial-single, leaves-single, connection-there, initial-HasGrantsAsked}
use Rattle.turn_client_laws.proofs.Laws.{leaves-HasGrantsAsked, initial-steady, leaves-steadies, bind-ended, Binds, bind-leaves, Covers, contains-has, covers-has, covers-left, covers-stood, IsBrought}
use Rattle.turn_client_laws.proofs.Laws.{leaves-bring}
use Rattle.turn_client_runs.proofs.AskedPeers.{inputs-ask-connections}
use Rattle.turn_client_runs.proofs.QuietLemmas.{calls-keep}
use Rattle.turn_client_laws.proofs.BoundStreamLemmas as Streams
use Rattle.turn_client_laws.proofs.GrantedLemmas as Grants
use Rattle.turn_client_laws.proofs.StandLemmas as Stand
use Rattle.turn_client_runs.specs.Bound.{BindsToPeer, BoundConnectionsHaveSuccess, BoundStreamsHaveSuccess, HasConnectionSuccess, HasSuccess, HasTransactionEnded, IsBoundSince, StreamsAreBoundBefore}
use Rattle.turn_client_runs.specs.Inputs.{IsAmong, handled_in}
use Rattle.turn_client_runs.proofs.CallGrants.{quiet}
use Rattle.turn_client_runs.proofs.GrantInputs.{Granting, IsConnectionTo, IsGivenAt, granting-brought, kept-alike}
use Rattle.turn_client_runs.proofs.MadeLemmas.{waiting-made}
use Rattle.turn_client_runs.proofs.RunLemmas.{run-did}
use Rattle.turn_client_runs.proofs.InputsOfRuns.{among-left, among-none, among-right, in_call, takes-or}

-- ---- an input that binds ends its request

-- if it binds, its request is ended
binds-ended : (local : SocketAddr) (message : List ℕ) (now : ℕ) (s : State) → Binds local message s (bind_step local message now s) → (bind_step local message now s ≡ s)
    ⊎ IsNotAwaited message (bind_step local message now s)
binds-ended local message now s b = by s.phase refl
  where
    by : (p : Phase) → s.phase ≡ p → (bind_step local message now s ≡ s) ⊎ IsNotAwaited message (bind_step local message now s)
    by Allocated e =
        let steps : bind_step local message now s ≡ bind_answered b.c message now s = rw (e, b.found, b.method) refl in
        let accepted : IsAccepted (bind_judgement s b.c.local message) = rw b.judged tt in
        inr (rw steps (bind-ended b.c message now s accepted))
    by p e = inl (rw e refl)

-- no input is over both
pub not_both : (local : SocketAddr) (one : Input) → IsOverControl one → IsOverWaiting local one → ⊥
not_both local one control waiting = by one.stream refl
  where
    by : (o : Option Stream) → one.stream ≡ o → ⊥
    by None e = rw e at waiting
    by (Some stream) e =
        let c : stream.mode ≡ Control = rw e at control in
        let (w, ends) : (stream.mode ≡ Waiting) × (stream.local ≡ local) = rw e at waiting in
        cc (sym c ∙ w)

-- what two claims on an input cause is caused by an input of which both hold
both : (P : State → Type 0) (A B : Input → Type 0) → IsBrought P A → IsBrought P B → IsBrought P (λ one. A one × B one)
both P A B k l = record {
  differs = k.differs;
  message = λ one over whole h. join one (k.message one over whole h) (l.message one over whole h);
  binds = λ one stream of waits whole h. join one (k.binds one stream of waits whole h) (l.binds one stream of waits whole h);
  gone = k.gone;
  ended = k.ended;
}
  where
    join : (one : Input) → P one.before ⊎ A one → P one.before ⊎ B one → P one.before ⊎ (A one × B one)
    join one (inl there) second = inl there
    join one (inr a) (inl there) = inl there
    join one (inr a) (inr b) = inr (a, b)

-- ---- what only an input over a waiting connection causes ends its request there

module _ (P : State → Type 0) (Did : Input → Type 0) (k : IsBrought P Did) (waits : (one : Input) → Did one → (local : SocketAddr) × IsOverWaiting local one) (spares : (s t : State)
    → Stand.Leaves s t → t.streams ≡ s.streams → P t → P s) where
  abbrev Ends : Input → Type 0
  Ends one = Did one × HasTransactionEnded one

  bind-ends : (one : Input) (stream : Stream) → one.stream ≡ Some stream → stream.mode ≡ Waiting → is_message one.bytes ≡ true → P (bind_step stream.local one.bytes one.time one.before)
      → P one.before ⊎ Ends one
  bind-ends one stream of mode whole h =
      let t = bind_step stream.local one.bytes one.time one.before in
      let made : (processed one).1 ≡ t = waiting-made stream.local one (rw of (mode, refl)) whole in
      elim (bind-leaves stream.local one.bytes one.time one.before) [
        | inl b ↦ elim (binds-ended stream.local one.bytes one.time one.before b) [
          | inl same ↦ inl (subst P same h)
          | inr ended ↦ elim (k.binds one stream of mode whole h) [
            | inl there ↦ inl there
            | inr does ↦ inr (does, subst (λ (u : State). IsNotAwaited one.bytes u) (sym made) ended)
          ]
        ]
        | inr (leaves, same) ↦ inl (spares one.before t leaves same h)
      ]

  pub bringing-ends : IsBrought P (λ one. Did one × HasTransactionEnded one)
  bringing-ends = record {
    differs = k.differs;
    message = λ one over whole h. control one over (k.message one over whole h);
    binds = bind-ends;
    gone = k.gone;
    ended = k.ended;
  }
    where
      control : (one : Input) → IsOverControl one → P one.before ⊎ Did one → P one.before ⊎ Ends one
      control one over (inl there) = inl there
      control one over (inr did) = let (local, waiting) = waits one did in absurd (not_both local one over waiting)

  -- what no other call causes
  module _ (others : (call : Call) (s : State) → P (state_after call s) → P s ⊎ IsDoneBy Did call s) where
    pub call-ends : (call : Call) (s : State) → P (state_after call s) → P s ⊎ IsDoneBy (λ one. Did one × HasTransactionEnded one) call s
    call-ends call s h = elim (leaves-bring P Ends bringing-ends (λ call s. ⊥) other call s (state_after call s) (inl refl) h) [
      | inl there ↦ inl there
      | inr (inl no_other) ↦ absurd no_other
      | inr (inr did) ↦ inr did
    ]
      where
        other : (call : Call) (s : State) → (TakesInput call → ⊥) → P (state_after call s) → P s ⊎ ⊥
        other call s no_inputs there = elim (takes-or call) [
          | inl takes ↦ absurd (no_inputs takes)
          | inr nothing ↦ elim (others call s there) [
            | inl before ↦ inl before
            | inr did ↦ absurd (among-none Did (subst (IsAmong Did) (nothing s) did))
          ]
        ]

-- ---- the requests that bind are for connections that exist

abbrev Founded : State → Type 0
Founded s = HasGrantsAsked s × FitsPhase s × HasNoDoubles s

call-founded : (call : Call) (s : State) → Founded s → Founded (state_after call s)
call-founded call s (asked, steady, single) = (
  leaves-HasGrantsAsked call s (state_after call s) (inl refl) asked,
  leaves-steadies call s (state_after call s) (inl refl) steady,
  leaves-single call s (state_after call s) (inl refl) steady single,
)

initial-founded : (transport : TransportType) (own remote : SocketAddr) (config : Config) (seed : List ℕ) → Founded (initial transport own remote config seed)
initial-founded transport own remote config seed = (
  initial-HasGrantsAsked transport own remote config seed,
  initial-steady transport own remote config seed,
  initial-single transport own remote config seed,
)

-- ---- streams

module _ (local peer : SocketAddr) where
  abbrev IsBoundTo : State → Type 0
  IsBoundTo s = IsBoundAt local peer s

  abbrev BindsIt : Input → Type 0
  BindsIt one = IsBindInput local peer one

  waits : (one : Input) → BindsIt one → (at : SocketAddr) × IsOverWaiting at one
  waits one bind = (local, bind.over)

  spares : (s t : State) → Stand.Leaves s t → t.streams ≡ s.streams → IsBoundTo t → IsBoundTo s
  spares s t leaves same (x, there, at, mode) = (x, subst (λ (xs : List Stream). Contains xs x) same there, at, mode)

  -- a call binds a stream by such an input
  stream-ends : (call : Call) (s : State) → IsBoundTo (state_after call s) → IsBoundTo s ⊎ IsDoneBy (λ one. BindsIt one × HasTransactionEnded one) call s
  stream-ends =
      call-ends IsBoundTo BindsIt (Streams.bringing local peer) waits spares
      (λ call s h. Streams.leaves-bound local peer call s (state_after call s) (inl refl) h)

  -- its request was made for the peer
  binds-to-peer : (call : Call) (s : State) → Founded s → (one : Input) → Contains (handled call s) one → BindsIt one × HasTransactionEnded one → BindsToPeer local peer one
  binds-to-peer call s (asked, steady, single) one among (bind, ended) =
      let there = connection-there local bind.connection one.before bind.found in
      let at = found-local local bind.connection _ bind.found in
      let for = inputs-ask-connections call s asked steady single one among local bind.asked bind.number bind.connection bind.listed there at in
      (bind, sym for ∙ bind.to, ended)

  streams-bound : (call : Call) (s : State) → Founded s → IsBoundTo (state_after call s) → IsBoundTo s ⊎ HasSuccess local peer (handled call s)
  streams-bound call s founded h = elim (stream-ends call s h) [
    | inl was ↦ inl was
    | inr (one, among, did) ↦ inr (one, among, binds-to-peer call s founded one among did)
  ]

  streams-since : (s : State) (calls : List Call) → Founded s → (IsBoundTo s → ⊥) → IsBoundTo (state_after_all s calls) → IsBoundSince local peer calls s
  streams-since s calls founded none h =
      let is = run-did IsBoundTo (λ call u. HasSuccess local peer (handled call u)) Founded call-founded streams-bound calls s founded none h in
      record { earlier = is.earlier; call = is.call; later = is.later; split = is.split; success = is.did; since = is.holds }

  streams-before : (s : State) (calls : List Call) (earlier : List Call) (call : Call) (later : List Call) (front back : List Input) (one : Input) → Founded s → (IsBoundTo s → ⊥)
      → calls ≡ earlier ++ call ∷ later → handled call (state_after_all s earlier) ≡ front ++ one ∷ back → IsBoundTo one.before
      → IsBoundSince local peer earlier s ⊎ HasSuccess local peer front
  streams-before s calls earlier call later front back one founded none split e h =
      by (in_call IsBoundTo (λ one. BindsIt one × HasTransactionEnded one) (bringing-ends IsBoundTo BindsIt (Streams.bringing local peer) waits spares) stream-ends call
      (state_after_all s earlier) front back one e h)
    where
      now : State
      now = state_after_all s earlier

      by : IsBoundTo now ⊎ IsAmong (λ x. BindsIt x × HasTransactionEnded x) front → IsBoundSince local peer earlier s ⊎ HasSuccess local peer front
      by (inl there) = inl (streams-since s earlier founded none there)
      by (inr (x, among, did)) =
          let inside = subst (λ (inputs : List Input). Contains inputs x) (sym e) (Contains-append_left front (one ∷ back) x among) in
          inr (x, among, binds-to-peer call now (calls-keep Founded call-founded earlier s founded) x inside did)

  -- no stream of a new client is bound
  initial-unbound : (transport : TransportType) (own remote : SocketAddr) (config : Config) (seed : List ℕ) → IsBoundTo (initial transport own remote config seed) → ⊥
  initial-unbound Udp own remote config seed (x, there, at, mode) = contains-has x [] there
  initial-unbound Tcp own remote config seed (x, there, at, mode) = elim (contains-has x (first_streams Tcp own) there) [
    | inl e ↦ cc (sym (ap (λ (z : Stream). z.mode) e) ∙ mode)
    | inr none ↦ none
  ]

pub streams-have-success : (transport : TransportType) (own remote : SocketAddr) (config : Config) (seed : List ℕ) (calls : List Call)
    → BoundStreamsHaveSuccess (initial transport own remote config seed) calls
streams-have-success transport own remote config seed calls local peer h =
    streams-since local peer (initial transport own remote config seed) calls (initial-founded transport own remote config seed) (initial-unbound local peer transport own remote config seed) h

pub streams-are-bound-before : (transport : TransportType) (own remote : SocketAddr) (config : Config) (seed : List ℕ) (calls : List Call)
    → StreamsAreBoundBefore (initial transport own remote config seed) calls
streams-are-bound-before transport own remote config seed calls earlier call later front back one local peer split e h =
    streams-before local peer (initial transport own remote config seed) calls earlier call later front back one (initial-founded transport own remote config seed)
    (initial-unbound local peer transport own remote config seed) split e h

-- ---- data connections

module _ (c : DataConnection) where
  abbrev IsOpen : State → Type 0
  IsOpen s = Covers s.grants (Connection c)

  open-bound : (s : State) → IsOpen s → IsBoundConnection c s
  open-bound s stands =
      let (was, before, kept) = covers-stood s (Connection c) stands in
      elim (kept-alike was (Connection c) kept) [
        | inl (a, b, is, to, e, f) ↦ cc
        | inr (inl e) ↦ let same : IsSameGrant (Connection c) (Connection c) = rw e at kept in (subst (Contains s.grants) e before, same.1)
        | inr (inr leased) ↦ absurd leased.1
      ]

  bound-open : (s : State) → IsBoundConnection c s → IsOpen s
  bound-open s (there, none) = covers-has s.grants (Connection c) (contains-has (Connection c) s.grants there) none

  connection-others : (call : Call) (s : State) → IsOpen (state_after call s) → IsOpen s ⊎ IsDoneBy (IsConnecting c) call s
  connection-others call s stands = elim (Streams.leaves-connection call s (state_after call s) c (inl refl) (open-bound (state_after call s) stands)) [
    | inl was ↦ inl (bound-open s was)
    | inr did ↦ inr did
  ]

  -- the input binds a connection from its local address, and grants this one
  abbrev Joins : Input → Type 0
  Joins one = (IsConnecting c one × HasTransactionEnded one) × Granting (Connection c) one

  joining-brought : IsBrought IsOpen Joins
  joining-brought = both IsOpen (λ one. IsConnecting c one × HasTransactionEnded one) (Granting (Connection c))
      (bringing-ends IsOpen (IsConnecting c) (Grants.bringing (Connection c)) (λ one did. (c.local, did.1.over)) (λ s t leaves same. covers-left s.grants t.grants (Connection c) leaves))
      (granting-brought (Connection c))

  quiet-open : (call : Call) (s : State) → (TakesInput call → ⊥) → IsOpen (state_after call s) → IsOpen s ⊎ ⊥
  quiet-open call s other stands = elim (connection-others call s stands) [
    | inl was ↦ inl was
    | inr done ↦ absurd (among-none (IsConnecting c) (subst (IsAmong (IsConnecting c)) (quiet call s other) done))
  ]

  -- its peer is that of the connection that was there
  from-granted : (one : Input) (p : Purpose) → IsGivenAt one p (Connection c) → IsConnectionTo c.local c.peer one
  from-granted one (ForBind local peer id) (at, there, none) = subst (λ (x : SocketAddr). IsConnectionTo x c.peer one) (sym at) there
  from-granted one p given = absurd given

  -- whose request was made for the peer
  joins-to-peer : (call : Call) (s : State) → Founded s → (one : Input) → Contains (handled call s) one → Joins one → BindsToPeer c.local c.peer one
  joins-to-peer call s founded one among (((peer, bind), ended), granting) =
      let (asked, steady, single) = founded in
      let to : BindsToPeer c.local peer one = binds-to-peer c.local peer call s founded one among (bind, ended) in
      let (was, there, at, same) = from-granted one granting.purpose granting.given in
      let for = inputs-ask-connections call s asked steady single one among c.local to.0.asked to.0.number was to.0.listed there at in
      subst (λ (x : SocketAddr). BindsToPeer c.local x one) (sym to.1 ∙ (sym for ∙ same)) to

  call-joins : (call : Call) (s : State) → Founded s → IsOpen (state_after call s) → IsOpen s ⊎ HasConnectionSuccess c (handled call s)
  call-joins call s founded h = elim (leaves-bring IsOpen Joins joining-brought (λ call s. ⊥) quiet-open call s (state_after call s) (inl refl) h) [
    | inl was ↦ inl was
    | inr (inl none) ↦ absurd none
    | inr (inr (one, among, joins)) ↦ inr (one, among, joins-to-peer call s founded one among joins)
  ]

  run-joins : (s : State) (calls : List Call) → Founded s → IsOpen (state_after_all s calls) → IsOpen s ⊎ HasConnectionSuccess c (handled_in s calls)
  run-joins s [] founded h = inl h
  run-joins s (call ∷ calls) founded h =
      let more = handled_in (state_after call s) calls in
      elim (run-joins (state_after call s) calls (call-founded call s founded) h) [
        | inl there ↦ elim (call-joins call s founded there) [ inl was ↦ inl was | inr did ↦ inr (among-left (BindsToPeer c.local c.peer) (handled call s) more did) ]
        | inr among ↦ inr (among-right (BindsToPeer c.local c.peer) (handled call s) more among)
      ]

  connection-after : (s : State) (calls : List Call) → Founded s → s.grants ≡ [] → IsBoundConnection c (state_after_all s calls) → HasConnectionSuccess c (handled_in s calls)
  connection-after s calls founded none h = by (run-joins s calls founded (bound-open (state_after_all s calls) h))
    where
      by : IsOpen s ⊎ HasConnectionSuccess c (handled_in s calls) → HasConnectionSuccess c (handled_in s calls)
      by (inl (is, there, kept)) = absurd (rw none at there)
      by (inr among) = among

pub connections-have-success : (transport : TransportType) (own remote : SocketAddr) (config : Config) (seed : List ℕ) (calls : List Call)
    → BoundConnectionsHaveSuccess (initial transport own remote config seed) calls
connections-have-success transport own remote config seed calls c h =
    connection-after c (initial transport own remote config seed) calls (initial-founded transport own remote config seed) refl h
