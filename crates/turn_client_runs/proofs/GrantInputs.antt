-- What is active after an input was active before it, or the input granted it and ended the request that it
-- answers.
use Rattle.turn_client_laws.proofs.Common.{◌≡◌, ◌⊎◌, ◌∙◌, ℕ, Bool, true, cond, List, Option, Some, None, refl, subst, sym, ap, inl, inr, Contains, cases_Bool, SocketAddr, ⊤, IpAddr}
use Rattle.turn_client_laws.proofs.Machine.{id_of, Success, Challenge, IsValidated, validation_of, State, auth_of, Grant, Allocation, Permission, Channel, Connection, Relay, DataConnection, Active}
use Rattle.turn_client_laws.proofs.Machine.{Purpose, ForAllocation, ForRefresh, ForBind, ForPermission, ForChannel, Phase, Requesting, Allocated, Waiting, Stream, purposes_of, same_ip, same_address}
use Rattle.turn_client_laws.proofs.Machine.{bind_answered, bind_step, deadline_set, Fatal, SignedSuccess, Unrelated, answers_one, bind_judgement, challenge_in, challenged_or, class_in, judgement_of}
use Rattle.turn_client_laws.proofs.Machine.{requesting_judgement, is_message, message_step, connection_gone, same_address-true, Has, Lease}
use Rattle.turn_client_laws.proofs.Laws.{Input, processed, IsBindInput, IsGivenFor, IsGrant, IsGrantedBy, IsSameGrant, IsOverControl, IsAccepted, IsAwaited, IsNotAwaited, bind-ended, binds-input}
use Rattle.turn_client_laws.proofs.Laws.{found-local, Binds, BindsOrLeaves, bind-leaves, gone-leaves, has-mapped, message-grants, Covers, covers-left, IsBrought}
use Rattle.turn_client_runs.specs.Granted.{IsOverIts}
use Rattle.turn_client_runs.proofs.MadeLemmas.{control-made, success-ends, waiting-made}

-- ---- what is kept is the same, except that an allocation keeps only its address and its expiry

abbrev pub AreAllocations : Grant → Grant → Type 0
AreAllocations was g = (a b : Relay) × (was ≡ Allocation a) × (g ≡ Allocation b) × (a.relayed ≡ b.relayed) × (a.expiry ≡ b.expiry)

-- a permission or a channel that is active, kept or not
abbrev pub IsLeased : Grant → Type 0
IsLeased (Permission ip (Active lease)) = ⊤
IsLeased (Channel number peer (Active lease)) = ⊤
IsLeased _ = ⊥

pub kept-alike : (was g : Grant) → IsSameGrant was g → AreAllocations was g ⊎ ((was ≡ g) ⊎ (IsLeased was × IsLeased g))
kept-alike (Allocation a) (Allocation b) k = inl (a, b, refl, refl, k.0, k.1)
kept-alike (Permission ip (Active m)) (Permission other (Active n)) k = inr (inr (tt, tt))
kept-alike (Channel number peer (Active m)) (Channel other to (Active n)) k = inr (inr (tt, tt))
kept-alike (Connection c) (Connection d) (e, h) = inr (inl (rw e refl))
kept-alike was g k = absurd k

-- what is granted for a purpose is granted as what it is kept as
given-kept : (p : Purpose) (was g : Grant) (message : List ℕ) (now : ℕ) (s : State) → IsSameGrant was g → IsGivenFor p message now s was → IsGivenFor p message now s g
given-kept p was g message now s kept given = elim (kept-alike was g kept) [
  | inl (a, b, is, to, e, f) ↦ subst (IsGivenFor p message now s) (sym to) (same p a b e f (subst (IsGivenFor p message now s) is given))
  | inr (inl e) ↦ subst (IsGivenFor p message now s) e given
  | inr (inr leased) ↦ leases was g leased.1 kept given
]
  where
    permits : (q : Purpose) (ip other : IpAddr) (m n : Lease) → ip ≡ other → m.expiry ≡ n.expiry → IsGivenFor q message now s (Permission ip (Active m))
        → IsGivenFor q message now s (Permission other (Active n))
    permits (ForPermission a) ip other m n e d (same, ends) = (subst (λ (x : IpAddr). same_ip x a ≡ true) e same, sym d ∙ ends)
    permits q ip other m n e d none = absurd none

    binds : (q : Purpose) (number other : ℕ) (peer to : SocketAddr) (m n : Lease) → number ≡ other → peer ≡ to → m.expiry ≡ n.expiry → IsGivenFor q message now s (Channel number peer (Active m))
        → IsGivenFor q message now s (Channel other to (Active n))
    binds (ForChannel a at) number other peer to m n e f d (named, ends, there) = (sym e ∙ named, sym d ∙ ends, rw (sym e, sym f) there)
    binds q number other peer to m n e f d none = absurd none

    leases : (h i : Grant) → IsLeased i → IsSameGrant h i → IsGivenFor p message now s h → IsGivenFor p message now s i
    leases (Permission ip (Active m)) (Permission other (Active n)) leased (e, d) h = permits p ip other m n e d h
    leases (Channel number peer (Active m)) (Channel other to (Active n)) leased (e, f, d) h = binds p number other peer to m n e f d h
    leases (Allocation a) (Allocation b) leased k h = absurd leased
    leases (Connection c) (Connection d) leased k h = absurd leased
    leases x y leased k h = absurd k

    same : (q : Purpose) (a b : Relay) → a.relayed ≡ b.relayed → a.expiry ≡ b.expiry → IsGivenFor q message now s (Allocation a) → IsGivenFor q message now s (Allocation b)
    same ForAllocation a b e f h = rw (sym e, sym f) h
    same (ForRefresh family lifetime) a b e f h = rw (sym e, sym f) h
    same q a b e f h = h

-- ---- what an input grants

-- a connection from this local address to this peer existed before the input
abbrev pub IsConnectionTo : SocketAddr → SocketAddr → Input → Type 0
IsConnectionTo local peer one = (was : DataConnection) × Has (Connection was) one.before.grants × (was.local ≡ local) × (was.peer ≡ peer)

abbrev pub IsBoundFor : Input → Purpose → DataConnection → Type 0
IsBoundFor one (ForBind local peer id) c = (c.local ≡ local) × IsConnectionTo local c.peer one × (c.deadline ≡ None)
IsBoundFor one p c = ⊥

-- what the input grants: a connection that it binds, and all else as the machine says
abbrev pub IsGivenAt : Input → Purpose → Grant → Type 0
IsGivenAt one p (Connection c) = IsBoundFor one p c
IsGivenAt one p g = IsGivenFor p one.bytes one.time one.before g

-- The input is a success, and answers a request for the purpose.
pub record IsAccepting (purpose : Purpose) (one : Input) : Type 0 where
  pub whole : is_message one.bytes ≡ true
  pub success : class_in one.bytes ≡ Success
  pub signed : IsValidated (validation_of (auth_of one.before) one.bytes)
  pub listed : Contains (purposes_of (id_of one.bytes) one.before) purpose
  pub outstanding : IsAwaited one.bytes one.before
  pub ended : IsNotAwaited one.bytes (processed one).1
  -- the first challenge was answered
  pub heard : one.before.phase ≡ Requesting → ⊥

-- before the first challenge is answered no reply is signed
requesting-unsigned : (b : Bool) (o : Option Challenge) → cond b (challenged_or Fatal o) Unrelated ≡ SignedSuccess → ⊥
requesting-unsigned true (Some challenge) e = cc
requesting-unsigned b o e = cc

-- the input granted it
pub record Granting (g : Grant) (one : Input) : Type 0 where
  pub over : IsOverIts g one
  pub purpose : Purpose
  pub accepting : IsAccepting purpose one
  pub given : IsGivenAt one purpose g

-- over the control connection
module _ (one : Input) (over : IsOverControl one) (whole : is_message one.bytes ≡ true) where
  pub accepting : judgement_of one.before one.bytes ≡ SignedSuccess → (was : Grant) (is : IsGrantedBy one.bytes one.time one.before was) → IsAccepting is.purpose one
  accepting judged was is = record {
    whole = whole;
    success = is.success;
    signed = is.signed;
    listed = is.listed;
    outstanding = is.outstanding;
    ended = rw (control-made one over whole) (success-ends one.bytes one.time one.before judged);
    heard = heard;
  }
    where
      heard : one.before.phase ≡ Requesting → ⊥
      heard e =
          let is : judgement_of one.before one.bytes ≡ requesting_judgement one.before one.bytes = rw e refl in
          requesting-unsigned (answers_one one.before one.bytes) (challenge_in one.before one.bytes) (sym is ∙ judged)

  granted : (g : Grant) → judgement_of one.before one.bytes ≡ SignedSuccess → IsGrant g one.bytes one.time one.before → Granting g one
  granted g judged (was, is, kept) = by g (accepting judged was is) (given-kept is.purpose was g one.bytes one.time one.before kept is.given)
    where
      none : (p : Purpose) (c : DataConnection) → IsGivenFor p one.bytes one.time one.before (Connection c) → ⊥
      none ForAllocation c h = h
      none p c h = h

      by : (h : Grant) → IsAccepting is.purpose one → IsGivenFor is.purpose one.bytes one.time one.before h → Granting h one
      by (Connection c) accepts given = absurd (none is.purpose c given)
      by h accepts given = record { over = over; purpose = is.purpose; accepting = accepts; given = given }

  control-grants : (g : Grant) → Covers (message_step one.bytes one.time one.before).1.grants g → Covers one.before.grants g ⊎ Granting g one
  control-grants g covers = elim (message-grants g one.bytes one.time one.before covers) [
    | inl there ↦ inl there
    | inr (judged, grant) ↦ inr (granted g judged grant)
  ]

-- ---- over a connection that waits to be bound

-- the second grant is a connection from this local address, bound, as which the first one existed
pub record IsBoundAs (local : SocketAddr) (was g : Grant) : Type 0 where
  pub c : DataConnection
  pub is : g ≡ Connection c
  pub at : c.local ≡ local
  pub old : DataConnection
  pub named : was ≡ Connection old
  pub same : old.local ≡ c.local
  pub to : old.peer ≡ c.peer

-- a grant that the map leaves existed before, or is such a connection
deadline-was : (local : SocketAddr) (g x : Grant) → g ≡ deadline_set local None x → (g ≡ x) ⊎ IsBoundAs local x g
deadline-was local g (Connection c) e = elim (cases_Bool (same_address c.local local)) [
  | inl f ↦ inr (record {
    c = record c { deadline = None };
    is = e ∙ rw f refl;
    at = same_address-true c.local local f;
    old = c;
    named = refl;
    same = refl;
    to = refl;
  })
  | inr f ↦ inl (e ∙ rw f refl)
]
deadline-was local g x e = inl e

module _ (one : Input) (stream : Stream) (of : one.stream ≡ Some stream) (waits : stream.mode ≡ Waiting) (whole : is_message one.bytes ≡ true) where
  -- the request is no longer outstanding
  bind-ends : (b : Binds stream.local one.bytes one.before (bind_step stream.local one.bytes one.time one.before)) → one.before.phase ≡ Allocated → IsNotAwaited one.bytes (processed one).1
  bind-ends b phase =
      let steps : bind_step stream.local one.bytes one.time one.before ≡ bind_answered b.c one.bytes one.time one.before = rw (phase, b.found, b.method) refl in
      let judged : IsAccepted (bind_judgement one.before b.c.local one.bytes) = rw b.judged tt in
      rw (waiting-made stream.local one (rw of (waits, refl)) whole, steps) (bind-ended b.c one.bytes one.time one.before judged)

  pub bind-accepting : (b : Binds stream.local one.bytes one.before (bind_step stream.local one.bytes one.time one.before)) → one.before.phase ≡ Allocated
      → (bind_input : IsBindInput stream.local b.c.peer one) → IsAccepting (ForBind stream.local bind_input.asked bind_input.number) one
  bind-accepting b phase bind_input = record {
    whole = whole;
    success = bind_input.success;
    signed = bind_input.signed;
    listed = bind_input.listed;
    outstanding = bind_input.outstanding;
    ended = bind-ends b phase;
    heard = λ e. let no : Requesting ≡ Allocated = sym e ∙ phase in cc;
  }

  -- the connection is the one from the local address over which the message was received
  bound-granting : (b : Binds stream.local one.bytes one.before (bind_step stream.local one.bytes one.time one.before)) → one.before.phase ≡ Allocated → (g : Grant) (c : DataConnection)
      → c.local ≡ b.c.local → IsConnectionTo c.local c.peer one → IsSameGrant (Connection c) g → Granting g one
  bound-granting b phase (Connection d) c at (was, before, ends, to) (same, none) =
      let here : c.local ≡ stream.local = at ∙ found-local stream.local b.c _ b.found in
      let alike : c.peer ≡ d.peer = ap (λ (x : DataConnection). x.peer) same in
      let bind_input = binds-input one stream (bind_step stream.local one.bytes one.time one.before) of waits whole b in
      record {
        over = rw of (waits, sym here ∙ ap (λ (x : DataConnection). x.local) same);
        purpose = ForBind stream.local bind_input.asked bind_input.number;
        accepting = bind-accepting b phase bind_input;
        given = (sym (ap (λ (x : DataConnection). x.local) same) ∙ here, (was, before, ends ∙ here, to ∙ alike), sym (ap (λ (x : DataConnection). x.deadline) same) ∙ none);
      }
  bound-granting b phase g c at there k = absurd k

  bind-covers : (g : Grant) → one.before.phase ≡ Allocated → Binds stream.local one.bytes one.before (bind_step stream.local one.bytes one.time one.before)
      → Covers (bind_step stream.local one.bytes one.time one.before).grants g → Covers one.before.grants g ⊎ Granting g one
  bind-covers g phase b (is, there, kept) =
      let (x, before, e) = has-mapped (deadline_set b.c.local None) is one.before.grants (subst (Has is) b.grants there) in
      elim (deadline-was b.c.local is x e) [
        | inl same ↦ inl (is, rw same before, kept)
        | inr bound ↦
            let old = subst (λ (y : Grant). Has y one.before.grants) bound.named before in
            inr (bound-granting b phase g bound.c bound.at (bound.old, old, bound.same, bound.to) (rw bound.is at kept))
      ]

  binds-grants : (g : Grant) → Covers (bind_step stream.local one.bytes one.time one.before).grants g → Covers one.before.grants g ⊎ Granting g one
  binds-grants g = by one.before.phase refl (bind-leaves stream.local one.bytes one.time one.before)
    where
      t : State
      t = bind_step stream.local one.bytes one.time one.before

      same : t ≡ one.before → Covers t.grants g → Covers one.before.grants g ⊎ Granting g one
      same e covers = inl (subst (λ (u : State). Covers u.grants g) e covers)

      by : (p : Phase) → one.before.phase ≡ p → BindsOrLeaves stream.local one.bytes one.before t → Covers t.grants g → Covers one.before.grants g ⊎ Granting g one
      by Allocated e (inl b) covers = bind-covers g e b covers
      by Allocated e (inr (leaves, streams)) covers = inl (covers-left one.before.grants _ g leaves covers)
      by p e leaves covers = same (rw e refl) covers

-- ---- all inputs

pub granting-brought : (g : Grant) → IsBrought (λ s. Covers s.grants g) (Granting g)
granting-brought g = record {
  differs = λ s t differs covers. subst (λ (x : List Grant). Covers x g) (ap (λ (x : State). x.grants) differs.others) covers;
  message = λ one over whole. control-grants one over whole g;
  binds = λ one stream of waits whole. binds-grants one stream of waits whole g;
  gone = λ local s. covers-left s.grants (connection_gone local s).grants g (gone-leaves local s);
  ended = λ s covers. covers;
}
