-- What is active after a call: without a message of the server nothing is granted.
use Rattle.turn_client_laws.proofs.Common.{◌≡◌, ◌⊎◌, ℕ, Bool, List, [], ◌∷◌, map, Some, None, refl, sym, subst, inl, inr, true, find, IsSome, cases_Bool, none-some, SocketAddr}
use Rattle.turn_client_laws.proofs.Machine.{id_of, Challenge, same_address, State, later_by, Bound, Grant, Allocation, Permission, Channel, Connect, Offer, Connection, DataConnection, Pending}
use Rattle.turn_client_laws.proofs.Machine.{Reserved, Active, is_channel_of, purposes_of, without_grants, connection_bind_method, Judgement, Challenged, SignedSuccess, bind_judgement, is_bind_of}
use Rattle.turn_client_laws.proofs.Machine.{method_in, deadline_set, with_deadline, with_mode, bind_again, bind_answered, bind_step, connection_at, is_offer_of, offer_taken, without_first, bind_time}
use Rattle.turn_client_laws.proofs.Machine.{connection_gone}
use Rattle.turn_client_laws.proofs.Edits.{KeepsEdits, aged, rest-ignored}
use Rattle.turn_client_laws.proofs.EditsOfReplies.{gone-walk}
use Rattle.turn_client_laws.specs.LawsGranted.{IsActiveGrant, IsSameGrant}
use Rattle.turn_client_laws.proofs.StandLemmas.{Leaves, Left, kept-same, kept-trans, leaves-same, leaves-trans, left-cons, left-filter, left-map, left-skip, left-trans, left-one, left-same}
use Rattle.turn_client_laws.proofs.CaseLemmas.{bind-by, by_test, by_found}

-- ---- data connections

deadline-kept : (local : SocketAddr) (time : ℕ) (g : Grant) → IsActiveGrant (deadline_set local (Some time) g) → IsSameGrant g (deadline_set local (Some time) g)
deadline-kept local time (Connection c) =
    by_test (λ g. IsActiveGrant g → IsSameGrant (Connection c) g) (same_address c.local local) (Connection (record c { deadline = Some time })) (Connection c)
    (λ is stands. absurd (none-some time (sym stands))) (λ no. kept-same (Connection c))
deadline-kept local time g = kept-same g

deadline-left : (local : SocketAddr) (time : ℕ) (grants : List Grant) → Left grants (map (deadline_set local (Some time)) grants)
deadline-left local time grants = left-map (deadline_set local (Some time)) (deadline-kept local time) grants

again-leaves : (c : DataConnection) (id : ℕ) (d : Challenge) (now : ℕ) (s : State) → Leaves s (bind_again c id d now s)
again-leaves c id d now s =
    by_found (Leaves s) _ (find (is_bind_of c.local) (purposes_of id s)) s (λ purpose e. deadline-left c.local (later_by bind_time now) s.grants) (leaves-same s)

-- The connection at the local address is bound, by a signed success on it.
pub record Binds (local : SocketAddr) (message : List ℕ) (s t : State) : Type 0 where
  pub c : DataConnection
  pub found : connection_at local s ≡ Some c
  pub method : method_in message ≡ connection_bind_method
  pub judged : bind_judgement s c.local message ≡ SignedSuccess
  pub grants : t.grants ≡ (with_deadline c.local None s).grants
  pub streams : t.streams ≡ (with_mode c.local (Bound c.peer) s).streams

-- a message of the connection binds it, or leaves the streams and the active grants unchanged
abbrev pub BindsOrLeaves : SocketAddr → List ℕ → State → State → Type 0
BindsOrLeaves local message s t = Binds local message s t ⊎ (Leaves s t × (t.streams ≡ s.streams))

again-streams : (c : DataConnection) (id : ℕ) (d : Challenge) (now : ℕ) (s : State) → (bind_again c id d now s).streams ≡ s.streams
again-streams c id d now s = by_found (λ (t : State). t.streams ≡ s.streams) _ (find (is_bind_of c.local) (purposes_of id s)) s (λ purpose e. refl) refl

answered-leaves : (local : SocketAddr) (c : DataConnection) (message : List ℕ) (now : ℕ) (s : State) → connection_at local s ≡ Some c → method_in message ≡ connection_bind_method
    → BindsOrLeaves local message s (bind_answered c message now s)
answered-leaves local c message now s found method = by (bind_judgement s c.local message) refl
  where
    by : (j : Judgement) → bind_judgement s c.local message ≡ j → BindsOrLeaves local message s (bind_answered c message now s)
    by (Challenged d) e = rw e (inr (again-leaves c (id_of message) d now s, again-streams c (id_of message) d now s))
    by SignedSuccess e = inl (record { c = c; found = found; method = method; judged = e; grants = rw e refl; streams = rw e refl })
    by j e = rw e (inr (left-filter _ s.grants, refl))

pub bind-leaves : (local : SocketAddr) (message : List ℕ) (now : ℕ) (s : State) → BindsOrLeaves local message s (bind_step local message now s)
bind-leaves local message now s =
    bind-by (BindsOrLeaves local message s) local message now s (inr (leaves-same s, refl)) (λ c allocated found method. answered-leaves local c message now s found method)

-- ---- the edits of calls

first-left : (which : Grant → Bool) (grants : List Grant) → Left grants (without_first which grants)
first-left which [] = left-same []
first-left which (g ∷ others) = elim (cases_Bool (which g)) [
  | inl e ↦ rw e (left-skip g others others (left-same others))
  | inr e ↦ rw e (left-cons g g others (without_first which others) (kept-same g) (first-left which others))
]

-- whether a grant was reported does not count
aged-stands : (g : Grant) → (IsActiveGrant (aged g) → IsActiveGrant g) × (IsActiveGrant g → IsActiveGrant (aged g))
aged-stands (Allocation a) = (λ h. h, λ h. h)
aged-stands (Permission ip (Pending is_kept)) = (λ h. h, λ h. h)
aged-stands (Permission ip (Active lease)) = (λ h. h, λ h. h)
aged-stands (Permission ip (Reserved until)) = (λ h. h, λ h. h)
aged-stands (Channel number peer (Pending is_kept)) = (λ h. h, λ h. h)
aged-stands (Channel number peer (Active lease)) = (λ h. h, λ h. h)
aged-stands (Channel number peer (Reserved until)) = (λ h. h, λ h. h)
aged-stands g = (λ h. h, λ h. h)

aged-kept : (g : Grant) → IsActiveGrant g → IsSameGrant g (aged g) × IsSameGrant (aged g) g
aged-kept (Allocation a) = λ h. ((refl, refl), (refl, refl))
aged-kept (Permission ip (Pending is_kept)) = λ h. absurd h
aged-kept (Permission ip (Active lease)) = λ h. ((refl, refl), (refl, refl))
aged-kept (Permission ip (Reserved until)) = λ h. absurd h
aged-kept (Channel number peer (Pending is_kept)) = λ h. absurd h
aged-kept (Channel number peer (Active lease)) = λ h. ((refl, refl, refl), (refl, refl, refl))
aged-kept (Channel number peer (Reserved until)) = λ h. absurd h
aged-kept (Connect peer) = λ h. absurd h
aged-kept (Offer offer) = λ h. absurd h
aged-kept g = λ h. (kept-same g h, kept-same g h)

alike-kept : (g h : Grant) → aged h ≡ aged g → IsActiveGrant h → IsSameGrant g h
alike-kept g h e stands =
    let was : IsActiveGrant (aged g) = subst IsActiveGrant e ((aged-stands h).1 stands) in
    let is : IsSameGrant (aged g) h = subst (λ (x : Grant). IsSameGrant x h) e (aged-kept h stands).1 in
    kept-trans g (aged g) h (aged-kept g ((aged-stands g).0 was)).0 is

alike-left : (gs hs : List Grant) → map aged hs ≡ map aged gs → Left gs hs
alike-left [] [] e = left-same []
alike-left (g ∷ gs) (h ∷ hs) e =
    let first : aged h ≡ aged g = cc in
    let later : map aged hs ≡ map aged gs = cc in
    left-cons g h gs hs (alike-kept g h first) (alike-left gs hs later)
alike-left gs hs e = cc

pub Leaves-KeepsEdits : KeepsEdits Leaves
Leaves-KeepsEdits = record {
  rest = rest-ignored Leaves (λ s t. leaves-same s) leaves-trans;
  asks = λ id text purposes now s begun askable spelled. leaves-same s;
  unlists = λ which s. leaves-same s;
  removes = λ which s spares. left-filter _ s.grants;
  removes_family = λ family s. left-filter _ s.grants;
  takes_offer = λ id peer s. first-left (is_offer_of id peer) s.grants;
  ages = λ grants s e. alike-left s.grants grants e;
  permission = λ ip s phase room none. left-one s.grants (Permission ip (Pending true)) (λ stands. stands);
  channel = λ number peer s phase room none within. left-one s.grants (Channel number peer (Pending true)) (λ stands. stands);
  connect = λ peer s phase room none. left-one s.grants (Connect peer) (λ stands. stands);
  connection = λ id c origin s phase offer none waits. left-trans s.grants (offer_taken id c.peer s).grants _ (first-left (is_offer_of id c.peer) s.grants)
      (left-one (offer_taken id c.peer s).grants (Connection c) (unbound c waits));
  reserves = λ number peer was until s there. left-trans s.grants (without_grants (is_channel_of number) s).grants _ (left-filter _ s.grants)
      (left-one (without_grants (is_channel_of number) s).grants (Channel number peer (Reserved until)) (λ stands. stands));
}
  where
    unbound : (c : DataConnection) → IsSome c.deadline → IsActiveGrant (Connection c) → ⊥
    unbound c waits none = let no : IsSome {T = ℕ} None = rw none at waits in cc

pub gone-leaves : (local : SocketAddr) (s : State) → Leaves s (connection_gone local s)
gone-leaves = gone-walk Leaves Leaves-KeepsEdits
