-- Once the first challenge is answered, and until the allocation, all that is outstanding is a signed
-- ALLOCATE: messages keep that.
use Rattle.turn_client_laws.proofs.Common.{◌≡◌, ◌≤◌, ◌∙◌, ◌+◌, ℕ, Bool, true, false, not, eqb, ltb, List, [], ◌∷◌, ◌++◌, Option, Some, None, inl, inr, refl, sym, subst, ap, arith, IsSome, is_some, ⊤}
use Rattle.turn_client_laws.proofs.Common.{and_parts, eq-eqb, eqb-true, SocketAddr}
use Rattle.turn_client_laws.proofs.Machine.{waits_from, id_of, Challenge, first_sent, is_outstanding, is_response, without_transaction, Transaction, Config, State, Purpose, ForAllocation, Phase, New, Requesting}
use Rattle.turn_client_laws.proofs.Machine.{Authenticating, Allocated, Closed, bind_step, connection_at, closed, transaction_ended, fail_all, purposes_of, Challenged, Fatal, Unrelated, answers_one}
use Rattle.turn_client_laws.proofs.Machine.{challenge_in, class_in, judgement_of, challenge_step, message_step, wrong_step, connection_gone, fresh_id, request_for, phase_after, retried}
use Rattle.turn_client_laws.proofs.Machine.{state_after_retry, with_held, Has, has-filter}
use Rattle.turn_client_laws.proofs.Laws.{AllocatesInOrder, IsUngranted, IsMadeAs, rank, StayInOrder, StayInOrder-KeepsAllEdits, in_order-stated, stated-in_order, edits-IsKept, purposes-listed}
use Rattle.turn_client_laws.proofs.Laws.{retried-has, any-has, not-both, on_test, message-moves, Keeps, bind-keeps, message-keeps, IsKept, contains-has, has-contains, message-configured}
use Rattle.turn_client_runs.specs.Granted.{HaveOneRealm, IsSignedAllocate}
use Rattle.turn_client_runs.proofs.AppendLemmas.{has-last}

-- ---- what is kept

abbrev pub IsOfOneId : List Transaction → Type 0
IsOfOneId xs = (x y : Transaction) → Has x xs → Has y xs → x.id ≡ y.id

abbrev pub AreSigned : Config → Option Challenge → List Transaction → Type 0
AreSigned config held xs = (x : Transaction) → Has x xs → IsSignedAllocate config held x

-- nothing is outstanding, then the first ALLOCATE alone, then signed ones
abbrev pub SignsIn : Phase → Config → Option Challenge → List Transaction → Type 0
SignsIn New config held xs = xs ≡ []
SignsIn Requesting config held xs = IsOfOneId xs
SignsIn Authenticating config held xs = IsSome held × AreSigned config held xs
SignsIn Allocated config held xs = ⊤
SignsIn Closed config held xs = ⊤

abbrev pub Signs : State → Type 0
Signs s = SignsIn s.phase s.config s.held s.transactions

-- ---- phases

-- from the allocation on there is no claim
pub far-signs : (t : State) → 3 ≤ rank t.phase → Signs t
far-signs t far = by t.phase far
  where
    by : (p : Phase) → 3 ≤ rank p → SignsIn p t.config t.held t.transactions
    by Allocated far = tt
    by Closed far = tt
    by p far = absurd (omega (arith, far))

pub further-signs : (p : Phase) (s t : State) → s.phase ≡ p → 3 ≤ rank p → Keeps s t → Signs t
further-signs p s t e far keeps =
    let from : 3 ≤ rank s.phase = subst (λ (q : Phase). 3 ≤ rank q) (sym e) far in
    let on : rank s.phase ≤ rank t.phase = keeps.3.0 in
    far-signs t (omega (arith, from, on))

pub same-signs : (s t : State) → t ≡ s → Signs s → Signs t
same-signs s t e h = subst Signs (sym e) h

pub closed-signs : (s t : State) → t ≡ closed s → Signs t
closed-signs s t e = same-signs (closed s) t e tt

pub some-held : (o : Option Challenge) → IsSome o → (c : Challenge) × (o ≡ Some c)
some-held (Some c) some = (c, refl)
some-held None some = cc

-- what is held stays
held-on : (s t : State) → Keeps s t → IsSome s.held → IsSome t.held
held-on s t keeps some =
    let (c, e) = some-held s.held some in
    let (d, f, realm, algorithm) = keeps.2 c e in
    rw f refl

-- and its realm
realm-on : (was : Option Challenge) (s t : State) → Keeps s t → HaveOneRealm was s.held → HaveOneRealm was t.held
realm-on was s t keeps (c, d, e, f, realm, algorithm) =
    let (next, is, same, alike) = keeps.2 d f in
    (c, next, e, is, realm ∙ sym same, algorithm ∙ sym alike)

-- that of one challenge
own-realm : (held : Option Challenge) → IsSome held → HaveOneRealm held held
own-realm held some = let (c, e) = some-held held some in (c, c, e, e, refl, refl)

-- if a challenge is answered, what was signed stays so, and what is added is
pub later-signs : (s t : State) → s.phase ≡ Authenticating → Signs s → Keeps s t → t.config ≡ s.config
    → ((x : Transaction) → Has x t.transactions → t.phase ≡ Authenticating → IsSome t.held → AreSigned t.config t.held s.transactions → IsSignedAllocate t.config t.held x)
    → Signs t
later-signs s t e h keeps same each = by t.phase refl
  where
    signs : IsSome s.held × AreSigned s.config s.held s.transactions
    signs = subst (λ (p : Phase). SignsIn p s.config s.held s.transactions) e h

    held : IsSome t.held
    held = held-on s t keeps signs.0

    signed : AreSigned t.config t.held s.transactions
    signed x there =
        let (u, configured, realm, spelled) = signs.1 x there in
        (u, configured ∙ sym same, realm-on u.held s t keeps realm, spelled)

    on : (p : Phase) → t.phase ≡ p → 2 ≤ rank p
    on p f = subst (λ (q : Phase). 2 ≤ rank q) f (subst (λ (q : Phase). rank q ≤ rank t.phase) e keeps.3.0)

    by : (p : Phase) → t.phase ≡ p → SignsIn p t.config t.held t.transactions
    by New f = let no : 2 ≤ 0 = on New f in absurd (omega (arith, no))
    by Requesting f = let no : 2 ≤ 1 = on Requesting f in absurd (omega (arith, no))
    by Authenticating f = (held, λ x there. each x there f held signed)
    by p f = tt

-- ---- what is made

-- until the allocation all that is listed is an ALLOCATE
pub for-allocation : (id : ℕ) (s : State) (p : Purpose) → AllocatesInOrder s → IsUngranted s.phase → Has p (purposes_of id s) → p ≡ ForAllocation
for-allocation id s p order u there =
    let (l, listed, e) = purposes-listed id s p there in sym e ∙ order.0.0 u l (has-contains l s.listed listed)

signed-as : (t : State) (config : Config) (held : Option Challenge) (purpose : Purpose) (id : ℕ) (x : Transaction) → t.config ≡ config → HaveOneRealm t.held held → purpose ≡ ForAllocation → x.id ≡ id
    → x.request ≡ request_for t purpose id
    → IsSignedAllocate config held x
signed-as t config held purpose id x same realm is named spelled =
    (t, same, realm, spelled ∙ (ap (λ (p : Purpose). request_for t p id) is ∙ ap (request_for t ForAllocation) (sym named)))

made-signed : (purpose : Purpose) (now : ℕ) (s t : State) (x : Transaction) → purpose ≡ ForAllocation → IsMadeAs purpose now s t x → t.phase ≡ Authenticating → IsSome t.held
    → IsSignedAllocate t.config t.held x
made-signed purpose now s t x is (made, e) phase held =
    let named : x.id ≡ fresh_id s = ap (λ (y : Transaction). y.id) e in
    elim made.spelled [
      | inl text ↦ signed-as t t.config t.held purpose (fresh_id s) x refl (own-realm t.held held) is named (ap (λ (y : Transaction). y.request) e ∙ text)
      | inr (first, begins, text) ↦ let no : Requesting ≡ Authenticating = sym begins ∙ phase in cc
    ]

-- ---- messages

abbrev after : List ℕ → ℕ → State → State
after message now s = (message_step message now s).1

module _ (message : List ℕ) (now : ℕ) (s : State) (order : AllocatesInOrder s) (h : Signs s) where
  -- a challenge is answered
  authenticating-signs : s.phase ≡ Authenticating → Signs (after message now s)
  authenticating-signs e =
      let t = after message now s in
      later-signs s t e h (message-keeps message now s) (message-configured message now s)
      (λ x there phase held signed. elim ((message-moves message now s).0 x there) [
        | inl old ↦ signed x old
        | inr (purpose, answers, made) ↦
            let is = for-allocation (id_of message) s purpose order (rw e tt) (contains-has purpose (purposes_of (id_of message) s) answers) in
            made-signed purpose (waits_from now s) s t x is made phase held
      ])

  -- the first one ends as it is made again, and then nothing else is outstanding
  retried-signs : (id : ℕ) (purpose : Purpose) (d : Challenge) (u : State) → IsOfOneId s.transactions → is_outstanding id s.transactions ≡ true → purpose ≡ ForAllocation → u.config ≡ s.config
      → u.held ≡ Some d
      → AreSigned s.config (Some d) (without_transaction id s.transactions ++ first_sent (fresh_id s) s.remote (waits_from now s) (request_for u purpose (fresh_id s)) ∷ [])
  retried-signs id purpose d u one outstanding is same held x there = elim (has-last x (without_transaction id s.transactions) _ there) [
    | inl left ↦
        let (before, other) = has-filter (λ (z : Transaction). not (eqb z.id id)) x s.transactions left in
        let (y, here, same) = any-has (λ (z : Transaction). eqb z.id id) s.transactions outstanding in
        absurd (not-both (eqb x.id id) (eq-eqb x.id id (one x y before here ∙ eqb-true y.id id same)) other)
    | inr e ↦
        signed-as u s.config (Some d) purpose (fresh_id s) x same (d, d, held, refl, refl, refl) is
        (ap (λ (z : Transaction). z.id) e) (ap (λ (z : Transaction). z.request) e)
  ]

  -- the first challenge is answered, or the client ends
  challenged-signs : s.phase ≡ Requesting → is_outstanding (id_of message) s.transactions ≡ true → (d : Challenge) → Signs (challenge_step message d now s).1
  challenged-signs e awaited d = by (ltb s.challenges s.config.max_stale_nonces) refl (retried (purposes_of (id_of message) s)) refl
    where
      end : State
      end = (challenge_step message d now s).1

      by : (few : Bool) → ltb s.challenges s.config.max_stale_nonces ≡ few → (o : Option Purpose) → retried (purposes_of (id_of message) s) ≡ o → Signs end
      by false f o g = let is : (challenge_step message d now s).1 ≡ closed (fail_all s) = rw f refl in closed-signs (fail_all s) end is
      by true f None g = let is : (challenge_step message d now s).1 ≡ s = rw (f, g) refl in same-signs s end is h
      by true f (Some purpose) g =
          let one : IsOfOneId s.transactions = subst (λ (p : Phase). SignsIn p s.config s.held s.transactions) e h in
          let u = with_held d (record (transaction_ended (id_of message) s) { phase = phase_after s.phase; challenges = s.challenges + 1 }) in
          let all = retried-signs (id_of message) purpose d u one awaited (for-allocation (id_of message) s purpose order (rw e tt)
          (retried-has (purposes_of (id_of message) s) purpose g)) refl refl in
          let is : (challenge_step message d now s).1 ≡ state_after_retry s (id_of message) purpose d now = rw (f, g) refl in
          let phase : phase_after s.phase ≡ Authenticating = ap phase_after e in
          same-signs (state_after_retry s (id_of message) purpose d now) end is
          (subst (λ (p : Phase). SignsIn p s.config (Some d) (state_after_retry s (id_of message) purpose d now).transactions) (sym phase) (refl, all))

  requesting-signs : s.phase ≡ Requesting → Signs (after message now s)
  requesting-signs e = by (answers_one s message) refl (challenge_in s message) refl
    where
      by : (b : Bool) → answers_one s message ≡ b → (o : Option Challenge) → challenge_in s message ≡ o → Signs (after message now s)
      by false f o g =
          let judged : judgement_of s message ≡ Unrelated = rw (e, f) refl in
          same-signs s (after message now s) (rw (judged, after) refl) h
      by true f None g =
          let judged : judgement_of s message ≡ Fatal = rw (e, f, g) refl in
          let is : (message_step message now s).1 ≡ (wrong_step message s).1 = rw judged refl in
          let ends : (wrong_step message s).1 ≡ closed (fail_all (transaction_ended (id_of message) s)) = rw e refl in
          closed-signs (fail_all (transaction_ended (id_of message) s)) (after message now s) (is ∙ ends)
      by true f (Some d) g =
          let judged : judgement_of s message ≡ Challenged d = rw (e, f, g) refl in
          same-signs (challenge_step message d now s).1 (after message now s) (rw (judged, after) refl)
          (challenged-signs e (and_parts (is_response (class_in message)) (is_outstanding (id_of message) s.transactions) f).1 d)

  message-signs : Signs (after message now s)
  message-signs = by s.phase refl
    where
      by : (p : Phase) → s.phase ≡ p → Signs (after message now s)
      by New e =
          let judged : judgement_of s message ≡ Unrelated = rw e refl in
          same-signs s (after message now s) (rw (judged, after) refl) h
      by Requesting e = requesting-signs e
      by Authenticating e = authenticating-signs e
      by p e = further-signs p s (after message now s) e (omega arith) (message-keeps message now s)

bind-signs : (local : SocketAddr) (message : List ℕ) (now : ℕ) (s : State) → Signs s → Signs (bind_step local message now s)
bind-signs local message now s h = by s.phase refl
  where
    t : State
    t = bind_step local message now s

    by : (p : Phase) → s.phase ≡ p → Signs t
    by Allocated e = further-signs Allocated s t e (omega arith) (bind-keeps local message now s)
    by p e = same-signs s t (rw e refl) h

-- ---- with what ALLOCATEs request

abbrev pub StaySigned : State → State → Type 0
StaySigned s t = AllocatesInOrder s × Signs s → AllocatesInOrder t × Signs t

pub StaySigned-IsKept : IsKept StaySigned
StaySigned-IsKept = record {
  same = λ s h. h;
  trans = λ s t u first second h. second (first h);
  streams = λ s streams h. h;
  message = λ message now s h. (in_order-stated (message_step message now s).1 (order.message message now s (stated-in_order s h.0)), message-signs message now s h.0 h.1);
  binds = λ local message now s h. (in_order-stated (bind_step local message now s) (order.binds local message now s (stated-in_order s h.0)), bind-signs local message now s h.1);
  gone = λ local s h. (in_order-stated (connection_gone local s) (order.gone local s (stated-in_order s h.0)), gone local s h.1);
}
  where
    order : IsKept StayInOrder
    order = edits-IsKept StayInOrder StayInOrder-KeepsAllEdits (λ s streams h. h)

    gone : (local : SocketAddr) (s : State) → Signs s → Signs (connection_gone local s)
    gone local s h = on_test Signs (is_some (connection_at local s)) _ s h h
