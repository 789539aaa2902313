-- What is active after a message: only a signed success grants more.
use Rattle.turn_client_laws.proofs.Common.{◌≡◌, ℕ, Bool, true, false, not, ◌&&◌, eqb, ltb, leb, List, [], ◌∷◌, map, filter, length, ◌⊎◌, inl, inr, refl, subst, sym, cond, IfSome, list_any, SocketAddr}
use Rattle.turn_client_laws.proofs.Common.{and_parts, cases_Bool, option_map_or}
use Rattle.turn_client_laws.proofs.Machine.{AddressFamily, id_of, Success, Challenge, is_response, State, Phase, New, Authenticating, Grant, Offer, Origin, ServerRequest, ServerIndication, Purpose}
use Rattle.turn_client_laws.proofs.Machine.{ForAllocation, is_for_allocation, is_of_family, purposes_of, connection_attempt_method, Judgement, Challenged, Fatal, ConnectionAttempt, SignedRequest}
use Rattle.turn_client_laws.proofs.Machine.{SignedSuccess, SignedError, judgement_of, class_in, lifetime_in, method_in, allocate_granted, effect, transaction_ended, family_not_supported, has_code}
use Rattle.turn_client_laws.proofs.Machine.{new_allocation, relayed_in, taken_addresses, with_offer, retried, attempt_indicated, attempt_requested, Outcome, Handled, Ignored, answered_purposes}
use Rattle.turn_client_laws.proofs.Machine.{challenge_step, is_answered, message_step, response_step, signed_step, wrong_step, Has, has-filter, cases_Option}
use Rattle.turn_client_laws.specs.LawsGranted.{IsGrant}
use Rattle.turn_client_laws.proofs.ChallengeJudgement.{AnswersAllocate, IsSignedReply, judgement-says}
use Rattle.turn_client_laws.proofs.StandLemmas.{Covers, Leaves, Left, covers-left, has-contains, leaves-cond, leaves-same, left-one, left-same}
use Rattle.turn_client_laws.proofs.GrantOriginLemmas.{ChannelsWithin, Gives, IsGiven, IsGivenOf, Takes, gives-append, gives-covers, gives-left, has-mapped, purposes-within, takes-fold}
use Rattle.turn_client_laws.proofs.GrantOriginEffectLemmas.{effect-takes}
use Rattle.turn_client_laws.proofs.CaseLemmas.{requested-by, indicated-by, by_accepted, by_test, by_found}
use Rattle.turn_client_laws.proofs.InAllocationLemmas.{any-has, has-any}

-- ---- what is judged to be granted

pub for-allocation : (purposes : List Purpose) → list_any is_for_allocation purposes ≡ true → Has ForAllocation purposes
for-allocation [] e = cc
for-allocation (ForAllocation ∷ purposes) e = inl refl
for-allocation (_ ∷ purposes) e = inr (for-allocation purposes e)

-- what the request that the message answers was made for
abbrev pub asked_for : List ℕ → State → List Purpose
asked_for message s = purposes_of (id_of message) s

-- a signed ALLOCATE that is answered was made for an allocation
abbrev pub IsForAllocation : Phase → List ℕ → State → Type 0
IsForAllocation phase message s = phase ≡ Authenticating → Has ForAllocation (asked_for message s)

-- before anything is allocated, a request for an allocation is answered
pub SignedSuccess-is : (s : State) (message : List ℕ) → judgement_of s message ≡ SignedSuccess → IsSignedReply Success message s × IsForAllocation s.phase message s
SignedSuccess-is s message e =
    let (answers, is) : AnswersAllocate message s × IsSignedReply Success message s = rw e at (judgement-says s message) in
    (is, λ allocates. for-allocation (asked_for message s) (and_parts (is_response (class_in message)) _ (answers allocates)).1)

-- ---- signed replies

takes-left : (message : List ℕ) (now : ℕ) (before : State) (grants later : List Grant) → Gives [] message now before grants later → Left grants later
takes-left message now before grants later gives g there stands = elim (gives g there stands) [ inl covers ↦ covers | inr (was, given, kept) ↦ absurd given.one ]

-- if the reply is a success, all that was requested are these purposes
abbrev AllAsked : List Purpose → Bool → List ℕ → State → Type 0
AllAsked purposes is_granted message s = is_granted ≡ true → (p : Purpose) → Has p (asked_for message s) → Has p purposes

reply-takes : (purposes : List Purpose) (is_granted : Bool) (message : List ℕ) (now : ℕ) (before s : State) → ChannelsWithin before.grants s.grants → AllAsked purposes is_granted message s
    → Takes purposes message now before s (response_step is_granted message now s).1
reply-takes purposes is_granted message now before s known all =
    takes-fold purposes message now before (effect (id_of message) is_granted message now) s (answered_purposes message s)
    (λ t p within there.
    effect-takes purposes message now before (id_of message) is_granted t p (λ number peer h. known number peer (within.1 number peer h))
    (λ granted. all granted p (has-filter (is_answered (method_in message)) p (asked_for message s) there).0)
    (λ granted q still. all granted q (purposes-within (id_of message) s t within.0 q still)))
    (answered_purposes message s) (λ p there. there) (transaction_ended (id_of message) s) (λ l there. there, λ number peer h. h)

-- each address that is chosen is among those of the message
pub taken-relayed : (families : List AddressFamily) (addresses : List SocketAddr) (a : SocketAddr) → Has a (taken_addresses families addresses) → Has a addresses
taken-relayed families [] a there = absurd there
taken-relayed families (b ∷ later) a there = elim (cases_Bool (list_any (λ family. is_of_family family b) families)) [
  | inl e ↦ elim (rw e at there) [ inl is ↦ inl is | inr more ↦ inr (taken-relayed (filter (λ family. not (is_of_family family b)) families) later a more) ]
  | inr e ↦ inr (taken-relayed families later a (rw e at there))
]

-- it is of a requested family
pub taken-family : (families : List AddressFamily) (addresses : List SocketAddr) (a : SocketAddr) → Has a (taken_addresses families addresses)
    → list_any (λ family. is_of_family family a) families ≡ true
taken-family families [] a there = absurd there
taken-family families (b ∷ later) a there = elim (cases_Bool (list_any (λ family. is_of_family family b) families)) [
  | inl e ↦ elim (rw e at there) [
    | inl is ↦ rw is e
    | inr more ↦
        let others = filter (λ family. not (is_of_family family b)) families in
        let (family, left, is) = any-has (λ family. is_of_family family a) others (taken-family others later a more) in
        has-any (λ family. is_of_family family a) family families (has-filter _ family families left).0 is
  ]
  | inr e ↦ taken-family families later a (rw e at there)
]

allocate-gives : (message : List ℕ) (now : ℕ) (before s : State) (purposes : List Purpose) → before.families ≡ s.families → Has ForAllocation purposes
    → Gives purposes message now before s.grants (allocate_granted message now s).grants
allocate-gives message now before s purposes same one = elim (cases_Option (lifetime_in message)) [
  | inl e ↦ rw e (gives-left purposes message now before s.grants s.grants (left-same s.grants))
  | inr (n, e) ↦ rw e (gives-append purposes message now before s.grants (map (new_allocation n now) taken) (λ g there stands.
      let (a, among, is) = has-mapped (new_allocation n now) g taken there in
      let reported = has-contains a (relayed_in message) (taken-relayed s.families (relayed_in message) a among) in
      let asked = taken-family s.families (relayed_in message) a among in
      subst (IsGivenOf purposes message now before) (sym is) (record { purpose = ForAllocation; one = one; given = (n, e, refl, reported, rw same asked) })))
]
  where
    taken : List SocketAddr
    taken = taken_addresses s.families (relayed_in message)

granted-gives : (p : Phase) (message : List ℕ) (now : ℕ) (s : State) → IsForAllocation p message s
    → Gives (asked_for message s) message now (record s { phase = p }) s.grants (signed_step true message now (record s { phase = p })).1.grants
granted-gives Authenticating message now s one = allocate-gives message now (record s { phase = Authenticating }) (transaction_ended (id_of message) (record s { phase = Authenticating }))
    (asked_for message s) refl (one refl)
granted-gives p message now s one =
    (reply-takes (asked_for message s) true message now (record s { phase = p }) (record s { phase = p }) (λ number peer h. h) (λ e p there. there)).1

refused-leaves : (message : List ℕ) (now : ℕ) (s : State) → Leaves s (response_step false message now s).1
refused-leaves message now s = takes-left message now s s.grants _ (reply-takes [] false message now s s (λ number peer h. h) (λ e. cc)).1

denied-leaves : (p : Phase) (message : List ℕ) (now : ℕ) (s : State) → Leaves s (signed_step false message now (record s { phase = p })).1
denied-leaves Authenticating message now s = leaves-cond (has_code family_not_supported message && leb 2 (length s.families)) s _ _ (leaves-same s) (leaves-same s)
denied-leaves p message now s = refused-leaves message now (record s { phase = p })

-- ---- other messages

-- no grant changes
pub challenge-grants : (message : List ℕ) (d : Challenge) (now : ℕ) (s : State) → (challenge_step message d now s).1.grants ≡ s.grants
challenge-grants message d now s =
    by_test (λ (p : Outcome × State). p.1.grants ≡ s.grants) (ltb s.challenges s.config.max_stale_nonces) _ _
    (λ few. by_found (λ (p : Outcome × State). p.1.grants ≡ s.grants) _ (retried (asked_for message s)) _ (λ purpose e. refl) refl) (λ many. refl)

pub wrong-grants : (p : Phase) (message : List ℕ) (s : State) → (wrong_step message (record s { phase = p })).1.grants ≡ s.grants
wrong-grants New message s = refl
wrong-grants p message s = refl

-- an offer is not active
offer-leaves : (id : ℕ) (peer : SocketAddr) (origin : Origin) (s : State) → Leaves s (with_offer id peer origin s)
offer-leaves id peer origin s = left-one s.grants (Offer (record { connection_id = id; peer = peer; is_reported = false; origin = origin })) (λ stands. stands)

requested-leaves : (message : List ℕ) (s : State) → Leaves s (attempt_requested message s)
requested-leaves message s =
    requested-by (Leaves s) message s (λ queue. leaves-same s) (λ id peer room free. offer-leaves id peer (ServerRequest (id_of message)) s)

indicated-leaves : (message : List ℕ) (s : State) → IfSome (attempt_indicated message s) (Leaves s)
indicated-leaves message s = indicated-by (Leaves s) message s (λ id peer accepts. offer-leaves id peer ServerIndication s)

-- ---- a whole message

-- a success that is judged so grants it
pub message-grants : (g : Grant) (message : List ℕ) (now : ℕ) (s : State) → Covers (message_step message now s).1.grants g → Covers s.grants g
    ⊎ ((judgement_of s message ≡ SignedSuccess) × IsGrant g message now s)
message-grants g message now s = by (judgement_of s message) refl
  where
    Brings : Judgement → Type 0
    Brings j = Covers (message_step message now s).1.grants g → Covers s.grants g ⊎ ((j ≡ SignedSuccess) × IsGrant g message now s)

    left : {X : Type 0} (t : State) → Leaves s t → Covers t.grants g → Covers s.grants g ⊎ X
    left t leaves covers = inl (covers-left s.grants t.grants g leaves covers)

    same : (t : State) → t.grants ≡ s.grants → Leaves s t
    same t e = subst (Left s.grants) (sym e) (left-same s.grants)

    granted : judgement_of s message ≡ SignedSuccess → Covers s.grants g ⊎ IsGiven (asked_for message s) message now s g → Covers s.grants g
        ⊎ ((SignedSuccess ≡ SignedSuccess) × IsGrant g message now s)
    granted e (inl covers) = inl covers
    granted e (inr (was, given, kept)) =
        let is = (SignedSuccess-is s message e).0 in
        inr (
          refl,
          (
            was,
            record {
              success = is.class_is;
              signed = is.signed;
              outstanding = is.outstanding;
              purpose = given.purpose;
              listed = has-contains given.purpose (asked_for message s) given.one;
              given = given.given;
            },
            kept,
          ),
        )

    gives : judgement_of s message ≡ SignedSuccess → Gives (asked_for message s) message now s s.grants (signed_step true message now s).1.grants
    gives e = granted-gives s.phase message now s (SignedSuccess-is s message e).1

    by : (j : Judgement) → judgement_of s message ≡ j → Brings j
    by (Challenged d) e = rw e (left (challenge_step message d now s).1 (same (challenge_step message d now s).1 (challenge-grants message d now s)))
    by Fatal e = rw e (left (wrong_step message s).1 (same (wrong_step message s).1 (wrong-grants s.phase message s)))
    by ConnectionAttempt e =
        let t = (option_map_or {T = State} {U = Outcome × State} (λ t. (Handled, t)) (attempt_indicated message s) (Ignored, s)).1 in
        rw e (left t (by_accepted (Leaves s) (attempt_indicated message s) s (indicated-leaves message s) (leaves-same s)))
    by SignedRequest e =
        let t = (cond {A = Outcome × State} (eqb (method_in message) connection_attempt_method) (Handled, attempt_requested message s) (Ignored, s)).1 in
        let asked = λ (p : Outcome × State). Leaves s p.1 in
        rw e (left t (by_test asked (eqb (method_in message) connection_attempt_method) _ (Ignored, s) (λ is. requested-leaves message s) (λ no. leaves-same s)))
    by SignedSuccess e = rw e (λ covers. granted e (gives-covers (asked_for message s) message now s s.grants (signed_step true message now s).1.grants g (gives e) covers))
    by SignedError e = rw e (left (signed_step false message now s).1 (denied-leaves s.phase message now s))
    by j e = rw e (left s (leaves-same s))

pub message-brings : (g : Grant) (message : List ℕ) (now : ℕ) (s : State) → Covers (message_step message now s).1.grants g → Covers s.grants g ⊎ IsGrant g message now s
message-brings g message now s covers = elim (message-grants g message now s covers) [ inl covers ↦ inl covers | inr (e, is) ↦ inr is ]
