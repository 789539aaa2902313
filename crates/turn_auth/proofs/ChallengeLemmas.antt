-- The function that computes a challenge agrees with the definition of one.
use Rattle.std.proofs.Common.{◌≡◌, ℕ, ◌⊎◌, Bool, true, false, cond, List, Option, Some, None, inl, inr, refl, sym, ap, ◌∙◌}
use Rattle.std.specs.Prelude.{◌==◌, ◌&&◌, ◌||◌, ◌↔◌, is_some, option_map, option_and_then, IfSome}
use Rattle.std.specs.Str.{bytes_eq}
use Rattle.std.specs.Cmp.Lexicographic.{same_text, nat_list_eq_equiv}
use Rattle.std.proofs.lemmas.Bool.{and_parts, eqb-true}
use Rattle.turn_stun.specs.Message.{type_of}
use Rattle.turn_stun.specs.MessageType.{class_of}
use Rattle.turn_stun.specs.declared.message.header.MessageClass.{MessageClass}
use Rattle.turn_stun.specs.declared.message.header.MessageClass.TheVariants.{Request, Indication, Success, Error}
use Rattle.turn_auth.specs.LongTerm.{Challenge, ClientAuth}
use Rattle.turn_auth.specs.declared.challenge.Denial.{Denial}
use Rattle.turn_auth.specs.declared.integrity.IntegrityAlgorithm.{IntegrityAlgorithm}
use Rattle.turn_auth.specs.Challenge.{Follows, IsChallenge, MayTake, challenge_of, chosen, denial_in, denial_with, held_after, is_error, picked, realm_in, nonce_in}
use Rattle.turn_stun.specs.Read.{code_in, value_in}

-- what the test returns passed it
guard_some : {A : Type 0} {y : A} (test : Bool) (found : Option A) → cond test found None ≡ Some y → (test ≡ true) × (found ≡ Some y)
guard_some true found h = (refl, h)
guard_some false found h = cc

and_then_some : {A B : Type 0} {y : B} (f : A → Option B) (found : Option A) → option_and_then f found ≡ Some y → (x : A) × (found ≡ Some x) × (f x ≡ Some y)
and_then_some f None h = cc
and_then_some f (Some x) h = (x, refl, h)

map_some : {A B : Type 0} {y : B} (f : A → B) (found : Option A) → option_map f found ≡ Some y → (x : A) × (found ≡ Some x) × (y ≡ f x)
map_some f None h = cc
map_some f (Some x) h = (x, refl, cc)

is_error-Error : (class : MessageClass) → is_error class ≡ true → class ≡ Error
is_error-Error Request h = cc
is_error-Error Indication h = cc
is_error-Error Success h = cc
is_error-Error Error h = refl

denial_with-parts : {denial : Denial} (realm nonce : Option (List ℕ)) (code : Option ℕ) → denial_with realm nonce code ≡ Some denial → (realm ≡ Some denial.realm) × (nonce ≡ Some denial.nonce)
    × (code ≡ Some denial.code)
denial_with-parts (Some realm) (Some nonce) (Some code) h = (cc, cc, cc)
denial_with-parts (Some realm) (Some nonce) None h = cc
denial_with-parts (Some realm) None _ h = cc
denial_with-parts None _ _ h = cc

either : (a b : Bool) → (a || b) ≡ true → (a ≡ true) ⊎ (b ≡ true)
either true b h = inl refl
either false b h = inr h

-- ---- what is computed is a challenge

is_asked : (supported : List IntegrityAlgorithm) (held : Option Challenge) (offered : Option (List ℕ)) (denial : Denial) (algorithm : IntegrityAlgorithm)
    → chosen supported held offered denial ≡ Some algorithm → Follows supported offered (Some denial.code) (held_after held offered denial algorithm) held
is_asked supported None offered denial algorithm h =
    let passed = guard_some ((denial.code == 401) || (denial.code == 438)) (picked supported offered) h in (
      elim (either (denial.code == 401) (denial.code == 438) passed.0) [
        | inl unauthorized ↦ inl (ap Some (eqb-true denial.code 401 unauthorized))
        | inr stale ↦ inr (ap Some (eqb-true denial.code 438 stale))
      ],
      passed.1,
      refl,
    )
is_asked supported (Some held) offered denial algorithm h =
    let passed = guard_some ((denial.code == 438) && bytes_eq denial.realm held.realm) (Some held.algorithm) h in
    let both = and_parts (denial.code == 438) (bytes_eq denial.realm held.realm) passed.0 in
    (ap Some (eqb-true denial.code 438 both.0), refl)

has_realm : (supported : List IntegrityAlgorithm) (held : Option Challenge) (offered : Option (List ℕ)) (denial : Denial) (algorithm : IntegrityAlgorithm)
    → chosen supported held offered denial ≡ Some algorithm → denial.realm ≡ (held_after held offered denial algorithm).realm
has_realm supported None offered denial algorithm h = refl
has_realm supported (Some held) offered denial algorithm h =
    let passed = guard_some ((denial.code == 438) && bytes_eq denial.realm held.realm) (Some held.algorithm) h in
    let both = and_parts (denial.code == 438) (bytes_eq denial.realm held.realm) passed.0 in
    same_text denial.realm held.realm (sym both.1)

has_nonce : (held : Option Challenge) (offered : Option (List ℕ)) (denial : Denial) (algorithm : IntegrityAlgorithm) → denial.nonce ≡ (held_after held offered denial algorithm).nonce
has_nonce None offered denial algorithm = refl
has_nonce (Some held) offered denial algorithm = refl

follows_from : (supported : List IntegrityAlgorithm) (held : Option Challenge) (offered : Option (List ℕ)) (denial : Denial) (algorithm : IntegrityAlgorithm) (code : Option ℕ) (challenge : Challenge)
    → code ≡ Some denial.code → challenge ≡ held_after held offered denial algorithm → chosen supported held offered denial ≡ Some algorithm → Follows supported offered code challenge held
follows_from supported held offered denial algorithm code challenge denied gives h =
    rw (denied, gives) (is_asked supported held offered denial algorithm h)

pub challenge_of-sound : (auth : ClientAuth) (bytes : List ℕ) (challenge : Challenge) → challenge_of auth bytes ≡ Some challenge → IsChallenge auth bytes challenge
challenge_of-sound auth bytes challenge h =
    let offered = value_in 0x8002 bytes in
    let after : Denial → Option Challenge = λ denial. option_map (held_after auth.held offered denial) (chosen auth.supported auth.held offered denial) in
    let known = guard_some (is_some auth.credentials) (option_and_then after (denial_in bytes)) h in
    let denied = and_then_some after (denial_in bytes) known.1 in
    let class = guard_some (is_error (class_of (type_of bytes))) (denial_with (realm_in bytes) (nonce_in bytes) (code_in bytes)) denied.1 in
    let parts = denial_with-parts (realm_in bytes) (nonce_in bytes) (code_in bytes) class.1 in
    let found = map_some (held_after auth.held offered denied.0) (chosen auth.supported auth.held offered denied.0) denied.2 in
    record {
      known = known.0;
      error = is_error-Error (class_of (type_of bytes)) class.0;
      realm = parts.0 ∙ ap Some (has_realm auth.supported auth.held offered denied.0 found.0 found.1 ∙ sym (ap (λ (c : Challenge). c.realm) found.2));
      nonce = parts.1 ∙ ap Some (has_nonce auth.held offered denied.0 found.0 ∙ sym (ap (λ (c : Challenge). c.nonce) found.2));
      follows = follows_from auth.supported auth.held offered denied.0 found.0 (code_in bytes) challenge parts.2 found.2 found.1;
    }

-- ---- a challenge is computed

-- the denial that a challenge follows, by its code
abbrev denial_of : Challenge → ℕ → Denial
denial_of challenge code = record { realm = challenge.realm; nonce = challenge.nonce; code = code }

record IsComputed (supported : List IntegrityAlgorithm) (held : Option Challenge) (offered : Option (List ℕ)) (code : Option ℕ) (challenge : Challenge) : Type 0 where
  number : ℕ
  algorithm : IntegrityAlgorithm
  denied : code ≡ Some number
  picks : chosen supported held offered (denial_of challenge number) ≡ Some algorithm
  gives : held_after held offered (denial_of challenge number) algorithm ≡ challenge

follows-IsComputed : (supported : List IntegrityAlgorithm) (held : Option Challenge) (offered : Option (List ℕ)) (code : Option ℕ) (challenge : Challenge)
    → Follows supported offered code challenge held → IsComputed supported held offered code challenge
follows-IsComputed supported None offered code challenge h =
    let gives : held_after None offered (denial_of challenge 0) challenge.algorithm ≡ challenge = rw (← h.2) refl in
    elim h.0 [
      | inl unauthorized ↦ record { number = 401; algorithm = challenge.algorithm; denied = unauthorized; picks = h.1; gives = gives }
      | inr stale ↦ record { number = 438; algorithm = challenge.algorithm; denied = stale; picks = h.1; gives = gives }
    ]
follows-IsComputed supported (Some held) offered code challenge h =
    let realm : challenge.realm ≡ held.realm = ap (λ (c : Challenge). c.realm) h.1 in
    let same : bytes_eq challenge.realm held.realm ≡ true = rw realm (nat_list_eq_equiv.refl held.realm) in
    record { number = 438; algorithm = held.algorithm; denied = h.0; picks = rw same refl; gives = sym h.1 }

pub challenge_of-complete : (auth : ClientAuth) (bytes : List ℕ) (challenge : Challenge) → IsChallenge auth bytes challenge → challenge_of auth bytes ≡ Some challenge
challenge_of-complete auth bytes challenge is =
    let computed = follows-IsComputed auth.supported auth.held (value_in 0x8002 bytes) (code_in bytes) challenge is.follows in
    rw (is.known, is.error, is.realm, is.nonce, computed.denied, computed.picks, computed.gives) refl

-- the function that computes a challenge agrees with the definition of one
pub challenge_of_is : (auth : ClientAuth) (bytes : List ℕ) (challenge : Challenge) → (challenge_of auth bytes ≡ Some challenge) ↔ IsChallenge auth bytes challenge
challenge_of_is auth bytes challenge = (challenge_of-sound auth bytes challenge, challenge_of-complete auth bytes challenge)

-- ---- a challenge may be accepted

kept-by : (supported : List IntegrityAlgorithm) (offered : Option (List ℕ)) (code : Option ℕ) (challenge : Challenge) (held : Option Challenge)
    → Follows supported offered code challenge held → IfSome held (λ h. challenge ≡ record h { nonce = challenge.nonce })
kept-by supported offered code challenge None h = tt
kept-by supported offered code challenge (Some held) h = h.1

pub challenge_of-MayTake : (auth : ClientAuth) (bytes : List ℕ) (challenge : Challenge) → challenge_of auth bytes ≡ Some challenge → MayTake auth challenge
challenge_of-MayTake auth bytes challenge h =
    let is = challenge_of-sound auth bytes challenge h in
    record { known = is.known; kept = kept-by auth.supported (value_in 0x8002 bytes) (code_in bytes) challenge auth.held is.follows }
