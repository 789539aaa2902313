-- The bytes of the messages that a client writes: those of the standards, in which the password is in the key of the integrity alone.
use Rattle.turn_client_laws.proofs.Common.{◌≡◌, ◌∙◌, ◌+◌, ◌*◌, ℕ, List, [], ◌∷◌, Option, Some, refl, ap, IpAddr, SocketAddr}
use Rattle.turn_client_laws.proofs.Machine.{Addition, AddressFamily, Challenge, Error, IPV4, IPV6, Indication, MessageClass, Purpose, ForAllocation, ForBind, ForChannel, ForConnect, ForPermission, ForRefresh}
use Rattle.turn_client_laws.proofs.Machine.{Request, State, Success, accepted_reply, additions_for, allocate_method, asked_attributes, attribute, channel_bind_method, connect_method}
use Rattle.turn_client_laws.proofs.Machine.{connection_attempt_method, connection_bind_method, create_permission_method, error_kind, family_attributes, first_allocate, header_of, held_key, message_of, refresh_method}
use Rattle.turn_client_laws.proofs.Machine.{refused_reply, request_for, signed, signed_by, type_of, with_additions, with_integrity}
use Rattle.turn_client_api.specs.Requests.{without_port}
use Rattle.std.specs.declared.net.ip_addr.IpAddr.TheVariants as Ip
use Rattle.std.specs.Prelude.{◌-◌, length}
use Rattle.std.proofs.Math.Seq.{take-length}
use Rattle.md5.specs.Md5.{md5}
use Rattle.sha1.specs.Sha1.{sha1}
use Rattle.sha2.specs.Sha256.{sha256}
use Rattle.turn_auth.specs.Credentials.{Credentials}
use Rattle.turn_auth.specs.Hmac.{hmac}
use Rattle.turn_auth.specs.Key.{key_of}
use Rattle.turn_auth.specs.Signature.{algorithm_additions, request_additions, user_addition}
use Rattle.turn_auth.specs.declared.integrity.IntegrityAlgorithm.{IntegrityAlgorithm}
use Rattle.turn_auth.specs.declared.integrity.IntegrityAlgorithm.TheVariants.{Sha1, Sha256}
use Rattle.turn_stun.specs.Writer.{with_attribute, with_length}
use Rattle.turn_auth.specs.declared.feature.Feature.{Feature}
use Rattle.turn_auth.specs.declared.feature.Feature.TheVariants.{Auto, Disabled, Required}
use Rattle.turn_stun.specs.MessageType.{class_of, type_number}
use Rattle.turn_stun.specs.Refusal.{Refusal}
use Rattle.turn_stun.specs.Values.{error_code_value}
use Rattle.turn_client_runs.specs.Leaving.{algorithm_attributes, first_request, key_input, message_with, portless, request_of, requested_families, signed_as, user_attribute, user_attributes, with_mac, xor_peer}
use Rattle.turn_client_runs.specs.Leaving as L
use Rattle.turn_client_runs.proofs.SentTexts.{Leads, additions-leads}

-- ---- the attributes

families-same : (families : List AddressFamily) → family_attributes families ≡ requested_families families
families-same [] = refl
families-same (IPV4 ∷ []) = refl
families-same (IPV6 ∷ []) = refl
families-same (IPV4 ∷ second ∷ more) = refl
families-same (IPV6 ∷ second ∷ more) = refl

portless-same : (ip : IpAddr) → without_port ip ≡ portless ip
portless-same (Ip.V4 a) = refl
portless-same (Ip.V6 a) = refl

-- ---- the signature

algorithms-same : (algorithm : IntegrityAlgorithm) (offered : List ℕ) → algorithm_additions algorithm offered ≡ algorithm_attributes algorithm offered
algorithms-same Sha1 offered = refl
algorithms-same Sha256 offered = refl

-- of the credentials it has the user alone
user-same : (anonymous : Feature) (c : Credentials) (realm : List ℕ) → user_addition anonymous c realm ≡ user_attribute anonymous c.user realm
user-same Auto c realm = refl
user-same Disabled c realm = refl
user-same Required c realm = refl

request-same : (anonymous : Feature) (c : Credentials) (d : Challenge) → request_additions anonymous c d ≡ user_attributes Request anonymous c.user d
request-same anonymous c d =
    ap (λ (user : Addition). user ∷ L.attribute 0x0014 d.realm ∷ L.attribute 0x0015 d.nonce ∷ algorithm_additions d.algorithm d.password_algorithms)
    (user-same anonymous c d.realm)
    ∙ ap (λ (more : List Addition). user_attribute anonymous c.user d.realm ∷ L.attribute 0x0014 d.realm ∷ L.attribute 0x0015 d.nonce ∷ more)
    (algorithms-same d.algorithm d.password_algorithms)

user-alone : (class : MessageClass) (anonymous : Feature) (c : Credentials) (d : Challenge) → additions_for class anonymous c d ≡ user_attributes class anonymous c.user d
user-alone Request anonymous c d = request-same anonymous c d
user-alone Indication anonymous c d = refl
user-alone Success anonymous c d = refl
user-alone Error anonymous c d = refl

-- the integrity covers all before it
integrity-same : (algorithm : IntegrityAlgorithm) (c : Credentials) (realm text : List ℕ)
    → with_integrity algorithm (key_of c realm algorithm) text ≡ with_mac algorithm (key_input c realm) text
integrity-same Sha1 c realm text =
    ap (λ (covered : List ℕ). with_attribute 0x0008 (hmac sha1 (md5 (key_input c realm)) (with_length (length text - 20 + 24) covered)) text) (take-length text)
integrity-same Sha256 c realm text =
    ap (λ (covered : List ℕ). with_attribute 0x001c (hmac sha256 (sha256 (key_input c realm)) (with_length (length text - 20 + 36) covered)) text) (take-length text)

-- a message that begins so is of this class
class-leads : (a b : ℕ) (text : List ℕ) → Leads a b text → class_of (type_of text) ≡ class_of (a * 256 + b)
class-leads a b text (rest, e) = rw e refl

-- what a client signs that holds this challenge
module _ (u : State) (d : Challenge) (held : u.held ≡ Some d) where
  module _ (class : MessageClass) (a b : ℕ) (is : class_of (a * 256 + b) ≡ class) where
    signed-is : (text : List ℕ) → Leads a b text → signed u text ≡ signed_as u.config d class text
    signed-is text leads =
        ap (λ (o : Option Challenge). signed_by (Some u.config.credentials) o u.config.anonymous_username text) held
        ∙ ap (λ (added : List Addition). with_integrity d.algorithm (held_key u.config.credentials d) (with_additions added text))
        (ap (λ (k : MessageClass). additions_for k u.config.anonymous_username u.config.credentials d) (class-leads a b text leads ∙ is)
        ∙ user-alone class u.config.anonymous_username u.config.credentials d)
        ∙ integrity-same d.algorithm u.config.credentials d.realm
        (with_additions (user_attributes class u.config.anonymous_username u.config.credentials.user d) text)

    -- a message with this header
    written-is : (method : ℕ) → ((id : ℕ) → Leads a b (header_of (type_number method class) id)) → (attributes : List Addition) (id : ℕ)
        → signed u (message_of method class attributes id) ≡ signed_as u.config d class (message_with method class attributes id)
    written-is method begins attributes id =
        signed-is (message_of method class attributes id) (additions-leads a b attributes (header_of (type_number method class) id) (begins id))

  -- with other attributes, which are the same
  other-is : (method : ℕ) (attributes others : List Addition) (id : ℕ) → attributes ≡ others
      → signed_as u.config d Request (message_with method Request attributes id) ≡ signed_as u.config d Request (message_with method Request others id)
  other-is method attributes others id e = ap (λ (all : List Addition). signed_as u.config d Request (message_with method Request all id)) e

  pub request-is : (p : Purpose) (id : ℕ) → request_for u p id ≡ signed_as u.config d Request (request_of u.config.allocation_transport u.families p id)
  request-is ForAllocation id =
      written-is Request 0 3 refl allocate_method (λ n. (_, refl)) (asked_attributes u ForAllocation id) id
      ∙ other-is allocate_method _ _ id
      (ap (λ (more : List Addition). L.requested_transport u.config.allocation_transport ∷ L.lifetime 1800 ∷ more) (families-same u.families))
  request-is (ForRefresh family seconds) id = written-is Request 0 4 refl refresh_method (λ n. (_, refl)) (asked_attributes u (ForRefresh family seconds) id) id
  request-is (ForPermission ip) id =
      written-is Request 0 8 refl create_permission_method (λ n. (_, refl)) (asked_attributes u (ForPermission ip) id) id
      ∙ other-is create_permission_method _ _ id (ap (λ (peer : SocketAddr). xor_peer peer id ∷ []) (portless-same ip))
  request-is (ForChannel number peer) id = written-is Request 0 9 refl channel_bind_method (λ n. (_, refl)) (asked_attributes u (ForChannel number peer) id) id
  request-is (ForConnect peer) id = written-is Request 0 10 refl connect_method (λ n. (_, refl)) (asked_attributes u (ForConnect peer) id) id
  request-is (ForBind local peer connection_id) id =
      written-is Request 0 11 refl connection_bind_method (λ n. (_, refl)) (asked_attributes u (ForBind local peer connection_id) id) id

  pub accepted-is : (id : ℕ) → accepted_reply u id ≡ signed_as u.config d Success (message_with 0x00c Success [] id)
  accepted-is id = written-is Success 1 12 refl connection_attempt_method (λ n. (_, refl)) [] id

  pub refused-is : (r : Refusal) (id : ℕ) → refused_reply r.code r.reason u id
      ≡ signed_as u.config d Error (message_with 0x00c Error (L.attribute 0x0009 (error_code_value r) ∷ []) id)
  refused-is r id = written-is Error 1 28 refl connection_attempt_method (λ n. (_, refl)) (attribute error_kind (error_code_value (record { code = r.code; reason = r.reason })) ∷ []) id

-- ---- what is not signed

pub first-is : (u : State) (id : ℕ) → first_allocate u id ≡ first_request u.config.allocation_transport u.families id
first-is u id =
    ap (λ (more : List Addition). message_with 0x003 Request (L.lifetime 1800 ∷ L.requested_transport u.config.allocation_transport ∷ L.attribute 0x001a [] ∷ more) id)
    (families-same u.families)
