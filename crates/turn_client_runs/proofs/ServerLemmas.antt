-- A signed success for each request.
use Rattle.turn_client_laws.proofs.Common.{◌≡◌, ◌∙◌, ℕ, ◌^◌, ◌<◌, true, false, List, [], ◌∷◌, length, Some, None, ap, arith, refl, subst, sym, IsSome, IsSomeAnd, Option}
use Rattle.turn_client_laws.proofs.Machine.{first_of, seen_after, seen_of, Attribute, attributes_of, id_of, type_of, AddsAttribute, IsWritten, header_of, with_attribute, Success, Udp}
use Rattle.turn_client_laws.proofs.Machine.{attributes_of-is, Challenge, is_unsigned, with_integrity, IsValidated, held_key, validation_of, is_outstanding, State, auth_of, Purpose, ForAllocation}
use Rattle.turn_client_laws.proofs.Machine.{ForRefresh, ForPermission, ForChannel, ForConnect, ForBind, purposes_of, class_in, lifetime_in, method_in, is_message, method_for, same_address-self}
use Rattle.std.specs.Cmp.Lexicographic.{nat_list_eq_equiv}
use Rattle.turn_stun.specs.MessageType.{class_of, method_of, type_number}
use Rattle.turn_stun.proofs.WriteLemmas.{header_of-IsMessage, header_of-IsWritten, with_attribute-AddsAttribute, with_attribute-IsWritten}
use Rattle.turn_types.specs.Values.{number_value}
use Rattle.turn_auth.specs.Integrity.{IntegrityHolds, covered_text, integrity_holds, integrity_kind, mac_of}
use Rattle.turn_auth.specs.declared.integrity.IntegrityAlgorithm.{IntegrityAlgorithm}
use Rattle.turn_auth.proofs.SignLemmas.{begun_is_unsigned, is_unsigned-push}
use Rattle.turn_client_runs.specs.Lasting.{Grants, IsSuccess}
use Rattle.turn_client_runs.specs.Server.{RequestsCanBeGranted, from_server, success_for}
use Rattle.turn_client_runs.proofs.LastingRuns.{datagram-message}
use Rattle.turn_client_runs.proofs.SignedBytes.{mac-added, signed-holds, signed-message}

-- the lifetime of 600 s
abbrev seconds_600 : List ℕ
seconds_600 = number_value 600

-- ---- the bytes

module _ (type id : ℕ) (t : type < 2 ^ 14) (i : id < 2 ^ 96) (algorithm : IntegrityAlgorithm) (key : List ℕ) where
  abbrev begun : List ℕ
  begun = header_of type id

  abbrev unsigned : List ℕ
  unsigned = with_attribute 0x000d seconds_600 begun

  abbrev whole : List ℕ
  whole = with_integrity algorithm key unsigned

  begun-written : IsWritten begun
  begun-written = header_of-IsWritten type id t i

  lifetime-added : AddsAttribute begun unsigned 0x000d seconds_600
  lifetime-added = with_attribute-AddsAttribute 0x000d seconds_600 begun begun-written (omega arith) (omega arith)

  unsigned-written : IsWritten unsigned
  unsigned-written = with_attribute-IsWritten 0x000d seconds_600 begun begun-written (omega arith) (omega arith)

  unsigned-len : length unsigned ≡ 28
  unfolding with_attribute
  unsigned-len = refl

  unsigned-plain : is_unsigned (attributes_of unsigned) ≡ true
  unsigned-plain = is_unsigned-push begun unsigned 0x000d seconds_600 lifetime-added refl (begun_is_unsigned begun type id (header_of-IsMessage type id t i))

  integrity-added : AddsAttribute unsigned whole (integrity_kind algorithm) (mac_of algorithm key (covered_text algorithm (length unsigned) unsigned))
  integrity-added = mac-added unsigned unsigned-written unsigned-plain (omega (arith, unsigned-len)) (omega (arith, unsigned-len)) algorithm key

  whole-type : type_of whole ≡ type
  whole-type = integrity-added.type ∙ lifetime-added.type ∙ (header_of-IsMessage type id t i).has_type

  whole-id : id_of whole ≡ id
  whole-id = integrity-added.id ∙ lifetime-added.id ∙ (header_of-IsMessage type id t i).has_id

  whole-attributes : attributes_of whole
      ≡ record { offset = length begun; kind = 0x000d; value = seconds_600 }
      ∷ record { offset = length unsigned; kind = integrity_kind algorithm; value = mac_of algorithm key (covered_text algorithm (length unsigned) unsigned) }
      ∷ []
  whole-attributes = integrity-added.attributes ∙ rw lifetime-added.attributes (rw (attributes_of-is begun type id [] (header_of-IsMessage type id t i)) refl)

  whole-message : is_message whole ≡ true
  whole-message = signed-message unsigned unsigned-written unsigned-plain (omega (arith, unsigned-len)) (omega (arith, unsigned-len)) algorithm key

  whole-holds : IntegrityHolds whole algorithm key
  whole-holds = signed-holds unsigned unsigned-written unsigned-plain (omega (arith, unsigned-len)) (omega (arith, unsigned-len)) algorithm key

  whole-lifetime : lifetime_in whole ≡ Some 600
  unfolding seen_after
  whole-lifetime = rw whole-attributes refl

-- what holds is found to hold
pub holds-true : (bytes : List ℕ) (algorithm : IntegrityAlgorithm) (key : List ℕ) → IntegrityHolds bytes algorithm key → integrity_holds bytes algorithm key ≡ true
holds-true bytes algorithm key h = by (first_of (integrity_kind algorithm) (seen_of bytes)) refl h
  where
    by : (o : Option Attribute) → first_of (integrity_kind algorithm) (seen_of bytes) ≡ o
        → IsSomeAnd o (λ first. first.value ≡ mac_of algorithm key (covered_text algorithm first.offset bytes)) → integrity_holds bytes algorithm key ≡ true
    by None e h = absurd h
    by (Some a) e same = rw (e, same) (nat_list_eq_equiv.refl (mac_of algorithm key (covered_text algorithm a.offset bytes)))

-- ---- the reply

type-in-range : (purpose : Purpose) → type_number (method_for purpose) Success < 2 ^ 14
type-in-range ForAllocation = omega arith
type-in-range (ForRefresh family lifetime) = omega arith
type-in-range (ForPermission ip) = omega arith
type-in-range (ForChannel number peer) = omega arith
type-in-range (ForConnect peer) = omega arith
type-in-range (ForBind local peer connection_id) = omega arith

class-success : (purpose : Purpose) → class_of (type_number (method_for purpose) Success) ≡ Success
class-success ForAllocation = refl
class-success (ForRefresh family lifetime) = refl
class-success (ForPermission ip) = refl
class-success (ForChannel number peer) = refl
class-success (ForConnect peer) = refl
class-success (ForBind local peer connection_id) = refl

method-same : (purpose : Purpose) → method_of (type_number (method_for purpose) Success) ≡ method_for purpose
method-same ForAllocation = refl
method-same (ForRefresh family lifetime) = refl
method-same (ForPermission ip) = refl
method-same (ForChannel number peer) = refl
method-same (ForConnect peer) = refl
method-same (ForBind local peer connection_id) = refl

module _ (purpose : Purpose) (id : ℕ) (i : id < 2 ^ 96) (held : Challenge) (s : State) (holds : s.held ≡ Some held) where
  abbrev type : ℕ
  type = type_number (method_for purpose) Success

  abbrev key : List ℕ
  key = held_key s.config.credentials held

  abbrev text : List ℕ
  text = with_integrity held.algorithm key (with_attribute 0x000d (number_value 600) (header_of type id))

  text-type : type_of text ≡ type
  text-type = whole-type type id (type-in-range purpose) i held.algorithm key

  text-class : class_in text ≡ Success
  text-class = ap class_of text-type ∙ class-success purpose

  -- the client holds a challenge, so the reply is signed
  text-is : success_for s purpose id ≡ text
  text-is = let unsigned-type = (lifetime-added type id (type-in-range purpose) i held.algorithm key).type ∙ (header_of-IsMessage type id (type-in-range purpose) i).has_type in
      rw (holds, unsigned-type, class-success purpose) refl

  text-validated : IsValidated (validation_of (auth_of s) text)
  text-validated = rw (text-class, holds, holds-true text held.algorithm key (whole-holds type id (type-in-range purpose) i held.algorithm key)) tt

  text-method : method_in text ≡ method_for purpose
  text-method = ap method_of text-type ∙ method-same purpose

  text-id : id_of text ≡ id
  text-id = whole-id type id (type-in-range purpose) i held.algorithm key

  text-lifetime : lifetime_in text ≡ Some 600
  text-lifetime = whole-lifetime type id (type-in-range purpose) i held.algorithm key

  text-grants : Grants text purpose
  text-grants = by purpose text-method
    where
      by : (p : Purpose) → method_in text ≡ method_for p → Grants text p
      by (ForRefresh family seconds) m = (m, rw text-lifetime (omega arith))
      by ForAllocation m = (m, tt)
      by (ForPermission ip) m = (m, tt)
      by (ForChannel number peer) m = (m, tt)
      by (ForConnect peer) m = (m, tt)
      by (ForBind local peer connection_id) m = (m, tt)

  text-success : (now : ℕ) (others : List Purpose) → s.transport ≡ Udp → is_outstanding id s.transactions ≡ true → purposes_of id s ≡ purpose ∷ others → IsSuccess (from_server s text) now s
  text-success now others udp outstanding purposes = record {
    message = datagram-message (from_server s text) now s udp (record {
      from_server = rw (udp, same_address-self s.remote) refl;
      to_client = same_address-self s.local;
      whole = whole-message type id (type-in-range purpose) i held.algorithm key;
    });
    success = text-class;
    signed = text-validated;
    outstanding = rw text-id outstanding;
    answers = rw (text-id, purposes) text-grants;
  }

pub requests-can-be-granted : RequestsCanBeGranted
requests-can-be-granted now id purpose others s udp some i outstanding purposes = by s.held refl some
  where
    by : (o : Option Challenge) → s.held ≡ o → IsSome o → IsSuccess (from_server s (success_for s purpose id)) now s
    by None e h = absurd (let no : false ≡ true = h in cc)
    by (Some held) e h =
        subst (λ (bytes : List ℕ). IsSuccess (from_server s bytes) now s) (sym (text-is purpose id i held s e)) (text-success purpose id i held s e now others udp outstanding purposes)

-- what a client reads in the reply
pub record IsReplyFor (purpose : Purpose) (id : ℕ) (message : List ℕ) : Type 0 where
  pub named : id_of message ≡ id
  pub of_method : method_in message ≡ method_for purpose
  pub lasts : lifetime_in message ≡ Some 600

pub success-read : (purpose : Purpose) (id : ℕ) (s : State) → id < 2 ^ 96 → IsSome s.held → IsReplyFor purpose id (success_for s purpose id)
success-read purpose id s i some = by s.held refl some
  where
    by : (o : Option Challenge) → s.held ≡ o → IsSome o → IsReplyFor purpose id (success_for s purpose id)
    by None e h = absurd (let no : false ≡ true = h in cc)
    by (Some held) e h = subst (IsReplyFor purpose id) (sym (text-is purpose id i held s e)) (record {
      named = text-id purpose id i held s e;
      of_method = text-method purpose id i held s e;
      lasts = text-lifetime purpose id i held s e;
    })

-- the reply is a signed success
pub record IsSignedSuccess (purpose : Purpose) (message : List ℕ) (s : State) : Type 0 where
  pub whole : is_message message ≡ true
  pub success : class_in message ≡ Success
  pub signed : IsValidated (validation_of (auth_of s) message)
  pub grants : Grants message purpose

pub success-signed : (purpose : Purpose) (id : ℕ) (s : State) → id < 2 ^ 96 → IsSome s.held → IsSignedSuccess purpose (success_for s purpose id) s
success-signed purpose id s i some = by s.held refl some
  where
    by : (o : Option Challenge) → s.held ≡ o → IsSome o → IsSignedSuccess purpose (success_for s purpose id) s
    by None e h = absurd (let no : false ≡ true = h in cc)
    by (Some held) e h = subst (λ (bytes : List ℕ). IsSignedSuccess purpose bytes s) (sym (text-is purpose id i held s e)) (record {
      whole = whole-message (type purpose id i held s e) id (type-in-range purpose) i held.algorithm (key purpose id i held s e);
      success = text-class purpose id i held s e;
      signed = text-validated purpose id i held s e;
      grants = text-grants purpose id i held s e;
    })
