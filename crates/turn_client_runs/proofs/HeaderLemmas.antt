-- The bytes of each request that a client makes hold its transaction ID in their header (RFC 8489, section 5).
use Rattle.turn_client_laws.proofs.Common.{◌≡◌, ◌∙◌, ℕ, ◌+◌, ◌-◌, ◌%◌, ◌^◌, ◌<◌, true, false, List, [], ◌∷◌, ◌++◌, Option, Some, None, refl, ap, sym, subst, arith, length}
use Rattle.turn_client_laws.proofs.Common.{eq-eqb, eqb, le-ltb, length-append, lt-ltb, ltb}
use Rattle.turn_client_laws.proofs.Machine.{header_of, id_of, length_of, padded_len, type_of, with_attribute, Request, Addition, Challenge, additions_for, signed_by}
use Rattle.turn_client_laws.proofs.Machine.{with_additions, State, Purpose, ForAllocation, ForBind, ForChannel, ForConnect, ForPermission, ForRefresh, delete_text, first_allocate, fresh_id}
use Rattle.turn_client_laws.proofs.Machine.{id_in_header}
use Rattle.turn_client_laws.proofs.Machine.{allocate_method, asked_attributes, asked_lifetime, attribute, dont_fragment_kind, family_attributes, lifetime_attribute, transport_attribute, message_of}
use Rattle.turn_client_laws.proofs.Machine.{method_for, refresh_method, request_for, signed}
use Rattle.std.proofs.lemmas.List.{length-replicate}
use Rattle.std.specs.Int.{byte_at, to_be_bytes, w16, w32}
use Rattle.std.specs.Prelude.{replicate}
use Rattle.turn_auth.specs.Credentials.{Credentials}
use Rattle.turn_auth.specs.declared.feature.Feature.{Feature}
use Rattle.turn_stun.specs.MessageType.{class_of, type_number}
use Rattle.turn_stun.specs.Number.{id_bytes}
use Rattle.turn_stun.specs.Writer.{attribute_bytes}
use Rattle.turn_stun.proofs.GrammarLemmas.{padded_len-ge}
use Rattle.turn_stun.proofs.WriteLemmas.{header_of-IsMessage}

-- ---- a header, and what follows it

-- the two bytes of the length are these
abbrev headed : ℕ → ℕ → ℕ → ℕ → List ℕ → List ℕ
headed type id high low rest = to_be_bytes w16 type ++ (high ∷ low ∷ to_be_bytes w32 0x2112a442) ++ id_bytes id ++ rest

-- the length is one of whole words, and so is that of what follows
record IsHeaded (type id : ℕ) (bytes : List ℕ) : Type 0 where
  high : ℕ
  low : ℕ
  rest : List ℕ
  spelled : bytes ≡ headed type id high low rest
  counted : low % 4 ≡ 0
  words : length rest % 4 ≡ 0

length-headed : (type id high low : ℕ) (rest : List ℕ) → length (headed type id high low rest) ≡ 20 + length rest
length-headed type id high low rest = omega arith

length-attribute : (kind : ℕ) (value : List ℕ) → length (attribute_bytes kind value) ≡ 4 + padded_len (length value)
length-attribute kind value =
    let padding = padded_len (length value) - length value in
    omega (arith, length-append value (replicate padding 0), length-replicate {A = ℕ} padding 0, padded_len-ge (length value))

-- ---- attributes are added

module _ (type id : ℕ) where
  -- how many bytes follow the header then
  abbrev counts : ℕ → ℕ → List ℕ → List ℕ → ℕ
  counts high low rest value = length (headed type id high low rest) - 20 + (4 + padded_len (length value))

  attribute-is : (high low kind : ℕ) (rest value : List ℕ)
      → with_attribute kind value (headed type id high low rest)
      ≡ headed type id (byte_at 1 (counts high low rest value)) (byte_at 0 (counts high low rest value)) (rest ++ attribute_bytes kind value)
  unfolding with_attribute
  attribute-is high low kind rest value = refl

  attribute-headed : (kind : ℕ) (value bytes : List ℕ) → IsHeaded type id bytes → IsHeaded type id (with_attribute kind value bytes)
  attribute-headed kind value bytes h = record {
    high = byte_at 1 (counts h.high h.low h.rest value);
    low = byte_at 0 (counts h.high h.low h.rest value);
    rest = h.rest ++ attribute_bytes kind value;
    spelled = ap (with_attribute kind value) h.spelled ∙ attribute-is h.high h.low kind h.rest value;
    counted = let whole = h.words in omega (arith, whole, length-headed type id h.high h.low h.rest);
    words = let whole = h.words in omega (arith, whole, length-append h.rest (attribute_bytes kind value), length-attribute kind value);
  }

  additions-headed : (all : List Addition) (bytes : List ℕ) → IsHeaded type id bytes → IsHeaded type id (with_additions all bytes)
  additions-headed [] bytes h = h
  additions-headed (a ∷ later) bytes h = additions-headed later (with_attribute a.kind a.value bytes) (attribute-headed a.kind a.value bytes h)

  signed_by-headed : (c : Option Credentials) (o : Option Challenge) (f : Feature) (bytes : List ℕ) → IsHeaded type id bytes → IsHeaded type id (signed_by c o f bytes)
  signed_by-headed (Some c) (Some d) f bytes h = attribute-headed _ _ _ (additions-headed (additions_for (class_of (type_of bytes)) f c d) bytes h)
  signed_by-headed (Some c) None f bytes h = h
  signed_by-headed None o f bytes h = h

  begins : IsHeaded type id (header_of type id)
  begins = record { high = 0; low = 0; rest = []; spelled = refl; counted = refl; words = refl }

  -- ---- the ID is read again

  module _ (t : type < 2 ^ 14) (i : id < 2 ^ 96) where
    read : (high low : ℕ) (rest : List ℕ) → low % 4 ≡ 0 → id_in_header (headed type id high low rest) ≡ Some id
    read high low rest counted =
        let bytes = headed type id high low rest in
        let long : ltb (length bytes) 20 ≡ false = le-ltb (length bytes) 20 (omega (arith, length-headed type id high low rest)) in
        let is : type_of bytes ≡ type = (header_of-IsMessage type id t i).has_type in
        let typed : ltb (type_of bytes) 0x4000 ≡ true = lt-ltb (type_of bytes) 0x4000 (omega (arith, is, t)) in
        let fours : eqb (length_of bytes % 4) 0 ≡ true = eq-eqb (length_of bytes % 4) 0 (omega (arith, counted)) in
        let named : id_of bytes ≡ id = (header_of-IsMessage type id t i).has_id in
        rw (long, typed, fours) (ap Some named)

    headed-named : (bytes : List ℕ) → IsHeaded type id bytes → id_in_header bytes ≡ Some id
    headed-named bytes h = subst (λ (bytes : List ℕ). id_in_header bytes ≡ Some id) (sym h.spelled) (read h.high h.low h.rest h.counted)

-- ---- the requests of a client

typed-request : (p : Purpose) → type_number (method_for p) Request < 2 ^ 14
typed-request ForAllocation = omega arith
typed-request (ForRefresh family lifetime) = omega arith
typed-request (ForPermission ip) = omega arith
typed-request (ForChannel number peer) = omega arith
typed-request (ForConnect peer) = omega arith
typed-request (ForBind local peer connection_id) = omega arith

module _ (s : State) (id : ℕ) (i : id < 2 ^ 96) where
  message-named : (method : ℕ) (all : List Addition) → type_number method Request < 2 ^ 14 → id_in_header (message_of method Request all id) ≡ Some id
  message-named method all t =
      headed-named (type_number method Request) id t i (message_of method Request all id)
      (additions-headed (type_number method Request) id all (header_of (type_number method Request) id) (begins (type_number method Request) id))

  signed-named : (method : ℕ) (all : List Addition) → type_number method Request < 2 ^ 14 → id_in_header (signed s (message_of method Request all id)) ≡ Some id
  signed-named method all t =
      let type = type_number method Request in
      headed-named type id t i (signed s (message_of method Request all id))
      (signed_by-headed type id (Some s.config.credentials) s.held s.config.anonymous_username (message_of method Request all id)
      (additions-headed type id all (header_of type id) (begins type id)))

  pub request-named : (p : Purpose) → id_in_header (request_for s p id) ≡ Some id
  request-named p = signed-named (method_for p) (asked_attributes s p id) (typed-request p)

  pub first-named : id_in_header (first_allocate s id) ≡ Some id
  first-named =
      let all = lifetime_attribute asked_lifetime ∷ transport_attribute s ∷ attribute dont_fragment_kind [] ∷ family_attributes s.families in
      message-named allocate_method all (omega arith)

-- the REFRESH that deletes all allocations
pub delete-named : (s : State) (id : ℕ) → id < 2 ^ 96 → fresh_id s ≡ id → id_in_header (delete_text s) ≡ Some id
delete-named s id i e =
    subst (λ (n : ℕ). id_in_header (signed s (message_of refresh_method Request (lifetime_attribute 0 ∷ []) n)) ≡ Some id) (sym e)
    (signed-named s id i refresh_method (lifetime_attribute 0 ∷ []) (omega arith))
