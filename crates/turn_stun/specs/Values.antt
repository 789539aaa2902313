-- The decoded value of an attribute, or nothing if it is malformed (RFC 8489, section 14).
use Rattle.std.specs.Prelude.{ℕ, ◌+◌, ◌*◌, ◌/◌, ◌%◌, nat_le, ◌&&◌, if◌then◌else◌, List, [], ◌∷◌, ◌++◌, length, drop, slice_index, Bool, ◌==◌, Option, Some}
use Rattle.std.specs.Prelude.{None, is_some, unwrap_or}
use Rattle.turn_stun.specs.declared.attribute.password_algorithms.PasswordAlgorithm.{PasswordAlgorithm}
use Rattle.turn_stun.specs.declared.attribute.password_algorithms.PasswordAlgorithm.TheVariants.{Md5, Sha256}
use Rattle.turn_stun.specs.Message.{Attribute, attributes_from}
use Rattle.turn_stun.specs.Refusal.{Refusal}

-- the value itself, if it has so many bytes
abbrev pub sized : ℕ → ℕ → List ℕ → Option (List ℕ)
sized least most value =
    if nat_le least (length value) && nat_le (length value) most then Some value else None

-- USERNAME (section 14.3: fewer than 509 bytes; at least one is our choice)
abbrev pub username_of : List ℕ → Option (List ℕ)
username_of value = sized 1 508 value

-- USERHASH (section 14.4)
abbrev pub userhash_of : List ℕ → Option (List ℕ)
userhash_of value = sized 32 32 value

-- REALM (section 14.9: at most 763 bytes; at least one is our choice)
abbrev pub realm_of : List ℕ → Option (List ℕ)
realm_of value = sized 1 763 value

-- NONCE (section 14.10: at most 763 bytes; at least one is our choice)
abbrev pub nonce_of : List ℕ → Option (List ℕ)
nonce_of value = sized 1 763 value

-- ERROR-CODE (section 14.8): 21 reserved bits, three bits of class, from 3 to 6, a byte of number,
-- below 100, and the reason
abbrev pub error_class : List ℕ → ℕ
error_class value = slice_index value 2 % 8

abbrev pub error_number : List ℕ → ℕ
error_number value = slice_index value 3

abbrev pub error_code_of : List ℕ → Option Refusal
error_code_of value =
    if nat_le 4 (length value) && nat_le 3 (error_class value) && nat_le (error_class value) 6
    && nat_le (error_number value) 99
    then Some (record { code = error_class value * 100 + error_number value; reason = drop 4 value })
    else None

-- the value of a code and a reason; the reserved bits are zero
abbrev pub error_code_value : Refusal → List ℕ
error_code_value error = (0 ∷ 0 ∷ (error.code / 100) ∷ (error.code % 100) ∷ []) ++ error.reason

-- PASSWORD-ALGORITHMS (section 14.11): a list of entries, each of them encoded like an attribute: the
-- number of the algorithm, the length of its parameters, these, and padding to a multiple of four
abbrev pub password_algorithms_of : List ℕ → Option (List ℕ)
password_algorithms_of value = if is_some (attributes_from 0 0 value) then Some value else None

abbrev pub entries_of : List ℕ → List Attribute
entries_of value = unwrap_or (attributes_from 0 0 value) []

-- an entry of the algorithm, without parameters
abbrev pub is_bare_entry : ℕ → Attribute → Bool
is_bare_entry algorithm entry = (entry.kind == algorithm) && (length entry.value == 0)

-- section 18.5: the numbers of the password algorithms
abbrev pub algorithm_number : PasswordAlgorithm → ℕ
algorithm_number Md5 = 1
algorithm_number Sha256 = 2
