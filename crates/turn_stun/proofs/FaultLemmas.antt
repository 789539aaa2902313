-- The bytes without a fault are the messages of the grammar.
use Rattle.std.proofs.Common.{◌≡◌, ℕ, ◌+◌, ◌%◌, Bool, true, false, not, cond, List, [], length, drop, Option, Some, None, is_none, is_some, unwrap_or, refl, arith, eqb, ltb, length-drop}
use Rattle.std.proofs.lemmas.Bool.{eqb-true, ltb-true, le-ltb, eq-eqb, lt-ltb, not-false, and_parts}
use Rattle.turn_stun.specs.Message.{Attribute, IsMessage, IsFaultless, fault_of, is_stun_header, type_of, length_of, cookie_of, id_of, attributes_from, attributes_of}
use Rattle.turn_stun.proofs.GrammarLemmas.{attributes_from-sound, attributes_from-complete, AreAttributes-fours}

-- a chain of errors ends with none only if each test fails
pub guard_none : {E : Type 0} (test : Bool) (fault : E) (later : Option E) → cond test (Some fault) later ≡ None → (test ≡ false) × (later ≡ None)
guard_none true fault later h = cc
guard_none false fault later h = (refl, h)

-- the tests of a message without a fault
pub record PassesTests (bytes : List ℕ) : Type 0 where
  pub long : ltb (length bytes) 20 ≡ false
  pub stun : not (is_stun_header bytes) ≡ false
  pub whole : not (eqb (20 + length_of bytes) (length bytes)) ≡ false
  pub walked : is_none (attributes_from 0 20 (drop 20 bytes)) ≡ false

tests_of : (bytes : List ℕ) → fault_of bytes ≡ None → PassesTests bytes
unfolding fault_of
tests_of bytes h =
    let one = guard_none _ _ _ h in
    let two = guard_none _ _ _ one.1 in
    let three = guard_none _ _ _ two.1 in
    let four = guard_none _ _ _ three.1 in
    record { long = one.0; stun = two.0; whole = three.0; walked = four.0 }

found_attributes : (found : Option (List Attribute)) → is_none found ≡ false → found ≡ Some (unwrap_or found [])
found_attributes None h = cc
found_attributes (Some l) h = refl

pub fault_of-none : (bytes : List ℕ) → fault_of bytes ≡ None → IsMessage bytes (type_of bytes) (id_of bytes) (attributes_of bytes)
fault_of-none bytes h =
    let tests = tests_of bytes h in
    let stun = and_parts _ _ (not-false (is_stun_header bytes) tests.stun) in
    let bits = and_parts _ _ stun.0 in
    record {
      has_type = refl;
      first_two_bits = ltb-true _ _ bits.0;
      whole = eqb-true _ _ (not-false _ tests.whole);
      has_cookie = eqb-true _ _ bits.1;
      has_id = refl;
      has_attributes = attributes_from-sound (attributes_of bytes) 20 (drop 20 bytes) (found_attributes (attributes_from 0 20 (drop 20 bytes)) tests.walked);
    }

pub attributes_of-is : (bytes : List ℕ) (type id : ℕ) (attributes : List Attribute) → IsMessage bytes type id attributes → attributes_of bytes ≡ attributes
attributes_of-is bytes type id attributes is = rw (attributes_from-complete attributes 20 (drop 20 bytes) is.has_attributes) refl

pub IsMessage-no_fault : (bytes : List ℕ) (type id : ℕ) (attributes : List Attribute) → IsMessage bytes type id attributes → fault_of bytes ≡ None
unfolding fault_of
IsMessage-no_fault bytes type id attributes is =
    let whole = is.whole in
    let fours : length (drop 20 bytes) % 4 ≡ 0 = AreAttributes-fours attributes 20 (drop 20 bytes) is.has_attributes in
    let short : ltb (length bytes) 20 ≡ false = le-ltb _ _ (omega arith) in
    let bits : ltb (type_of bytes) 0x4000 ≡ true = lt-ltb _ _ (omega (arith, is.has_type, is.first_two_bits)) in
    let cookie : eqb (cookie_of bytes) 0x2112a442 ≡ true = eq-eqb _ _ is.has_cookie in
    let in_fours : eqb (length_of bytes % 4) 0 ≡ true = eq-eqb _ _ (omega (arith, fours, length-drop 20 bytes)) in
    let is_whole : eqb (20 + length_of bytes) (length bytes) ≡ true = eq-eqb _ _ whole in
    let walked = attributes_from-complete attributes 20 (drop 20 bytes) is.has_attributes in
    rw (short, bits, cookie, in_fours, is_whole, walked) refl

pub no_fault-IsFaultless : (bytes : List ℕ) → fault_of bytes ≡ None → IsFaultless bytes
no_fault-IsFaultless bytes none =
    let is = fault_of-none bytes none in
    record { none = none; long = omega (arith, is.whole); typed = is.first_two_bits }

-- the walk over the attributes of a message reaches its end
pub fault_of-walked : (bytes : List ℕ) → fault_of bytes ≡ None → is_some (attributes_from 0 20 (drop 20 bytes)) ≡ true
fault_of-walked bytes none = not-false _ (tests_of bytes none).walked
