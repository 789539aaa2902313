-- What writing an attribute does to the bytes of a message.
use Rattle.std.proofs.Common.{◌≡◌, ℕ, ◌+◌, ◌-◌, ◌*◌, ◌^◌, ◌<◌, ◌≤◌, List, [], ◌∷◌, ◌++◌, length, take, drop, replicate, refl, subst, sym, ap, ◌∙◌, arith, append_assoc, lit≤}
use Rattle.std.proofs.lemmas.List.{take-take, take_at, drop_at, drop-drop, drop-append-le, take-append-le, length-append, length-take, length-drop, get_or-drop, append-nil}
use Rattle.std.proofs.lemmas.List.{length-replicate}
use Rattle.std.specs.Int.{w16, to_be_bytes}
use Rattle.turn_stun.specs.Number.{big_endian, u16_at}
use Rattle.turn_stun.specs.Message.{Attribute, AreAttributes, IsAttributeThen, IsMessage, type_of, length_of, cookie_of, id_of, attributes_of, padded_len}
use Rattle.turn_stun.specs.Writer.{AddsAttribute, Extends, IsWritten, header_of, with_length, with_attribute, attribute_bytes}
use Rattle.turn_stun.proofs.FaultLemmas.{fault_of-none, no_fault-IsFaultless, IsMessage-no_fault, attributes_of-is}
use Rattle.turn_stun.proofs.GrammarLemmas.{padded_len-ge, u16_at-append, u16_at-take}

-- bytes that keep a longer front keep a shorter one
pub kept_front : (front more middle new : List ℕ) → middle ≡ front ++ more → take (length middle) new ≡ middle → take (length front) new ≡ front
kept_front front more middle new e kept =
    let shorter : length front ≤ length middle = rw e (omega (arith, length-append front more)) in
    sym (take-take (length front) (length middle) new shorter) ∙ rw (kept, e) (take_at front more (length front) refl)

-- ---- the length field

-- a number of two bytes is read again
pub u16_at-to_be_bytes : (n : ℕ) (rest : List ℕ) → n < 2 ^ 16 → u16_at (to_be_bytes w16 n ++ rest) 0 ≡ n
u16_at-to_be_bytes n rest h = omega arith

-- places after the first n bytes
pub u16_at-drop : (n i : ℕ) (bytes : List ℕ) → u16_at bytes (n + i) ≡ u16_at (drop n bytes) i
u16_at-drop n i bytes =
    let e : n + i + 1 ≡ n + (i + 1) = omega arith in
    rw (e, get_or-drop n bytes i 0, get_or-drop n bytes (i + 1) 0) refl

module _ (n : ℕ) (bytes : List ℕ) (long : 4 ≤ length bytes) where
  front_two : length (take 2 bytes) ≡ 2
  front_two = rw length-take (omega arith)

  pub take_2-with_length : take 2 (with_length n bytes) ≡ take 2 bytes
  take_2-with_length = take_at (take 2 bytes) (to_be_bytes w16 n ++ drop 4 bytes) 2 front_two

  pub drop_2-with_length : drop 2 (with_length n bytes) ≡ to_be_bytes w16 n ++ drop 4 bytes
  drop_2-with_length = drop_at (take 2 bytes) (to_be_bytes w16 n ++ drop 4 bytes) 2 front_two

  pub drop_4-with_length : drop 4 (with_length n bytes) ≡ drop 4 bytes
  drop_4-with_length = sym (drop-drop 2 2 (with_length n bytes)) ∙ rw drop_2-with_length refl

  pub length-with_length : length (with_length n bytes) ≡ length bytes
  length-with_length = omega (arith, length-append (take 2 bytes) (to_be_bytes w16 n ++ drop 4 bytes), front_two, length-drop 4 bytes)

pub with_length-append : (n : ℕ) (message more : List ℕ) → 4 ≤ length message → with_length n (message ++ more) ≡ with_length n message ++ more
with_length-append n message more header =
    let two : 2 ≤ length message = omega arith in
    rw (take-append-le 2 message more two, drop-append-le 4 message more header, append_assoc, append_assoc) refl

pub with_length-twice : (n m : ℕ) (message : List ℕ) → 4 ≤ length message → with_length n (with_length m message) ≡ with_length n message
with_length-twice n m message header = rw (take_2-with_length m message header, drop_4-with_length m message header) refl

-- ---- the front of a message

-- the front of a message whose length field was set
take-with_length-append : (n k : ℕ) (front more : List ℕ) → 4 ≤ length front → length front ≡ k → take k (with_length n (front ++ more)) ≡ with_length n front
take-with_length-append n k front more header len =
    ap (take k) (with_length-append n front more header)
    ∙ take_at (with_length n front) more k (length-with_length n front header ∙ len)

pub with_attribute-Extends : (kind : ℕ) (value message : List ℕ) → IsWritten message → Extends message (with_attribute kind value message)
unfolding with_attribute
with_attribute-Extends kind value message is =
    let n = length message - 20 + (4 + padded_len (length value)) in
    let header : 4 ≤ length message = omega (arith, is.faultless.long) in
    let long : 4 ≤ length (message ++ attribute_bytes kind value) = omega (arith, length-append message (attribute_bytes kind value)) in
    let len = length-with_length n (message ++ attribute_bytes kind value) long ∙ length-append message (attribute_bytes kind value) in
    record {
      header = is.faultless.long;
      len = omega (arith, len);
      cut = ap (with_length (length message - 20)) (take-with_length-append n (length message) message (attribute_bytes kind value) header refl)
          ∙ (with_length-twice (length message - 20) n message header ∙ is.counted);
    }

-- ---- one attribute more

-- the encoding of an attribute is that attribute, and nothing more
pub attribute_bytes-is : (at kind : ℕ) (value : List ℕ) → kind < 2 ^ 16 → length value < 2 ^ 16
    → IsAttributeThen at (attribute_bytes kind value) (record { offset = at; kind = kind; value = value }) []
attribute_bytes-is at kind value k short = record {
  header = to_be_bytes w16 kind ++ to_be_bytes w16 (length value);
  padding = replicate (padded_len (length value) - length value) 0;
  spelled = rw append-nil refl;
  four_bytes = refl;
  kind = omega arith;
  value_length = omega arith;
  padded = rw (length-replicate {A = ℕ} (padded_len (length value) - length value) 0) (omega (arith, padded_len-ge (length value)));
  placed = refl;
}

-- bytes may follow an attribute
IsAttributeThen-more : (at : ℕ) (bytes : List ℕ) (a : Attribute) (rest more : List ℕ) → IsAttributeThen at bytes a rest → IsAttributeThen at (bytes ++ more) a (rest ++ more)
IsAttributeThen-more at bytes a rest more is = record {
  header = is.header;
  padding = is.padding;
  spelled = rw is.spelled (simp append_assoc);
  four_bytes = is.four_bytes;
  kind = is.kind;
  value_length = is.value_length;
  padded = is.padded;
  placed = is.placed;
}

pub size_of_attribute : (at : ℕ) (bytes : List ℕ) (a : Attribute) (rest : List ℕ) → IsAttributeThen at bytes a rest → length bytes ≡ 4 + padded_len (length a.value) + length rest
size_of_attribute at bytes a rest is =
    rw is.spelled (omega (arith, length-append is.header (a.value ++ (is.padding ++ rest)), length-append a.value (is.padding ++ rest), length-append is.padding rest, is.four_bytes, is.padded))

-- attributes, and one more after them
pub AreAttributes-push : (attributes : List Attribute) (at : ℕ) (bytes more : List ℕ) (a : Attribute) → AreAttributes at bytes attributes → IsAttributeThen (at + length bytes) more a []
    → AreAttributes at (bytes ++ more) (attributes ++ a ∷ [])
AreAttributes-push [] at bytes more a are is =
    let here : at + length bytes ≡ at = omega (arith, ap length are) in
    ([], rw are (subst (λ n. IsAttributeThen n more a []) here is), refl)
AreAttributes-push (b ∷ later) at bytes more a are is =
    let behind : at + length bytes ≡ at + (4 + padded_len (length b.value)) + length are.0 =
    omega (arith, size_of_attribute at bytes b are.0 are.1) in (
      are.0 ++ more,
      IsAttributeThen-more at bytes b are.0 more are.1,
      AreAttributes-push later (at + (4 + padded_len (length b.value))) are.0 more a are.2
          (subst (λ n. IsAttributeThen n more a []) behind is),
    )

-- a message with bytes after it, and its length field set to n
module _ (n : ℕ) (message more : List ℕ) (twenty : 20 ≤ length message) where
  sent : List ℕ
  sent = with_length n (message ++ more)

  long : 4 ≤ length (message ++ more)
  long = omega (arith, length-append message more)

  front : take 2 sent ≡ take 2 message
  unfolding sent
  front = take_2-with_length n (message ++ more) long ∙ take-append-le 2 message more (omega arith)

  behind : (k : ℕ) → 4 + k ≤ length message → drop (4 + k) sent ≡ drop (4 + k) message ++ more
  unfolding sent
  behind k h =
      let four : 4 ≤ length message = omega arith in
      let left : k ≤ length (drop 4 message) = rw length-drop (omega arith) in
      sym (drop-drop k 4 sent)
      ∙ (ap (drop k) (drop_4-with_length n (message ++ more) long ∙ drop-append-le 4 message more four)
      ∙ (drop-append-le k (drop 4 message) more left ∙ ap (λ xs. xs ++ more) (drop-drop k 4 message)))

  type_of-sent : type_of sent ≡ type_of message
  type_of-sent = sym (u16_at-take 2 sent 0 (omega arith)) ∙ (ap (λ xs. u16_at xs 0) front ∙ u16_at-take 2 message 0 (omega arith))

  length_of-sent : n < 2 ^ 16 → length_of sent ≡ n
  unfolding sent
  length_of-sent h =
      u16_at-drop 2 0 sent
      ∙ (ap (λ xs. u16_at xs 0) (drop_2-with_length n (message ++ more) long) ∙ u16_at-to_be_bytes n (drop 4 (message ++ more)) h)

  cookie_of-sent : cookie_of sent ≡ cookie_of message
  cookie_of-sent =
      let left : 2 + 1 < length (drop 4 message) = rw length-drop (omega arith) in
      let right : 0 + 1 < length (drop 4 message) = rw length-drop (omega arith) in
      let four = behind 0 (omega arith) in
      let first : u16_at sent 4 ≡ u16_at message 4 =
      u16_at-drop 4 0 sent ∙ (ap (λ xs. u16_at xs 0) four ∙ (u16_at-append (drop 4 message) more 0 right ∙ sym (u16_at-drop 4 0 message))) in
      let second : u16_at sent 6 ≡ u16_at message 6 =
      u16_at-drop 4 2 sent ∙ (ap (λ xs. u16_at xs 2) four ∙ (u16_at-append (drop 4 message) more 2 left ∙ sym (u16_at-drop 4 2 message))) in
      ap (λ m. m * 65536 + u16_at sent 6) first ∙ ap (λ m. u16_at message 4 * 65536 + m) second

  id_of-sent : id_of sent ≡ id_of message
  id_of-sent =
      let left : 12 ≤ length (drop 8 message) = rw length-drop (omega arith) in
      ap (λ xs. big_endian (take 12 xs)) (behind 4 (omega arith)) ∙ ap big_endian (take-append-le 12 (drop 8 message) more left)

-- a message with one attribute more at its end is a message, and has it
pub with_length-IsMessage : (n : ℕ) (message more : List ℕ) (a : Attribute) → IsMessage message (type_of message) (id_of message) (attributes_of message) → IsAttributeThen (length message) more a []
    → n + 20 ≡ length message + length more → n < 2 ^ 16 → IsMessage (with_length n (message ++ more)) (type_of message) (id_of message) (attributes_of message ++ a ∷ [])
unfolding sent
with_length-IsMessage n message more a is one sum fits =
    let twenty : 20 ≤ length message = omega (arith, is.whole) in
    record {
      has_type = type_of-sent n message more twenty;
      first_two_bits = is.first_two_bits;
      whole = rw (length_of-sent n message more twenty fits, length-with_length n (message ++ more) (long n message more twenty), length-append message more) (omega (arith, sum));
      has_cookie = cookie_of-sent n message more twenty ∙ is.has_cookie;
      has_id = id_of-sent n message more twenty;
      has_attributes =
          let place : length message ≡ 20 + length (drop 20 message) = rw length-drop (omega arith) in
          rw (behind n message more twenty 16 twenty)
          (AreAttributes-push (attributes_of message) 20 (drop 20 message) more a is.has_attributes (subst (λ m. IsAttributeThen m more a []) place one));
    }

-- the length of the encoding of an attribute
pub length-attribute_bytes : (kind : ℕ) (value : List ℕ) → kind < 2 ^ 16 → length value < 2 ^ 16 → length (attribute_bytes kind value) ≡ 4 + padded_len (length value)
length-attribute_bytes kind value k short =
    let a : Attribute = record { offset = 0; kind = kind; value = value } in
    omega (arith, size_of_attribute 0 (attribute_bytes kind value) a [] (attribute_bytes-is 0 kind value k short))

pub length-with_attribute : (kind : ℕ) (value message : List ℕ) → kind < 2 ^ 16 → length value < 2 ^ 16 → 20 ≤ length message
    → length (with_attribute kind value message) ≡ length message + (4 + padded_len (length value))
unfolding with_attribute
length-with_attribute kind value message k short twenty =
    let long : 4 ≤ length (message ++ attribute_bytes kind value) = omega (arith, length-append message (attribute_bytes kind value)) in
    length-with_length (length message - 20 + (4 + padded_len (length value))) (message ++ attribute_bytes kind value) long
    ∙ (length-append message (attribute_bytes kind value) ∙ ap (λ n. length message + n) (length-attribute_bytes kind value k short))

-- a message with one attribute more at its end is a message, and has it
pub with_attribute-IsMessage : (kind : ℕ) (value message : List ℕ) → IsMessage message (type_of message) (id_of message) (attributes_of message) → kind < 2 ^ 16
    → length message + (4 + padded_len (length value)) ≤ 65552 → IsMessage (with_attribute kind value message) (type_of message) (id_of message)
    (attributes_of message ++ record { offset = length message; kind = kind; value = value } ∷ [])
unfolding with_attribute
with_attribute-IsMessage kind value message is k room =
    let a : Attribute = record { offset = length message; kind = kind; value = value } in
    let short : length value < 2 ^ 16 = omega (arith, padded_len-ge (length value)) in
    let one = attribute_bytes-is (length message) kind value k short in
    let size : length (attribute_bytes kind value) ≡ 4 + padded_len (length value) = length-attribute_bytes kind value k short in
    with_length-IsMessage _ message (attribute_bytes kind value) a is one (omega (arith, size, is.whole)) (omega (arith, is.whole))

-- what a writer keeps is a message
pub IsWritten-IsMessage : (message : List ℕ) → IsWritten message → IsMessage message (type_of message) (id_of message) (attributes_of message)
IsWritten-IsMessage message is = fault_of-none message is.faultless.none

with_attribute-counted : (kind : ℕ) (value message : List ℕ) → kind < 2 ^ 16 → length value < 2 ^ 16 → 20 ≤ length message
    → with_length (length (with_attribute kind value message) - 20) (with_attribute kind value message) ≡ with_attribute kind value message
unfolding with_attribute
with_attribute-counted kind value message k short twenty =
    let longer = message ++ attribute_bytes kind value in
    let n = length message - 20 + (4 + padded_len (length value)) in
    let long : 4 ≤ length longer = omega (arith, length-append message (attribute_bytes kind value)) in
    let same : length (with_length n longer) - 20 ≡ n = omega (arith, length-with_attribute kind value message k short twenty) in
    ap (λ m. with_length m (with_length n longer)) same ∙ with_length-twice n n longer long

-- the invariant of a writer holds after it adds an attribute
pub with_attribute-IsWritten : (kind : ℕ) (value message : List ℕ) → IsWritten message → kind < 2 ^ 16 → length message + (4 + padded_len (length value)) ≤ 65552
    → IsWritten (with_attribute kind value message)
with_attribute-IsWritten kind value message is k room =
    let old = IsWritten-IsMessage message is in
    let new = with_attribute-IsMessage kind value message old k room in
    record {
      faultless = no_fault-IsFaultless _ (IsMessage-no_fault _ _ _ _ new);
      short = rw (length-with_attribute kind value message k (omega (arith, padded_len-ge (length value))) is.faultless.long) room;
      counted = with_attribute-counted kind value message k (omega (arith, padded_len-ge (length value))) is.faultless.long;
    }

pub with_attribute-AddsAttribute : (kind : ℕ) (value message : List ℕ) → IsWritten message → kind < 2 ^ 16 → length message + (4 + padded_len (length value)) ≤ 65552
    → AddsAttribute message (with_attribute kind value message) kind value
with_attribute-AddsAttribute kind value message is k room =
    let new = with_attribute-IsMessage kind value message (IsWritten-IsMessage message is) k room in
    record { type = new.has_type; id = new.has_id; attributes = attributes_of-is _ _ _ _ new }

-- a header is a message with no attributes
pub header_of-IsMessage : (type id : ℕ) → type < 2 ^ 14 → id < 2 ^ 96 → IsMessage (header_of type id) type id []
header_of-IsMessage type id t i = record {
  has_type = omega arith;
  first_two_bits = t;
  whole = refl;
  has_cookie = refl;
  has_id = omega arith;
  has_attributes = refl;
}

pub header_of-IsWritten : (type id : ℕ) → type < 2 ^ 14 → id < 2 ^ 96 → IsWritten (header_of type id)
header_of-IsWritten type id t i = record {
  faultless = no_fault-IsFaultless _ (IsMessage-no_fault _ _ _ _ (header_of-IsMessage type id t i));
  short = lit≤ tt;
  counted = refl;
}

-- a message whose length is set after an attribute was appended
pub with_attribute-made : (kind n : ℕ) (value message longer : List ℕ) → kind < 2 ^ 16 → length value < 2 ^ 16 → 20 ≤ length message → longer ≡ message ++ attribute_bytes kind value
    → n ≡ length longer - 20 → with_length n longer ≡ with_attribute kind value message
unfolding with_attribute
with_attribute-made kind n value message longer k short twenty e m =
    let size : n ≡ length message - 20 + (4 + padded_len (length value)) =
    m ∙ rw (e, length-append message (attribute_bytes kind value), length-attribute_bytes kind value k short) (omega arith) in
    rw (size, e) refl
