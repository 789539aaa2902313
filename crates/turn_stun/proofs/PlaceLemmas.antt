-- The attributes of a message lie within it, and it holds their values there.
use Rattle.std.proofs.Common.{◌≡◌, ℕ, ◌+◌, ◌-◌, ◌≤◌, Bool, true, false, cond, List, [], ◌∷◌, ◌++◌, length, drop, Some, find, refl, subst, sym, ◌∙◌, arith, append_assoc, length-drop}
use Rattle.std.proofs.lemmas.List.{drop-drop, drop_at, length-append, take_at}
use Rattle.std.specs.List.{AllByRecursion}
use Rattle.turn_stun.specs.Message.{Attribute, AreAttributes, HoldsValue, IsAttributeThen, IsMessage, IsWithin, attributes_of, type_of, id_of, padded_len}
use Rattle.turn_stun.specs.Attributes.{is_seen, seen_after, seen_of}
use Rattle.turn_stun.proofs.WriteLemmas.{size_of_attribute}

weaken : (start end front back : ℕ) (attributes : List Attribute) → front ≤ start → end ≤ back → AllByRecursion (IsWithin start end) attributes → AllByRecursion (IsWithin front back) attributes
weaken start end front back [] f b all = tt
weaken start end front back (a ∷ later) f b all =
    ((omega (arith, all.0.0), omega (arith, all.0.1)), weaken start end front back later f b all.1)

AreAttributes-within : (attributes : List Attribute) (at : ℕ) (bytes : List ℕ) → AreAttributes at bytes attributes → AllByRecursion (IsWithin at (at + length bytes)) attributes
AreAttributes-within [] at bytes are = tt
AreAttributes-within (a ∷ later) at bytes are =
    let size = size_of_attribute at bytes a are.0 are.1 in
    let placed = are.1.placed in (
      (omega (arith, placed), omega (arith, placed, size)),
      weaken (at + (4 + padded_len (length a.value))) _ at (at + length bytes) later (omega arith) (omega (arith, size))
          (AreAttributes-within later (at + (4 + padded_len (length a.value))) are.0 are.2),
    )

module _ (message : List ℕ) (at : ℕ) (a : Attribute) (rest : List ℕ) (is : IsAttributeThen at (drop at message) a rest) where
  behind_header : drop (a.offset + 4) message ≡ a.value ++ (is.padding ++ rest)
  behind_header = rw (is.placed, ← drop-drop 4 at message, is.spelled) (drop_at is.header _ 4 is.four_bytes)

  value_held : HoldsValue message a
  value_held = rw behind_header (take_at a.value _ (a.offset + 4 + length a.value - (a.offset + 4)) (omega arith))

  attribute_len : length (is.header ++ (a.value ++ is.padding)) ≡ 4 + padded_len (length a.value)
  attribute_len = omega (arith, length-append is.header (a.value ++ is.padding), length-append a.value is.padding, is.four_bytes, is.padded)

  rest_is : drop (at + (4 + padded_len (length a.value))) message ≡ rest
  rest_is =
      let spelled : drop at message ≡ (is.header ++ (a.value ++ is.padding)) ++ rest =
      is.spelled ∙ rw (append_assoc is.header (a.value ++ is.padding) rest, append_assoc a.value is.padding rest) refl in
      rw (← drop-drop (4 + padded_len (length a.value)) at message, spelled)
      (drop_at (is.header ++ (a.value ++ is.padding)) rest (4 + padded_len (length a.value)) attribute_len)

AreAttributes-values : (message : List ℕ) (attributes : List Attribute) (at : ℕ) → AreAttributes at (drop at message) attributes → AllByRecursion (HoldsValue message) attributes
AreAttributes-values message [] at are = tt
AreAttributes-values message (a ∷ later) at are = (
  value_held message at a are.0 are.1,
  AreAttributes-values message later (at + (4 + padded_len (length a.value)))
      (subst (λ bytes. AreAttributes (at + (4 + padded_len (length a.value))) bytes later) (sym (rest_is message at a are.0 are.1)) are.2),
)

module _ (P : Attribute → Type 0) where
  seen_one : (seen : Bool) (a : Attribute) (others : List Attribute) → P a → AllByRecursion P others → AllByRecursion P (cond seen (a ∷ others) others)
  seen_one true a others p all = (p, all)
  seen_one false a others p all = all

  seen_after-all : (attributes : List Attribute) (any sha256 : Bool) → AllByRecursion P attributes → AllByRecursion P (seen_after any sha256 attributes)
  unfolding seen_after
  seen_after-all [] any sha256 all = tt
  seen_after-all (a ∷ later) any sha256 all = seen_one (is_seen any sha256 a.kind) a _ all.0 (seen_after-all later _ _ all.1)

  found_one : (test : Bool) (p : Attribute → Bool) (a x : Attribute) (later : List Attribute) → (find p later ≡ Some x → P x) → P a → cond test (Some a) (find p later) ≡ Some x → P x
  found_one true p a x later more here h = let e : a ≡ x = cc in subst P e here
  found_one false p a x later more here h = more h

  pub find-all : (p : Attribute → Bool) (attributes : List Attribute) (x : Attribute) → AllByRecursion P attributes → find p attributes ≡ Some x → P x
  find-all p [] x all h = cc
  find-all p (a ∷ later) x all h = found_one (p a) p a x later (find-all p later x all.1) all.0 h

-- the seen attributes of a message lie after its header and before its end
pub seen_of-within : (message : List ℕ) → IsMessage message (type_of message) (id_of message) (attributes_of message) → AllByRecursion (IsWithin 20 (length message)) (seen_of message)
seen_of-within message is =
    let P : Attribute → Type 0 = IsWithin 20 (length message) in
    let within = AreAttributes-within (attributes_of message) 20 (drop 20 message) is.has_attributes in
    let all = weaken 20 _ 20 (length message) (attributes_of message) (omega arith) (omega (arith, is.whole, length-drop 20 message)) within in
    seen_after-all P (attributes_of message) false false all

-- the message holds the values of its seen attributes
pub seen_of-values : (message : List ℕ) → IsMessage message (type_of message) (id_of message) (attributes_of message) → AllByRecursion (HoldsValue message) (seen_of message)
seen_of-values message is =
    let all = AreAttributes-values message (attributes_of message) 20 is.has_attributes in
    seen_after-all (HoldsValue message) (attributes_of message) false false all
