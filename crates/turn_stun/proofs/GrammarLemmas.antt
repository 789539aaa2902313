-- The walk finds the attributes of the grammar, all of them and no others.
use Rattle.std.proofs.Common.{◌≡◌, ℕ, ◌+◌, ◌-◌, ◌%◌, ◌<◌, ◌≤◌, List, [], ◌∷◌, ◌++◌, length, take, drop, Option, Some, None, refl, sym, ap, subst, ◌∙◌, inl, inr, arith, append_assoc, length-append}
use Rattle.std.proofs.lemmas.List.{take-append-drop, drop-drop, take_at, drop_at, length-take, length-drop, get_or-take, get_or_append_left}
use Rattle.std.proofs.lemmas.Bool.{cases_lt}
use Rattle.std.specs.Option.{option_map}
use Rattle.turn_stun.specs.Number.{u16_at}
use Rattle.turn_stun.specs.Message.{Attribute, AreAttributes, IsAttributeThen, attribute_at, attribute_size, attributes_from, padded_len}
use Rattle.turn_stun.proofs.WalkLemmas.{step_whole, step_cut}

-- the value is no longer than its padded length
pub padded_len-ge : (n : ℕ) → n ≤ padded_len n
padded_len-ge n = omega arith

-- both bytes of a number at the start stay when bytes follow
pub u16_at-append : (xs ys : List ℕ) (i : ℕ) → i + 1 < length xs → u16_at (xs ++ ys) i ≡ u16_at xs i
u16_at-append xs ys i h =
    let first : i < length xs = omega arith in
    rw (get_or_append_left xs ys 0 i first, get_or_append_left xs ys 0 (i + 1) h) refl

pub u16_at-take : (n : ℕ) (xs : List ℕ) (i : ℕ) → i + 1 < n → u16_at (take n xs) i ≡ u16_at xs i
u16_at-take n xs i h =
    let first : i < n = omega arith in
    rw (get_or-take n xs i 0 first, get_or-take n xs (i + 1) 0 h) refl

same_attribute : (a : Attribute) (offset kind : ℕ) (value : List ℕ) → offset ≡ a.offset → kind ≡ a.kind → value ≡ a.value → record { offset = offset; kind = kind; value = value } ≡ a
same_attribute a offset kind value o k v = rw (o, k, v) refl

pub length-value : (at : ℕ) (bytes : List ℕ) → attribute_size bytes ≤ length bytes → length (attribute_at at bytes).value ≡ u16_at bytes 2
length-value at bytes h = rw (length-take, length-drop) (omega (arith, padded_len-ge (u16_at bytes 2)))

-- four parts of a list, one after the other
four_parts : (n p : ℕ) (bytes : List ℕ) → n ≤ p → bytes ≡ take 4 bytes ++ (take n (drop 4 bytes) ++ (take (p - n) (drop (4 + n) bytes) ++ drop (4 + p) bytes))
four_parts n p bytes h =
    let e : 4 + p ≡ (4 + n) + (p - n) = omega arith in
    let behind : take (p - n) (drop (4 + n) bytes) ++ drop (4 + p) bytes ≡ drop (4 + n) bytes =
    rw (e, ← drop-drop (p - n) (4 + n) bytes) (take-append-drop (p - n) (drop (4 + n) bytes)) in
    let value : take n (drop 4 bytes) ++ drop (4 + n) bytes ≡ drop 4 bytes =
    rw (← drop-drop n 4 bytes) (take-append-drop n (drop 4 bytes)) in
    rw (behind, value, take-append-drop 4 bytes) refl

pub front_is_attribute : (at : ℕ) (bytes : List ℕ) → attribute_size bytes ≤ length bytes → IsAttributeThen at bytes (attribute_at at bytes) (drop (attribute_size bytes) bytes)
front_is_attribute at bytes h =
    let n = u16_at bytes 2 in
    let p = padded_len n in
    record {
      header = take 4 bytes;
      padding = take (p - n) (drop (4 + n) bytes);
      spelled = four_parts n p bytes (padded_len-ge n);
      four_bytes = rw length-take (omega arith);
      kind = u16_at-take 4 bytes 0 (omega arith);
      value_length = u16_at-take 4 bytes 2 (omega arith) ∙ sym (length-value at bytes h);
      padded = rw (length-value at bytes h, length-take, length-drop) (omega (arith, padded_len-ge n));
      placed = refl;
    }

cons_found : {x a : Attribute} {later : List Attribute} (found : Option (List Attribute)) → option_map (λ l. x ∷ l) found ≡ Some (a ∷ later) → (found ≡ Some later) × (x ≡ a)
cons_found None h = cc
cons_found (Some l) h = (cc, cc)

cons_not_nil : (x : Attribute) (found : Option (List Attribute)) → option_map (λ l. x ∷ l) found ≡ Some [] → ⊥
cons_not_nil x None h = cc
cons_not_nil x (Some l) h = cc

with_later : (at : ℕ) (bytes : List ℕ) (a : Attribute) (later : List Attribute) → attribute_at at bytes ≡ a → attribute_size bytes ≤ length bytes
    → AreAttributes (at + attribute_size bytes) (drop (attribute_size bytes) bytes) later → AreAttributes at bytes (a ∷ later)
with_later at bytes a later e whole more =
    let size : 4 + padded_len (length a.value) ≡ attribute_size bytes =
    rw (← e) (rw (length-value at bytes whole) refl) in (
      drop (attribute_size bytes) bytes,
      subst (λ x. IsAttributeThen at bytes x (drop (attribute_size bytes) bytes)) e (front_is_attribute at bytes whole),
      rw size more,
    )

-- what the walk finds is what the grammar says
pub attributes_from-sound : (attributes : List Attribute) (at : ℕ) (bytes : List ℕ) → attributes_from 0 at bytes ≡ Some attributes → AreAttributes at bytes attributes
unfolding attributes_from
attributes_from-sound [] at [] h = refl
attributes_from-sound [] at (b ∷ bs) h = absurd (cons_not_nil (attribute_at at (b ∷ bs)) _ h)
attributes_from-sound (a ∷ later) at [] h = cc
attributes_from-sound (a ∷ later) at (b ∷ bs) h =
    elim (cases_lt (length (b ∷ bs)) (attribute_size (b ∷ bs))) [
      | inl cut ↦ let none : None ≡ Some (a ∷ later) = sym (step_cut at b bs cut) ∙ h in cc
      | inr whole ↦
          let found = cons_found _ (sym (step_whole at b bs whole) ∙ h) in
          with_later at (b ∷ bs) a later found.1 whole
          (attributes_from-sound later (at + attribute_size (b ∷ bs)) (drop (attribute_size (b ∷ bs)) (b ∷ bs)) found.0)
    ]

-- the parts of an attribute that is encoded at the start are what the walk reads there
pub read_apart : (at : ℕ) (bytes : List ℕ) (a : Attribute) (rest : List ℕ) → IsAttributeThen at bytes a rest → (attribute_at at bytes ≡ a) × (drop (attribute_size bytes) bytes ≡ rest)
    × (attribute_size bytes ≤ length bytes)
read_apart at bytes a rest is =
    let behind = a.value ++ (is.padding ++ rest) in
    let kind : u16_at bytes 0 ≡ a.kind = rw is.spelled (u16_at-append is.header behind 0 (omega arith) ∙ is.kind) in
    let size : u16_at bytes 2 ≡ length a.value = rw is.spelled (u16_at-append is.header behind 2 (omega arith) ∙ is.value_length) in
    let value : take (length a.value) (drop 4 bytes) ≡ a.value = rw (is.spelled, drop_at is.header behind 4 is.four_bytes) (take_at a.value (is.padding ++ rest) (length a.value) refl) in
    let front = is.header ++ (a.value ++ is.padding) in
    let front_size : length front ≡ 4 + padded_len (length a.value) =
    omega (arith, length-append is.header (a.value ++ is.padding), length-append a.value is.padding, is.four_bytes, is.padded) in
    let joined : bytes ≡ front ++ rest = is.spelled ∙ simp append_assoc in (
      same_attribute a at (u16_at bytes 0) (take (u16_at bytes 2) (drop 4 bytes)) (sym is.placed) kind (rw size value),
      rw (size, joined) (drop_at front rest (4 + padded_len (length a.value)) front_size),
      rw size (rw joined (omega (arith, length-append front rest, front_size))),
    )

-- what the grammar says is what the walk finds
pub attributes_from-complete : (attributes : List Attribute) (at : ℕ) (bytes : List ℕ) → AreAttributes at bytes attributes → attributes_from 0 at bytes ≡ Some attributes
unfolding attributes_from
attributes_from-complete [] at bytes h = rw h refl
attributes_from-complete (a ∷ later) at [] h =
    let apart = read_apart at [] a h.0 h.1 in absurd (omega arith)
attributes_from-complete (a ∷ later) at (b ∷ bs) h =
    let apart = read_apart at (b ∷ bs) a h.0 h.1 in
    let size : attribute_size (b ∷ bs) ≡ 4 + padded_len (length a.value) =
    ap (λ n. 4 + padded_len n) (sym (length-value at (b ∷ bs) apart.2) ∙ ap (λ (x : Attribute). length x.value) apart.0) in
    let found : attributes_from 0 (at + attribute_size (b ∷ bs)) (drop (attribute_size (b ∷ bs)) (b ∷ bs)) ≡ Some later =
    rw (apart.1, size) (attributes_from-complete later _ h.0 h.2) in
    step_whole at b bs apart.2 ∙ rw (found, apart.0) refl

-- attributes take a multiple of four bytes
pub AreAttributes-fours : (attributes : List Attribute) (at : ℕ) (bytes : List ℕ) → AreAttributes at bytes attributes → length bytes % 4 ≡ 0
AreAttributes-fours [] at bytes h = rw h refl
AreAttributes-fours (a ∷ later) at bytes h =
    let apart = read_apart at bytes a h.0 h.1 in
    let behind = AreAttributes-fours later _ h.0 h.2 in
    let left : length bytes - attribute_size bytes ≡ length h.0 = sym (length-drop (attribute_size bytes) bytes) ∙ ap length apart.1 in
    omega (arith, apart.2, left, behind)
