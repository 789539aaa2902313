-- What signing does to the bytes of a message.
use Rattle.std.proofs.Common.{◌≡◌, ℕ, ◌+◌, ◌-◌, ◌≤◌, Bool, true, false, not, List, [], ◌∷◌, ◌++◌, length, take, drop, replicate, Some, eqb, refl, sym, ap, ◌∙◌, arith}
use Rattle.std.specs.Prelude.{◌||◌, find}
use Rattle.std.proofs.lemmas.List.{length-append, length-replicate, length-take-le, take_at, take_all, take-take, take-append-drop}
use Rattle.std.proofs.lemmas.List.Folds.{list_all-append}
use Rattle.std.proofs.lemmas.Bool.{and_parts, eq-eqb}
use Rattle.turn_stun.specs.Message.{Attribute, IsMessage, padded_len, attributes_of}
use Rattle.turn_stun.specs.Attributes.{seen_after, is_sha1, is_sha256}
use Rattle.turn_stun.specs.Writer.{AddsAttribute, Extends, with_length, with_attribute, attribute_bytes}
use Rattle.turn_stun.proofs.WriteLemmas.{length-with_length, with_length-append, with_length-twice}
use Rattle.turn_stun.proofs.FaultLemmas.{attributes_of-is}
use Rattle.turn_stun.proofs.GrammarLemmas.{padded_len-ge}
use Rattle.turn_auth.specs.Signature.{Addition, AddsAll, with_additions, additions_len, written_len, is_plain, is_unsigned}
use Rattle.turn_auth.specs.Integrity.{IntegrityHolds, integrity_kind, mac_of, covered_text}
use Rattle.turn_auth.specs.declared.integrity.IntegrityAlgorithm.{IntegrityAlgorithm}
use Rattle.turn_auth.specs.declared.integrity.IntegrityAlgorithm.TheVariants.{Sha1, Sha256}

length-attribute_bytes : (kind : ℕ) (value : List ℕ) → length (attribute_bytes kind value) ≡ written_len value
length-attribute_bytes kind value =
    omega (arith, padded_len-ge (length value), length-append value (replicate (padded_len (length value) - length value) 0), length-replicate {A = ℕ} (padded_len (length value) - length value) 0)

-- an attribute consists of its header, its value and its padding
pub length-with_attribute : (kind : ℕ) (value message : List ℕ) → 4 ≤ length message → length (with_attribute kind value message) ≡ length message + written_len value
unfolding with_attribute
length-with_attribute kind value message header =
    let long : 4 ≤ length (message ++ attribute_bytes kind value) = rw (length-append message (attribute_bytes kind value)) (omega arith) in
    length-with_length _ (message ++ attribute_bytes kind value) long
    ∙ rw (length-append message (attribute_bytes kind value), length-attribute_bytes kind value) refl

-- ---- the text that integrity covers stays when its attribute is added

pub covered-with_attribute : (algorithm : IntegrityAlgorithm) (kind : ℕ) (value message : List ℕ) → 4 ≤ length message
    → covered_text algorithm (length message) (with_attribute kind value message) ≡ covered_text algorithm (length message) message
unfolding with_attribute
covered-with_attribute algorithm kind value message header =
    let n = length message - 20 + written_len value in
    let front : take (length message) (with_length n (message ++ attribute_bytes kind value)) ≡ with_length n message =
    rw (with_length-append n message (attribute_bytes kind value) header)
    (take_at (with_length n message) (attribute_bytes kind value) (length message) (length-with_length n message header)) in
    rw (front, take_all (length message) message (omega arith), with_length-twice _ n message header) refl

-- ---- after unsigned attributes an integrity attribute is the first of its kind

neither : (a b : Bool) → not (a || b) ≡ true → (a ≡ false) × (b ≡ false)
neither true b h = cc
neither false true h = cc
neither false false h = (refl, refl)

another_kind : (algorithm : IntegrityAlgorithm) (kind : ℕ) → is_plain kind ≡ true → eqb kind (integrity_kind algorithm) ≡ false
another_kind Sha1 kind plain = (neither (is_sha1 kind) (is_sha256 kind) plain).0
another_kind Sha256 kind plain = (neither (is_sha1 kind) (is_sha256 kind) plain).1

pub found_behind : (algorithm : IntegrityAlgorithm) (attributes : List Attribute) (a : Attribute) → a.kind ≡ integrity_kind algorithm → is_unsigned attributes ≡ true
    → find (λ x. eqb x.kind (integrity_kind algorithm)) (seen_after false false (attributes ++ a ∷ [])) ≡ Some a
unfolding seen_after
found_behind algorithm [] a kind h = rw (eq-eqb a.kind (integrity_kind algorithm) kind) refl
found_behind algorithm (b ∷ later) a kind h =
    let both = and_parts (is_plain b.kind) _ h in
    let flags = neither (is_sha1 b.kind) (is_sha256 b.kind) both.0 in
    rw (another_kind algorithm b.kind both.0, flags.0, flags.1) (found_behind algorithm later a kind both.1)

-- a message that is signed at its end meets the requirements on signed messages
pub signed_behind : (algorithm : IntegrityAlgorithm) (key message value new : List ℕ) → value ≡ mac_of algorithm key (covered_text algorithm (length message) message)
    → new ≡ with_attribute (integrity_kind algorithm) value message → AddsAttribute message new (integrity_kind algorithm) value → is_unsigned (attributes_of message) ≡ true → 4 ≤ length message
    → IntegrityHolds new algorithm key
signed_behind algorithm key message value new is text added unsigned header =
    let covered : covered_text algorithm (length message) new ≡ covered_text algorithm (length message) message =
    rw text (covered-with_attribute algorithm (integrity_kind algorithm) value message header) in
    let last : Attribute = record { offset = length message; kind = integrity_kind algorithm; value = value } in
    rw (added.attributes, found_behind algorithm (attributes_of message) last refl unsigned)
    (is ∙ sym (ap (mac_of algorithm key) covered))

-- an attribute more that carries no integrity leaves a message unsigned
pub is_unsigned-push : (old new : List ℕ) (kind : ℕ) (value : List ℕ) → AddsAttribute old new kind value → is_plain kind ≡ true
    → is_unsigned (attributes_of old) ≡ true → is_unsigned (attributes_of new) ≡ true
is_unsigned-push old new kind value added plain unsigned =
    let last : Attribute = record { offset = length old; kind = kind; value = value } in
    rw (added.attributes, list_all-append (λ (a : Attribute). is_plain a.kind) (attributes_of old) (last ∷ []), unsigned, plain) refl

-- a message that has no attributes yet is unsigned
pub begun_is_unsigned : (message : List ℕ) (type id : ℕ) → IsMessage message type id [] → is_unsigned (attributes_of message) ≡ true
begun_is_unsigned message type id begun = rw (attributes_of-is message type id [] begun) refl

-- ---- attributes that are added one after the other

with_additions-append : (first later : List Addition) (message : List ℕ)
    → with_additions (first ++ later) message ≡ with_additions later (with_additions first message)
with_additions-append [] later message = refl
with_additions-append (a ∷ first) later message = with_additions-append first later (with_attribute a.kind a.value message)

additions_len-append : (first later : List Addition) → additions_len (first ++ later) ≡ additions_len first + additions_len later
additions_len-append [] later = omega arith
additions_len-append (a ∷ first) later = omega (arith, additions_len-append first later)

pub AddsAll-none : (message : List ℕ) → AddsAll message message []
AddsAll-none message = record { text = refl; len = omega arith; type = refl; id = refl; unsigned = λ h. h }

-- first some attributes, and then others
pub AddsAll-append : (old middle new : List ℕ) (first later : List Addition) → AddsAll old middle first → AddsAll middle new later
    → AddsAll old new (first ++ later)
AddsAll-append old middle new first later begun more = record {
  text = more.text ∙ (ap (with_additions later) begun.text ∙ sym (with_additions-append first later old));
  len = omega (arith, begun.len, more.len, additions_len-append first later);
  type = more.type ∙ begun.type;
  id = more.id ∙ begun.id;
  unsigned = λ h. more.unsigned (begun.unsigned h);
}

-- one attribute more that carries no integrity
pub AddsAll-push : (old middle new : List ℕ) (first : List Addition) (kind : ℕ) (value : List ℕ) → AddsAll old middle first
    → new ≡ with_attribute kind value middle → AddsAttribute middle new kind value → length new ≡ length middle + written_len value
    → (is_unsigned (attributes_of middle) ≡ true → is_unsigned (attributes_of new) ≡ true)
    → AddsAll old new (first ++ record { kind = kind; value = value } ∷ [])
AddsAll-push old middle new first kind value begun text added len unsigned =
    AddsAll-append old middle new first _ begun
    (record { text = text; len = omega (arith, len); type = added.type; id = added.id; unsigned = unsigned })

-- the front of a message whose length field was set
take-with_length : (n k : ℕ) (message : List ℕ) → 4 ≤ k → k ≤ length message → take k (with_length n message) ≡ with_length n (take k message)
take-with_length n k message header short =
    let long : 4 ≤ length (take k message) = rw (length-take-le k message short) header in
    ap (λ bytes. take k (with_length n bytes)) (sym (take-append-drop k message))
    ∙ (ap (take k) (with_length-append n (take k message) (drop k message) long)
    ∙ take_at (with_length n (take k message)) (drop k message) k (length-with_length n (take k message) long ∙ length-take-le k message short))

-- a message begins with what its beginning begins with
pub Extends-then : (old middle new : List ℕ) → Extends old middle → Extends middle new → Extends old new
Extends-then old middle new begun more =
    let within : length old ≤ length new = omega (arith, begun.len, more.len) in
    let longer : length middle ≤ length new = more.len in
    let long : 4 ≤ length (take (length old) new) = rw (length-take-le (length old) new within) (omega (arith, begun.header)) in
    let n = length middle - 20 in
    let kept : length old ≤ length (take (length middle) new) = rw (length-take-le (length middle) new longer) begun.len in
    let front : take (length old) middle ≡ with_length n (take (length old) new) =
    ap (take (length old)) (sym more.cut)
    ∙ (take-with_length n (length old) (take (length middle) new) (omega (arith, begun.header)) kept
    ∙ ap (with_length n) (take-take (length old) (length middle) new begun.len)) in
    record {
      header = begun.header;
      len = within;
      cut = sym (with_length-twice (length old - 20) n (take (length old) new) long) ∙ (ap (with_length (length old - 20)) (sym front) ∙ begun.cut);
    }
