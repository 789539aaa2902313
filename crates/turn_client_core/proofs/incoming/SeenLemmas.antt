-- An integrity attribute is unknown in a Data indication, so what is seen up to the first unknown attribute is all.
use Rattle.turn_client_laws.proofs.Common.{◌≡◌, ◌∙◌, Bool, true, false, ◌||◌, List, [], ◌∷◌, ap, refl, eqb-true, false_from_ne_true, or_parts, list_any}
use Rattle.turn_client_laws.proofs.Machine.{is_sha1, is_sha256, seen_after, Attribute, is_unknown}

no-sha1 : (a : Attribute) → is_unknown a ≡ false → is_sha1 a.kind ≡ false
no-sha1 a known = false_from_ne_true _ (λ e. let same : a.kind ≡ 0x0008 = eqb-true a.kind 0x0008 e in let no : true ≡ false = rw same at known in cc)

no-sha256 : (a : Attribute) → is_unknown a ≡ false → is_sha256 a.kind ≡ false
no-sha256 a known = false_from_ne_true _ (λ e. let same : a.kind ≡ 0x001c = eqb-true a.kind 0x001c e in let no : true ≡ false = rw same at known in cc)

seen-first : (a : Attribute) (later : List Attribute) → is_unknown a ≡ false → seen_after false false (a ∷ later) ≡ a ∷ seen_after false false later
unfolding seen_after
seen-first a later known =
    let sha1 : is_sha1 a.kind ≡ false = no-sha1 a known in
    let sha256 : is_sha256 a.kind ≡ false = no-sha256 a known in
    rw (sha1, sha256) refl

pub all-seen : (attributes : List Attribute) → list_any is_unknown attributes ≡ false → seen_after false false attributes ≡ attributes
unfolding seen_after
all-seen [] known = refl
all-seen (a ∷ later) known = let (first, others) = or_parts _ _ known in rw (seen-first a later first) (ap (λ l. a ∷ l) (all-seen later others))

any-head : (a : Attribute) (later : List Attribute) → is_unknown a ≡ true → list_any is_unknown (seen_after false false (a ∷ later)) ≡ list_any is_unknown (a ∷ later)
unfolding seen_after
any-head a later unknown = rw unknown refl

pub unknown-seen : (attributes : List Attribute) → list_any is_unknown (seen_after false false attributes) ≡ list_any is_unknown attributes
unfolding seen_after
unknown-seen [] = refl
unknown-seen (a ∷ later) = by (is_unknown a) refl (unknown-seen later)
  where
    by : (b : Bool) → is_unknown a ≡ b → list_any is_unknown (seen_after false false later) ≡ list_any is_unknown later
        → list_any is_unknown (seen_after false false (a ∷ later)) ≡ list_any is_unknown (a ∷ later)
    by true e others = any-head a later e
    by false e others = ap (list_any is_unknown) (seen-first a later e) ∙ ap (λ b. is_unknown a || b) others
