-- Which attributes of a message are seen (RFC 8489, sections 14.5 to 14.7).
use Rattle.std.specs.Prelude.{ℕ, Bool, false, not, ◌==◌, ◌&&◌, ◌||◌, if◌then◌else◌, List, [], ◌∷◌, Option, find, filter, slice_get}
use Rattle.turn_stun.specs.Message.{Attribute, attributes_of}

-- MESSAGE-INTEGRITY (section 14.5), MESSAGE-INTEGRITY-SHA256 (14.6) and FINGERPRINT (14.7)
abbrev pub is_sha1 : ℕ → Bool
is_sha1 kind = kind == 0x0008

abbrev pub is_sha256 : ℕ → Bool
is_sha256 kind = kind == 0x001c

abbrev pub is_fingerprint : ℕ → Bool
is_fingerprint kind = kind == 0x8028

-- "Agents MUST ignore all other attributes that follow MESSAGE-INTEGRITY, with the exception of
-- MESSAGE-INTEGRITY-SHA256 and FINGERPRINT" (section 14.5), and those that follow
-- MESSAGE-INTEGRITY-SHA256 except FINGERPRINT (section 14.6): whether an attribute of this type is seen,
-- where `integrity` means that one of the two precedes it, and `sha256` that the second does.
abbrev pub is_seen : Bool → Bool → ℕ → Bool
is_seen integrity sha256 kind = not integrity || is_fingerprint kind || (is_sha256 kind && not sha256)

-- the seen ones of these attributes, where the two say what precedes the first of them
unfoldable pub seen_after : Bool → Bool → List Attribute → List Attribute
seen_after integrity sha256 [] = []
seen_after integrity sha256 (a ∷ later) =
    let others = seen_after (integrity || is_sha1 a.kind || is_sha256 a.kind) (sha256 || is_sha256 a.kind) later in
    if is_seen integrity sha256 a.kind then a ∷ others else others

-- the seen ones of all attributes of a message
abbrev pub seen_attributes : List Attribute → List Attribute
seen_attributes attributes = seen_after false false attributes

-- the attributes that a message returns
abbrev pub seen_of : List ℕ → List Attribute
seen_of bytes = seen_attributes (attributes_of bytes)

-- the first one of a type
abbrev pub first_of : ℕ → List Attribute → Option Attribute
first_of kind attributes = find (λ a. a.kind == kind) attributes

-- the nth one of a type, counted from zero
abbrev pub nth_of : ℕ → ℕ → List Attribute → Option Attribute
nth_of kind n attributes = slice_get (filter (λ a. a.kind == kind) attributes) n
