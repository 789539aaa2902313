-- The scan for seen attributes, one attribute at a time.
use Rattle.std.proofs.Common.{◌≡◌, Bool, true, false, cond, List, [], ◌∷◌, ◌++◌, refl}
use Rattle.std.specs.Prelude.{◌||◌}
use Rattle.turn_stun.specs.Message.{Attribute}
use Rattle.turn_stun.specs.Attributes.{seen_after, is_seen, is_sha1, is_sha256}

in_front : (seen : Bool) (a : Attribute) (others : List Attribute) → cond seen (a ∷ others) others ≡ cond seen (a ∷ []) [] ++ others
in_front true a others = refl
in_front false a others = refl

-- the first attribute is seen or not, and the others are checked after it
pub seen_after-cons : (any sha256 : Bool) (a : Attribute) (later : List Attribute)
    → seen_after any sha256 (a ∷ later) ≡ cond (is_seen any sha256 a.kind) (a ∷ []) [] ++ seen_after (any || is_sha1 a.kind || is_sha256 a.kind) (sha256 || is_sha256 a.kind) later
unfolding seen_after
seen_after-cons any sha256 a later = in_front (is_seen any sha256 a.kind) a _

-- an attribute that is seen
pub seen_after-seen : (any sha256 : Bool) (a : Attribute) (later : List Attribute) → is_seen any sha256 a.kind ≡ true
    → seen_after any sha256 (a ∷ later) ≡ a ∷ seen_after (any || is_sha1 a.kind || is_sha256 a.kind) (sha256 || is_sha256 a.kind) later
seen_after-seen any sha256 a later seen = rw (seen_after-cons any sha256 a later, seen) refl

-- an attribute that is not
pub seen_after-unseen : (any sha256 : Bool) (a : Attribute) (later : List Attribute) → is_seen any sha256 a.kind ≡ false
    → seen_after any sha256 (a ∷ later) ≡ seen_after (any || is_sha1 a.kind || is_sha256 a.kind) (sha256 || is_sha256 a.kind) later
seen_after-unseen any sha256 a later seen = rw (seen_after-cons any sha256 a later, seen) refl

pub seen_after-nil : (any sha256 : Bool) → seen_after any sha256 [] ≡ []
unfolding seen_after
seen_after-nil any sha256 = refl
