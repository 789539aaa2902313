-- What the server has granted to a session.
use Rattle.std.specs.Prelude.{Bool, false, if◌then◌else◌, List, [], ◌∷◌, ◌++◌, find, option_map, Option}
use Rattle.std.specs.List.{list_any}
use Rattle.std.specs.Option.{option_map_or}
use Rattle.turn_session_book.specs.First.{with_first, without_first}
use Rattle.turn_types.specs.declared.family.AddressFamily.{AddressFamily}
use Rattle.turn_session_book.specs.Keys.{is_in, same_key}
use Rattle.turn_session_book.specs.declared.held.HeldGrant.{HeldGrant}
use Rattle.turn_session_book.specs.declared.keys.Key.{Key}

abbrev pub is_of : Key → HeldGrant → Bool
is_of key g = same_key g.key key

abbrev pub is_held : Key → List HeldGrant → Bool
is_held key held = list_any (is_of key) held

-- whether the grant of this key is kept, if there is one
abbrev pub is_kept_in : Key → List HeldGrant → Option Bool
is_kept_in key held = option_map (λ g. g.is_kept) (find (is_of key) held)

-- it was granted, and is kept
abbrev pub is_kept_held : Key → List HeldGrant → Bool
is_kept_held key held = option_map_or (λ g. g.is_kept) (find (is_of key) held) false

abbrev pub held_grant : Key → Bool → HeldGrant
held_grant key is_kept = record { key = key; is_kept = is_kept }

-- a new grant is kept or not, and one that was granted before stays as it is
abbrev pub after_grant : Key → Bool → List HeldGrant → List HeldGrant
after_grant key is_kept held = if is_held key held then held else held ++ held_grant key is_kept ∷ []

abbrev pub marked : Bool → HeldGrant → HeldGrant
marked is_kept g = record g { is_kept = is_kept }

abbrev pub with_mark : Key → Bool → List HeldGrant → List HeldGrant
with_mark key is_kept held = with_first (is_of key) (marked is_kept) held

-- the others
abbrev pub without_grant : Key → List HeldGrant → List HeldGrant
without_grant key held = without_first (is_of key) held

-- the first in an allocation of this family
abbrev pub is_held_in : AddressFamily → HeldGrant → Bool
is_held_in family g = is_in family g.key

abbrev pub first_held : AddressFamily → List HeldGrant → Option HeldGrant
first_held family held = find (is_held_in family) held
