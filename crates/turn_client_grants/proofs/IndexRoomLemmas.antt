-- How many more grants there is room for, with chains or without.
use Rattle.std.proofs.Common.{◌≡◌, ◌≤◌, ◌+◌, ℕ, Bool, true, false, arith, refl}
use Rattle.turn_client_grants.specs.Kept.{few_grants, index_room}

-- what adds so many leaves that much less room
pub room-left : (made now : Bool) (n count after room left : ℕ) → now ≡ made → after ≤ count + n → room ≤ left → index_room made count room ≤ index_room now after left + n
room-left true now n count after room left same more less = rw same (omega (arith, more, less))
room-left false now n count after room left same more less = rw same (omega (arith, more))

-- chains have room for what there is room for
pub room-fits : (made : Bool) (n count room : ℕ) → n ≤ index_room made count room → count ≤ room → made ≡ true → count + n ≤ room
room-fits made n count room fits below is =
    let more : n ≤ index_room true count room = rw is at fits in
    omega (arith, more, below)

-- without chains few stay few
pub room-few : (made now : Bool) (n count after room : ℕ) → now ≡ made → after ≤ count + n → n ≤ index_room made count room → (made ≡ false → count ≤ few_grants)
    → now ≡ false → after ≤ few_grants
room-few true now n count after room same more fits few none = let off : true ≡ false = rw same at none in cc
room-few false now n count after room same more fits few none = omega (arith, more, fits, few refl)

pub many-made : (made : Bool) (count : ℕ) → (made ≡ false → count ≤ few_grants) → few_grants + 1 ≤ count → made ≡ true
many-made true count few many = refl
many-made false count few many = let no : ⊥ = omega (arith, few refl, many) in absurd no
