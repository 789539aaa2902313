-- The pads of HMAC.
use Rattle.std.proofs.Common.{◌≡◌, ℕ, ◌+◌, ◌<◌, List, ◌++◌, length, take, drop, set, get_or, refl, arith, append_assoc}
use Rattle.std.proofs.lemmas.List.{drop_more, map_more, set_at, get_or_at, length-take, length-map}
use Rattle.std.specs.Prelude.{bit_xor}
use Rattle.turn_auth.specs.Hmac.{padded}

-- one more byte of the block is XORed
pub padded_more : (pad : ℕ) (block : List ℕ) (i : ℕ) → i < length block → set (padded pad (take i block) ++ drop i block) i
    (bit_xor (get_or (padded pad (take i block) ++ drop i block) i 0) pad) ≡ padded pad (take (i + 1) block) ++ drop (i + 1) block
padded_more pad block i within =
    let front = padded pad (take i block) in
    let b = get_or block i 0 in
    let rest = drop (i + 1) block in
    let long : length front ≡ i = rw length-map (rw length-take (omega arith)) in
    rw (drop_more block i 0 within, get_or_at front b rest 0 i long, set_at front b rest (bit_xor b pad) i long, map_more (λ byte. bit_xor byte pad) block i 0 within) (rw append_assoc refl)
