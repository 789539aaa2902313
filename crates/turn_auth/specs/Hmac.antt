-- HMAC (RFC 2104) over a hash function that works in blocks of 64 bytes.
use Rattle.std.specs.Prelude.{ℕ, ◌-◌, nat_le, if◌then◌else◌, bit_xor, List, ◌++◌, length, map, replicate}

-- zeros up to a block
abbrev pub filled : List ℕ → List ℕ
filled key = key ++ replicate (64 - length key) 0

-- section 2: a key is filled with zeros up to a block, and a longer one is hashed first
abbrev pub key_block : (List ℕ → List ℕ) → List ℕ → List ℕ
key_block digest key = filled (if nat_le (length key) 64 then key else digest key)

-- each byte of the block, XORed with the pad
abbrev pub padded : ℕ → List ℕ → List ℕ
padded pad block = map (λ byte. bit_xor byte pad) block

-- section 2: H(K XOR opad, H(K XOR ipad, text)), with ipad 0x36 and opad 0x5C
unfoldable pub hmac : (List ℕ → List ℕ) → List ℕ → List ℕ → List ℕ
hmac digest key text =
    digest (padded 0x5c (key_block digest key) ++ digest (padded 0x36 (key_block digest key) ++ text))
