-- Numbers in network byte order (RFC 8489, section 5: "all fields are in network order, big endian").
use Rattle.std.specs.Prelude.{ℕ, ◌+◌, ◌*◌, ◌/◌, ◌%◌, ◌^◌, List, [], ◌∷◌, ◌++◌, fold, slice_index}
use Rattle.std.specs.Int.{w32, w64, to_be_bytes}

-- the number that the bytes encode, the first byte the most significant
abbrev pub big_endian : List ℕ → ℕ
big_endian bytes = fold (λ number byte. number * 256 + byte) 0 bytes

-- the two bytes from this place on, as a number
abbrev pub u16_at : List ℕ → ℕ → ℕ
u16_at bytes at = slice_index bytes at * 256 + slice_index bytes (at + 1)

-- the four bytes from this place on, as a number
abbrev pub u32_at : List ℕ → ℕ → ℕ
u32_at bytes at = u16_at bytes at * 65536 + u16_at bytes (at + 2)

-- the six groups of 16 bits of a number of 96 bits
abbrev pub id_segments : ℕ → List ℕ
id_segments id =
    (id / 2 ^ 80) ∷ (id / 2 ^ 64 % 2 ^ 16) ∷ (id / 2 ^ 48 % 2 ^ 16)
    ∷ (id / 2 ^ 32 % 2 ^ 16) ∷ (id / 2 ^ 16 % 2 ^ 16) ∷ (id % 2 ^ 16) ∷ []

-- the twelve bytes of a number of 96 bits
abbrev pub id_bytes : ℕ → List ℕ
id_bytes id = to_be_bytes w32 (id / 2 ^ 64) ++ to_be_bytes w64 (id % 2 ^ 64)
