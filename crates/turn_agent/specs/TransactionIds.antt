-- The transaction IDs of a seed (RFC 8489, section 5: an ID "SHOULD be cryptographically random").
use Rattle.std.specs.Prelude.{◌≡◌, ℕ, ◌+◌, ◌%◌, ◌^◌, ◌<◌, List, ◌++◌}
use Rattle.std.specs.Int.{w32, to_le_bytes}
use Rattle.rand_chacha.specs.ChaCha.{ChaCha, word_at, key_of}
use Rattle.turn_stun.specs.Number.{big_endian}

-- a source of IDs as contracts describe it: its seed of 32 bytes, and its place in the key stream,
-- in words and below 2^68
pub record Source : Type 0 where
  pub seed : List ℕ
  pub place : ℕ

-- the word at this place of the key stream (ChaCha20, stream 0), its least significant byte first;
-- the stream repeats after 2^68 words
abbrev pub word_bytes : List ℕ → ℕ → List ℕ
word_bytes key place = to_le_bytes w32 (word_at 10 key 0 (place % 2 ^ 68))

-- the ID made of the three words from this place on
unfoldable pub keyed_id_at : List ℕ → ℕ → ℕ
keyed_id_at key place = big_endian (word_bytes key place ++ word_bytes key (place + 1) ++ word_bytes key (place + 2))

-- the ID at this place of the seed's key stream
abbrev pub id_at : List ℕ → ℕ → ℕ
id_at seed place = keyed_id_at (key_of seed) place

-- the ID that the source returns next
abbrev pub next_id : Source → ℕ
next_id source = id_at source.seed source.place

-- the source after it returned that ID
abbrev pub behind_id : Source → Source
behind_id source = record source { place = (source.place + 3) % 2 ^ 68 }

-- the generator is that of the seed, at some place of stream 0
pub record IsSeeded (seed : List ℕ) (generator : ChaCha) : Type 0 where
  pub key : generator.key ≡ key_of seed
  pub stream : generator.stream ≡ 0
  pub place : generator.word_pos < 2 ^ 68
