-- The bytes of a phrase.
use Rattle.std.proofs.Common.{◌≡◌, ℕ, ◌-◌, List, ◌++◌, length, take, drop, min, ap, ◌∙◌, arith, length-take}
use Rattle.std.specs.Prelude.{replicate}
use Rattle.std.proofs.lemmas.List.{take_at, drop_at, take_min, drop-replicate}

pub take-phrase : (text bytes rest : List ℕ) (len : ℕ) → bytes ≡ take len text → len ≡ min 127 (length text) → take len (bytes ++ rest) ≡ take 127 text
take-phrase text bytes rest len is_bytes is_len =
    let all : length bytes ≡ len = omega (arith, ap length is_bytes, length-take len text, is_len) in
    take_at bytes rest len all ∙ (is_bytes ∙ (rw is_len (take_min 127 text)))

pub drop-phrase : (text bytes : List ℕ) (len : ℕ) → bytes ≡ take len text → len ≡ min 127 (length text) → drop len (bytes ++ drop len (replicate 127 0)) ≡ replicate (127 - len) 0
drop-phrase text bytes len is_bytes is_len =
    let all : length bytes ≡ len = omega (arith, ap length is_bytes, length-take len text, is_len) in
    drop_at bytes (drop len (replicate 127 0)) len all ∙ drop-replicate len 127 0
