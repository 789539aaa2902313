-- Reason phrases (RFC 8489, section 14.8).
use Rattle.std.specs.Prelude.{◌≡◌, ℕ, ◌-◌, List, take, drop, replicate}
use Rattle.turn_session_book.specs.declared.replies.Phrase.{Phrase}

-- the bytes of a phrase
abbrev pub text_of : Phrase → List ℕ
text_of phrase = take phrase.len phrase.bytes

-- the bytes behind it are 0, so phrases with the same bytes are equal
abbrev pub IsPadded : Phrase → Type 0
IsPadded phrase = drop phrase.len phrase.bytes ≡ replicate (127 - phrase.len) 0
