-- What an error response says.
use Rattle.std.specs.Prelude.{◌≡◌, ℕ, nat_le, nat_lt, Bool, true, ◌&&◌, List, [], slice_index, slice_range, take, option_and_then}
use Rattle.std.specs.Option.{option_map_or}
use Rattle.turn_stun.specs.Attributes.{first_of, seen_of}
use Rattle.turn_stun.specs.Read.{code_in}
use Rattle.turn_hints.specs.Hints.{alternate_in, reason_place}
use Rattle.turn_session_book.specs.Replies.{text_of}
use Rattle.turn_session_book.specs.declared.replies.ErrorReply.{ErrorReply}

-- ChannelData is no response (RFC 8656, section 12.4: the first byte is 64 to 79, and no message begins with 64 to 127)
abbrev pub is_channel_data : List ℕ → Bool
is_channel_data bytes = nat_le 64 (slice_index bytes 0) && nat_lt (slice_index bytes 0) 128

-- the reason phrase (RFC 8489, section 14.8)
abbrev pub reason_in : List ℕ → List ℕ
reason_in bytes =
    option_map_or (λ place. slice_range bytes place.start place.end) (option_and_then reason_place (first_of 0x0009 (seen_of bytes))) []

-- what an error response says, once the client has accepted it
pub record IsReply (bytes : List ℕ) (r : ErrorReply) : Type 0 where
  pub code : r.code ≡ code_in bytes
  pub taken : r.is_taken ≡ true
  pub phrase : text_of r.phrase ≡ take 127 (reason_in bytes)
  pub alternate : r.alternate ≡ alternate_in bytes
