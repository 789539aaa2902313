-- The frames of a stream: STUN messages (RFC 8489, section 5) and ChannelData messages with their padding
-- (RFC 8656, section 12.5), which their first two bits distinguish.
use Rattle.std.specs.Prelude.{◌≡◌, ℕ, Bool, ◌+◌, ◌<◌, nat_le, nat_lt, not, ◌&&◌, if◌then◌else◌, List, [], ◌∷◌, ◌++◌, length, All, Option, Some, None, ◌⊎◌}
use Rattle.std.specs.List.{concat}
use Rattle.turn_stun.specs.Message.{padded_len}
use Rattle.turn_stun.specs.Number.{u16_at}
use Rattle.turn_types.specs.Channel.{IsChannel}
use Rattle.turn_types.specs.Cuts.{Drained, drained}

-- a whole STUN message: a header whose first two bits are 00, and as many bytes as it says
pub record IsMessageFrame (frame : List ℕ) : Type 0 where
  pub header : List ℕ
  pub body : List ℕ
  pub spelled : frame ≡ header ++ body
  pub header_length : length header ≡ 20
  pub first_two_bits : u16_at header 0 < 0x4000
  pub body_length : u16_at header 2 ≡ length body

-- a whole ChannelData message: its first two bits are 01, and it has its padding, of any content
pub record IsChannelFrame (frame : List ℕ) : Type 0 where
  pub id : ℕ
  pub payload : List ℕ
  pub padding : List ℕ
  pub channel : IsChannel frame id payload padding
  pub padded : length payload + length padding ≡ padded_len (length payload)

-- a whole frame of a stream
abbrev pub IsFrame : List ℕ → Type 0
IsFrame frame = IsMessageFrame frame ⊎ IsChannelFrame frame

-- whole frames of a stream, and the bytes after them
pub record Frames : Type 0 where
  pub frames : List (List ℕ)
  pub rest : List ℕ

-- the bytes are these frames, one after the other, and then a rest that no whole frame begins
pub record AreFrames (bytes : List ℕ) (cut : Frames) : Type 0 where
  pub joined : bytes ≡ concat cut.frames ++ cut.rest
  pub whole : All IsFrame cut.frames
  pub no_more : (frame more : List ℕ) → cut.rest ≡ frame ++ more → ¬ IsFrame frame

-- the first two bits are 00: a STUN message begins here (a single byte is enough to see it)
abbrev pub begins_message : List ℕ → Bool
begins_message bytes = nat_lt (u16_at bytes 0) 0x4000

-- the first two bits are 10 or 11: no frame begins with them (RFC 8656, section 12)
abbrev pub begins_no_frame : List ℕ → Bool
begins_no_frame bytes = nat_le 0x8000 (u16_at bytes 0)

-- how many bytes the first frame takes, as its header says
abbrev pub frame_size : List ℕ → ℕ
frame_size bytes = if begins_message bytes then 20 + u16_at bytes 2 else 4 + padded_len (u16_at bytes 2)

-- how many bytes the first frame has, if the whole of it is present
abbrev pub frame_len : List ℕ → Option ℕ
frame_len bytes =
    if not (begins_no_frame bytes) && nat_le (frame_size bytes) (length bytes) then Some (frame_size bytes) else None

-- each whole frame from the start on, and the rest
abbrev pub cut_frames : List ℕ → Drained (Unit {0}) (List ℕ)
cut_frames bytes = drained (λ s front. frame_len front) (λ s frame. (s, frame ∷ [])) tt bytes

-- The frames of a stream with these bytes. By `AreFrames` they are the only ones: `frames_are_unique`
-- ensures both directions.
abbrev pub frames_of : List ℕ → Frames
frames_of bytes = record { frames = (cut_frames bytes).given; rest = (cut_frames bytes).rest }
