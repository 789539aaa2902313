-- What the bytes of a stream are, and what one call takes off its start.
use Rattle.std.specs.Prelude.{◌≡◌, ℕ, Bool, true, false, if◌then◌else◌, List, [], ◌∷◌, ◌++◌, take, drop, Option, Some, None, option_to_list}
use Rattle.turn_types.specs.Frames.{begins_no_frame, frame_len, frames_of}

-- what the bytes of a stream are when they are processed
pub data Mode : Type 0 where
  -- frames
  Framed : Mode
  -- a peer's payload, byte by byte (RFC 6062: a data connection that is bound)
  Bound : Mode
  -- nothing: they are dropped
  Broken : Mode

-- one byte at a time
abbrev pub one_byte : List ℕ → Option ℕ
one_byte [] = None
one_byte (b ∷ bytes) = Some 1

-- How many bytes are processed next. A byte with which no frame begins is processed alone: it breaks the
-- stream.
abbrev pub size_in : Mode → List ℕ → Option ℕ
size_in Framed bytes = if begins_no_frame bytes then Some 1 else frame_len bytes
size_in Bound bytes = one_byte bytes
size_in Broken bytes = one_byte bytes

-- a stream of frames between two calls: the bytes since its last frame, and whether it is broken
pub record Stream : Type 0 where
  pub bytes : List ℕ
  pub is_broken : Bool

-- a stream of these bytes, which is not broken
abbrev pub framed : List ℕ → Stream
framed bytes = record { bytes = bytes; is_broken = false }

-- a stream that is broken has dropped its bytes
abbrev pub broken_stream : Stream
broken_stream = record { bytes = []; is_broken = true }

-- one more piece was received: on a broken stream it is dropped
abbrev pub with_piece : Stream → List ℕ → Stream
with_piece s piece = if s.is_broken then s else record { bytes = s.bytes ++ piece; is_broken = false }

-- what one call returns, and the stream after it
pub record NextFrame : Type 0 where
  pub frame : Option (List ℕ)
  pub after : Stream

abbrev pub next_frame_of : Stream → Option ℕ → NextFrame
next_frame_of s None = record { frame = None; after = s }
next_frame_of s (Some k) =
    record { frame = Some (take k s.bytes); after = record { bytes = drop k s.bytes; is_broken = s.is_broken } }

-- The next frame: a whole frame is returned, less than one stays buffered, and bytes that no frame begins
-- with break the stream (our choice: where the next frame begins can't be known).
abbrev pub next_frame : Stream → NextFrame
next_frame s =
    if begins_no_frame s.bytes then record { frame = None; after = broken_stream }
    else next_frame_of s (frame_len s.bytes)

-- what is done to a stream: a piece is added and the next frame is requested, or one of the two
pub data Call : Type 0 where
  Piece : List ℕ → Call
  Feed : List ℕ → Call
  Poll : Call

-- the next frame is taken if it is requested
abbrev pub next_frame_after : Stream → Call → NextFrame
next_frame_after s (Piece piece) = next_frame (with_piece s piece)
next_frame_after s (Feed piece) = record { frame = None; after = with_piece s piece }
next_frame_after s Poll = next_frame s

-- what calls return, one after the other, and the stream after them
pub record Run : Type 0 where
  pub given : List (List ℕ)
  pub after : Stream

abbrev pub given_first : Option (List ℕ) → Run → Run
given_first frame run = record { given = option_to_list frame ++ run.given; after = run.after }

abbrev pub run_of : Stream → List Call → Run
run_of s [] = record { given = []; after = s }
run_of s (call ∷ calls) = given_first (next_frame_after s call).frame (run_of (next_frame_after s call).after calls)

-- the bytes received
abbrev pub bytes_in : List Call → List ℕ
bytes_in [] = []
bytes_in (Piece piece ∷ calls) = piece ++ bytes_in calls
bytes_in (Feed piece ∷ calls) = piece ++ bytes_in calls
bytes_in (Poll ∷ calls) = bytes_in calls

-- The frames returned are the frames of these bytes, in order, except those that are still buffered, and
-- the rest is theirs. A stream that is broken by then has returned all: after them no frame begins.
pub record GivesFrames (bytes : List ℕ) (run : Run) : Type 0 where
  pub frames : (frames_of bytes).frames ≡ run.given ++ (frames_of run.after.bytes).frames
  pub rest : run.after.is_broken ≡ false → (frames_of bytes).rest ≡ (frames_of run.after.bytes).rest
  pub broken : run.after.is_broken ≡ true → begins_no_frame (frames_of bytes).rest ≡ true
