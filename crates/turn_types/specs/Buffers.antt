-- The bytes that a `TurnTcpBuffer` holds, and what its calls do to them.
use Rattle.std.specs.Prelude.{◌≡◌, ℕ, Bool, true, ◌+◌, ◌*◌, ◌-◌, ◌^◌, ◌<◌, ◌≤◌, nat_lt, min, if◌then◌else◌, List, [], ◌∷◌, ◌++◌, length, drop}
use Rattle.turn_types.specs.Streams.{Stream, broken_stream}
use Rattle.turn_types.specs.declared.tcp.counts.TcpCounts.{TcpCounts}

-- a buffer: its stream, how many bytes before the rest were already returned, and its counts
pub record Buffered : Type 0 where
  pub stream : Stream
  pub start : ℕ
  pub counts : TcpCounts

-- what a buffer keeps of its fields: no more returned bytes than buffered ones, and the bytes to move do
-- not exceed those taken
pub record IsBufferValid (held : List ℕ) (start : ℕ) (is_broken : Bool) (counts : TcpCounts) : Type 0 where
  pub half : 2 * start ≤ length held
  pub nothing : is_broken ≡ true → held ≡ []
  pub paid : min (counts.moved + start) (2 ^ 64 - 1) ≤ counts.taken
  pub no_more : counts.moved ≤ counts.taken
  pub bounded : counts.taken < 2 ^ 64

-- what holds of a buffer at all times
pub record IsKept (b : Buffered) : Type 0 where
  -- it holds at most twice the buffered bytes
  pub half : b.start ≤ length b.stream.bytes
  -- a broken stream has dropped its bytes
  pub nothing : b.stream.is_broken ≡ true → b.stream.bytes ≡ []
  -- no more bytes were moved than taken
  pub paid : b.counts.moved ≤ b.counts.taken
  pub bounded : b.counts.taken < 2 ^ 64

-- a count stops at the greatest number of 64 bits
abbrev pub capped : ℕ → ℕ
capped n = min n (2 ^ 64 - 1)

-- n more bytes have left the stream
abbrev pub with_taken : ℕ → TcpCounts → TcpCounts
with_taken n counts = record { taken = capped (counts.taken + n); moved = counts.moved }

-- n more bytes were moved to the front
abbrev pub with_moved : ℕ → TcpCounts → TcpCounts
with_moved n counts = record { taken = counts.taken; moved = capped (counts.moved + n) }

-- the stream is broken, and the buffered bytes are dropped, with n more received bytes
abbrev pub broken_off : ℕ → Buffered → Buffered
broken_off n b = record { stream = broken_stream; start = 0; counts = with_taken (length b.stream.bytes + n) b.counts }

-- a piece is kept
abbrev pub stored : List ℕ → Buffered → Buffered
stored piece b = record {
  stream = record { bytes = b.stream.bytes ++ piece; is_broken = b.stream.is_broken };
  start = b.start;
  counts = b.counts;
}

-- if more returned bytes precede the rest than it has, the rest moves to the front
abbrev pub settled : Buffered → Buffered
settled b =
    if nat_lt (length b.stream.bytes) b.start
    then record { stream = b.stream; start = 0; counts = with_moved (length b.stream.bytes) b.counts }
    else b

-- the first n bytes are returned
abbrev pub cut_off : ℕ → Buffered → Buffered
cut_off n b = settled (record {
  stream = record { bytes = drop n b.stream.bytes; is_broken = b.stream.is_broken };
  start = b.start + n;
  counts = with_taken n b.counts;
})

-- What a call does to the counts and to the start place, if `left` bytes have left the stream and `front`
-- bytes of the buffer preceded the rest: the rest moves if it is shorter than they are.
pub record UpdatesCounts (old new : Buffered) (left front : ℕ) : Type 0 where
  pub taken : new.counts.taken ≡ capped (old.counts.taken + left)
  pub moved : new.counts.moved ≡ capped (old.counts.moved + (if nat_lt (length new.stream.bytes) front then length new.stream.bytes else 0))
  pub start : new.start ≡ (if nat_lt (length new.stream.bytes) front then 0 else front)

-- how many bytes have left a stream that had received these
abbrev pub left_of : List ℕ → Buffered → ℕ
left_of came new = length came - length new.stream.bytes

-- How many bytes of the buffer precede the rest. If the buffer was empty, the bytes that left were never
-- in it.
abbrev pub front_by : List ℕ → ℕ → ℕ → ℕ
front_by [] start left = 0
front_by (b ∷ waited) start left = start + left

abbrev pub front_offset : Buffered → ℕ → ℕ
front_offset b left = front_by b.stream.bytes b.start left
