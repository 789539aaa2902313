-- A whole frame whose first two bits are not 00 is a ChannelData message.
use Rattle.std.proofs.Common.{◌≡◌, ℕ, ◌≤◌, ◌+◌, Bool, false, List, Some, None, if◌then◌else◌, arith}
use Rattle.std.proofs.lemmas.Bool.{leb-false, le-ltb}
use Rattle.turn_stun.specs.Message.{padded_len}
use Rattle.turn_stun.specs.Number.{u16_at}
use Rattle.turn_types.specs.Channel.{channel_fault_of}
use Rattle.turn_types.specs.Frames.{begins_message, frame_len, frame_size}
use Rattle.turn_types.proofs.ChannelLemmas.{PassesTests-no_fault}
use Rattle.turn_types.proofs.FrameLemmas.{IsWhole, frame_len-IsWhole}

size_if : (b : Bool) (m n : ℕ) → b ≡ false → (if b then m else n) ≡ n
size_if b m n h = cc

pub whole_channel : (bytes : List ℕ) (k : ℕ) → frame_len bytes ≡ Some k → 0x4000 ≤ u16_at bytes 0 → channel_fault_of bytes ≡ None
whole_channel bytes k whole high =
    let is : IsWhole bytes k = frame_len-IsWhole bytes k whole in
    let begins : begins_message bytes ≡ false = le-ltb _ _ high in
    let size : frame_size bytes ≡ 4 + padded_len (u16_at bytes 2) = size_if (begins_message bytes) _ _ begins in
    PassesTests-no_fault bytes (record {
      least = high;
      most = leb-false _ _ is.begins;
      whole = let same : k ≡ 4 + padded_len (u16_at bytes 2) = cc in omega (arith, same, is.within, is.size);
    })
