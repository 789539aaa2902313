use Rattle.std.proofs.Common.{rules, ◌≡◌, false, ◌+◌, ◌<◌, ◌≤◌, Some}
use Rattle.turn_stun.specs.Number.{u16_at}
use Rattle.turn_types.specs.Frames.{begins_no_frame, frame_len}
use Rattle.turn_types.proofs.FrameLemmas.{frame_len-IsWhole}
use Rattle.turn_types.proofs.SplitLemmas.{message_in_front, channel_in_front}
use Rattle.turn_types.proofs.tcp.head.head_of.Goals as goal

pub returns-else-bytes-size : goal.returns-else-bytes-size
returns-else-bytes-size c =
    let bytes = c.args.bytes.now in
    let begins : begins_no_frame bytes ≡ false = search rules in
    let whole : frame_len bytes ≡ Some (20 + c.from-len.result) = search rules in
    let low : u16_at bytes 0 < 0x4000 = search rules in
    (begins, whole, message_in_front bytes _ (frame_len-IsWhole bytes _ whole) low)

pub returns-else-bytes-size-2 : goal.returns-else-bytes-size-2
returns-else-bytes-size-2 c =
    let bytes = c.args.bytes.now in
    let begins : begins_no_frame bytes ≡ false = search rules in
    let whole : frame_len bytes ≡ Some (4 + c.next_multiple_of-size.result) = search rules in
    let high : 0x4000 ≤ u16_at bytes 0 = search rules in
    (begins, whole, channel_in_front bytes _ (frame_len-IsWhole bytes _ whole) high)
