use Rattle.std.proofs.Common.{rules, inr, ◌≡◌, true, ◌≤◌, Some, None}
use Rattle.turn_stun.specs.Number.{u16_at}
use Rattle.turn_types.specs.Channel.{channel_fault_of}
use Rattle.turn_types.specs.Frames.{begins_message, frame_len}
use Rattle.turn_hints.proofs.FrameLemmas.{whole_channel}
use Rattle.turn_hints.proofs.frame.first_of_stream.Goals as goal

pub unreachable-requires : goal.unreachable-requires
unreachable-requires c =
    let bytes = c.args.bytes.now in
    let whole : frame_len bytes ≡ Some c.in-Some.len = search rules in
    let high : 0x4000 ≤ u16_at bytes 0 = search rules in
    let none : channel_fault_of bytes ≡ None = whole_channel bytes _ whole high in
    let some = c.in-Err-parse.ensures.fault in
    cc

pub returns-in-Err : goal.returns-in-Err
returns-in-Err c =
    let bytes = c.args.bytes.now in
    let whole : frame_len bytes ≡ Some c.in-Some.len = search rules in
    let low : begins_message bytes ≡ true = search rules in
    inr (c.in-Some.len, (whole, low, (λ type id attributes is. let h = rw c.in-Err.is at (c.from_bytes.ensures.only type id attributes is).0 in cc)))
