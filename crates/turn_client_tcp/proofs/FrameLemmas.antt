-- Whole frames of a stream.
use Rattle.std.proofs.Common.{◌≡◌, ◌+◌, ℕ, true, false, List, Some, ap, arith, drop, length, refl}
use Rattle.std.specs.Prelude.{IsOk, IsOkAnd, Result, Ok, Err, is_none}
use Rattle.std.proofs.lemmas.Bool.{le-ltb, leb-false, lt-ltb, ltb-false}
use Rattle.turn_stun.specs.Message.{Attribute, IsMessage, padded_len}
use Rattle.turn_stun.specs.Number.{u16_at}
use Rattle.turn_stun.proofs.FaultLemmas.{IsMessage-no_fault}
use Rattle.turn_stun.proofs.GrammarLemmas.{padded_len-ge, u16_at-append}
use Rattle.turn_types.specs.Channel.{IsChannel, channel_data_at}
use Rattle.turn_types.specs.Frames.{IsChannelFrame, IsMessageFrame, begins_message, frame_len}
use Rattle.turn_client_api.specs.Payloads.{is_message}
use Rattle.turn_client_streams.specs.Front.{IsOfKind}
use Rattle.turn_client_streams.specs.declared.front.FrameKind.TheVariants.{Channel, Message}
use Rattle.turn_types.proofs.ChannelLemmas.{IsChannel-ReadsChannel, PassesTests, PassesTests-IsChannel}
use Rattle.turn_types.proofs.FrameLemmas.{frame_len-IsWhole}

-- a whole frame that does not begin like a STUN message is a ChannelData message
whole-channel : (frame : List ℕ) → frame_len frame ≡ Some (length frame) → begins_message frame ≡ false → PassesTests frame
whole-channel frame whole e =
    let is = frame_len-IsWhole frame (length frame) whole in
    let size : 4 + padded_len (u16_at frame 2) ≡ length frame = rw e at is.size in
    let within = padded_len-ge (u16_at frame 2) in
    record {
      least = ltb-false _ _ e;
      most = leb-false _ _ is.begins;
      whole = omega (arith, size, within);
    }

-- the ChannelData message at its start
pub whole-IsChannel : (frame : List ℕ) → frame_len frame ≡ Some (length frame) → begins_message frame ≡ false
    → IsChannel frame (channel_data_at frame).id (channel_data_at frame).payload (drop (4 + length (channel_data_at frame).payload) frame)
whole-IsChannel frame whole e = PassesTests-IsChannel frame (whole-channel frame whole e)

-- a ChannelData message begins otherwise
pub channel-begins : (frame : List ℕ) (id : ℕ) (payload rest : List ℕ) → IsChannel frame id payload rest → begins_message frame ≡ false
channel-begins frame id payload rest is = le-ltb _ _ (IsChannel-ReadsChannel frame id payload rest is).tests.least

-- what the buffer calls a ChannelData message begins so, and what it calls a message does not
pub channel-kind : (frame : List ℕ) → IsChannelFrame frame → IsOfKind Channel frame
channel-kind frame is = channel-begins frame is.id is.payload is.padding is.channel

pub message-kind : (frame : List ℕ) → IsMessageFrame frame → IsOfKind Message frame
message-kind frame is =
    let number : u16_at frame 0 ≡ u16_at is.header 0 = rw is.spelled (u16_at-append is.header is.body 0 (omega (arith, is.header_length))) in
    lt-ltb _ _ (rw number is.first_two_bits)

-- a message is parsed
pub message-is : (frame : List ℕ) (type id : ℕ) (attributes : List Attribute) → IsMessage frame type id attributes → is_message frame ≡ true
message-is frame type id attributes is = ap is_none (IsMessage-no_fault frame type id attributes is)

pub ok-and : {A E : Type 0} (r : Result A E) (P : A → Type 0) → IsOkAnd r P → IsOk r
ok-and (Ok x) P h = refl
ok-and (Err e) P h = absurd h
