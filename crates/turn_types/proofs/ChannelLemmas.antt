-- The bytes without a fault begin with a ChannelData message, and with no other one.
use Rattle.std.proofs.Common.{◌≡◌, ℕ, ◌-◌, ◌^◌, ◌+◌, ◌<◌, ◌≤◌, true, false, List, ◌++◌, length, take, drop, replicate, None, refl, sym, ◌∙◌, arith, length-append, nat_lt, nat_le}
use Rattle.std.proofs.lemmas.Bool.{ltb-true, ltb-false, leb-true, le-ltb, lt-ltb, le-leb, not-false, and_parts}
use Rattle.std.proofs.lemmas.List.{take-append-drop, drop-drop, take_at, drop_at, length-take, length-drop}
use Rattle.std.specs.Int.{w16, to_be_bytes}
use Rattle.turn_stun.specs.Message.{padded_len}
use Rattle.turn_stun.specs.Number.{u16_at}
use Rattle.turn_stun.proofs.GrammarLemmas.{u16_at-append, u16_at-take}
use Rattle.turn_stun.proofs.FaultLemmas.{guard_none}
use Rattle.turn_types.specs.Channel.{IsChannel, channel_data_at, channel_fault_of, channel_frame, is_channel_number}

-- what the tests of a ChannelData message find
pub record PassesTests (bytes : List ℕ) : Type 0 where
  pub least : 0x4000 ≤ u16_at bytes 0
  pub most : u16_at bytes 0 < 0x8000
  pub whole : 4 + u16_at bytes 2 ≤ length bytes

pub channel_fault_of-none : (bytes : List ℕ) → channel_fault_of bytes ≡ None → PassesTests bytes
unfolding channel_fault_of
channel_fault_of-none bytes h =
    let one = guard_none _ _ _ h in
    let two = guard_none _ _ _ one.1 in
    let three = guard_none _ _ _ two.1 in
    let bits = and_parts _ _ (not-false (is_channel_number (u16_at bytes 0)) two.0) in
    record {
      least = leb-true _ _ bits.0;
      most = ltb-true _ _ bits.1;
      whole = ltb-false _ _ three.0;
    }

-- three parts of a list, one after the other
three_parts : (n : ℕ) (bytes : List ℕ) → bytes ≡ take 4 bytes ++ (take n (drop 4 bytes) ++ drop (4 + n) bytes)
three_parts n bytes =
    let behind : take n (drop 4 bytes) ++ drop (4 + n) bytes ≡ drop 4 bytes =
    rw (← drop-drop n 4 bytes) (take-append-drop n (drop 4 bytes)) in
    rw (behind, take-append-drop 4 bytes) refl

pub length-payload : (bytes : List ℕ) → PassesTests bytes → length (channel_data_at bytes).payload ≡ u16_at bytes 2
length-payload bytes tests = rw (length-take, length-drop) (omega (arith, tests.whole))

-- bytes that pass the tests begin with the message that is read
pub PassesTests-IsChannel : (bytes : List ℕ) → PassesTests bytes → IsChannel bytes (channel_data_at bytes).id (channel_data_at bytes).payload (drop (4 + length (channel_data_at bytes).payload) bytes)
PassesTests-IsChannel bytes tests =
    record {
      header = take 4 bytes;
      spelled = rw (length-payload bytes tests) (three_parts (u16_at bytes 2) bytes);
      four_bytes = rw length-take (omega (arith, tests.whole));
      number = u16_at-take 4 bytes 0 (omega arith);
      least = tests.least;
      most = tests.most;
      payload_length = u16_at-take 4 bytes 2 (omega arith) ∙ sym (length-payload bytes tests);
    }

-- the message at the start is the one that is read
pub record ReadsChannel (bytes : List ℕ) (id : ℕ) (payload : List ℕ) : Type 0 where
  pub tests : PassesTests bytes
  pub number : u16_at bytes 0 ≡ id
  pub payload_is : take (u16_at bytes 2) (drop 4 bytes) ≡ payload

pub IsChannel-ReadsChannel : (bytes : List ℕ) (id : ℕ) (payload rest : List ℕ) → IsChannel bytes id payload rest → ReadsChannel bytes id payload
IsChannel-ReadsChannel bytes id payload rest is =
    let behind = payload ++ rest in
    let number : u16_at bytes 0 ≡ id = rw is.spelled (u16_at-append is.header behind 0 (omega arith) ∙ is.number) in
    let size : u16_at bytes 2 ≡ length payload = rw is.spelled (u16_at-append is.header behind 2 (omega arith) ∙ is.payload_length) in
    let all : length bytes ≡ 4 + (length payload + length rest) =
    rw is.spelled (omega (arith, length-append is.header behind, length-append payload rest, is.four_bytes)) in
    record {
      tests = record {
        least = omega (arith, number, is.least);
        most = omega (arith, number, is.most);
        whole = omega (arith, size, all);
      };
      number = number;
      payload_is = rw (size, is.spelled, drop_at is.header behind 4 is.four_bytes) (take_at payload rest (length payload) refl);
    }

-- if a message is at the start there is no fault
pub PassesTests-no_fault : (bytes : List ℕ) → PassesTests bytes → channel_fault_of bytes ≡ None
unfolding channel_fault_of
PassesTests-no_fault bytes tests =
    let long : nat_lt (length bytes) 4 ≡ false = le-ltb _ _ (omega (arith, tests.whole)) in
    let least : nat_le 0x4000 (u16_at bytes 0) ≡ true = le-leb _ _ tests.least in
    let most : nat_lt (u16_at bytes 0) 0x8000 ≡ true = lt-ltb _ _ tests.most in
    let whole : nat_lt (length bytes) (4 + u16_at bytes 2) ≡ false = le-ltb _ _ tests.whole in
    rw (long, least, most, whole) refl

-- a ChannelData message that is written has its number and payload, followed by its padding
pub channel_frame-IsChannel : (id : ℕ) (payload : List ℕ) → 0x4000 ≤ id → id < 0x8000 → length payload < 2 ^ 16
    → IsChannel (channel_frame id payload) id payload (replicate (padded_len (length payload) - length payload) 0)
channel_frame-IsChannel id payload least most short = record {
  header = to_be_bytes w16 id ++ to_be_bytes w16 (length payload);
  spelled = refl;
  four_bytes = refl;
  number = omega arith;
  least = least;
  most = most;
  payload_length = omega arith;
}
