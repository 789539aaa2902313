-- The frames that are cut off a stream are those of the grammar, all of them and no others.
use Rattle.std.proofs.Common.{◌≡◌, ℕ, zero, suc, ◌+◌, ◌-◌, ◌^◌, ◌<◌, ◌≤◌, Bool, true, false, if◌then◌else◌, List, [], ◌∷◌, ◌++◌, length, take, drop, replicate, Option, Some, None, refl, sym, ap}
use Rattle.std.proofs.Common.{subst, ◌∙◌, inl, inr, arith, append_assoc, length-append}
use Rattle.std.proofs.lemmas.Bool.{ltb-true, ltb-false, leb-false, lt-ltb, lt-leb, le-ltb}
use Rattle.std.proofs.lemmas.List.{length-replicate, take-append-drop, take_at, drop_at, length-take, length-drop}
use Rattle.std.proofs.lemmas.List.Elements.{All-nil, All-cons, All-head, All-tail}
use Rattle.std.proofs.Math.Seq.{take-add}
use Rattle.std.specs.List.{concat}
use Rattle.turn_stun.specs.Message.{Attribute, IsMessage, padded_len}
use Rattle.turn_stun.specs.Number.{u16_at}
use Rattle.turn_stun.proofs.GrammarLemmas.{u16_at-append, u16_at-take, padded_len-ge}
use Rattle.turn_types.specs.Channel.{channel_frame}
use Rattle.turn_types.specs.Cuts.{Drained, IsPrefixCut}
use Rattle.turn_types.specs.Frames.{Frames, AreFrames, IsFrame, IsMessageFrame, IsChannelFrame, begins_message, frame_size, frame_len, frames_of}
use Rattle.turn_types.proofs.ChannelLemmas.{channel_frame-IsChannel}
use Rattle.turn_types.proofs.CutLemmas.{by_first}
use Rattle.turn_types.proofs.FrameLemmas.{IsWhole, IsWhole-frame_len, IsWhole-append, frame_len-IsWhole, frame_len-append}

-- the size by the first two bits
size_of_message : (bytes : List ℕ) → u16_at bytes 0 < 0x4000 → frame_size bytes ≡ 20 + u16_at bytes 2
size_of_message bytes low = ap (λ b. if b then 20 + u16_at bytes 2 else 4 + padded_len (u16_at bytes 2)) (lt-ltb _ _ low)

size_of_channel : (bytes : List ℕ) → 0x4000 ≤ u16_at bytes 0 → frame_size bytes ≡ 4 + padded_len (u16_at bytes 2)
size_of_channel bytes high = ap (λ b. if b then 20 + u16_at bytes 2 else 4 + padded_len (u16_at bytes 2)) (le-ltb _ _ high)

message_is_whole : (frame : List ℕ) → IsMessageFrame frame → IsWhole frame (length frame)
message_is_whole frame is =
    let number : u16_at frame 0 ≡ u16_at is.header 0 = rw is.spelled (u16_at-append is.header is.body 0 (omega (arith, is.header_length))) in
    let len : u16_at frame 2 ≡ length is.body = rw is.spelled (u16_at-append is.header is.body 2 (omega (arith, is.header_length)) ∙ is.body_length) in
    let all : length frame ≡ 20 + length is.body = rw is.spelled (omega (arith, length-append is.header is.body, is.header_length)) in
    let low : u16_at frame 0 < 0x4000 = rw number is.first_two_bits in
    record {
      begins = lt-leb 0x8000 (u16_at frame 0) (omega (arith, low));
      size = size_of_message frame low ∙ omega (arith, len, all);
      within = omega arith;
      least = omega (arith, all);
    }

channel_is_whole : (frame : List ℕ) → IsChannelFrame frame → IsWhole frame (length frame)
channel_is_whole frame is =
    let header = is.channel.header in
    let behind = is.payload ++ is.padding in
    let number : u16_at frame 0 ≡ is.id = rw is.channel.spelled (u16_at-append header behind 0 (omega (arith, is.channel.four_bytes)) ∙ is.channel.number) in
    let len : u16_at frame 2 ≡ length is.payload = rw is.channel.spelled (u16_at-append header behind 2 (omega (arith, is.channel.four_bytes)) ∙ is.channel.payload_length) in
    let all : length frame ≡ 4 + padded_len (length is.payload) =
    rw is.channel.spelled (omega (arith, length-append header behind, length-append is.payload is.padding, is.channel.four_bytes, is.padded)) in
    record {
      begins = lt-leb 0x8000 (u16_at frame 0) (omega (arith, number, is.channel.most));
      size = size_of_channel frame (omega (arith, number, is.channel.least)) ∙ (ap (λ n. 4 + padded_len n) len ∙ sym all);
      within = omega arith;
      least = omega (arith, all);
    }

-- a frame of the grammar is whole
pub IsFrame-IsWhole : (frame : List ℕ) → IsFrame frame → IsWhole frame (length frame)
IsFrame-IsWhole frame is = elim is [ inl message ↦ message_is_whole frame message | inr channel ↦ channel_is_whole frame channel ]

pub message_in_front : (bytes : List ℕ) (k : ℕ) → IsWhole bytes k → u16_at bytes 0 < 0x4000 → IsMessageFrame (take k bytes)
message_in_front bytes k is low =
    let n = u16_at bytes 2 in
    let size : k ≡ 20 + n = sym is.size ∙ size_of_message bytes low in
    record {
      header = take 20 bytes;
      body = take n (drop 20 bytes);
      spelled = rw size (take-add 20 n bytes);
      header_length = rw length-take (omega (arith, size, is.within));
      first_two_bits = rw (u16_at-take 20 bytes 0 (omega arith)) low;
      body_length = u16_at-take 20 bytes 2 (omega arith) ∙ rw (length-take, length-drop) (omega (arith, size, is.within));
    }

pub channel_in_front : (bytes : List ℕ) (k : ℕ) → IsWhole bytes k → 0x4000 ≤ u16_at bytes 0 → IsChannelFrame (take k bytes)
channel_in_front bytes k is high =
    let n = u16_at bytes 2 in
    let p = padded_len n in
    let size : k ≡ 4 + p = sym is.size ∙ size_of_channel bytes high in
    let inside : 4 + p ≤ length bytes = omega (arith, size, is.within) in
    let whole : p ≡ n + (p - n) = omega (arith, padded_len-ge n) in
    let below : u16_at bytes 0 < 0x8000 = leb-false 0x8000 (u16_at bytes 0) is.begins in
    let payload_length : length (take n (drop 4 bytes)) ≡ n = rw (length-take, length-drop) (omega (arith, inside, padded_len-ge n)) in
    record {
      id = u16_at bytes 0;
      payload = take n (drop 4 bytes);
      padding = take (p - n) (drop n (drop 4 bytes));
      channel = record {
        header = take 4 bytes;
        spelled = rw size (take-add 4 p bytes ∙ ap (λ (l : List ℕ). take 4 bytes ++ l) (ap (λ m. take m (drop 4 bytes)) whole ∙ take-add n (p - n) (drop 4 bytes)));
        four_bytes = rw length-take (omega (arith, inside));
        number = u16_at-take 4 bytes 0 (omega arith);
        least = high;
        most = below;
        payload_length = u16_at-take 4 bytes 2 (omega arith) ∙ sym payload_length;
      };
      padded = rw payload_length (rw (length-take, length-drop, length-drop) (omega (arith, inside, padded_len-ge n)));
    }

in_front_by : (bytes : List ℕ) (k : ℕ) → IsWhole bytes k → (b : Bool) → begins_message bytes ≡ b → IsFrame (take k bytes)
in_front_by bytes k is true e = inl (message_in_front bytes k is (ltb-true _ _ e))
in_front_by bytes k is false e = inr (channel_in_front bytes k is (ltb-false _ _ e))

-- what is whole is a frame of the grammar
pub IsWhole-IsFrame : (bytes : List ℕ) (k : ℕ) → IsWhole bytes k → IsFrame (take k bytes)
IsWhole-IsFrame bytes k is = in_front_by bytes k is (begins_message bytes) refl

frame_len-IsPrefixCut : IsPrefixCut {S = Unit {0}} (λ s bytes. frame_len bytes)
frame_len-IsPrefixCut = record {
  within = λ s bytes k h. let is = frame_len-IsWhole bytes k h in (omega (arith, is.least), is.within);
  stays = λ s bytes more k h. frame_len-append bytes more k h;
}

-- with no whole first frame there is none
pub frames_of-none : (bytes : List ℕ) → frame_len bytes ≡ None → frames_of bytes ≡ record { frames = []; rest = bytes }
frames_of-none bytes none =
    ap (λ (d : Drained (Unit {0}) (List ℕ)). record { frames = d.given; rest = d.rest })
    (by_first (λ s front. frame_len front) (λ s frame. (s, frame ∷ [])) frame_len-IsPrefixCut tt bytes None none)

-- the first frame, and then those of the rest
pub frames_of-some : (bytes : List ℕ) (k : ℕ) → frame_len bytes ≡ Some k → frames_of bytes ≡ record {
  frames = take k bytes ∷ (frames_of (drop k bytes)).frames;
  rest =
      (frames_of (drop k bytes)).rest;
}
frames_of-some bytes k some =
    ap (λ (d : Drained (Unit {0}) (List ℕ)). record { frames = d.given; rest = d.rest })
    (by_first (λ s front. frame_len front) (λ s frame. (s, frame ∷ [])) frame_len-IsPrefixCut tt bytes (Some k) some)

-- a frame at the start is found, whatever follows
pub IsFrame-frame_len : (frame more : List ℕ) → IsFrame frame → frame_len (frame ++ more) ≡ Some (length frame)
IsFrame-frame_len frame more is =
    IsWhole-frame_len (frame ++ more) (length frame) (IsWhole-append frame more (length frame) (IsFrame-IsWhole frame is))

no_frame_in_front : (rest : List ℕ) → frame_len rest ≡ None → (frame more : List ℕ) → rest ≡ frame ++ more → ¬ IsFrame frame
no_frame_in_front rest none frame more spelled is =
    let found : frame_len rest ≡ Some (length frame) = rw spelled (IsFrame-frame_len frame more is) in
    let clash : None ≡ Some (length frame) = sym none ∙ found in
    cc

sound_at : (n : ℕ) (bytes : List ℕ) → length bytes ≤ n → (found : Option ℕ) → frame_len bytes ≡ found → AreFrames bytes (frames_of bytes)
sound_at n bytes h None e =
    subst (λ (cut : Frames). AreFrames bytes cut) (sym (frames_of-none bytes e))
    (record { joined = refl; whole = All-nil IsFrame; no_more = no_frame_in_front bytes e })
sound_at zero bytes h (Some k) e = let is = frame_len-IsWhole bytes k e in absurd (omega (arith, is.least, is.within))
sound_at (suc n) bytes h (Some k) e =
    let is = frame_len-IsWhole bytes k e in
    let fewer : length (drop k bytes) ≤ n = rw length-drop (omega (arith, is.least)) in
    let later = sound_at n (drop k bytes) fewer (frame_len (drop k bytes)) refl in
    subst (λ (cut : Frames). AreFrames bytes cut) (sym (frames_of-some bytes k e))
    (record {
      joined = sym (take-append-drop k bytes) ∙ (ap (λ (l : List ℕ). take k bytes ++ l) later.joined ∙ sym (append_assoc (take k bytes) _ _));
      whole = All-cons IsFrame (take k bytes) _ (IsWhole-IsFrame bytes k is) later.whole;
      no_more = later.no_more;
    })

-- what is cut off are frames
pub frames_of-AreFrames : (bytes : List ℕ) → AreFrames bytes (frames_of bytes)
frames_of-AreFrames bytes = sound_at (length bytes) bytes (omega arith) (frame_len bytes) refl

nothing_whole : (rest : List ℕ) → ((frame more : List ℕ) → rest ≡ frame ++ more → ¬ IsFrame frame) → (found : Option ℕ) → frame_len rest ≡ found → found ≡ None
nothing_whole rest no_more None e = refl
nothing_whole rest no_more (Some k) e =
    absurd (no_more (take k rest) (drop k rest) (sym (take-append-drop k rest)) (IsWhole-IsFrame rest k (frame_len-IsWhole rest k e)))

complete_at : (frames : List (List ℕ)) (rest bytes : List ℕ) → AreFrames bytes (record { frames = frames; rest = rest }) → record { frames = frames; rest = rest } ≡ frames_of bytes
complete_at [] rest bytes is =
    let none : frame_len bytes ≡ None = rw is.joined (nothing_whole rest is.no_more (frame_len rest) refl) in
    rw (frames_of-none bytes none, is.joined) refl
complete_at (frame ∷ frames) rest bytes is =
    let behind = concat frames ++ rest in
    let spelled : bytes ≡ frame ++ behind = is.joined ∙ append_assoc frame (concat frames) rest in
    let found : frame_len bytes ≡ Some (length frame) = rw spelled (IsFrame-frame_len frame behind (All-head IsFrame frame frames is.whole)) in
    let front : take (length frame) bytes ≡ frame = rw spelled (take_at frame behind (length frame) refl) in
    let later : drop (length frame) bytes ≡ behind = rw spelled (drop_at frame behind (length frame) refl) in
    let more = complete_at frames rest behind (record { joined = refl; whole = All-tail IsFrame frame frames is.whole; no_more = is.no_more }) in
    rw (frames_of-some bytes (length frame) found, front, later)
    (ap (λ (cut : Frames). record { frames = frame ∷ cut.frames; rest = cut.rest }) more)

-- frames are cut off
pub AreFrames-frames_of : (bytes : List ℕ) (cut : Frames) → AreFrames bytes cut → cut ≡ frames_of bytes
AreFrames-frames_of bytes cut is = complete_at cut.frames cut.rest bytes is

same_length : (frame other more rest : List ℕ) → IsFrame frame → IsFrame other → frame ++ more ≡ other ++ rest → length frame ≡ length other
same_length frame other more rest is too e =
    let first : Some (length frame) ≡ Some (length other) =
    sym (IsFrame-frame_len frame more is) ∙ (ap frame_len e ∙ IsFrame-frame_len other rest too) in
    cc

-- no frame begins another
pub IsFrame-alone : (frame other more rest : List ℕ) → IsFrame frame → IsFrame other → frame ++ more ≡ other ++ rest → frame ≡ other
IsFrame-alone frame other more rest is too e =
    sym (take_at frame more (length frame) refl)
    ∙ (ap (take (length frame)) e ∙ take_at other rest (length frame) (sym (same_length frame other more rest is too e)))

-- a message is a frame
pub IsMessage-IsMessageFrame : (bytes : List ℕ) (type id : ℕ) (attributes : List Attribute) → IsMessage bytes type id attributes → IsMessageFrame bytes
IsMessage-IsMessageFrame bytes type id attributes is =
    let low : u16_at bytes 0 < 0x4000 = omega (arith, is.has_type, is.first_two_bits) in
    let whole : 20 + u16_at bytes 2 ≡ length bytes = is.whole in
    record {
      header = take 20 bytes;
      body = drop 20 bytes;
      spelled = sym (take-append-drop 20 bytes);
      header_length = rw length-take (omega (arith, whole));
      first_two_bits = rw (u16_at-take 20 bytes 0 (omega arith)) low;
      body_length = u16_at-take 20 bytes 2 (omega arith) ∙ rw length-drop (omega (arith, whole));
    }

-- a ChannelData message that is written is a frame
pub channel_frame-IsChannelFrame : (id : ℕ) (payload : List ℕ) → 0x4000 ≤ id → id < 0x8000 → length payload < 2 ^ 16 → IsChannelFrame (channel_frame id payload)
channel_frame-IsChannelFrame id payload least most short = record {
  id = id;
  payload = payload;
  padding = replicate (padded_len (length payload) - length payload) 0;
  channel = channel_frame-IsChannel id payload least most short;
  padded = rw length-replicate (omega (arith, padded_len-ge (length payload)));
}
