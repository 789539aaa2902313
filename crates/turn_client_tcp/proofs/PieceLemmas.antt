-- Pieces of streams that are taken out.
use Rattle.std.proofs.Common.{◌≡◌, ℕ, ◌≤◌, ◌+◌, ◌-◌, Bool, true, false, cond, List, [], ◌∷◌, drop, length, take, Option, Some, None, refl, sym, subst, ap, ◌∙◌, arith}
use Rattle.std.specs.Prelude.{slice_range}
use Rattle.std.specs.Option.{option_map, option_map_or}
use Rattle.std.proofs.lemmas.List.{drop-take, length-take, take-take}
use Rattle.std.specs.declared.ops.Range.{Range}
use Rattle.turn_stun.specs.declared.transport.Transmit.{Transmit}
use Rattle.turn_types.specs.Frames.{begins_no_frame, frame_len}
use Rattle.turn_types.specs.Incoming.{ComesWith}
use Rattle.turn_types.specs.declared.tcp.incoming.IncomingTcp.{IncomingTcp}
use Rattle.turn_types.specs.declared.tcp.incoming.IncomingTcp.TheVariants.{CompleteMessage, CompleteChannel, StoredMessage, StoredChannel}
use Rattle.turn_types.proofs.FrameLemmas.{frame_len-IsWhole}
use Rattle.turn_client_api.specs.Payloads.{Outcome, Handled, PeerData}
use Rattle.turn_client_api.specs.Receive.{place_kept}
use Rattle.turn_client_api.specs.State.{State}
use Rattle.turn_client_api.specs.Streams.{framed_stream_step, with_bytes}
use Rattle.turn_client_api.specs.declared.state.Stream.{Stream}
use Rattle.turn_client_streams.specs.Buffered.{broken, front_frame, passed, without_front}
use Rattle.turn_client_core.specs.ProtocolRecv.{IsPart, IsRangeWithin, outcome_in}
use Rattle.turn_client_core.specs.declared.protocol_recv.TurnProtocolRecv.{TurnProtocolRecv}
use Rattle.turn_client_core.specs.declared.protocol_recv.TurnProtocolRecv.TheVariants as T
use Rattle.turn_client_tcp.specs.StreamSteps.{IsFront, came_with, given_as, left_by, bytes_in_range, put_or_broken}
use Rattle.turn_client_tcp.specs.Origins.{IsCarriedBy, carried_step}
use Rattle.turn_client_tcp.specs.declared.protocol.frame.FrameOrigin.{FrameOrigin}
use Rattle.turn_client_tcp.specs.declared.protocol.frame.FrameOrigin.TheVariants as C
use Rattle.turn_client_tcp.proofs.OriginLemmas.{carried-step}
use Rattle.turn_client_tcp.proofs.TurnLemmas.{framed-none, framed-some}

-- ---- a part of a part

pub part-IsWithin : (bytes : List ℕ) (was s : State) (reported : TurnProtocolRecv) → IsPart bytes was s reported → IsRangeWithin bytes reported
part-IsWithin bytes was s (T.PeerData transport peer range) is = (is.0, is.1)
part-IsWithin bytes was s reported is = tt

-- in the front of some bytes a part is where it is in all of them
slice-front : (xs : List ℕ) (end a b : ℕ) → end ≤ length xs → a ≤ b → b ≤ length (take end xs) → slice_range (take end xs) a b ≡ slice_range xs a b
slice-front xs end a b inside ordered within =
    let most : b ≤ end = omega (arith, inside, within, length-take end xs) in
    let split : end ≡ a + (end - a) = omega (arith, ordered, most) in
    ap (λ n. take (b - a) (drop a (take n xs))) split
    ∙ (ap (take (b - a)) (drop-take a (end - a) xs) ∙ take-take (b - a) (end - a) (drop a xs) (omega (arith, ordered, most)))

front-outcome : (bytes : List ℕ) (end : ℕ) (reported : TurnProtocolRecv) → end ≤ length bytes → IsRangeWithin (take end bytes) reported → outcome_in bytes reported ≡ outcome_in (take end bytes) reported
front-outcome bytes end (T.PeerData transport peer range) inside is =
    ap (λ part. PeerData (record { transport = transport; peer = peer; bytes = part; place = Some range })) (sym (slice-front bytes end range.start range.end inside is.0 is.1))
front-outcome bytes end reported inside is = refl

-- a range at the front
part-front : (bytes : List ℕ) (range : Range ℕ) → range.start ≡ 0 → bytes_in_range bytes range ≡ take range.end bytes
part-front bytes range e =
    let whole : range.end - 0 ≡ range.end = omega arith in
    ap (λ n. take (range.end - n) (drop n bytes)) e ∙ ap (λ n. take n bytes) whole

pub lent-outcome : (bytes : List ℕ) (range : Range ℕ) (reported : TurnProtocolRecv) → range.start ≡ 0 → range.end ≤ length bytes → IsRangeWithin (bytes_in_range bytes range) reported
    → outcome_in bytes reported ≡ outcome_in (bytes_in_range bytes range) reported
lent-outcome bytes range reported e inside is =
    front-outcome bytes range.end reported inside (subst (λ part. IsRangeWithin part reported) (part-front bytes range e) is)
    ∙ ap (λ part. outcome_in part reported) (sym (part-front bytes range e))

-- ---- the first frame

module _ {T : Type 0} (items : T → List ℕ) where
  pub comes-IsFront : (waited : List ℕ) (came : Transmit T) (front : IncomingTcp T) → ComesWith items waited came front → IsFront items front
  comes-IsFront waited came (CompleteMessage transmit range) is = (is.2, rw is.1 is.3)
  comes-IsFront waited came (CompleteChannel transmit range) is = (is.2, rw is.1 is.3)
  comes-IsFront waited came front is = tt

  pub comes-with : (waited : List ℕ) (came : Transmit T) (front : IncomingTcp T) → ComesWith items waited came front → came_with front ≡ came
  comes-with waited came (CompleteMessage transmit range) is = is.1
  comes-with waited came front is = is.1

  pub comes-given : (waited : List ℕ) (came : Transmit T) (front : IncomingTcp T) (outcome : Outcome) → ComesWith items waited came front → given_as front outcome ≡ place_kept waited outcome
  comes-given [] came (StoredMessage frame transmit) outcome is = absurd (omega (arith, is.0))
  comes-given [] came (StoredChannel frame transmit) outcome is = absurd (omega (arith, is.0))
  comes-given (b ∷ waited) came (CompleteMessage transmit range) outcome is = let clash : b ∷ waited ≡ [] = is.0 in cc
  comes-given (b ∷ waited) came (CompleteChannel transmit range) outcome is = let clash : b ∷ waited ≡ [] = is.0 in cc
  comes-given waited came front outcome is = refl

-- ---- a step of a stream

-- if there is a first frame, the stream is not stuck
pub front-begins : (s : Stream) (frame : List ℕ) → Some frame ≡ front_frame s → begins_no_frame s.bytes ≡ false
front-begins s frame e = by (frame_len s.bytes) refl e
  where
    by : (o : Option ℕ) → frame_len s.bytes ≡ o → Some frame ≡ option_map (λ len. take len s.bytes) o → begins_no_frame s.bytes ≡ false
    by None f g = cc
    by (Some len) f g = (frame_len-IsWhole s.bytes len f).begins

-- the mode and the local address of a stream without its first frame
pub passed-local : (s : Stream) → (passed s).local ≡ s.local
passed-local s = by (frame_len s.bytes)
  where
    by : (o : Option ℕ) → (option_map_or (λ len. record s { bytes = drop len s.bytes }) o s).local ≡ s.local
    by None = refl
    by (Some len) = refl

pub passed-mode : (s : Stream) → (passed s).mode ≡ s.mode
passed-mode s = by (frame_len s.bytes)
  where
    by : (o : Option ℕ) → (option_map_or (λ len. record s { bytes = drop len s.bytes }) o s).mode ≡ s.mode
    by None = refl
    by (Some len) = refl

pub fed-some : (s : Stream) (origin : FrameOrigin) (frame : List ℕ) (now : ℕ) (t : State) → IsCarriedBy origin s → Some frame ≡ front_frame s
    → framed_stream_step s now t ≡ ((carried_step origin frame now t).0, left_by (without_front s) (carried_step origin frame now t).1)
fed-some s origin frame now t is e =
    let begins = front-begins s frame e in
    let same : without_front s ≡ passed s = ap (λ b. cond b (broken s) (passed s)) begins in
    framed-some s frame now t begins e
    ∙ (ap (λ p. (p.0, with_bytes (passed s).local (passed s).bytes p.1)) (carried-step origin s frame now t is)
    ∙ ap (λ (u : Stream). ((carried_step origin frame now t).0, left_by u (carried_step origin frame now t).1)) (sym same))

pub handled-kept : (waited : List ℕ) → place_kept waited Handled ≡ Handled
handled-kept [] = refl
handled-kept (b ∷ waited) = refl

-- a stream of frames without a whole first frame waits for the rest, or is broken
pub fed-none : (s : Stream) (origin : FrameOrigin) (now : ℕ) (t : State) → IsCarriedBy origin s → None ≡ front_frame s → framed_stream_step s now t ≡ (Handled, put_or_broken (without_front s) t)
fed-none s origin now t is e = by (begins_no_frame s.bytes) refl
  where
    unpassed : (o : Option ℕ) → None ≡ option_map (λ len. take len s.bytes) o → option_map_or (λ len. record s { bytes = drop len s.bytes }) o s ≡ s
    unpassed None f = refl
    unpassed (Some len) f = cc

    put : (origin : FrameOrigin) → IsCarriedBy origin s → put_or_broken s t ≡ left_by s t
    put C.Control is = rw is refl
    put (C.Waiting local) is = rw is.0 refl

    by : (b : Bool) → begins_no_frame s.bytes ≡ b → framed_stream_step s now t ≡ (Handled, put_or_broken (without_front s) t)
    by true f = rw f refl
    by false f =
        let same : without_front s ≡ s = ap (λ b. cond b (broken s) (passed s)) f ∙ unpassed (frame_len s.bytes) e in
        framed-none s now t f e ∙ ap (λ (x : State). (Handled, x)) (sym (ap (λ (u : Stream). put_or_broken u t) same ∙ put origin is))
