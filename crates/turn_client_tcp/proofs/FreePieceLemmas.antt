-- Pieces that allocate no memory.
use Rattle.std.proofs.Common.{◌≡◌, ◌⊎◌, ◌∙◌, ℕ, ◌++◌, Bool, true, false, cond, not, arith, drop, eqb, length, map, take, List, [], ◌∷◌, Option, Some, None, ap, inl, inr, refl, subst, sym}
use Rattle.std.proofs.Math.Seq.{drop-length, take-length}
use Rattle.std.proofs.lemmas.Bool.{and_from, and_parts, cond_both, eqb-true, false_from_ne_true, ltb-false, not-false, not-true, or_parts}
use Rattle.std.specs.Prelude.{◌&&◌, ◌||◌, find, is_none, is_some, nat_lt}
use Rattle.std.specs.Option.{option_map, option_map_or}
use Rattle.std.specs.declared.net.socket_addr.SocketAddr.{SocketAddr}
use Rattle.turn_types.specs.Frames.{begins_message, begins_no_frame, frame_len}
use Rattle.turn_types.proofs.FrameLemmas.{frame_len-IsWhole}
use Rattle.turn_agent.specs.Agent.{same_address}
use Rattle.turn_stun.specs.Message.{id_of}
use Rattle.turn_auth.specs.LongTerm.{Challenge}
use Rattle.turn_client_api.specs.Answers.{EndsAfterSteps, is_free_piece}
use Rattle.turn_client_api.specs.Connections.{attempt_indicated, accepts_attempt}
use Rattle.turn_client_api.specs.Grants.{purposes_of}
use Rattle.turn_client_api.specs.Streams.{stream_with_piece, control_frame_step, framed_stream_step, is_bound, is_ready, stream_at, with_bytes}
use Rattle.turn_client_api.specs.Judgement as J
use Rattle.turn_client_api.specs.Judgement.{Judgement, connection_id_in, judgement_of, peer_in}
use Rattle.turn_client_api.specs.Memory.{challenge_takes_memory, frame_takes_memory, is_free_frame, is_whole_frame, message_takes_memory, packet_takes_memory}
use Rattle.turn_client_api.specs.Payloads.{Outcome, Handled, Ignored, challenge_step, is_message, message_step}
use Rattle.turn_client_api.specs.Retry.{retried}
use Rattle.turn_client_api.specs.State.{State}
use Rattle.turn_client_api.specs.declared.state.Mode.{Mode}
use Rattle.turn_client_api.specs.declared.state.Mode.TheVariants.{Control, Broken}
use Rattle.turn_client_api.specs.declared.state.Stream.{Stream}
use Rattle.turn_client_laws.proofs.StreamDrainLemmas.{ready-waits}
use Rattle.turn_client_streams.specs.Buffered.{front_frame, is_broken_mode, passed}
use Rattle.turn_client_tcp.specs.Origins.{IsCarriedBy, carried_takes_memory}
use Rattle.turn_client_tcp.specs.declared.protocol.frame.FrameOrigin.{FrameOrigin}
use Rattle.turn_client_tcp.specs.StreamSteps.{EndsBehind, fed_frame_step, piece_takes_none}
use Rattle.turn_client_tcp.proofs.OriginLemmas.{carried-memory}
use Rattle.turn_client_core.proofs.ResultLemmas.{none-is, none-some_not}
use Rattle.turn_client_tcp.proofs.TurnLemmas.{framed-some, steps-none}

waits-none : (bytes : List ℕ) → not (nat_lt 0 (length bytes)) ≡ true → bytes ≡ []
waits-none [] e = refl
waits-none (x ∷ xs) e = absurd (omega (arith, ltb-false _ _ (not-true _ e)))

-- ---- bytes of a bound connection, or a frame

pub free-either : (to : SocketAddr) (piece : List ℕ) (s : State) (stream : Stream) → stream_at to s ≡ Some stream → piece_takes_none to piece s ≡ true
    → (is_free_piece piece stream ≡ true) ⊎ (is_free_frame piece s stream ≡ true)
free-either to piece s stream found free = by (is_free_piece piece stream) refl (rw found at free)
  where
    by : (b : Bool) → is_free_piece piece stream ≡ b → (b || is_free_frame piece s stream) ≡ true → (is_free_piece piece stream ≡ true) ⊎ (is_free_frame piece s stream ≡ true)
    by true e h = inl e
    by false e h = inr h

-- the stream is bound, and holds no bytes
pub free-bound : (piece : List ℕ) (stream : Stream) → is_free_piece piece stream ≡ true → is_bound stream.mode ≡ true
free-bound piece stream free = (and_parts _ _ (and_parts _ _ free).0).0

pub free-waits : (piece : List ℕ) (stream : Stream) → is_free_piece piece stream ≡ true → stream.bytes ≡ []
free-waits piece stream free = waits-none stream.bytes (and_parts _ _ free).1

broken-unbound : (m : Mode) → is_broken_mode m ≡ true → is_bound m ≡ true → ⊥
broken-unbound Broken broken bound = cc
broken-unbound m broken bound = cc

-- ---- one whole frame

pub record IsFree (piece : List ℕ) (s : State) (stream : Stream) : Type 0 where
  pub waits : stream.bytes ≡ []
  pub whole : frame_len piece ≡ Some (length piece)
  pub rest : find is_ready s.streams ≡ None
  pub takes : frame_takes_memory stream piece s ≡ false

whole-is : (piece : List ℕ) → is_whole_frame piece ≡ true → frame_len piece ≡ Some (length piece)
whole-is piece = by (frame_len piece)
  where
    by : (o : Option ℕ) → option_map_or (λ len. eqb len (length piece)) o false ≡ true → o ≡ Some (length piece)
    by None e = let no : false ≡ true = e in cc
    by (Some len) e = ap Some (eqb-true len (length piece) e)

pub free-is : (piece : List ℕ) (s : State) (stream : Stream) → is_free_frame piece s stream ≡ true → IsFree piece s stream
free-is piece s stream free =
    let (three, takes) = and_parts _ _ free in
    let (two, rest) = and_parts _ _ three in
    let (whole, waits) = and_parts _ _ two in
    record {
      waits = waits-none stream.bytes waits;
      whole = whole-is piece whole;
      rest = none-is (find is_ready s.streams) rest;
      takes = not-true (frame_takes_memory stream piece s) takes;
    }

-- ---- a stream without its bytes

emptied : SocketAddr → Stream → Stream
emptied local x = cond (same_address x.local local) (record x { bytes = [] }) x

empty-unready : (x : Stream) → is_ready (record x { bytes = [] }) ≡ false
empty-unready x = false_from_ne_true _ (λ e. omega (arith, ready-waits x.mode x [] e))

emptied-unready : (local : SocketAddr) (x : Stream) → is_ready x ≡ false → is_ready (emptied local x) ≡ false
unfolding emptied
emptied-unready local x e = cond_both (same_address x.local local) (record x { bytes = [] }) x (λ y. is_ready y ≡ false) (λ f. empty-unready x) (λ f. e)

none-emptied : (local : SocketAddr) (xs : List Stream) → find is_ready xs ≡ None → find is_ready (map (emptied local) xs) ≡ None
none-emptied local [] e = refl
none-emptied local (x ∷ xs) e = by (is_ready x) refl (none-emptied local xs) e
  where
    by : (b : Bool) → is_ready x ≡ b → (find is_ready xs ≡ None → find is_ready (map (emptied local) xs) ≡ None) → cond b (Some x) (find is_ready xs) ≡ None
        → find is_ready (map (emptied local) (x ∷ xs)) ≡ None
    by true f later g = cc
    by false f later g = rw (emptied-unready local x f) (later g)

-- if no stream is ready, none is after one of them was taken out
pub emptied-rest : (local : SocketAddr) (s : State) → find is_ready s.streams ≡ None → find is_ready (with_bytes local [] s).streams ≡ None
unfolding emptied
emptied-rest local s e = none-emptied local s.streams e

-- whether a message allocates memory does not depend on the bytes of streams
attempt-out : (message : List ℕ) (local : SocketAddr) (bytes : List ℕ) (s : State) → is_some (attempt_indicated message (with_bytes local bytes s)) ≡ is_some (attempt_indicated message s)
attempt-out message local bytes s = by (connection_id_in message) (peer_in message) refl refl
  where
    accepted : (peer : SocketAddr) (id : ℕ) → connection_id_in message ≡ Some id → peer_in message ≡ Some peer → (b : Bool) → accepts_attempt peer s ≡ b
        → is_some (attempt_indicated message (with_bytes local bytes s)) ≡ is_some (attempt_indicated message s)
    accepted peer id e f true h = rw (e, f, h) refl
    accepted peer id e f false h = rw (e, f, h) refl

    by : (id : Option ℕ) (peer : Option SocketAddr) → connection_id_in message ≡ id → peer_in message ≡ peer
        → is_some (attempt_indicated message (with_bytes local bytes s)) ≡ is_some (attempt_indicated message s)
    by None peer e f = rw e refl
    by (Some id) None e f = rw (e, f) refl
    by (Some id) (Some peer) e f = accepted peer id e f (accepts_attempt peer s) refl

message-out : (message : List ℕ) (local : SocketAddr) (bytes : List ℕ) (s : State) → message_takes_memory message (with_bytes local bytes s) ≡ message_takes_memory message s
message-out message local bytes s = by (judgement_of s message) refl
  where
    by : (j : Judgement) → judgement_of s message ≡ j → message_takes_memory message (with_bytes local bytes s) ≡ message_takes_memory message s
    by J.ConnectionAttempt e = rw e (attempt-out message local bytes s)
    by j e = rw e refl

frame-out : (stream : Stream) (frame : List ℕ) (local : SocketAddr) (bytes : List ℕ) (s : State) → frame_takes_memory stream frame (with_bytes local bytes s) ≡ frame_takes_memory stream frame s
frame-out stream frame local bytes s = by stream.mode
  where
    by : (mode : Mode) → frame_takes_memory (record stream { mode = mode }) frame (with_bytes local bytes s) ≡ frame_takes_memory (record stream { mode = mode }) frame s
    by Control = ap (λ b. is_message frame && b) (message-out frame local bytes s)
    by mode = refl

-- a stream that is taken out processes the same piece in the same way
pub free-out : (piece : List ℕ) (s : State) (stream : Stream) (local : SocketAddr) → is_free_frame piece s stream ≡ true → is_free_frame piece (with_bytes local [] s) stream ≡ true
free-out piece s stream local free =
    let three = and_parts (is_whole_frame piece && not (nat_lt 0 (length stream.bytes)) && is_none (find is_ready s.streams)) (not (frame_takes_memory stream piece s)) free in
    let two = and_parts (is_whole_frame piece && not (nat_lt 0 (length stream.bytes))) (is_none (find is_ready s.streams)) three.0 in
    let rest = ap is_none (emptied-rest local s (none-is (find is_ready s.streams) two.1)) in
    and_from _ _ (and_from _ _ two.0 rest) (ap not (frame-out stream piece local [] s) ∙ three.1)

-- ---- no step is left to end in

pub rests-end : (now : ℕ) (s t : State) → find is_ready s.streams ≡ None → EndsAfterSteps now s t → ⊥
rests-end now s t rest (u, (n, led), broken) =
    let same : s ≡ u = ap (λ p. p.1) (sym (steps-none n now s rest) ∙ led) in
    let none : find is_ready u.streams ≡ None = rw (sym same) rest in
    rw none at broken

pub rests-behind : (now : ℕ) (outcome : Outcome) (s t : State) → find is_ready s.streams ≡ None → EndsBehind now (outcome, s) t → ⊥
rests-behind now Handled s t rest ends = rests-end now s t rest ends
rests-behind now Ignored s t rest ends = rests-end now s t rest ends
rests-behind now outcome s t rest ends = ends

-- ---- a message that allocates no memory changes nothing

challenge-stays : (message : List ℕ) (challenge : Challenge) (now : ℕ) (s : State) → challenge_takes_memory message s ≡ false → (challenge_step message challenge now s).1 ≡ s
challenge-stays message challenge now s free =
    let parts = or_parts (is_some (retried (purposes_of (id_of message) s))) (not (nat_lt s.challenges s.config.max_stale_nonces)) free in
    rw (not-false _ parts.1, none-some_not _ parts.0) refl

message-stays : (message : List ℕ) (now : ℕ) (s : State) → message_takes_memory message s ≡ false → (message_step message now s).1 ≡ s
message-stays message now s = by (judgement_of s message) refl
  where
    by : (j : Judgement) → judgement_of s message ≡ j → message_takes_memory message s ≡ false → (message_step message now s).1 ≡ s
    by (J.Challenged challenge) e = rw e (λ free. challenge-stays message challenge now s free)
    by J.Fatal e = rw e (λ free. let no : true ≡ false = free in cc)
    by J.ConnectionAttempt e = rw e (λ free. rw (none-some_not (attempt_indicated message s) free) refl)
    by J.SignedRequest e = rw e (λ free. rw free refl)
    by J.SignedSuccess e = rw e (λ free. let no : true ≡ false = free in cc)
    by J.SignedError e = rw e (λ free. let no : true ≡ false = free in cc)
    by j e = rw e (λ free. refl)

control-stays : (frame : List ℕ) (now : ℕ) (s : State) → packet_takes_memory frame s ≡ false → (control_frame_step frame now s).1 ≡ s
control-stays frame now s free = by (begins_message frame) (is_message frame) refl refl
  where
    by : (b m : Bool) → begins_message frame ≡ b → is_message frame ≡ m → (control_frame_step frame now s).1 ≡ s
    by false m e f = rw e refl
    by true false e f = rw (e, f) refl
    by true true e f = rw (e, f) (message-stays frame now s (rw f at free))

-- ---- the first frame

-- the whole piece is the first frame
front-piece : (stream : Stream) (piece frame : List ℕ) → stream.bytes ≡ [] → frame_len piece ≡ Some (length piece) → Some frame ≡ front_frame (stream_with_piece stream piece) → frame ≡ piece
front-piece stream piece frame waits whole front =
    let is : Some frame ≡ Some (take (length piece) piece) =
    front ∙ (ap (λ (bytes : List ℕ). option_map (λ len. take len (bytes ++ piece)) (frame_len (bytes ++ piece))) waits ∙ ap (λ o. option_map (λ len. take len piece) o) whole) in
    let same : frame ≡ take (length piece) piece = cc in
    same ∙ take-length piece

-- the first frame requires no memory
pub free-front : (stream : Stream) (origin : FrameOrigin) (piece frame : List ℕ) (t : State) → IsCarriedBy origin stream → is_free_frame piece t stream ≡ true
    → Some frame ≡ front_frame (stream_with_piece stream piece) → carried_takes_memory origin frame t ≡ true → ⊥
free-front stream origin piece frame t carried free front takes =
    let is = free-is piece t stream free in
    let same : frame ≡ piece = front-piece stream piece frame is.waits is.whole front in
    let no : true ≡ false =
    sym takes ∙ (sym (carried-memory origin stream frame t carried) ∙ (ap (λ bytes. frame_takes_memory stream bytes t) same ∙ is.takes)) in
    cc

-- then no stream is ready
control-rests : (stream : Stream) (piece : List ℕ) (now : ℕ) (t : State) → frame_len piece ≡ Some (length piece) → find is_ready t.streams ≡ None → packet_takes_memory piece t ≡ false
    → find is_ready (framed_stream_step (record stream { mode = Control; bytes = piece }) now t).1.streams ≡ None
control-rests stream piece now t whole rest free =
    let u : Stream = record stream { mode = Control; bytes = piece } in
    let begins : begins_no_frame piece ≡ false = (frame_len-IsWhole piece (length piece) whole).begins in
    let front : Some piece ≡ front_frame u = sym (ap (λ o. option_map (λ len. take len piece) o) whole ∙ ap Some (take-length piece)) in
    let left : passed u ≡ record u { bytes = [] } =
    ap (λ o. option_map_or (λ len. record u { bytes = drop len piece }) o u) whole ∙ ap (λ (bytes : List ℕ). record u { bytes = bytes }) (drop-length piece) in
    let led : (framed_stream_step u now t).1 ≡ with_bytes stream.local [] t =
    ap (λ p. p.1) (framed-some u piece now t begins front)
    ∙ (ap (λ (x : Stream). with_bytes x.local x.bytes (control_frame_step piece now t).1) left ∙ ap (with_bytes stream.local []) (control-stays piece now t free)) in
    subst (λ (x : State). find is_ready x.streams ≡ None) (sym led) (emptied-rest stream.local t rest)

pub free-rests : (stream : Stream) (piece : List ℕ) (now : ℕ) (t : State) → stream.mode ≡ Control → is_free_frame piece t stream ≡ true
    → find is_ready (fed_frame_step stream piece now t).1.streams ≡ None
free-rests stream piece now t control free = let is = free-is piece t stream free in by stream.mode stream.bytes control is.waits is.whole is.rest is.takes
  where
    by : (mode : Mode) (bytes : List ℕ) → mode ≡ Control → bytes ≡ [] → frame_len piece ≡ Some (length piece) → find is_ready t.streams ≡ None
        → frame_takes_memory (record stream { mode = mode; bytes = bytes }) piece t ≡ false
        → find is_ready (fed_frame_step (record stream { mode = mode; bytes = bytes }) piece now t).1.streams ≡ None
    by Control [] m e whole rest takes = control-rests stream piece now t whole rest takes
    by mode bytes m e whole rest takes = cc

-- ---- a broken stream

-- its bytes allocate no memory if no stream is ready
pub free-broken : (piece : List ℕ) (s : State) (stream : Stream) → is_broken_mode stream.mode ≡ true
    → (is_free_piece piece stream ≡ true) ⊎ (is_free_frame piece s stream ≡ true) → find is_ready s.streams ≡ None
free-broken piece s stream is (inl bound) = absurd (broken-unbound stream.mode is (free-bound piece stream bound))
free-broken piece s stream is (inr frame) = (free-is piece s stream frame).rest
