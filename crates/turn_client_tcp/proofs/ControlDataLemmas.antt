-- Data at the front of the control stream: it is what the next step of the streams gives.
use Rattle.std.proofs.Common.{◌≡◌, ◌<◌, ℕ, Bool, true, false, cond, List, [], ◌∷◌, length, Option, Some, None, inr, refl, subst, sym, ap, ◌∙◌}
use Rattle.std.specs.Prelude.{find, is_some}
use Rattle.std.specs.Option.{option_map_or}
use Rattle.std.specs.declared.net.socket_addr.SocketAddr.{SocketAddr}
use Rattle.turn_types.specs.Channel.{Channel, channel_data_at}
use Rattle.turn_types.specs.Frames.{begins_message, frame_len}
use Rattle.turn_client_api.specs.Answers.{EndsAfterSteps}
use Rattle.turn_client_api.specs.Grants.{channel_peer, first_in}
use Rattle.turn_client_api.specs.Payloads.{Payload, channel_sent}
use Rattle.turn_client_api.specs.State.{State}
use Rattle.turn_client_api.specs.Streams.{detached_frame_step, frame_step, framed_stream_step, is_ready, next_frame_step, poll_recv_step, put_back, with_bytes}
use Rattle.turn_client_api.specs.declared.state.Mode.{Mode}
use Rattle.turn_client_api.specs.declared.state.Mode.TheVariants.{Control}
use Rattle.turn_client_api.specs.declared.state.Stream.{Stream}
use Rattle.turn_client_laws.proofs.StepFrameLemmas.{bytes-twice}
use Rattle.turn_client_streams.specs.Buffered.{front_frame, is_control_mode, passed}
use Rattle.turn_client_streams.specs.Held.{control_passed, control_stream}
use Rattle.turn_client_tcp.specs.ControlData.{channel_data, control_data, control_ended, data_from, stream_data}
use Rattle.turn_client_tcp.specs.StreamSteps.{owned_payload}
use Rattle.turn_client_tcp.specs.Wanted.{EndsInNeed, FrontWantsMemory, HasBytes, StepWantsMemory}
use Rattle.turn_client_tcp.proofs.PieceLemmas.{front-begins, passed-local}
use Rattle.turn_client_tcp.proofs.TurnLemmas.{first-Rests, framed-some, front-wants, rests-some, stays-led}

-- ---- the control stream

is-control : (m : Mode) → is_control_mode m ≡ true → m ≡ Control
is-control Control e = refl
is-control m e = cc

-- the control stream with a whole first frame is ready
ready : (stream : Stream) (frame : List ℕ) → stream.mode ≡ Control → front_frame stream ≡ Some frame → is_ready stream ≡ true
ready stream frame control e = by (frame_len stream.bytes) refl
  where
    by : (o : Option ℕ) → frame_len stream.bytes ≡ o → is_ready stream ≡ true
    by None f = let none : None ≡ Some frame = rw f at e in cc
    by (Some len) f =
        ap (λ (m : Mode). is_ready (record stream { mode = m })) control
        ∙ (ap (λ (b : Bool). is_some (cond {A = Option ℕ} b (Some (length stream.bytes)) (frame_len stream.bytes))) (front-begins stream frame (sym e))
        ∙ ap is_some f)

-- what is known of the control stream and its first frame, if they give data
record Given (s : State) (payload : Payload) : Type 0 where
  stream : Stream
  frame : List ℕ
  control : control_stream s.streams ≡ Some stream
  front : front_frame stream ≡ Some frame
  begins : begins_message frame ≡ false
  sent : owned_payload (channel_sent s frame) ≡ Some payload

given : (s : State) (payload : Payload) → control_data s ≡ Some payload → Given s payload
given s payload e = by (control_stream s.streams) refl e
  where
    in_frame : (stream : Stream) (frame : List ℕ) → control_stream s.streams ≡ Some stream → front_frame stream ≡ Some frame
        → (b : Bool) → begins_message frame ≡ b → channel_data s frame ≡ Some payload → Given s payload
    in_frame stream frame control front true b e = let none : None ≡ Some payload = rw b at e in cc
    in_frame stream frame control front false b e =
        record { stream = stream; frame = frame; control = control; front = front; begins = b; sent = rw b at e }

    in_stream : (stream : Stream) → control_stream s.streams ≡ Some stream
        → (o : Option (List ℕ)) → front_frame stream ≡ o → option_map_or (channel_data s) o None ≡ Some payload → Given s payload
    in_stream stream control None front e = cc
    in_stream stream control (Some frame) front e = in_frame stream frame control front (begins_message frame) refl e

    by : (o : Option Stream) → control_stream s.streams ≡ o → option_map_or (stream_data s) o None ≡ Some payload → Given s payload
    by None control e = cc
    by (Some stream) control e = in_stream stream control (front_frame stream) refl e

first-ready : (xs : List Stream) (stream : Stream) (frame : List ℕ) → control_stream xs ≡ Some stream → front_frame stream ≡ Some frame
    → (find is_ready xs ≡ Some stream) × (stream.mode ≡ Control)
first-ready [] stream frame e front = cc
first-ready (x ∷ xs) stream frame e front = by (is_control_mode x.mode) refl
  where
    by : (b : Bool) → is_control_mode x.mode ≡ b → (find is_ready (x ∷ xs) ≡ Some stream) × (stream.mode ≡ Control)
    by true f =
        let found : Some x ≡ Some stream = rw f at e in
        let same : x ≡ stream = cc in
        let control : stream.mode ≡ Control = is-control stream.mode (rw same at f) in
        (rw (same, ready stream frame control front) refl, control)
    by false f = let none : None ≡ Some stream = rw f at e in cc

-- its step gives the data, and drops the frame
module _ (now : ℕ) (s : State) (payload : Payload) (g : Given s payload) where
  found : find is_ready s.streams ≡ Some g.stream
  found = (first-ready s.streams g.stream g.frame g.control g.front).0

  passed-is : with_bytes (passed g.stream).local (passed g.stream).bytes (with_bytes g.stream.local [] s) ≡ control_passed s
  passed-is =
      ap (λ a. with_bytes a (passed g.stream).bytes (with_bytes g.stream.local [] s)) (passed-local g.stream)
      ∙ (bytes-twice g.stream.local [] (passed g.stream).bytes s
      ∙ sym (ap (λ (o : Option Stream). option_map_or (λ stream. with_bytes stream.local (passed stream).bytes s) o s) g.control))

  step-is : next_frame_step g.stream now s ≡ (channel_sent s g.frame, control_passed s)
  step-is =
      let t : State = with_bytes g.stream.local [] s in
      let mode : g.stream.mode ≡ Control = (first-ready s.streams g.stream g.frame g.control g.front).1 in
      let begins = front-begins g.stream g.frame (sym g.front) in
      ap (λ (m : Mode). detached_frame_step (record g.stream { mode = m }) now t) mode
      ∙ (ap (λ (m : Mode). framed_stream_step (record g.stream { mode = m }) now t) (sym mode)
      ∙ (framed-some g.stream g.frame now t begins (sym g.front)
      ∙ (ap (λ (m : Mode). put_back (passed g.stream).local (passed g.stream).bytes (frame_step (record g.stream { mode = m }) g.frame now t)) mode
      ∙ rw g.begins (ap (λ (u : State). (channel_sent s g.frame, u)) passed-is))))

pub data-given : (now : ℕ) (s : State) (payload : Payload) → control_data s ≡ Some payload → poll_recv_step now s ≡ (Some payload, control_passed s)
data-given now s payload e =
    let g = given s payload e in
    let step = step-is now s payload g in
    rests-some now s s g.stream payload (found now s payload g) (ap (λ p. owned_payload p.0) step ∙ g.sent) (first-Rests now s)
    ∙ ap (λ p. (Some payload, p.1)) step

pub data-ends : (now : ℕ) (s : State) → HasBytes (control_data s) → EndsAfterSteps now s (control_ended s)
data-ends now s e = by (control_data s) refl e
  where
    by : (o : Option Payload) → control_data s ≡ o → HasBytes o → EndsAfterSteps now s (control_ended s)
    by None f e = absurd e
    by (Some payload) f e =
        let g = given s payload f in
        (s, stays-led now s, rw (found now s payload g, g.control) refl)

-- a copy of the data needs memory
sent-some : (now : ℕ) (s t : State) (payload : Payload) (g : Given s payload) → 0 < length payload.bytes → channel_sent t g.frame ≡ channel_sent s g.frame
    → HasBytes (owned_payload (frame_step g.stream g.frame now t).0)
sent-some now s t payload g more same =
    let mode : g.stream.mode ≡ Control = (first-ready s.streams g.stream g.frame g.control g.front).1 in
    rw (mode, g.begins, same, g.sent) more

step-wants : (stream : Stream) (now : ℕ) (t : State) → stream.mode ≡ Control → FrontWantsMemory stream now t → StepWantsMemory stream now t
step-wants stream now t mode wants = rw mode (rw mode at wants)

pub data-wants : (now : ℕ) (s : State) → HasBytes (control_data s) → EndsInNeed now s (control_ended s)
data-wants now s e = by (control_data s) refl e
  where
    by : (o : Option Payload) → control_data s ≡ o → HasBytes o → EndsInNeed now s (control_ended s)
    by None f e = absurd e
    by (Some payload) f e =
        let g = given s payload f in
        let t : State = with_bytes g.stream.local [] s in
        let mode : g.stream.mode ≡ Control = (first-ready s.streams g.stream g.frame g.control g.front).1 in
        let front : FrontWantsMemory g.stream now t =
        front-wants g.stream g.frame now t (front-begins g.stream g.frame (sym g.front)) (sym g.front) (inr (sent-some now s t payload g e refl)) in
        (s, stays-led now s, rw (found now s payload g, g.control) (step-wants g.stream now t mode front, refl))

-- ---- what is found at the front

pub front-data : (s : State) (stream : Stream) (frame : List ℕ) → Some stream ≡ control_stream s.streams → Some frame ≡ front_frame stream
    → channel_data s frame ≡ control_data s
front-data s stream frame e f = rw (← e, ← f) refl

pub message-none : (s : State) (frame : List ℕ) → begins_message frame ≡ true → None ≡ channel_data s frame
message-none s frame e = rw e refl

pub channel-none : (s : State) (frame : List ℕ) (channel : Channel) → channel ≡ channel_data_at frame → first_in (channel_peer channel.id) s ≡ None
    → None ≡ channel_data s frame
channel-none s frame channel is e =
    let at : first_in (channel_peer (channel_data_at frame).id) s ≡ None = subst (λ channel. first_in (channel_peer channel.id) s ≡ None) is e in
    by (begins_message frame) at
  where
    by : (b : Bool) → first_in (channel_peer (channel_data_at frame).id) s ≡ None → None ≡ cond b None (owned_payload (channel_sent s frame))
    by true at = refl
    by false at = rw at refl

pub channel-data : (s : State) (frame : List ℕ) (channel : Channel) (peer : SocketAddr) → channel ≡ channel_data_at frame → begins_message frame ≡ false
    → first_in (channel_peer channel.id) s ≡ Some peer → Some (data_from s peer channel.payload) ≡ channel_data s frame
channel-data s frame channel peer is begins e =
    let at : first_in (channel_peer (channel_data_at frame).id) s ≡ Some peer = subst (λ channel. first_in (channel_peer channel.id) s ≡ Some peer) is e in
    rw (begins, is, at) refl
