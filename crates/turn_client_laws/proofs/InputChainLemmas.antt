-- The inputs of a call lead from the state before it to the state after it.
use Rattle.turn_client_laws.proofs.Common.{◌≡◌, ◌⊎◌, ℕ, zero, suc, Bool, true, false, not, cond, List, [], ◌∷◌, ◌++◌, map, drop, take, Option, Some, None, refl, ap, sym, ◌∙◌, inl, inr, find}
use Rattle.turn_client_laws.proofs.Common.{SocketAddr}
use Rattle.turn_client_laws.proofs.Machine.{Transmit, begins_no_frame, frame_len, same_address, State, Mode, Control, Waiting, Bound, Broken, Stream, Payload, Outcome, Handled, Ignored, PeerData}
use Rattle.turn_client_laws.proofs.Machine.{broken_at, framed_by, framed_stream_step, go_on, is_ready, max_steps, payload_in, poll_recv_step, next_frame_step, first_ready_step, detached_frame_step}
use Rattle.turn_client_laws.proofs.Machine.{steps_until_payload, with_bytes, without_stream, stream_with_piece, connection_gone, first_frame_step, piece_step, stream_step, then_all, packet_step, Call}
use Rattle.turn_client_laws.proofs.Machine.{Recv, PollRecv, Has, has-filter}
use Rattle.turn_client_laws.specs.Handled.{Input, datagram_input, fed_taken, frame_taken, handled, is_front, processed, piece_inputs, poll_recv_inputs, stream_inputs, stream_inputs_taken, taken_first}
use Rattle.turn_client_laws.specs.Handled.{taken_in, taken_of_len, then_taken, stream_input, inputs_taken, unless_given}
use Rattle.turn_client_laws.specs.LawsHandled.{DiffersInStreams, ProcessesInputs, IsBoundAt, TakesInput, InputsLead}
use Rattle.turn_client_laws.proofs.GrantOriginLemmas.{has-mapped}
use Rattle.turn_client_laws.proofs.MoveLemmas.{on_choice}
use Rattle.turn_client_laws.proofs.StandLemmas.{contains-has, has-contains}
use Rattle.turn_client_laws.proofs.PacketLemmas.{packet-by}

-- ---- streams

-- what is bound so was bound so before
abbrev WasBound : Stream → SocketAddr → Stream → Type 0
WasBound x peer y = y.mode ≡ Bound peer → (y.local ≡ x.local) × (x.mode ≡ Bound peer)

bound-mapped : (f : Stream → Stream) → ((x : Stream) (peer : SocketAddr) → WasBound x peer (f x)) → (s : State) (local peer : SocketAddr)
    → IsBoundAt local peer (record s { streams = map f s.streams }) → IsBoundAt local peer s
bound-mapped f keeps s local peer (x, there, at, mode) = by (has-mapped f x s.streams (contains-has x (map f s.streams) there))
  where
    by : (z : Stream) × Has z s.streams × (x ≡ f z) → IsBoundAt local peer s
    by (z, before, e) =
        let (ends, was) = keeps z peer (rw e at mode) in
        (z, has-contains z s.streams before, sym ends ∙ (rw e at at), was)

pub differs-same : (s : State) → DiffersInStreams s s
differs-same s = record { others = refl; bound = λ local peer h. h }

pub differs-trans : (s t u : State) → DiffersInStreams s t → DiffersInStreams t u → DiffersInStreams s u
differs-trans s t u first second = record {
  others = second.others ∙ ap (λ (x : State). record x { streams = u.streams }) first.others;
  bound = λ local peer h. first.bound local peer (second.bound local peer h);
}

pub bytes-differs : (a : SocketAddr) (bytes : List ℕ) (s : State) → DiffersInStreams s (with_bytes a bytes s)
bytes-differs a bytes s = record {
  others = refl;
  bound = bound-mapped _ (λ x peer. on_choice (WasBound x peer) (same_address x.local a) (record x { bytes = bytes }) x (λ e. (refl, e)) (λ e. (refl, e))) s;
}

pub broken-differs : (a : SocketAddr) (s : State) → DiffersInStreams s (broken_at a s)
broken-differs a s = record {
  others = refl;
  bound = bound-mapped _ (λ x peer. on_choice (WasBound x peer) (same_address x.local a) (record x { mode = Broken; bytes = [] }) x (λ e. cc) (λ e. (refl, e))) s;
}

pub dropped-differs : (a : SocketAddr) (s : State) → DiffersInStreams s (without_stream a s)
dropped-differs a s = record { others = refl; bound = by }
  where
    by : (local peer : SocketAddr) → IsBoundAt local peer (without_stream a s) → IsBoundAt local peer s
    by local peer (x, there, at, mode) =
        (x, has-contains x s.streams (has-filter (λ (y : Stream). not (same_address y.local a)) x s.streams (contains-has x _ there)).0, at, mode)

-- ---- inputs in sequence

pub leads-after : (inputs : List Input) (s t u : State) → InputsLead inputs s t → DiffersInStreams t u → InputsLead inputs s u
leads-after [] s t u lead more = differs-trans s t u lead more
leads-after (one ∷ later) s t u (first, lead) more = (first, leads-after later (processed one).1 t u lead more)

leads-before : (inputs : List Input) (s t u : State) → DiffersInStreams s t → InputsLead inputs t u → InputsLead inputs s u
leads-before [] s t u first lead = differs-trans s t u first lead
leads-before (one ∷ later) s t u first (more, lead) = (differs-trans s t one.before first more, lead)

pub leads-append : (front later : List Input) (s t u : State) → InputsLead front s t → InputsLead later t u → InputsLead (front ++ later) s u
leads-append [] later s t u first second = leads-before later s t u first second
leads-append (one ∷ front) later s t u (first, lead) second = (first, leads-append front later (processed one).1 t u lead second)

-- ---- the step of a stream

framed-leads : (l : Bool) (stream : Stream) (now : ℕ) (t : State) → InputsLead (frame_taken l stream now t) t (framed_stream_step stream now t).1
framed-leads l stream now t = by (begins_no_frame stream.bytes) (frame_len stream.bytes)
  where
    by : (b : Bool) (o : Option ℕ) → InputsLead (cond b [] (taken_of_len l stream now t o)) t (cond {A = Outcome × State} b (Handled, broken_at stream.local t) (framed_by stream now t o)).1
    by true o = broken-differs stream.local t
    by false None = bytes-differs stream.local stream.bytes t
    by false (Some len) =
        let one = stream_input l stream (take len stream.bytes) now t in
        (differs-same t, bytes-differs stream.local (drop len stream.bytes) (processed one).1)

detached_in_mode : (m : Mode) (l : Bool) (stream : Stream) (now : ℕ) (t : State)
    → InputsLead (taken_in l (record stream { mode = m }) now t) t (detached_frame_step (record stream { mode = m }) now t).1
detached_in_mode (Bound peer) l stream now t = (differs-same t, differs-same t)
detached_in_mode Broken l stream now t = differs-same t
detached_in_mode m l stream now t = framed-leads l (record stream { mode = m }) now t

step-leads : (l : Bool) (stream : Stream) (now : ℕ) (s : State) → InputsLead (stream_inputs_taken l stream now s) s (next_frame_step stream now s).1
step-leads l stream now s =
    let out = with_bytes stream.local [] s in
    leads-before (taken_in l stream now out) s out (next_frame_step stream now s).1 (bytes-differs stream.local [] s) (detached_in_mode stream.mode l stream now out)

-- ---- all streams

go_on-leads : (next : State → Option Payload × State) (later : State → List Input) (front : List Input) (s : State) (p : Outcome × State) → InputsLead front s p.1
    → ((t : State) → InputsLead (later t) t (next t).1) → InputsLead (front ++ unless_given (payload_in p.0) (later p.1)) s (go_on next p).1
go_on-leads next later front s (PeerData payload, t) first more = leads-append front [] s t t first (differs-same t)
go_on-leads next later front s (_, t) first more = leads-append front (later t) s t (next t).1 first (more t)

pub steps-lead : (n now : ℕ) (s : State) → InputsLead (inputs_taken n now s) s (steps_until_payload n now s).1
unfolding steps_until_payload inputs_taken
steps-lead zero now s = differs-same s
steps-lead (suc n) now s = by (find is_ready s.streams) (λ t. steps-lead n now t)
  where
    by : (o : Option Stream) → ((t : State) → InputsLead (inputs_taken n now t) t (steps_until_payload n now t).1)
        → InputsLead (taken_first (inputs_taken n now) now s o) s (first_ready_step (steps_until_payload n now) now s o).1
    by None more = differs-same s
    by (Some stream) more = go_on-leads (steps_until_payload n now) (inputs_taken n now) (stream_inputs_taken false stream now s) s (next_frame_step stream now s) (step-leads false stream now s) more

poll_recv-leads : (now : ℕ) (s : State) → InputsLead (poll_recv_inputs now s) s (poll_recv_step now s).1
poll_recv-leads now s = steps-lead (max_steps s) now s

-- ---- a piece of a stream

then_all-leads : (now : ℕ) (front : List Input) (s : State) (p : Outcome × State) → InputsLead front s p.1 → InputsLead (front ++ then_taken now p) s (then_all now p).1
then_all-leads now front s (Handled, t) first = leads-append front (poll_recv_inputs now t) s t (poll_recv_step now t).1 first (poll_recv-leads now t)
then_all-leads now front s (Ignored, t) first = leads-append front (poll_recv_inputs now t) s t (poll_recv_step now t).1 first (poll_recv-leads now t)
then_all-leads now front s (_, t) first = leads-append front [] s t t first (differs-same t)

pub fed-leads : (stream : Stream) (piece : List ℕ) (now : ℕ) (s : State) → InputsLead (fed_taken stream piece now s) s (first_frame_step stream piece now s).1
fed-leads stream piece now s = step-leads (is_front stream.bytes) (stream_with_piece stream piece) now s

piece_in_mode : (m : Mode) (stream : Stream) (piece : List ℕ) (now : ℕ) (s : State)
    → InputsLead (piece_inputs (record stream { mode = m }) piece now s) s (piece_step (record stream { mode = m }) piece now s).1
piece_in_mode Control stream piece now s =
    let u = record stream { mode = Control } in
    then_all-leads now (fed_taken u piece now s) s (first_frame_step u piece now s) (fed-leads u piece now s)
piece_in_mode Waiting stream piece now s = fed-leads (record stream { mode = Waiting }) piece now s
piece_in_mode (Bound peer) stream piece now s = fed-leads (record stream { mode = Bound peer }) piece now s
piece_in_mode Broken stream piece now s = by (same_address stream.local s.local)
  where
    by : (b : Bool) → InputsLead (cond b (poll_recv_inputs now s) []) s (cond {A = Outcome × State} b (then_all now (Handled, s)) (Handled, s)).1
    by true = poll_recv-leads now s
    by false = differs-same s

-- ---- input

-- the inputs lead to the state after it, or the stream has ended
abbrev Does : List Input → State → State → Type 0
Does inputs s t = InputsLead inputs s t ⊎ ((local : SocketAddr) × (inputs ≡ []) × (t ≡ without_stream local (connection_gone local s)))

stream-does : (stream : Stream) (piece : List ℕ) (now : ℕ) (s : State) → Does (stream_inputs stream piece now s) s (stream_step stream piece now s).1
stream-does stream [] now s = inr (stream.local, refl, refl)
stream-does stream (b ∷ bs) now s = inl (piece_in_mode stream.mode stream (b ∷ bs) now s)

recv-does : (packet : Transmit (List ℕ)) (now : ℕ) (s : State) → ProcessesInputs (Recv packet now) s
recv-does packet now s = by (
    packet-by (λ s inputs r. Does inputs s r.1) packet.transport packet.from packet.to packet.payload now
    (λ s. inl (differs-same s, differs-same (processed (datagram_input packet.payload now s)).1))
    (λ stream s e. stream-does stream packet.payload now s) (λ s. inl (differs-same s)) s)
  where
    by : Does (handled (Recv packet now) s) s (packet_step packet now s).1 → ProcessesInputs (Recv packet now) s
    by (inl lead) = inl lead
    by (inr (local, nothing, gone)) = inr (record { local = local; nothing = nothing; gone = gone })

pub calls-do : (call : Call) (s : State) → TakesInput call → ProcessesInputs call s
calls-do (Recv packet now) s is = recv-does packet now s
calls-do (PollRecv now) s is = inl (poll_recv-leads now s)
calls-do call s is = absurd is
