-- The payloads that a call returns are those of its inputs.
use Rattle.turn_client_laws.proofs.Common.{◌≡◌, ℕ, zero, suc, Bool, true, false, cond, List, [], ◌∷◌, ◌++◌, take, Option, Some, None, refl, sym, subst, ap, ◌∙◌, inl, inr, find, option_to_list, ⊤}
use Rattle.turn_client_laws.proofs.Common.{option_map_or, filter_map-append, SocketAddr, cases_Bool}
use Rattle.turn_client_laws.proofs.Machine.{Transmit, begins_no_frame, frame_len, same_address, State, Mode, Control, Waiting, Bound, Broken, Stream, Payload, Outcome, Handled, Ignored, PeerData}
use Rattle.turn_client_laws.proofs.Machine.{PeerIcmp, broken_at, framed_by, framed_stream_step, go_on, is_ready, max_steps, owned, payload_in, poll_recv_step, next_frame_step, detached_frame_step}
use Rattle.turn_client_laws.proofs.Machine.{steps_until_payload, with_bytes, stream_with_piece, first_frame_step, piece_step, place_kept, stream_step, then_all, packet_step, Call, PollRecv, Recv, Has}
use Rattle.turn_client_laws.proofs.Machine.{has-filter_map, has-left, cases_Option}
use Rattle.turn_client_laws.specs.Handled.{Input, datagram_input, fed_taken, frame_taken, handled, is_front, processed, payloads, piece_inputs, poll_recv_inputs, stream_inputs, stream_inputs_taken}
use Rattle.turn_client_laws.specs.Handled.{taken_in, taken_of_len, then_taken, stream_input, input_payload, inputs_taken, unless_given}
use Rattle.turn_client_laws.specs.LawsPeers.{IsDeliveredByInput, IsPermittedInput, IsReportedBy}
use Rattle.turn_client_laws.proofs.StandLemmas.{has-contains}
use Rattle.turn_client_laws.proofs.PeerLemmas.{datagram-IsMessageFromPermitted, frame-IsFromPermitted}
use Rattle.turn_client_laws.proofs.PacketLemmas.{packet-by}

-- these inputs return what the outcome has, and no more
abbrev AreOf : List Input → Outcome → Type 0
AreOf inputs o = payloads inputs ≡ option_to_list (payload_in o)

one-AreOf : (t : Input) → payloads (t ∷ []) ≡ option_to_list (input_payload t)
one-AreOf t = elim (cases_Option (input_payload t)) [ inl e ↦ rw e refl | inr (payload, e) ↦ rw e refl ]

payloads-append : (front later : List Input) → payloads (front ++ later) ≡ payloads front ++ payloads later
payloads-append front later = filter_map-append input_payload front later

-- ---- the step of a stream

abbrev given : Bool → Outcome → Outcome
given is_lent o = cond is_lent o (owned o)

handled-AreOf : (is_lent : Bool) → AreOf [] (given is_lent Handled)
handled-AreOf true = refl
handled-AreOf false = refl

frame-AreOf : (is_lent : Bool) (stream : Stream) (now : ℕ) (t : State) (o : Option ℕ) → AreOf (taken_of_len is_lent stream now t o) (given is_lent (framed_by stream now t o).0)
frame-AreOf is_lent stream now t None = handled-AreOf is_lent
frame-AreOf is_lent stream now t (Some len) = one-AreOf (stream_input is_lent stream (take len stream.bytes) now t)

framed-AreOf : (is_lent : Bool) (stream : Stream) (now : ℕ) (t : State) → AreOf (frame_taken is_lent stream now t) (given is_lent (framed_stream_step stream now t).0)
framed-AreOf is_lent stream now t = by (begins_no_frame stream.bytes) (frame_len stream.bytes)
  where
    by : (b : Bool) (o : Option ℕ) → AreOf (cond b [] (taken_of_len is_lent stream now t o))
        (given is_lent (cond {A = Outcome × State} b (Handled, broken_at stream.local t) (framed_by stream now t o)).0)
    by true o = handled-AreOf is_lent
    by false o = frame-AreOf is_lent stream now t o

detached_in_mode : (m : Mode) (stream : Stream) (now : ℕ) (t : State) → AreOf (taken_in false (record stream { mode = m }) now t) (owned (detached_frame_step (record stream { mode = m }) now t).0)
detached_in_mode (Bound peer) stream now t = refl
detached_in_mode Broken stream now t = refl
detached_in_mode m stream now t = framed-AreOf false (record stream { mode = m }) now t

step-AreOf : (stream : Stream) (now : ℕ) (s : State) → AreOf (stream_inputs_taken false stream now s) (owned (next_frame_step stream now s).0)
step-AreOf stream now s = detached_in_mode stream.mode stream now (with_bytes stream.local [] s)

-- ---- all streams

-- what inputs return, until a payload
abbrev Gives : List Input → Option Payload × State → Type 0
Gives inputs p = payloads inputs ≡ option_to_list p.0

go_on-Gives : (next : State → Option Payload × State) (later : State → List Input) (front : List Input) (p : Outcome × State) → AreOf front (owned p.0) → ((t : State) → Gives (later t) (next t))
    → Gives (front ++ unless_given (payload_in p.0) (later p.1)) (go_on next p)
go_on-Gives next later front (PeerData payload, t) first more = payloads-append front [] ∙ ap (λ ps. ps ++ []) first
go_on-Gives next later front (_, t) first more = payloads-append front (later t) ∙ (ap (λ ps. ps ++ payloads (later t)) first ∙ more t)

steps-Gives : (n now : ℕ) (s : State) → Gives (inputs_taken n now s) (steps_until_payload n now s)
unfolding steps_until_payload inputs_taken
steps-Gives zero now s = refl
steps-Gives (suc n) now s = elim (cases_Option (find is_ready s.streams)) [
  | inl e ↦ rw e refl
  | inr (stream, e) ↦
      rw e
      (go_on-Gives (steps_until_payload n now) (inputs_taken n now) (stream_inputs_taken false stream now s) (next_frame_step stream now s) (step-AreOf stream now s) (steps-Gives n now))
]

pub poll_recv-Gives : (now : ℕ) (s : State) → payloads (poll_recv_inputs now s) ≡ option_to_list (poll_recv_step now s).0
poll_recv-Gives now s = steps-Gives (max_steps s) now s

-- ---- a piece of a stream

-- a payload replaces the result
others-AreOf : (now : ℕ) (t : State) (o : Outcome) → payload_in o ≡ None → AreOf (poll_recv_inputs now t) (option_map_or PeerData (poll_recv_step now t).0 o)
others-AreOf now t o none = poll_recv-Gives now t ∙ elim (cases_Option (poll_recv_step now t).0) [
  | inl e ↦ rw e (ap option_to_list (sym none))
  | inr (payload, e) ↦ rw e refl
]

then_all-AreOf : (now : ℕ) (front : List Input) (p : Outcome × State) → AreOf front p.0 → AreOf (front ++ then_taken now p) (then_all now p).0
then_all-AreOf now front (Handled, t) first =
    payloads-append front (poll_recv_inputs now t) ∙ (ap (λ ps. ps ++ payloads (poll_recv_inputs now t)) first ∙ others-AreOf now t Handled refl)
then_all-AreOf now front (Ignored, t) first =
    payloads-append front (poll_recv_inputs now t) ∙ (ap (λ ps. ps ++ payloads (poll_recv_inputs now t)) first ∙ others-AreOf now t Ignored refl)
then_all-AreOf now front (_, t) first = payloads-append front [] ∙ ap (λ ps. ps ++ []) first

kept-given : (waited : List ℕ) (o : Outcome) → given (is_front waited) o ≡ place_kept waited o
kept-given [] o = refl
kept-given (b ∷ bs) o = refl

framed-fed : (stream : Stream) (piece : List ℕ) (now : ℕ) (t : State) → AreOf (frame_taken (is_front stream.bytes) (stream_with_piece stream piece) now t)
    (place_kept stream.bytes (framed_stream_step (stream_with_piece stream piece) now t).0)
framed-fed stream piece now t =
    framed-AreOf (is_front stream.bytes) (stream_with_piece stream piece) now t
    ∙ ap (λ o. option_to_list (payload_in o)) (kept-given stream.bytes (framed_stream_step (stream_with_piece stream piece) now t).0)

bound-AreOf : (peer : SocketAddr) (waited piece : List ℕ) (stream : Stream) (now : ℕ) (s : State)
    → AreOf (piece_inputs (record stream { mode = Bound peer; bytes = waited }) piece now s) (piece_step (record stream { mode = Bound peer; bytes = waited }) piece now s).0
bound-AreOf peer [] piece stream now s = refl
bound-AreOf peer (b ∷ bs) piece stream now s = refl

piece_in_mode : (m : Mode) (stream : Stream) (piece : List ℕ) (now : ℕ) (s : State)
    → AreOf (piece_inputs (record stream { mode = m }) piece now s) (piece_step (record stream { mode = m }) piece now s).0
piece_in_mode Control stream piece now s =
    let u = record stream { mode = Control } in
    then_all-AreOf now (fed_taken u piece now s) (first_frame_step u piece now s) (framed-fed u piece now (with_bytes stream.local [] s))
piece_in_mode Waiting stream piece now s = framed-fed (record stream { mode = Waiting }) piece now (with_bytes stream.local [] s)
piece_in_mode (Bound peer) stream piece now s = bound-AreOf peer stream.bytes piece stream now s
piece_in_mode Broken stream piece now s = elim (cases_Bool (same_address stream.local s.local)) [ inl e ↦ rw e (others-AreOf now s Handled refl) | inr e ↦ rw e refl ]

stream-AreOf : (stream : Stream) (piece : List ℕ) (now : ℕ) (s : State) → AreOf (stream_inputs stream piece now s) (stream_step stream piece now s).0
stream-AreOf stream [] now s = refl
stream-AreOf stream (b ∷ bs) now s = piece_in_mode stream.mode stream (b ∷ bs) now s

-- ---- input

pub recv-AreOf : (packet : Transmit (List ℕ)) (now : ℕ) (s : State) → payloads (handled (Recv packet now) s) ≡ option_to_list (payload_in (packet_step packet now s).0)
recv-AreOf packet now =
    packet-by (λ s inputs r. AreOf inputs r.0) packet.transport packet.from packet.to packet.payload now (λ s. one-AreOf (datagram_input packet.payload now s))
    (λ stream s e. stream-AreOf stream packet.payload now s) (λ s. refl)

-- ---- its sender

pub input-IsFromPermitted : (t : Input) → IsPermittedInput t
input-IsFromPermitted t = by t.stream t
  where
    by : (o : Option Stream) (t : Input) → IsPermittedInput (record t { stream = o })
    by None t = datagram-IsMessageFromPermitted t.bytes t.time t.before
    by (Some stream) t = frame-IsFromPermitted stream t.bytes t.time t.before

-- ---- the input that returns it

given-by : (call : Call) (s : State) (o : Option Payload) → payloads (handled call s) ≡ option_to_list o → IsDeliveredByInput o call s
given-by call s None e = tt
given-by call s (Some payload) e =
    let (one, there, gives) = has-filter_map input_payload payload (handled call s) (subst (Has payload) (sym e) (inl refl)) in
    (one, has-contains one (handled call s) there, (gives, input-IsFromPermitted one))

pub recv-IsGivenBy : (packet : Transmit (List ℕ)) (now : ℕ) (s : State) → IsDeliveredByInput (payload_in (packet_step packet now s).0) (Recv packet now) s
recv-IsGivenBy packet now s = given-by (Recv packet now) s (payload_in (packet_step packet now s).0) (recv-AreOf packet now s)

pub poll_recv-IsGivenBy : (now : ℕ) (s : State) → IsDeliveredByInput (poll_recv_step now s).0 (PollRecv now) s
poll_recv-IsGivenBy now s = given-by (PollRecv now) s (poll_recv_step now s).0 (poll_recv-Gives now s)

-- ---- ICMP reports

abbrev IsIcmp : Outcome → Type 0
IsIcmp (PeerIcmp transport peer icmp) = ⊤
IsIcmp _ = ⊥

-- if the outcome is an ICMP report, one of these inputs returns it
abbrev Reports : List Input → Outcome → Type 0
Reports inputs o = IsIcmp o → (one : Input) × Has one inputs × ((processed one).0 ≡ o)

reports-kept : (waited : List ℕ) (inputs : List Input) (o : Outcome) → Reports inputs o → Reports inputs (place_kept waited o)
reports-kept [] inputs o reports = reports
reports-kept (b ∷ bs) inputs (PeerIcmp transport peer icmp) reports = reports
reports-kept (b ∷ bs) inputs o reports = λ h. absurd h

framed-reports : (is_lent : Bool) (stream : Stream) (now : ℕ) (t : State) → Reports (frame_taken is_lent stream now t) (framed_stream_step stream now t).0
framed-reports is_lent stream now t = by (begins_no_frame stream.bytes) (frame_len stream.bytes)
  where
    by : (b : Bool) (o : Option ℕ) → Reports (cond b [] (taken_of_len is_lent stream now t o)) (cond {A = Outcome × State} b (Handled, broken_at stream.local t) (framed_by stream now t o)).0
    by false (Some len) h = (stream_input is_lent stream (take len stream.bytes) now t, inl refl, refl)
    by b o h = absurd h

fed-reports : (stream : Stream) (piece : List ℕ) (now : ℕ) (t : State) → Reports (frame_taken (is_front stream.bytes) (stream_with_piece stream piece) now t)
    (place_kept stream.bytes (framed_stream_step (stream_with_piece stream piece) now t).0)
fed-reports stream piece now t =
    reports-kept stream.bytes _ (framed_stream_step (stream_with_piece stream piece) now t).0 (framed-reports (is_front stream.bytes) (stream_with_piece stream piece) now t)

-- what all streams return is no ICMP report
no-icmp : (o : Option Payload) (p : Outcome) → (IsIcmp p → ⊥) → IsIcmp (option_map_or PeerData o p) → ⊥
no-icmp None p no_more h = no_more h
no-icmp (Some payload) p no_more h = h

then_all-reports : (now : ℕ) (front : List Input) (p : Outcome × State) → Reports front p.0 → Reports (front ++ then_taken now p) (then_all now p).0
then_all-reports now front (PeerData payload, t) first h = absurd h
then_all-reports now front (PeerIcmp transport peer icmp, t) first h = let (one, there, is) = first h in (one, has-left one front [] there, is)
then_all-reports now front (outcome, t) first h = absurd (no-icmp (poll_recv_step now t).0 outcome (λ k. k) h)

piece-reports : (m : Mode) (stream : Stream) (piece : List ℕ) (now : ℕ) (s : State)
    → Reports (piece_inputs (record stream { mode = m }) piece now s) (piece_step (record stream { mode = m }) piece now s).0
piece-reports Control stream piece now s =
    let u = record stream { mode = Control } in
    then_all-reports now (fed_taken u piece now s) (first_frame_step u piece now s) (fed-reports u piece now (with_bytes stream.local [] s))
piece-reports Waiting stream piece now s = fed-reports (record stream { mode = Waiting }) piece now (with_bytes stream.local [] s)
piece-reports (Bound peer) stream piece now s = λ h. absurd h
piece-reports Broken stream piece now s = by (same_address stream.local s.local)
  where
    by : (b : Bool) → Reports (cond b (poll_recv_inputs now s) []) (cond {A = Outcome × State} b (then_all now (Handled, s)) (Handled, s)).0
    by true h = absurd (no-icmp (poll_recv_step now s).0 Handled (λ k. k) h)
    by false h = absurd h

stream-reports : (stream : Stream) (piece : List ℕ) (now : ℕ) (s : State) → Reports (stream_inputs stream piece now s) (stream_step stream piece now s).0
stream-reports stream [] now s h = absurd h
stream-reports stream (b ∷ bs) now s h = piece-reports stream.mode stream (b ∷ bs) now s h

reported : (call : Call) (s : State) (o : Outcome) → Reports (handled call s) o → IsReportedBy o call s
reported call s (PeerIcmp transport peer icmp) reports = let (one, there, is) = reports tt in (one, has-contains one (handled call s) there, (is, input-IsFromPermitted one))
reported call s o reports = tt

pub recv-IsReportedBy : (packet : Transmit (List ℕ)) (now : ℕ) (s : State) → IsReportedBy (packet_step packet now s).0 (Recv packet now) s
recv-IsReportedBy packet now s = reported (Recv packet now) s (packet_step packet now s).0 (
    packet-by (λ s inputs r. Reports inputs r.0) packet.transport packet.from packet.to packet.payload now
    (λ s h. (datagram_input packet.payload now s, inl refl, refl)) (λ stream s e. stream-reports stream packet.payload now s) (λ s h. absurd h) s)
