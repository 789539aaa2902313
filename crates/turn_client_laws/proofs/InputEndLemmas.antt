-- A call whose memory allocation fails processed the first of its inputs.
use Rattle.turn_client_laws.proofs.Common.{◌≡◌, ◌≢◌, ℕ, zero, suc, ◌≤◌, Bool, true, false, cond, List, [], ◌∷◌, ◌++◌, Option, Some, None, refl, ap, sym, subst, ◌∙◌, inl, inr, arith, IsSomeAnd, find}
use Rattle.turn_client_laws.proofs.Common.{append_assoc, SocketAddr}
use Rattle.turn_client_laws.proofs.Machine.{TransportType, Udp, Tcp, same_address, State, Mode, Control, Broken, Stream, EndsAfterSteps, RecvEnds, before_others, takes_no_memory, closed, Payload}
use Rattle.turn_client_laws.proofs.Machine.{Outcome, Handled, Ignored, broken_at, is_ready, max_steps, payload_in, stream_at, next_frame_step, first_frame_step, is_from_server, EndsWithoutMemory}
use Rattle.turn_client_laws.proofs.Machine.{Call, Recv, PollRecv}
use Rattle.turn_client_laws.specs.Handled.{Input, fed_taken, handled, piece_inputs, poll_recv_inputs, recv_inputs, stream_inputs, stream_inputs_taken, taken_first, then_taken, inputs_taken}
use Rattle.turn_client_laws.specs.Handled.{unless_given}
use Rattle.turn_client_laws.specs.LawsHandled.{EndsAmidInputs, TakesInput, InputsLead}
use Rattle.turn_client_laws.proofs.StreamDrainLemmas.{step-lighter}
use Rattle.turn_client_laws.proofs.MemoryLemmas.{behind}
use Rattle.turn_client_laws.proofs.StreamWeightLemmas.{weight, weight-le}
use Rattle.turn_client_laws.proofs.InputChainLemmas.{broken-differs, fed-leads, leads-after, leads-append, steps-lead}

-- these inputs are the first of those
abbrev IsFrontOf : List Input → List Input → Type 0
IsFrontOf front all = (later : List Input) × (all ≡ front ++ later)

front-append : (first front all : List Input) → IsFrontOf front all → IsFrontOf (first ++ front) (first ++ all)
front-append first front all (later, e) = (later, ap (λ ts. first ++ ts) e ∙ sym (append_assoc first front later))

front-given : (o : Option Payload) (front all : List Input) → IsFrontOf front all → IsFrontOf (unless_given o front) (unless_given o all)
front-given None front all h = h
front-given (Some payload) front all h = ([], refl)

-- no number of steps goes on after as many steps as the streams have weight
taken-front : (n m now : ℕ) (s : State) → weight s.streams ≤ m → IsFrontOf (inputs_taken n now s) (inputs_taken m now s)
unfolding inputs_taken
taken-front zero m now s h = (inputs_taken m now s, refl)
taken-front (suc n) zero now s h = by (find is_ready s.streams) refl
  where
    by : (o : Option Stream) → find is_ready s.streams ≡ o → IsFrontOf (taken_first (inputs_taken n now) now s o) []
    by None e = ([], refl)
    by (Some stream) e = let less = step-lighter stream now s e in absurd (omega (arith, less, h))
taken-front (suc n) (suc m) now s h = by (find is_ready s.streams) refl (λ t less. taken-front n m now t less)
  where
    by : (o : Option Stream) → find is_ready s.streams ≡ o → ((t : State) → weight t.streams ≤ m → IsFrontOf (inputs_taken n now t) (inputs_taken m now t))
        → IsFrontOf (taken_first (inputs_taken n now) now s o) (taken_first (inputs_taken m now) now s o)
    by None e more = ([], refl)
    by (Some stream) e more =
        let less = step-lighter stream now s e in
        let next = (next_frame_step stream now s).1 in
        front-append (stream_inputs_taken false stream now s) _ _
        (front-given (payload_in (next_frame_step stream now s).0) (inputs_taken n now next) (inputs_taken m now next) (more next (omega (arith, less, h))))

-- the first of these inputs were processed, and the client has ended then
abbrev Ends : List Input → State → State → Type 0
Ends all s t = (front : List Input) × IsFrontOf front all × ((last : State) × InputsLead front s last × (t ≡ closed last))

steps-end : (now : ℕ) (s t : State) → EndsAfterSteps now s t → Ends (poll_recv_inputs now s) s t
steps-end now s t (u, (n, led), broken) = by (find is_ready u.streams) broken
  where
    there : InputsLead (inputs_taken n now s) s u
    there = subst (λ (p : Option Payload × State). InputsLead (inputs_taken n now s) s p.1) led (steps-lead n now s)

    by : (o : Option Stream) → IsSomeAnd o (λ stream. t ≡ closed (broken_at stream.local u)) → Ends (poll_recv_inputs now s) s t
    by None none = absurd none
    by (Some stream) e = (
      inputs_taken n now s,
      taken-front n (max_steps s) now s (weight-le s.streams),
      (broken_at stream.local u, leads-after (inputs_taken n now s) s u (broken_at stream.local u) there (broken-differs stream.local u), e),
    )

-- with these inputs first
ends-append : (first all : List Input) (s t u : State) → InputsLead first s u → Ends all u t → Ends (first ++ all) s t
ends-append first all s t u lead (front, is, (last, more, e)) = (first ++ front, front-append first front all is, (last, leads-append first front s u last lead more, e))

-- ---- a piece of a stream

-- the state in which all streams are processed, if these are
abbrev EndsFrom : ℕ → State → Option State → Type 0
EndsFrom now t o = IsSomeAnd o (λ u. EndsAfterSteps now u t)

control-end : (now : ℕ) (first : List Input) (s t : State) (p : Outcome × State) → InputsLead first s p.1 → EndsFrom now t (behind p) → Ends (first ++ then_taken now p) s t
unfolding behind
control-end now first s t (Handled, u) lead end = ends-append first (poll_recv_inputs now u) s t u lead (steps-end now u t end)
control-end now first s t (Ignored, u) lead end = ends-append first (poll_recv_inputs now u) s t u lead (steps-end now u t end)
control-end now first s t (_, u) lead end = absurd end

piece_in_mode : (to : SocketAddr) (m : Mode) (stream : Stream) (piece : List ℕ) (now : ℕ) (s t : State) → stream_at to s ≡ Some (record stream { mode = m })
    → EndsFrom now t (before_others to piece now s) → Ends (piece_inputs (record stream { mode = m }) piece now s) s t
unfolding behind
piece_in_mode to Control stream piece now s t f end =
    let u = record stream { mode = Control } in
    control-end now (fed_taken u piece now s) s t (first_frame_step u piece now s) (fed-leads u piece now s) (rw f at end)
piece_in_mode to Broken stream piece now s t f end = by (same_address stream.local s.local) (rw f at end)
  where
    by : (b : Bool) → EndsFrom now t (cond b (Some s) None) → Ends (cond b (poll_recv_inputs now s) []) s t
    by true h = steps-end now s t h
    by false h = absurd h
piece_in_mode to m stream piece now s t f end = absurd (rw f at end)

stream-end : (to : SocketAddr) (stream : Stream) (piece : List ℕ) (now : ℕ) (s t : State) → piece ≢ [] → stream_at to s ≡ Some stream → EndsFrom now t (before_others to piece now s)
    → Ends (stream_inputs stream piece now s) s t
stream-end to stream [] now s t some f end = absurd (some refl)
stream-end to stream (b ∷ bs) now s t some f end = piece_in_mode to stream.mode stream (b ∷ bs) now s t f end

-- ---- input

broken-end : (all : List Input) (to : SocketAddr) (s t : State) → t ≡ closed (broken_at to s) → Ends all s t
broken-end all to s t e = ([], (all, refl), (broken_at to s, broken-differs to s, e))

no_stream : (to : SocketAddr) (piece : List ℕ) (now : ℕ) (s t : State) → stream_at to s ≡ None → EndsFrom now t (before_others to piece now s) → ⊥
no_stream to piece now s t f end = rw f at end

recv_over : (carrier : TransportType) (transport : TransportType) (from to : SocketAddr) (piece : List ℕ) (now : ℕ) (s t : State)
    → takes_no_memory transport from to piece (record s { transport = carrier }) ≡ false → RecvEnds to piece now (record s { transport = carrier }) t
    → Ends (recv_inputs transport from to piece now (record s { transport = carrier })) (record s { transport = carrier }) t
recv_over carrier transport from to piece now s t asks (inl e) = broken-end _ to (record s { transport = carrier }) t e
recv_over Udp transport from to piece now s t asks (inr (over, some, end)) = cc
recv_over Tcp transport from to piece now s t asks (inr (over, some, end)) = by (is_from_server transport from u) refl (stream_at to s) refl
  where
    u : State
    u = record s { transport = Tcp }

    by : (b : Bool) → is_from_server transport from u ≡ b → (o : Option Stream) → stream_at to s ≡ o → Ends (recv_inputs transport from to piece now u) u t
    by false e o f = let clash : true ≡ false = rw e at asks in cc
    by true e None f = absurd (no_stream to piece now u t f end)
    by true e (Some stream) f = rw (e, f) (stream-end to stream piece now u t some f end)

ends-in : (call : Call) (s t : State) → Ends (handled call s) s t → EndsAmidInputs call s t
ends-in call s t (front, (later, e), (last, lead, ended)) = record {
  front = front;
  later = later;
  all = e;
  last = last;
  lead = lead;
  ended = ended;
}

pub calls-end : (call : Call) (s t : State) → TakesInput call → EndsWithoutMemory call s t → EndsAmidInputs call s t
calls-end (Recv packet now) s t is (asks, end) = ends-in (Recv packet now) s t (recv_over s.transport packet.transport packet.from packet.to packet.payload now s t asks end)
calls-end (PollRecv now) s t is end = ends-in (PollRecv now) s t (steps-end now s t end)
calls-end call s t is end = absurd is
