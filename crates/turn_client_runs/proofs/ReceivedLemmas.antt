-- What the streams of a client hold was received by `recv`.
use Rattle.turn_client_laws.proofs.Common.{◌≡◌, ◌∙◌, ◌++◌, ℕ, zero, suc, Bool, true, false, cond, List, [], ◌∷◌, map, filter, Option, Some, None, refl, sym, subst, ap, inl, inr, cases_Bool, drop}
use Rattle.turn_client_laws.proofs.Common.{find, is_some, take, SocketAddr}
use Rattle.turn_client_laws.proofs.Machine.{begins_no_frame, frame_len, same_address, State, Mode, Control, Waiting, Bound, Broken, Stream, with_stream, connection_at, stream_with_piece, Payload}
use Rattle.turn_client_laws.proofs.Machine.{Outcome, Handled, Ignored, PeerData, connection_gone, first_frame_step, piece_step, stream_step, then_all, broken_at, frame_step, framed_by}
use Rattle.turn_client_laws.proofs.Machine.{framed_stream_step, go_on, is_ready, max_steps, payload_in, poll_recv_step, next_frame_step, first_ready_step, detached_frame_step, steps_until_payload}
use Rattle.turn_client_laws.proofs.Machine.{with_bytes, without_stream, same_address-true, Has, has-append, has-filter, has-found}
use Rattle.turn_client_laws.proofs.Laws.{Input, fed_taken, frame_taken, is_front, piece_inputs, poll_recv_inputs, stream_inputs, stream_inputs_taken, taken_first, taken_in, taken_of_len, then_taken}
use Rattle.turn_client_laws.proofs.Laws.{inputs_taken, unless_given, has-mapped, on_test, broken_by, bytes_by, mode_by, Rebound, frame-rebound}
use Rattle.turn_client_runs.specs.Received.{unless_broken}
use Rattle.turn_client_laws.proofs.MoveLemmas.{by_test}

-- for bytes at a local address: the rest of what is known is known
module _ (Known : SocketAddr → List ℕ → Type 0) (none : (a : SocketAddr) → Known a []) (less : (a : SocketAddr) (n : ℕ) (bytes : List ℕ) → Known a bytes → Known a (drop n bytes)) where
  abbrev pub AllKnown : List Stream → Type 0
  AllKnown xs = (x : Stream) → Has x xs → Known x.local x.bytes

  -- those at other local addresses
  abbrev pub OthersKnown : SocketAddr → List Stream → Type 0
  OthersKnown a xs = (x : Stream) → Has x xs → same_address x.local a ≡ false → Known x.local x.bytes

  pub all-others : (a : SocketAddr) (xs : List Stream) → AllKnown xs → OthersKnown a xs
  all-others a xs all x there differ = all x there

  mapped-known : (f : Stream → Stream) (xs : List Stream) → ((x : Stream) → Has x xs → Known (f x).local (f x).bytes) → AllKnown (map f xs)
  mapped-known f xs each y there =
      let (x, before, e) = has-mapped f y xs there in
      subst (λ (z : Stream). Known z.local z.bytes) (sym e) (each x before)

  pub bytes-known : (a : SocketAddr) (bytes : List ℕ) (s : State) → Known a bytes → OthersKnown a s.streams → AllKnown (with_bytes a bytes s).streams
  unfolding bytes_by
  bytes-known a bytes s is others = mapped-known (bytes_by a bytes) s.streams (λ x there. elim (cases_Bool (same_address x.local a)) [
    | inl e ↦ rw e (subst (λ (l : SocketAddr). Known l bytes) (sym (same_address-true x.local a e)) is)
    | inr e ↦ rw e (others x there e)
  ])

  broken-known : (a : SocketAddr) (s : State) → AllKnown s.streams → AllKnown (broken_at a s).streams
  unfolding broken_by
  broken-known a s all = mapped-known (broken_by a) s.streams (λ x there.
      elim (same_address x.local a) as (λ b. let y = cond b (record x { mode = Broken; bytes = [] }) x in Known y.local y.bytes) [
        | true ↦ none x.local
        | false ↦ all x there
      ])

  mode-known : (a : SocketAddr) (mode : Mode) (xs : List Stream) → AllKnown xs → AllKnown (map (mode_by a mode) xs)
  unfolding mode_by
  mode-known a mode xs all = mapped-known (mode_by a mode) xs (λ x there.
      elim (same_address x.local a) as (λ b. let y = cond b (record x { mode = mode }) x in Known y.local y.bytes) [ true ↦ all x there | false ↦ all x there ])

  rebound-known : (s t : State) → Rebound s t → AllKnown s.streams → AllKnown t.streams
  unfolding mode_by
  rebound-known s t (inl same) all = subst AllKnown (sym same) all
  rebound-known s t (inr (a, peer, is)) all = subst AllKnown (sym is) (mode-known a (Bound peer) s.streams all)

  pub filter-known : (p : Stream → Bool) (xs : List Stream) → AllKnown xs → AllKnown (filter p xs)
  filter-known p xs all x there = all x (has-filter p x xs there).0

  -- ---- the step of a stream

  framed-known : (stream : Stream) (now : ℕ) (t : State) → Known stream.local stream.bytes → AllKnown t.streams → (o : Option ℕ) → AllKnown (framed_by stream now t o).1.streams
  framed-known stream now t is all None = bytes-known stream.local stream.bytes t is (all-others stream.local t.streams all)
  framed-known stream now t is all (Some len) =
      let u = (frame_step stream (take len stream.bytes) now t).1 in
      bytes-known stream.local (drop len stream.bytes) u (less stream.local len stream.bytes is)
      (all-others stream.local u.streams (rebound-known t u (frame-rebound stream (take len stream.bytes) now t) all))

  front-known : (stream : Stream) (now : ℕ) (t : State) → Known stream.local stream.bytes → AllKnown t.streams → AllKnown (framed_stream_step stream now t).1.streams
  front-known stream now t is all =
      by_test (λ u. AllKnown u.streams) (begins_no_frame stream.bytes) (Handled, broken_at stream.local t) _ (broken-known stream.local t all)
      (framed-known stream now t is all (frame_len stream.bytes))

  detached-known : (m : Mode) (stream : Stream) (now : ℕ) (t : State) → Known stream.local stream.bytes
      → AllKnown t.streams → AllKnown (detached_frame_step (record stream { mode = m }) now t).1.streams
  detached-known (Bound peer) stream now t is all = all
  detached-known Broken stream now t is all = all
  detached-known m stream now t is all = front-known (record stream { mode = m }) now t is all

  step-known : (stream : Stream) (now : ℕ) (s : State) → Known stream.local stream.bytes → OthersKnown stream.local s.streams → AllKnown (next_frame_step stream now s).1.streams
  step-known stream now s is others = detached-known stream.mode stream now (with_bytes stream.local [] s) is (bytes-known stream.local [] s (none stream.local) others)

  -- ---- the inputs of a call

  -- for what its stream holds
  abbrev pub KnownInput : Input → Type 0
  KnownInput one = (stream : Stream) → one.stream ≡ Some stream → Known stream.local stream.bytes

  abbrev pub KnownInputs : List Input → Type 0
  KnownInputs inputs = (one : Input) → Has one inputs → KnownInput one

  no-inputs : KnownInputs []
  no-inputs one there = absurd there

  one-input : (one : Input) (stream : Stream) → one.stream ≡ Some stream → Known stream.local stream.bytes → KnownInputs (one ∷ [])
  one-input one stream of is x (inl same) other e =
      let here : stream ≡ other = cc (sym of ∙ (sym (ap (λ (y : Input). y.stream) same) ∙ e)) in
      subst (λ (z : Stream). Known z.local z.bytes) here is
  one-input one stream of is x (inr absent) other e = absurd absent

  joined-inputs : (xs ys : List Input) → KnownInputs xs → KnownInputs ys → KnownInputs (xs ++ ys)
  joined-inputs xs ys k l one there = elim (has-append one xs ys there) [ inl h ↦ k one h | inr h ↦ l one h ]

  len-inputs : (is_lent : Bool) (stream : Stream) (now : ℕ) (t : State) → Known stream.local stream.bytes → (o : Option ℕ) → KnownInputs (taken_of_len is_lent stream now t o)
  len-inputs is_lent stream now t is None = no-inputs
  len-inputs is_lent stream now t is (Some len) = one-input _ stream refl is

  frame-inputs : (is_lent : Bool) (stream : Stream) (now : ℕ) (t : State) → Known stream.local stream.bytes → KnownInputs (frame_taken is_lent stream now t)
  frame-inputs is_lent stream now t is =
      elim (begins_no_frame stream.bytes) as (λ b. KnownInputs (cond b [] (taken_of_len is_lent stream now t (frame_len stream.bytes)))) [
        | true ↦ no-inputs
        | false ↦ len-inputs is_lent stream now t is (frame_len stream.bytes)
      ]

  mode-inputs : (m : Mode) (is_lent : Bool) (stream : Stream) (now : ℕ) (t : State) → Known stream.local stream.bytes → KnownInputs (taken_in is_lent (record stream { mode = m }) now t)
  mode-inputs (Bound peer) is_lent stream now t is = one-input _ (record stream { mode = Bound peer }) refl is
  mode-inputs Broken is_lent stream now t is = no-inputs
  mode-inputs m is_lent stream now t is = frame-inputs is_lent (record stream { mode = m }) now t is

  taken-inputs : (is_lent : Bool) (stream : Stream) (now : ℕ) (s : State) → Known stream.local stream.bytes → KnownInputs (stream_inputs_taken is_lent stream now s)
  taken-inputs is_lent stream now s is = mode-inputs stream.mode is_lent stream now (with_bytes stream.local [] s) is

  -- what the call processes is known, and so is what its streams hold after it
  abbrev pub Goes : List Input → State → Type 0
  Goes inputs t = KnownInputs inputs × AllKnown t.streams

  go_on-known : (next : State → Option Payload × State) (later : State → List Input) (front : List Input) (p : Outcome × State) → Goes front p.1
      → ((t : State) → AllKnown t.streams → Goes (later t) (next t).1)
      → Goes (front ++ unless_given (payload_in p.0) (later p.1)) (go_on next p).1
  go_on-known next later front (PeerData payload, t) first more = (joined-inputs front [] first.0 no-inputs, first.1)
  go_on-known next later front (_, t) first more = let rest = more t first.1 in (joined-inputs front (later t) first.0 rest.0, rest.1)

  steps-known : (n now : ℕ) (s : State) → AllKnown s.streams → Goes (inputs_taken n now s) (steps_until_payload n now s).1
  unfolding inputs_taken steps_until_payload
  steps-known zero now s all = (no-inputs, all)
  steps-known (suc n) now s all = by (find is_ready s.streams) refl (λ t known. steps-known n now t known)
    where
      by : (o : Option Stream) → find is_ready s.streams ≡ o → ((t : State) → AllKnown t.streams → Goes (inputs_taken n now t) (steps_until_payload n now t).1)
          → Goes (taken_first (inputs_taken n now) now s o) (first_ready_step (steps_until_payload n now) now s o).1
      by None e more = (no-inputs, all)
      by (Some stream) e more =
          let is = all stream (has-found is_ready stream s.streams e).0 in
          go_on-known (steps_until_payload n now) (inputs_taken n now) (stream_inputs_taken false stream now s) (next_frame_step stream now s)
          (taken-inputs false stream now s is, step-known stream now s is (all-others stream.local s.streams all)) more

  pub poll-known : (now : ℕ) (s : State) → AllKnown s.streams → Goes (poll_recv_inputs now s) (poll_recv_step now s).1
  poll-known now s all = steps-known (max_steps s) now s all

  -- ---- a piece

  then-known : (now : ℕ) (front : List Input) (p : Outcome × State) → Goes front p.1 → Goes (front ++ then_taken now p) (then_all now p).1
  then-known now front (Handled, t) first = let rest = poll-known now t first.1 in (joined-inputs front (poll_recv_inputs now t) first.0 rest.0, rest.1)
  then-known now front (Ignored, t) first = let rest = poll-known now t first.1 in (joined-inputs front (poll_recv_inputs now t) first.0 rest.0, rest.1)
  then-known now front (_, t) first = (joined-inputs front [] first.0 no-inputs, first.1)

  fed-known : (stream : Stream) (piece : List ℕ) (now : ℕ) (s : State) → Known stream.local (stream.bytes ++ piece) → OthersKnown stream.local s.streams
      → Goes (fed_taken stream piece now s) (first_frame_step stream piece now s).1
  fed-known stream piece now s is others = (taken-inputs (is_front stream.bytes) (stream_with_piece stream piece) now s is, step-known (stream_with_piece stream piece) now s is others)

  broken-steps : (b : Bool) (now : ℕ) (s : State) → AllKnown s.streams → Goes (cond b (poll_recv_inputs now s) []) (cond {A = Outcome × State} b (then_all now (Handled, s)) (Handled, s)).1
  broken-steps true now s all = then-known now [] (Handled, s) (no-inputs, all)
  broken-steps false now s all = (no-inputs, all)

  -- a broken stream stores nothing
  piece-known : (m : Mode) (stream : Stream) (piece : List ℕ) (now : ℕ) (s : State) → (m ≡ Broken → AllKnown s.streams) → Known stream.local (stream.bytes ++ unless_broken m piece)
      → OthersKnown stream.local s.streams
      → Goes (piece_inputs (record stream { mode = m }) piece now s) (piece_step (record stream { mode = m }) piece now s).1
  piece-known Control stream piece now s broken is others =
      let u = record stream { mode = Control } in
      then-known now (fed_taken u piece now s) (first_frame_step u piece now s) (fed-known u piece now s is others)
  piece-known Waiting stream piece now s broken is others = fed-known (record stream { mode = Waiting }) piece now s is others
  piece-known (Bound peer) stream piece now s broken is others =
      let u = record stream { mode = Bound peer } in
      (taken-inputs (is_front stream.bytes) (stream_with_piece u piece) now s is, bytes-known stream.local [] s (none stream.local) others)
  piece-known Broken stream piece now s broken is others = broken-steps (same_address stream.local s.local) now s (broken refl)

  gone-streams : (a : SocketAddr) (s : State) → (connection_gone a s).streams ≡ s.streams
  gone-streams a s = on_test (λ t. t.streams ≡ s.streams) (is_some (connection_at a s)) _ s refl refl

  -- the end of a stream stores nothing
  end-known : (a : SocketAddr) (s : State) → AllKnown s.streams → AllKnown (without_stream a (connection_gone a s)).streams
  end-known a s all = filter-known _ (connection_gone a s).streams (subst AllKnown (sym (gone-streams a s)) all)

  pub stream-known : (stream : Stream) (piece : List ℕ) (now : ℕ) (s : State) → (piece ≡ [] → AllKnown s.streams) → (stream.mode ≡ Broken → AllKnown s.streams)
      → Known stream.local (stream.bytes ++ unless_broken stream.mode piece) → OthersKnown stream.local s.streams
      → Goes (stream_inputs stream piece now s) (stream_step stream piece now s).1
  stream-known stream [] now s empty broken is others = (no-inputs, end-known stream.local s (empty refl))
  stream-known stream (b ∷ bs) now s empty broken is others = piece-known stream.mode stream (b ∷ bs) now s broken is others

  -- a data connection is opened
  pub opened-known : (a : SocketAddr) (s : State) → AllKnown s.streams → AllKnown (with_stream a s).streams
  opened-known a s all x there = elim (has-append x (without_stream a s).streams _ there) [
    | inl here ↦ filter-known _ s.streams all x here
    | inr (inl e) ↦ subst (λ (z : Stream). Known z.local z.bytes) (sym e) (none a)
    | inr (inr absent) ↦ absurd absent
  ]
