-- In a run the inputs out of a stream take all that arrives for it, in order.
use Rattle.turn_client_laws.proofs.Common.{◌≡◌, ◌⊎◌, ◌∙◌, ◌++◌, ◌&&◌, ℕ, Bool, true, false, cond, List, [], ◌∷◌, Option, Some, None, Result, refl, sym, subst, ap, inl, inr, append_assoc, ◌≢◌, find}
use Rattle.turn_client_laws.proofs.Common.{is_some, option_map_or, IsDistinct, cases_Bool, append-nil, SocketAddr}
use Rattle.turn_client_laws.proofs.Machine.{TransportType, Udp, Tcp, Transmit, same_address, Config, State, initial, Call, AllocatedTcpSocket, Delete, PollRecv, Recv, TcpAllocateError, Origin}
use Rattle.turn_client_laws.proofs.Machine.{ServerRequest, Socket5Tuple, Mode, Control, Waiting, Bound, Broken, Stream, allocated_tcp_socket_step, is_allocated, is_control, is_local_taken}
use Rattle.turn_client_laws.proofs.Machine.{offer_origin, socket_opened, socket_refused, socket_step, with_stream, connection_at, same_transport, Handled, Ignored, Outcome, channel_sent}
use Rattle.turn_client_laws.proofs.Machine.{datagram_step, is_channel_frame, is_message, message_step, connection_gone, first_frame_step, is_from_server, piece_step, recv_step, stream_step, then_all}
use Rattle.turn_client_laws.proofs.Machine.{state_after, state_after_all, stream_at, without_stream, same_address-self, same_address-true, Has, has-found, map-has, ends}
use Rattle.turn_client_laws.proofs.Laws.{Input, datagram_input, fed_taken, handled, piece_inputs, poll_recv_inputs, recv_inputs, stream_inputs, AreApart, by_found, by_test, delete-walk, quiet-walk}
use Rattle.turn_client_laws.proofs.Laws.{all-of, call-apart, initial-apart, Same, Same-KeepsEdits, message-same}
use Rattle.turn_client_laws.proofs.StreamApartLemmas.{NotBroken, found-NotBroken}
use Rattle.turn_client_laws.proofs.StreamStepLemmas.{first_frame_step-apart}
use Rattle.turn_client_runs.specs.InOrder.{InputsFollow, IsBrokenAt, Opens, OpensNone, bytes_out_of, held_at}
use Rattle.turn_client_runs.specs.Inputs.{handled_in}
use Rattle.turn_client_runs.specs.Received.{piece_in_call, pieces_for, unless_broken}
use Rattle.turn_client_runs.proofs.AppendLemmas.{has-last}
use Rattle.turn_client_runs.proofs.InOrderSteps.{Flows, Goes, differs-or, fed-goes, filter-flows, holds-rest, no-more, out-append, poll-goes, then_all-goes}
use Rattle.turn_client_runs.proofs.QuietLemmas.{calls-keep}
use Rattle.turn_client_runs.proofs.SentCalls.{opens-or}

-- ---- the caller could not open a data connection, or opened one

none-opened : (id : ℕ) (tuple : Socket5Tuple) (peer : SocketAddr) (now : ℕ) (s : State) → Same s (allocated_tcp_socket_step id tuple peer None now s).1
none-opened id tuple peer now s =
    by_test Claim (same_transport s.config.allocation_transport Tcp && is_control tuple s && is_allocated s.phase) _ _
    (λ e. by_found Claim (λ origin. socket_step id peer None origin now s) (offer_origin id peer s) _ (λ origin f. refused origin) refl) (λ e. refl)
  where
    Claim : Result Unit TcpAllocateError × State → Type 0
    Claim x = Same s x.1

    refused : (origin : Origin) → Same s (socket_refused id peer origin s)
    refused (ServerRequest request) = refl
    refused origin = refl

some-opened : (id : ℕ) (tuple : Socket5Tuple) (peer local : SocketAddr) (now : ℕ) (s : State)
    → Same s (allocated_tcp_socket_step id tuple peer (Some local) now s).1 ⊎ Same (with_stream local s) (allocated_tcp_socket_step id tuple peer (Some local) now s).1
some-opened id tuple peer local now s =
    by_test Claim (same_transport s.config.allocation_transport Tcp && is_control tuple s && is_allocated s.phase) _ _
    (λ e. by_found Claim (λ origin. socket_step id peer (Some local) origin now s) (offer_origin id peer s) _
    (λ origin f. by_test Claim (is_local_taken local s) _ _ (λ g. inl refl) (λ g. inr (opened origin))) (inl refl))
    (λ e. inl refl)
  where
    Claim : Result Unit TcpAllocateError × State → Type 0
    Claim x = Same s x.1 ⊎ Same (with_stream local s) x.1

    opened : (origin : Origin) → Same (with_stream local s) (socket_opened id peer local origin now s)
    opened (ServerRequest request) = refl
    opened origin = refl

-- ---- one stream, of which one was broken before or not

module _ (a : SocketAddr) (Was : Type 0) where
  -- nothing more arrives
  with-nothing : (all taken nothing : List ℕ) (inputs : List Input) (t : State) → nothing ≡ [] → Goes a Was all taken inputs t → Goes a Was (all ++ nothing) taken inputs t
  with-nothing all taken nothing inputs t none goes = rw (none, append-nil all) goes

  -- and nothing is taken, if the streams are as they were
  still-goes : (all taken nothing : List ℕ) (inputs : List Input) (s t : State) → nothing ≡ [] → inputs ≡ [] → Same s t → Flows a Was all taken s.streams → Goes a Was (all ++ nothing) taken inputs t
  still-goes all taken nothing inputs s t none quiets same flows =
      with-nothing all taken nothing inputs t none (rw quiets (no-more a Was all taken t (subst (Flows a Was all taken) (sym same) flows)))

  -- ---- a piece that is received for a stream

  module _ (stream : Stream) (now : ℕ) (s : State) (all taken : List ℕ) (apart : AreApart s) (flows : Flows a Was all taken s.streams) (there : Has stream s.streams)
      (alone : stream.mode ≢ Broken → NotBroken stream.local s.streams) where
    -- what arrives for the streams at this address
    abbrev arrived : Mode → List ℕ → List ℕ
    arrived m payload = cond (same_address stream.local a) (unless_broken m payload) []

    others-flow : (piece : List ℕ) → same_address stream.local a ≡ false → Flows a Was (all ++ cond (same_address stream.local a) piece []) taken s.streams
    others-flow piece e = rw (e, append-nil all) flows

    own-rest : (m : Mode) → stream.mode ≡ m → m ≢ Broken → (piece : List ℕ) → stream.local ≡ a → all ++ cond (same_address stream.local a) piece [] ≡ taken ++ (stream.bytes ++ piece)
    own-rest m is whole piece at =
        let here : same_address stream.local a ≡ true = rw at (same_address-self a) in
        rw here (ap (λ (l : List ℕ). l ++ piece) (holds-rest a Was all taken s.streams stream flows there (λ f. whole (sym is ∙ f)) at) ∙ append_assoc taken stream.bytes piece)

    fed : (m : Mode) → stream.mode ≡ m → m ≢ Broken → (piece : List ℕ) → Goes a Was (all ++ cond (same_address stream.local a) piece []) taken (fed_taken (record stream { mode = m }) piece now s)
        (first_frame_step (record stream { mode = m }) piece now s).1
    fed m is whole piece = fed-goes a Was (record stream { mode = m }) piece now s (all ++ cond (same_address stream.local a) piece []) taken whole (alone (λ f. whole (sym is ∙ f))) (own-rest m is whole piece) (others-flow piece)

    nothing-flows : Flows a Was (all ++ cond (same_address stream.local a) [] []) taken s.streams
    nothing-flows = elim (same_address stream.local a) as (λ b. Flows a Was (all ++ cond b [] []) taken s.streams) [ true ↦ rw (append-nil all) flows | false ↦ rw (append-nil all) flows ]

    unlike : Control ≡ Broken → ⊥
    unlike f = cc

    piece-goes : (m : Mode) → stream.mode ≡ m → (piece : List ℕ)
        → Goes a Was (all ++ arrived m piece) taken (piece_inputs (record stream { mode = m }) piece now s) (piece_step (record stream { mode = m }) piece now s).1
    piece-goes Control is piece =
        let u = record stream { mode = Control } in
        then_all-goes a Was now (all ++ arrived Control piece) taken (fed_taken u piece now s) (first_frame_step u piece now s)
        (first_frame_step-apart u piece now s (alone (λ f. unlike (sym is ∙ f))) apart) (fed Control is (λ f. cc) piece)
    piece-goes Waiting is piece = fed Waiting is (λ f. cc) piece
    piece-goes (Bound peer) is piece = fed (Bound peer) is (λ f. cc) piece
    piece-goes Broken is piece =
        elim (same_address stream.local s.local) as
        (λ b. Goes a Was (all ++ arrived Broken piece) taken (cond b (poll_recv_inputs now s) []) (cond {A = Outcome × State} b (then_all now (Handled, s)) (Handled, s)).1) [
          | true ↦ poll-goes a Was now s (all ++ arrived Broken piece) taken apart nothing-flows
          | false ↦ no-more a Was (all ++ arrived Broken piece) taken s nothing-flows
        ]

    gone-same : Same s (connection_gone stream.local s)
    gone-same = by_test (Same s) (is_some (connection_at stream.local s)) _ s (λ e. refl) (λ e. refl)

    unless-nothing : (m : Mode) → unless_broken m [] ≡ []
    unless-nothing Broken = refl
    unless-nothing m = refl

    ends-flow : Flows a Was (all ++ arrived stream.mode []) taken s.streams
    ends-flow = subst (λ (l : List ℕ). Flows a Was (all ++ cond (same_address stream.local a) l []) taken s.streams) (sym (unless-nothing stream.mode)) nothing-flows

    stream-goes : (payload : List ℕ) → Goes a Was (all ++ arrived stream.mode payload) taken (stream_inputs stream payload now s) (stream_step stream payload now s).1
    stream-goes [] =
        let t = connection_gone stream.local s in
        no-more a Was (all ++ arrived stream.mode []) taken (without_stream stream.local t)
        (filter-flows a Was (all ++ arrived stream.mode []) taken _ t.streams (subst (Flows a Was (all ++ arrived stream.mode []) taken) (sym gone-same) ends-flow))
    stream-goes (b ∷ bs) = piece-goes stream.mode refl (b ∷ bs)

  -- ---- a packet

  module _ (packet : Transmit (List ℕ)) (now : ℕ) (all taken : List ℕ) where
    nowhere : (b : Bool) → cond {A = List ℕ} b [] [] ≡ []
    nowhere true = refl
    nowhere false = refl

    -- a datagram is out of no stream
    datagram-goes : (b c : Bool) (s : State) → Flows a Was all taken s.streams
        → Goes a Was all taken (cond b (cond c (datagram_input packet.payload now s ∷ []) []) [])
        (cond {A = Outcome × State} b (cond {A = Outcome × State} c (datagram_step packet.payload now s) (Ignored, s)) (Ignored, s)).1
    datagram-goes true true s flows = no-more a Was all taken (datagram_step packet.payload now s).1
        (by_test (λ (x : Outcome × State). Flows a Was all taken x.1.streams) (is_message packet.payload) (message_step packet.payload now s)
        (cond {A = Outcome × State} (is_channel_frame packet.payload) (channel_sent s packet.payload, s) (Ignored, s))
        (λ e. subst (Flows a Was all taken) (sym (message-same packet.payload now s)) flows)
        (λ e. by_test (λ (x : Outcome × State). Flows a Was all taken x.1.streams) (is_channel_frame packet.payload) (channel_sent s packet.payload, s) (Ignored, s) (λ f. flows) (λ f. flows)))
    datagram-goes true false s flows = no-more a Was all taken s flows
    datagram-goes false c s flows = no-more a Was all taken s flows

    recv-goes : (carrier : TransportType) (s : State) → let u = record s { transport = carrier } in
        AreApart s → Flows a Was all taken s.streams → Goes a Was (all ++ piece_in_call a (Recv packet now) u) taken (recv_inputs packet.transport packet.from packet.to packet.payload now u)
        (recv_step packet.transport packet.from packet.to packet.payload now u).1
    recv-goes Udp s apart flows =
        let u = record s { transport = Udp } in
        with-nothing all taken (cond (is_from_server packet.transport packet.from u && same_address packet.to a) [] [])
        (recv_inputs packet.transport packet.from packet.to packet.payload now u) (recv_step packet.transport packet.from packet.to packet.payload now u).1
        (nowhere (is_from_server packet.transport packet.from u && same_address packet.to a))
        (datagram-goes (is_from_server packet.transport packet.from u) (same_address packet.to s.local) u flows)
    recv-goes Tcp s apart flows = by (is_from_server packet.transport packet.from u) refl (stream_at packet.to s) refl
      where
        u : State
        u = record s { transport = Tcp }

        none : (nothing : List ℕ) → nothing ≡ [] → Goes a Was (all ++ nothing) taken [] u
        none nothing e = rw (e, append-nil all) (no-more a Was all taken u flows)

        by : (b : Bool) → is_from_server packet.transport packet.from u ≡ b → (o : Option Stream) → stream_at packet.to s ≡ o
            → Goes a Was (all ++ piece_in_call a (Recv packet now) u) taken (recv_inputs packet.transport packet.from packet.to packet.payload now u)
            (recv_step packet.transport packet.from packet.to packet.payload now u).1
        by false f o g = rw f (none [] refl)
        by true f None g = rw (f, g) (none (cond (same_address packet.to a) [] []) (nowhere (same_address packet.to a)))
        by true f (Some stream) g =
            let (there, at) = has-found (λ (x : Stream). same_address x.local packet.to) stream s.streams g in
            let goes = stream-goes stream now u all taken apart flows there (λ whole. found-NotBroken (λ (x : Stream). same_address x.local packet.to) s.streams stream g whole apart.0) packet.payload in
            rw (f, g) (subst (λ (l : SocketAddr). Goes a Was (all ++ cond (same_address l a) (unless_broken stream.mode packet.payload) []) taken (stream_inputs stream packet.payload now u)
            (stream_step stream packet.payload now u).1) (same_address-true stream.local packet.to at) goes)

  -- ---- calls that process nothing

  -- another stream is opened
  with_stream-flows : (local : SocketAddr) (all taken : List ℕ) (s : State) → (local ≡ a → ⊥) → Flows a Was all taken s.streams → Flows a Was all taken (with_stream local s).streams
  with_stream-flows local all taken s other flows x there at = elim (has-last x (without_stream local s).streams _ there) [
    | inl old ↦ filter-flows a Was all taken _ s.streams flows x old at
    | inr e ↦ absurd (other (sym (ap (λ (z : Stream). z.local) e) ∙ at))
  ]

  socket-flows : (id : ℕ) (tuple : Socket5Tuple) (peer : SocketAddr) (local : Option SocketAddr) (now : ℕ) (s : State) (all taken : List ℕ)
      → (Opens a (AllocatedTcpSocket id tuple peer local now) s → ⊥) → Flows a Was all taken s.streams → Flows a Was all taken (allocated_tcp_socket_step id tuple peer local now s).1.streams
  socket-flows id tuple peer None now s all taken none flows = subst (Flows a Was all taken) (sym (none-opened id tuple peer now s)) flows
  socket-flows id tuple peer (Some local) now s all taken none flows = elim (opens-or id tuple peer local now s) [
    | inl accepted ↦ elim (some-opened id tuple peer local now s) [
      | inl same ↦ subst (Flows a Was all taken) (sym same) flows
      | inr opened ↦ subst (Flows a Was all taken) (sym opened) (with_stream-flows local all taken s (λ at. none (at, accepted)) flows)
    ]
    | inr same ↦ subst (λ (t : State). Flows a Was all taken t.streams) (sym same) flows
  ]

  -- ---- all calls

  call-goes : (call : Call) (s : State) (all taken : List ℕ) → (Opens a call s → ⊥) → AreApart s → Flows a Was all taken s.streams → Goes a Was (all ++ piece_in_call a call s) taken (handled call s) (state_after call s)
  call-goes (Recv packet now) s all taken none apart flows = recv-goes packet now all taken s.transport s apart flows
  call-goes (PollRecv now) s all taken none apart flows = rw (append-nil all) (poll-goes a Was now s all taken apart flows)
  call-goes (Delete now) s all taken none apart flows =
      still-goes all taken [] [] s (state_after (Delete now) s) refl refl (delete-walk Same Same-KeepsEdits (λ now s. refl) now s) flows
  call-goes (AllocatedTcpSocket id tuple peer local now) s all taken none apart flows =
      rw (append-nil all) (no-more a Was all taken (allocated_tcp_socket_step id tuple peer local now s).1 (socket-flows id tuple peer local now s all taken none flows))
  call-goes call s all taken none apart flows = still-goes all taken [] [] s (state_after call s) refl refl (quiet-walk Same Same-KeepsEdits call s tt) flows

  run-goes : (calls : List Call) (s : State) (all taken : List ℕ) → OpensNone a s calls → AreApart s → Flows a Was all taken s.streams
      → Goes a Was (all ++ pieces_for a calls s) taken (handled_in s calls) (state_after_all s calls)
  run-goes [] s all taken none apart flows = rw (append-nil all) (no-more a Was all taken s flows)
  run-goes (call ∷ calls) s all taken (none, more) apart flows =
      let t = state_after call s in
      let last = state_after_all t calls in
      let first = call-goes call s all taken none apart flows in
      let rest = run-goes calls t (all ++ piece_in_call a call s) (taken ++ bytes_out_of a (handled call s)) more (call-apart call s apart) first in
      subst (λ (l : List ℕ). Goes a Was l taken (handled call s ++ handled_in t calls) last) (append_assoc all (piece_in_call a call s) (pieces_for a calls t))
      (subst (λ (l : List ℕ). Flows a Was ((all ++ piece_in_call a call s) ++ pieces_for a calls t) l last.streams)
      (append_assoc taken (bytes_out_of a (handled call s)) (bytes_out_of a (handled_in t calls)) ∙ ap (λ (l : List ℕ). taken ++ l) (sym (out-append a (handled call s) (handled_in t calls)))) rest)

  -- ---- from a state of a run

  -- with distinct local addresses it is the one that is found there
  found-at : (xs : List Stream) (x : Stream) → IsDistinct same_address (ends xs) → Has x xs → x.local ≡ a → find (λ y. same_address y.local a) xs ≡ Some x
  unfolding IsDistinct
  found-at [] x apart none at = absurd none
  found-at (y ∷ ys) x apart (inl e) at =
      let here : same_address y.local a ≡ true = subst (λ (l : SocketAddr). same_address l a ≡ true) (sym at ∙ ap (λ (z : Stream). z.local) e) (same_address-self a) in
      rw here (ap (λ (z : Stream). Some z) (sym e))
  found-at (y ∷ ys) x apart (inr there) at = elim (cases_Bool (same_address y.local a)) [
    | inl e ↦
        let differ = all-of (λ z. same_address y.local z ≡ false) x.local (ends ys) apart.0 (map-has (λ (z : Stream). z.local) x ys there) in
        absurd (differs-or y.local x.local differ (same_address-true y.local a e ∙ sym at))
    | inr e ↦ rw e (found-at ys x apart.1 there at)
  ]

  starts : (s : State) → (IsBrokenAt a s → Was) → AreApart s → Flows a Was (held_at a s) [] s.streams
  starts s was apart x there at =
      let found = found-at s.streams x apart.0 there at in
      (x.bytes, ap (λ (o : Option Stream). option_map_or (λ stream. stream.bytes) o []) found, λ whole. refl, λ broken. inl (was (x, found, broken)))

pub inputs-follow : (transport : TransportType) (local remote : SocketAddr) (config : Config) (seed : List ℕ) (calls : List Call) → InputsFollow (initial transport local remote config seed) calls
inputs-follow transport local remote config seed calls earlier middle later e a stream none found =
    let first = initial transport local remote config seed in
    let s = state_after_all first earlier in
    let apart = calls-keep AreApart call-apart earlier first (initial-apart transport local remote config seed) in
    let (there, at) = has-found (λ (x : Stream). same_address x.local a) stream (state_after_all s middle).streams found in
    let (rest, is, held, broken) =
    run-goes a (IsBrokenAt a s) middle s (held_at a s) [] none apart (starts a (IsBrokenAt a s) s (λ was. was) apart) stream there (same_address-true stream.local a at) in
    record { rest = rest; all = is; held = held; broken = broken }
