-- The bytes in the stream of an input were received by the run's calls of `recv`.
use Rattle.turn_client_laws.proofs.Common.{◌≡◌, ◌∙◌, ◌++◌, ◌&&◌, ℕ, Bool, true, false, cond, List, [], ◌∷◌, Option, Some, None, refl, sym, subst, ap, inl, inr, append_assoc, drop, take, append-nil}
use Rattle.turn_client_laws.proofs.Common.{take-append-drop, SocketAddr}
use Rattle.turn_client_laws.proofs.Machine.{TransportType, Udp, Tcp, Transmit, same_address, State, Call, Recv, PollRecv, Mode, Control, Broken, Stream, Outcome, Ignored, channel_sent, datagram_step}
use Rattle.turn_client_laws.proofs.Machine.{is_channel_frame, is_message, message_step, is_from_server, recv_step, stream_step, state_after, state_after_all, stream_at, same_address-self}
use Rattle.turn_client_laws.proofs.Machine.{same_address-true, differ-sym, Has, has-found}
use Rattle.turn_client_laws.proofs.Laws.{Input, handled, recv_inputs, stream_inputs, TakesInput, others-opened, message-same}
use Rattle.turn_client_laws.proofs.MoveLemmas.{by_test}
use Rattle.turn_client_runs.specs.Received.{HasArrived, piece_in_call, pieces_for, unless_broken}
use Rattle.turn_client_runs.proofs.CallGrants.{quiet}
use Rattle.turn_client_runs.proofs.ReceivedLemmas.{AllKnown, Goes, opened-known, poll-known, stream-known}

-- ---- what ends all that was received

abbrev Ends : (SocketAddr → List ℕ) → SocketAddr → List ℕ → Type 0
Ends all a bytes = (before : List ℕ) × (all a ≡ before ++ bytes)

nothing-ends : (all : SocketAddr → List ℕ) (a : SocketAddr) → Ends all a []
nothing-ends all a = (all a, sym (append-nil (all a)))

less-ends : (all : SocketAddr → List ℕ) (a : SocketAddr) (n : ℕ) (bytes : List ℕ) → Ends all a bytes → Ends all a (drop n bytes)
less-ends all a n bytes (before, e) =
    (before ++ take n bytes, e ∙ (ap (λ (l : List ℕ). before ++ l) (sym (take-append-drop n bytes)) ∙ sym (append_assoc before (take n bytes) (drop n bytes))))

abbrev Held : (SocketAddr → List ℕ) → List Stream → Type 0
Held all xs = AllKnown (Ends all) (nothing-ends all) (less-ends all) xs

abbrev Steps : (SocketAddr → List ℕ) → List Input → State → Type 0
Steps all inputs t = Goes (Ends all) (nothing-ends all) (less-ends all) inputs t

-- ---- a call

quiet-piece : (a : SocketAddr) (call : Call) (s : State) → (TakesInput call → ⊥) → piece_in_call a call s ≡ []
quiet-piece a (Recv packet now) s other = absurd (other tt)
quiet-piece a call s other = refl

-- what is stored nowhere
nowhere : (b : Bool) → cond {A = List ℕ} b [] [] ≡ []
nowhere true = refl
nowhere false = refl

-- more may have been received
module _ (all more : SocketAddr → List ℕ) where
  still-ends : (a : SocketAddr) (piece bytes : List ℕ) → more a ≡ all a ++ piece → piece ≡ [] → Ends all a bytes → Ends more a bytes
  still-ends a piece bytes e empty (before, is) = (before, e ∙ (ap (λ (l : List ℕ). all a ++ l) empty ∙ (append-nil (all a) ∙ is)))

  longer-ends : (a : SocketAddr) (piece bytes : List ℕ) → more a ≡ all a ++ piece → Ends all a bytes → Ends more a (bytes ++ piece)
  longer-ends a piece bytes e (before, is) = (before, e ∙ (ap (λ (l : List ℕ). l ++ piece) is ∙ append_assoc before bytes piece))

  still-held : (xs : List Stream) (piece : SocketAddr → List ℕ) → ((a : SocketAddr) → more a ≡ all a ++ piece a) → ((a : SocketAddr) → piece a ≡ []) → Held all xs → Held more xs
  still-held xs piece e empty held x there = still-ends x.local (piece x.local) x.bytes (e x.local) (empty x.local) (held x there)

  quiet-steps : (call : Call) (s : State) → (TakesInput call → ⊥) → ((a : SocketAddr) → more a ≡ all a ++ piece_in_call a call s) → Held all s.streams
      → Steps more (handled call s) (state_after call s)
  quiet-steps call s other e held =
      let before : Held more s.streams = still-held s.streams (λ a. piece_in_call a call s) e (λ a. quiet-piece a call s other) held in (
        λ one there. absurd (subst (Has one) (quiet call s other) there),
        elim (others-opened call s other) [
          | inl same ↦ subst (Held more) (sym same) before
          | inr (local, opened) ↦ subst (Held more) (sym opened) (opened-known (Ends more) (nothing-ends more) (less-ends more) local s before)
        ],
      )

  -- ---- a piece that is received

  module _ (packet : Transmit (List ℕ)) (now : ℕ) where
    unless-nothing : (m : Mode) → unless_broken m [] ≡ []
    unless-nothing Control = refl
    unless-nothing m = refl

    -- for the stream at this local address
    fed-steps : (s : State) (stream : Stream) → stream_at packet.to s ≡ Some stream
        → ((a : SocketAddr) → more a ≡ all a ++ cond (same_address packet.to a) (unless_broken stream.mode packet.payload) []) → Held all s.streams
        → Steps more (stream_inputs stream packet.payload now s) (stream_step stream packet.payload now s).1
    fed-steps s stream found e held = stream-known (Ends more) (nothing-ends more) (less-ends more) stream packet.payload now s empty broken is others
      where
        there : Has stream s.streams × (same_address stream.local packet.to ≡ true)
        there = has-found (λ (x : Stream). same_address x.local packet.to) stream s.streams found

        local : stream.local ≡ packet.to
        local = same_address-true stream.local packet.to there.1

        piece : SocketAddr → List ℕ
        piece a = cond (same_address packet.to a) (unless_broken stream.mode packet.payload) []

        no-piece : unless_broken stream.mode packet.payload ≡ [] → (a : SocketAddr) → piece a ≡ []
        no-piece nothing a = elim (same_address packet.to a) as (λ b. cond b (unless_broken stream.mode packet.payload) [] ≡ []) [
          | true ↦ nothing
          | false ↦ refl
        ]

        empty : packet.payload ≡ [] → Held more s.streams
        empty h = still-held s.streams piece e (no-piece (ap (unless_broken stream.mode) h ∙ unless-nothing stream.mode)) held

        broken : stream.mode ≡ Broken → Held more s.streams
        broken h = still-held s.streams piece e (no-piece (ap (λ (m : Mode). unless_broken m packet.payload) h)) held

        here : same_address packet.to stream.local ≡ true
        here = rw local (same_address-self packet.to)

        is : Ends more stream.local (stream.bytes ++ unless_broken stream.mode packet.payload)
        is = longer-ends stream.local (unless_broken stream.mode packet.payload) stream.bytes (e stream.local ∙ rw here refl) (held stream there.0)

        others : (x : Stream) → Has x s.streams → same_address x.local stream.local ≡ false → Ends more x.local x.bytes
        others x h differ =
            let apart : same_address packet.to x.local ≡ false =
            subst (λ (l : SocketAddr). same_address l x.local ≡ false) local (differ-sym x.local stream.local differ) in
            still-ends x.local (piece x.local) x.bytes (e x.local) (rw apart refl) (held x h)

    -- what a client over UDP receives is stored in no stream
    datagram-steps : (b c : Bool) (s : State) → Held more s.streams
        → Steps more (cond b (cond c (record { stream = None; bytes = packet.payload; is_lent = true; time = now; before = s } ∷ []) []) [])
        (cond {A = Outcome × State} b (cond {A = Outcome × State} c (datagram_step packet.payload now s) (Ignored, s)) (Ignored, s)).1
    datagram-steps true true s held = (
      only,
      by_test (λ t. Held more t.streams) (is_message packet.payload) (message_step packet.payload now s) _
          (subst (Held more) (sym (message-same packet.payload now s)) held)
          (by_test (λ t. Held more t.streams) (is_channel_frame packet.payload) (channel_sent s packet.payload, s) (Ignored, s) held held),
    )
      where
        only : (one : Input) → Has one (record { stream = None; bytes = packet.payload; is_lent = true; time = now; before = s } ∷ []) → (stream : Stream) → one.stream ≡ Some stream
            → Ends more stream.local stream.bytes
        only one (inl e) stream of = cc (sym (ap (λ (x : Input). x.stream) e) ∙ of)
        only one (inr absent) stream of = absurd absent
    datagram-steps b c s held = (λ one absent. absurd absent, held)

    recv-steps : (carrier : TransportType) (s : State) → ((a : SocketAddr) → more a ≡ all a ++ piece_in_call a (Recv packet now) (record s { transport = carrier })) → Held all s.streams
        → Steps more (recv_inputs packet.transport packet.from packet.to packet.payload now (record s { transport = carrier }))
        (recv_step packet.transport packet.from packet.to packet.payload now (record s { transport = carrier })).1
    recv-steps Udp s e held =
        let u = record s { transport = Udp } in
        datagram-steps (is_from_server packet.transport packet.from u) (same_address packet.to s.local) u
        (still-held s.streams (λ a. piece_in_call a (Recv packet now) u) e
        (λ a. nowhere (is_from_server packet.transport packet.from u && same_address packet.to a)) held)
    recv-steps Tcp s e held = by (is_from_server packet.transport packet.from u) refl (stream_at packet.to s) refl
      where
        u : State
        u = record s { transport = Tcp }

        none : ((a : SocketAddr) → piece_in_call a (Recv packet now) u ≡ []) → Steps more [] u
        none nothing = (λ one absent. absurd absent, still-held s.streams (λ a. piece_in_call a (Recv packet now) u) e nothing held)

        by : (b : Bool) → is_from_server packet.transport packet.from u ≡ b → (o : Option Stream) → stream_at packet.to s ≡ o
            → Steps more (recv_inputs packet.transport packet.from packet.to packet.payload now u) (recv_step packet.transport packet.from packet.to packet.payload now u).1
        by false f o g = let nothing = none (λ a. rw f refl) in rw f nothing
        by true f None g = let nothing = none (λ a. rw (f, g) (nowhere (same_address packet.to a))) in rw (f, g) nothing
        by true f (Some stream) g = let fed = fed-steps u stream g (λ a. e a ∙ rw (f, g) refl) held in rw (f, g) fed

  -- ---- all calls

  call-steps : (call : Call) (s : State) → ((a : SocketAddr) → more a ≡ all a ++ piece_in_call a call s) → Held all s.streams → Steps more (handled call s) (state_after call s)
  call-steps (Recv packet now) s e held = recv-steps packet now s.transport s e held
  call-steps (PollRecv now) s e held = poll-known (Ends more) (nothing-ends more) (less-ends more) now s (still-held s.streams (λ a. []) e (λ a. refl) held)
  call-steps call s e held = quiet-steps call s (λ takes. takes) e held

-- ---- a run

same-held : (all more : SocketAddr → List ℕ) (xs : List Stream) → ((a : SocketAddr) → all a ≡ more a) → Held all xs → Held more xs
same-held all more xs e held = still-held all more xs (λ a. []) (λ a. sym (e a) ∙ sym (append-nil (all a))) (λ a. refl) held

run-held : (calls : List Call) (all : SocketAddr → List ℕ) (s : State) → Held all s.streams → Held (λ a. all a ++ pieces_for a calls s) (state_after_all s calls).streams
run-held [] all s held = same-held all (λ a. all a ++ []) s.streams (λ a. sym (append-nil (all a))) held
run-held (call ∷ calls) all s held =
    let more : SocketAddr → List ℕ = λ a. all a ++ piece_in_call a call s in
    let t = state_after call s in
    same-held (λ a. more a ++ pieces_for a calls t) (λ a. all a ++ pieces_for a (call ∷ calls) s) (state_after_all t calls).streams
    (λ a. append_assoc (all a) (piece_in_call a call s) (pieces_for a calls t))
    (run-held calls more t (call-steps all more call s (λ a. refl) held).1)

pieces-then : (a : SocketAddr) (calls : List Call) (call : Call) (s : State) → pieces_for a (calls ++ call ∷ []) s ≡ pieces_for a calls s ++ piece_in_call a call (state_after_all s calls)
pieces-then a [] call s = append-nil (piece_in_call a call s)
pieces-then a (x ∷ calls) call s =
    ap (λ (l : List ℕ). piece_in_call a x s ++ l) (pieces-then a calls call (state_after x s))
    ∙ sym (append_assoc (piece_in_call a x s) (pieces_for a calls (state_after x s)) (piece_in_call a call (state_after_all (state_after x s) calls)))

-- no stream holds anything at first
abbrev pub HoldNothing : State → Type 0
HoldNothing s = (x : Stream) → Has x s.streams → x.bytes ≡ []

pub inputs-received : (earlier : List Call) (call : Call) (first : State) → HoldNothing first → (one : Input) → Has one (handled call (state_after_all first earlier))
    → HasArrived (earlier ++ call ∷ []) first one
inputs-received earlier call first empty one there = by one.stream refl
  where
    s : State
    s = state_after_all first earlier

    before : Held (λ a. pieces_for a earlier first) s.streams
    before = run-held earlier (λ a. []) first (λ x h. ([], sym (empty x h)))

    after : SocketAddr → List ℕ
    after a = pieces_for a earlier first ++ piece_in_call a call s

    known : (stream : Stream) → one.stream ≡ Some stream → Ends after stream.local stream.bytes
    known = (call-steps (λ a. pieces_for a earlier first) after call s (λ a. refl) before).0 one there

    by : (o : Option Stream) → one.stream ≡ o → HasArrived (earlier ++ call ∷ []) first (record one { stream = o })
    by None e = tt
    by (Some stream) e = let (front, is) = known stream e in (front, pieces-then stream.local earlier call first ∙ is)

-- what a stream holds after a poll ends what was received for it
pub streams-received : (earlier : List Call) (now : ℕ) (first : State) → HoldNothing first → (x : Stream) → Has x (state_after (PollRecv now) (state_after_all first earlier)).streams
    → (before : List ℕ) × (pieces_for x.local earlier first ≡ before ++ x.bytes)
streams-received earlier now first empty x there =
    let (before, is) = known x there in
    (before, sym (append-nil (pieces_for x.local earlier first)) ∙ is)
  where
    s : State
    s = state_after_all first earlier

    after : SocketAddr → List ℕ
    after a = pieces_for a earlier first ++ piece_in_call a (PollRecv now) s

    known : Held after (state_after (PollRecv now) s).streams
    known = (call-steps (λ a. pieces_for a earlier first) after (PollRecv now) s (λ a. refl) (run-held earlier (λ a. []) first (λ y h. ([], sym (empty y h))))).1
