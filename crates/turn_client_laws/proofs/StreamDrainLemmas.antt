-- The steps of `poll_recv` are enough: what they leave in the streams waits for more bytes.
use Rattle.turn_client_laws.proofs.Common.{◌≡◌, ℕ, zero, suc, ◌<◌, ◌≤◌, Bool, true, false, cond, List, [], ◌∷◌, ◌++◌, length, map, take, drop, Option, Some, None, refl, sym, ap, ◌∙◌, inl, inr, arith}
use Rattle.turn_client_laws.proofs.Common.{All, find, is_some, SocketAddr}
use Rattle.turn_client_laws.proofs.Machine.{IsFrame, begins_no_frame, frame_len, frame_len-IsWhole, same_address, State, Mode, Control, Bound, Broken, Stream, Payload, Outcome, Handled, Ignored}
use Rattle.turn_client_laws.proofs.Machine.{broken_at, frame_step, framed_by, framed_stream_step, go_on, is_ready, max_steps, poll_recv_step, ready_len, next_frame_step, first_ready_step}
use Rattle.turn_client_laws.proofs.Machine.{steps_until_payload, with_bytes, first_frame_step, piece_step, then_all, has-found, all-has, cases_Option}
use Rattle.std.proofs.lemmas.List.{length-drop}
use Rattle.turn_types.proofs.SplitLemmas.{IsFrame-frame_len}
use Rattle.turn_client_laws.specs.LawsPeers.{HasNoPeer}
use Rattle.turn_client_laws.specs.LawsStreams.{HasNoFrame, NeedsMoreBytes}
use Rattle.turn_client_laws.proofs.MoveLemmas.{on_choice, none-found}
use Rattle.turn_client_laws.proofs.StreamMessageLemmas.{Rebound, frame-rebound}
use Rattle.turn_client_laws.proofs.StreamWeightLemmas.{KeepsHeld, Sets, kept-Sets, later-Sets, weight, weight-le, weight-less}

-- ---- the bytes in a stream

framed : List ℕ → Option ℕ
framed bytes = cond (begins_no_frame bytes) (Some (length bytes)) (frame_len bytes)

-- a stream that is ready holds bytes
pub ready-waits : (mode : Mode) (stream : Stream) (bytes : List ℕ) → is_ready (record stream { mode = mode; bytes = bytes }) ≡ true → 0 < length bytes
ready-waits mode stream (b ∷ bytes) e = omega arith
ready-waits Control stream [] e = cc
ready-waits mode stream [] e = cc

-- ---- a step decreases what the streams hold

unfoldable pub bytes_by : SocketAddr → List ℕ → Stream → Stream
bytes_by local bytes x = cond (same_address x.local local) (record x { bytes = bytes }) x

unfoldable pub broken_by : SocketAddr → Stream → Stream
broken_by local x = cond (same_address x.local local) (record x { mode = Broken; bytes = [] }) x

unfoldable pub mode_by : SocketAddr → Mode → Stream → Stream
mode_by local mode x = cond (same_address x.local local) (record x { mode = mode }) x

pub bytes_by-Sets : (local : SocketAddr) (bytes : List ℕ) → Sets local bytes (bytes_by local bytes)
unfolding bytes_by
bytes_by-Sets local bytes = record {
  keeps = λ x. on_choice (λ y. y.local ≡ x.local) (same_address x.local local) (record x { bytes = bytes }) x refl refl;
  at = λ x e. rw e refl;
  others = λ x e. rw e refl;
}

pub broken_by-Sets : (local : SocketAddr) → Sets local [] (broken_by local)
unfolding broken_by
broken_by-Sets local = record {
  keeps = λ x. on_choice (λ y. y.local ≡ x.local) (same_address x.local local) (record x { mode = Broken; bytes = [] }) x refl refl;
  at = λ x e. rw e refl;
  others = λ x e. rw e refl;
}

pub mode_by-KeepsHeld : (local : SocketAddr) (mode : Mode) → KeepsHeld (mode_by local mode)
unfolding mode_by
mode_by-KeepsHeld local mode = record {
  local = λ x. on_choice (λ y. y.local ≡ x.local) (same_address x.local local) (record x { mode = mode }) x refl refl;
  bytes = λ x. on_choice (λ y. y.bytes ≡ x.bytes) (same_address x.local local) (record x { mode = mode }) x refl refl;
}

pub map-map : (f g : Stream → Stream) (xs : List Stream) → map (λ x. g (f x)) xs ≡ map g (map f xs)
map-map f g [] = refl
map-map f g (x ∷ xs) = ap (λ ys. g (f x) ∷ ys) (map-map f g xs)

-- the first stream that is ready has bytes for a step
pub found-ready : (xs : List Stream) (stream : Stream) → find is_ready xs ≡ Some stream → is_ready stream ≡ true
found-ready xs stream e = (has-found is_ready stream xs e).1

-- Of the first stream that is ready: it is taken out, and holds less after its step.
module _ (stream : Stream) (s : State) (found : find is_ready s.streams ≡ Some stream) where
  waits : 0 < length stream.bytes
  waits = ready-waits stream.mode stream stream.bytes (found-ready s.streams stream found)

  abbrev out : State
  out = with_bytes stream.local [] s

  -- these bytes and no others remain in the end
  lighter-by : (bytes : List ℕ) (f g : Stream → Stream) → Sets stream.local bytes (λ x. g (f x)) → length bytes < length stream.bytes → weight (map g (map f s.streams)) < weight s.streams
  lighter-by bytes f g is fewer = rw (← map-map f g s.streams) (weight-less is_ready s.streams stream bytes (λ x. g (f x)) found is fewer)

  emptied-lighter : weight out.streams < weight s.streams
  unfolding bytes_by
  emptied-lighter = weight-less is_ready s.streams stream [] (bytes_by stream.local []) found (bytes_by-Sets stream.local []) waits

  broken-lighter : weight (broken_at stream.local out).streams < weight s.streams
  unfolding bytes_by broken_by
  broken-lighter =
      let empty = bytes_by stream.local [] in
      lighter-by [] empty (broken_by stream.local)
      (later-Sets stream.local [] [] empty (broken_by stream.local) (bytes_by-Sets stream.local []) (broken_by-Sets stream.local)) waits

  -- fewer bytes are put back
  put_back-lighter : (rest : List ℕ) (t : State) → length rest < length stream.bytes → Rebound out t → weight (with_bytes stream.local rest t).streams < weight s.streams
  unfolding bytes_by mode_by
  put_back-lighter rest t fewer (inl same) =
      let empty = bytes_by stream.local [] in
      let fill = bytes_by stream.local rest in
      rw same
      (lighter-by rest empty fill
      (later-Sets stream.local [] rest empty fill (bytes_by-Sets stream.local []) (bytes_by-Sets stream.local rest)) fewer)
  put_back-lighter rest t fewer (inr (local, peer, is)) =
      let empty = bytes_by stream.local [] in
      let bind = mode_by local (Bound peer) in
      let fill = bytes_by stream.local rest in
      let bound = kept-Sets stream.local [] empty bind (bytes_by-Sets stream.local []) (mode_by-KeepsHeld local (Bound peer)) in
      rw (is, ← map-map empty bind s.streams)
      (lighter-by rest (λ x. bind (empty x)) fill (later-Sets stream.local [] rest (λ x. bind (empty x)) fill bound (bytes_by-Sets stream.local rest)) fewer)

framed-lighter : (stream : Stream) (now : ℕ) (s : State) → find is_ready s.streams ≡ Some stream → is_some (framed stream.bytes) ≡ true
    → weight (framed_stream_step stream now (with_bytes stream.local [] s)).1.streams < weight s.streams
unfolding framed
framed-lighter stream now s found = by (begins_no_frame stream.bytes) (frame_len stream.bytes) refl
  where
    t : State
    t = with_bytes stream.local [] s

    by : (b : Bool) (o : Option ℕ) → frame_len stream.bytes ≡ o → is_some (cond b (Some (length stream.bytes)) o) ≡ true
        → weight (cond {A = Outcome × State} b (Handled, broken_at stream.local t) (framed_by stream now t o)).1.streams < weight s.streams
    by true o e ready = broken-lighter stream s found
    by false None e ready = cc
    by false (Some len) e ready =
        let is = frame_len-IsWhole stream.bytes len e in
        let some = waits stream s found in
        let u = (frame_step stream (take len stream.bytes) now t).1 in
        put_back-lighter stream s found (drop len stream.bytes) u (rw length-drop (omega (arith, is.least, some)))
        (frame-rebound stream (take len stream.bytes) now t)

detached-lighter : (m : Mode) (stream : Stream) (now : ℕ) (s : State) → find is_ready s.streams ≡ Some (record stream { mode = m })
    → weight (next_frame_step (record stream { mode = m }) now s).1.streams < weight s.streams
unfolding framed
detached-lighter (Bound peer) stream now s found = emptied-lighter (record stream { mode = Bound peer }) s found
detached-lighter Broken stream now s found = emptied-lighter (record stream { mode = Broken }) s found
detached-lighter m stream now s found = let u = record stream { mode = m } in framed-lighter u now s found (found-ready s.streams u found)

pub step-lighter : (stream : Stream) (now : ℕ) (s : State) → find is_ready s.streams ≡ Some stream → weight (next_frame_step stream now s).1.streams < weight s.streams
step-lighter stream now s found = detached-lighter stream.mode stream now s found

-- ---- as many steps as there are bytes

pub none-ready : (now : ℕ) (s : State) → weight s.streams ≤ 0 → (o : Option Stream) → find is_ready s.streams ≡ o → o ≡ None
none-ready now s empty None e = refl
none-ready now s empty (Some stream) e = let less = step-lighter stream now s e in absurd (omega (arith, empty, less))

-- A walk makes a step of the first stream that is ready, and goes on, or rests: with more steps than the streams' weight it
-- gives the same.
module _ {R : Type 0} (walk : ℕ → State → R) (rest : State → R) (goes_on : (State → R) → Outcome × State → R) (now : ℕ) (none : (s : State) → walk zero s ≡ rest s)
    (rests : (n : ℕ) (s : State) → find is_ready s.streams ≡ None → walk (suc n) s ≡ rest s)
    (steps : (n : ℕ) (s : State) (stream : Stream) → find is_ready s.streams ≡ Some stream → walk (suc n) s ≡ goes_on (walk n) (next_frame_step stream now s))
    (same : (next other : State → R) (p : Outcome × State) → next p.1 ≡ other p.1 → goes_on next p ≡ goes_on other p) where
  pub walk-enough : (n m : ℕ) (s : State) → weight s.streams ≤ n → weight s.streams ≤ m → walk n s ≡ walk m s
  walk-enough zero zero s hn hm = refl
  walk-enough zero (suc m) s hn hm = none s ∙ sym (rests m s (none-ready now s hn _ refl))
  walk-enough (suc n) zero s hn hm = rests n s (none-ready now s hm _ refl) ∙ sym (none s)
  walk-enough (suc n) (suc m) s hn hm = by (find is_ready s.streams) refl (λ t p q. walk-enough n m t p q)
    where
      by : (o : Option Stream) → find is_ready s.streams ≡ o → ((t : State) → weight t.streams ≤ n → weight t.streams ≤ m → walk n t ≡ walk m t) → walk (suc n) s ≡ walk (suc m) s
      by None e more = rests n s e ∙ sym (rests m s e)
      by (Some stream) e more =
          let less = step-lighter stream now s e in
          let p = next_frame_step stream now s in
          steps n s stream e ∙ (same (walk n) (walk m) p (more p.1 (omega (arith, less, hn)) (omega (arith, less, hm))) ∙ sym (steps m s stream e))

pub steps-enough : (n m now : ℕ) (s : State) → weight s.streams ≤ n → weight s.streams ≤ m → steps_until_payload n now s ≡ steps_until_payload m now s
unfolding steps_until_payload
steps-enough n m now =
    walk-enough (λ n. steps_until_payload n now) (λ s. (None, s)) go_on now (λ s. refl) (λ n s e. rw e refl) (λ n s stream e. rw e refl) (λ next other p same. grind arith) n m

pub poll_recv-enough : (n now : ℕ) (s : State) → max_steps s ≤ n → steps_until_payload n now s ≡ poll_recv_step now s
poll_recv-enough n now s h =
    let most = weight-le s.streams in
    steps-enough n (max_steps s) now s (omega (arith, most, h)) most

-- no stream is ready if no payload was returned
abbrev pub IsDone : Option Payload × State → Type 0
IsDone p = p.0 ≡ None → find is_ready p.1.streams ≡ None

go_on-done : (next : State → Option Payload × State) (p : Outcome × State) → IsDone (next p.1) → IsDone (go_on next p)
go_on-done next p done = grind arith

pub steps-done : (n now : ℕ) (s : State) → weight s.streams ≤ n → IsDone (steps_until_payload n now s)
unfolding steps_until_payload
steps-done zero now s h = λ none. none-ready now s h _ refl
steps-done (suc n) now s h = by (find is_ready s.streams) refl (λ t p. steps-done n now t p)
  where
    by : (o : Option Stream) → find is_ready s.streams ≡ o → ((t : State) → weight t.streams ≤ n → IsDone (steps_until_payload n now t)) → IsDone (first_ready_step (steps_until_payload n now) now s o)
    by None e more = λ none. e
    by (Some stream) e more =
        let less = step-lighter stream now s e in
        go_on-done (steps_until_payload n now) (next_frame_step stream now s) (more (next_frame_step stream now s).1 (omega (arith, less)))

-- ---- what is not ready

framed-none : (bytes : List ℕ) → framed bytes ≡ None → (begins_no_frame bytes ≡ false) × (frame_len bytes ≡ None)
unfolding framed
framed-none bytes e = grind arith

framed-HasNoFrame : (bytes : List ℕ) → framed bytes ≡ None → HasNoFrame bytes
framed-HasNoFrame bytes e = ((framed-none bytes e).0, by)
  where
    by : (frame more : List ℕ) → bytes ≡ frame ++ more → ¬ IsFrame frame
    by frame more spelled is =
        let found : frame_len bytes ≡ Some (length frame) = rw spelled (IsFrame-frame_len frame more is) in
        let clash : None ≡ Some (length frame) = sym (framed-none bytes e).1 ∙ found in
        cc

drained-in : (mode : Mode) (stream : Stream) → ready_len (record stream { mode = mode }) ≡ None → NeedsMoreBytes (record stream { mode = mode })
unfolding framed
drained-in Broken stream e = tt
drained-in (Bound peer) stream e = by stream.bytes e
  where
    by : (bytes : List ℕ) → ready_len (record stream { mode = Bound peer; bytes = bytes }) ≡ None → bytes ≡ []
    by [] f = refl
    by (b ∷ bytes) f = cc
drained-in mode stream e = framed-HasNoFrame stream.bytes e

all-drained : (xs : List Stream) → find is_ready xs ≡ None → All NeedsMoreBytes xs
all-drained xs e = all-has NeedsMoreBytes xs (λ x there. drained-in x.mode x (none-some x (none-found is_ready x xs e there)))
  where
    none-some : (x : Stream) → is_ready x ≡ false → ready_len x ≡ None
    none-some x fails = elim (cases_Option (ready_len x)) [ inl none ↦ none | inr (len, some) ↦ let no : true ≡ false = rw some at fails in cc ]

pub poll_recv-drained : (now : ℕ) (s : State) → (poll_recv_step now s).0 ≡ None → All NeedsMoreBytes (poll_recv_step now s).1.streams
poll_recv-drained now s none =
    all-drained (poll_recv_step now s).1.streams (steps-done (max_steps s) now s (weight-le s.streams) none)

-- ---- a piece of the control stream

then_all-drained : (now : ℕ) (p : Outcome × State) → HasNoPeer (then_all now p).0 → All NeedsMoreBytes (then_all now p).1.streams
then_all-drained now (Handled, t) h = elim (cases_Option (poll_recv_step now t).0) [ inl e ↦ poll_recv-drained now t e | inr (payload, e) ↦ absurd (rw e at h) ]
then_all-drained now (Ignored, t) h = elim (cases_Option (poll_recv_step now t).0) [ inl e ↦ poll_recv-drained now t e | inr (payload, e) ↦ absurd (rw e at h) ]
then_all-drained now (_, t) h = absurd h

piece_in : (mode : Mode) (stream : Stream) (piece : List ℕ) (now : ℕ) (s : State) → mode ≡ Control → HasNoPeer (piece_step (record stream { mode = mode }) piece now s).0
    → All NeedsMoreBytes (piece_step (record stream { mode = mode }) piece now s).1.streams
piece_in Control stream piece now s e = then_all-drained now (first_frame_step (record stream { mode = Control }) piece now s)
piece_in mode stream piece now s e = cc

pub piece-drained : (stream : Stream) (piece : List ℕ) (now : ℕ) (s : State) → stream.mode ≡ Control → HasNoPeer (piece_step stream piece now s).0
    → All NeedsMoreBytes (piece_step stream piece now s).1.streams
piece-drained stream = piece_in stream.mode stream
