-- A piece, followed by polling, returns the whole of the buffered bytes and of the piece.
use Rattle.turn_client_laws.proofs.Common.{◌≡◌, ℕ, suc, ◌+◌, ◌<◌, ◌≤◌, Bool, true, false, cond, List, [], ◌∷◌, ◌++◌, length, Option, Some, None, refl, ap, sym, subst, ◌∙◌, arith, is_some, SocketAddr}
use Rattle.turn_client_laws.proofs.Machine.{Tcp, Drained, begins_no_frame, frame_len, same_address, State, Mode, Control, Waiting, Bound, Broken, Stream, Payload, Outcome, Handled, Ignored, PeerData}
use Rattle.turn_client_laws.proofs.Machine.{is_ready, sent_by, stream_at, next_frame_step, detached_frame_step, with_bytes, first_frame_step, place_kept, recv_step, stream_step, then_all}
use Rattle.turn_client_laws.proofs.Machine.{same_address-self, has-all, has-found}
use Rattle.turn_client_laws.proofs.Laws.{IsEmptyIfBroken, weight, bytes-twice, bytes-aside}
use Rattle.turn_types.specs.Streams as T
use Rattle.turn_client_runs.specs.Cut.{AwaitsBytes, bytes_at, fed_piece, outcome_payloads, left, meant, mode_at, whole, whole_of}
use Rattle.turn_client_runs.proofs.AllStepsLemmas.{all-rest, all_steps, gives_then, polled_out, polled_out-all, then_all-all}
use Rattle.turn_client_runs.proofs.FedStepLemmas.{Agrees, empty-left, framed-first, none-left, ready-fed, steps-whole}
use Rattle.turn_client_runs.proofs.FollowLemmas.{IsFramed, IsThere, Suits, SuitsMode, control-framed, waiting-framed}
use Rattle.turn_client_runs.proofs.StreamAtLemmas.{IsAlone, OthersWait, aside-alone, bytes-found, found-local, none-bytes, none-false, self-bytes}
use Rattle.turn_client_runs.proofs.WholeLemmas.{broken-whole, none-whole, whole-waits}

-- ---- input

-- a piece of this stream is received over TCP from the server
recv-found : (a : SocketAddr) (piece : List ℕ) (now : ℕ) (s : State) (stream : Stream) → s.transport ≡ Tcp → stream_at a s ≡ Some stream
    → recv_step Tcp s.remote a piece now s ≡ stream_step stream piece now s
recv-found a piece now s stream tcp e = rw (tcp, same_address-self s.remote, e) refl

recv-none : (a : SocketAddr) (piece : List ℕ) (now : ℕ) (s : State) → s.transport ≡ Tcp → stream_at a s ≡ None → recv_step Tcp s.remote a piece now s ≡ (Ignored, s)
recv-none a piece now s tcp e = rw (tcp, same_address-self s.remote, e) refl

-- the place of a payload does not count
placed : (waited : List ℕ) (o : Outcome) → outcome_payloads (place_kept waited o) ≡ outcome_payloads o
placed [] o = refl
placed (b ∷ bytes) (PeerData payload) = refl
placed waited o = refl

-- ---- a client that is quiet

module _ (a : SocketAddr) (now : ℕ) (s : State) (quiet : AwaitsBytes s) where
  others-wait : OthersWait a s.streams
  others-wait = λ x there differs. none-false is_ready s.streams quiet.none_ready x there

  abbrev out : State
  out = with_bytes a [] s

  pub out-is-alone : IsAlone a out
  out-is-alone = aside-alone a s out (bytes-aside a [] s) (bytes-twice a [] [] s) quiet.apart.0 others-wait

  found-waits : (stream : Stream) → stream_at a s ≡ Some stream → is_ready stream ≡ false
  found-waits stream e = none-false is_ready s.streams quiet.none_ready stream (has-found (λ (x : Stream). same_address x.local a) stream s.streams e).0

  found-empty : (stream : Stream) → stream_at a s ≡ Some stream → IsEmptyIfBroken stream
  found-empty stream e = has-all IsEmptyIfBroken stream s.streams quiet.apart.1 (has-found (λ (x : Stream). same_address x.local a) stream s.streams e).0

  out-found : (stream : Stream) → stream_at a s ≡ Some stream → stream_at a out ≡ Some (record stream { bytes = [] })
  out-found stream e = bytes-found a [] s stream e

  -- no step follows before more is received
  rests : (n : ℕ) → all_steps n now s ≡ ([], s)
  rests n = all-rest n now s quiet.none_ready

  -- ---- no stream, and a broken one

  -- if nothing is buffered at this local address
  same-out : (stream : Stream) → stream_at a s ≡ Some stream → stream.bytes ≡ [] → out ≡ s
  same-out stream e empty = subst (λ (l : List ℕ). with_bytes a l s ≡ s) empty (self-bytes a s stream quiet.apart.0 e)

  none-agrees : (c : Bool) (piece bytes : List ℕ) → stream_at a s ≡ None → Agrees a c (fed_piece a piece now s) (whole a now out bytes)
  none-agrees c piece bytes e =
      let same : out ≡ s = none-bytes a [] s e in
      let fed-is : fed_piece a piece now s ≡ ([], s) = ap (polled_out now) (recv-none a piece now s quiet.transport e)
      ∙ (polled_out-all (weight s.streams) now (Ignored, s) (omega arith) ∙ rests (weight s.streams)) in
      let whole-is : whole a now out bytes ≡ left s [] = ap (λ (v : State). whole a now v bytes) same ∙ none-whole a now s e bytes in
      rw (fed-is, whole-is) (record { given = refl; leaves = none-left a c s (subst (IsAlone a) same out-is-alone) e })

  broken-agrees : (c : Bool) (b : ℕ) (piece bytes : List ℕ) (stream : Stream) → stream_at a s ≡ Some (record stream { mode = Broken }) → SuitsMode c Broken
      → Agrees a c (fed_piece a (b ∷ piece) now s) (whole a now out bytes)
  broken-agrees c b piece bytes stream e suits =
      let u = record stream { mode = Broken } in
      let same : out ≡ s = same-out u e (found-empty u e refl) in
      let fed-is : fed_piece a (b ∷ piece) now s ≡ ([], s) = ap (polled_out now) (recv-found a (b ∷ piece) now s u quiet.transport e) ∙ by (same_address stream.local s.local) in
      let whole-is : whole a now out bytes ≡ left s [] = ap (λ (v : State). whole a now v bytes) same ∙ broken-whole a now s stream e bytes in
      rw (fed-is, whole-is) (record { given = refl; leaves = empty-left a c s u (subst (IsAlone a) same out-is-alone) e suits })
    where
      by : (test : Bool) → polled_out now (cond test (then_all now (Handled, s)) (Handled, s)) ≡ ([], s)
      by true = then_all-all (weight s.streams) now (Handled, s) (omega arith) ∙ rests (weight s.streams)
      by false = polled_out-all (weight s.streams) now (Handled, s) (omega arith) ∙ rests (weight s.streams)

  -- ---- a stream that is not broken

  -- the buffered bytes, and the piece after them
  abbrev fed_with : Stream → List ℕ → Stream
  fed_with stream piece = record stream { bytes = stream.bytes ++ piece }

  -- The result of the piece is one step of this stream, and then all that follow.
  abbrev GivesStep : Stream → List ℕ → ℕ → Type 0
  GivesStep stream piece n = fed_piece a piece now s ≡ gives_then (all_steps n now) (detached_frame_step (fed_with stream piece) now out)

  step-out : (stream : Stream) (piece : List ℕ) → stream_at a s ≡ Some stream → next_frame_step (fed_with stream piece) now s ≡ detached_frame_step (fed_with stream piece) now out
  step-out stream piece e = ap (λ (l : SocketAddr). detached_frame_step (fed_with stream piece) now (with_bytes l [] s)) (found-local a s stream e)

  -- enough steps for what the first of them leaves
  abbrev enough : Stream → List ℕ → ℕ
  enough stream piece = weight (detached_frame_step (fed_with stream piece) now out).1.streams + length (stream.bytes ++ piece)

  first-given : (stream : Stream) (piece : List ℕ) (n : ℕ) → stream_at a s ≡ Some stream
      → gives_then (all_steps n now) (first_frame_step stream piece now s) ≡ gives_then (all_steps n now) (detached_frame_step (fed_with stream piece) now out)
  first-given stream piece n e =
      let p = next_frame_step (fed_with stream piece) now s in
      ap (λ (l : List Payload). (l ++ (all_steps n now p.1).0, (all_steps n now p.1).1)) (placed stream.bytes p.0)
      ∙ ap (gives_then (all_steps n now)) (step-out stream piece e)

  first-weight : (stream : Stream) (piece : List ℕ) → stream_at a s ≡ Some stream → weight (first_frame_step stream piece now s).1.streams ≤ enough stream piece
  first-weight stream piece e = rw (step-out stream piece e) (omega arith)

  control-step : (b : ℕ) (piece : List ℕ) (stream : Stream) → stream_at a s ≡ Some (record stream { mode = Control })
      → GivesStep (record stream { mode = Control }) (b ∷ piece) (enough (record stream { mode = Control }) (b ∷ piece))
  control-step b piece stream e =
      let u = record stream { mode = Control } in
      let n = enough u (b ∷ piece) in
      ap (polled_out now) (recv-found a (b ∷ piece) now s u quiet.transport e)
      ∙ (then_all-all n now (first_frame_step u (b ∷ piece) now s) (first-weight u (b ∷ piece) e) ∙ first-given u (b ∷ piece) n e)

  waiting-step : (b : ℕ) (piece : List ℕ) (stream : Stream) → stream_at a s ≡ Some (record stream { mode = Waiting })
      → GivesStep (record stream { mode = Waiting }) (b ∷ piece) (enough (record stream { mode = Waiting }) (b ∷ piece))
  waiting-step b piece stream e =
      let u = record stream { mode = Waiting } in
      let n = enough u (b ∷ piece) in
      ap (polled_out now) (recv-found a (b ∷ piece) now s u quiet.transport e)
      ∙ (polled_out-all n now (first_frame_step u (b ∷ piece) now s) (first-weight u (b ∷ piece) e) ∙ first-given u (b ∷ piece) n e)

  bound-step : (b : ℕ) (piece : List ℕ) (stream : Stream) (peer : SocketAddr) → stream_at a s ≡ Some (record stream { mode = Bound peer })
      → GivesStep (record stream { mode = Bound peer }) (b ∷ piece) (enough (record stream { mode = Bound peer }) (b ∷ piece))
  bound-step b piece stream peer e =
      let u = record stream { mode = Bound peer } in
      let n = enough u (b ∷ piece) in
      let given = sent_by peer (stream.bytes ++ b ∷ piece) None in
      ap (polled_out now) (recv-found a (b ∷ piece) now s u quiet.transport e)
      ∙ (ap (λ (v : State). (given ∷ (polled_out now (Handled, v)).0, (polled_out now (Handled, v)).1)) (ap (λ (l : SocketAddr). with_bytes l [] s) (found-local a s u e))
      ∙ ap (λ (q : List Payload × State). (given ∷ q.0, q.1)) (polled_out-all n now (Handled, out) (omega arith)))

  held-is : (stream : Stream) → stream_at a s ≡ Some stream → bytes_at a s ≡ stream.bytes
  held-is stream e = rw e refl

  there-out : (c : Bool) (stream : Stream) → stream_at a s ≡ Some stream → (stream.mode ≡ Broken → ⊥) → SuitsMode c stream.mode → IsThere c a out
  there-out c stream e unbroken suits = record { stream = record stream { bytes = [] }; found = out-found stream e; unbroken = unbroken; suits = suits }

  whole-agrees : (c : Bool) (stream : Stream) (piece : List ℕ) (n : ℕ) → stream_at a s ≡ Some stream → (stream.mode ≡ Broken → ⊥) → SuitsMode c stream.mode → length (stream.bytes ++ piece) < suc n
      → GivesStep stream piece n
      → gives_then (all_steps n now) (detached_frame_step (fed_with stream piece) now out) ≡ all_steps (suc n) now (with_bytes a (stream.bytes ++ piece) out)
      → Agrees a c (fed_piece a piece now s) (whole a now out (bytes_at a s ++ piece))
  whole-agrees c stream piece n e unbroken suits few gives first =
      let all = steps-whole a now c (suc n) out (stream.bytes ++ piece) few out-is-alone (there-out c stream e unbroken suits) in
      let same : fed_piece a piece now s ≡ all_steps (suc n) now (with_bytes a (stream.bytes ++ piece) out) = gives ∙ first in
      rw (held-is stream e, same) all

  framed-agrees : (c : Bool) (m : Mode) (is : IsFramed c m) (stream : Stream) (piece : List ℕ) → stream_at a s ≡ Some (record stream { mode = m })
      → GivesStep (record stream { mode = m }) piece (enough (record stream { mode = m }) piece) → Agrees a c (fed_piece a piece now s) (whole a now out (bytes_at a s ++ piece))
  framed-agrees c m is stream piece e gives =
      let u = record stream { mode = m } in
      let n = enough u piece in
      whole-agrees c u piece n e is.unbroken is.suits (omega arith) gives
      (framed-first a now c m is (record stream { bytes = [] }) out out-is-alone (out-found u e) n (stream.bytes ++ piece))

  bound-ready : (stream : Stream) (peer : SocketAddr) (b : ℕ) (piece waited : List ℕ) → is_ready (record stream { mode = Bound peer; bytes = waited ++ b ∷ piece }) ≡ true
  bound-ready stream peer b piece [] = refl
  bound-ready stream peer b piece (c ∷ waited) = refl

  bound-agrees : (b : ℕ) (piece : List ℕ) (stream : Stream) (peer : SocketAddr) → stream_at a s ≡ Some (record stream { mode = Bound peer })
      → Agrees a false (fed_piece a (b ∷ piece) now s) (whole a now out (bytes_at a s ++ b ∷ piece))
  bound-agrees b piece stream peer e =
      let u = record stream { mode = Bound peer } in
      let n = enough u (b ∷ piece) in
      let bytes = stream.bytes ++ b ∷ piece in
      whole-agrees false u (b ∷ piece) n e (λ f. cc) tt (omega arith) (bound-step b piece stream peer e)
      (sym (ready-fed a now n (record u { bytes = [] }) bytes out out-is-alone (out-found u e) (bound-ready stream peer b piece stream.bytes)))

  agrees-in : (c : Bool) (m : Mode) (b : ℕ) (piece : List ℕ) (stream : Stream) → SuitsMode c m → stream_at a s ≡ Some (record stream { mode = m })
      → Agrees a c (fed_piece a (b ∷ piece) now s) (whole a now out (bytes_at a s ++ b ∷ piece))
  agrees-in true Control b piece stream suits e = framed-agrees true Control control-framed stream (b ∷ piece) e (control-step b piece stream e)
  agrees-in false Waiting b piece stream suits e = framed-agrees false Waiting waiting-framed stream (b ∷ piece) e (waiting-step b piece stream e)
  agrees-in false (Bound peer) b piece stream suits e = bound-agrees b piece stream peer e
  agrees-in true Broken b piece stream suits e = broken-agrees true b piece (bytes_at a s ++ b ∷ piece) stream e tt
  agrees-in false Broken b piece stream suits e = broken-agrees false b piece (bytes_at a s ++ b ∷ piece) stream e tt
  agrees-in c m b piece stream suits e = absurd suits

  -- a piece returns the whole of the buffered bytes and its own
  pub piece-agrees : (c : Bool) (b : ℕ) (piece : List ℕ) → Suits c (stream_at a s) → Agrees a c (fed_piece a (b ∷ piece) now s) (whole a now out (bytes_at a s ++ b ∷ piece))
  piece-agrees c b piece suits = by (stream_at a s) refl suits
    where
      by : (o : Option Stream) → stream_at a s ≡ o → Suits c o → Agrees a c (fed_piece a (b ∷ piece) now s) (whole a now out (bytes_at a s ++ b ∷ piece))
      by None e h = none-agrees c (b ∷ piece) (bytes_at a s ++ b ∷ piece) e
      by (Some stream) e h = agrees-in c stream.mode b piece stream h e

  -- ---- before a piece is received

  framed-size : (bytes : List ℕ) → is_some (cond (begins_no_frame bytes) (Some (length bytes)) (frame_len bytes)) ≡ false → T.size_in T.Framed bytes ≡ None
  framed-size bytes h = by (begins_no_frame bytes) refl (frame_len bytes) refl h
    where
      by : (b : Bool) → begins_no_frame bytes ≡ b → (o : Option ℕ) → frame_len bytes ≡ o → is_some (cond b (Some (length bytes)) o) ≡ false → cond b (Some 1) o ≡ None
      by false f None g k = refl
      by b f o g k = cc

  waits-size : (m : Mode) (stream : Stream) → is_ready (record stream { mode = m }) ≡ false → IsEmptyIfBroken (record stream { mode = m }) → T.size_in (meant m) stream.bytes ≡ None
  waits-size (Bound peer) stream h empty = by stream.bytes h
    where
      by : (bytes : List ℕ) → is_ready (record stream { mode = Bound peer; bytes = bytes }) ≡ false → T.one_byte bytes ≡ None
      by [] k = refl
      by (b ∷ bytes) k = cc
  waits-size Broken stream h empty = rw (empty refl) refl
  waits-size m stream h empty = framed-size stream.bytes h

  -- nothing is returned of the buffered bytes
  pub waits-whole : whole a now out (bytes_at a s) ≡ left out (bytes_at a s)
  waits-whole = by (stream_at a s) refl
    where
      by : (o : Option Stream) → stream_at a s ≡ o → whole a now out (bytes_at a s) ≡ left out (bytes_at a s)
      by None e =
          let held : bytes_at a s ≡ [] = rw e refl in
          let there : stream_at a out ≡ None = ap (stream_at a) (none-bytes a [] s e) ∙ e in
          rw held (none-whole a now out there [])
      by (Some stream) e =
          let means : mode_at a out ≡ meant stream.mode = rw (out-found stream e) refl in
          let size : T.size_in (mode_at a out) stream.bytes ≡ None = ap (λ (k : T.Mode). T.size_in k stream.bytes) means
          ∙ waits-size stream.mode stream (found-waits stream e) (found-empty stream e) in
          rw (held-is stream e) (whole-waits a now out stream.bytes size)

  pub waits-same : with_bytes a (bytes_at a s) out ≡ s
  waits-same = by (stream_at a s) refl
    where
      by : (o : Option Stream) → stream_at a s ≡ o → with_bytes a (bytes_at a s) out ≡ s
      by None e = bytes-twice a [] (bytes_at a s) s ∙ none-bytes a (bytes_at a s) s e
      by (Some stream) e = bytes-twice a [] (bytes_at a s) s ∙ (ap (λ (l : List ℕ). with_bytes a l s) (held-is stream e) ∙ self-bytes a s stream quiet.apart.0 e)

  -- ---- bytes that are dropped

  unmeant-is : (m : Mode) → meant m ≡ T.Broken → m ≡ Broken
  unmeant-is Broken e = refl
  unmeant-is m e = cc

  unmeant-same : out ≡ s → ((bytes : List ℕ) → whole a now s bytes ≡ left s []) → (bytes : List ℕ) → whole_of a now s bytes ≡ ([], s)
  unmeant-same same unmeant bytes =
      let d-is : whole a now out (bytes_at a s ++ bytes) ≡ left s [] = ap (λ (v : State). whole a now v (bytes_at a s ++ bytes)) same ∙ unmeant (bytes_at a s ++ bytes) in
      ap (λ (d : Drained State Payload). (d.given, with_bytes a d.rest d.state)) d-is ∙ ap (λ (v : State). ([], v)) same

  pub unmeant-whole : (bytes : List ℕ) → mode_at a s ≡ T.Broken → whole_of a now s bytes ≡ ([], s)
  unmeant-whole bytes broken = by (stream_at a s) refl
    where
      in-mode : (m : Mode) (stream : Stream) → m ≡ Broken → stream_at a s ≡ Some (record stream { mode = m }) → whole_of a now s bytes ≡ ([], s)
      in-mode m stream is e =
          let u = record stream { mode = m } in
          let f : stream_at a s ≡ Some (record stream { mode = Broken }) = e ∙ ap (λ (k : Mode). Some (record stream { mode = k })) is in
          unmeant-same (same-out u e (found-empty u e is)) (broken-whole a now s stream f) bytes

      by : (o : Option Stream) → stream_at a s ≡ o → whole_of a now s bytes ≡ ([], s)
      by None e = unmeant-same (none-bytes a [] s e) (none-whole a now s e) bytes
      by (Some stream) e = in-mode stream.mode stream (unmeant-is stream.mode (sym (rw e refl) ∙ broken)) e
