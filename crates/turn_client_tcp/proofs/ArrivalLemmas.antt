-- Pieces for the stream at their local address.
use Rattle.std.proofs.Common.{◌≡◌, ◌≢◌, ℕ, ◌<◌, true, false, List, [], ◌∷◌, length, Option, Some, None, inl, inr, refl, subst, sym, ap, ◌∙◌, arith}
use Rattle.std.specs.Prelude.{◌==◌, IsSomeAnd}
use Rattle.std.specs.Option.{option_map}
use Rattle.std.specs.declared.net.socket_addr.SocketAddr.{SocketAddr}
use Rattle.turn_stun.specs.declared.transport.TransportType.{TransportType}
use Rattle.turn_stun.specs.declared.transport.TransportType.TheVariants.{Tcp}
use Rattle.turn_agent.specs.Agent.{same_address}
use Rattle.turn_agent.proofs.AgentLemmas.{find-passes}
use Rattle.turn_client_api.specs.Answers.{EndsAfterSteps, RecvEnds, before_others, takes_no_memory}
use Rattle.turn_client_api.specs.Effect.{closed}
use Rattle.turn_client_api.specs.Payloads.{Outcome, Handled, Ignored}
use Rattle.turn_client_api.specs.Receive.{broken_step, connection_gone, first_frame_step, is_from_server, piece_step, recv_step}
use Rattle.turn_client_api.specs.State.{State}
use Rattle.turn_client_api.specs.Streams.{broken_at, stream_at, with_bytes, without_stream}
use Rattle.turn_client_api.specs.declared.state.Mode.{Mode}
use Rattle.turn_client_api.specs.declared.state.Mode.TheVariants.{Control, Broken}
use Rattle.turn_client_api.specs.declared.state.Stream.{Stream}
use Rattle.turn_client_api.proofs.AddressLemmas.{same_address-true}
use Rattle.turn_client_laws.proofs.MemoryLemmas.{behind}
use Rattle.turn_client_streams.specs.Buffered.{is_broken_mode}
use Rattle.turn_client_tcp.specs.StreamSteps.{EndsBehind, PieceEnds, broken_piece_step, fed_frame_step, left_by, others_from, piece_at, piece_takes_none, whole_piece_step}
use Rattle.turn_client_tcp.proofs.TurnLemmas.{emptied-broken}

-- the stream that is found has this local address
pub stream_at-local : (local : SocketAddr) (s : State) (stream : Stream) → stream_at local s ≡ Some stream → stream.local ≡ local
stream_at-local local s stream e = same_address-true stream.local local (find-passes (λ (x : Stream). same_address x.local local) s.streams stream e)

-- ---- a piece of a stream that is taken out

detached-mode : (mode : Mode) (stream : Stream) (piece : List ℕ) (now : ℕ) (s t : State) → t ≡ with_bytes stream.local [] s → with_bytes stream.local stream.bytes t ≡ s
    → piece_step (record stream { mode = mode }) piece now s ≡ whole_piece_step (record stream { mode = mode }) piece now t
detached-mode Broken stream piece now s t out back = ap (broken_step (record stream { mode = Broken }) now) (sym back)
detached-mode mode stream piece now s t out back = rw out refl

pub piece-step : (to : SocketAddr) (stream : Stream) (piece : List ℕ) (now : ℕ) (s t : State) → stream_at to s ≡ Some stream → 0 < length piece
    → t ≡ with_bytes stream.local [] s → with_bytes stream.local stream.bytes t ≡ s
    → whole_piece_step stream piece now t ≡ piece_at to piece now s
piece-step to stream [] now s t e some out back = absurd (omega (arith, some))
piece-step to stream (b ∷ bs) now s t e some out back = rw e (sym (detached-mode stream.mode stream (b ∷ bs) now s t out back))

-- a broken stream is put back, and then its bytes are dropped
module _ (stream : Stream) (piece : List ℕ) (now : ℕ) (t u s : State) (local : SocketAddr) (broken : stream.mode ≡ Broken) (here : local ≡ stream.local) (put : u ≡ left_by stream t) where
  pub whole-broken : broken_piece_step local now u ≡ whole_piece_step stream piece now t
  whole-broken = rw (broken, here, put) refl

  pub ends-broken : (same_address local u.local ≡ true) × EndsAfterSteps now u s → PieceEnds stream piece now t s
  ends-broken (at, ends) =
      let first : same_address stream.local t.local ≡ true =
      subst (λ (v : State). same_address stream.local v.local ≡ true) put (subst (λ a. same_address a u.local ≡ true) here at) in
      inr (inr (ap is_broken_mode broken, first, subst (λ (v : State). EndsAfterSteps now v s) put ends))

-- there is no such stream
pub piece-ignored : (to : SocketAddr) (piece : List ℕ) (now : ℕ) (s : State) → stream_at to s ≡ None → piece_at to piece now s ≡ (Ignored, s)
piece-ignored to piece now s e = rw e refl

-- ---- a packet of the server

module _ (transport : TransportType) (from to : SocketAddr) (bytes : List ℕ) (s : State) (over : s.transport ≡ Tcp) (own : is_from_server transport from s ≡ true) where
  pub recv-piece : (now : ℕ) → recv_step transport from to bytes now s ≡ piece_at to bytes now s
  recv-piece now = by (stream_at to s) refl
    where
      by : (o : Option Stream) → stream_at to s ≡ o → recv_step transport from to bytes now s ≡ piece_at to bytes now s
      by None e = rw (own, over, e) refl
      by (Some stream) e = rw (own, over, e) refl

  -- an empty piece
  pub recv-end : (now : ℕ) → bytes ≡ [] → recv_step transport from to bytes now s ≡ piece_at to [] now s
  recv-end now none = recv-piece now ∙ ap (λ (piece : List ℕ). piece_at to piece now s) none

  pub piece-takes : takes_no_memory transport from to bytes s ≡ piece_takes_none to bytes s
  piece-takes = rw (own, over) refl

-- ---- memory allocation fails

pub some-from : {A : Type 0} (xs : List A) → (length xs == 0) ≡ false → 0 < length xs
some-from [] e = let no : true ≡ false = e in cc
some-from (x ∷ xs) e = omega arith

some-piece : (piece : List ℕ) → 0 < length piece → piece ≢ []
some-piece [] some = λ e. absurd (omega (arith, some))
some-piece (b ∷ bs) some = λ e. cc

behind-from : (p : Outcome × State) (P : State → Type 0) → IsSomeAnd (others_from p) P → IsSomeAnd (behind p) P
unfolding behind
behind-from (Handled, t) P h = h
behind-from (outcome, t) P h = h

others-in : (to : SocketAddr) (mode : Mode) (stream : Stream) (piece : List ℕ) (now : ℕ) (was s : State) → stream_at to was ≡ Some (record stream { mode = mode }) → mode ≡ Control
    → EndsBehind now (fed_frame_step (record stream { mode = mode }) piece now (with_bytes stream.local [] was)) s
    → IsSomeAnd (before_others to piece now was) (λ t. EndsAfterSteps now t s)
unfolding behind
others-in to Control stream piece now was s e control ends =
    rw e (behind-from (first_frame_step (record stream { mode = Control }) piece now was) (λ t. EndsAfterSteps now t s) ends)
others-in to mode stream piece now was s e control ends = cc

others-broken : (to : SocketAddr) (mode : Mode) (stream : Stream) (piece : List ℕ) (now : ℕ) (was s : State) → stream_at to was ≡ Some (record stream { mode = mode }) → is_broken_mode mode ≡ true
    → same_address stream.local was.local ≡ true → EndsAfterSteps now was s → IsSomeAnd (before_others to piece now was) (λ t. EndsAfterSteps now t s)
others-broken to Broken stream piece now was s e broken here ends = rw (e, here) ends
others-broken to mode stream piece now was s e broken here ends = cc

pub piece-ends : (to : SocketAddr) (stream : Stream) (piece : List ℕ) (now : ℕ) (was s t : State) → was.transport ≡ Tcp → stream_at to was ≡ Some stream → 0 < length piece
    → t ≡ with_bytes stream.local [] was → with_bytes stream.local stream.bytes t ≡ was → PieceEnds stream piece now t s → RecvEnds to piece now was s
piece-ends to stream piece now was s t over e some out back (inl ended) =
    inl (ended ∙ (ap (λ u. closed (broken_at stream.local u)) out
    ∙ (ap closed (emptied-broken stream.local was) ∙ ap (λ a. closed (broken_at a was)) (stream_at-local to was stream e))))
piece-ends to stream piece now was s t over e some out back (inr (inl (control, ends))) =
    let led = subst (λ (u : State). EndsBehind now (fed_frame_step stream piece now u) s) out ends in
    inr (over, some-piece piece some, others-in to stream.mode stream piece now was s e control led)
piece-ends to stream piece now was s t over e some out back (inr (inr (broken, here, ends))) =
    let at : same_address stream.local was.local ≡ true = subst (λ (u : State). same_address stream.local u.local ≡ true) out here in
    let led = subst (λ (u : State). EndsAfterSteps now u s) back ends in
    inr (over, some-piece piece some, others-broken to stream.mode stream piece now was s e broken at led)

-- ---- the end of a stream

pub end-at : (to local : SocketAddr) (now : ℕ) (s : State) → Some local ≡ option_map (λ (x : Stream). x.local) (stream_at to s)
    → piece_at to [] now s ≡ (Handled, without_stream local (connection_gone local s))
end-at to local now s e = by (stream_at to s) refl e
  where
    by : (o : Option Stream) → stream_at to s ≡ o → Some local ≡ option_map (λ (x : Stream). x.local) o → piece_at to [] now s ≡ (Handled, without_stream local (connection_gone local s))
    by None f g = cc
    by (Some stream) f g = let same : local ≡ stream.local = cc in rw (f, same) refl

pub end-none : (to : SocketAddr) (now : ℕ) (s : State) → None ≡ option_map (λ (x : Stream). x.local) (stream_at to s) → piece_at to [] now s ≡ (Ignored, s)
end-none to now s e = by (stream_at to s) refl e
  where
    by : (o : Option Stream) → stream_at to s ≡ o → None ≡ option_map (λ (x : Stream). x.local) o → piece_at to [] now s ≡ (Ignored, s)
    by None f g = rw f refl
    by (Some stream) f g = cc
