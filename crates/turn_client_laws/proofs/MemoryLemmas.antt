-- What a call leaves if memory allocation fails: what messages and the end of a client keep is kept.
use Rattle.turn_client_laws.proofs.Common.{◌≡◌, ◌⊎◌, ℕ, Bool, true, false, cond, List, Option, Some, None, refl, subst, sym, inl, inr, arith, IsSomeAnd, find, none-some, same_Some, SocketAddr}
use Rattle.turn_client_laws.proofs.Machine.{same_address, State, Mode, Control, Broken, Stream, closed, Payload, Outcome, PeerData, PeerIcmp, broken_at, is_ready, stream_at, first_frame_step}
use Rattle.turn_client_laws.proofs.Machine.{EndsAfterSteps, RecvEnds, before_others, EndsWithoutMemory, Leaves, state_after, Call, SendTo, Recv, PollRecv, Poll, PollTransmit, PollEvent}
use Rattle.turn_client_laws.proofs.Machine.{RelayedAddresses, Permissions, HavePermission, ProtocolError, SetPermissionKept, SetChannelKept, TcpClosed}
use Rattle.turn_client_laws.specs.LawsHandled.{TakesInput}
use Rattle.turn_client_laws.proofs.RunKeepLemmas.{IsKept, first_frame_step-kept, steps-kept}

-- ---- before all streams are processed

-- the state after a first step without data of a peer
unfoldable pub behind : Outcome × State → Option State
behind (PeerData payload, t) = None
behind (PeerIcmp transport peer icmp, t) = None
behind (_, t) = Some t

-- the control stream at this local address was processed once, or it is broken and nothing has changed
abbrev pub IsBehind : SocketAddr → List ℕ → ℕ → State → State → Type 0
IsBehind to piece now s u =
    (stream : Stream) × (stream_at to s ≡ Some stream) × (((stream.mode ≡ Control) × (u ≡ (first_frame_step stream piece now s).1)) ⊎ (u ≡ s))

behind-same : (p : Outcome × State) (u : State) → behind p ≡ Some u → u ≡ p.1
unfolding behind
behind-same p u e = grind arith

pub before-IsBehind : (to : SocketAddr) (piece : List ℕ) (now : ℕ) (s u : State) → before_others to piece now s ≡ Some u → IsBehind to piece now s u
unfolding behind
before-IsBehind to piece now s u e = by (stream_at to s) refl
  where
    in_mode : (m : Mode) (stream : Stream) → stream_at to s ≡ Some (record stream { mode = m }) → IsBehind to piece now s u
    in_mode Control stream f =
        let first = record stream { mode = Control } in
        (first, f, inl (refl, behind-same (first_frame_step first piece now s) u (rw f at e)))
    in_mode Broken stream f = (record stream { mode = Broken }, f, inr (at (same_address stream.local s.local) (rw f at e)))
      where
        at : (b : Bool) → cond b (Some s) None ≡ Some u → u ≡ s
        at true g = sym (same_Some s u g)
        at false g = absurd (none-some u g)
    in_mode m stream f = absurd (none-some u (rw f at e))

    by : (o : Option Stream) → stream_at to s ≡ o → IsBehind to piece now s u
    by None f = absurd (none-some u (rw f at e))
    by (Some stream) f = in_mode stream.mode stream f

-- ---- what is kept

-- without memory nothing changes, the client ends, or a call that processes inputs ends amid them
pub memory-ends : (call : Call) (s t : State) → EndsWithoutMemory call s t → (t ≡ s) ⊎ (t ≡ closed s) ⊎ (TakesInput call × EndsWithoutMemory call s t)
memory-ends (Recv packet now) s t end = inr (inr (tt, end))
memory-ends (PollRecv now) s t end = inr (inr (tt, end))
memory-ends (TcpClosed local remote now) s t none = absurd none
memory-ends (SendTo transport peer bytes now) s t none = absurd none
memory-ends (Poll now) s t e = inr (inl e)
memory-ends (PollTransmit now) s t e = inr (inl e)
memory-ends PollEvent s t none = absurd none
memory-ends RelayedAddresses s t none = absurd none
memory-ends (Permissions transport relayed) s t none = absurd none
memory-ends (HavePermission transport to) s t none = absurd none
memory-ends (SetPermissionKept transport peer is_kept) s t none = absurd none
memory-ends (SetChannelKept transport peer is_kept) s t none = absurd none
memory-ends ProtocolError s t e = inr (inl e)
memory-ends call s t e = inl e

module _ (R : State → State → Type 0) (k : IsKept R) (ends : (s : State) → R s (closed s)) where
  closed-kept : (s t u : State) → R s t → u ≡ closed t → R s u
  closed-kept s t u kept e = subst (λ (x : State). R s x) (sym e) (k.trans s t (closed t) kept (ends t))

  steps_end-kept : (now : ℕ) (s u : State) → EndsAfterSteps now s u → R s u
  steps_end-kept now s u (t, (n, led), broken) = by (find is_ready t.streams) broken
    where
      there : R s t
      there = subst (λ (p : Option Payload × State). R s p.1) led (steps-kept R k n now s)

      by : (o : Option Stream) → IsSomeAnd o (λ stream. u ≡ closed (broken_at stream.local t)) → R s u
      by None none = absurd none
      by (Some stream) e =
          let last = broken_at stream.local t in
          closed-kept s last u (k.trans s t last there (k.streams t last.streams)) e

  before-kept : (to : SocketAddr) (piece : List ℕ) (now : ℕ) (s u : State) → IsBehind to piece now s u → R s u
  before-kept to piece now s u (stream, f, inl (mode, e)) = subst (λ (x : State). R s x) (sym e) (first_frame_step-kept R k stream piece now s)
  before-kept to piece now s u (stream, f, inr e) = subst (λ (x : State). R s x) (sym e) (k.same s)

  recv_end-kept : (to : SocketAddr) (piece : List ℕ) (now : ℕ) (s t : State) → RecvEnds to piece now s t → R s t
  recv_end-kept to piece now s t (inl e) = closed-kept s (broken_at to s) t (k.streams s (broken_at to s).streams) e
  recv_end-kept to piece now s t (inr (over, some, later)) = by (before_others to piece now s) refl later
    where
      by : (o : Option State) → before_others to piece now s ≡ o → IsSomeAnd o (λ u. EndsAfterSteps now u t) → R s t
      by None e none = absurd none
      by (Some u) e h = k.trans s u t (before-kept to piece now s u (before-IsBehind to piece now s u e)) (steps_end-kept now u t h)

  amid-kept : (call : Call) (s t : State) → TakesInput call → EndsWithoutMemory call s t → R s t
  amid-kept (Recv packet now) s t takes (asks, end) = recv_end-kept packet.to packet.payload now s t end
  amid-kept (PollRecv now) s t takes end = steps_end-kept now s t end
  amid-kept call s t takes end = absurd takes

  memory-kept : (call : Call) (s t : State) → EndsWithoutMemory call s t → R s t
  memory-kept call s t end = by (memory-ends call s t end)
    where
      by : (t ≡ s) ⊎ (t ≡ closed s) ⊎ (TakesInput call × EndsWithoutMemory call s t) → R s t
      by (inl e) = subst (λ (x : State). R s x) (sym e) (k.same s)
      by (inr (inl e)) = closed-kept s s t (k.same s) e
      by (inr (inr (takes, end))) = amid-kept call s t takes end

  -- what each call keeps without an allocation failure, each call keeps with one
  pub leaves-kept : ((call : Call) (s : State) → R s (state_after call s)) → (call : Call) (s t : State) → Leaves call s t → R s t
  leaves-kept after call s t (inl e) = subst (λ (x : State). R s x) (sym e) (after call s)
  leaves-kept after call s t (inr h) = memory-kept call s t h
