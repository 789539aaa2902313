-- A stream is bound only by a signed success on it.
use Rattle.turn_client_laws.proofs.Common.{◌≡◌, ◌⊎◌, true, not, cond, List, [], ◌∷◌, Some, refl, sym, subst, ap, ◌∙◌, inl, inr, filter, is_some, Contains, SocketAddr, cases_Bool}
use Rattle.turn_client_laws.proofs.Machine.{same_address, State, Mode, Waiting, Bound, Stream, Permission, Channel, Connection, DataConnection, Pending, bind_step, connection_at, is_message}
use Rattle.turn_client_laws.proofs.Machine.{message_step, connection_gone, Leaves, state_after, Call, Delete, same_address-true, Has, has-append, has-filter}
use Rattle.turn_client_laws.specs.Handled.{Input}
use Rattle.turn_client_laws.specs.LawsBound.{IsBindInput, IsBoundBy, IsBoundConnection, IsConnectedBy}
use Rattle.turn_client_laws.specs.LawsGranted.{IsEndedNow, WasActive}
use Rattle.turn_client_laws.specs.LawsHandled.{IsBoundAt}
use Rattle.turn_client_laws.proofs.StandLemmas.{contains-has, has-contains}
use Rattle.turn_client_laws.proofs.GrantOriginLemmas.{has-mapped}
use Rattle.turn_client_laws.proofs.GrantOriginCallLemmas.{Binds, BindsOrLeaves, bind-leaves}
use Rattle.turn_client_laws.proofs.GrantedLemmas.{leaves-grants}
use Rattle.turn_client_laws.proofs.BoundLemmas.{binds-input}
use Rattle.turn_client_laws.proofs.CaseLemmas.{found-local}
use Rattle.turn_client_laws.proofs.StreamCallLemmas.{IsOpened, others-opened}
use Rattle.turn_client_laws.proofs.StreamMessageLemmas.{message-same, same-cond}
use Rattle.turn_client_laws.proofs.InputBringLemmas.{IsBrought, leaves-bring}

-- ---- streams

module _ (local peer : SocketAddr) where
  same-bound : (s t : State) → t.streams ≡ s.streams → IsBoundAt local peer t → IsBoundAt local peer s
  same-bound s t same (x, there, at, mode) = (x, subst (λ (xs : List Stream). Contains xs x) same there, at, mode)

  -- a stream whose mode was set, or not
  mode-was : (a : SocketAddr) (mode : Mode) (x z : Stream) → x ≡ cond (same_address z.local a) (record z { mode = mode }) z → (x ≡ z) ⊎ ((x.local ≡ a) × (x.mode ≡ mode))
  mode-was a mode x z e = elim (cases_Bool (same_address z.local a)) [
    | inl f ↦ let is : x ≡ record z { mode = mode } = e ∙ rw f refl in inr (rw is (same_address-true z.local a f), rw is refl)
    | inr f ↦ inl (e ∙ rw f refl)
  ]

  bind-bound : (one : Input) (stream : Stream) (t : State) → one.stream ≡ Some stream → stream.mode ≡ Waiting → is_message one.bytes ≡ true → Binds stream.local one.bytes one.before t
      → IsBoundAt local peer t → IsBoundAt local peer one.before ⊎ IsBindInput local peer one
  bind-bound one stream t of waits whole b (x, there, at, mode) = by (has-mapped f x one.before.streams (subst (Has x) b.streams (contains-has x t.streams there)))
    where
      f : Stream → Stream
      f z = cond (same_address z.local b.c.local) (record z { mode = Bound b.c.peer }) z

      same_peer : Bound b.c.peer ≡ Bound peer → b.c.peer ≡ peer
      same_peer e = cc

      bound : x.local ≡ b.c.local → x.mode ≡ Bound b.c.peer → IsBindInput local peer one
      bound ends is =
          let place : stream.local ≡ local = sym (found-local stream.local b.c _ b.found) ∙ (sym ends ∙ at) in
          let to : b.c.peer ≡ peer = same_peer (sym is ∙ mode) in
          subst (λ (p : SocketAddr). IsBindInput local p one) to
          (subst (λ (l : SocketAddr). IsBindInput l b.c.peer one) place (binds-input one stream t of waits whole b))

      by : (z : Stream) × Has z one.before.streams × (x ≡ f z) → IsBoundAt local peer one.before ⊎ IsBindInput local peer one
      by (z, before, e) = elim (mode-was b.c.local (Bound b.c.peer) x z e) [
        | inl same ↦ inl (x, has-contains x one.before.streams (subst (λ (y : Stream). Has y one.before.streams) (sym same) before), at, mode)
        | inr (ends, is) ↦ inr (bound ends is)
      ]

  gone-bound : (a : SocketAddr) (s : State) → IsBoundAt local peer (connection_gone a s) → IsBoundAt local peer s
  gone-bound a s = same-bound s (connection_gone a s) (same-cond (is_some (connection_at a s)) s _ _ refl refl)

  -- a stream that is bound was so before, or an input bound it
  pub bringing : IsBrought (IsBoundAt local peer) (IsBindInput local peer)
  bringing = record {
    differs = λ s t differs. differs.bound local peer;
    message = λ one over whole h. inl (same-bound one.before (message_step one.bytes one.time one.before).1 (message-same one.bytes one.time one.before) h);
    binds = λ one stream of waits whole. binds one stream of waits whole (bind-leaves stream.local one.bytes one.time one.before);
    gone = gone-bound;
    ended = λ s h. h;
  }
    where
      binds : (one : Input) (stream : Stream) → one.stream ≡ Some stream → stream.mode ≡ Waiting → is_message one.bytes ≡ true
          → BindsOrLeaves stream.local one.bytes one.before (bind_step stream.local one.bytes one.time one.before)
          → IsBoundAt local peer (bind_step stream.local one.bytes one.time one.before) → IsBoundAt local peer one.before ⊎ IsBindInput local peer one
      binds one stream of waits whole (inl b) h = bind-bound one stream (bind_step stream.local one.bytes one.time one.before) of waits whole b h
      binds one stream of waits whole (inr (leaves, same)) h = inl (same-bound one.before (bind_step stream.local one.bytes one.time one.before) same h)

  -- a new stream waits
  opened-bound : (s t : State) → IsOpened s t → IsBoundAt local peer t → IsBoundAt local peer s
  opened-bound s t (inl same) h = same-bound s t same h
  opened-bound s t (inr (a, is)) (x, there, at, mode) =
      let kept = filter (λ (z : Stream). not (same_address z.local a)) s.streams in
      elim (has-append x kept (record { local = a; mode = Waiting; bytes = [] } ∷ []) (subst (Has x) is (contains-has x t.streams there))) [
        | inl here ↦ (x, has-contains x s.streams (has-filter (λ (z : Stream). not (same_address z.local a)) x s.streams here).0, at, mode)
        | inr (inl e) ↦ let unlike : Waiting ≡ Bound peer = sym (ap (λ (z : Stream). z.mode) e) ∙ mode in cc
        | inr (inr none) ↦ absurd none
      ]

  pub leaves-bound : (call : Call) (s t : State) → Leaves call s t → IsBoundAt local peer t → IsBoundBy local peer call s
  leaves-bound call s t leaves h =
      elim (leaves-bring (IsBoundAt local peer) (IsBindInput local peer) bringing (λ call s. ⊥)
      (λ call s other there. inl (opened-bound s (state_after call s) (others-opened call s other) there)) call s t leaves h) [
        | inl there ↦ inl there
        | inr (inl none) ↦ absurd none
        | inr (inr did) ↦ inr did
      ]

-- ---- connections

pub leaves-connection : (call : Call) (s t : State) (c : DataConnection) → Leaves call s t → IsBoundConnection c t → IsConnectedBy c call s
leaves-connection call s t c leaves (there, none) = elim (leaves-grants call s t (Connection c) leaves there none) [
  | inl was ↦ inl (stood was, none)
  | inr (inl e) ↦ absurd (no_end call e)
  | inr (inr did) ↦ inr did
]
  where
    stood : WasActive s (Connection c) → Contains s.grants (Connection c)
    stood (Connection d, before, (same, h)) = subst (λ (x : DataConnection). Contains s.grants (Connection x)) same before
    stood (Permission ip (Pending is_kept), before, k) = absurd k
    stood (Channel number peer (Pending is_kept), before, k) = absurd k
    stood (was, before, k) = absurd k

    no_end : (call : Call) → IsEndedNow call s (Connection c) → ⊥
    no_end (Delete now) e = e
    no_end call e = e
