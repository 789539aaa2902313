-- The peers whose data is returned.
use Rattle.turn_client_laws.proofs.Common.{◌≡◌, ℕ, suc, arith, Bool, true, false, not, cond, eqb, List, [], ◌∷◌, Option, Some, None, refl, inl, inr, slice_get, filter_map, Contains, socket_ip}
use Rattle.turn_client_laws.proofs.Common.{eqb-true, IpAddr, SocketAddr, option_map_or}
use Rattle.turn_client_laws.proofs.Machine.{Attribute, id_of, MessageClass, channel_data_at, begins_message, data_kind, validation_of, Validation, Validated, ResendRequest, Refused, Challenge, State}
use Rattle.turn_client_laws.proofs.Machine.{auth_of, Phase, Requesting, Authenticating, Allocated, Grant, Permission, Channel, Progress, Active, Mode, Control, Waiting, Bound, Broken, Stream, Purpose}
use Rattle.turn_client_laws.proofs.Machine.{channel_peer, first_in, has_active_permission, permission_progress, is_active, same_ip, Judgement, Unrelated, Challenged, Fatal, LateResponse}
use Rattle.turn_client_laws.proofs.Machine.{DataIndication, ConnectionAttempt, SignedRequest, SignedSuccess, SignedError, judgement_of, has_unknown, last_in, last_peer_in, last_icmp_in}
use Rattle.turn_client_laws.proofs.Machine.{is_data_indication, attempt_indicated, attempt_requested, connection_attempt_method, is_outstanding, method_in, class_in, by_class, challenged_or}
use Rattle.turn_client_laws.proofs.Machine.{challenge_in, answers_allocate, requesting_judgement, authenticating_judgement, allocated_judgement, Handled, Ignored, PeerData, PeerIcmp, outcome_for}
use Rattle.turn_client_laws.proofs.Machine.{signed_step, challenge_step, Outcome, data_indicated, data_of, channel_sent, message_step, datagram_step, is_message, is_channel_frame, frame_step}
use Rattle.turn_client_laws.proofs.Machine.{control_frame_step, waiting_frame_step, same_ip-true, Lease}
use Rattle.turn_types.specs.declared.attribute.icmp_report.Icmp.{Icmp}
use Rattle.turn_client_laws.specs.LawsPeers.{IsIndicated, IsMessageFromPermitted, IsFromPermitted, HasNoPeer}

pub Contains-here : {X : Type 0} (x : X) (xs : List X) → Contains (x ∷ xs) x
Contains-here x xs = (0, omega (arith), refl)

pub Contains-later : {X : Type 0} (x y : X) (xs : List X) → Contains xs x → Contains (y ∷ xs) x
Contains-later x y xs (k, within, is) = (suc k, omega (arith, within), is)

-- the IP address has an active permission, also with one grant more
later : (ip : IpAddr) (g : Grant) (gs : List Grant) → (expiry : Lease) × Contains gs (Permission ip (Active expiry)) → (expiry : Lease) × Contains (g ∷ gs) (Permission ip (Active expiry))
later ip g gs (expiry, at) = (expiry, Contains-later (Permission ip (Active expiry)) g gs at)

active-here : (ip other : IpAddr) (p : Progress) (gs : List Grant) → other ≡ ip → is_active (Some p) ≡ true → (expiry : Lease) × Contains (Permission other p ∷ gs) (Permission ip (Active expiry))
active-here ip other (Active expiry) gs e h = rw e (expiry, Contains-here (Permission ip (Active expiry)) gs)
active-here ip other p gs e h = cc

-- the first of the permissions of an IP address, if it is active, is one of the grants
permitted-in : (ip : IpAddr) (grants : List Grant) → is_active (slice_get (filter_map (permission_progress ip) grants) 0) ≡ true → (expiry : Lease) × Contains grants (Permission ip (Active expiry))
permitted-in ip [] h = cc
permitted-in ip (Permission other p ∷ gs) h = by (permitted-in ip gs) (same_ip other ip) refl
  where
    by : (is_active (slice_get (filter_map (permission_progress ip) gs) 0) ≡ true → (expiry : Lease) × Contains gs (Permission ip (Active expiry))) → (b : Bool) → same_ip other ip ≡ b
        → (expiry : Lease) × Contains (Permission other p ∷ gs) (Permission ip (Active expiry))
    by more true e = active-here ip other p gs (same_ip-true other ip e) (rw e at h)
    by more false e = later ip (Permission other p) gs (more (rw e at h))
permitted-in ip (x ∷ gs) h = later ip x gs (permitted-in ip gs h)

later-channel : (number : ℕ) (peer : SocketAddr) (g : Grant) (gs : List Grant) → (expiry : Lease) × Contains gs (Channel number peer (Active expiry)) → (expiry : Lease)
    × Contains (g ∷ gs) (Channel number peer (Active expiry))
later-channel number peer g gs (expiry, at) = (expiry, Contains-later (Channel number peer (Active expiry)) g gs at)

-- the peer of the first active channel of a number
channel-in : (number : ℕ) (peer : SocketAddr) (grants : List Grant) → slice_get (filter_map (channel_peer number) grants) 0 ≡ Some peer → (expiry : Lease)
    × Contains grants (Channel number peer (Active expiry))
channel-in number peer [] h = cc
channel-in number peer (Channel other to (Active expiry) ∷ gs) h = by (channel-in number peer gs) (eqb other number) refl
  where
    by : (slice_get (filter_map (channel_peer number) gs) 0 ≡ Some peer → (later : Lease) × Contains gs (Channel number peer (Active later))) → (b : Bool) → eqb other number ≡ b → (later : Lease)
        × Contains (Channel other to (Active expiry) ∷ gs) (Channel number peer (Active later))
    by more true e =
        let same : other ≡ number = eqb-true other number e in
        let is : Some to ≡ Some peer = rw e at h in
        let peers : to ≡ peer = cc in
        rw (same, peers) (expiry, Contains-here (Channel number peer (Active expiry)) gs)
    by more false e = later-channel number peer (Channel other to (Active expiry)) gs (more (rw e at h))
channel-in number peer (g ∷ gs) h = later-channel number peer g gs (channel-in number peer gs h)

-- ---- replies and challenges return no data of a peer

nobodys : (bytes : List ℕ) (s : State) (outcome : Outcome) → HasNoPeer outcome → IsMessageFromPermitted bytes s outcome
nobodys bytes s (PeerData payload) is = absurd is
nobodys bytes s (PeerIcmp transport peer icmp) is = absurd is
nobodys bytes s outcome is = tt

handled-if : (b : Bool) (t u : State) → HasNoPeer (cond {A = Outcome × State} b (Handled, t) (Ignored, u)).0
handled-if b t u = grind arith

outcome_for-nobodys : (message : List ℕ) (purposes : List Purpose) → HasNoPeer (outcome_for message purposes)
outcome_for-nobodys message purposes = grind arith

signed_step-nobodys : (is_granted : Bool) (message : List ℕ) (now : ℕ) (s : State) → HasNoPeer (signed_step is_granted message now s).0
signed_step-nobodys is_granted message now s = grind (arith, outcome_for-nobodys)

challenge_step-nobodys : (message : List ℕ) (challenge : Challenge) (now : ℕ) (s : State) → HasNoPeer (challenge_step message challenge now s).0
challenge_step-nobodys message challenge now s = grind arith

attempt-nobodys : (o : Option State) (s : State) → HasNoPeer (option_map_or {T = State} {U = Outcome × State} (λ t. (Handled, t)) o (Ignored, s)).0
attempt-nobodys o s = grind arith

-- ---- messages

by_class-unlike : (class : MessageClass) → by_class class ≡ DataIndication → ⊥
by_class-unlike class e = grind arith

challenged_or-unlike : (j : Judgement) (o : Option Challenge) → (j ≡ DataIndication → ⊥) → challenged_or j o ≡ DataIndication → ⊥
challenged_or-unlike j o not_j e = grind arith

cond-unlike : (b : Bool) (j k : Judgement) → (j ≡ DataIndication → ⊥) → (k ≡ DataIndication → ⊥) → cond b j k ≡ DataIndication → ⊥
cond-unlike b j k not_j not_k e = grind arith

requesting-unlike : (s : State) (message : List ℕ) → requesting_judgement s message ≡ DataIndication → ⊥
requesting-unlike s message = grind arith

authenticating-unlike : (s : State) (message : List ℕ) → authenticating_judgement s message ≡ DataIndication → ⊥
authenticating-unlike s message = by (validation_of (auth_of s) message) refl
  where
    by : (v : Validation) → validation_of (auth_of s) message ≡ v → authenticating_judgement s message ≡ DataIndication → ⊥
    by (Validated algorithm) e = rw e (cond-unlike (answers_allocate s message) (challenged_or (cond (is_outstanding (id_of message) s.transactions) (by_class (class_in message)) LateResponse)
        (challenge_in s message)) Unrelated (challenged_or-unlike _ (challenge_in s message)
        (cond-unlike (is_outstanding (id_of message) s.transactions) (by_class (class_in message)) LateResponse (by_class-unlike (class_in message)) (λ e. cc))) (λ e. cc))
    by (Refused integrity) e = rw e (cond-unlike (answers_allocate s message) (challenged_or (cond integrity Fatal Unrelated) (challenge_in s message)) Unrelated
        (challenged_or-unlike _ (challenge_in s message) (cond-unlike integrity Fatal Unrelated (λ e. cc) (λ e. cc))) (λ e. cc))
    by (ResendRequest algorithm) e = rw e (cond-unlike (answers_allocate s message) (challenged_or Unrelated (challenge_in s message)) Unrelated
        (challenged_or-unlike Unrelated (challenge_in s message) (λ e. cc)) (λ e. cc))

allocated-indication : (s : State) (message : List ℕ) → allocated_judgement s message ≡ DataIndication → is_data_indication message ≡ true
allocated-indication s message = grind arith

-- only a DATA indication is judged to be from a peer, and only in this phase
DataIndication-indication : (s : State) (message : List ℕ) → judgement_of s message ≡ DataIndication → (s.phase ≡ Allocated) × (is_data_indication message ≡ true)
DataIndication-indication s message = by s.phase refl
  where
    by : (p : Phase) → s.phase ≡ p → judgement_of s message ≡ DataIndication → (s.phase ≡ Allocated) × (is_data_indication message ≡ true)
    by Requesting e = rw e (λ h. absurd (requesting-unlike s message h))
    by Authenticating e = rw e (λ h. absurd (authenticating-unlike s message h))
    by Allocated e = rw e (λ h. (refl, allocated-indication s message h))
    by p e = rw e (λ h. cc)

indicated-IsMessageFromPermitted : (message : List ℕ) (s : State) → s.phase ≡ Allocated → is_data_indication message ≡ true → IsMessageFromPermitted message s (data_indicated s message)
indicated-IsMessageFromPermitted message s phase is =
    by (has_unknown message) refl (last_peer_in message) refl (last_in data_kind message) refl (last_icmp_in message) refl
  where
    by_permission : (peer : SocketAddr) → has_unknown message ≡ false → last_peer_in message ≡ Some peer → (o : Outcome) → (IsIndicated message peer s → IsMessageFromPermitted message s o)
        → (b : Bool) → has_active_permission (socket_ip peer) s ≡ b → IsMessageFromPermitted message s (cond b o Ignored)
    by_permission peer known named o then false e = tt
    by_permission peer known named o then true e =
        then (record { phase = phase; indication = is; known = known; named = named; permitted = permitted-in (socket_ip peer) s.grants e })

    by : (b : Bool) → has_unknown message ≡ b → (p : Option SocketAddr) → last_peer_in message ≡ p → (a : Option Attribute) → last_in data_kind message ≡ a → (i : Option Icmp)
        → last_icmp_in message ≡ i → IsMessageFromPermitted message s (data_indicated s message)
    by true e p f a g i h = rw e tt
    by false e None f a g i h = rw (e, f) tt
    by false e (Some peer) f None g None h = rw (e, f, g, h) tt
    by false e (Some peer) f None g (Some icmp) h = rw (e, f, g, h) (by_permission peer e f (PeerIcmp s.config.allocation_transport peer icmp) (λ is. (is, (g, h, refl)))
        (has_active_permission (socket_ip peer) s) refl)
    by false e (Some peer) f (Some a) g i h = rw (e, f, g) (by_permission peer e f (data_of s peer a.offset a.value) (λ is. inl (is, (a, g, refl))) (has_active_permission (socket_ip peer) s) refl)

message-IsMessageFromPermitted : (message : List ℕ) (now : ℕ) (s : State) → IsMessageFromPermitted message s (message_step message now s).0
message-IsMessageFromPermitted message now s = by (judgement_of s message) refl
  where
    by : (j : Judgement) → judgement_of s message ≡ j → IsMessageFromPermitted message s (message_step message now s).0
    by (Challenged challenge) e = rw e (nobodys message s _ (challenge_step-nobodys message challenge now s))
    by DataIndication e = let (phase, is) = DataIndication-indication s message e in rw e (indicated-IsMessageFromPermitted message s phase is)
    by ConnectionAttempt e = rw e (nobodys message s _ (attempt-nobodys (attempt_indicated message s) s))
    by SignedRequest e = rw e (nobodys message s _ (handled-if (eqb (method_in message) connection_attempt_method) (attempt_requested message s) s))
    by SignedSuccess e = rw e (nobodys message s _ (signed_step-nobodys true message now s))
    by SignedError e = rw e (nobodys message s _ (signed_step-nobodys false message now s))
    by j e = rw e tt

channel_sent-IsMessageFromPermitted : (frame : List ℕ) (s : State) → IsMessageFromPermitted frame s (channel_sent s frame)
channel_sent-IsMessageFromPermitted frame s = by (first_in (channel_peer (channel_data_at frame).id) s) refl
  where
    by : (o : Option SocketAddr) → first_in (channel_peer (channel_data_at frame).id) s ≡ o → IsMessageFromPermitted frame s (channel_sent s frame)
    by None e = rw e tt
    by (Some peer) e = rw e (inr (channel-in (channel_data_at frame).id peer s.grants e, refl))

pub datagram-IsMessageFromPermitted : (bytes : List ℕ) (now : ℕ) (s : State) → IsMessageFromPermitted bytes s (datagram_step bytes now s).0
datagram-IsMessageFromPermitted bytes now s = by (is_message bytes) (is_channel_frame bytes)
  where
    by : (b c : Bool) → IsMessageFromPermitted bytes s (cond {A = Outcome × State} b (message_step bytes now s) (cond c (channel_sent s bytes, s) (Ignored, s))).0
    by true c = message-IsMessageFromPermitted bytes now s
    by false true = channel_sent-IsMessageFromPermitted bytes s
    by false false = tt

-- ---- frames

control-IsMessageFromPermitted : (frame : List ℕ) (now : ℕ) (s : State) → IsMessageFromPermitted frame s (control_frame_step frame now s).0
control-IsMessageFromPermitted frame now s = by (begins_message frame) (is_message frame)
  where
    by : (b c : Bool) → IsMessageFromPermitted frame s (cond {A = Outcome × State} (not b) (channel_sent s frame, s) (cond c (message_step frame now s) (Handled, s))).0
    by false c = channel_sent-IsMessageFromPermitted frame s
    by true true = message-IsMessageFromPermitted frame now s
    by true false = tt

waiting-nobodys : (local : SocketAddr) (frame : List ℕ) (now : ℕ) (s : State) → HasNoPeer (waiting_frame_step local frame now s).0
waiting-nobodys local frame now s = grind arith

pub frame-IsFromPermitted : (stream : Stream) (frame : List ℕ) (now : ℕ) (s : State) → IsFromPermitted stream.mode frame s (frame_step stream frame now s).0
frame-IsFromPermitted stream frame now s = by stream.mode refl
  where
    by : (m : Mode) → stream.mode ≡ m → IsFromPermitted stream.mode frame s (frame_step stream frame now s).0
    by Control e = rw e (control-IsMessageFromPermitted frame now s)
    by Waiting e = rw e (waiting-nobodys stream.local frame now s)
    by (Bound peer) e = rw e refl
    by Broken e = rw e tt
