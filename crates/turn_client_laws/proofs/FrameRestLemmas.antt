-- The effect of a frame is independent of the bytes after it.
use Rattle.turn_client_laws.proofs.Common.{◌≡◌, ℕ, Bool, true, false, not, cond, eqb, List, [], ◌∷◌, map, Option, Some, None, refl, ap, sym, ◌∙◌, inl, inr, find, SocketAddr, cases_Bool}
use Rattle.turn_client_laws.proofs.Machine.{id_of, begins_message, Challenge, same_address, State, Mode, Control, Waiting, Bound, Stream, DataConnection, Phase, Allocated, purposes_of}
use Rattle.turn_client_laws.proofs.Machine.{connection_bind_method, Judgement, Challenged, SignedSuccess, bind_judgement, is_bind_of, method_in, bind_again, bind_answered, bind_step, connection_at}
use Rattle.turn_client_laws.proofs.Machine.{Outcome, Handled, is_message, message_step, control_frame_step, frame_step, waiting_frame_step, with_bytes, cases_Option}
use Rattle.turn_client_laws.proofs.StreamMessageLemmas.{message-same}
use Rattle.turn_client_laws.proofs.AnyStreamsLemmas.{both_with, message-alike}

-- ---- bytes and modes

abbrev pub bytes_by : SocketAddr → List ℕ → Stream → Stream
bytes_by a bytes stream = cond (same_address stream.local a) (record stream { bytes = bytes }) stream

abbrev pub mode_by : SocketAddr → Mode → Stream → Stream
mode_by a mode stream = cond (same_address stream.local a) (record stream { mode = mode }) stream

swapped : (a b : SocketAddr) (bytes : List ℕ) (mode : Mode) (stream : Stream) → mode_by b mode (bytes_by a bytes stream) ≡ bytes_by a bytes (mode_by b mode stream)
swapped a b bytes mode stream = elim (cases_Bool (same_address stream.local a)) [
  | inl e ↦ elim (cases_Bool (same_address stream.local b)) [ inl f ↦ rw (e, f, e) refl | inr f ↦ rw (e, f, e) refl ]
  | inr e ↦ elim (cases_Bool (same_address stream.local b)) [ inl f ↦ rw (e, f, e) refl | inr f ↦ rw (e, f, e) refl ]
]

all-swapped : (a b : SocketAddr) (bytes : List ℕ) (mode : Mode) (xs : List Stream) → map (mode_by b mode) (map (bytes_by a bytes) xs) ≡ map (bytes_by a bytes) (map (mode_by b mode) xs)
all-swapped a b bytes mode [] = refl
all-swapped a b bytes mode (x ∷ xs) = rw (swapped a b bytes mode x, all-swapped a b bytes mode xs) refl

-- an outcome, with these bytes after it
abbrev pub both : SocketAddr → List ℕ → Outcome × State → Outcome × State
both a bytes p = (p.0, with_bytes a bytes p.1)

module _ (a : SocketAddr) (bytes : List ℕ) where
  again-bytes : (c : DataConnection) (id : ℕ) (d : Challenge) (now : ℕ) (s : State) → bind_again c id d now (with_bytes a bytes s) ≡ with_bytes a bytes (bind_again c id d now s)
  again-bytes c id d now s = elim (cases_Option (find (is_bind_of c.local) (purposes_of id s))) [ inl f ↦ rw f refl | inr (purpose, f) ↦ rw f refl ]

  answered-bytes : (c : DataConnection) (message : List ℕ) (now : ℕ) (s : State) → bind_answered c message now (with_bytes a bytes s) ≡ with_bytes a bytes (bind_answered c message now s)
  answered-bytes c message now s = by (bind_judgement s c.local message) refl
    where
      by : (j : Judgement) → bind_judgement s c.local message ≡ j → bind_answered c message now (with_bytes a bytes s) ≡ with_bytes a bytes (bind_answered c message now s)
      by (Challenged d) e = rw e (again-bytes c (id_of message) d now s)
      by SignedSuccess e = rw e (rw (all-swapped a c.local bytes (Bound c.peer) s.streams) refl)
      by j e = rw e refl

  bind_in_phase : (p : Phase) (local : SocketAddr) (message : List ℕ) (now : ℕ) (s : State)
      → bind_step local message now (with_bytes a bytes (record s { phase = p })) ≡ with_bytes a bytes (bind_step local message now (record s { phase = p }))
  bind_in_phase Allocated local message now s = by (connection_at local s) refl (eqb (method_in message) connection_bind_method) refl
    where
      u : State
      u = record s { phase = Allocated }

      by : (o : Option DataConnection) → connection_at local s ≡ o → (b : Bool) → eqb (method_in message) connection_bind_method ≡ b
          → bind_step local message now (with_bytes a bytes u) ≡ with_bytes a bytes (bind_step local message now u)
      by None e b f = rw e refl
      by (Some c) e true f = rw (e, f) (answered-bytes c message now u)
      by (Some c) e false f = rw (e, f) refl
  bind_in_phase p local message now s = refl

  pub bind-bytes : (local : SocketAddr) (message : List ℕ) (now : ℕ) (s : State) → bind_step local message now (with_bytes a bytes s) ≡ with_bytes a bytes (bind_step local message now s)
  bind-bytes local message now s = bind_in_phase s.phase local message now s

  pub message-bytes : (message : List ℕ) (now : ℕ) (s : State) → message_step message now (with_bytes a bytes s) ≡ both a bytes (message_step message now s)
  message-bytes message now s =
      let p = message_step message now s in
      message-alike (map (bytes_by a bytes) s.streams) message now s
      ∙ ap (λ (x : List Stream). both_with (map (bytes_by a bytes) x) p) (sym (message-same message now s))

  frame_in_mode : (m : Mode) (stream : Stream) (frame : List ℕ) (now : ℕ) (s : State)
      → frame_step (record stream { mode = m }) frame now (with_bytes a bytes s) ≡ both a bytes (frame_step (record stream { mode = m }) frame now s)
  frame_in_mode Control stream frame now s = by (not (begins_message frame)) refl (is_message frame) refl
    where
      by : (b : Bool) → not (begins_message frame) ≡ b → (c : Bool) → is_message frame ≡ c → control_frame_step frame now (with_bytes a bytes s) ≡ both a bytes (control_frame_step frame now s)
      by true e c f = rw e refl
      by false e true f = rw (e, f) (message-bytes frame now s)
      by false e false f = rw (e, f) refl
  frame_in_mode Waiting stream frame now s = by (not (begins_message frame)) refl (is_message frame) refl
    where
      by : (b : Bool) → not (begins_message frame) ≡ b → (c : Bool) → is_message frame ≡ c
          → waiting_frame_step stream.local frame now (with_bytes a bytes s) ≡ both a bytes (waiting_frame_step stream.local frame now s)
      by true e c f = rw e refl
      by false e true f = rw (e, f) (ap (λ (t : State). (Handled, t)) (bind-bytes stream.local frame now s))
      by false e false f = rw (e, f) refl
  frame_in_mode m stream frame now s = refl

  pub frame-bytes : (stream : Stream) (frame : List ℕ) (now : ℕ) (s : State) → frame_step stream frame now (with_bytes a bytes s) ≡ both a bytes (frame_step stream frame now s)
  frame-bytes stream frame now s = frame_in_mode stream.mode stream frame now s
