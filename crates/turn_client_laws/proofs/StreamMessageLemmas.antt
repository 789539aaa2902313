-- Messages leave the streams unchanged, except that a stream may be bound.
use Rattle.turn_client_laws.proofs.Common.{◌≡◌, ◌⊎◌, ℕ, Bool, true, false, cond, List, refl, sym, inl, inr, find, ⊤, SocketAddr}
use Rattle.turn_client_laws.proofs.Machine.{id_of, Challenge, State, Bound, Stream, DataConnection, purposes_of, Judgement, Challenged, SignedSuccess, bind_judgement, is_bind_of, bind_again}
use Rattle.turn_client_laws.proofs.Machine.{bind_answered, with_mode, message_step, frame_step, cases_Option}
use Rattle.turn_client_laws.proofs.Edits.{KeepsEdits}
use Rattle.turn_client_laws.proofs.EditsOfMessages.{message-walk}
use Rattle.turn_client_laws.proofs.FixedFields.{fixed-all-edits, fixed-edits}
use Rattle.turn_client_laws.proofs.OneInputLemmas.{frame-by}
use Rattle.turn_client_laws.proofs.CaseLemmas.{bind-by, found-local}

-- the streams stay unchanged
abbrev pub Same : State → State → Type 0
Same s t = t.streams ≡ s.streams

pub same-cond : (b : Bool) (s t u : State) → Same s t → Same s u → Same s (cond b t u)
same-cond true s t u k l = k
same-cond false s t u k l = l

-- no edit of a message touches them
pub Same-KeepsEdits : KeepsEdits Same
Same-KeepsEdits = fixed-edits (λ f. f.1.1)

pub message-same : (message : List ℕ) (now : ℕ) (s : State) → Same s (message_step message now s).1
message-same message now s = message-walk ⊤ Same (fixed-all-edits (λ f. f.1.1)) message now s (λ h. tt)

-- ---- connections that wait to be bound

-- the streams stay, or those at one local address are bound
abbrev pub Rebound : State → State → Type 0
Rebound s t = Same s t ⊎ ((local peer : SocketAddr) × (t.streams ≡ (with_mode local (Bound peer) s).streams))

-- those at this one
abbrev pub ReboundAt : SocketAddr → State → State → Type 0
ReboundAt local s t = Same s t ⊎ ((peer : SocketAddr) × (t.streams ≡ (with_mode local (Bound peer) s).streams))

again-same : (c : DataConnection) (id : ℕ) (d : Challenge) (now : ℕ) (s : State) → Same s (bind_again c id d now s)
again-same c id d now s = elim (cases_Option (find (is_bind_of c.local) (purposes_of id s))) [ inl f ↦ rw f refl | inr (purpose, f) ↦ rw f refl ]

answered-rebound : (c : DataConnection) (message : List ℕ) (now : ℕ) (s : State) → ReboundAt c.local s (bind_answered c message now s)
answered-rebound c message now s = by (bind_judgement s c.local message) refl
  where
    by : (j : Judgement) → bind_judgement s c.local message ≡ j → ReboundAt c.local s (bind_answered c message now s)
    by (Challenged d) e = rw e (inl (again-same c (id_of message) d now s))
    by SignedSuccess e = rw e (inr (c.peer, refl))
    by j e = rw e (inl refl)

-- ---- frames

pub frame-rebound-at : (stream : Stream) (frame : List ℕ) (now : ℕ) (s : State) → ReboundAt stream.local s (frame_step stream frame now s).1
frame-rebound-at stream frame now s =
    frame-by Claim frame now s (inl refl) stream (λ mode whole. inl (message-same frame now s))
    (λ mode whole. bind-by Claim stream.local frame now s (inl refl) (λ c allocated found method. rw (sym (found-local stream.local c _ found)) (answered-rebound c frame now s)))
  where
    Claim : State → Type 0
    Claim t = ReboundAt stream.local s t

pub frame-rebound : (stream : Stream) (frame : List ℕ) (now : ℕ) (s : State) → Rebound s (frame_step stream frame now s).1
frame-rebound stream frame now s = elim (frame-rebound-at stream frame now s) [ inl same ↦ inl same | inr (peer, is) ↦ inr (stream.local, peer, is) ]
