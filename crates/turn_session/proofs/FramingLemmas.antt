-- Frames that are taken off a stream one by one.
use Rattle.std.proofs.Common.{◌≡◌, ◌∙◌, ℕ, zero, suc, ◌<◌, Bool, true, false, List, [], Option, Some, None, length, length-drop}
use Rattle.std.proofs.Common.{refl, sym, ap, subst, inl, inr, arith}
use Rattle.std.specs.Prelude.{IfOk, IsSomeAnd, OnErr, OnOk, Result, Ok, Err, is_some, option_map}
use Rattle.std.specs.declared.net.socket_addr.SocketAddr.{SocketAddr}
use Rattle.turn_stun.specs.declared.transport.TransportType.{TransportType}
use Rattle.turn_client_api.specs.Answers.{RecvEnds}
use Rattle.turn_client_api.specs.Payloads.{Outcome, Payload}
use Rattle.turn_client_api.specs.State.{State}
use Rattle.turn_client_api.specs.Streams.{owned, payload_in, poll_recv_step}
use Rattle.turn_types.proofs.FrameLemmas.{frame_len-IsWhole}
use Rattle.turn_types.proofs.RunLemmas.{next_frame-frame_len, next_frame-no_frame}
use Rattle.turn_types.specs.Frames.{begins_no_frame, frame_len}
use Rattle.turn_types.specs.Streams.{NextFrame, Stream, framed, next_frame, next_frame_of}
use Rattle.turn_session.specs.declared.given.Given.{Given}
use Rattle.turn_session.specs.declared.given.Given.TheVariants as Frame
use Rattle.turn_session.specs.declared.given.PeerBytes.{PeerBytes}
use Rattle.turn_session.specs.Framing.{CopyFails, DataFails, FailsAfter, FirstGives, FollowingFails, Follows, FrameFails, FrameGives, GivesNoData}
use Rattle.turn_session.specs.Framing.{TakingNextFails, PieceGives, TakesFrame, TakesNext, TakingFails, after_held, fed}
use Rattle.turn_session.specs.Given.{given_outcome}
use Rattle.turn_session.specs.Receiving.{Ends, Receives, outcome_after}
use Rattle.turn_session.specs.SessionState.{SessionState, with_frames}

-- ---- a result that is returned as it is

pub on-ok-with : {T E S : Type 0} {P Q : T → Type 0} (r : Result T E) → IfOk r P → OnOk r S → ((x : T) → P x → S → Q x) → IfOk r Q
on-ok-with (Ok x) p s f = f x p s
on-ok-with (Err e) p s f = p

pub on-ok : {T E : Type 0} {P Q : T → Type 0} (r : Result T E) → IfOk r P → ((x : T) → P x → Q x) → IfOk r Q
on-ok (Ok x) p f = f x p
on-ok (Err e) p f = p

pub on-err : {T E P Q : Type 0} (r : Result T E) → OnErr r P → (P → Q) → OnErr r Q
on-err (Ok x) p f = p
on-err (Err e) p f = f p

pub some-mapped : {A B : Type 0} (f : A → B) (o : Option A) → is_some (option_map f o) ≡ is_some o
some-mapped f None = refl
some-mapped f (Some x) = refl

-- ---- a frame as the server has sent it

pub record IsFromServer (client : State) (frame : List ℕ) (transport : TransportType) (from to : SocketAddr) (bytes : List ℕ) : Type 0 where
  pub is_frame : bytes ≡ frame
  pub is_transport : transport ≡ client.transport
  pub is_from : from ≡ client.remote
  pub is_to : to ≡ client.local

from-server : (P : TransportType → SocketAddr → SocketAddr → List ℕ → Type 0) (client : State) (frame : List ℕ) (transport : TransportType)
    (from to : SocketAddr) (bytes : List ℕ) → IsFromServer client frame transport from to bytes → P transport from to bytes
    → P client.transport client.remote client.local frame
from-server P client frame transport from to bytes is given =
    subst (λ (x : TransportType). P x client.remote client.local frame) is.is_transport
    (subst (λ (x : SocketAddr). P transport x client.local frame) is.is_from
    (subst (λ (x : SocketAddr). P transport from x frame) is.is_to
    (subst (λ (x : List ℕ). P transport from to x) is.is_frame given)))

pub frame-gives : (frame : List ℕ) (now : ℕ) (was t s : SessionState) (transport : TransportType) (from to : SocketAddr) (bytes : List ℕ) (said given : Outcome)
    → IsFromServer was.noted.client frame transport from to bytes → Receives transport from to bytes now was t
    → said ≡ outcome_after transport from to bytes now was → given ≡ owned said → s ≡ t → FrameGives frame now was s given
frame-gives frame now was t s transport from to bytes said given is receives said-is given-is same =
    let c = was.noted.client in
    let after = from-server (λ a b d e. Receives a b d e now was t) c frame transport from to bytes is receives in
    let outcome = from-server (λ a b d e. said ≡ outcome_after a b d e now was) c frame transport from to bytes is said-is in
    (subst (λ (v : SessionState). Receives c.transport c.remote c.local frame now was v) (sym same) after, given-is ∙ ap owned outcome)

pub client-fails : (frame : List ℕ) (now : ℕ) (was s : SessionState) (transport : TransportType) (from to : SocketAddr) (bytes : List ℕ)
    → IsFromServer was.noted.client frame transport from to bytes → RecvEnds to bytes now was.noted.client s.noted.client
    → Ends transport from to bytes now was s → FrameFails frame now was s
client-fails frame now was s transport from to bytes is fails ends =
    let c = was.noted.client in inl (
      from-server (λ a b d e. RecvEnds d e now c s.noted.client) c frame transport from to bytes is fails,
      from-server (λ a b d e. Ends a b d e now was s) c frame transport from to bytes is ends,
    )

pub copy-fails : (frame : List ℕ) (now : ℕ) (was t s : SessionState) (transport : TransportType) (from to : SocketAddr) (bytes : List ℕ) (said : Outcome)
    → IsFromServer was.noted.client frame transport from to bytes → Receives transport from to bytes now was t
    → said ≡ outcome_after transport from to bytes now was → CopyFails said t s → FrameFails frame now was s
copy-fails frame now was t s transport from to bytes said is receives said-is fails =
    let c = was.noted.client in
    let outcome = from-server (λ a b d e. said ≡ outcome_after a b d e now was) c frame transport from to bytes is said-is in inr (
      t,
      from-server (λ a b d e. Receives a b d e now was t) c frame transport from to bytes is receives,
      subst (λ (o : Outcome). CopyFails o t s) outcome fails,
    )

-- ---- fewer bytes are left

shorter-of : (s : Stream) (found : Option ℕ) (frame : List ℕ) → frame_len s.bytes ≡ found → (next_frame_of s found).frame ≡ Some frame
    → length (next_frame_of s found).after.bytes < length s.bytes
shorter-of s None frame is some = cc
shorter-of s (Some k) frame is some =
    let whole = frame_len-IsWhole s.bytes k is in omega (arith, whole.least, whole.within, length-drop k s.bytes)

shorter-by : (s : Stream) (frame : List ℕ) (begins : Bool) → begins_no_frame s.bytes ≡ begins → (next_frame s).frame ≡ Some frame
    → length (next_frame s).after.bytes < length s.bytes
shorter-by s frame true begins some =
    let none : (next_frame s).frame ≡ None = ap (λ (n : NextFrame). n.frame) (next_frame-no_frame s begins) in cc
shorter-by s frame false begins some =
    let is = next_frame-frame_len s (frame_len s.bytes) begins refl in
    subst (λ (n : NextFrame). length n.after.bytes < length s.bytes) (sym is)
    (shorter-of s (frame_len s.bytes) frame refl (ap (λ (n : NextFrame). n.frame) (sym is) ∙ some))

pub shorter : (s : Stream) (frame : List ℕ) → (next_frame s).frame ≡ Some frame → length (next_frame s).after.bytes < length s.bytes
shorter s frame some = shorter-by s frame (begins_no_frame s.bytes) refl some

-- ---- the first frame is taken out

-- one that gave something was there
pub frame-found : (found : Option (List ℕ)) (is_stuck : Bool) (now : ℕ) (u t : SessionState) (given : Option Outcome)
    → FirstGives found is_stuck now u t given → is_some given ≡ true → (frame : List ℕ) × (found ≡ Some frame)
frame-found (Some frame) is_stuck now u t given first some = (frame, refl)
frame-found None is_stuck now u t None first some = cc
frame-found None is_stuck now u t (Some outcome) first some = absurd first

pub none-found : (found : Option (List ℕ)) (is_stuck : Bool) (now : ℕ) (u t : SessionState) (given : Option Outcome)
    → FirstGives found is_stuck now u t given → is_some given ≡ false → found ≡ None
none-found None is_stuck now u t given first none = refl
none-found (Some frame) is_stuck now u t (Some outcome) first none = cc
none-found (Some frame) is_stuck now u t None first none = absurd first

pub taken : (now : ℕ) (was u t s : SessionState) (frames : Stream) (given : Option Outcome) → frames ≡ was.frames → u ≡ with_frames (framed []) was
    → s ≡ with_frames (next_frame frames).after t → FirstGives (next_frame frames).frame (begins_no_frame frames.bytes) now u t given
    → TakesFrame now was s given
taken now was u t s frames given same out put first = (
  t,
  subst (λ (f : Stream). FirstGives (next_frame f).frame (begins_no_frame f.bytes) now (with_frames (framed []) was) t given) same
      (subst (λ (v : SessionState). FirstGives (next_frame frames).frame (begins_no_frame frames.bytes) now v t given) out first),
  subst (λ (f : Stream). s ≡ with_frames (next_frame f).after t) same put,
)

pub taking-fails : (now : ℕ) (was u t s : SessionState) (frames : Stream) → frames ≡ was.frames → u ≡ with_frames (framed []) was
    → s ≡ with_frames (next_frame frames).after t → IsSomeAnd (next_frame frames).frame (λ frame. FrameFails frame now u t) → TakingFails now was s
taking-fails now was u t s frames same out put fails = (
  t,
  subst (λ (f : Stream). IsSomeAnd (next_frame f).frame (λ frame. FrameFails frame now (with_frames (framed []) was) t)) same
      (subst (λ (v : SessionState). IsSomeAnd (next_frame frames).frame (λ frame. FrameFails frame now v t)) out fails),
  subst (λ (f : Stream). s ≡ with_frames (next_frame f).after t) same put,
)

pub left-shorter : (was t s : SessionState) (frames : Stream) (frame : List ℕ) → frames ≡ was.frames → s ≡ with_frames (next_frame frames).after t
    → (next_frame frames).frame ≡ Some frame → length s.frames.bytes < length was.frames.bytes
left-shorter was t s frames frame same put some =
    let less = shorter frames frame some in
    subst (λ (f : Stream). length s.frames.bytes < length f.bytes) same
    (subst (λ (f : Stream). length f.bytes < length frames.bytes) (sym (ap (λ (v : SessionState). v.frames) put)) less)

-- ---- the client comes first

pub taking-next-fails : (now : ℕ) (was t s : SessionState) (held : Option Payload) → held ≡ (poll_recv_step now was.noted.client).0 → held ≡ None
    → t ≡ after_held now was → TakingFails now t s → TakingNextFails now was s
taking-next-fails now was t s held given none after fails =
    inr (subst (λ (h : Option Payload). FailsAfter h now (after_held now was) s) (sym none ∙ given)
    (subst (λ (v : SessionState). TakingFails now v s) after fails))

-- ---- more frames

no-data : (given : Given) → ((d : PeerBytes) → given ≡ Frame.PeerData d → ⊥) → payload_in (given_outcome given) ≡ None
no-data Frame.Handled not = refl
no-data Frame.Ignored not = refl
no-data (Frame.PeerData d) not = absurd (not d refl)
no-data (Frame.PeerIcmp r) not = refl

pub one-more : (now : ℕ) (was t s : SessionState) (given : Given) → (n : ℕ) × GivesNoData n now was t → TakesNext now t s (Some (given_outcome given))
    → ((d : PeerBytes) → given ≡ Frame.PeerData d → ⊥) → (n : ℕ) × GivesNoData n now was s
one-more now was t s given before takes not = (suc before.0, (t, before.1, given_outcome given, takes, no-data given not))

joined : (now m n : ℕ) (a b c : SessionState) → GivesNoData m now a b → GivesNoData n now b c → (k : ℕ) × GivesNoData k now a c
joined now m zero a b c first same = (m, subst (λ (s : SessionState). GivesNoData m now a s) (sym same) first)
joined now m (suc n) a b c first more =
    let before = joined now m n a b more.0 first more.1 in (suc before.0, (more.0, before.1, more.2, more.3, more.4))

pub first-fails : (now : ℕ) (first : Option Outcome) (a b c : SessionState) → TakesNext now a b first → FollowingFails now b c first → DataFails now a c
first-fails now None a b c takes fails = absurd fails.0
first-fails now (Some outcome) a b c takes fails =
    let rest = fails.1 in
    let all = joined now (suc zero) rest.0 a b rest.1 (a, refl, outcome, takes, fails.0) rest.2 in
    (all.0, rest.1, all.1, rest.3)

pub piece-gives : (piece : List ℕ) (now : ℕ) (was u t s : SessionState) (first : Option Outcome) (outcome : Outcome) → u ≡ fed piece was
    → TakesNext now u t first → Follows now t s first outcome → PieceGives piece now was s outcome
piece-gives piece now was u t s first outcome same takes follows =
    (t, first, subst (λ (v : SessionState). TakesNext now v t first) same takes, follows)
