-- How the step of a stream leaves the other streams.
use Rattle.turn_client_laws.proofs.Common.{◌≡◌, ℕ, Bool, true, false, cond, List, [], ◌∷◌, map, take, drop, Option, Some, None, refl, sym, ap, ◌∙◌, inl, inr, SocketAddr}
use Rattle.turn_client_laws.proofs.Machine.{begins_no_frame, frame_len, State, Mode, Bound, Broken, Stream, with_mode, Outcome, Handled, broken_at, frame_step, framed_by, framed_stream_step}
use Rattle.turn_client_laws.proofs.Machine.{next_frame_step, detached_frame_step, with_bytes}
use Rattle.turn_client_laws.specs.LawsBodies.{IsAsideFrom}
use Rattle.turn_client_laws.proofs.StreamDrainLemmas.{broken_by, broken_by-Sets, bytes_by, bytes_by-Sets, map-map, mode_by, mode_by-KeepsHeld}
use Rattle.turn_client_laws.proofs.StreamMessageLemmas.{ReboundAt, Same, frame-rebound-at}

-- ---- changes of streams

map-self : (xs : List Stream) → map (λ x. x) xs ≡ xs
map-self [] = refl
map-self (x ∷ xs) = ap (λ ys. x ∷ ys) (map-self xs)

same-aside : (local : SocketAddr) (s t : State) → Same s t → IsAsideFrom local s t
same-aside local s t e = record { change = λ x. x; same = e ∙ sym (map-self s.streams); ends = λ x. refl; others = λ x h. refl }

aside-then : (local : SocketAddr) (s t u : State) → IsAsideFrom local s t → IsAsideFrom local t u → IsAsideFrom local s u
aside-then local s t u first later = record {
  change = λ x. later.change (first.change x);
  same = later.same ∙ (ap (map later.change) first.same ∙ sym (map-map first.change later.change s.streams));
  ends = λ x. later.ends (first.change x) ∙ first.ends x;
  others = λ x h. ap later.change (first.others x h) ∙ later.others x h;
}

pub bytes-aside : (local : SocketAddr) (bytes : List ℕ) (s : State) → IsAsideFrom local s (with_bytes local bytes s)
unfolding bytes_by
bytes-aside local bytes s = record { change = bytes_by local bytes; same = refl; ends = (bytes_by-Sets local bytes).keeps; others = λ x h. rw h refl }

pub broken-aside : (local : SocketAddr) (s : State) → IsAsideFrom local s (broken_at local s)
unfolding broken_by
broken-aside local s = record { change = broken_by local; same = refl; ends = (broken_by-Sets local).keeps; others = λ x h. rw h refl }

mode-aside : (local : SocketAddr) (mode : Mode) (s : State) → IsAsideFrom local s (with_mode local mode s)
unfolding mode_by
mode-aside local mode s = record { change = mode_by local mode; same = refl; ends = (mode_by-KeepsHeld local mode).local; others = λ x h. rw h refl }

-- the streams of another state with the same ones
aside-alike : (local : SocketAddr) (s t u : State) → IsAsideFrom local s t → Same t u → IsAsideFrom local s u
aside-alike local s t u aside same = record { change = aside.change; same = same ∙ aside.same; ends = aside.ends; others = aside.others }

-- ---- one frame

pub frame-aside : (stream : Stream) (frame : List ℕ) (now : ℕ) (s : State) → IsAsideFrom stream.local s (frame_step stream frame now s).1
frame-aside stream frame now s = by (frame-rebound-at stream frame now s)
  where
    by : ReboundAt stream.local s (frame_step stream frame now s).1 → IsAsideFrom stream.local s (frame_step stream frame now s).1
    by (inl same) = same-aside stream.local s _ same
    by (inr (peer, is)) = aside-alike stream.local s (with_mode stream.local (Bound peer) s) _ (mode-aside stream.local (Bound peer) s) is

-- ---- a step

framed-aside : (stream : Stream) (now : ℕ) (t : State) → IsAsideFrom stream.local t (framed_stream_step stream now t).1
framed-aside stream now t = by (begins_no_frame stream.bytes) (frame_len stream.bytes)
  where
    by : (b : Bool) (o : Option ℕ) → IsAsideFrom stream.local t (cond {A = Outcome × State} b (Handled, broken_at stream.local t) (framed_by stream now t o)).1
    by true o = broken-aside stream.local t
    by false None = bytes-aside stream.local stream.bytes t
    by false (Some len) =
        let u = (frame_step stream (take len stream.bytes) now t).1 in
        aside-then stream.local t u _ (frame-aside stream (take len stream.bytes) now t) (bytes-aside stream.local (drop len stream.bytes) u)

detached_in_mode : (m : Mode) (stream : Stream) (now : ℕ) (t : State) → IsAsideFrom stream.local t (detached_frame_step (record stream { mode = m }) now t).1
detached_in_mode (Bound peer) stream now t = same-aside stream.local t t refl
detached_in_mode Broken stream now t = same-aside stream.local t t refl
detached_in_mode m stream now t = framed-aside (record stream { mode = m }) now t

pub step-aside : (stream : Stream) (now : ℕ) (s : State) → IsAsideFrom stream.local s (next_frame_step stream now s).1
step-aside stream now s =
    aside-then stream.local s (with_bytes stream.local [] s) _ (bytes-aside stream.local [] s)
    (detached_in_mode stream.mode stream now (with_bytes stream.local [] s))
