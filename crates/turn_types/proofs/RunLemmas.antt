-- Over any calls a stream returns the frames of its bytes.
use Rattle.std.proofs.Common.{◌≡◌, ℕ, ◌≤◌, Bool, true, false, if◌then◌else◌, List, [], ◌∷◌, ◌++◌, length, take, drop, Option, Some, None, refl, sym, ap, subst, ◌∙◌, append_assoc}
use Rattle.std.proofs.lemmas.List.{append-nil, take-append-le, drop-append-le}
use Rattle.turn_types.specs.Frames.{Frames, begins_no_frame, frame_len, frames_of}
use Rattle.turn_types.specs.Streams.{Stream, NextFrame, Call, Run, GivesFrames, broken_stream, framed, next_frame, next_frame_of, given_first, run_of, bytes_in}
use Rattle.turn_types.specs.Streams.Call.{Piece, Feed, Poll}
use Rattle.turn_types.proofs.FrameLemmas.{begins_no_frame-append, begins_no_frame-frame_len, frame_len-IsWhole, frame_len-append}
use Rattle.turn_types.proofs.SplitLemmas.{frames_of-none, frames_of-some}

-- a broken stream returns nothing and stays broken
pub run_of-broken_stream : (calls : List Call) → run_of broken_stream calls ≡ record { given = []; after = broken_stream }
run_of-broken_stream [] = refl
run_of-broken_stream (Piece piece ∷ calls) = ap (given_first None) (run_of-broken_stream calls)
run_of-broken_stream (Feed piece ∷ calls) = ap (given_first None) (run_of-broken_stream calls)
run_of-broken_stream (Poll ∷ calls) = ap (given_first None) (run_of-broken_stream calls)

-- what the first two bits and the length decide
pub next_frame-no_frame : (s : Stream) → begins_no_frame s.bytes ≡ true → next_frame s ≡ record { frame = None; after = broken_stream }
next_frame-no_frame s begins = ap (λ b. if b then record { frame = None; after = broken_stream } else next_frame_of s (frame_len s.bytes)) begins

pub next_frame-frame_len : (s : Stream) (found : Option ℕ) → begins_no_frame s.bytes ≡ false → frame_len s.bytes ≡ found → next_frame s ≡ next_frame_of s found
next_frame-frame_len s found begins e =
    ap (λ b. if b then record { frame = None; after = broken_stream } else next_frame_of s (frame_len s.bytes)) begins ∙ ap (next_frame_of s) e

-- a run that begins with this step returns the frames of all the bytes, if the rest of the run does
abbrev GivesAfter : List ℕ → List Call → NextFrame → Type 0
GivesAfter bytes calls t = GivesFrames (bytes ++ bytes_in calls) (given_first t.frame (run_of t.after calls))

breaks : (bytes : List ℕ) (calls : List Call) → begins_no_frame bytes ≡ true → GivesAfter bytes calls (record { frame = None; after = broken_stream })
breaks bytes calls begins =
    let all = bytes ++ bytes_in calls in
    let more = begins_no_frame-append bytes (bytes_in calls) begins in
    let none : frames_of all ≡ record { frames = []; rest = all } = frames_of-none all (begins_no_frame-frame_len all more) in
    let nothing : frames_of [] ≡ record { frames = []; rest = [] } = frames_of-none [] refl in
    subst (λ (run : Run). GivesFrames all (given_first None run)) (sym (run_of-broken_stream calls))
    (record {
      frames = ap (λ (cut : Frames). cut.frames) none ∙ sym (ap (λ (cut : Frames). cut.frames) nothing);
      rest = λ unbroken. cc;
      broken = λ broken. subst (λ (cut : Frames). begins_no_frame cut.rest ≡ true) (sym none) more;
    })

goes_on : (bytes : List ℕ) (calls : List Call) → ((later : List ℕ) → GivesFrames (later ++ bytes_in calls) (run_of (framed later) calls)) → (found : Option ℕ) → frame_len bytes ≡ found
    → GivesAfter bytes calls (next_frame_of (framed bytes) found)
goes_on bytes calls later None e = later bytes
goes_on bytes calls later (Some k) e =
    let all = bytes ++ bytes_in calls in
    let is = frame_len-IsWhole bytes k e in
    let inside : k ≤ length bytes = is.within in
    let rest = later (drop k bytes) in
    let some : frames_of all ≡ record { frames = take k bytes ∷ (frames_of (drop k bytes ++ bytes_in calls)).frames; rest = (frames_of (drop k bytes ++ bytes_in calls)).rest } =
    frames_of-some all k (frame_len-append bytes (bytes_in calls) k e)
    ∙ rw (take-append-le k bytes (bytes_in calls) inside, drop-append-le k bytes (bytes_in calls) inside) refl in
    record {
      frames = ap (λ (cut : Frames). cut.frames) some ∙ ap (λ (l : List (List ℕ)). take k bytes ∷ l) rest.frames;
      rest = λ unbroken. ap (λ (cut : Frames). cut.rest) some ∙ rest.rest unbroken;
      broken = λ broken. subst (λ (cut : Frames). begins_no_frame cut.rest ≡ true) (sym some) (rest.broken broken);
    }

first_next_frame_by : (bytes : List ℕ) (calls : List Call) → ((later : List ℕ) → GivesFrames (later ++ bytes_in calls) (run_of (framed later) calls)) → (begins : Bool) → begins_no_frame bytes ≡ begins
    → GivesAfter bytes calls (next_frame (framed bytes))
first_next_frame_by bytes calls later true e = subst (GivesAfter bytes calls) (sym (next_frame-no_frame (framed bytes) e)) (breaks bytes calls e)
first_next_frame_by bytes calls later false e =
    subst (GivesAfter bytes calls) (sym (next_frame-frame_len (framed bytes) (frame_len bytes) e refl))
    (goes_on bytes calls later (frame_len bytes) refl)

first_next_frame : (bytes : List ℕ) (calls : List Call) → ((later : List ℕ) → GivesFrames (later ++ bytes_in calls) (run_of (framed later) calls)) → GivesAfter bytes calls (next_frame (framed bytes))
first_next_frame bytes calls later = first_next_frame_by bytes calls later (begins_no_frame bytes) refl

pub run_of-GivesFrames : (calls : List Call) (bytes : List ℕ) → GivesFrames (bytes ++ bytes_in calls) (run_of (framed bytes) calls)
run_of-GivesFrames [] bytes = record {
  frames = ap (λ (l : List ℕ). (frames_of l).frames) (append-nil bytes);
  rest = λ unbroken. ap (λ (l : List ℕ). (frames_of l).rest) (append-nil bytes);
  broken = λ broken. cc;
}
run_of-GivesFrames (Piece piece ∷ calls) bytes =
    subst (λ (all : List ℕ). GivesFrames all (run_of (framed bytes) (Piece piece ∷ calls))) (append_assoc bytes piece (bytes_in calls))
    (first_next_frame (bytes ++ piece) calls (run_of-GivesFrames calls))
run_of-GivesFrames (Feed piece ∷ calls) bytes =
    subst (λ (all : List ℕ). GivesFrames all (run_of (framed bytes) (Feed piece ∷ calls))) (append_assoc bytes piece (bytes_in calls))
    (run_of-GivesFrames calls (bytes ++ piece))
run_of-GivesFrames (Poll ∷ calls) bytes = first_next_frame bytes calls (run_of-GivesFrames calls)
