-- Steps of streams that are taken out, and steps in sequence.
use Rattle.std.proofs.Common.{◌≡◌, ℕ, zero, suc, ◌≤◌, Bool, true, false, cond, List, [], ◌∷◌, drop, length, map, take, Option, Some, None, refl, subst, sym, ap, ◌∙◌, arith}
use Rattle.std.specs.Prelude.{IsSomeAnd, find}
use Rattle.std.specs.Option.{option_map, option_map_or}
use Rattle.std.proofs.lemmas.Bool.{false≢true}
use Rattle.std.proofs.lemmas.List.{append-nil}
use Rattle.std.specs.declared.net.socket_addr.SocketAddr.{SocketAddr}
use Rattle.turn_types.specs.Frames.{begins_no_frame, frame_len}
use Rattle.turn_types.proofs.FrameLemmas.{frame_len-IsWhole}
use Rattle.turn_types.proofs.SplitLemmas.{IsFrame-frame_len, IsWhole-IsFrame}
use Rattle.turn_agent.specs.Agent.{same_address}
use Rattle.turn_client_api.specs.Answers.{EndsAfterSteps, LeadsTo}
use Rattle.turn_client_api.specs.Effect.{closed}
use Rattle.turn_client_api.specs.State.{State}
use Rattle.turn_client_api.specs.declared.state.Mode.{Mode}
use Rattle.turn_client_api.specs.declared.state.Mode.TheVariants.{Bound, Broken}
use Rattle.turn_client_api.specs.declared.state.Stream.{Stream}
use Rattle.turn_client_api.specs.Payloads.{Payload, Outcome, Handled, PeerData}
use Rattle.turn_client_api.specs.Streams.{broken_at, detached_frame_step, first_ready_step, frame_step, framed_by}
use Rattle.turn_client_api.specs.Streams.{framed_stream_step, go_on, is_bound, is_ready, max_steps, next_frame_step, poll_recv_step}
use Rattle.turn_client_api.specs.Streams.{put_back, sent_by, steps_until_payload, with_bytes}
use Rattle.turn_client_laws.proofs.StreamDrainLemmas.{step-lighter}
use Rattle.turn_client_laws.proofs.StreamWeightLemmas.{weight, weight-le}
use Rattle.turn_client_streams.specs.Buffered.{front_frame, passed}
use Rattle.turn_client_tcp.specs.Lent.{IsBoundFirst}
use Rattle.turn_client_tcp.specs.StreamSteps.{owned_payload}
use Rattle.turn_client_tcp.specs.Wanted.{EndsInNeed, FrameWantsMemory, FrontWantsMemory, StepWantsMemory}

-- ---- the first frame

-- it is a whole one
frame-whole : (bytes : List ℕ) (len : ℕ) → frame_len bytes ≡ Some len → frame_len (take len bytes) ≡ Some (length (take len bytes))
frame-whole bytes len e = ap frame_len (sym (append-nil (take len bytes))) ∙ IsFrame-frame_len (take len bytes) [] (IsWhole-IsFrame bytes len (frame_len-IsWhole bytes len e))

pub front-whole : (s : Stream) (frame : List ℕ) → Some frame ≡ front_frame s → frame_len frame ≡ Some (length frame)
front-whole s frame e = by (frame_len s.bytes) refl e
  where
    by : (o : Option ℕ) → frame_len s.bytes ≡ o → Some frame ≡ option_map (λ len. take len s.bytes) o → frame_len frame ≡ Some (length frame)
    by None f g = cc
    by (Some len) f g = let same : frame ≡ take len s.bytes = cc in rw same (frame-whole s.bytes len f)

front_by : Stream → Option ℕ → Option (List ℕ)
front_by s o = option_map (λ len. take len s.bytes) o

passed_by : Stream → Option ℕ → Stream
passed_by s o = option_map_or (λ len. record s { bytes = drop len s.bytes }) o s

framed_by-some : (s : Stream) (frame : List ℕ) (now : ℕ) (t : State) (o : Option ℕ) → Some frame ≡ front_by s o
    → framed_by s now t o ≡ put_back (passed_by s o).local (passed_by s o).bytes (frame_step s frame now t)
unfolding front_by passed_by
framed_by-some s frame now t None e = cc
framed_by-some s frame now t (Some len) e = let same : frame ≡ take len s.bytes = cc in rw same refl

-- it is processed, and the bytes behind it are put back
pub framed-some : (s : Stream) (frame : List ℕ) (now : ℕ) (t : State) → begins_no_frame s.bytes ≡ false → Some frame ≡ front_frame s
    → framed_stream_step s now t ≡ put_back (passed s).local (passed s).bytes (frame_step s frame now t)
unfolding front_by passed_by
framed-some s frame now t stuck e =
    ap (λ b. cond {A = Outcome × State} b (Handled, broken_at s.local t) (framed_by s now t (frame_len s.bytes))) stuck
    ∙ framed_by-some s frame now t (frame_len s.bytes) e

-- there is none, and the stream waits for more bytes
pub framed-none : (s : Stream) (now : ℕ) (t : State) → begins_no_frame s.bytes ≡ false → None ≡ front_frame s → framed_stream_step s now t ≡ (Handled, with_bytes s.local s.bytes t)
unfolding front_by
framed-none s now t stuck e =
    ap (λ b. cond {A = Outcome × State} b (Handled, broken_at s.local t) (framed_by s now t (frame_len s.bytes))) stuck
    ∙ by (frame_len s.bytes) e
  where
    by : (o : Option ℕ) → None ≡ front_by s o → framed_by s now t o ≡ (Handled, with_bytes s.local s.bytes t)
    by None e = refl
    by (Some len) e = cc

-- bytes that begin no frame break it
pub framed-stuck : (s : Stream) (now : ℕ) (t : State) → begins_no_frame s.bytes ≡ true → framed_stream_step s now t ≡ (Handled, broken_at s.local t)
framed-stuck s now t stuck = rw stuck refl

-- ---- steps in sequence

given-none : (next : State → Option Payload × State) (p : Outcome × State) → owned_payload p.0 ≡ None → go_on next p ≡ next p.1
given-none next (PeerData payload, t) e = cc
given-none next (outcome, t) e = refl

given-some : (next : State → Option Payload × State) (p : Outcome × State) (payload : Payload) → owned_payload p.0 ≡ Some payload → go_on next p ≡ (Some payload, p.1)
given-some next (PeerData payload, t) given e = let same : record payload { place = None } ≡ given = cc in rw same refl
given-some next (outcome, t) given e = cc

-- a step first: the others are as if it had been made before
pub steps-first : (n now : ℕ) (s : State) (stream : Stream) → find is_ready s.streams ≡ Some stream
    → steps_until_payload (suc n) now s ≡ go_on (steps_until_payload n now) (next_frame_step stream now s)
unfolding steps_until_payload
steps-first n now s stream e = ap (λ o. first_ready_step (steps_until_payload n now) now s o) e

pub steps-none : (n now : ℕ) (s : State) → find is_ready s.streams ≡ None → steps_until_payload n now s ≡ (None, s)
unfolding steps_until_payload
steps-none zero now s e = refl
steps-none (suc n) now s e = ap (λ o. first_ready_step (steps_until_payload n now) now s o) e

-- one step more, after steps that gave nothing
pub one-more : (n now : ℕ) (was s t : State) → steps_until_payload n now was ≡ (None, s) → steps_until_payload 1 now s ≡ (None, t) → steps_until_payload (suc n) now was ≡ (None, t)
unfolding steps_until_payload
one-more zero now was s t led last = let same : was ≡ s = ap (λ p. p.1) led in ap (steps_until_payload 1 now) same ∙ last
one-more (suc n) now was s t led last = by (find is_ready was.streams) refl (λ u. one-more n now u s t)
  where
    on : (p : Outcome × State)
        → ((u : State) → steps_until_payload n now u ≡ (None, s) → steps_until_payload 1 now s ≡ (None, t) → steps_until_payload (suc n) now u ≡ (None, t))
        → go_on (steps_until_payload n now) p ≡ (None, s)
        → go_on (steps_until_payload (suc n) now) p ≡ (None, t)
    on (PeerData payload, u) more f = let clash : Some (record payload { place = None }) ≡ None = ap (λ p. p.0) f in cc
    on (outcome, u) more f = more u f last

    by : (o : Option Stream) → find is_ready was.streams ≡ o
        → ((u : State) → steps_until_payload n now u ≡ (None, s) → steps_until_payload 1 now s ≡ (None, t) → steps_until_payload (suc n) now u ≡ (None, t))
        → first_ready_step (steps_until_payload (suc n) now) now was (find is_ready was.streams) ≡ (None, t)
    by None e more =
        let stays : was ≡ s = ap (λ p. p.1) (sym (steps-none (suc n) now was e) ∙ led) in
        steps-none (suc (suc n)) now was e ∙ (sym (steps-none 1 now was e) ∙ (ap (steps_until_payload 1 now) stays ∙ last))
    by (Some stream) e more =
        ap (λ o. first_ready_step (steps_until_payload (suc n) now) now was o) e
        ∙ on (next_frame_step stream now was) more (sym (steps-first n now was stream e) ∙ led)

pub leads-on : (now : ℕ) (was s : State) (stream : Stream) → find is_ready s.streams ≡ Some stream → owned_payload (next_frame_step stream now s).0 ≡ None → LeadsTo now was s
    → LeadsTo now was (next_frame_step stream now s).1
unfolding steps_until_payload
leads-on now was s stream e none (n, led) =
    (suc n, one-more n now was s (next_frame_step stream now s).1 led (steps-first 0 now s stream e ∙ given-none (steps_until_payload 0 now) (next_frame_step stream now s) none))

pub stays-led : (now : ℕ) (s : State) → LeadsTo now s s
unfolding steps_until_payload
stays-led now s = (0, refl)

-- enough steps are left to determine the result of all
abbrev pub Rests : ℕ → State → State → Type 0
Rests now was s = (k : ℕ) × (weight s.streams ≤ k) × (steps_until_payload k now s ≡ poll_recv_step now was)

pub first-Rests : (now : ℕ) (s : State) → Rests now s s
first-Rests now s = (max_steps s, weight-le s.streams, refl)

pub rests-on : (now : ℕ) (was s : State) (stream : Stream) → find is_ready s.streams ≡ Some stream → owned_payload (next_frame_step stream now s).0 ≡ None → Rests now was s
    → Rests now was (next_frame_step stream now s).1
rests-on now was s stream e none (zero, least, same) = let less = step-lighter stream now s e in absurd (omega (arith, less, least))
rests-on now was s stream e none (suc k, least, same) =
    let less = step-lighter stream now s e in
    (k, omega (arith, less, least), sym (given-none (steps_until_payload k now) (next_frame_step stream now s) none) ∙ (sym (steps-first k now s stream e) ∙ same))

pub rests-none : (now : ℕ) (was s : State) → find is_ready s.streams ≡ None → Rests now was s → poll_recv_step now was ≡ (None, s)
rests-none now was s e (k, least, same) = sym same ∙ steps-none k now s e

pub rests-some : (now : ℕ) (was s : State) (stream : Stream) (payload : Payload) → find is_ready s.streams ≡ Some stream → owned_payload (next_frame_step stream now s).0 ≡ Some payload
    → Rests now was s → poll_recv_step now was ≡ (Some payload, (next_frame_step stream now s).1)
rests-some now was s stream payload e given (zero, least, same) = let less = step-lighter stream now s e in absurd (omega (arith, less, least))
rests-some now was s stream payload e given (suc k, least, same) =
    sym same ∙ (steps-first k now s stream e ∙ given-some (steps_until_payload k now) (next_frame_step stream now s) payload given)

-- ---- a stream breaks

bytes_by : SocketAddr → List ℕ → Stream → Stream
bytes_by local bytes stream = cond (same_address stream.local local) (record stream { bytes = bytes }) stream

broken_by : SocketAddr → Stream → Stream
broken_by local stream = cond (same_address stream.local local) (record stream { mode = Broken; bytes = [] }) stream

broken-once : (local : SocketAddr) (x : Stream) → broken_by local (bytes_by local [] x) ≡ broken_by local x
unfolding bytes_by broken_by
broken-once local x = by (same_address x.local local) refl
  where
    by : (b : Bool) → same_address x.local local ≡ b → broken_by local (bytes_by local [] x) ≡ broken_by local x
    by true e = rw (e, e) refl
    by false e = rw (e, e) refl

broken-all : (local : SocketAddr) (xs : List Stream) → map (broken_by local) (map (bytes_by local []) xs) ≡ map (broken_by local) xs
broken-all local [] = refl
broken-all local (x ∷ xs) = rw (broken-once local x, broken-all local xs) refl

-- to be broken is to be emptied and broken
pub emptied-broken : (local : SocketAddr) (s : State) → broken_at local (with_bytes local [] s) ≡ broken_at local s
unfolding bytes_by broken_by
emptied-broken local s = ap (λ (x : List Stream). record s { streams = x }) (broken-all local s.streams)

-- the stream that was being processed is broken, and the client has ended
pub ends : (now : ℕ) (was s t : State) (stream : Stream) → find is_ready s.streams ≡ Some stream → LeadsTo now was s → t ≡ closed (broken_at stream.local (with_bytes stream.local [] s))
    → EndsAfterSteps now was t
ends now was s t stream e led is = (s, led, rw e (is ∙ ap closed (emptied-broken stream.local s)))

-- ---- the memory of a step

pub front-wants : (s : Stream) (frame : List ℕ) (now : ℕ) (t : State) → begins_no_frame s.bytes ≡ false → Some frame ≡ front_frame s → FrameWantsMemory s frame now t
    → FrontWantsMemory s now t
front-wants s frame now t stuck e wants = (stuck, rw (← e) wants)

-- the failed step needed memory
pub ends-wanted : (now : ℕ) (was s t : State) (stream : Stream) → find is_ready s.streams ≡ Some stream → LeadsTo now was s
    → StepWantsMemory stream now (with_bytes stream.local [] s) → t ≡ closed (broken_at stream.local (with_bytes stream.local [] s)) → EndsInNeed now was t
ends-wanted now was s t stream e led wants is = (s, led, rw e (wants, is ∙ ap closed (emptied-broken stream.local s)))

-- ---- a bound stream

bound-gives : (stream : Stream) (now : ℕ) (t : State) → is_bound stream.mode ≡ true
    → (payload : Payload) × (owned_payload (detached_frame_step stream now t).0 ≡ Some payload)
bound-gives stream now t e = by stream.mode e
  where
    by : (m : Mode) → is_bound m ≡ true → (payload : Payload) × (owned_payload (detached_frame_step (record stream { mode = m }) now t).0 ≡ Some payload)
    by (Bound peer) e = (sent_by peer stream.bytes None, refl)
    by m e = absurd (false≢true e)

-- its bytes are given by the first step: steps that gave nothing have not begun
pub bound-first : (now : ℕ) (was s : State) (stream : Stream) → find is_ready s.streams ≡ Some stream → LeadsTo now was s → IsBoundFirst was → is_bound stream.mode ≡ true
unfolding steps_until_payload
bound-first now was s stream e (zero, led) bound =
    let same : was ≡ s = ap (λ (p : Option Payload × State). p.1) led in
    let first : IsBoundFirst s = subst IsBoundFirst same bound in
    subst (λ (o : Option Stream). IsSomeAnd o (λ found. is_bound found.mode ≡ true)) e first
bound-first now was s stream e (suc n, led) bound = by (find is_ready was.streams) refl bound
  where
    by : (o : Option Stream) → find is_ready was.streams ≡ o → IsSomeAnd o (λ found. is_bound found.mode ≡ true) → is_bound stream.mode ≡ true
    by None f b = absurd b
    by (Some first) f b =
        let step = next_frame_step first now was in
        let (payload, given) = bound-gives first now (with_bytes first.local [] was) b in
        let some : steps_until_payload (suc n) now was ≡ (Some payload, step.1) =
        steps-first n now was first f ∙ given-some (steps_until_payload n now) step payload given in
        let clash : Some payload ≡ None = ap (λ (p : Option Payload × State). p.0) (sym some ∙ led) in
        cc
