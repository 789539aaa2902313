-- The calls of a trace, line by line.
use Rattle.std.proofs.Common.{◌≡◌, ℕ, ◌+◌, List, [], ◌∷◌, ◌++◌, Result, Ok, Err, Vec, Global, refl, sym, ap, ◌∙◌, append_assoc}
use Rattle.std.proofs.lemmas.List.{append-nil}
use Rattle.turn_stun.specs.declared.transport.TransportType.{TransportType}
use Rattle.turn_client_api.specs.declared.call.Call.{Call}
use Rattle.turn_lines.specs.Fault.{Reads, ◌>>=◌}
use Rattle.turn_lines.specs.declared.fault.ReadError.{ReadError}
use Rattle.turn_lines.specs.declared.fault.ReadError.TheVariants.{Bad, OutOfMemory}
use Rattle.turn_replay.specs.Trace.{calls_of, numbered_call_of}
use Rattle.turn_lines.specs.declared.fault.BadLine.{BadLine}

-- these calls, and then the parsed ones
abbrev pub with_front : List Call → Result (List Call) BadLine → Result (List Call) BadLine
with_front front reading = reading >>= λ calls. Ok (front ++ calls)

moved : (front : List Call) (call : Call) (reading : Result (List Call) BadLine) → with_front (front ++ call ∷ []) reading ≡ with_front front (reading >>= λ calls. Ok (call ∷ calls))
moved front call (Ok calls) = ap Ok (append_assoc front (call ∷ []) calls)
moved front call (Err bad) = refl

-- a line that is a call
pub with_front-call : (relays : TransportType) (front : List Call) (number : ℕ) (line : List ℕ) (lines : List (List ℕ)) (call : Call) → numbered_call_of relays number line ≡ Ok call
    → with_front (front ++ call ∷ []) (calls_of relays (number + 1) lines) ≡ with_front front (calls_of relays number (line ∷ lines))
unfolding calls_of
with_front-call relays front number line lines call e = rw e (moved front call (calls_of relays (number + 1) lines))

-- a bad line
pub with_front-bad : (relays : TransportType) (front : List Call) (number : ℕ) (line : List ℕ) (lines : List (List ℕ)) (bad : BadLine) → numbered_call_of relays number line ≡ Err bad
    → with_front front (calls_of relays number (line ∷ lines)) ≡ Err bad
unfolding calls_of
with_front-bad relays front number line lines bad e = rw e refl

-- no line is left
pub with_front-end : (relays : TransportType) (front : List Call) (number : ℕ) → with_front front (calls_of relays number []) ≡ Ok front
unfolding calls_of
with_front-end relays front number = ap Ok (append-nil front)

-- the invariant of the loop over the lines: it continues after a call, stops at a bad line, and ends
pub goes_on : (relays : TransportType) (front after : List Call) (number next : ℕ) (lines : List (List ℕ)) (line : List ℕ) (rest : List (List ℕ)) (call : Call) (whole : Result (List Call) BadLine)
    → lines ≡ line ∷ rest → after ≡ front ++ call ∷ [] → next ≡ number + 1 → numbered_call_of relays number line ≡ Ok call → with_front front (calls_of relays number lines) ≡ whole
    → with_front after (calls_of relays next rest) ≡ whole
goes_on relays front after number next lines line rest call whole l a n e kept =
    rw (a, n) (with_front-call relays front number line rest call e ∙ (rw l at kept))

pub stops : (relays : TransportType) (front : List Call) (number : ℕ) (lines : List (List ℕ)) (line : List ℕ) (rest : List (List ℕ)) (error : ReadError BadLine) (whole : Result (List Call) BadLine)
    → lines ≡ line ∷ rest → Reads {X = Call} (λ call. call) (Err error) (numbered_call_of relays number line) → with_front front (calls_of relays number lines) ≡ whole
    → Reads {X = Vec Call Global} (λ calls. calls.items) (Err error) whole
stops relays front number lines line rest (Bad bad) whole l e kept = sym kept ∙ rw l (with_front-bad relays front number line rest bad e)
stops relays front number lines line rest OutOfMemory whole l e kept = tt

pub ends : (relays : TransportType) (front : List Call) (number : ℕ) (lines : List (List ℕ)) (whole : Result (List Call) BadLine) → lines ≡ []
    → with_front front (calls_of relays number lines) ≡ whole → whole ≡ Ok front
ends relays front number lines whole l kept = sym kept ∙ rw l (with_front-end relays front number)
