-- The meaning of lines, line by line.
use Rattle.std.proofs.Common.{◌≡◌, ℕ, cond, List, [], ◌∷◌, ◌++◌, Result, Ok, Err, length, refl, sym, ap, subst, ◌∙◌, arith, ⊎_elim}
use Rattle.std.specs.Prelude.{nat_lt}
use Rattle.std.specs.List.{flat_map}
use Rattle.std.proofs.lemmas.Bool.{cases_lt, lt-ltb}
use Rattle.std.proofs.lemmas.Grind.{flat_map-append}
use Rattle.std.proofs.lemmas.List.{length-take, take_all}
use Rattle.turn_stun.specs.declared.transport.TransportType.{TransportType}
use Rattle.turn_client_api.specs.declared.call.Call.{Call}
use Rattle.turn_client_api.specs.State.{State}
use Rattle.turn_client_calls.specs.Checks.{needed}
use Rattle.turn_client_calls.specs.Run.{IsCallable}
use Rattle.turn_client_calls.specs.declared.reply.Reply.{Reply}
use Rattle.turn_client_proto.proofs.RunLemmas.{relays_stay}
use Rattle.turn_lines.specs.Call.{call_of}
use Rattle.turn_lines.specs.Fault.{bad_line}
use Rattle.turn_lines.specs.Head.{head_of}
use Rattle.turn_lines.specs.declared.fault.BadKind.{BadKind}
use Rattle.turn_lines.specs.declared.fault.BadKind.TheVariants as Bad
use Rattle.turn_lines.specs.declared.head.Head.{Head}
use Rattle.turn_lines.proofs.CallableLemmas.{callable_line}
use Rattle.turn_lines.proofs.HeadLemmas.{IsMade, made_line}
use Rattle.turn_lines.proofs.StepLemmas.{of_else, of_needed, ok_is}
use Rattle.turn_live.specs.Line.{first_bytes}
use Rattle.turn_live.specs.Lines.{after_line, after_lines, answer_of, answer_text, answers_to, calls_said, line_call, line_head, line_said}

-- ---- one line

-- the call of a line is allowed
pub line_is_callable : (relays : TransportType) (line : List ℕ) (call : Call) → line_call relays line ≡ Ok call → IsCallable relays call
line_is_callable relays line call h = callable_line relays line call (of_else (nat_lt 1048576 (length line)) Bad.Size (call_of relays line) call h)

-- the client of a head can be made
pub head_is_made : (line : List ℕ) (head : Head) → line_head line ≡ Ok head → IsMade head
head_is_made line head h =
    let read = of_else (nat_lt 1048576 (length line)) (bad_line 1 Bad.Size) (needed (head_of line) (bad_line 1 Bad.Head) Ok) head h in
    let found = of_needed (head_of line) (bad_line 1 Bad.Head) Ok head read in
    subst IsMade (ok_is found.0 head found.2) (made_line line found.0 found.1)

-- a test of the length of a line, by what is kept of it
by_length : {A : Type 0} (line : List ℕ) (long : A) (short : List ℕ → A)
    → cond (nat_lt 1048576 (length (first_bytes line))) long (short (first_bytes line)) ≡ cond (nat_lt 1048576 (length line)) long (short line)
by_length line long short = ⊎_elim
    (λ over.
    let cut = lt-ltb 1048576 (length (first_bytes line)) (omega (arith, length-take 1048577 line, over)) in
    let whole = lt-ltb 1048576 (length line) over in
    ap (λ b. cond b long (short (first_bytes line))) cut ∙ sym (ap (λ b. cond b long (short line)) whole))
    (λ within.
    let same : first_bytes line ≡ line = take_all 1048577 line (omega (arith, within)) in
    ap (λ l. cond (nat_lt 1048576 (length l)) long (short l)) same)
    (cases_lt 1048576 (length line))

-- what is kept of a line has the call of the line, and the head
pub kept_call : (relays : TransportType) (kept line : List ℕ) → kept ≡ first_bytes line → line_call relays kept ≡ line_call relays line
kept_call relays kept line same = ap (line_call relays) same ∙ by_length line (Err Bad.Size) (call_of relays)

pub kept_head : (kept line : List ℕ) → kept ≡ first_bytes line → line_head kept ≡ line_head line
kept_head kept line same = ap line_head same ∙ by_length line (Err (bad_line 1 Bad.Size)) (λ l. needed (head_of l) (bad_line 1 Bad.Head) Ok)

-- ---- many lines

-- no line changes what the client's allocation is over
pub relays_after : (s : State) (read : Result Call BadKind) → (after_line s read).config.allocation_transport ≡ s.config.allocation_transport
relays_after s (Ok call) = relays_stay call s
relays_after s (Err kind) = refl

-- one more line
pub after_lines-more : (relays : TransportType) (s : State) (lines : List (List ℕ)) (line : List ℕ)
    → after_lines relays s (lines ++ line ∷ []) ≡ after_line (after_lines relays s lines) (line_call relays line)
after_lines-more relays s [] line = refl
after_lines-more relays s (first ∷ lines) line = after_lines-more relays (after_line s (line_call relays first)) lines line

answers_to-more : (relays : TransportType) (s : State) (lines : List (List ℕ)) (line : List ℕ)
    → answers_to relays s (lines ++ line ∷ []) ≡ answers_to relays s lines ++ answer_of (after_lines relays s lines) (line_call relays line) ∷ []
answers_to-more relays s [] line = refl
answers_to-more relays s (first ∷ lines) line =
    ap (λ (rest : List (Result Reply BadKind)). answer_of s (line_call relays first) ∷ rest) (answers_to-more relays (after_line s (line_call relays first)) lines line)

pub calls_said-more : (relays : TransportType) (s : State) (lines : List (List ℕ)) (line : List ℕ)
    → (calls_said relays s (lines ++ line ∷ [])).0 ≡ (calls_said relays s lines).0 ++ line_said (after_lines relays s lines) (line_call relays line)
calls_said-more relays s lines line =
    ap (flat_map answer_text) (answers_to-more relays s lines line)
    ∙ flat_map-append answer_text (answers_to relays s lines) (answer_of (after_lines relays s lines) (line_call relays line) ∷ [])
