-- Each call of a trace is allowed on the client of its head, and that client can be made.
use Rattle.std.proofs.Common.{◌≡◌, ℕ, zero, suc, ◌+◌, List, [], ◌∷◌, length, Result, Ok, Err, subst, ap, arith}
use Rattle.std.specs.Prelude.{All, nat_lt}
use Rattle.turn_stun.specs.declared.transport.TransportType.{TransportType}
use Rattle.turn_client_api.specs.declared.call.Call.{Call}
use Rattle.turn_client_calls.specs.Run.{IsCallable}
use Rattle.turn_lines.specs.Head.{head_of}
use Rattle.turn_lines.specs.Call.{call_of}
use Rattle.turn_lines.specs.Fault.{at_line, bad_line, ◌>>=◌}
use Rattle.turn_lines.specs.Parts.{parts_of}
use Rattle.turn_replay.specs.Trace.{calls_of, head_line_of, numbered_call_of, trace_of, without_last_feed}
use Rattle.turn_lines.specs.declared.fault.BadKind.{BadKind}
use Rattle.turn_lines.specs.declared.fault.BadKind.TheVariants as Bad
use Rattle.turn_lines.specs.declared.fault.BadLine.{BadLine}
use Rattle.turn_lines.specs.declared.head.Head.{Head}
use Rattle.turn_lines.proofs.HeadLemmas.{IsMade, made_line}
use Rattle.turn_lines.proofs.CallableLemmas.{callable_line}
use Rattle.turn_lines.proofs.StepLemmas.{of_needed, of_else, of_both, ok_is}

of_line : (number : ℕ) (r : Result Call BadKind) (call : Call) → at_line number r ≡ Ok call → r ≡ Ok call
of_line number (Ok x) call h = ap Ok (ok_is x call h)
of_line number (Err kind) call h = cc

callable_numbered : (relays : TransportType) (number : ℕ) (line : List ℕ) (call : Call) → numbered_call_of relays number line ≡ Ok call → IsCallable relays call
callable_numbered relays number line call h =
    let read = of_else (nat_lt 10001 number) (bad_line number Bad.Size) (at_line number (call_of relays line)) call h in
    callable_line relays line call (of_line number (call_of relays line) call read)

abbrev pub AreCallable : TransportType → List Call → Type 0
AreCallable relays calls = All (IsCallable relays) calls

all_of_more : (relays : TransportType) (call : Call) (calls : List Call) → IsCallable relays call → AreCallable relays calls → AreCallable relays (call ∷ calls)
all_of_more relays call calls one all zero d low = one
all_of_more relays call calls one all (suc k) d low = all k d (omega arith)

callable_lines : (relays : TransportType) (number : ℕ) (lines : List (List ℕ)) (calls : List Call) → calls_of relays number lines ≡ Ok calls → AreCallable relays calls
unfolding calls_of
callable_lines relays number [] calls h = subst (AreCallable relays) (ok_is [] calls h) (λ k d low. absurd (omega arith))
callable_lines relays number (line ∷ lines) calls h =
    let one = of_both (numbered_call_of relays number line) (λ call. calls_of relays (number + 1) lines >>= λ rest. Ok (call ∷ rest)) calls h in
    let rest = of_both (calls_of relays (number + 1) lines) (λ rest. Ok (one.0 ∷ rest)) calls one.2 in
    subst (AreCallable relays) (ok_is (one.0 ∷ rest.0) calls rest.2)
    (all_of_more relays one.0 rest.0 (callable_numbered relays number line one.0 one.1) (callable_lines relays (number + 1) lines rest.0 rest.1))

-- ---- the head

made_first : (head : Head) (lines : List (List ℕ)) (first : Head × List (List ℕ)) → ◌≡◌ {A = Result (Head × List (List ℕ)) BadLine} (Ok (head, lines)) (Ok first) → IsMade head → IsMade first.0
made_first head lines first h made = subst (λ (x : Head × List (List ℕ)). IsMade x.0) (ok_is (head, lines) first h) made

pub made_lines : (lines : List (List ℕ)) (first : Head × List (List ℕ)) → head_line_of lines ≡ Ok first → IsMade first.0
made_lines [] first h = cc
made_lines (line ∷ lines) first h =
    let head = of_needed (head_of line) (bad_line 1 Bad.Head) (λ head. Ok (head, lines)) first h in
    made_first head.0 lines first head.2 (made_line line head.0 head.1)

-- ---- a trace

-- the client can be made, and the calls are allowed on it
abbrev IsReady : Head × List Call → Type 0
IsReady trace = IsMade trace.0 × AreCallable trace.0.request.allocation trace.1

ready_with : (head : Head) (calls : List Call) (trace : Head × List Call) → ◌≡◌ {A = Result (Head × List Call) BadLine} (Ok (head, calls)) (Ok trace) → IsMade head
    → AreCallable head.request.allocation calls → IsReady trace
ready_with head calls trace h made callable = subst IsReady (ok_is (head, calls) trace h) (made, callable)

trace_is_ready : (text : List ℕ) (trace : Head × List Call) → trace_of text ≡ Ok trace → IsReady trace
unfolding trace_of
trace_is_ready text trace h =
    let lines = parts_of 10 (without_last_feed text) in
    let read = of_else (nat_lt 1048576 (length text)) (bad_line 0 Bad.Size)
    (head_line_of lines >>= λ first. calls_of first.0.request.allocation 2 first.1 >>= λ rest. Ok (first.0, rest)) trace h in
    let first = of_both (head_line_of lines) (λ first. calls_of first.0.request.allocation 2 first.1 >>= λ rest. Ok (first.0, rest)) trace read in
    let rest = of_both (calls_of first.0.0.request.allocation 2 first.0.1) (λ rest. Ok (first.0.0, rest)) trace first.2 in
    ready_with first.0.0 rest.0 trace rest.2 (made_lines lines first.0 first.1)
    (callable_lines first.0.0.request.allocation 2 first.0.1 rest.0 rest.1)

pub calls_are_callable : (text : List ℕ) (head : Head) (calls : List Call) → trace_of text ≡ Ok (head, calls) → AreCallable head.request.allocation calls
calls_are_callable text head calls h = (trace_is_ready text (head, calls) h).1

pub allocation_of_trace : (text : List ℕ) (head : Head) (calls : List Call) → trace_of text ≡ Ok (head, calls) → IsMade head
allocation_of_trace text head calls h = (trace_is_ready text (head, calls) h).0
