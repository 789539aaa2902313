-- A session, step by step.
use Rattle.std.proofs.Common.{◌≡◌, ℕ, ◌+◌, true, false, List, [], ◌∷◌, ◌++◌, Option, Some, None, Result, Ok, Err, length, take, inl, inr, refl, sym, ap, subst, ◌∙◌}
use Rattle.std.proofs.lemmas.List.{append-nil}
use Rattle.std.specs.Io.KnownBytes.{Appends}
use Rattle.turn_stun.specs.declared.transport.TransportType.{TransportType}
use Rattle.turn_client_api.specs.State.{State}
use Rattle.turn_lines.specs.declared.fault.BadLine.{BadLine}
use Rattle.turn_lines.specs.declared.head.Head.{Head}
use Rattle.turn_live.specs.Line.{IsLine, IsLost, IsTaken, feed_at}
use Rattle.turn_line_client.specs.Client.{client_of}
use Rattle.turn_live.specs.Lines.{after_line, after_lines, calls_said, line_call, line_head, line_said, session_of, session_with}
use Rattle.turn_live.specs.Session.{ReadsLines, RunsLines, Steps, Talks, IsOfOneLine}
use Rattle.turn_live.specs.declared.line.LineEnd.{LineEnd}
use Rattle.turn_live.specs.declared.line.LineEnd.TheVariants.{Feed, Input}
use Rattle.turn_live.specs.declared.stop.Stop.{Stop}
use Rattle.turn_live.specs.declared.stop.Stop.TheVariants as Stops
use Rattle.turn_live.proofs.CallsLemmas.{after_lines-more, calls_said-more, relays_after}
use Rattle.turn_lines.proofs.AppendsLemmas.{Appends-cut, Appends-none, Appends-then}
use Rattle.turn_live.proofs.KnownLemmas.{ends_later}
use Rattle.turn_live.proofs.ReadLemmas.{end_read, more_read, none_read, read_behind, rest_read}

-- the state of a session before its next line is read: all lines that were read are answered
pub record GoesOn (relays : TransportType) (s now : State) (input left old new : Option (List ℕ)) : Type 0 where
  pub lines : List (List ℕ)
  pub read : ReadsLines input left lines [] Feed
  pub told : Appends old new (calls_said relays s lines).0
  pub state : now ≡ after_lines relays s lines
  pub relaying : now.config.allocation_transport ≡ relays

pub begins : (relays : TransportType) (s : State) (a w : Option (List ℕ)) → s.config.allocation_transport ≡ relays → GoesOn relays s s a a w w
begins relays s a w same = record {
  lines = [];
  read = none_read a;
  told = Appends-none w;
  state = refl;
  relaying = same;
}

-- ---- text

kept : (a b c : Option (List ℕ)) (xs : List ℕ) → Appends a b xs → Appends b c [] → Appends a c xs
kept a b c xs h k = subst (Appends a c) (append-nil xs) (Appends-then a b c xs [] h k)

-- one more answer
told_more : (relays : TransportType) (s now : State) (lines : List (List ℕ)) (line : List ℕ) (w x y : Option (List ℕ)) → now ≡ after_lines relays s lines
    → Appends w x (calls_said relays s lines).0 → Appends x y (line_said now (line_call relays line)) → Appends w y (calls_said relays s (lines ++ line ∷ [])).0
told_more relays s now lines line w x y state told more =
    let read = line_call relays line in
    let one = line_said (after_lines relays s lines) read in
    let here : Appends x y one = subst (λ (at : State). Appends x y (line_said at read)) state more in
    subst (Appends w y) (sym (calls_said-more relays s lines line)) (Appends-then w x y (calls_said relays s lines).0 one told here)

-- a prefix of one more answer
cut_more : (relays : TransportType) (s now : State) (lines : List (List ℕ)) (line : List ℕ) (count : ℕ) (w x y : Option (List ℕ)) → now ≡ after_lines relays s lines
    → Appends w x (calls_said relays s lines).0 → Appends x y (take count (line_said now (line_call relays line)))
    → Appends w y (take (length (calls_said relays s lines).0 + count) (calls_said relays s (lines ++ line ∷ [])).0)
cut_more relays s now lines line count w x y state told more =
    let read = line_call relays line in
    let before = (calls_said relays s lines).0 in
    let one = line_said (after_lines relays s lines) read in
    let here : Appends x y (take count one) = subst (λ (at : State). Appends x y (take count (line_said at read))) state more in
    subst (λ (text : List ℕ). Appends w y (take (length before + count) text)) (sym (calls_said-more relays s lines line))
    (Appends-cut w x y before one count told here)

runs_lines : (relays : TransportType) (s : State) (a c : Option (List ℕ)) (lines : List (List ℕ)) (rest : List ℕ) (end : LineEnd) → ReadsLines a c lines rest end
    → RunsLines (calls_said relays s) a c lines rest end None
runs_lines relays s a c lines rest end read = record { read = read; bad_is = refl }

-- ---- one step more

pub goes_on : (relays : TransportType) (s now after : State) (a b c w x y : Option (List ℕ)) → GoesOn relays s now a b w x → Steps relays now after b c x y (Ok true)
    → GoesOn relays s after a c w y
goes_on relays s now after a b c w x y k (line, taken, answer) = record {
  lines = k.lines ++ line ∷ [];
  read = more_read a b c k.lines line Feed k.read taken;
  told = told_more relays s now k.lines line w x y k.state k.told answer.told;
  state = answer.state ∙ ap (λ (at : State). after_line at (line_call relays line)) k.state ∙ sym (after_lines-more relays s k.lines line);
  relaying = ap (λ (at : State). at.config.allocation_transport) answer.state ∙ relays_after now (line_call relays line) ∙ k.relaying;
}

pub ends : (relays : TransportType) (s now after : State) (a b c w x y : Option (List ℕ)) → GoesOn relays s now a b w x → Steps relays now after b c x y (Ok false)
    → Talks (calls_said relays s) a c w y (Ok tt)
ends relays s now after a b c w x y k (line, taken, inl none) = (
  k.lines,
  Feed,
  runs_lines relays s a c k.lines [] Feed (end_read a b c k.lines line k.read none.0 taken),
  ends_later a b c k.read.bytes Input k.read.consumed taken.ends,
  kept w x y (calls_said relays s k.lines).0 k.told none.2,
)
ends relays s now after a b c w x y k (line, taken, inr answer) = (
  k.lines ++ line ∷ [],
  Input,
  runs_lines relays s a c (k.lines ++ line ∷ []) [] Input (more_read a b c k.lines line Input k.read taken),
  ends_later a b c k.read.bytes Input k.read.consumed taken.ends,
  told_more relays s now k.lines line w x y k.state k.told answer.told,
)

pub stops : (relays : TransportType) (s now after : State) (a b c w x y : Option (List ℕ)) (stop : Stop) → GoesOn relays s now a b w x
    → Steps relays now after b c x y (Err stop) → Talks (calls_said relays s) a c w y (Err stop)
stops relays s now after a b c w x y (Stops.Bad bad) k wrong = absurd wrong
stops relays s now after a b c w x y Stops.OutOfMemory k (rest, consumed, one, none) = (
  k.lines,
  rest,
  runs_lines relays s a c k.lines rest Feed (rest_read a b c k.lines rest k.read consumed),
  one,
  kept w x y (calls_said relays s k.lines).0 k.told none,
)
stops relays s now after a b c w x y Stops.ReadFailed k (rest, consumed, clear, none) = (
  k.lines,
  rest,
  runs_lines relays s a c k.lines rest Feed (rest_read a b c k.lines rest k.read consumed),
  clear,
  kept w x y (calls_said relays s k.lines).0 k.told none,
)
stops relays s now after a b c w x y Stops.WriteFailed k (line, end, taken, cut) = (
  k.lines,
  line,
  end,
  length (calls_said relays s k.lines).0 + cut.0,
  runs_lines relays s a c (k.lines ++ line ∷ []) [] end (more_read a b c k.lines line end k.read taken),
  ends_later a b c k.read.bytes end k.read.consumed taken.ends,
  cut_more relays s now k.lines line cut.0 w x y k.state k.told cut.1,
)

-- a line with what ended it
pub one_line : (line : List ℕ) (end : LineEnd) → IsLine line → IsOfOneLine (line ++ feed_at end)
one_line line Feed clear = (line, clear, inr refl)
one_line line Input clear = (line, clear, inl (append-nil line))

-- ---- the first line

-- nothing is written before the head is read
pub head_lost : (a b w : Option (List ℕ)) (stop : Stop) → IsLost a b stop → Talks session_of a b w w (Err stop)
head_lost a b w (Stops.Bad bad) lost = absurd lost
head_lost a b w Stops.OutOfMemory lost =
    ([], lost.0, record { read = rest_read a a b [] lost.0 (none_read a) lost.1; bad_is = refl }, (lost.0, lost.2, inl refl), Appends-none w)
head_lost a b w Stops.ReadFailed lost =
    ([], lost.0, record { read = rest_read a a b [] lost.0 (none_read a) lost.1; bad_is = refl }, lost.2, Appends-none w)
head_lost a b w Stops.WriteFailed lost = absurd lost

pub head_bad : (a b w : Option (List ℕ)) (line : List ℕ) (end : LineEnd) (bad : BadLine) → IsTaken a b line end → line_head line ≡ Err bad → Talks session_of a b w w (Err (Stops.Bad bad))
head_bad a b w line end bad taken says = (
  line,
  end,
  record {
    read = more_read a a b [] line end (none_read a) taken;
    bad_is = ap (λ (r : Result Head BadLine). (session_with r []).1) says;
  },
  taken.ends,
  Appends-none w,
)

pub head_unheard : (a b w : Option (List ℕ)) (line : List ℕ) (end : LineEnd) → IsTaken a b line end → Talks session_of a b w w (Err Stops.OutOfMemory)
head_unheard a b w line end taken =
    let bytes = line ++ feed_at end in
    ([], bytes, record { read = rest_read a a b [] bytes (none_read a) taken.consumed; bad_is = refl }, one_line line end taken.clear, Appends-none w)

-- the head is the only line
pub head_alone : (a b w : Option (List ℕ)) (line : List ℕ) (head : Head) → IsTaken a b line Input → line_head line ≡ Ok head → Talks session_of a b w w (Ok tt)
head_alone a b w line head taken says =
    let said : session_of (line ∷ []) ≡ ([], None) = ap (λ (r : Result Head BadLine). session_with r []) says in (
      line ∷ [],
      Input,
      record { read = more_read a a b [] line Input (none_read a) taken; bad_is = ap (λ (p : List ℕ × Option BadLine). p.1) said },
      taken.ends,
      subst (Appends w w) (sym (ap (λ (p : List ℕ × Option BadLine). p.0) said)) (Appends-none w),
    )

-- the lines after a head
goes_behind : (a b c : Option (List ℕ)) (line : List ℕ) (head : Head) (lines : List (List ℕ)) (rest : List ℕ) (end : LineEnd) (bad : Option BadLine) → IsTaken a b line Feed → line_head line ≡ Ok head
    → RunsLines (calls_said head.request.allocation (client_of head)) b c lines rest end bad → RunsLines session_of a c (line ∷ lines) rest end bad
goes_behind a b c line head lines rest end bad taken says g = record {
  read = read_behind a b c line lines rest end taken g.read;
  bad_is = ap (λ (r : Result Head BadLine). (session_with r lines).1) says ∙ g.bad_is;
}

text_behind : (line : List ℕ) (head : Head) (lines : List (List ℕ)) → line_head line ≡ Ok head → (calls_said head.request.allocation (client_of head) lines).0 ≡ (session_of (line ∷ lines)).0
text_behind line head lines says = sym (ap (λ (r : Result Head BadLine). (session_with r lines).0) says)

pub head_heard : (a b c w x : Option (List ℕ)) (line : List ℕ) (head : Head) (result : Result (Unit {0}) Stop) → IsTaken a b line Feed → line_head line ≡ Ok head
    → Talks (calls_said head.request.allocation (client_of head)) b c w x result → Talks session_of a c w x result
head_heard a b c w x line head (Ok _) taken says (lines, end, g, ended, told) = (
  line ∷ lines,
  end,
  goes_behind a b c line head lines [] end None taken says g,
  ends_later a b c (line ++ 10 ∷ []) Input taken.consumed ended,
  subst (Appends w x) (text_behind line head lines says) told,
)
head_heard a b c w x line head (Err (Stops.Bad bad)) taken says (last, end, g, so, told) =
    let wrong : ◌≡◌ {A = Option BadLine} None (Some bad) = g.bad_is in cc
head_heard a b c w x line head (Err Stops.OutOfMemory) taken says (lines, rest, g, one, told) =
    (line ∷ lines, rest, goes_behind a b c line head lines rest Feed None taken says g, one, subst (Appends w x) (text_behind line head lines says) told)
head_heard a b c w x line head (Err Stops.ReadFailed) taken says (lines, rest, g, clear, told) =
    (line ∷ lines, rest, goes_behind a b c line head lines rest Feed None taken says g, clear, subst (Appends w x) (text_behind line head lines says) told)
head_heard a b c w x line head (Err Stops.WriteFailed) taken says (lines, last, end, count, g, so, told) = (
  line ∷ lines,
  last,
  end,
  count,
  goes_behind a b c line head (lines ++ last ∷ []) [] end None taken says g,
  ends_later a b c (line ++ 10 ∷ []) end taken.consumed so,
  subst (λ (text : List ℕ). Appends w x (take count text))
      (text_behind line head (lines ++ last ∷ []) says) told,
)
