-- One line of a session, by the results of its parts.
use Rattle.std.proofs.Common.{◌≡◌, ℕ, true, false, List, [], ◌++◌, Option, Result, Ok, Err, inl, inr, refl, sym, ap, subst, ◌∙◌, take, length, arith}
use Rattle.std.proofs.lemmas.List.{length-take, nil_from_length}
use Rattle.std.specs.Io.KnownBytes.{Appends}
use Rattle.turn_stun.specs.declared.transport.TransportType.{TransportType}
use Rattle.turn_client_api.specs.declared.call.Call.{Call}
use Rattle.turn_client_api.specs.State.{State}
use Rattle.turn_lines.specs.declared.fault.BadKind.{BadKind}
use Rattle.turn_live.specs.Line.{IsTaken, feed_at, first_bytes}
use Rattle.turn_live.specs.Lines.{line_call, session_of}
use Rattle.turn_live.specs.Session.{AnswersLine, IsAnswered, ReadsHead, Steps, Talks}
use Rattle.turn_live.specs.declared.line.LineEnd.{LineEnd}
use Rattle.turn_live.specs.declared.line.LineEnd.TheVariants.{Feed, Input}
use Rattle.turn_live.specs.declared.stop.Stop.{Stop}
use Rattle.turn_live.specs.declared.stop.Stop.TheVariants as Stops
use Rattle.turn_live.proofs.CallsLemmas.{kept_call, kept_head}
use Rattle.turn_lines.proofs.AppendsLemmas.{Appends-none}
use Rattle.turn_live.proofs.TalkLemmas.{head_bad, head_unheard, one_line}

-- a line that is not a head
pub head_unread : (a b w : Option (List ℕ)) (kept line : List ℕ) (end : LineEnd) (stop : Stop) → IsTaken a b line end → kept ≡ first_bytes line → ReadsHead kept (Err stop)
    → Talks session_of a b w w (Err stop)
head_unread a b w kept line end (Stops.Bad bad) taken same h = head_bad a b w line end bad taken (sym (kept_head kept line same) ∙ h)
head_unread a b w kept line end Stops.OutOfMemory taken same h = head_unheard a b w line end taken
head_unread a b w kept line end Stops.ReadFailed taken same h = cc
head_unread a b w kept line end Stops.WriteFailed taken same h = cc

-- nothing was left of the input
pub step_ended : (relays : TransportType) (s : State) (a b w : Option (List ℕ)) (kept line : List ℕ) → IsTaken a b line Input → kept ≡ first_bytes line → kept ≡ []
    → Steps relays s s a b w w (Ok false)
step_ended relays s a b w kept line taken same none =
    let short : length (first_bytes line) ≡ 0 = ap length (sym same ∙ none) in
    (line, taken, inl (nil_from_length line (omega (arith, length-take 1048577 line, short)), refl, Appends-none w))

answered : (relays : TransportType) (s after : State) (kept line : List ℕ) (w x : Option (List ℕ)) (result : Result (Unit {0}) Stop) → kept ≡ first_bytes line
    → AnswersLine (line_call relays kept) s after w x result → AnswersLine (line_call relays line) s after w x result
answered relays s after kept line w x result same h = subst (λ (read : Result Call BadKind). AnswersLine read s after w x result) (kept_call relays kept line same) h

-- a line without an answer
unanswered : (relays : TransportType) (s after : State) (line : List ℕ) (end : LineEnd) (a b w x : Option (List ℕ)) (stop : Stop) → IsTaken a b line end
    → AnswersLine (line_call relays line) s after w x (Err stop) → Steps relays s after a b w x (Err stop)
unanswered relays s after line end a b w x (Stops.Bad bad) taken h = absurd h
unanswered relays s after line end a b w x Stops.OutOfMemory taken h = (line ++ feed_at end, taken.consumed, one_line line end taken.clear, h)
unanswered relays s after line end a b w x Stops.ReadFailed taken h = absurd h
unanswered relays s after line end a b w x Stops.WriteFailed taken h = (line, end, taken, h)

pub step_stopped : (relays : TransportType) (s after : State) (kept line : List ℕ) (end : LineEnd) (a b w x : Option (List ℕ)) (stop : Stop) → IsTaken a b line end
    → kept ≡ first_bytes line → AnswersLine (line_call relays kept) s after w x (Err stop) → Steps relays s after a b w x (Err stop)
step_stopped relays s after kept line end a b w x stop taken same h =
    unanswered relays s after line end a b w x stop taken (answered relays s after kept line w x (Err stop) same h)

-- a line that its LF ended, with its answer
pub step_on : (relays : TransportType) (s after : State) (kept line : List ℕ) (a b w x : Option (List ℕ)) → IsTaken a b line Feed → kept ≡ first_bytes line
    → IsAnswered (line_call relays kept) s after w x → Steps relays s after a b w x (Ok true)
step_on relays s after kept line a b w x taken same answer = (line, taken, answered relays s after kept line w x (Ok tt) same answer)

-- the last line, with its answer
pub step_last : (relays : TransportType) (s after : State) (kept line : List ℕ) (a b w x : Option (List ℕ)) → IsTaken a b line Input → kept ≡ first_bytes line
    → IsAnswered (line_call relays kept) s after w x → Steps relays s after a b w x (Ok false)
step_last relays s after kept line a b w x taken same answer = (line, taken, inr (answered relays s after kept line w x (Ok tt) same answer))
