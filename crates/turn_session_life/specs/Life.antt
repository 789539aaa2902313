-- How far a session has come, from its opening to its end, and what of that is reported.
use Rattle.std.specs.Prelude.{ℕ, ◌+◌, ◌-◌, ◌/◌, ◌^◌, min, Bool, true, false, if◌then◌else◌, Option, Some, None}
use Rattle.turn_session_book.specs.declared.causes.Why.{Why}
use Rattle.turn_session_life.specs.declared.life.Life.{Life}
use Rattle.turn_session_life.specs.declared.life.Phase.{Phase}
use Rattle.turn_session_life.specs.declared.life.Phase.TheVariants.{Opening, Open, Leaving, Over}
use Rattle.turn_session_life.specs.declared.life.Report.{Report}
use Rattle.turn_session_life.specs.declared.life.Report.TheVariants.{NotYet, Due, Done}

-- a stream to the server is connected from the first, so the server is heard
abbrev pub new_life : Bool → Life
new_life is_stream =
    record { phase = Opening; heard = if is_stream then Due else NotYet; ending = NotYet; over = NotYet }

abbrev pub is_running : Phase → Bool
is_running Opening = true
is_running Open = true
is_running _ = false

-- why it leaves or has ended
abbrev pub cause_in : Phase → Option Why
cause_in (Leaving leave) = Some leave.why
cause_in (Over why) = Some why
cause_in _ = None

abbrev pub heard_after : Report → Report
heard_after NotYet = Due
heard_after report = report

abbrev pub after_heard : Life → Life
after_heard l = record l { heard = heard_after l.heard }

abbrev pub opened : Phase → Phase
opened Opening = Open
opened phase = phase

abbrev pub after_opening : Life → Life
after_opening l = record l { phase = opened l.phase }

-- ---- the end

-- at the latest after this time
abbrev pub left_until : Why → ℕ → ℕ → ℕ → Phase
left_until why delete_by wait now =
    Leaving (record { delete_by = delete_by; until = min (now + wait) (2 ^ 63 - 1); why = why; is_deleted = false })

abbrev pub middle : ℕ → ℕ → ℕ
middle wait now = min (now + wait / 2) (2 ^ 63 - 1)

-- the caller leaves, and the deletion is requested in the middle of that time at the latest
abbrev pub after_leave : ℕ → ℕ → Life → Life
after_leave wait now l = if is_running l.phase then record l { phase = left_until Why.Closed (middle wait now) wait now } else l

-- the session leaves by itself: it requests the deletion and reports the cause at once
abbrev pub after_ending : Why → ℕ → ℕ → Life → Life
after_ending why wait now l = if is_running l.phase then record l { phase = left_until why now wait now; ending = Due } else l

abbrev pub deleted : Phase → Phase
deleted (Leaving leave) = Leaving (record leave { is_deleted = true })
deleted phase = phase

abbrev pub after_deletion : Life → Life
after_deletion l = record l { phase = deleted l.phase }

abbrev pub after_over : Why → Life → Life
after_over why l = record l { phase = Over why; over = Due }

-- there is one cause: that for which it left, or else this one
abbrev pub after_end : Why → Life → Life
after_end why l = by l.phase
  where
    by : Phase → Life
    by (Leaving leave) = after_over leave.why l
    by (Over before) = l
    by _ = after_over why l

-- ---- reports: that it was heard, that it is about to end, and that it has ended, each once

abbrev pub is_due : Report → Bool
is_due Due = true
is_due _ = false

abbrev pub reported : Report → Report
reported Due = Done
reported report = report

abbrev pub cause_if : Bool → Option Why → Option Why
cause_if true cause = cause
cause_if false cause = None

-- without a cause it has not ended
abbrev pub reported_with : Option Why → Report → Report
reported_with None report = report
reported_with (Some why) report = reported report

abbrev pub ending_report : Life → Option Why × Life
ending_report l = (cause_if (is_due l.ending) (cause_in l.phase), record l { ending = reported_with (cause_in l.phase) l.ending })

abbrev pub over_report : Life → Option Why × Life
over_report l = (cause_if (is_due l.over) (cause_in l.phase), record l { over = reported_with (cause_in l.phase) l.over })
