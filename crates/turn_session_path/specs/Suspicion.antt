-- Doubts of an allocation: when the server is asked whether it still knows it.
use Rattle.std.specs.Prelude.{ℕ, ◌+◌, ◌*◌, ◌-◌, ◌==◌, ◌||◌, ◌^◌, min, nat_lt, not, Bool, true, false, if◌then◌else◌, Option, Some, None}
use Rattle.turn_session_path.specs.declared.suspicion.DoubtStep.{DoubtStep}
use Rattle.turn_session_path.specs.declared.suspicion.DoubtStep.TheVariants.{Ask, WaitUntil, Idle, Unanswered}
use Rattle.turn_session_path.specs.declared.suspicion.Suspicion.{Suspicion}

abbrev pub no_doubt : Suspicion
no_doubt = record { is_due = false; deadline = None; unanswered = 0; pause = 0; answered = None }

abbrev pub after_doubt : Suspicion → Suspicion
after_doubt s = record s { is_due = true }

-- another mapped address: the pause is forgotten
abbrev pub after_move : Suspicion → Suspicion
after_move s = record s { is_due = true; answered = None }

-- what a server answers that does not know the allocation: 437, or 441 after a restart with another realm (RFC 8656, section 19),
-- and some answer 400
abbrev pub is_forgotten : Option ℕ → Bool
is_forgotten None = false
is_forgotten (Some code) = (code == 400) || (code == 437) || (code == 441)

-- 2 s after the first answer, twice as long after each further one, to 60 s, and anew after 300 s without one
abbrev pub pause_after : ℕ → Suspicion → ℕ
pause_after now s = by s.answered
  where
    by : Option ℕ → ℕ
    by None = 2_000_000_000
    by (Some answered) =
        if nat_lt now (min (answered + 300_000_000_000) (2 ^ 63 - 1)) then min (2 * s.pause) 60_000_000_000 else 2_000_000_000

-- any other answer, of a server that knows it, ends the check
abbrev pub after_answer : Option ℕ → ℕ → Suspicion → Suspicion
after_answer code now s =
    if is_forgotten code then s
    else record s { deadline = None; unanswered = 0; pause = pause_after now s; answered = Some now }

-- when the next check may begin: at once, or after the pause
abbrev pub check_time : Suspicion → ℕ
check_time s = by s.answered
  where
    by : Option ℕ → ℕ
    by None = 0
    by (Some answered) = min (answered + s.pause) (2 ^ 63 - 1)

-- a check waits for its answer for 3 s
abbrev pub check_deadline : ℕ → ℕ
check_deadline now = min (now + 3_000_000_000) (2 ^ 63 - 1)

-- if there is a doubt, a check begins, unless the pause lasts
abbrev pub begin_step : ℕ → Suspicion → DoubtStep × Suspicion
begin_step now s =
    if not s.is_due then (Idle, s)
    else (if nat_lt now (check_time s) then (WaitUntil (check_time s), s)
    else (Ask, record s { is_due = false; unanswered = 0; deadline = Some (check_deadline now) }))

-- the result of `poll`, and the doubts after it: an unanswered check is followed by the next at once, and the third ends the session
abbrev pub suspicion_step : ℕ → Suspicion → DoubtStep × Suspicion
suspicion_step now s = by s.deadline
  where
    by : Option ℕ → DoubtStep × Suspicion
    by None = begin_step now s
    by (Some deadline) =
        if nat_lt now deadline then (WaitUntil deadline, s)
        else (if nat_lt s.unanswered 2 then (Ask, record s { unanswered = s.unanswered + 1; deadline = Some (check_deadline now) })
        else (Unanswered, s))
