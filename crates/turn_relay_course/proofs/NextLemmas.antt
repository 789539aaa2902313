-- How soon the next try comes.
use Rattle.std.proofs.Common.{◌≡◌, ℕ, ◌+◌, ◌≤◌, ◌&&◌, max, nat_lt, Bool, true, false, if◌then◌else◌, List, [], ◌∷◌, arith}
use Rattle.turn_agent.specs.TransactionIds.{next_id}
use Rattle.turn_relay_tries.specs.Backoff.{drawn_wait, lot_of}
use Rattle.turn_relay_tries.specs.Tries.{after, after_slow_try, first_tries}
use Rattle.turn_relay_tries.specs.Tries as Trying
use Rattle.turn_relay_tries.specs.declared.backoff.Backoff.{Backoff}
use Rattle.turn_relay_tries.specs.declared.causes.Cause.{Cause}
use Rattle.turn_relay_tries.specs.declared.tries.Tries.{Tries}
use Rattle.turn_relay_course.specs.Course.{begun_try, failed_in, is_due, is_too_slow, left_in, opened_in, ready_in, restored_in, tries_by, tries_in}
use Rattle.turn_relay_course.specs.Runs.{Call, run, step}
use Rattle.turn_relay_course.specs.Runs.Call.{Begin, Ready, Heard, Opened, Restored, Failed, Leave}
use Rattle.turn_relay_course.specs.declared.course.Course.{Course}
use Rattle.turn_relay_course.specs.declared.course.Phase.{Phase}
use Rattle.turn_relay_course.specs.declared.course.Phase.TheVariants as At
use Rattle.turn_relay_course.specs.declared.reopen.Reopen.{Reopen}
use Rattle.turn_relay_course.specs.declared.reopen.Reopen.TheVariants.{Never, Always}

-- no wait is longer than the longest
pub record IsShort (c : Course) : Type 0 where
  pub first : c.backoff.first ≤ c.backoff.longest
  pub wait : c.tries.wait ≤ c.backoff.longest

ready : (p : Phase) (now : ℕ) (c : Course) → IsShort c → IsShort (ready_in p now c)
ready At.Resting now c s = s
ready At.Asking now c s = record { first = s.first; wait = s.wait }
ready (At.Trying until) now c s = s
ready At.Restoring now c s = s
ready (At.Up since) now c s = s
ready (At.Over why) now c s = s

opened : (p : Phase) (c : Course) → IsShort c → IsShort (opened_in p c)
opened At.Resting c s = s
opened At.Asking c s = s
opened (At.Trying until) c s = record { first = s.first; wait = s.wait }
opened At.Restoring c s = s
opened (At.Up since) c s = s
opened (At.Over why) c s = s

restored : (p : Phase) (now : ℕ) (c : Course) → IsShort c → IsShort (restored_in p now c)
restored At.Resting now c s = s
restored At.Asking now c s = s
restored (At.Trying until) now c s = s
restored At.Restoring now c s = record { first = s.first; wait = s.wait }
restored (At.Up since) now c s = s
restored (At.Over why) now c s = s

left : (p : Phase) (c : Course) → IsShort c → IsShort (left_in p c)
left At.Resting c s = record { first = s.first; wait = s.wait }
left At.Asking c s = record { first = s.first; wait = s.wait }
left (At.Trying until) c s = record { first = s.first; wait = s.wait }
left At.Restoring c s = record { first = s.first; wait = s.wait }
left (At.Up since) c s = record { first = s.first; wait = s.wait }
left (At.Over why) c s = s

-- ---- a failure

slow : (is_slow heard : Bool) (now longest : ℕ) (t : Tries) → t.wait ≤ longest →
    (Trying.after_failure now (if is_slow then after_slow_try heard t else t)).wait ≤ longest
slow true heard now longest t short = short
slow false heard now longest t short = short

end : (is_soon : Bool) (b : Backoff) (now : ℕ) (t : Tries) → b.first ≤ b.longest → t.wait ≤ b.longest →
    (if is_soon then Trying.after_failure now t else first_tries b).wait ≤ b.longest
end true b now t first short = short
end false b now t first short = first

tries-short : (p : Phase) (cause : Cause) (now : ℕ) (c : Course) → IsShort c → (tries_in p cause now c).wait ≤ c.backoff.longest
tries-short At.Resting cause now c s = slow (is_too_slow cause) c.is_heard now c.backoff.longest c.tries s.wait
tries-short At.Asking cause now c s = slow (is_too_slow cause) c.is_heard now c.backoff.longest c.tries s.wait
tries-short (At.Trying until) cause now c s = slow (is_too_slow cause) c.is_heard now c.backoff.longest c.tries s.wait
tries-short At.Restoring cause now c s = slow (is_too_slow cause) c.is_heard now c.backoff.longest c.tries s.wait
tries-short (At.Up since) cause now c s = end (nat_lt now (after since 60_000_000_000)) c.backoff now c.tries s.first s.wait
tries-short (At.Over why) cause now c s = slow (is_too_slow cause) c.is_heard now c.backoff.longest c.tries s.wait

by-short : (r : Reopen) (cause : Cause) (now : ℕ) (c : Course) → IsShort c → (tries_by r cause now c).wait ≤ c.backoff.longest
by-short Never cause now c s = s.wait
by-short Always cause now c s = tries-short c.phase cause now c s

fails : (p : Phase) (cause : Cause) (now : ℕ) (c : Course) → IsShort c → IsShort (failed_in p cause now c)
fails At.Resting cause now c s = s
fails At.Asking cause now c s = record { first = s.first; wait = by-short c.reopen cause now c s }
fails (At.Trying until) cause now c s = record { first = s.first; wait = by-short c.reopen cause now c s }
fails At.Restoring cause now c s = record { first = s.first; wait = by-short c.reopen cause now c s }
fails (At.Up since) cause now c s = record { first = s.first; wait = by-short c.reopen cause now c s }
fails (At.Over why) cause now c s = s

-- ---- a call, and a run

begins : (is_due : Bool) (now : ℕ) (c : Course) → IsShort c →
    (let r : Bool × Course = if is_due then (true, begun_try now c) else (false, c) in IsShort r.1)
begins true now c s = record { first = s.first; wait = omega arith }
begins false now c s = s

call-short : (call : Call) (c : Course) → IsShort c → IsShort (step call c)
call-short (Begin now) c s = begins (is_due now c) now c s
call-short (Ready now) c s = ready c.phase now c s
call-short Heard c s = record { first = s.first; wait = s.wait }
call-short Opened c s = opened c.phase c s
call-short (Restored now) c s = restored c.phase now c s
call-short (Failed cause now) c s = fails c.phase cause now c s
call-short Leave c s = left c.phase c s

pub run-short : (calls : List Call) (c : Course) → IsShort c → IsShort (run calls c)
run-short [] c s = s
run-short (call ∷ calls) c s = run-short calls (step call c) (call-short call c s)

-- ---- the next try

slow-due : (is_slow heard : Bool) (bound now : ℕ) (t : Tries) → t.due ≤ bound →
    (Trying.after_failure now (if is_slow then after_slow_try heard t else t)).due ≤ max bound (now + 200_000_000)
slow-due true heard bound now t due = omega (arith, due)
slow-due false heard bound now t due = omega (arith, due)

end-due : (is_soon : Bool) (b : Backoff) (bound now : ℕ) (t : Tries) → t.due ≤ bound →
    (if is_soon then Trying.after_failure now t else first_tries b).due ≤ max bound (now + 200_000_000)
end-due true b bound now t due = omega (arith, due)
end-due false b bound now t due = omega arith

tries-due : (p : Phase) (cause : Cause) (bound now : ℕ) (c : Course) → c.tries.due ≤ bound → (tries_in p cause now c).due ≤ max bound (now + 200_000_000)
tries-due At.Resting cause bound now c due = slow-due (is_too_slow cause) c.is_heard bound now c.tries due
tries-due At.Asking cause bound now c due = slow-due (is_too_slow cause) c.is_heard bound now c.tries due
tries-due (At.Trying until) cause bound now c due = slow-due (is_too_slow cause) c.is_heard bound now c.tries due
tries-due At.Restoring cause bound now c due = slow-due (is_too_slow cause) c.is_heard bound now c.tries due
tries-due (At.Up since) cause bound now c due = end-due (nat_lt now (after since 60_000_000_000)) c.backoff bound now c.tries due
tries-due (At.Over why) cause bound now c due = slow-due (is_too_slow cause) c.is_heard bound now c.tries due

by-due : (r : Reopen) (cause : Cause) (bound now : ℕ) (c : Course) → c.tries.due ≤ bound → (tries_by r cause now c).due ≤ max bound (now + 200_000_000)
by-due Never cause bound now c due = omega arith
by-due Always cause bound now c due = tries-due c.phase cause bound now c due

-- a failure makes the next try due 0.2 s later at the latest, unless it was due later
pub failure-due : (p : Phase) (cause : Cause) (bound now : ℕ) (c : Course) → c.tries.due ≤ bound →
    (failed_in p cause now c).tries.due ≤ max bound (now + 200_000_000)
failure-due At.Resting cause bound now c due = omega (arith, due)
failure-due At.Asking cause bound now c due = by-due c.reopen cause bound now c due
failure-due (At.Trying until) cause bound now c due = by-due c.reopen cause bound now c due
failure-due At.Restoring cause bound now c due = by-due c.reopen cause bound now c due
failure-due (At.Up since) cause bound now c due = by-due c.reopen cause bound now c due
failure-due (At.Over why) cause bound now c due = omega (arith, due)

-- a try that begins makes the next one due a longest wait later at the latest
pub begin-due : (is_due : Bool) (now : ℕ) (c : Course) → IsShort c → is_due ≡ true →
    (let r : Bool × Course = if is_due then (true, begun_try now c) else (false, c) in r.1.tries.due ≤ now + c.backoff.longest)
begin-due true now c s due =
    let part : drawn_wait c.backoff c.tries.wait (lot_of (next_id c.numbers)) ≤ c.tries.wait = omega arith in
    omega (arith, part, s.wait)
begin-due false now c s due = absurd (no due)
  where
    no : false ≡ true → ⊥
    no h = grind (arith, h)
