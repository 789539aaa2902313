-- When a relay is tried, how far it has come, and when it is given up.
use Rattle.std.specs.Prelude.{ℕ, ◌+◌, ◌-◌, ◌^◌, ◌||◌, ◌&&◌, min, nat_lt, not, Bool, true, false, if◌then◌else◌, List, Option, Some, None}
use Rattle.turn_agent.specs.TransactionIds.{behind_id, next_id}
use Rattle.turn_relay_tries.specs.Failures.{after_success, is_last, no_failures}
use Rattle.turn_relay_tries.specs.Failures as Failed
use Rattle.turn_relay_tries.specs.Tries.{after, after_end, after_slow_try, at_once, begun, first_tries}
use Rattle.turn_relay_tries.specs.Tries as Trying
use Rattle.turn_relay_tries.specs.declared.backoff.Backoff.{Backoff}
use Rattle.turn_relay_tries.specs.declared.causes.Cause.{Cause}
use Rattle.turn_relay_tries.specs.declared.causes.Cause.TheVariants.{Life, OwnError, TooSlow}
use Rattle.turn_relay_tries.specs.declared.tries.Tries.{Tries}
use Rattle.turn_session_book.specs.declared.causes.Why.TheVariants.{Closed}
use Rattle.turn_relay_course.specs.declared.course.Course.{Course}
use Rattle.turn_relay_course.specs.declared.course.Phase.{Phase}
use Rattle.turn_relay_course.specs.declared.course.Phase.TheVariants as At
use Rattle.turn_relay_course.specs.declared.reopen.Reopen.{Reopen}
use Rattle.turn_relay_course.specs.declared.reopen.Reopen.TheVariants.{Never, Always}

abbrev pub new_course : Reopen → ℕ → Backoff → List ℕ → Course
new_course reopen servers backoff seed = record {
  reopen = reopen;
  backoff = backoff;
  numbers = record { seed = seed; place = 0 };
  tries = first_tries backoff;
  failures = no_failures;
  phase = At.Resting;
  is_heard = false;
  servers = servers;
  server = 0;
}

-- ---- a try

abbrev pub is_resting : Phase → Bool
is_resting At.Resting = true
is_resting _ = false

-- a try begins only at its time, and only while there is none
abbrev pub is_due : ℕ → Course → Bool
is_due now c = is_resting c.phase && not (nat_lt now c.tries.due)

abbrev pub begun_try : ℕ → Course → Course
begun_try now c = record c {
  tries = begun c.backoff (next_id c.numbers) now c.tries;
  numbers = behind_id c.numbers;
  is_heard = false;
  phase = At.Asking;
}

abbrev pub begin_step : ℕ → Course → Bool × Course
begin_step now c = if is_due now c then (true, begun_try now c) else (false, c)

-- in one life a try has no end of its own
abbrev pub end_in : Reopen → ℕ → Course → Option ℕ
end_in Never now c = None
end_in Always now c = Some (after now c.tries.length)

abbrev pub try_end : ℕ → Course → Option ℕ
try_end now c = end_in c.reopen now c

-- the time of a try begins when its credentials are there
abbrev pub ready_in : Phase → ℕ → Course → Course
ready_in At.Asking now c = record c { phase = At.Trying (try_end now c) }
ready_in _ now c = c

abbrev pub after_ready : ℕ → Course → Course
after_ready now c = ready_in c.phase now c

abbrev pub after_sign : Course → Course
after_sign c = record c { is_heard = true }

abbrev pub opened_in : Phase → Course → Course
opened_in (At.Trying until) c = record c { phase = At.Restoring }
opened_in _ c = c

abbrev pub opened_course : Course → Course
opened_course c = opened_in c.phase c

-- only a relay that is up clears the failures
abbrev pub restored_in : Phase → ℕ → Course → Course
restored_in At.Restoring now c = record c { phase = At.Up now; failures = after_success c.failures }
restored_in _ now c = c

abbrev pub after_restoring : ℕ → Course → Course
after_restoring now c = restored_in c.phase now c

abbrev pub late_in : Phase → ℕ → Bool
late_in (At.Trying (Some until)) now = not (nat_lt now until)
late_in _ now = false

abbrev pub is_late : ℕ → Course → Bool
is_late now c = late_in c.phase now

-- ---- a failure

abbrev pub is_too_slow : Cause → Bool
is_too_slow (TooSlow time) = true
is_too_slow _ = false

-- a try that was too short for a server that was heard is followed by a longer one, and one that was silent by a short one
abbrev pub adapted : Cause → Course → Tries
adapted cause c = if is_too_slow cause then after_slow_try c.is_heard c.tries else c.tries

abbrev pub tries_in : Phase → Cause → ℕ → Course → Tries
tries_in (At.Up since) cause now c = after_end c.backoff since now c.tries
tries_in _ cause now c = Trying.after_failure now (adapted cause c)

abbrev pub tries_again : Cause → ℕ → Course → Tries
tries_again cause now c = tries_in c.phase cause now c

-- one life goes on to its next server at once
abbrev pub tries_by : Reopen → Cause → ℕ → Course → Tries
tries_by Never cause now c = at_once now c.tries
tries_by Always cause now c = tries_again cause now c

abbrev pub tries_after : Cause → ℕ → Course → Tries
tries_after cause now c = tries_by c.reopen cause now c

abbrev pub is_own_error : Cause → Bool
is_own_error (OwnError tag) = true
is_own_error _ = false

abbrev pub had_address : Phase → Bool
had_address At.Restoring = true
had_address (At.Up since) = true
had_address _ = false

abbrev pub place_behind : Course → ℕ
place_behind c = min (c.server + 1) (2 ^ 64 - 1)

-- one life ends after an address, or with the last server; the other one by what no other try mends
abbrev pub ends_in : Reopen → Bool → Course → Bool
ends_in Always last c = last
ends_in Never last c = had_address c.phase || not (nat_lt (place_behind c) c.servers)

-- and both by an error of the caller's own
abbrev pub ends_by : Bool → Cause → Course → Bool
ends_by last cause c = is_own_error cause || ends_in c.reopen last c

abbrev pub phase_after : Bool → Cause → Course → Phase
phase_after last cause c = if ends_by last cause c then At.Over cause else At.Resting

-- the servers are tried by turns
abbrev pub next_server : Course → ℕ
next_server c = if nat_lt (place_behind c) c.servers then place_behind c else 0

abbrev pub gone_down : Cause → ℕ → Course → Course
gone_down cause now c =
    let failures = Failed.after_failure cause now c.failures in
    record c {
      tries = tries_after cause now c;
      failures = failures;
      phase = phase_after (is_last failures) cause c;
      server = next_server c;
    }

abbrev pub failed_in : Phase → Cause → ℕ → Course → Course
failed_in At.Resting cause now c = c
failed_in (At.Over why) cause now c = c
failed_in _ cause now c = gone_down cause now c

abbrev pub after_failure : Cause → ℕ → Course → Course
after_failure cause now c = failed_in c.phase cause now c

-- ---- the end, and times

-- a relay that is over stays so
abbrev pub left_in : Phase → Course → Course
left_in (At.Over why) c = c
left_in _ c = record c { phase = At.Over (Life Closed) }

abbrev pub after_leaving : Course → Course
after_leaving c = left_in c.phase c

abbrev pub due_in : Phase → Course → Option ℕ
due_in At.Resting c = Some c.tries.due
due_in (At.Trying until) c = until
due_in _ c = None

abbrev pub due_time : Course → Option ℕ
due_time c = due_in c.phase c
