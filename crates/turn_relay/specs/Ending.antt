-- The end of a session, and of a try.
use Rattle.std.specs.Prelude.{◌≡◌, ◌⊎◌, ℕ, ◌==◌, Bool, false, if◌then◌else◌, List, [], ◌∷◌, ◌++◌, map, take, Option, Some, None}
use Rattle.std.specs.declared.net.socket_addr.SocketAddr.{SocketAddr}
use Rattle.turn_session_book.specs.First.{with_first}
use Rattle.turn_session_book.specs.declared.causes.Why.{Why}
use Rattle.turn_session_book.specs.declared.causes.Why.TheVariants.{Refused}
use Rattle.turn_session_book.specs.declared.keys.Key.{Key}
use Rattle.turn_session_client.specs.Ending.{may_be_kept_until}
use Rattle.turn_relay_tries.specs.Redirects.{after_redirect, is_followed}
use Rattle.turn_relay_tries.specs.Wanted.{wanted_all, wanted_too}
use Rattle.turn_relay_tries.specs.declared.causes.Cause.{Cause}
use Rattle.turn_relay_tries.specs.declared.causes.Cause.TheVariants.{Life}
use Rattle.turn_relay_course.specs.declared.course.Phase.{Phase}
use Rattle.turn_relay_course.specs.declared.course.Phase.TheVariants as At
use Rattle.turn_relay_plan.specs.Failing.{after_failure, allocation_left}
use Rattle.turn_relay_plan.specs.PlanState.{PlanState}
use Rattle.turn_relay_plan.specs.Progress.{redirected}
use Rattle.turn_relay_lives.specs.LiveState.{LiveState, is_socket, left}
use Rattle.turn_relay_lives.specs.Lives.{live_of}
use Rattle.turn_relay_lives.specs.declared.link.Link.{Link}
use Rattle.turn_relay.specs.RelayState.{RelayState, is_up_in}
use Rattle.turn_relay.specs.declared.due.RelayDue.{RelayDue}
use Rattle.turn_relay.specs.declared.due.RelayDue.TheVariants as Due
use Rattle.turn_relay.specs.declared.events.RelayEvent.{RelayEvent}
use Rattle.turn_relay.specs.declared.events.RelayEvent.TheVariants as Event

-- ---- what is reported

abbrev pub again : ℕ → RelayDue
again now = Due.Wait (Some now)

abbrev pub event_or_again : ℕ → Option RelayEvent → RelayDue
event_or_again now (Some event) = Due.Event event
event_or_again now None = again now

-- the end of a relay is reported when its sessions have ended, too
abbrev pub trying_in : Phase → Cause → ℕ → Option RelayEvent
trying_in (At.Over last) cause due = None
trying_in _ cause due = Some (Event.Trying cause due)

-- a relay that was up is down, or else a try has failed
abbrev pub failure_event : Bool → Cause → PlanState → Option RelayEvent
failure_event was_up cause p = if was_up then Some (Event.Down cause) else trying_in p.course.phase cause p.course.tries.due

-- the next try may be redirected anew
abbrev pub redirected_anew : RelayState → RelayState
redirected_anew r = record r { redirects = r.settings.redirects; asked = [] }

abbrev pub failed_step : Bool → Cause → ℕ → RelayState → RelayDue × RelayState
failed_step was_up cause now r = (event_or_again now (failure_event was_up cause r.plan), redirected_anew r)

-- a try has failed in the plan, and its sessions leave
abbrev pub given_up : Cause → ℕ → RelayState → RelayDue × RelayState
given_up cause now r = failed_step false cause now (record r { lives = map (left now) r.lives })

-- ---- the end of the session that was used

abbrev pub left_at : ℕ → ℕ → List LiveState → List LiveState
left_at socket now lives = with_first (is_socket socket) (left now) lives

-- the server may keep its allocation
abbrev pub kept_until : Option ℕ → PlanState → PlanState
kept_until (Some until) p = allocation_left until p
kept_until None p = p

-- what it had is wanted again
abbrev pub taken_over : Option LiveState → RelayState → RelayState
taken_over (Some l) r = record r {
  wanted = wanted_all l.session.noted.notes.book.held r.wanted;
  plan = kept_until (may_be_kept_until l.session.noted) r.plan;
}
taken_over None r = r

abbrev pub fallen : Link → Cause → ℕ → RelayState → RelayState
fallen link cause now r = let t = taken_over (live_of link.socket r.lives) r in
    record t { plan = after_failure cause now t.plan; lives = left_at link.socket now t.lives; job = None }

abbrev pub gone_down : Link → Why → ℕ → RelayState → RelayDue × RelayState
gone_down link why now r = failed_step (is_up_in r.plan.course.phase) (Life why) now (fallen link (Life why) now r)

-- ---- another server (RFC 8489, section 10)

abbrev pub alternate_of : Option ℕ → Option SocketAddr → Option SocketAddr
alternate_of (Some code) alternate = if code == 300 then alternate else None
alternate_of None alternate = None

abbrev pub alternate_in : Why → Option SocketAddr
alternate_in (Refused error) = alternate_of error.code error.alternate
alternate_in _ = None

-- the server that names another one is not asked again in this try
abbrev pub asked_too : Link → RelayState → RelayState
asked_too link r = record r { asked = r.asked ++ link.attempt.to ∷ [] }

abbrev pub sent_on : Link → SocketAddr → ℕ → RelayState → RelayDue × RelayState
sent_on link to now r = (
  Due.Event (Event.Redirected to),
  record r {
    redirects = after_redirect to r.redirects r.asked;
    plan = redirected to r.plan;
    lives = left_at link.socket now r.lives;
    job = None;
  },
)

abbrev pub followed : Link → Why → SocketAddr → ℕ → RelayState → RelayDue × RelayState
followed link why to now r = if is_followed to r.redirects r.asked then sent_on link to now r else gone_down link why now r

abbrev pub end_step : Link → Why → ℕ → RelayState → RelayDue × RelayState
end_step link why now r = by (alternate_in why)
  where
    by : Option SocketAddr → RelayDue × RelayState
    by (Some to) = followed link why to now (asked_too link r)
    by None = gone_down link why now r

-- ---- without memory

-- the first grants are wanted again, and the rest is still to be done
abbrev pub TakesOverLater : ℕ → RelayState → RelayState → Type 0
TakesOverLater socket was r = by (live_of socket was.lives)
  where
    by : Option LiveState → Type 0
    by None = ⊥
    by (Some l) = (few : ℕ) × (r ≡ record was { wanted = wanted_all (take few l.session.noted.notes.book.held) was.wanted })

-- the server was not noted, or it was, and names one that is not asked
abbrev pub RedirectsLater : Link → SocketAddr → RelayState → RelayState → Type 0
RedirectsLater link to was r = let t = asked_too link was in
    (r ≡ was) ⊎ ((is_followed to t.redirects t.asked ≡ false) × TakesOverLater link.socket t r)

abbrev pub EndsLater : Link → Why → RelayState → RelayState → Type 0
EndsLater link why was r = by (alternate_in why)
  where
    by : Option SocketAddr → Type 0
    by (Some to) = RedirectsLater link to was r
    by None = TakesOverLater link.socket was r

-- ---- a grant that was lost

abbrev pub wanted_again : Key → ℕ → RelayState → RelayDue × RelayState
wanted_again key now r = (again now, record r { wanted = wanted_too key r.wanted; job = None })
