-- A relay: what it decides, its sessions, and what they are asked for.
use Rattle.std.specs.Prelude.{◌≡◌, ℕ, Bool, true, false, List, [], Option, Some, None}
use Rattle.std.specs.List.{position}
use Rattle.std.specs.declared.net.socket_addr.SocketAddr.{SocketAddr}
use Rattle.turn_session_book.specs.First.{with_first}
use Rattle.turn_session.specs.SessionState.{SessionState}
use Rattle.turn_relay_tries.specs.WantedState.{WantedState}
use Rattle.turn_relay_tries.specs.Wanted.{nothing_wanted}
use Rattle.turn_relay_course.specs.declared.course.Phase.{Phase}
use Rattle.turn_relay_course.specs.declared.course.Phase.TheVariants as At
use Rattle.turn_relay_plan.specs.PlanState.{PlanState, new_plan}
use Rattle.turn_relay_lives.specs.Calls.{CallsAt, called}
use Rattle.turn_relay_lives.specs.LiveState.{LiveState, is_used}
use Rattle.turn_relay_lives.specs.Lives.{used_live}
use Rattle.turn_relay.specs.declared.events.Addresses.{Addresses}
use Rattle.turn_relay.specs.declared.events.RelayEvent.{RelayEvent}
use Rattle.turn_relay.specs.declared.job.Job.{Job}
use Rattle.turn_relay.specs.declared.settings.RelaySettings.{RelaySettings}

pub record RelayState : Type 0 where
  pub settings : RelaySettings
  -- when it is tried, what the caller is to do, and how far it has come
  pub plan : PlanState
  -- its sessions
  pub lives : List LiveState
  -- what a session is asked for
  pub wanted : WantedState
  -- how often the try still goes where a server sends it, and the servers that sent it on
  pub redirects : ℕ
  pub asked : List SocketAddr
  -- what an event has led to, and is not done yet
  pub job : Option Job
  -- what a call of the caller has led to, and is not reported yet
  pub report : Option RelayEvent
  -- those of the session that is used
  pub addresses : Option Addresses
  -- the relayed address when the relay was last up
  pub last : Option SocketAddr
  -- whether the last event was returned
  pub has_ended : Bool

abbrev pub new_relay : RelaySettings → ℕ → List ℕ → RelayState
new_relay settings servers seed = record {
  settings = settings;
  plan = new_plan settings.reopen servers settings.backoff seed;
  lives = [];
  wanted = nothing_wanted;
  redirects = settings.redirects;
  asked = [];
  job = None;
  report = None;
  addresses = None;
  last = None;
  has_ended = false;
}

-- ---- how far it has come

abbrev pub is_up_in : Phase → Bool
is_up_in (At.Up since) = true
is_up_in _ = false

abbrev pub is_open_in : Phase → Bool
is_open_in (At.Up since) = true
is_open_in At.Restoring = true
is_open_in _ = false

-- its relayed address, while it is up
abbrev pub relayed_if : Bool → Option Addresses → Option SocketAddr
relayed_if true (Some addresses) = Some addresses.relayed
relayed_if _ _ = None

abbrev pub relayed_of : RelayState → Option SocketAddr
relayed_of r = relayed_if (is_up_in r.plan.course.phase) r.addresses

-- the session that has an allocation
abbrev pub open_if : Bool → List LiveState → Option LiveState
open_if true lives = used_live lives
open_if false lives = None

abbrev pub open_live : RelayState → Option LiveState
open_live r = open_if (is_open_in r.plan.course.phase) r.lives

abbrev pub place_if : Bool → List LiveState → Option ℕ
place_if true lives = position is_used lives
place_if false lives = None

abbrev pub open_place : RelayState → Option ℕ
open_place r = place_if (is_open_in r.plan.course.phase) r.lives

-- ---- calls of its sessions

-- the first session that passes a test is called
abbrev pub called_first : (LiveState → Bool) → (SessionState → SessionState) → RelayState → RelayState
called_first test call r = record r { lives = with_first test (called call) r.lives }

-- the same, for a call whose contract is no function; without such a session nothing changes
abbrev pub CallsFirst : (LiveState → Bool) → (SessionState → SessionState → Type 0) → Type 0 → RelayState → RelayState → Type 0
CallsFirst test call otherwise was r = by (position test was.lives)
  where
    by : Option ℕ → Type 0
    by (Some place) = (lives : List LiveState) × CallsAt place call was.lives lives × (r ≡ record was { lives = lives })
    by None = otherwise × (r ≡ was)
