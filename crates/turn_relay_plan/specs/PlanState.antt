-- The plan of a relay.
use Rattle.std.specs.Prelude.{ℕ, List, Option, None}
use Rattle.std.specs.declared.net.socket_addr.SocketAddr.{SocketAddr}
use Rattle.turn_relay_tries.specs.Addresses.{no_addresses}
use Rattle.turn_relay_tries.specs.AddressesState.{AddressesState}
use Rattle.turn_relay_tries.specs.Attempts.{no_attempts}
use Rattle.turn_relay_tries.specs.Tasks.{no_tasks}
use Rattle.turn_relay_tries.specs.TasksState.{TasksState}
use Rattle.turn_relay_tries.specs.declared.attempts.Attempts.{Attempts}
use Rattle.turn_relay_tries.specs.declared.backoff.Backoff.{Backoff}
use Rattle.turn_relay_course.specs.Course.{new_course}
use Rattle.turn_relay_course.specs.declared.course.Course.{Course}
use Rattle.turn_relay_course.specs.declared.reopen.Reopen.{Reopen}

pub record PlanState : Type 0 where
  -- when it is tried, and how far it has come
  pub course : Course
  -- what the caller is to do
  pub tasks : TasksState
  -- those of the server that were not attempted, behind the next one
  pub addresses : AddressesState
  -- the address that is attempted next
  pub next : Option SocketAddr
  -- when it is
  pub attempts : Attempts

abbrev pub new_plan : Reopen → ℕ → Backoff → List ℕ → PlanState
new_plan reopen servers backoff seed = record {
  course = new_course reopen servers backoff seed;
  tasks = no_tasks;
  addresses = no_addresses;
  next = None;
  attempts = no_attempts 0;
}
