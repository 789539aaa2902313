-- The state of a client that has ended.
use Rattle.std.specs.Prelude.{[], None}
use Rattle.turn_client_api.specs.State.{State, Closed}
use Rattle.turn_client_api.specs.declared.closed.ClosedClient as Client

-- nothing is queued, and there are no grants and no streams
abbrev pub closed_state : Client.ClosedClient → State
closed_state c = record {
  config = c.config;
  transport = c.transport;
  local = c.local_addr;
  remote = c.remote_addr;
  ids = record { seed = []; place = 0 };
  phase = Closed;
  families = [];
  held = None;
  grants = [];
  listed = [];
  transactions = [];
  queue = [];
  last_send = None;
  challenges = 0;
  events = [];
  closes = [];
  streams = [];
}
