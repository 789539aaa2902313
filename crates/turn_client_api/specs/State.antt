-- The state of a client (RFC 8656; data connections by RFC 6062, integrity by RFC 8489).
use Rattle.std.specs.Prelude.{ℕ, ◌*◌, ◌+◌, ◌-◌, ◌^◌, min, List, [], ◌∷◌, Option, Some, None}
use Rattle.std.specs.declared.net.socket_addr.SocketAddr.{SocketAddr}
use Rattle.turn_stun.specs.declared.transport.TransportType.{TransportType}
use Rattle.turn_stun.specs.declared.transport.TransportType.TheVariants.{Udp, Tcp}
use Rattle.turn_types.specs.declared.family.AddressFamily.{AddressFamily}
use Rattle.turn_auth.specs.LongTerm.{Challenge, ClientAuth}
use Rattle.turn_agent.specs.Agent.{Agent}
use Rattle.turn_agent.specs.TransactionIds.{Source}
use Rattle.turn_agent.specs.declared.transaction.Transaction.{Transaction}
use Rattle.turn_client_api.specs.Config.{Config, timers_of}
use Rattle.turn_client_api.specs.declared.event.TurnEvent.{TurnEvent}
pub use Rattle.turn_client_api.specs.declared.state.Phase.{Phase}
pub use Rattle.turn_client_api.specs.declared.state.Phase.TheVariants.{New, Requesting, Authenticating, Allocated, Closed}
pub use Rattle.turn_client_api.specs.declared.grant.Progress.{Progress}
pub use Rattle.turn_client_api.specs.declared.grant.Progress.TheVariants.{Pending, Active, Reserved}
pub use Rattle.turn_client_api.specs.declared.grant.Lease.{Lease}
pub use Rattle.turn_client_api.specs.declared.grant.Relay.{Relay}
pub use Rattle.turn_client_api.specs.declared.grant.Origin.{Origin}
pub use Rattle.turn_client_api.specs.declared.grant.Origin.TheVariants.{OwnConnect, ServerRequest, ServerIndication}
pub use Rattle.turn_client_api.specs.declared.grant.DataOffer.{DataOffer}
pub use Rattle.turn_client_api.specs.declared.grant.DataConnection.{DataConnection}
pub use Rattle.turn_client_api.specs.declared.grant.Grant.{Grant}
pub use Rattle.turn_client_api.specs.declared.grant.Grant.TheVariants.{Allocation, Permission, Channel, Connect, Offer, Connection}
pub use Rattle.turn_client_api.specs.declared.grant.Purpose.{Purpose}
pub use Rattle.turn_client_api.specs.declared.grant.Purpose.TheVariants.{ForAllocation, ForRefresh, ForPermission, ForChannel, ForConnect, ForBind}
pub use Rattle.turn_client_api.specs.declared.grant.Listing.{Listing}
pub use Rattle.turn_client_api.specs.declared.state.Queued.{Queued}
pub use Rattle.turn_client_api.specs.declared.state.Mode.{Mode}
pub use Rattle.turn_client_api.specs.declared.state.Mode.TheVariants.{Control, Waiting, Bound, Broken}
pub use Rattle.turn_client_api.specs.declared.state.Stream.{Stream}

-- ---- times, in nanoseconds

abbrev pub seconds : ℕ → ℕ
seconds n = n * 1_000_000_000

-- the greatest `Instant`: sums stop there
abbrev pub max_time : ℕ
max_time = 2 ^ 63 - 1

abbrev pub later_by : ℕ → ℕ → ℕ
later_by duration time = min (time + duration) max_time

-- ---- the state

pub record State : Type 0 where
  -- what the client was made with
  pub config : Config
  pub transport : TransportType
  pub local : SocketAddr
  pub remote : SocketAddr
  -- the source of its next transaction IDs
  pub ids : Source
  pub phase : Phase
  -- the families of which an address is still requested
  pub families : List AddressFamily
  -- realm, nonce and algorithm of the challenges that were answered
  pub held : Option Challenge
  -- in the order in which they were requested or granted
  pub grants : List Grant
  pub listed : List Listing
  -- the requests that await their responses, the oldest first
  pub transactions : List Transaction
  pub queue : List Queued
  pub last_send : Option ℕ
  -- challenges answered since a signed reply last reset the count
  pub challenges : ℕ
  -- in the order in which they are polled
  pub events : List TurnEvent
  -- the local addresses of the data connections that the caller is to close
  pub closes : List SocketAddr
  -- in the order in which they were opened
  pub streams : List Stream

-- a client over TCP has the stream of its control connection from the first
abbrev pub first_streams : TransportType → SocketAddr → List Stream
first_streams Udp local = []
first_streams Tcp local = record { local = local; mode = Control; bytes = [] } ∷ []

-- a new client
abbrev pub initial : TransportType → SocketAddr → SocketAddr → Config → List ℕ → State
initial transport local remote config seed = record {
  config = config;
  transport = transport;
  local = local;
  remote = remote;
  ids = record { seed = seed; place = 0 };
  phase = New;
  families = config.address_families;
  held = None;
  grants = [];
  listed = [];
  transactions = [];
  queue = [];
  last_send = None;
  challenges = 0;
  events = [];
  closes = [];
  streams = first_streams transport local;
}

-- ---- the parts that the crates below use

abbrev pub agent_of : State → Agent
agent_of s = record {
  transport = s.transport;
  local = s.local;
  remote = Some s.remote;
  timers = timers_of s.config;
  transactions = s.transactions;
}

abbrev pub auth_of : State → ClientAuth
auth_of s = record {
  credentials = Some s.config.credentials;
  supported = s.config.supported_integrity;
  anonymous_username = s.config.anonymous_username;
  held = s.held;
}
