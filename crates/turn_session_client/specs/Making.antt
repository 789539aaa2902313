-- Requests of the client for a key (RFC 8656, sections 9 and 12, and RFC 6062, section 4.3).
use Rattle.std.specs.Prelude.{◌≡◌, ℕ, Result, Ok, Err}
use Rattle.std.specs.declared.net.ip_addr.IpAddr.{IpAddr}
use Rattle.std.specs.declared.net.socket_addr.SocketAddr.{SocketAddr}
use Rattle.turn_stun.specs.declared.transport.TransportType.{TransportType}
use Rattle.turn_client_api.specs.State.{State}
use Rattle.turn_client_api.specs.Calls.{bind_channel_step, create_permission_step, tcp_connect_step}
use Rattle.turn_client_api.specs.declared.error.BindChannelError.{BindChannelError}
use Rattle.turn_client_api.specs.declared.error.BindChannelError.TheVariants as Bind
use Rattle.turn_client_api.specs.declared.error.CreatePermissionError.{CreatePermissionError}
use Rattle.turn_client_api.specs.declared.error.CreatePermissionError.TheVariants as Create
use Rattle.turn_client_api.specs.declared.error.TcpConnectError.{TcpConnectError}
use Rattle.turn_client_api.specs.declared.error.TcpConnectError.TheVariants as Join
use Rattle.turn_session_book.specs.declared.answers.CallError.TheVariants.{NoAllocation, NoPermission, AlreadyExists, Reserved}
use Rattle.turn_session_book.specs.declared.keys.Key.{Key}
use Rattle.turn_session_book.specs.declared.keys.Key.TheVariants.{Permission, Channel, Connect}
use Rattle.turn_session_client.specs.declared.making.Made.{Made}
use Rattle.turn_session_client.specs.declared.making.Made.TheVariants.{Queued, Refused, NoMemory}

-- a permission that was requested already has its outcome by that request
abbrev pub permission_answer : Result Unit CreatePermissionError → Made
permission_answer (Ok done) = Queued
permission_answer (Err Create.AlreadyExists) = Queued
permission_answer (Err Create.NoAllocation) = Refused NoAllocation
permission_answer (Err Create.OutOfMemory) = NoMemory

abbrev pub channel_answer : Result Unit BindChannelError → Made
channel_answer (Ok done) = Queued
channel_answer (Err Bind.AlreadyExists) = Refused AlreadyExists
channel_answer (Err (Bind.ExpiredChannelExists until)) = Refused (Reserved until)
channel_answer (Err Bind.NoAllocation) = Refused NoAllocation
channel_answer (Err Bind.OutOfMemory) = NoMemory

abbrev pub connection_answer : Result Unit TcpConnectError → Made
connection_answer (Ok done) = Queued
connection_answer (Err Join.AlreadyExists) = Refused AlreadyExists
connection_answer (Err Join.NoAllocation) = Refused NoAllocation
connection_answer (Err Join.NoPermission) = Refused NoPermission
connection_answer (Err Join.OutOfMemory) = NoMemory

-- ---- the answer, and the client after it

abbrev pub permission_made : TransportType → IpAddr → ℕ → State → Made × State
permission_made relays ip now s =
    let step = create_permission_step relays ip now s in (permission_answer step.0, step.1)

abbrev pub channel_made : TransportType → SocketAddr → ℕ → State → Made × State
channel_made relays peer now s =
    let step = bind_channel_step relays peer now s in (channel_answer step.0, step.1)

abbrev pub connection_made : SocketAddr → ℕ → State → Made × State
connection_made peer now s =
    let step = tcp_connect_step peer now s in (connection_answer step.0, step.1)

abbrev pub made : Key → TransportType → ℕ → State → Made × State
made (Permission ip) relays now s = permission_made relays ip now s
made (Channel peer) relays now s = channel_made relays peer now s
made (Connect peer) relays now s = connection_made peer now s

-- memory is wanted for nothing but what would be on its way, and without it the client is as it was
abbrev pub Makes : Made → State → State → Made × State → Type 0
Makes NoMemory was s said = (said.0 ≡ Queued) × (s ≡ was)
Makes answer was s said = (answer ≡ said.0) × (s ≡ said.1)
