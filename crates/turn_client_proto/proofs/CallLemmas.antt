-- By its clauses each call of a client leaves a state that the call may leave: what holds after every call
-- holds after it.
use Rattle.std.proofs.Common.{◌≡◌, ℕ, Bool, true, List, Option, Result, Ok, Err, IsOk, OnErr, OnOk, ap, inl, inr}
use Rattle.std.proofs.lemmas.Bool.{false_from_ne_true, false≢true}
use Rattle.std.specs.declared.net.ip_addr.IpAddr.{IpAddr}
use Rattle.std.specs.declared.net.socket_addr.SocketAddr.{SocketAddr}
use Rattle.turn_stun.specs.declared.transport.Transmit.{Transmit}
use Rattle.turn_stun.specs.declared.transport.TransportType.{TransportType}
use Rattle.turn_client_api.specs.Answers.{BindsChannel, Connects, CreatesPermission, Deletes, RecvEnds, TakesSocket, event_step, takes_no_memory, EndsAfterSteps}
use Rattle.turn_client_api.specs.Calls.{allocated_tcp_socket_step, bind_channel_step, create_permission_step, delete_step, protocol_error_step, send_to_step, tcp_connect_step}
use Rattle.turn_client_api.specs.Effect.{closed}
use Rattle.turn_client_api.specs.Poll.{poll_step}
use Rattle.turn_client_api.specs.Receive.{recv_step, tcp_closed_step}
use Rattle.turn_client_api.specs.State.{State}
use Rattle.turn_client_api.specs.Steps.{Leaves}
use Rattle.turn_client_api.specs.Transmit.{transmit_step}
use Rattle.turn_client_api.specs.declared.call.Call.{Call}
use Rattle.turn_client_api.specs.declared.error.BindChannelError.{BindChannelError}
use Rattle.turn_client_api.specs.declared.error.BindChannelError.TheVariants as Bind
use Rattle.turn_client_api.specs.declared.error.CreatePermissionError.{CreatePermissionError}
use Rattle.turn_client_api.specs.declared.error.CreatePermissionError.TheVariants as Create
use Rattle.turn_client_api.specs.declared.error.DeleteError.{DeleteError}
use Rattle.turn_client_api.specs.declared.error.DeleteError.TheVariants as Delete
use Rattle.turn_client_api.specs.declared.error.TcpAllocateError.{TcpAllocateError}
use Rattle.turn_client_api.specs.declared.error.TcpAllocateError.TheVariants as Socket
use Rattle.turn_client_api.specs.declared.error.TcpConnectError.{TcpConnectError}
use Rattle.turn_client_api.specs.declared.error.TcpConnectError.TheVariants as Join
use Rattle.turn_client_api.specs.declared.poll.Socket5Tuple.{Socket5Tuple}
use Rattle.turn_client_api.specs.Streams.{poll_recv_step}
use Rattle.turn_client_api.specs.declared.error.KeepError.{KeepError}
use Rattle.turn_client_api.specs.Calls.{channel_kept_step, permission_kept_step}

module _ {Kept : State → Type 0} (keeps : (call : Call) (s t : State) → Leaves call s t → Kept s → Kept t) (s t : State) where
  closed-keeps : t ≡ closed s → Kept s → Kept t
  closed-keeps e = keeps (Call.Poll 0) s t (inr e)

  pub permission-keeps : (result : Result Unit CreatePermissionError) (transport : TransportType) (peer : IpAddr) (now : ℕ)
      → CreatesPermission result s t (create_permission_step transport peer now s) → Kept s → Kept t
  permission-keeps (Ok x) transport peer now h = keeps (Call.CreatePermission transport peer now) s t (inl h.1)
  permission-keeps (Err Create.AlreadyExists) transport peer now h = keeps (Call.CreatePermission transport peer now) s t (inl h.1)
  permission-keeps (Err Create.NoAllocation) transport peer now h = keeps (Call.CreatePermission transport peer now) s t (inl h.1)
  permission-keeps (Err Create.OutOfMemory) transport peer now h = keeps (Call.CreatePermission transport peer now) s t (inr h.1)

  pub channel-keeps : (result : Result Unit BindChannelError) (transport : TransportType) (peer : SocketAddr) (now : ℕ) → BindsChannel result s t (bind_channel_step transport peer now s) → Kept s
      → Kept t
  channel-keeps (Ok x) transport peer now h = keeps (Call.BindChannel transport peer now) s t (inl h.1)
  channel-keeps (Err Bind.AlreadyExists) transport peer now h = keeps (Call.BindChannel transport peer now) s t (inl h.1)
  channel-keeps (Err (Bind.ExpiredChannelExists time)) transport peer now h = keeps (Call.BindChannel transport peer now) s t (inl h.1)
  channel-keeps (Err Bind.NoAllocation) transport peer now h = keeps (Call.BindChannel transport peer now) s t (inl h.1)
  channel-keeps (Err Bind.OutOfMemory) transport peer now h = keeps (Call.BindChannel transport peer now) s t (inr h.1)

  pub connect-keeps : (result : Result Unit TcpConnectError) (peer : SocketAddr) (now : ℕ) → Connects result s t (tcp_connect_step peer now s) → Kept s → Kept t
  connect-keeps (Ok x) peer now h = keeps (Call.TcpConnect peer now) s t (inl h.1)
  connect-keeps (Err Join.AlreadyExists) peer now h = keeps (Call.TcpConnect peer now) s t (inl h.1)
  connect-keeps (Err Join.NoAllocation) peer now h = keeps (Call.TcpConnect peer now) s t (inl h.1)
  connect-keeps (Err Join.NoPermission) peer now h = keeps (Call.TcpConnect peer now) s t (inl h.1)
  connect-keeps (Err Join.OutOfMemory) peer now h = keeps (Call.TcpConnect peer now) s t (inr h.1)

  pub socket-keeps : (result : Result Unit TcpAllocateError) (id : ℕ) (tuple : Socket5Tuple) (peer : SocketAddr) (local : Option SocketAddr) (now : ℕ)
      → TakesSocket result s t (allocated_tcp_socket_step id tuple peer local now s) → Kept s → Kept t
  socket-keeps (Ok x) id tuple peer local now h = keeps (Call.AllocatedTcpSocket id tuple peer local now) s t (inl h.1)
  socket-keeps (Err Socket.AlreadyExists) id tuple peer local now h = keeps (Call.AllocatedTcpSocket id tuple peer local now) s t (inl h.1)
  socket-keeps (Err Socket.NoAllocation) id tuple peer local now h = keeps (Call.AllocatedTcpSocket id tuple peer local now) s t (inl h.1)
  socket-keeps (Err Socket.OutOfMemory) id tuple peer local now h = keeps (Call.AllocatedTcpSocket id tuple peer local now) s t (inr h.1)

  pub delete-keeps : (result : Result Unit DeleteError) (now : ℕ) → Deletes result s t (delete_step now s) → Kept s → Kept t
  delete-keeps (Ok x) now h = keeps (Call.Delete now) s t (inl h.1)
  delete-keeps (Err Delete.NoAllocation) now h = keeps (Call.Delete now) s t (inl h.1)
  delete-keeps (Err Delete.OutOfMemory) now h = keeps (Call.Delete now) s t (inr h.1)

  pub permission_kept-keeps : (result : Result Unit KeepError) (transport : TransportType) (peer : IpAddr) (is_kept : Bool)
      → (result, t) ≡ permission_kept_step transport peer is_kept s → Kept s → Kept t
  permission_kept-keeps result transport peer is_kept e =
      keeps (Call.SetPermissionKept transport peer is_kept) s t (inl (ap (λ (p : Result Unit KeepError × State). p.1) e))

  pub channel_kept-keeps : (result : Result Unit KeepError) (transport : TransportType) (peer : SocketAddr) (is_kept : Bool)
      → (result, t) ≡ channel_kept_step transport peer is_kept s → Kept s → Kept t
  channel_kept-keeps result transport peer is_kept e =
      keeps (Call.SetChannelKept transport peer is_kept) s t (inl (ap (λ (p : Result Unit KeepError × State). p.1) e))

  pub closed_end-keeps : (local remote : SocketAddr) → t ≡ tcp_closed_step local remote s → Kept s → Kept t
  closed_end-keeps local remote e = keeps (Call.TcpClosed local remote 0) s t (inl e)

  pub send-keeps : (transport : TransportType) (peer : SocketAddr) (bytes : List ℕ) (now : ℕ) → t ≡ (send_to_step transport peer bytes now s).1 → Kept s → Kept t
  send-keeps transport peer bytes now e = keeps (Call.SendTo transport peer bytes now) s t (inl e)

  pub event-keeps : t ≡ (event_step s).1 → Kept s → Kept t
  event-keeps e = keeps Call.PollEvent s t (inl e)

  pub poll-keeps : (now : ℕ) → t ≡ (poll_step now s).1 → Kept s → Kept t
  poll-keeps now e = keeps (Call.Poll now) s t (inl e)

  module _ {A E : Type 0} where
    pub transmit-keeps : (result : Result A E) (now : ℕ) → OnOk result (t ≡ (transmit_step now s).1) → OnErr result (t ≡ closed s) → Kept s → Kept t
    transmit-keeps (Ok x) now e f = keeps (Call.PollTransmit now) s t (inl e)
    transmit-keeps (Err x) now e f = closed-keeps f

    pub error-keeps : (result : Result A E) → OnOk result (t ≡ protocol_error_step s) → OnErr result (t ≡ closed s) → Kept s → Kept t
    error-keeps (Ok x) e f = keeps Call.ProtocolError s t (inl e)
    error-keeps (Err x) e f = closed-keeps f

    pub drain-keeps : (result : Result A E) (now : ℕ) → OnOk result (t ≡ (poll_recv_step now s).1) → OnErr result (EndsAfterSteps now s t) → Kept s → Kept t
    drain-keeps (Ok x) now e ends = keeps (Call.PollRecv now) s t (inl e)
    drain-keeps (Err x) now e ends = keeps (Call.PollRecv now) s t (inr ends)

    pub recv-keeps : (result : Result A E) (packet : Transmit (List ℕ)) (now : ℕ)
        → OnOk result (t ≡ (recv_step packet.transport packet.from packet.to packet.payload now s).1) → OnErr result (RecvEnds packet.to packet.payload now s t)
        → (takes_no_memory packet.transport packet.from packet.to packet.payload s ≡ true → IsOk result) → Kept s → Kept t
    recv-keeps (Ok x) packet now e ends free = keeps (Call.Recv packet now) s t (inl e)
    recv-keeps (Err x) packet now e ends free = keeps (Call.Recv packet now) s t (inr (false_from_ne_true _ (λ takes. false≢true (free takes)), ends))
