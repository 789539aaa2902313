-- What the caller asks for is independent of the streams.
use Rattle.turn_client_laws.proofs.Common.{◌≡◌, ℕ, Bool, true, false, not, ◌&&◌, ◌||◌, List, [], ◌∷◌, Option, Some, None, refl, leb, Result, is_some, find, filter_map, list_any, socket_ip, IpAddr}
use Rattle.turn_client_laws.proofs.Common.{SocketAddr}
use Rattle.turn_client_laws.proofs.Machine.{TransportType, Udp, Tcp, same_address, event_step, active_channel, bind_channel_step, bound_by, bound_to, can_send_to, channel_kept_step, channel_step}
use Rattle.turn_client_laws.proofs.Machine.{channels_to, connect_step, create_permission_step, delete_step, free_number, in_allocation, is_allocated, is_closed, is_in_progress, is_open_to, keep_step}
use Rattle.turn_client_laws.proofs.Machine.{on_channel, on_connection, permission_kept_step, permission_step, protocol_error_step, reserved_from, send_over, send_to_step, tcp_connect_step}
use Rattle.turn_client_laws.proofs.Machine.{connection_at, is_connected, is_connecting, as_connection, find_allocation_to, has_active_permission, is_past, is_permission_of, permission_state}
use Rattle.turn_client_laws.proofs.Machine.{same_transport, connection_gone, tcp_closed_step, State, Grant, DataConnection, Relay, Stream}
use Rattle.turn_client_api.specs.declared.error.BindChannelError.TheVariants as Bind
use Rattle.turn_client_api.specs.declared.error.CreatePermissionError.TheVariants as Create
use Rattle.turn_client_api.specs.declared.error.TcpConnectError.TheVariants as Join
use Rattle.turn_client_laws.proofs.AnyStreamsLemmas.{alike-cond, both_with, pair-cond, with_streams}

module _ (x : List Stream) where
  -- ---- in an allocation

  allocation-alike : {E : Type 0} (o : Option Relay) (ip : IpAddr) (now : ℕ) (refusal : E) (s : State) (p q : Result Unit E × State) → p ≡ both_with x q
      → in_allocation o ip now refusal (with_streams x s) p ≡ both_with x (in_allocation o ip now refusal s q)
  allocation-alike None ip now refusal s p q same = refl
  allocation-alike (Some a) ip now refusal s p q same = pair-cond x (is_past now a) _ _ _ _ refl same

  permission-alike : (ip : IpAddr) (now : ℕ) (s : State) → permission_step ip now (with_streams x s) ≡ both_with x (permission_step ip now s)
  permission-alike ip now s = pair-cond x (is_some (permission_state ip s)) _ _ _ _ refl (pair-cond x (not (is_allocated s.phase)) _ _ _ _ refl refl)

  pub create_permission-alike : (transport : TransportType) (ip : IpAddr) (now : ℕ) (s : State)
      → create_permission_step transport ip now (with_streams x s) ≡ both_with x (create_permission_step transport ip now s)
  create_permission-alike transport ip now s =
      allocation-alike (find_allocation_to transport ip s) ip now Create.NoAllocation s _ _ (permission-alike ip now s)

  bound-alike : (peer : SocketAddr) (now : ℕ) (s : State) (untils : List ℕ) (is : Bool) (o : Option ℕ)
      → bound_by peer now (with_streams x s) untils is o ≡ both_with x (bound_by peer now s untils is o)
  bound-alike peer now s (until ∷ others) is o = refl
  bound-alike peer now s [] false o = refl
  bound-alike peer now s [] true None = refl
  bound-alike peer now s [] true (Some number) = refl

  channel-alike : (peer : SocketAddr) (now : ℕ) (s : State) → channel_step peer now (with_streams x s) ≡ both_with x (channel_step peer now s)
  channel-alike peer now s =
      pair-cond x (list_any is_in_progress (channels_to peer s)) _ _ _ _ refl
      (bound-alike peer now s (filter_map (reserved_from now) (channels_to peer s)) (is_allocated s.phase) (free_number s))

  pub bind_channel-alike : (transport : TransportType) (peer : SocketAddr) (now : ℕ) (s : State)
      → bind_channel_step transport peer now (with_streams x s) ≡ both_with x (bind_channel_step transport peer now s)
  bind_channel-alike transport peer now s =
      allocation-alike (find_allocation_to transport (socket_ip peer) s) (socket_ip peer) now Bind.NoAllocation s _ _ (channel-alike peer now s)

  connect-alike : (peer : SocketAddr) (now : ℕ) (s : State) → connect_step peer now (with_streams x s) ≡ both_with x (connect_step peer now s)
  connect-alike peer now s =
      pair-cond x (not (is_allocated s.phase)) _ _ _ _ refl
      (pair-cond x (not (has_active_permission (socket_ip peer) s)) _ _ _ _ refl
      (pair-cond x (is_connected peer s || is_connecting peer s) _ _ _ _ refl refl))

  pub tcp_connect-alike : (peer : SocketAddr) (now : ℕ) (s : State) → tcp_connect_step peer now (with_streams x s) ≡ both_with x (tcp_connect_step peer now s)
  tcp_connect-alike peer now s =
      allocation-alike (find_allocation_to Tcp (socket_ip peer) s) (socket_ip peer) now Join.NoAllocation s _ _ (connect-alike peer now s)

  -- ---- what is kept, and the end

  keep-alike : (transport : TransportType) (which : Grant → Bool) (is_kept : Bool) (s : State)
      → keep_step transport which is_kept (with_streams x s) ≡ both_with x (keep_step transport which is_kept s)
  keep-alike transport which is_kept s = pair-cond x (same_transport transport s.config.allocation_transport && list_any which s.grants) _ _ _ _ refl refl

  pub permission_kept-alike : (transport : TransportType) (ip : IpAddr) (is_kept : Bool) (s : State)
      → permission_kept_step transport ip is_kept (with_streams x s) ≡ both_with x (permission_kept_step transport ip is_kept s)
  permission_kept-alike transport ip is_kept s = keep-alike transport (is_permission_of ip) is_kept s

  pub channel_kept-alike : (transport : TransportType) (peer : SocketAddr) (is_kept : Bool) (s : State)
      → channel_kept_step transport peer is_kept (with_streams x s) ≡ both_with x (channel_kept_step transport peer is_kept s)
  channel_kept-alike transport peer is_kept s = keep-alike transport (is_open_to peer) is_kept s

  pub delete-alike : (now : ℕ) (s : State) → delete_step now (with_streams x s) ≡ both_with x (delete_step now s)
  delete-alike now s = pair-cond x (is_allocated s.phase) _ _ _ _ refl refl

  pub protocol_error-alike : (s : State) → protocol_error_step (with_streams x s) ≡ with_streams x (protocol_error_step s)
  protocol_error-alike s = alike-cond x (is_closed s.phase) _ _ _ _ refl refl

  pub gone-alike : (local : SocketAddr) (s : State) → connection_gone local (with_streams x s) ≡ with_streams x (connection_gone local s)
  gone-alike local s = alike-cond x (is_some (connection_at local s)) _ _ _ _ refl refl

  pub tcp_closed-alike : (local remote : SocketAddr) (s : State) → tcp_closed_step local remote (with_streams x s) ≡ with_streams x (tcp_closed_step local remote s)
  tcp_closed-alike local remote s =
      alike-cond x (same_transport s.transport Tcp && same_address remote s.remote) _ _ _ _ (gone-alike local s) refl

  -- ---- data for a peer

  over-alike : (o : Option DataConnection) (bytes : List ℕ) (s : State) → on_connection o bytes (with_streams x s) ≡ both_with x (on_connection o bytes s)
  over-alike None bytes s = refl
  over-alike (Some c) bytes s = refl

  in-alike : (channels : List (ℕ × ℕ)) (peer : SocketAddr) (bytes : List ℕ) (now : ℕ) (s : State)
      → on_channel channels peer bytes now (with_streams x s) ≡ both_with x (on_channel channels peer bytes now s)
  in-alike [] peer bytes now s = refl
  in-alike ((number, expiry) ∷ others) peer bytes now s = pair-cond x (leb now expiry) _ _ _ _ refl refl

  send-alike : (transport : TransportType) (peer : SocketAddr) (bytes : List ℕ) (now : ℕ) (s : State)
      → send_over transport peer bytes now (with_streams x s) ≡ both_with x (send_over transport peer bytes now s)
  send-alike Tcp peer bytes now s = over-alike (find (bound_to peer) (filter_map as_connection s.grants)) bytes s
  send-alike Udp peer bytes now s = in-alike (filter_map (active_channel peer) s.grants) peer bytes now s

  pub send_to-alike : (transport : TransportType) (peer : SocketAddr) (bytes : List ℕ) (now : ℕ) (s : State)
      → send_to_step transport peer bytes now (with_streams x s) ≡ both_with x (send_to_step transport peer bytes now s)
  send_to-alike transport peer bytes now s = pair-cond x (can_send_to transport (socket_ip peer) s) _ _ _ _ (send-alike transport peer bytes now s) refl

  pub event-alike : (s : State) → event_step (with_streams x s) ≡ both_with x (event_step s)
  event-alike s = refl
