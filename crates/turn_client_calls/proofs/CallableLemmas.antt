-- A call that can be made where allocations relay over UDP can be made on any client, since its payload is short.
use Rattle.std.proofs.Common.{List, refl}
use Rattle.std.specs.Prelude.{All}
use Rattle.turn_stun.specs.declared.transport.TransportType.{TransportType}
use Rattle.turn_stun.specs.declared.transport.TransportType.TheVariants.{Udp}
use Rattle.turn_client_api.specs.declared.call.Call.{Call}
use Rattle.turn_client_api.specs.declared.call.Call.TheVariants as Calls
use Rattle.turn_client_calls.specs.Run.{IsCallable}

pub callable_anywhere : (relays : TransportType) (call : Call) → IsCallable Udp call → IsCallable relays call
callable_anywhere relays (Calls.Delete now) h = h
callable_anywhere relays (Calls.CreatePermission transport peer now) h = h
callable_anywhere relays (Calls.BindChannel transport peer now) h = h
callable_anywhere relays (Calls.TcpConnect peer now) h = h
callable_anywhere relays (Calls.AllocatedTcpSocket id tuple peer local now) h = h
callable_anywhere relays (Calls.TcpClosed local remote now) h = h
callable_anywhere relays (Calls.SendTo transport peer bytes now) h = (h.0, λ over. h.1 refl)
callable_anywhere relays (Calls.Recv packet now) h = h
callable_anywhere relays (Calls.PollRecv now) h = h
callable_anywhere relays (Calls.Poll now) h = h
callable_anywhere relays (Calls.PollTransmit now) h = h
callable_anywhere relays Calls.PollEvent h = h
callable_anywhere relays Calls.ProtocolError h = h
callable_anywhere relays Calls.RelayedAddresses h = h
callable_anywhere relays (Calls.Permissions transport relayed) h = h
callable_anywhere relays (Calls.HavePermission transport to) h = h
callable_anywhere relays (Calls.SetPermissionKept transport peer is_kept) h = h
callable_anywhere relays (Calls.SetChannelKept transport peer is_kept) h = h

pub all_callable_anywhere : (relays : TransportType) (calls : List Call) → All (IsCallable Udp) calls → All (IsCallable relays) calls
all_callable_anywhere relays calls all = λ k d low. callable_anywhere relays _ (all k d low)
