-- What a request does, without the data that goes with it.
use Rattle.std.specs.Prelude.{ℕ}
use Rattle.std.specs.declared.net.socket_addr.SocketAddr.{SocketAddr}
use Rattle.turn_stun.specs.declared.transport.TransportType.{TransportType}
use Rattle.turn_client_api.specs.declared.call.Call.{Call}
use Rattle.turn_client_api.specs.declared.poll.Socket5Tuple.{Socket5Tuple}

pub data Operation : Type 0 where
  -- a call that takes no data, and whose reply has neither bytes nor a list
  Plain : Call → Operation
  SendTo : TransportType → SocketAddr → ℕ → Operation
  Recv : Socket5Tuple → ℕ → Operation
  PollRecv : ℕ → Operation
  Poll : ℕ → Operation
  PollTransmit : ℕ → Operation
  PollEvent : Operation
  -- the address at an index of those that the call returns
  RelayedAddresses : ℕ → Operation
  Permissions : TransportType → SocketAddr → ℕ → Operation
  -- no call: the next bytes that an earlier answer left
  Read : Operation
