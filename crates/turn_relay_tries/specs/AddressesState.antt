-- The addresses of a server that were not attempted yet.
use Rattle.std.specs.Prelude.{List, Option}
use Rattle.std.specs.declared.net.socket_addr.SocketAddr.{SocketAddr}
use Rattle.turn_types.specs.declared.family.AddressFamily.{AddressFamily}

pub record AddressesState : Type 0 where
  pub v4 : List SocketAddr
  pub v6 : List SocketAddr
  -- the family of the next one, if there is one of it
  pub turn : Option AddressFamily
