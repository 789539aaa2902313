-- The local addresses of streams.
use Rattle.std.proofs.Common.{◌≡◌, false, List, map}
use Rattle.std.specs.List.{AllByRecursion}
use Rattle.std.specs.declared.net.socket_addr.SocketAddr.{SocketAddr}
use Rattle.turn_agent.specs.Agent.{same_address}
use Rattle.turn_client_api.specs.declared.state.Stream.{Stream}

abbrev pub ends : List Stream → List SocketAddr
ends xs = map (λ stream. stream.local) xs

-- the local address is none of theirs
abbrev pub IsNoneOf : SocketAddr → List Stream → Type 0
IsNoneOf local xs = AllByRecursion (λ y. same_address local y ≡ false) (ends xs)
