-- Which of a client's grants are unique, over all calls.
use Rattle.std.specs.Prelude.{◌==◌, Bool, false}
use Rattle.std.specs.List.{IsDistinct}
use Rattle.turn_agent.specs.Agent.{same_address}
use Rattle.turn_client_api.specs.Config.{same_family}
use Rattle.turn_client_api.specs.State.{State}
use Rattle.turn_client_api.specs.declared.grant.Grant.{Grant}
use Rattle.turn_client_api.specs.declared.grant.Grant.TheVariants.{Allocation, Permission, Channel, Connect, Connection}
use Rattle.turn_client_api.specs.Grants.{family_of, same_ip}

-- Both are of one kind and for the same: two allocations of a family, permissions of an IP address,
-- channels of a number, CONNECTs to a peer, or connections from a local address.
abbrev pub is_double : Grant → Grant → Bool
is_double (Allocation a) (Allocation b) = same_family (family_of a.relayed) (family_of b.relayed)
is_double (Permission ip progress) (Permission other later) = same_ip ip other
is_double (Channel number peer progress) (Channel other to later) = number == other
is_double (Connect peer) (Connect other) = same_address peer other
is_double (Connection c) (Connection d) = same_address c.local d.local
is_double _ _ = false

-- no two grants are for the same
abbrev pub HasNoDoubles : State → Type 0
HasNoDoubles s = IsDistinct is_double s.grants
