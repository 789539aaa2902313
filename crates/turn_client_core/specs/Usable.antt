-- An allocation in which a call may request something.
use Rattle.std.specs.Prelude.{ℕ, Bool, false, not, if◌then◌else◌, Option, Some, None}
use Rattle.std.specs.declared.net.ip_addr.IpAddr.{IpAddr}
use Rattle.turn_client_api.specs.Grants.{family_of_ip, is_past, with_expired}
use Rattle.turn_client_api.specs.State.{State}
use Rattle.turn_client_api.specs.declared.grant.Relay.{Relay}

-- it is there, and its expiry has not passed
abbrev pub is_usable : ℕ → Option Relay → Bool
is_usable now (Some a) = not (is_past now a)
is_usable now None = false

-- one whose expiry has passed is marked as expired
abbrev pub with_past_expired : Option Relay → IpAddr → ℕ → State → State
with_past_expired (Some a) ip now s = if is_past now a then with_expired (family_of_ip ip) s else s
with_past_expired None ip now s = s
