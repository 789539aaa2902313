-- What a caller lets go, and keeps again.
use Rattle.std.specs.Prelude.{◌≡◌, ℕ, true, false, All}
use Rattle.turn_stun.specs.declared.transport.TransportType.{TransportType}
use Rattle.turn_stun.specs.declared.transport.TransportType.TheVariants.{Udp}
use Rattle.turn_client_api.specs.State.{State}
use Rattle.turn_client_api.specs.declared.grant.Grant.{Grant}
use Rattle.turn_client_api.specs.Due.{end_of, is_kept}
use Rattle.turn_client_api.specs.Grants.{failure_of}
use Rattle.turn_client_api.specs.Calls.{channel_kept_step, permission_kept_step}
use Rattle.turn_client_laws.specs.LawsGone.{grant_identity}
use Rattle.turn_client_laws.specs.LawsRows.{ip_of_peer, peer}

-- the second is the first, kept or not: it is the same grant, ends at the same time, and with the same event
abbrev pub IsSameButKept : Grant → Grant → Type 0
IsSameButKept was is =
    (grant_identity was ≡ grant_identity is)
    × ((now : ℕ) → end_of now is ≡ end_of now was)
    × ((transport : TransportType) → failure_of transport is ≡ failure_of transport was)

-- all that the client has is kept
abbrev pub KeepsAll : State → Type 0
KeepsAll s = All (λ g. is_kept g ≡ true) s.grants

-- ---- rows

-- the permission of the peer is let go
abbrev pub without_permission_kept : State → State
without_permission_kept s = (permission_kept_step Udp ip_of_peer false s).1

-- it is kept again
abbrev pub with_permission_kept : State → State
with_permission_kept s = (permission_kept_step Udp ip_of_peer true s).1

-- the channel to the peer is let go
abbrev pub without_channel_kept : State → State
without_channel_kept s = (channel_kept_step Udp peer false s).1
