-- Worked calls that send and receive data, so that the check computes when something is due after them.
use Rattle.std.specs.Prelude.{List, [], ◌∷◌, true}
use Rattle.turn_stun.specs.declared.transport.TransportType.TheVariants.{Udp}
use Rattle.turn_client_api.specs.State.{State}
use Rattle.turn_client_api.specs.Effect.{granted_until, new_allocation}
use Rattle.turn_client_api.specs.Steps.{state_after, state_after_all}
use Rattle.turn_client_api.specs.declared.call.Call.{Call}
use Rattle.turn_client_api.specs.declared.call.Call.TheVariants.{CreatePermission, Recv, SendTo}
use Rattle.turn_client_api.specs.declared.grant.Grant.TheVariants.{Channel, Permission}
use Rattle.turn_client_laws.specs.LawsReceived.{abc, abc_frame, client, server}
use Rattle.turn_client_laws.specs.LawsRows.{granted_at, ip_of_peer, peer, relayed_v4}
use Rattle.std.specs.declared.net.ip_addr.IpAddr.TheVariants as Ip
use Rattle.std.specs.declared.net.ip_addr.IpAddr.{IpAddr}

-- 10.0.0.9
abbrev pub ip_of_other : IpAddr
ip_of_other = Ip.V4 (record { octets = 10 ∷ 0 ∷ 0 ∷ 9 ∷ [] })

-- A client over UDP has a channel to a peer, sent its last request at 50 ms, and requests another permission at 60 ms.
abbrev pub asking : State → State
asking s =
    let t = granted_at 50_000_000 (new_allocation 1800 50_000_000 relayed_v4
    ∷ Permission ip_of_peer (granted_until 300_100_000_000 true) ∷ Channel 0x4000 peer (granted_until 600_100_000_000 true) ∷ []) s in
    state_after (CreatePermission Udp ip_of_other 60_000_000) (record t { local = client; remote = server })

-- data for the peer and data of it
abbrev pub traffic : List Call
traffic = SendTo Udp peer abc 60_000_000 ∷ Recv (record { payload = abc_frame; transport = Udp; from = server; to = client }) 60_000_000 ∷ []

-- and the same after these
abbrev pub with_traffic : State → State
with_traffic s = state_after_all (asking s) traffic
