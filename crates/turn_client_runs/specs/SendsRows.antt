-- Worked calls of `send_to`, so that the check computes what they give.
use Rattle.std.specs.Prelude.{ℕ, true, List, [], ◌∷◌, None, Result}
use Rattle.turn_stun.specs.declared.transport.TransportType.{TransportType}
use Rattle.turn_stun.specs.declared.transport.TransportType.TheVariants.{Tcp}
use Rattle.turn_stun.specs.declared.transport.Transmit.{Transmit}
use Rattle.turn_types.specs.declared.family.AddressFamily.TheVariants.{IPV4}
use Rattle.turn_client_api.specs.State.{State, seconds}
use Rattle.turn_client_api.specs.Calls.{send_to_step}
use Rattle.turn_client_api.specs.Effect.{granted_until}
use Rattle.turn_client_api.specs.Grants.{with_expired}
use Rattle.turn_client_api.specs.declared.error.SendError.{SendError}
use Rattle.turn_client_api.specs.declared.grant.Grant.{Grant}
use Rattle.turn_client_api.specs.declared.grant.Grant.TheVariants.{Connection, Permission}
use Rattle.turn_client_laws.specs.LawsReceived.{abc, data_end, over_tcp, server, with_channel}
use Rattle.turn_client_laws.specs.LawsRows.{ip_of_peer, peer}

-- the allocation relays over TCP, and the peer has a permission
abbrev pub relaying_tcp : List Grant → State → State
relaying_tcp grants s =
    let t = over_tcp (Permission ip_of_peer (granted_until (seconds 300) true) ∷ grants) [] s in
    record t { config = record t.config { allocation_transport = Tcp } }

-- and a data connection is bound to it
abbrev pub with_joined_peer : State → State
with_joined_peer s = relaying_tcp (Connection (record { local = data_end; peer = peer; deadline = None }) ∷ []) s

-- the peer has a permission and a channel, and the allocation is marked as expired
abbrev pub with_channel_in_expired : State → State
with_channel_in_expired s = with_expired IPV4 (with_channel s)

-- the caller sends abc to the peer at 1 s
abbrev pub abc_over : TransportType → State → Result (Transmit (List ℕ)) SendError
abc_over transport s = (send_to_step transport peer abc (seconds 1) s).0

-- abc as it is, over the data connection
abbrev pub abc_joined : Transmit (List ℕ)
abc_joined = record { payload = abc; transport = Tcp; from = data_end; to = server }
