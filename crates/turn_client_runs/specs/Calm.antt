-- Data of peers makes nothing due (RFC 8656, sections 11 and 12; RFC 6062, section 4.3).
use Rattle.std.specs.Prelude.{◌≡◌, ℕ, ◌<◌, ◌≤◌, ◌^◌, List, [], ◌∷◌, ◌++◌, ⊤}
use Rattle.std.specs.List.{AllByRecursion}
use Rattle.turn_stun.specs.declared.transport.TransportType.TheVariants.{Tcp}
use Rattle.turn_client_api.specs.State.{State}
use Rattle.turn_client_api.specs.Alarm.{IsIdleUntil}
use Rattle.turn_client_api.specs.Payloads.{Outcome, Handled, Ignored, PeerData, PeerIcmp}
use Rattle.turn_client_api.specs.Poll.{poll_step}
use Rattle.turn_client_api.specs.Steps.{packet_step, state_after, state_after_all}
use Rattle.turn_client_api.specs.declared.call.Call.{Call}
use Rattle.turn_client_api.specs.declared.call.Call.TheVariants.{HavePermission, Permissions, Poll, PollRecv, Recv, RelayedAddresses, SendTo}
use Rattle.turn_client_api.specs.declared.poll.TurnPollRet.TheVariants.{WaitUntil}
use Rattle.turn_client_laws.specs.Handled.{handled, processed}

-- it is data of a peer, or a report about what was sent to one
abbrev pub IsOfPeer : Outcome → Type 0
IsOfPeer (PeerData payload) = ⊤
IsOfPeer (PeerIcmp transport peer icmp) = ⊤
IsOfPeer Handled = ⊥
IsOfPeer Ignored = ⊥

-- all that the call processes is of peers
abbrev pub ProcessesOfPeers : Call → State → Type 0
ProcessesOfPeers call s = AllByRecursion (λ one. IsOfPeer (processed one).0) (handled call s)

-- The caller sends data, or receives that of a peer, and over TCP nothing else is processed with it, or only looks.
abbrev pub IsTraffic : Call → State → Type 0
IsTraffic (SendTo transport peer bytes now) s = ⊤
IsTraffic (Recv packet now) s = IsOfPeer (packet_step packet now s).0 × (s.transport ≡ Tcp → ProcessesOfPeers (Recv packet now) s)
IsTraffic (PollRecv now) s = ProcessesOfPeers (PollRecv now) s
IsTraffic RelayedAddresses s = ⊤
IsTraffic (Permissions transport relayed) s = ⊤
IsTraffic (HavePermission transport to) s = ⊤
IsTraffic _ s = ⊥

-- so is each of these calls
abbrev pub AreTraffic : List Call → State → Type 0
AreTraffic [] s = ⊤
AreTraffic (call ∷ calls) s = IsTraffic call s × AreTraffic calls (state_after call s)

-- From a `poll` on that returned a later time, after any such calls nothing is due before that time.
abbrev pub TrafficIsCalm : State → List Call → Type 0
TrafficIsCalm first calls =
    (earlier : List Call) (now time : ℕ) (middle later : List Call)
    → let was = state_after_all first earlier in
    let s = (poll_step now was).1 in
    calls ≡ earlier ++ Poll now ∷ middle ++ later → now ≤ 2 ^ 62 → (poll_step now was).0 ≡ WaitUntil time → now < time → AreTraffic middle s
    → IsIdleUntil now time (state_after_all s middle)
