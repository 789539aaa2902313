-- In a run data of peers makes nothing due.
use Rattle.turn_client_laws.proofs.Common.{◌≡◌, ◌∙◌, ℕ, List, [], ◌∷◌, filter_map, sym, subst, ap, refl, inl, inr, option_to_list, SocketAddr}
use Rattle.turn_client_laws.proofs.Machine.{TransportType, Udp, Tcp, Transmit, Config, State, initial, Call, HavePermission, Permissions, PollRecv, Recv, RelayedAddresses, SendTo, IsIdleUntil, IsTimely, Outcome}
use Rattle.turn_client_laws.proofs.Machine.{Handled, Ignored, PeerData, PeerIcmp, max_steps, packet_step, payload_in, poll_step, state_after, state_after_all, TurnPollRet}
use Rattle.turn_client_laws.proofs.Laws.{FitsPhase, GrantsHaveAllocations, GrantsHaveAllocations-AllHaveAllocation, Input, InputsLead, IsReportedBy, calls-do, contains-has, handled, initial-GrantsHaveAllocations}
use Rattle.turn_client_laws.proofs.Laws.{initial-steady, input_payload, leaves-GrantsHaveAllocations, leaves-steadies, poll-timely, recv-IsReportedBy, send_to-by, steady-FitsPhaseForPoll}
use Rattle.std.specs.List.{Contains}
use Rattle.turn_client_laws.proofs.InputChainLemmas.{steps-lead}
use Rattle.turn_client_runs.specs.Calm.{AreTraffic, IsOfPeer, IsTraffic, ProcessesOfPeers, TrafficIsCalm}
use Rattle.turn_client_runs.proofs.CalmLemmas.{datagram-calm, idle-ids, idle-streams, lead-stays}
use Rattle.turn_client_runs.proofs.HoldLemmas.{holds-found}
use Rattle.turn_client_runs.proofs.PeerLemmas.{call-answered}

-- what is returned of a peer is of an input
returned-handled : (packet : Transmit (List ℕ)) (now : ℕ) (s : State) (o : Outcome) → (packet_step packet now s).0 ≡ o → IsOfPeer o → handled (Recv packet now) s ≡ [] → ⊥
returned-handled packet now s Handled e is nothing = is
returned-handled packet now s Ignored e is nothing = is
returned-handled packet now s (PeerData payload) e is nothing =
    let clash : [] ≡ payload ∷ [] =
    sym (ap (λ (inputs : List Input). filter_map input_payload inputs) nothing) ∙ (call-answered (Recv packet now) s ∙ ap (λ (x : Outcome). option_to_list (payload_in x)) e) in
    cc
returned-handled packet now s (PeerIcmp transport peer icmp) e is nothing =
    by (subst (λ (x : Outcome). IsReportedBy x (Recv packet now) s) e (recv-IsReportedBy packet now s))
  where
    by : IsReportedBy (PeerIcmp transport peer icmp) (Recv packet now) s → ⊥
    by (one, among, did) = contains-has one [] (subst (λ (inputs : List Input). Contains inputs one) nothing among)

module _ (now time : ℕ) where
  lead-calm : (call : Call) (s : State) → ProcessesOfPeers call s → InputsLead (handled call s) s (state_after call s) → IsIdleUntil now time s → IsIdleUntil now time (state_after call s)
  lead-calm call s are lead idle =
      subst (IsIdleUntil now time) (sym (lead-stays (handled call s) s (state_after call s) are lead)) (idle-streams now time (state_after call s).streams s idle)

  recv-calm : (packet : Transmit (List ℕ)) (at : ℕ) (s : State) → IsTraffic (Recv packet at) s → IsIdleUntil now time s → IsIdleUntil now time (state_after (Recv packet at) s)
  recv-calm packet at s is idle = by s.transport refl
    where
      by : (carrier : TransportType) → s.transport ≡ carrier → IsIdleUntil now time (state_after (Recv packet at) s)
      by Udp e = subst (IsIdleUntil now time) (sym (datagram-calm packet.transport packet.from packet.to packet.payload at s.transport s e is.0)) idle
      by Tcp e = elim (calls-do (Recv packet at) s tt) [
        | inl lead ↦ lead-calm (Recv packet at) s (is.1 e) lead idle
        | inr end ↦ absurd (returned-handled packet at s (packet_step packet at s).0 refl is.0 end.nothing)
      ]

  call-calm : (call : Call) (s : State) → IsTraffic call s → IsIdleUntil now time s → IsIdleUntil now time (state_after call s)
  call-calm (SendTo transport peer bytes at) s is idle = send_to-by (IsIdleUntil now time) transport peer bytes at s (λ ids. idle-ids now time ids s idle)
  call-calm (Recv packet at) s is idle = recv-calm packet at s is idle
  call-calm (PollRecv at) s is idle = lead-calm (PollRecv at) s is (steps-lead (max_steps s) at s) idle
  call-calm RelayedAddresses s is idle = idle
  call-calm (Permissions transport relayed) s is idle = idle
  call-calm (HavePermission transport to) s is idle = idle
  call-calm call s is idle = absurd is

  calls-calm : (calls : List Call) (s : State) → AreTraffic calls s → IsIdleUntil now time s → IsIdleUntil now time (state_after_all s calls)
  calls-calm [] s are idle = idle
  calls-calm (call ∷ calls) s (is, are) idle = calls-calm calls (state_after call s) are (call-calm call s is idle)

pub run-calm : (transport : TransportType) (local remote : SocketAddr) (config : Config) (seed : List ℕ) (calls : List Call) → TrafficIsCalm (initial transport local remote config seed) calls
run-calm transport local remote config seed calls earlier now time middle later e early told below traffic =
    let was = state_after_all (initial transport local remote config seed) earlier in
    let fits = holds-found FitsPhase leaves-steadies initial-steady transport local remote config seed earlier in
    let inside = holds-found GrantsHaveAllocations leaves-GrantsHaveAllocations initial-GrantsHaveAllocations transport local remote config seed earlier in
    let timely = poll-timely now was (steady-FitsPhaseForPoll was fits) (GrantsHaveAllocations-AllHaveAllocation was inside) early in
    calls-calm now time middle (poll_step now was).1 traffic ((subst (λ (r : TurnPollRet). IsTimely r now was (poll_step now was).1) told timely).0 below)
