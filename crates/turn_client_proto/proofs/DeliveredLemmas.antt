-- Data of peers among the replies of a run is the payload of an input of the run.
use Rattle.std.proofs.Common.{◌≡◌, ◌∙◌, ap, ℕ, List, [], ◌∷◌, Option, Some, None, refl, sym, subst, inl, inr}
use Rattle.std.specs.Prelude.{option_to_list}
use Rattle.std.specs.List.{Contains}
use Rattle.turn_client_api.specs.State.{State}
use Rattle.turn_client_api.specs.Payloads.{Payload, Outcome}
use Rattle.turn_client_api.specs.Payloads as O
use Rattle.turn_client_api.specs.Streams.{payload_in, poll_recv_step}
use Rattle.turn_client_api.specs.Steps.{packet_step, state_after}
use Rattle.turn_client_api.specs.declared.call.Call.{Call}
use Rattle.turn_client_api.specs.declared.call.Call.TheVariants.{Delete, CreatePermission, BindChannel, TcpConnect, AllocatedTcpSocket, TcpClosed, SendTo, Recv, PollRecv, Poll, PollTransmit}
use Rattle.turn_client_api.specs.declared.call.Call.TheVariants.{PollEvent, ProtocolError, RelayedAddresses, Permissions, HavePermission}
use Rattle.turn_client_api.proofs.HasLemmas.{Has, has-left, has-right}
use Rattle.turn_client_laws.proofs.StandLemmas.{contains-has, has-contains}
use Rattle.turn_client_runs.specs.Inputs.{IsAmong, delivered_by, answered_in, handled_in}
use Rattle.turn_client_laws.proofs.HandledLemmas.{recv-IsReportedBy}
use Rattle.turn_client_laws.specs.Handled.{Input, handled, processed}
use Rattle.turn_client_laws.specs.LawsPeers.{IsReportedBy}
use Rattle.turn_client_runs.specs.Peers.{ReportsOfPermitted}
use Rattle.turn_client_runs.proofs.InputsOfRuns.{among-left, among-right}
use Rattle.std.specs.declared.net.socket_addr.SocketAddr.{SocketAddr}
use Rattle.turn_stun.specs.declared.transport.Transmit.{Transmit}
use Rattle.turn_stun.specs.declared.transport.TransportType.{TransportType}
use Rattle.turn_types.specs.declared.attribute.icmp_report.Icmp.{Icmp}
use Rattle.turn_client_runs.proofs.PeerLemmas.{all-answered, received, reports-permitted}
use Rattle.turn_client_calls.specs.Run.{peer_data, poll_recv_reply, recv_reply, reply_of, replies_of}
use Rattle.turn_client_calls.specs.declared.reply.PeerData.{PeerData}
use Rattle.turn_client_calls.specs.declared.reply.Reply.TheVariants as Replies
use Rattle.turn_client_calls.specs.declared.reply.Reply.{Reply}
use Rattle.turn_client_proto.specs.Delivered.{AnswersOnlyPermitted, IsDelivered}
use Rattle.turn_client_api.specs.declared.call.Call.TheVariants.{SetPermissionKept, SetChannelKept}

-- one of these payloads has the data
abbrev IsOf : PeerData → List Payload → Type 0
IsOf given payloads = (payload : Payload) × (peer_data payload ≡ given) × Has payload payloads

recv-gives : (given : PeerData) (o : Outcome) → Replies.PeerData given ≡ recv_reply o → IsOf given (option_to_list (payload_in o))
recv-gives given (O.PeerData payload) e = (payload, cc, inl refl)
recv-gives given O.Handled e = absurd cc
recv-gives given O.Ignored e = absurd cc
recv-gives given (O.PeerIcmp transport peer icmp) e = absurd cc

poll-gives : (given : PeerData) (o : Option Payload) → Replies.PeerData given ≡ poll_recv_reply o → IsOf given (option_to_list o)
poll-gives given None e = absurd cc
poll-gives given (Some payload) e = (payload, cc, inl refl)

call-gives : (given : PeerData) (call : Call) (s : State) → Replies.PeerData given ≡ reply_of call s → IsOf given (delivered_by call s)
call-gives given (Recv packet now) s e = recv-gives given (packet_step packet now s).0 e
call-gives given (PollRecv now) s e = poll-gives given (poll_recv_step now s).0 e
call-gives given (Delete now) s e = absurd cc
call-gives given (CreatePermission transport peer now) s e = absurd cc
call-gives given (BindChannel transport peer now) s e = absurd cc
call-gives given (TcpConnect peer now) s e = absurd cc
call-gives given (AllocatedTcpSocket id tuple peer local now) s e = absurd cc
call-gives given (TcpClosed local remote now) s e = absurd cc
call-gives given (SendTo transport peer bytes now) s e = absurd cc
call-gives given (Poll now) s e = absurd cc
call-gives given (PollTransmit now) s e = absurd cc
call-gives given PollEvent s e = absurd cc
call-gives given ProtocolError s e = absurd cc
call-gives given RelayedAddresses s e = absurd cc
call-gives given (Permissions transport relayed) s e = absurd cc
call-gives given (HavePermission transport to) s e = absurd cc
call-gives given (SetPermissionKept transport peer is_kept) s e = absurd cc
call-gives given (SetChannelKept transport peer is_kept) s e = absurd cc

run-gives : (given : PeerData) (s : State) (calls : List Call) → Has (Replies.PeerData given) (replies_of s calls) → IsOf given (answered_in s calls)
run-gives given s [] none = absurd none
run-gives given s (call ∷ calls) (inl e) = by (call-gives given call s e)
  where
    by : IsOf given (delivered_by call s) → IsOf given (answered_in s (call ∷ calls))
    by (payload, same, here) = (payload, same, has-left payload (delivered_by call s) (answered_in (state_after call s) calls) here)
run-gives given s (call ∷ calls) (inr later) = by (run-gives given (state_after call s) calls later)
  where
    by : IsOf given (answered_in (state_after call s) calls) → IsOf given (answered_in s (call ∷ calls))
    by (payload, same, there) = (payload, same, has-right payload (delivered_by call s) (answered_in (state_after call s) calls) there)

-- data that a run returns came from a permitted peer
gives-data : (s : State) (calls : List Call) (given : PeerData) → Contains (replies_of s calls) (Replies.PeerData given) → IsDelivered given s calls
gives-data s calls given there = by (run-gives given s calls (contains-has (Replies.PeerData given) (replies_of s calls) there))
  where
    by : IsOf given (answered_in s calls) → IsDelivered given s calls
    by (payload, same, among) =
        (payload, same, received payload s calls (subst (λ (l : List Payload). Contains l payload) (sym (all-answered s calls)) (has-contains payload (answered_in s calls) among)))

-- ---- ICMP reports

same-icmp : (x y : Icmp) → x.icmp_type ≡ y.icmp_type → x.code ≡ y.code → x.data ≡ y.data → x ≡ y
same-icmp x y a b d =
    ap (λ (n : ℕ). record { icmp_type = n; code = x.code; «data» = x.data }) a
    ∙ (ap (λ (n : ℕ). record { icmp_type = y.icmp_type; code = n; «data» = x.data }) b
    ∙ ap (λ (n : ℕ). record { icmp_type = y.icmp_type; code = y.code; «data» = n }) d)

module _ (transport : TransportType) (peer : SocketAddr) (icmp : Icmp) where
  abbrev Reports : Reply
  Reports = Replies.PeerIcmp transport peer icmp.icmp_type icmp.code icmp.data

  recv-reports : (o : Outcome) → Reports ≡ recv_reply o → o ≡ O.PeerIcmp transport peer icmp
  recv-reports (O.PeerIcmp other to report) e =
      let a : icmp.icmp_type ≡ report.icmp_type = cc in
      let b : icmp.code ≡ report.code = cc in
      let d : icmp.data ≡ report.data = cc in
      let same : icmp ≡ report = same-icmp icmp report a b d in
      cc
  recv-reports (O.PeerData payload) e = absurd cc
  recv-reports O.Handled e = absurd cc
  recv-reports O.Ignored e = absurd cc

  poll-reports : (o : Option Payload) → Reports ≡ poll_recv_reply o → ⊥
  poll-reports None e = cc
  poll-reports (Some payload) e = cc

  abbrev Did : Input → Type 0
  Did one = ((processed one).0 ≡ O.PeerIcmp transport peer icmp) × ReportsOfPermitted one

  packet-reports : (packet : Transmit (List ℕ)) (now : ℕ) (s : State) → (packet_step packet now s).0 ≡ O.PeerIcmp transport peer icmp → IsAmong Did (handled (Recv packet now) s)
  packet-reports packet now s e = by (subst (λ (o : Outcome). IsReportedBy o (Recv packet now) s) e (recv-IsReportedBy packet now s))
    where
      by : IsReportedBy (O.PeerIcmp transport peer icmp) (Recv packet now) s → IsAmong Did (handled (Recv packet now) s)
      by (one, among, (outcome, exact)) = (one, among, (outcome, reports-permitted one))

  call-reports : (call : Call) (s : State) → Reports ≡ reply_of call s → IsAmong Did (handled call s)
  call-reports (Recv packet now) s e = packet-reports packet now s (recv-reports (packet_step packet now s).0 e)
  call-reports (PollRecv now) s e = absurd (poll-reports (poll_recv_step now s).0 e)
  call-reports (Delete now) s e = absurd cc
  call-reports (CreatePermission other ip now) s e = absurd cc
  call-reports (BindChannel other to now) s e = absurd cc
  call-reports (TcpConnect to now) s e = absurd cc
  call-reports (AllocatedTcpSocket id tuple to local now) s e = absurd cc
  call-reports (TcpClosed local remote now) s e = absurd cc
  call-reports (SendTo other to bytes now) s e = absurd cc
  call-reports (Poll now) s e = absurd cc
  call-reports (PollTransmit now) s e = absurd cc
  call-reports PollEvent s e = absurd cc
  call-reports ProtocolError s e = absurd cc
  call-reports RelayedAddresses s e = absurd cc
  call-reports (Permissions other relayed) s e = absurd cc
  call-reports (HavePermission other to) s e = absurd cc
  call-reports (SetPermissionKept other ip is_kept) s e = absurd cc
  call-reports (SetChannelKept other to is_kept) s e = absurd cc

  run-reports : (s : State) (calls : List Call) → Has Reports (replies_of s calls) → IsAmong Did (handled_in s calls)
  run-reports s [] none = absurd none
  run-reports s (call ∷ calls) (inl e) = among-left Did (handled call s) (handled_in (state_after call s) calls) (call-reports call s e)
  run-reports s (call ∷ calls) (inr later) = among-right Did (handled call s) (handled_in (state_after call s) calls) (run-reports (state_after call s) calls later)

pub gives-let-in : (s : State) (calls : List Call) → AnswersOnlyPermitted s calls
gives-let-in s calls = (
  gives-data s calls,
  λ transport peer icmp there.
      run-reports transport peer icmp s calls
      (contains-has (Replies.PeerIcmp transport peer icmp.icmp_type icmp.code icmp.data) (replies_of s calls) there),
)
