-- Properties of a list of calls.
use Rattle.turn_client_laws.proofs.Common.{◌≡◌, ◌∙◌, Bool, true, false, List, [], ◌∷◌, ◌++◌, Option, Some, None, ap, filter_map, option_map, refl, cons_option, SocketAddr}
use Rattle.turn_client_laws.proofs.Machine.{TransportType, State, Outcome, Payload, payload_in, poll_recv_step, packet_step}
use Rattle.turn_client_laws.proofs.Laws.{call-configured}
use Rattle.turn_client_api.specs.Payloads as O
use Rattle.turn_client_api.specs.declared.call.Call.TheVariants as Calls
use Rattle.turn_client_calls.specs.declared.reply.PeerData.{PeerData}
use Rattle.turn_gather.specs.Gathering.{Gathering, is_checked_in}
use Rattle.turn_gather.specs.Received.{gathered, passed_or_dropped}
use Rattle.turn_gather.specs.Drive.{after, all_replies, checked_payloads, client_after, gather_reply_of, gather_step, gathered_reply, if_checked, passed_up, payload_given, polled_reply}
use Rattle.turn_gather.specs.declared.calls.call.GatherCall.{GatherCall}
use Rattle.turn_gather.specs.declared.calls.call.GatherCall.TheVariants.{Candidates, IsChecked, Check, Recv, PollRecv, CreatePermission, SendTo, Poll, PollTransmit, PollEvent}
use Rattle.turn_gather.specs.declared.calls.reply.GatherReply.{GatherReply}

-- no call changes what the client's allocations relay over
client_after-config : (call : GatherCall) (s : State) → (client_after call s).config ≡ s.config
client_after-config Candidates s = refl
client_after-config (IsChecked transport peer) s = refl
client_after-config (Check transport peer) s = refl
client_after-config (Recv packet now) s = call-configured (Calls.Recv packet now) s
client_after-config (PollRecv now) s = call-configured (Calls.PollRecv now) s
client_after-config (CreatePermission transport peer now) s = call-configured (Calls.CreatePermission transport peer now) s
client_after-config (SendTo transport peer bytes now) s = call-configured (Calls.SendTo transport peer bytes now) s
client_after-config (Poll now) s = call-configured (Calls.Poll now) s
client_after-config (PollTransmit now) s = call-configured (Calls.PollTransmit now) s
client_after-config PollEvent s = call-configured Calls.PollEvent s

pub gather_step-relays : (s t : Gathering) (call : GatherCall) (reply : GatherReply) → (reply, t) ≡ gather_step s call → t.client.config.allocation_transport ≡ s.client.config.allocation_transport
gather_step-relays s t call reply e =
    ap (λ (p : GatherReply × Gathering). p.1.client.config.allocation_transport) e
    ∙ ap (λ c. c.allocation_transport) (client_after-config call s.client)

-- ---- the payloads passed up

-- the payload that an answer passes up, as a list
abbrev one_passed : GatherReply → List PeerData
one_passed reply = filter_map passed_up (reply ∷ [])

given_up-passed : (b : Bool) (payload : Payload) (pairs : List (TransportType × SocketAddr)) → is_checked_in payload.transport payload.peer pairs ≡ b
    → one_passed (gathered_reply (passed_or_dropped pairs payload)) ≡ if_checked pairs (Some payload)
given_up-passed true payload pairs e = rw e refl
given_up-passed false payload pairs e = rw e refl

gathered-passed : (outcome : Outcome) (pairs : List (TransportType × SocketAddr)) → one_passed (gathered_reply (gathered pairs outcome)) ≡ if_checked pairs (payload_in outcome)
gathered-passed O.Handled pairs = refl
gathered-passed O.Ignored pairs = refl
gathered-passed (O.PeerData payload) pairs = given_up-passed (is_checked_in payload.transport payload.peer pairs) payload pairs refl
gathered-passed (O.PeerIcmp transport peer icmp) pairs = refl

polled-passed : (given : Option Payload) (pairs : List (TransportType × SocketAddr)) → one_passed (polled_reply (option_map (passed_or_dropped pairs) given)) ≡ if_checked pairs given
polled-passed None pairs = refl
polled-passed (Some payload) pairs = given_up-passed (is_checked_in payload.transport payload.peer pairs) payload pairs refl

-- one answer passes up what the client delivered in its call, if its pair is checked
gather_reply_of-passed : (call : GatherCall) (s : Gathering) → one_passed (gather_reply_of call s) ≡ if_checked s.checked (payload_given call s.client)
gather_reply_of-passed Candidates s = refl
gather_reply_of-passed (IsChecked transport peer) s = refl
gather_reply_of-passed (Check transport peer) s = refl
gather_reply_of-passed (Recv packet now) s = gathered-passed (packet_step packet now s.client).0 s.checked
gather_reply_of-passed (PollRecv now) s = polled-passed (poll_recv_step now s.client).0 s.checked
gather_reply_of-passed (CreatePermission transport peer now) s = refl
gather_reply_of-passed (SendTo transport peer bytes now) s = refl
gather_reply_of-passed (Poll now) s = refl
gather_reply_of-passed (PollTransmit now) s = refl
gather_reply_of-passed PollEvent s = refl

filter_map-first : (reply : GatherReply) (replies : List GatherReply) → filter_map passed_up (reply ∷ replies) ≡ one_passed reply ++ filter_map passed_up replies
filter_map-first reply replies = by (passed_up reply)
  where
    rest : List PeerData
    rest = filter_map passed_up replies

    by : (o : Option PeerData) → cons_option o rest ≡ cons_option o [] ++ rest
    by None = refl
    by (Some payload) = refl

pub all_replies-passed : (s : Gathering) (calls : List GatherCall) → filter_map passed_up (all_replies s calls) ≡ checked_payloads s calls
all_replies-passed s [] = refl
all_replies-passed s (call ∷ calls) =
    filter_map-first (gather_reply_of call s) (all_replies (after call s) calls)
    ∙ (ap (λ front. front ++ filter_map passed_up (all_replies (after call s) calls)) (gather_reply_of-passed call s)
    ∙ ap (λ rest. if_checked s.checked (payload_given call s.client) ++ rest) (all_replies-passed (after call s) calls))
