-- The answer of a call, and the session after it.
use Rattle.std.specs.Prelude.{◌≡◌, ◌≤◌, ◌^◌, ℕ, Bool, true, false, if◌then◌else◌, not, ◌&&◌, List, length, Option, Some, Result, Ok, Err, Vec, ⊤}
use Rattle.std.specs.Global.{Global}
use Rattle.std.specs.Net.Socket.{socket_ip}
use Rattle.std.specs.declared.convert.AsSlice.{Ghosts}
use Rattle.std.specs.declared.net.socket_addr.SocketAddr.{SocketAddr}
use Rattle.turn_stun.specs.declared.transport.Transmit.{Transmit}
use Rattle.turn_stun.specs.declared.transport.TransportType.{TransportType}
use Rattle.turn_client_api.specs.Calls.{can_send_to}
use Rattle.turn_client_api.specs.Delayed.{delayed_send_bytes}
use Rattle.turn_client_api.specs.Payloads.{Outcome, Payload}
use Rattle.turn_client_api.specs.declared.error.SendError.{SendError}
use Rattle.turn_client_api.specs.declared.error.TcpAllocateError.{TcpAllocateError}
use Rattle.turn_client_api.specs.declared.poll.Socket5Tuple.{Socket5Tuple}
use Rattle.turn_client_api.specs.declared.poll.TurnPollRet.{TurnPollRet}
use Rattle.turn_client_api.specs.declared.poll.TurnPollRet.TheVariants.{WaitUntil, Closed}
use Rattle.turn_client_calls.specs.Run.{poll_recv_reply, recv_reply}
use Rattle.turn_client_calls.specs.declared.reply.Reply.TheVariants as Client
use Rattle.turn_session_book.specs.declared.answers.Answer.{Answer}
use Rattle.turn_session_book.specs.declared.causes.Why.TheVariants as Why
use Rattle.turn_session_book.specs.declared.held.HeldGrant.{HeldGrant}
use Rattle.turn_session_book.specs.declared.keys.Key.{Key}
use Rattle.turn_session_book.specs.declared.keys.Key.TheVariants.{Permission}
use Rattle.turn_session_client.specs.Asking.{Requests, grant_of, keep_result}
use Rattle.turn_session_client.specs.Ending.{abandon_result, abandon_state, ended, is_over, left, left_for, may_be_kept_until}
use Rattle.turn_session_client.specs.Keeping.{kept_while_running}
use Rattle.turn_session_client.specs.Sending.{sent_step}
use Rattle.turn_session_client.specs.Sockets.{FailsSocket, TakesSocket, after_writing, closed_socket}
use Rattle.turn_session.specs.Checking.{checked_step, data_sent}
use Rattle.turn_session.specs.Due.{IsNext}
use Rattle.turn_session.specs.Ending.{after_failure, after_full, after_room}
use Rattle.turn_session.specs.Framing.{PollsData, ReceivesBytes}
use Rattle.turn_session.specs.Giving.{is_longer, is_permitted}
use Rattle.turn_session.specs.Polling.{Polls}
use Rattle.turn_session.specs.Reporting.{reported_step}
use Rattle.turn_session.specs.Sending.{transmit_step}
use Rattle.turn_session.specs.SessionState.{SessionState, NotesAlone, with_noted}
use Rattle.turn_session.specs.Uses.{NotesUse, kept_after}
use Rattle.turn_session.specs.declared.due.Due.{Due}
use Rattle.turn_session.specs.declared.due.Due.TheVariants as Next
use Rattle.turn_session.specs.declared.sent.SendRefusal.{SendRefusal}
use Rattle.turn_session.specs.declared.sent.SendRefusal.TheVariants.{TooLong, Refused}
use Rattle.turn_session.specs.declared.sent.Sent.{Sent}
use Rattle.turn_session.specs.declared.sent.Sent.TheVariants.{Packet, Requested}
use Rattle.turn_session_lines.specs.declared.call.Report.{Report}
use Rattle.turn_session_lines.specs.declared.call.Report.TheVariants as Reports
use Rattle.turn_session_lines.specs.declared.call.SessionCall.{SessionCall}
use Rattle.turn_session_lines.specs.declared.call.SessionCall.TheVariants as Calls
use Rattle.turn_session_lines.specs.declared.reply.SessionReply.{SessionReply}
use Rattle.turn_session_lines.specs.declared.reply.SessionReply.TheVariants as Replies

abbrev pub after_report : Report → ℕ → SessionState → SessionState
after_report (Reports.SocketError tag) now s = after_failure tag now s
after_report (Reports.SocketEnded tag) now s = with_noted (ended (Why.SocketEnded tag) s.noted) s
after_report (Reports.NoRoute tag) now s = with_noted (ended (Why.NoRoute tag) s.noted) s
after_report (Reports.HostMoved tag) now s = with_noted (left_for (Why.HostMoved tag) now s.noted) s
after_report Reports.Full now s = after_full now s
after_report Reports.Room now s = after_room s
after_report Reports.DataWritten now s = with_noted (after_writing now s.noted) s
after_report Reports.Leave now s = with_noted (left now s.noted) s

-- what was received gives this outcome
abbrev pub RepliesToRecv : Transmit (List ℕ) → ℕ → SessionState → SessionReply → SessionState → Type 0
RepliesToRecv packet now was reply s =
    (outcome : Outcome) × (reply ≡ Replies.OfClient (recv_reply outcome))
    × ReceivesBytes packet.transport packet.from packet.to packet.payload now was s outcome

-- a request
abbrev pub RepliesToRequest : Key → Bool → ℕ → SessionState → SessionReply → SessionState → Type 0
RepliesToRequest key is_for_data now was reply s =
    (answer : Answer) × (reply ≡ Replies.Answer (Some answer)) × Requests key is_for_data now answer was.noted s.noted × NotesUse key now was s

-- data of a peer that a stream holds
abbrev pub RepliesToPollRecv : ℕ → SessionState → SessionReply → SessionState → Type 0
RepliesToPollRecv now was reply s =
    (payload : Option Payload) × (reply ≡ Replies.OfClient (poll_recv_reply payload)) × PollsData now was s payload

-- what is due, as the call for it alone would say
abbrev pub due_reply : Due → SessionReply
due_reply (Next.Connection polled) = Replies.OfClient (Client.Poll polled)
due_reply (Next.Packet packet) = Replies.OfClient (Client.Transmit (Some packet))
due_reply (Next.Event event) = Replies.Event (Some event)
due_reply (Next.Wait time) = Replies.OfClient (Client.Poll (WaitUntil time))
due_reply Next.Over = Replies.OfClient (Client.Poll Closed)

-- ---- data for a peer

-- a message to the server has at most 65,507 bytes with its header
abbrev pub packet_reply : TransportType → SocketAddr → ℕ → Transmit (List ℕ) → SessionState → SessionReply × SessionState
packet_reply transport to now packet s =
    if is_longer transport 65_507 (length packet.payload) then (Replies.TooLong, s)
    else (Replies.OfClient (Client.SendTo (Ok packet)), data_sent to now s)

abbrev pub sent_reply : TransportType → SocketAddr → ℕ → Result (Transmit (List ℕ)) SendError → SessionState → SessionReply × SessionState
sent_reply transport to now (Ok packet) s = packet_reply transport to now packet s
sent_reply transport to now (Err refusal) s = (Replies.OfClient (Client.SendTo (Err refusal)), s)

-- the client makes the packet, or the permission of a peer without one is requested, as for data
abbrev pub RepliesToSend : TransportType → SocketAddr → List ℕ → ℕ → SessionState → SessionReply → SessionState → Type 0
RepliesToSend transport to payload now was reply s = by (is_longer transport 65_503 (length payload)) (is_permitted transport to was)
  where
    by : Bool → Bool → Type 0
    by true _ = (reply ≡ Replies.TooLong) × (s ≡ was)
    by false true =
        let step = sent_step transport to payload now was.noted in
        let said = sent_reply transport to now step.0 (with_noted step.1 was) in (reply ≡ said.0) × (s ≡ said.1)
    by false false = RepliesToRequest (Permission (socket_ip to)) true now was reply s

-- what the session returned, with a packet built
abbrev pub reply_of : {T : Type 0} {g : Ghosts T ℕ} → Result (Sent T g) SendRefusal → SessionReply
reply_of (Ok (Packet packet)) = Replies.OfClient (Client.SendTo (Ok (record {
  payload = delayed_send_bytes packet.payload;
  transport = packet.transport;
  from = packet.from;
  to = packet.to;
})))
reply_of (Ok (Requested answer)) = Replies.Answer (Some answer)
reply_of (Err TooLong) = Replies.TooLong
reply_of (Err (Refused refusal)) = Replies.OfClient (Client.SendTo (Err refusal))

-- ---- data connections

abbrev pub socket_reply : Result Unit TcpAllocateError → SessionReply
socket_reply result = Replies.OfClient (Client.AllocatedTcpSocket result)

abbrev pub RepliesToOpened : ℕ → Socket5Tuple → SocketAddr → SocketAddr → ℕ → SessionState → SessionReply → SessionState → Type 0
RepliesToOpened id socket peer local now was reply s =
    (result : Result Unit TcpAllocateError) × (reply ≡ socket_reply result)
    × TakesSocket id socket peer (Some local) now result was.noted s.noted × NotesAlone was s

abbrev pub RepliesToFailed : ℕ → Socket5Tuple → SocketAddr → ℕ → SessionState → SessionReply → SessionState → Type 0
RepliesToFailed id socket peer now was reply s =
    (result : Result Unit TcpAllocateError) × (reply ≡ socket_reply result)
    × FailsSocket id socket peer (record { 0 = 0 }) now result was.noted s.noted × NotesAlone was s

-- ---- the call

-- the answer, and the session after it, if memory suffices
abbrev pub RepliesTo : SessionCall → SessionState → SessionReply → SessionState → Type 0
RepliesTo (Calls.Poll now) was reply s = (answer : TurnPollRet) × (reply ≡ Replies.OfClient (Client.Poll answer)) × Polls now was s answer
RepliesTo (Calls.PollTransmit now) was reply s =
    let step = transmit_step now was in (reply ≡ Replies.OfClient (Client.Transmit step.0)) × (s ≡ step.1)
RepliesTo Calls.PollEvent was reply s = let step = reported_step was in (reply ≡ Replies.Event step.0) × (s ≡ step.1)
RepliesTo (Calls.Next now) was reply s = (due : Due) × (reply ≡ due_reply due) × IsNext now was s due
RepliesTo (Calls.Recv packet now) was reply s = RepliesToRecv packet now was reply s
RepliesTo (Calls.PollRecv now) was reply s = RepliesToPollRecv now was reply s
RepliesTo (Calls.Send transport to payload now) was reply s = RepliesToSend transport to payload now was reply s
RepliesTo (Calls.HavePermission transport to) was reply s =
    (reply ≡ Replies.OfClient (Client.HavePermission (not (is_over was.noted.life.phase) && can_send_to transport to was.noted.client))) × (s ≡ was)
RepliesTo (Calls.Request key is_for_data now) was reply s = RepliesToRequest key is_for_data now was reply s
RepliesTo (Calls.SetKept key is_kept) was reply s =
    let step = kept_while_running key is_kept was.noted in (reply ≡ Replies.Kept (keep_result step.0)) × (s ≡ kept_after key step was)
RepliesTo (Calls.GrantOf key now) was reply s = (reply ≡ Replies.Answer (grant_of key now was.noted)) × (s ≡ was)
RepliesTo Calls.Grants was reply s =
    (grants : Vec HeldGrant Global) × (reply ≡ Replies.Grants grants) × (grants.items ≡ was.noted.notes.book.held) × (s ≡ was)
RepliesTo Calls.KeptUntil was reply s = (reply ≡ Replies.KeptUntil (may_be_kept_until was.noted)) × (s ≡ was)
RepliesTo Calls.Counters was reply s = (reply ≡ Replies.Counters was.counts.counters) × (s ≡ was)
RepliesTo (Calls.Check now) was reply s = let step = checked_step now was in (reply ≡ Replies.Answer (Some step.0)) × (s ≡ step.1)
RepliesTo (Calls.Abandon now) was reply s =
    (reply ≡ Replies.OfClient (Client.Transmit (abandon_result now was.noted))) × (s ≡ with_noted (abandon_state now was.noted) was)
RepliesTo (Calls.DataOpened id socket peer local now) was reply s = RepliesToOpened id socket peer local now was reply s
RepliesTo (Calls.DataFailed id socket peer now) was reply s = RepliesToFailed id socket peer now was reply s
RepliesTo (Calls.DataClosed local peer tag now) was reply s =
    (reply ≡ Replies.OfClient Client.Done) × (s ≡ with_noted (closed_socket local peer tag was.noted) was)
RepliesTo (Calls.Report report now) was reply s = (reply ≡ Replies.OfClient Client.Done) × (s ≡ after_report report now was)

-- the call can be made: its time is in range
abbrev pub IsCallable : SessionCall → Type 0
IsCallable (Calls.Poll now) = now ≤ 2 ^ 62
IsCallable (Calls.PollTransmit now) = now ≤ 2 ^ 62
IsCallable (Calls.Next now) = now ≤ 2 ^ 62
IsCallable (Calls.Recv packet now) = now ≤ 2 ^ 62
IsCallable (Calls.PollRecv now) = now ≤ 2 ^ 62
IsCallable (Calls.Send transport to payload now) = now ≤ 2 ^ 62
IsCallable (Calls.Request key is_for_data now) = now ≤ 2 ^ 62
IsCallable (Calls.Abandon now) = now ≤ 2 ^ 62
IsCallable (Calls.DataOpened id socket peer local now) = now ≤ 2 ^ 62
IsCallable (Calls.DataFailed id socket peer now) = now ≤ 2 ^ 62
IsCallable (Calls.DataClosed local peer tag now) = now ≤ 2 ^ 62
IsCallable _ = ⊤
