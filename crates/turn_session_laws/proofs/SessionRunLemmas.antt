-- A session: which calls its client makes.
use Rattle.std.proofs.Common.{◌≡◌, ◌∙◌, ◌⊎◌, ℕ, zero, suc, Bool, true, false, ◌&&◌, not, List, [], Option, Some, None, refl, sym, ap, subst, inl, inr}
use Rattle.std.specs.Prelude.{Result, Ok, Err}
use Rattle.std.proofs.lemmas.Bool.{cases_Bool}
use Rattle.std.specs.declared.net.ip_addr.IpAddr.{IpAddr}
use Rattle.std.specs.declared.net.socket_addr.SocketAddr.{SocketAddr}
use Rattle.turn_stun.specs.declared.transport.Transmit.{Transmit}
use Rattle.turn_stun.specs.declared.transport.TransportType.{TransportType}
use Rattle.turn_types.specs.Frames.{begins_no_frame}
use Rattle.turn_types.specs.Streams.{framed, next_frame}
use Rattle.turn_client_api.specs.Calls.{create_permission_step, permission_kept_step}
use Rattle.turn_client_api.specs.Payloads.{Outcome, Payload}
use Rattle.turn_client_api.specs.Payloads as Outcomes
use Rattle.turn_client_api.specs.State.{State}
use Rattle.turn_client_api.specs.declared.call.Call.TheVariants.{CreatePermission, PollRecv, PollTransmit, SetPermissionKept}
use Rattle.turn_client_api.specs.Streams.{payload_in, poll_recv_step}
use Rattle.turn_client_api.specs.declared.error.CreatePermissionError.{CreatePermissionError}
use Rattle.turn_client_api.specs.declared.error.CreatePermissionError.TheVariants as Create
use Rattle.turn_client_api.specs.declared.poll.TurnPollRet.{TurnPollRet}
use Rattle.turn_session_book.specs.declared.causes.Why.{Why}
use Rattle.turn_session_book.specs.declared.events.Event.{Event}
use Rattle.turn_session_book.specs.declared.keys.Key.TheVariants.{Permission}
use Rattle.turn_session_idle.specs.IdlePeers.{idle_step}
use Rattle.turn_session_idle.specs.IdleState.{IdleState}
use Rattle.turn_session_idle.specs.declared.peers.IdleStep.{IdleStep}
use Rattle.turn_session_idle.specs.declared.peers.IdleStep.TheVariants as Idle
use Rattle.turn_session_life.specs.Doubts.{cause_told, doubts_step}
use Rattle.turn_session_life.specs.Life.{cause_in}
use Rattle.turn_session_life.specs.Watch.{watch_step}
use Rattle.turn_session_life.specs.declared.doubts.Asking.{Asking}
use Rattle.turn_session_life.specs.declared.doubts.Asking.TheVariants as Asked
use Rattle.turn_session_life.specs.declared.doubts.Doubts.{Doubts}
use Rattle.turn_session_life.specs.declared.doubts.DoubtsStep.{DoubtsStep}
use Rattle.turn_session_life.specs.declared.doubts.DoubtsStep.TheVariants as Steps
use Rattle.turn_session_life.specs.declared.watch.OwnRequest.{OwnRequest}
use Rattle.turn_session_life.specs.declared.watch.Watch.{Watch}
use Rattle.turn_session_life.specs.declared.watch.WatchStep.{WatchStep}
use Rattle.turn_session_life.specs.declared.watch.WatchStep.TheVariants as Path
use Rattle.turn_session_client.specs.Doubting as Doubting
use Rattle.turn_session_client.specs.Doubting.{AsksFor, AsksNew, AsksNext, asked_by, question_ip, told_step, with_doubts, with_question}
use Rattle.turn_session_client.specs.Ending.{is_open, is_over}
use Rattle.turn_session_client.specs.NotedState.{NotedState}
use Rattle.turn_session_client.specs.Notes.{is_asked, shelved}
use Rattle.turn_session_client.specs.Polling.{transmitted}
use Rattle.turn_session_client.specs.Reporting as Reporting
use Rattle.turn_session_client.specs.declared.noted.doubting.DoubtsPoll.{DoubtsPoll}
use Rattle.turn_session_client.specs.declared.noted.doubting.DoubtsPoll.TheVariants as Doubts
use Rattle.turn_session_client.specs.declared.notes.Told.{Told}
use Rattle.turn_session.specs.Checking.{told_path}
use Rattle.turn_session.specs.Counting.{with_answer}
use Rattle.turn_session.specs.Framing.{BytesGive, FirstGives, Follows, GivesNoData, OrData, PieceGives, PollsData, ReceivesBytes, TakesData, TakesFrame, TakesNext}
use Rattle.turn_session.specs.Framing.{after_held, fed, is_piece, last_given, stopped}
use Rattle.turn_session.specs.PathMessages.{response_in}
use Rattle.turn_session.specs.Polling.{DoubtsLead, IdleLeads, PathLeads, Polls, PollsBoth, PollsDoubts, PollsIdle, begun, own_time, watched}
use Rattle.turn_session.specs.Receiving.{Receives, ReceivesBy, is_of_server, path_step, response_step}
use Rattle.turn_session.specs.Reporting.{move_reported, noted_reported, or_next, path_event, reported_step, result_reported, unsettled_check, unsettled_reported}
use Rattle.turn_session.specs.Sending.{or_own, own_step, transmit_step}
use Rattle.turn_session.specs.SessionState.{SessionState, with_frames, with_idle, with_noted, with_watch}
use Rattle.turn_session.specs.Uses.{used_by}
use Rattle.turn_session.specs.declared.path_messages.PathText.{PathText}
use Rattle.turn_session_laws.specs.RunLaws.{RunsOn, RunsOrEnds}
use Rattle.turn_session_laws.proofs.PollRunLemmas.{polls-runs}
use Rattle.turn_session_laws.proofs.RunLemmas.{by-call, ends, ends-after, followed, here, left-keeps, receives-runs, same, set-kept-runs}

-- ---- the path keeps the client

abbrev receiving : Option ℕ → SessionState → SessionState
receiving received s = record s { received = received }

told-keeps-of : (s : SessionState) (received : Option ℕ) → (told_path (receiving received s)).noted ≡ s.noted
told-keeps-of s None = refl
told-keeps-of s (Some at) = refl

told-keeps : (s : SessionState) → (told_path s).noted ≡ s.noted
told-keeps s = told-keeps-of s s.received

response-keeps : (r : PathText) (now : ℕ) (s : SessionState) → (response_step r now s).1.noted ≡ s.noted
response-keeps r now s = elim (cases_Bool (is_open s.noted.life.phase)) [
  | inl is_so ↦ rw is_so (told-keeps (with_answer r.id now s))
  | inr not_so ↦ rw not_so refl
]

path-keeps-of : (transport : TransportType) (from to : SocketAddr) (bytes : List ℕ) (now : ℕ) (s : SessionState) (response : Option PathText)
    → response_in bytes ≡ response → (path_step transport from to bytes now s).1.noted ≡ s.noted
path-keeps-of transport from to bytes now s None r =
    elim (cases_Bool (not (is_over s.noted.life.phase) && is_of_server transport from to s.noted.client)) [
      | inl is_so ↦ rw (is_so, r) refl
      | inr not_so ↦ rw not_so refl
    ]
path-keeps-of transport from to bytes now s (Some text) r =
    elim (cases_Bool (not (is_over s.noted.life.phase) && is_of_server transport from to s.noted.client)) [
      | inl is_so ↦ rw (is_so, r) (response-keeps text now s)
      | inr not_so ↦ rw not_so refl
    ]

path-keeps : (transport : TransportType) (from to : SocketAddr) (bytes : List ℕ) (now : ℕ) (s : SessionState)
    → (path_step transport from to bytes now s).1.noted ≡ s.noted
path-keeps transport from to bytes now s = path-keeps-of transport from to bytes now s (response_in bytes) refl

-- ---- what is received

abbrev client-of : SessionState → State
client-of s = s.noted.client

abbrev Goes : SessionState → SessionState → Type 0
Goes was s = RunsOn (client-of was) (client-of s)

kept : (was s : SessionState) → s.noted ≡ was.noted → Goes was s
kept was s is = same (client-of was) (client-of s) (ap (λ (n : NotedState). n.client) is)

onward : (a b c : SessionState) → Goes a b → Goes b c → Goes a c
onward a b c first later = followed (client-of a) (client-of b) (client-of c) first later

by-path : (p : Bool × SessionState) (transport : TransportType) (from to : SocketAddr) (bytes : List ℕ) (now : ℕ) (was s : SessionState)
    → p.1.noted ≡ was.noted → ReceivesBy p transport from to bytes now s → Goes was s
by-path (true, t) transport from to bytes now was s keeps h = kept was s (ap (λ (u : SessionState). u.noted) h ∙ keeps)
by-path (false, t) transport from to bytes now was s keeps h =
    onward was t s (kept was t keeps) (receives-runs transport from to bytes now t.noted s.noted h.0)

receives : (transport : TransportType) (from to : SocketAddr) (bytes : List ℕ) (now : ℕ) (was s : SessionState)
    → Receives transport from to bytes now was s → Goes was s
receives transport from to bytes now was s h =
    by-path (path_step transport from to bytes now was) transport from to bytes now was s (path-keeps transport from to bytes now was) h

-- ---- frames of a stream

stops : (is_stuck : Bool) (s : SessionState) → client-of (stopped is_stuck s) ≡ client-of s
stops true s = refl
stops false s = refl

first-gives : (frame : Option (List ℕ)) (is_stuck : Bool) (now : ℕ) (was s : SessionState) (given : Option Outcome)
    → FirstGives frame is_stuck now was s given → Goes was s
first-gives (Some frame) is_stuck now was s (Some outcome) h =
    let c = was.noted.client in receives c.transport c.remote c.local frame now was s h.0
first-gives (Some frame) is_stuck now was s None h = absurd h
first-gives None is_stuck now was s (Some outcome) h = absurd h
first-gives None is_stuck now was s None h = same (client-of was) (client-of s) (ap client-of h ∙ stops is_stuck was)

takes-frame : (now : ℕ) (was s : SessionState) (given : Option Outcome) → TakesFrame now was s given → Goes was s
takes-frame now was s given (t, first, is) =
    let next = next_frame was.frames in
    onward was t s (first-gives next.frame (begins_no_frame was.frames.bytes) now (with_frames (framed []) was) t given first)
    (kept t s (ap (λ (u : SessionState). u.noted) is))

held-runs : (now : ℕ) (s : SessionState) → Goes s (after_held now s)
held-runs now s = by-call (PollRecv now) (client-of s)

takes-next-of : (now : ℕ) (was s : SessionState) (given : Option Outcome) (payload : Option Payload) → (poll_recv_step now was.noted.client).0 ≡ payload
    → TakesNext now was s given → Goes was s
takes-next-of now was s given (Some payload) p h =
    let takes = rw p at h in onward was (after_held now was) s (held-runs now was) (kept (after_held now was) s (ap (λ (u : SessionState). u.noted) takes.1))
takes-next-of now was s given None p h =
    onward was (after_held now was) s (held-runs now was) (takes-frame now (after_held now was) s given (rw p at h))

takes-next : (now : ℕ) (was s : SessionState) (given : Option Outcome) → TakesNext now was s given → Goes was s
takes-next now was s given h = takes-next-of now was s given (poll_recv_step now was.noted.client).0 refl h

gives-no-data : (n now : ℕ) (was s : SessionState) → GivesNoData n now was s → Goes was s
gives-no-data zero now was s h = kept was s (ap (λ (u : SessionState). u.noted) h)
gives-no-data (suc n) now was s (t, before, outcome, takes, none) =
    onward was t s (gives-no-data n now was t before) (takes-next now t s (Some outcome) takes)

takes-data : (now : ℕ) (was s : SessionState) (payload : Option Payload) → TakesData now was s payload → RunsOn was.noted.client s.noted.client
takes-data now was s payload (n, t, before, takes) = onward was t s (gives-no-data n now was t before) (takes-next now t s (last_given payload) takes)

or-data : (now : ℕ) (was s : SessionState) (first outcome : Outcome) → OrData now was s first outcome → Goes was s
or-data now was s first outcome (payload, takes, is) = takes-data now was s payload takes

follows : (now : ℕ) (was s : SessionState) (first : Option Outcome) (outcome : Outcome) → Follows now was s first outcome → Goes was s
follows now was s None outcome h = kept was s (ap (λ (u : SessionState). u.noted) h.1)
follows now was s (Some (Outcomes.PeerData payload)) outcome h = kept was s (ap (λ (u : SessionState). u.noted) h.1)
follows now was s (Some (Outcomes.PeerIcmp transport peer icmp)) outcome h = kept was s (ap (λ (u : SessionState). u.noted) h.1)
follows now was s (Some Outcomes.Handled) outcome h = or-data now was s Outcomes.Handled outcome h
follows now was s (Some Outcomes.Ignored) outcome h = or-data now was s Outcomes.Ignored outcome h

piece-gives : (piece : List ℕ) (now : ℕ) (was s : SessionState) (outcome : Outcome) → PieceGives piece now was s outcome → Goes was s
piece-gives piece now was s outcome (t, first, takes, next) =
    onward was t s (takes-next now (fed piece was) t first takes) (follows now t s first outcome next)

bytes-give : (transport : TransportType) (from to : SocketAddr) (bytes : List ℕ) (now : ℕ) (was s : SessionState) (outcome : Outcome)
    → BytesGive transport from to bytes now was s outcome → Goes was s
bytes-give transport from to bytes now was s outcome h = elim (cases_Bool (is_piece transport from to bytes was)) [
  | inl piece ↦ piece-gives bytes now was s outcome (rw piece at h)
  | inr whole ↦ let received = rw whole at h in receives transport from to bytes now was s received.1
]

used-keeps : (payload : Option Payload) (now : ℕ) (s : SessionState) → (used_by payload now s).noted ≡ s.noted
used-keeps None now s = refl
used-keeps (Some payload) now s = refl

pub receives-bytes : (transport : TransportType) (from to : SocketAddr) (bytes : List ℕ) (now : ℕ) (was s : SessionState) (outcome : Outcome)
    → ReceivesBytes transport from to bytes now was s outcome → RunsOn was.noted.client s.noted.client
receives-bytes transport from to bytes now was s outcome (t, gives, used) =
    onward was t s (bytes-give transport from to bytes now was t outcome gives)
    (kept t s (ap (λ (u : SessionState). u.noted) used ∙ used-keeps (payload_in outcome) now t))

pub polls-data : (now : ℕ) (was s : SessionState) (payload : Option Payload) → PollsData now was s payload → RunsOn was.noted.client s.noted.client
polls-data now was s payload (t, takes, used) =
    onward was t s (takes-data now was t payload takes) (kept t s (ap (λ (u : SessionState). u.noted) used ∙ used-keeps payload now t))

-- ---- a doubt of the allocation

asked-runs-of : (relays : TransportType) (ip : IpAddr) (now : ℕ) (s : State) (p : Result Unit CreatePermissionError × State)
    → create_permission_step relays ip now s ≡ p → RunsOn s (asked_by relays ip now s).1
asked-runs-of relays ip now s (r, client) e =
    let made : RunsOn s client = subst (λ (p : Result Unit CreatePermissionError × State). RunsOn s p.1) e (by-call (CreatePermission relays ip now) s) in
    by r e made
  where
    by : (r : Result Unit CreatePermissionError) → create_permission_step relays ip now s ≡ (r, client) → RunsOn s client
        → RunsOn s (asked_by relays ip now s).1
    by (Ok done) is runs =
        rw is (followed s client (permission_kept_step relays ip false client).1 runs (by-call (SetPermissionKept relays ip false) client))
    by (Err Create.AlreadyExists) is runs = rw is runs
    by (Err Create.NoAllocation) is runs = rw is runs
    by (Err Create.OutOfMemory) is runs = rw is runs

question-keeps : (asking : Asking) (ip : IpAddr) (s : NotedState) → (with_question asking ip s).client ≡ s.client
question-keeps Asked.Asked ip s = refl
question-keeps Asked.Taken ip s = refl
question-keeps Asked.NoAllocation ip s = refl

asks-new : (relays : TransportType) (ip : IpAddr) (now : ℕ) (was s : NotedState) (answer : DoubtsPoll) → AsksNew relays ip now was s answer
    → RunsOn was.client s.client
asks-new relays ip now was s answer (inl asks) =
    let step = asked_by relays ip now was.client in
    let client : s.client ≡ step.1 = ap (λ (n : NotedState). n.client) asks.1 ∙ question-keeps step.0 ip (record was { client = step.1 }) in
    subst (RunsOn was.client) (sym client) (asked-runs-of relays ip now was.client (create_permission_step relays ip now was.client) refl)
asks-new relays ip now was s answer (inr short) = same was.client s.client (ap (λ (n : NotedState). n.client) short.1)

asks-for : (relays : TransportType) (ip : IpAddr) (now : ℕ) (was s : NotedState) (answer : DoubtsPoll) (is : Bool) → is_asked (Permission ip) was.notes ≡ is
    → AsksFor relays ip now was s answer → RunsOn was.client s.client
asks-for relays ip now was s answer true a h =
    let asks = rw a at h in same was.client s.client (ap (λ (n : NotedState). n.client) asks.1)
asks-for relays ip now was s answer false a h = by (rw a at h)
  where
    by : AsksNew relays ip now (record was { notes = shelved was.notes }) s answer ⊎ ((answer ≡ Doubts.NoMemory) × (s ≡ was)) → RunsOn was.client s.client
    by (inl asks) = asks-new relays ip now (record was { notes = shelved was.notes }) s answer asks
    by (inr short) = same was.client s.client (ap (λ (n : NotedState). n.client) short.1)

abbrev relaying : Option TransportType → NotedState → NotedState
relaying relays s = record s { notes = record s.notes { relays = relays } }

asks-next-of : (now : ℕ) (was s : NotedState) (answer : DoubtsPoll) (relays : Option TransportType) → AsksNext now (relaying relays was) s answer
    → RunsOn was.client s.client
asks-next-of now was s answer None h = same was.client s.client (ap (λ (n : NotedState). n.client) h.1)
asks-next-of now was s answer (Some relays) h =
    let t = relaying (Some relays) was in
    let ip = question_ip was.doubts.is_ipv6 was.doubts.number in asks-for relays ip now t s answer (is_asked (Permission ip) t.notes) refl h

asks-next : (now : ℕ) (was s : NotedState) (answer : DoubtsPoll) → AsksNext now was s answer → RunsOn was.client s.client
asks-next now was s answer h = asks-next-of now was s answer was.notes.relays h

doubts-lead : (now : ℕ) (p : DoubtsStep × Doubts) (was s : NotedState) (answer : DoubtsPoll) → Doubting.DoubtsLead now p was s answer
    → RunsOn was.client s.client
doubts-lead now (Steps.Ask, after) was s answer h = asks-next now (with_doubts after was) s answer h
doubts-lead now (Steps.WaitUntil time, after) was s answer h = same was.client s.client (ap (λ (n : NotedState). n.client) h.1)
doubts-lead now (Steps.Idle, after) was s answer h = same was.client s.client (ap (λ (n : NotedState). n.client) h.1)
doubts-lead now (Steps.End why, after) was s answer h =
    same was.client s.client (ap (λ (p : DoubtsPoll × NotedState). p.1.client) h ∙ left-keeps why now (with_doubts after was))

polls-told : (now : ℕ) (p : Bool × NotedState) (s : NotedState) (answer : DoubtsPoll) → Doubting.PollsTold now p s answer → RunsOn p.1.client s.client
polls-told now (true, t) s answer h = same t.client s.client (ap (λ (n : NotedState). n.client) h.1)
polls-told now (false, t) s answer h = doubts-lead now (doubts_step now t.doubts) t s answer h

told-end : (now : ℕ) (s : NotedState) (told : Told) (why : Option Why) → s.notes.told ≡ Some told → cause_told told.error ≡ why
    → (told_step now s).1.client ≡ s.client
told-end now s told None t c = rw (t, c) refl
told-end now s told (Some why) t c = rw (t, c) refl

told-client : (now : ℕ) (s : NotedState) (told : Option Told) → s.notes.told ≡ told → (told_step now s).1.client ≡ s.client
told-client now s None t = rw t refl
told-client now s (Some told) t = told-end now s told (cause_told told.error) t refl

polls-doubts : (now : ℕ) (was s : NotedState) (answer : DoubtsPoll) → Doubting.PollsDoubts now was s answer → RunsOn was.client s.client
polls-doubts now was s answer h = elim (cases_Bool (is_open was.life.phase)) [
  | inl is_so ↦ let told = told_step now was in
      followed was.client told.1.client s.client (same was.client told.1.client (told-client now was was.notes.told refl))
      (polls-told now told s answer (rw is_so at h))
  | inr not_so ↦ let idle = rw not_so at h in same was.client s.client (ap (λ (n : NotedState). n.client) idle.1)
]

-- ---- a session is polled

abbrev Ends : SessionState → SessionState → Type 0
Ends was s = RunsOrEnds (client-of was) (client-of s)

ends-onward : (a b c : SessionState) → Goes a b → Ends b c → Ends a c
ends-onward a b c first later = ends-after (client-of a) (client-of b) (client-of c) first later

polls-both : (own : Option ℕ) (now : ℕ) (was s : SessionState) (answer : TurnPollRet) → PollsBoth own now was s answer → Ends was s
polls-both own now was s answer (said, polls, is) = polls-runs now was.noted s.noted said polls.0

idle-leads : (own : Option ℕ) (now : ℕ) (p : IdleStep × IdleState) (was s : SessionState) (answer : TurnPollRet) → IdleLeads own now p was s answer
    → Ends was s
idle-leads own now (Idle.Keep key, after) was s answer h =
    ends (client-of was) (client-of s)
    (subst (λ (u : SessionState). RunsOn (client-of was) (client-of u)) (sym h.1) (set-kept-runs key true was.noted))
idle-leads own now (Idle.Release key, after) was s answer h =
    ends (client-of was) (client-of s)
    (subst (λ (u : SessionState). RunsOn (client-of was) (client-of u)) (sym h.1) (set-kept-runs key false was.noted))
idle-leads own now (Idle.WaitUntil time, after) was s answer h = polls-both _ now (with_idle after was) s answer h
idle-leads own now (Idle.Off, after) was s answer h = polls-both own now (with_idle after was) s answer h

polls-idle : (own : Option ℕ) (now : ℕ) (was s : SessionState) (answer : TurnPollRet) → PollsIdle own now was s answer → Ends was s
polls-idle own now was s answer (inl h) = idle-leads own now (idle_step was.noted.notes.book.held now was.idle) was s answer h
polls-idle own now was s answer (inr short) = polls-both _ now was s answer short.1

leads : (path : Option ℕ) (now : ℕ) (said : DoubtsPoll) (t s : SessionState) (answer : TurnPollRet) → DoubtsLead path now said t s answer → Ends t s
leads path now Doubts.Now t s answer h = ends (client-of t) (client-of s) (kept t s (ap (λ (u : SessionState). u.noted) h.1))
leads path now (Doubts.WaitUntil time) t s answer h = polls-idle _ now t s answer h
leads path now Doubts.Idle t s answer h = polls-idle path now t s answer h
leads path now Doubts.NoMemory t s answer h = polls-idle _ now t s answer h

with-doubts : (path : Option ℕ) (now : ℕ) (was s : SessionState) (answer : TurnPollRet) → PollsDoubts path now was s answer → Ends was s
with-doubts path now was s answer (t, said, doubts, alone, lead) =
    ends-onward was t s (polls-doubts now was.noted t.noted said doubts) (leads path now said t s answer lead)

path-leads : (now : ℕ) (p : WatchStep × Watch) (was s : SessionState) (answer : TurnPollRet) → PathLeads now p was s answer → Ends was s
path-leads now (Path.Now, after) was s answer h = polls-both (Some now) now (with_watch after was) s answer h
path-leads now (Path.WaitUntil time, after) was s answer h = with-doubts (Some time) now (with_watch after was) s answer h
path-leads now (Path.Idle, after) was s answer h = with-doubts None now (with_watch after was) s answer h
path-leads now (Path.Doubt, after) was s answer h = ends (client-of was) (client-of s) (same (client-of was) (client-of s) (ap client-of h.1))
path-leads now (Path.Moved, after) was s answer h = ends (client-of was) (client-of s) (same (client-of was) (client-of s) (ap client-of h.1))
path-leads now (Path.End why, after) was s answer h =
    ends (client-of was) (client-of s) (same (client-of was) (client-of s) (ap client-of h.1 ∙ left-keeps why now was.noted))

abbrev watching : Bool → SessionState → SessionState
watching is s = record s { is_watching = is }

watched-keeps-of : (now : ℕ) (s : SessionState) (is : Bool) → (watched now (watching is s)).noted ≡ s.noted
watched-keeps-of now s true = refl
watched-keeps-of now s false = refl

begun-keeps : (now : ℕ) (s : SessionState) → (begun now s).noted ≡ s.noted
begun-keeps now s = told-keeps (watched now s) ∙ watched-keeps-of now s s.is_watching

pub polls : (now : ℕ) (was s : SessionState) (answer : TurnPollRet) → Polls now was s answer → RunsOrEnds was.noted.client s.noted.client
polls now was s answer h = elim (cases_Bool (is_open was.noted.life.phase)) [
  | inl is_so ↦ let t = begun now was in
      ends-onward was t s (kept was t (begun-keeps now was)) (path-leads now (watch_step now t.watch) t s answer (rw is_so at h))
  | inr not_so ↦ polls-both (own_time (is_open s.noted.life.phase) now) now was s answer (rw not_so at h)
]

-- ---- packets

own-keeps-of : (s : SessionState) (is : Bool) (outbox : Option OwnRequest) → is_open s.noted.life.phase ≡ is → s.watch.outbox ≡ outbox
    → (own_step s).1.noted ≡ s.noted
own-keeps-of s true (Some r) o b = rw (o, b) refl
own-keeps-of s true None o b = rw (o, b) refl
own-keeps-of s false (Some r) o b = rw o refl
own-keeps-of s false None o b = rw o refl

own-keeps : (s : SessionState) → (own_step s).1.noted ≡ s.noted
own-keeps s = own-keeps-of s (is_open s.noted.life.phase) s.watch.outbox refl refl

or-own-keeps : (now : ℕ) (s : SessionState) (p : Option (Transmit (List ℕ)) × NotedState) → (or_own now s p).1.noted ≡ p.1
or-own-keeps now s (Some packet, noted) = refl
or-own-keeps now s (None, noted) = own-keeps (with_noted noted s)

transmits : (now : ℕ) (s : NotedState) → RunsOn s.client (transmitted now s).1.client
transmits now s = elim (cases_Bool (is_over s.life.phase)) [
  | inl over ↦ rw over (here s.client)
  | inr running ↦ rw running (by-call (PollTransmit now) s.client)
]

pub transmit-runs : (now : ℕ) (s : SessionState) → RunsOn s.noted.client (transmit_step now s).1.noted.client
transmit-runs now s =
    subst (λ (n : NotedState). RunsOn s.noted.client n.client) (sym (or-own-keeps now s (transmitted now s.noted))) (transmits now s.noted)

-- ---- events

next-keeps : (p : Option Event × SessionState) (next : SessionState → Option Event × SessionState) (client : State) → client-of p.1 ≡ client
    → ((t : SessionState) → client-of (next t).1 ≡ client-of t) → client-of (or_next p next).1 ≡ client
next-keeps (Some event, s) next client is keeps = is
next-keeps (None, s) next client is keeps = keeps s ∙ is

noted-next-keeps : (p : Option Event × NotedState) (next : NotedState → Option Event × NotedState) (client : State) → p.1.client ≡ client
    → ((t : NotedState) → (next t).1.client ≡ t.client) → (Reporting.or_next p next).1.client ≡ client
noted-next-keeps (Some event, s) next client is keeps = is
noted-next-keeps (None, s) next client is keeps = keeps s ∙ is

end-keeps : (why : Why) (s : NotedState) → (Reporting.reported_end why s).1.client ≡ s.client
end-keeps why s =
    noted-next-keeps (Reporting.ending_reported s) (λ t. Reporting.or_next (Reporting.reported_outcome why t) Reporting.over_reported) s.client refl
    (λ t. noted-next-keeps (Reporting.reported_outcome why t) Reporting.over_reported t.client refl (λ u. refl))

if-keeps-of : (s : NotedState) (why : Option Why) → cause_in s.life.phase ≡ why → (Reporting.reported_if s).1.client ≡ s.client
if-keeps-of s None c = rw c refl
if-keeps-of s (Some why) c = rw c (end-keeps why s)

noted-keeps : (s : NotedState) → (Reporting.reported_step s).1.client ≡ s.client
noted-keeps s =
    noted-next-keeps (Reporting.heard_reported s) (λ t. Reporting.or_next (Reporting.noted_reported t) Reporting.reported_if) s.client refl
    (λ t. noted-next-keeps (Reporting.noted_reported t) Reporting.reported_if t.client refl (λ u. if-keeps-of u (cause_in u.life.phase) refl))

unsettled-keeps-of : (s : SessionState) (why : Option Why) → cause_in s.noted.life.phase ≡ why → client-of (unsettled_check s).1 ≡ client-of s
unsettled-keeps-of s None c = rw c refl
unsettled-keeps-of s (Some why) c = rw c refl

path-event-keeps : (s : SessionState) → client-of (path_event s).1 ≡ client-of s
path-event-keeps s =
    next-keeps (result_reported s) (λ t. or_next (unsettled_reported t) move_reported) (client-of s) refl
    (λ t. next-keeps (unsettled_reported t) move_reported (client-of t) (unsettled-keeps-of t (cause_in t.noted.life.phase) refl) (λ u. refl))

pub event-keeps : (s : SessionState) → (reported_step s).1.noted.client ≡ s.noted.client
event-keeps s = next-keeps (path_event s) noted_reported (client-of s) (path-event-keeps s) (λ t. noted-keeps t.noted)
