-- A client with what is noted of it: which calls of its own it makes.
use Rattle.std.proofs.Common.{◌≡◌, ◌∙◌, ◌⊎◌, ℕ, zero, suc, Bool, true, false, ◌||◌, List, [], ◌∷◌, ◌++◌, Option, Some, None, refl, sym, ap, subst, inl, inr}
use Rattle.std.specs.Prelude.{Result, Ok, Err, is_ok}
use Rattle.std.proofs.lemmas.Bool.{cases_Bool}
use Rattle.std.specs.declared.net.socket_addr.SocketAddr.{SocketAddr}
use Rattle.turn_stun.specs.declared.transport.TransportType.{TransportType}
use Rattle.turn_client_api.specs.Answers as Api
use Rattle.turn_client_api.specs.Calls.{allocated_tcp_socket_step}
use Rattle.turn_client_api.specs.Receive.{recv_step}
use Rattle.turn_client_api.specs.State.{State}
use Rattle.turn_client_api.specs.Steps.{state_after, state_after_all}
use Rattle.turn_client_api.specs.declared.call.Call.{Call}
use Rattle.turn_client_api.specs.declared.call.Call.TheVariants.{AllocatedTcpSocket, BindChannel, CreatePermission, PollEvent, Recv, SendTo}
use Rattle.turn_client_api.specs.declared.call.Call.TheVariants.{SetChannelKept, SetPermissionKept, TcpClosed, TcpConnect}
use Rattle.turn_client_api.specs.declared.error.TcpAllocateError.{TcpAllocateError}
use Rattle.turn_client_api.specs.declared.error.TcpAllocateError.TheVariants as Socket
use Rattle.turn_client_api.specs.declared.event.TurnEvent.{TurnEvent}
use Rattle.turn_client_api.specs.declared.poll.Socket5Tuple.{Socket5Tuple}
use Rattle.turn_session_book.specs.Keys.{permission_for}
use Rattle.turn_session_book.specs.OpenRequests.{is_unpermitted}
use Rattle.turn_session_book.specs.declared.answers.Answer.{Answer}
use Rattle.turn_session_book.specs.declared.answers.Answer.TheVariants as Answers
use Rattle.turn_session_book.specs.declared.causes.Why.{Why}
use Rattle.turn_session_book.specs.declared.keys.Key.{Key}
use Rattle.turn_session_book.specs.declared.keys.Key.TheVariants.{Permission, Channel, Connect}
use Rattle.turn_session_book.specs.declared.open_requests.OpenRequest.{OpenRequest}
use Rattle.turn_session_book.specs.declared.replies.ErrorReply.{ErrorReply}
use Rattle.turn_session_book.specs.declared.tags.Tag.{Tag}
use Rattle.turn_session_life.specs.Life.{cause_in, is_running}
use Rattle.turn_session_life.specs.declared.life.Phase.{Phase}
use Rattle.turn_session_life.specs.declared.life.Phase.TheVariants.{Opening, Open, Leaving, Over}
use Rattle.turn_session_life.specs.declared.responses.Asked.{Asked}
use Rattle.turn_session_life.specs.declared.responses.Said.{Said}
use Rattle.turn_session_life.specs.declared.responses.Said.TheVariants.{Granted, Denied, Nothing}
use Rattle.turn_session_client.specs.Asking as Asking
use Rattle.turn_session_client.specs.Asking.{AnswersNow, Requests, begun, begun_over, is_granted, known_answer, lacks_permission, makes}
use Rattle.turn_session_client.specs.Drain.{DrainsSome, next_event, next_noted, some_noted}
use Rattle.turn_session_client.specs.Ending.{is_over, left_for, may_be_granted}
use Rattle.turn_session_client.specs.Keeping.{keep_step, kept, kept_while_running, let_go, waits_for}
use Rattle.turn_session_client.specs.Making.{made}
use Rattle.turn_session_client.specs.NotedState.{NotedState}
use Rattle.turn_session_client.specs.Permitting.{permission_made}
use Rattle.turn_session_client.specs.Polling.{request_made}
use Rattle.turn_session_client.specs.Polling.{waiting_made}
use Rattle.turn_session_client.specs.Reading.{response_to}
use Rattle.turn_session_client.specs.Receiving.{Receives, answers_nothing, heard_step, is_taken, received, reply_for, with_hints, with_mapped, with_reply}
use Rattle.turn_session_client.specs.Sending.{sent_step}
use Rattle.turn_session_client.specs.Sockets.{FailsSocket, TakesSocket, closed_socket}
use Rattle.turn_session_client.specs.Waiting.{must_wait}
use Rattle.turn_session_client.specs.declared.making.Made.{Made}
use Rattle.turn_session_client.specs.declared.making.Made.TheVariants as Client
use Rattle.turn_session_client.specs.declared.reading.Reading.{Reading}
use Rattle.turn_session_laws.specs.RunLaws.{RunsOn, RunsOrEnds}

-- ---- runs

pub here : (s : State) → RunsOn s s
here s = ([], refl)

pub same : (s t : State) → t ≡ s → RunsOn s t
same s t is = ([], is)

pub by-call : (call : Call) (s : State) → RunsOn s (state_after call s)
by-call call s = (call ∷ [], refl)

behind : (s : State) (calls more : List Call) → state_after_all s (calls ++ more) ≡ state_after_all (state_after_all s calls) more
behind s [] more = refl
behind s (call ∷ calls) more = behind (state_after call s) calls more

pub followed : (a b c : State) → RunsOn a b → RunsOn b c → RunsOn a c
followed a b c (calls, is) (more, later) =
    (calls ++ more, later ∙ (ap (λ (s : State). state_after_all s more) is ∙ sym (behind a calls more)))

pub ends : (a b : State) → RunsOn a b → RunsOrEnds a b
ends a b runs = (b, runs, inl refl)

pub ends-after : (a b c : State) → RunsOn a b → RunsOrEnds b c → RunsOrEnds a c
ends-after a b c first (t, runs, is) = (t, followed a b t first runs, is)

-- the session ends or leaves, and does not call the client
pub left-keeps : (why : Why) (now : ℕ) (s : NotedState) → (left_for why now s).client ≡ s.client
left-keeps why now s = elim (cases_Bool (may_be_granted s)) [
  | inl may ↦ rw may refl
  | inr none ↦ rw none refl
]

-- ---- events are taken

abbrev taking : Option TurnEvent → NotedState → NotedState
taking taken s = record s { taken = taken }

next-runs : (s : NotedState) (taken : Option TurnEvent) → RunsOn s.client (next_event (taking taken s)).1.client
next-runs s (Some event) = here s.client
next-runs s None = by-call PollEvent s.client

noted-client : (now : ℕ) (s : NotedState) (event : Option TurnEvent) → (next_event s).0 ≡ event → (next_noted now s).client ≡ (next_event s).1.client
noted-client now s (Some event) is = rw is refl
noted-client now s None is = rw is refl

noted-runs : (now : ℕ) (s : NotedState) → RunsOn s.client (next_noted now s).client
noted-runs now s = subst (RunsOn s.client) (sym (noted-client now s (next_event s).0 refl)) (next-runs s s.taken)

some-runs : (n now : ℕ) (s : NotedState) → RunsOn s.client (some_noted n now s).client
some-runs zero now s = here s.client
some-runs (suc n) now s =
    let before = some_noted n now s in followed s.client before.client (next_noted now before).client (some-runs n now s) (noted-runs now before)

pub drains-runs : (now : ℕ) (was s : NotedState) → DrainsSome now was s → RunsOn was.client s.client
drains-runs now was s some = by some.is
  where
    before : NotedState
    before = some_noted some.count now was

    by : (s ≡ before) ⊎ (s ≡ (next_event before).1) → RunsOn was.client s.client
    by (inl is) = subst (λ (t : NotedState). RunsOn was.client t.client) (sym is) (some-runs some.count now was)
    by (inr is) =
        subst (λ (t : NotedState). RunsOn was.client t.client) (sym is)
        (followed was.client before.client (next_event before).1.client (some-runs some.count now was) (next-runs before before.taken))

emptied-of : (s : State) (events : List TurnEvent) → RunsOn (record s { events = events }) (record s { events = [] })
emptied-of s [] = here (record s { events = [] })
emptied-of s (event ∷ later) =
    followed (record s { events = event ∷ later }) (record s { events = later }) (record s { events = [] })
    (by-call PollEvent (record s { events = event ∷ later })) (emptied-of s later)

pub emptied : (s : State) → RunsOn s (record s { events = [] })
emptied s = emptied-of s s.events

-- ---- requests

pub made-runs : (key : Key) (relays : TransportType) (now : ℕ) (s : State) → RunsOn s (made key relays now s).1
made-runs (Permission ip) relays now s = by-call (CreatePermission relays ip now) s
made-runs (Channel peer) relays now s = by-call (BindChannel relays peer now) s
made-runs (Connect peer) relays now s = by-call (TcpConnect peer now) s

pub kept-runs : (key : Key) (relays : TransportType) (is_kept : Bool) (s : State) → RunsOn s (kept key relays is_kept s).1
kept-runs (Permission ip) relays is_kept s = by-call (SetPermissionKept relays ip is_kept) s
kept-runs (Channel peer) relays is_kept s = by-call (SetChannelKept relays peer is_kept) s
kept-runs (Connect peer) relays is_kept s = here s

let-go-runs : (keeps : Bool) (key : Key) (relays : TransportType) (s : State) → RunsOn s (let_go keeps key relays s)
let-go-runs true key relays s = here s
let-go-runs false key relays s = kept-runs key relays false s

-- the client after a request, or as it was
made-by : (key : Key) (relays : TransportType) (now : ℕ) (s client : State) (answer : Made) → made key relays now s ≡ (answer, client) → RunsOn s client
made-by key relays now s client answer is = subst (λ (p : Made × State). RunsOn s p.1) is (made-runs key relays now s)

waiting-runs : (r : OpenRequest) (relays : TransportType) (now : ℕ) (s : NotedState) (p : Made × State) → made r.key relays now s.client ≡ p
    → RunsOn s.client (waiting_made r relays now s).client
waiting-runs r relays now s (Client.Queued, client) e =
    rw e (followed s.client client (let_go r.is_kept r.key relays client) (made-by r.key relays now s.client client Client.Queued e)
    (let-go-runs r.is_kept r.key relays client))
waiting-runs r relays now s (Client.Refused error, client) e = rw e (made-by r.key relays now s.client client (Client.Refused error) e)
waiting-runs r relays now s (Client.NoMemory, client) e = rw e (here s.client)

permission-runs : (r : OpenRequest) (relays : TransportType) (now : ℕ) (s : NotedState) (p : Made × State)
    → made (permission_for r.key) relays now s.client ≡ p → RunsOn s.client (permission_made r relays now s).client
permission-runs r relays now s (Client.Queued, client) e =
    rw e (followed s.client client (let_go r.keeps_permission (permission_for r.key) relays client)
    (made-by (permission_for r.key) relays now s.client client Client.Queued e) (let-go-runs r.keeps_permission (permission_for r.key) relays client))
permission-runs r relays now s (Client.Refused error, client) e =
    rw e (made-by (permission_for r.key) relays now s.client client (Client.Refused error) e)
permission-runs r relays now s (Client.NoMemory, client) e = rw e (here s.client)

pub request-runs : (r : OpenRequest) (relays : TransportType) (now : ℕ) (s : NotedState) (is : Bool) → is_unpermitted r.progress ≡ is
    → RunsOn s.client (request_made r relays now s).client
request-runs r relays now s true u = rw u (permission-runs r relays now s (made (permission_for r.key) relays now s.client) refl)
request-runs r relays now s false u = rw u (waiting-runs r relays now s (made r.key relays now s.client) refl)

-- ---- what is kept

abbrev pub relaying : Option TransportType → NotedState → NotedState
relaying relays s = record s { notes = record s.notes { relays = relays } }

marked-runs : (key : Key) (is_kept : Bool) (relays : TransportType) (s : NotedState) (is : Bool)
    → (is_ok (kept key relays is_kept s.client).0 || waits_for key s.notes.book.requests) ≡ is
    → (keep_step key is_kept (relaying (Some relays) s)).1.client ≡ (kept key relays is_kept s.client).1
marked-runs key is_kept relays s true is = rw is refl
marked-runs key is_kept relays s false is = rw is refl

keep-runs-of : (key : Key) (is_kept : Bool) (s : NotedState) (relays : Option TransportType)
    → RunsOn s.client (keep_step key is_kept (relaying relays s)).1.client
keep-runs-of key is_kept s None = here s.client
keep-runs-of key is_kept s (Some relays) =
    subst (RunsOn s.client) (sym (marked-runs key is_kept relays s (is_ok (kept key relays is_kept s.client).0 || waits_for key s.notes.book.requests) refl))
    (kept-runs key relays is_kept s.client)

keep-runs : (key : Key) (is_kept : Bool) (s : NotedState) → RunsOn s.client (keep_step key is_kept s).1.client
keep-runs key is_kept s = keep-runs-of key is_kept s s.notes.relays

pub set-kept-runs : (key : Key) (is_kept : Bool) (s : NotedState) → RunsOn s.client (kept_while_running key is_kept s).1.client
set-kept-runs key is_kept s = elim (cases_Bool (is_running s.life.phase)) [
  | inl running ↦ rw running (keep-runs key is_kept s)
  | inr over ↦ rw over (here s.client)
]

-- ---- a new request

makes-runs : (key : Key) (relays : TransportType) (now : ℕ) (s : NotedState) (p : Made × State) → made key relays now s.client ≡ p
    → RunsOn s.client (makes key relays now s).1.client
makes-runs key relays now s (Client.Queued, client) e = rw e (made-by key relays now s.client client Client.Queued e)
makes-runs key relays now s (Client.Refused error, client) e = rw e (made-by key relays now s.client client (Client.Refused error) e)
makes-runs key relays now s (Client.NoMemory, client) e = rw e (here s.client)

begun-over-runs : (key : Key) (relays : TransportType) (now : ℕ) (s : NotedState) → RunsOn s.client (begun_over key relays now s).1.client
begun-over-runs key relays now s = elim (cases_Bool (lacks_permission key relays s)) [
  | inl lacks ↦ rw lacks (here s.client)
  | inr has ↦ rw has (elim (cases_Bool (must_wait s)) [
    | inl waits ↦ rw waits (here s.client)
    | inr goes ↦ rw goes (makes-runs key relays now s (made key relays now s.client) refl)
  ])
]

begun-runs-of : (key : Key) (now : ℕ) (s : NotedState) (relays : Option TransportType) → RunsOn s.client (begun key now (relaying relays s)).1.client
begun-runs-of key now s None = here s.client
begun-runs-of key now s (Some relays) = begun-over-runs key relays now (relaying (Some relays) s)

begun-runs : (key : Key) (now : ℕ) (s : NotedState) → RunsOn s.client (begun key now s).1.client
begun-runs key now s = begun-runs-of key now s s.notes.relays

-- without memory nothing changes
begins-runs : (answer : Answer) (was s : NotedState) (said : Answer × NotedState) → RunsOn was.client said.1.client → Asking.Begins answer was s said
    → RunsOn was.client s.client
begins-runs answer was s said runs (inl is) = subst (λ (t : NotedState). RunsOn was.client t.client) (sym is.1) runs
begins-runs answer was s said runs (inr is) = same was.client s.client (ap (λ (t : NotedState). t.client) is.1)

answers-runs : (known : Option Answer) (key : Key) (now : ℕ) (answer : Answer) (was s : NotedState) → Asking.Answers known key now answer was s
    → RunsOn was.client s.client
answers-runs (Some Answers.Granted) key now answer was s h = begins-runs answer was s (Asking.taken_over key was) (here was.client) h
answers-runs (Some (Answers.Ticket ticket)) key now answer was s h = same was.client s.client (ap (λ (t : NotedState). t.client) h.1)
answers-runs (Some (Answers.Resting until error)) key now answer was s h = same was.client s.client (ap (λ (t : NotedState). t.client) h.1)
answers-runs (Some (Answers.Refused error)) key now answer was s h = same was.client s.client (ap (λ (t : NotedState). t.client) h.1)
answers-runs (Some (Answers.Ended why)) key now answer was s h = same was.client s.client (ap (λ (t : NotedState). t.client) h.1)
answers-runs None key now answer was s h = begins-runs answer was s (begun key now was) (begun-runs key now was) h

requests-runs-at : (key : Key) (is_for_data : Bool) (now : ℕ) (answer : Answer) (was s : NotedState) (why : Option Why) → cause_in was.life.phase ≡ why
    → Requests key is_for_data now answer was s → RunsOn was.client s.client
requests-runs-at key is_for_data now answer was s (Some why) is h =
    let ended = rw is at h in same was.client s.client (ap (λ (t : NotedState). t.client) ended.1)
requests-runs-at key is_for_data now answer was s None is h =
    let k = (keep_step key true was).1 in let on : AnswersNow key is_for_data now answer was s = rw is at h in
    followed was.client k.client s.client (keep-runs key true was) (answers-runs (known_answer key is_for_data now k) key now answer k s on)

pub requests-runs : (key : Key) (is_for_data : Bool) (now : ℕ) (answer : Answer) (was s : NotedState) → Requests key is_for_data now answer was s
    → RunsOn was.client s.client
requests-runs key is_for_data now answer was s h = requests-runs-at key is_for_data now answer was s (cause_in was.life.phase) refl h

-- ---- what is received

denied-keeps : (r : Reading) (asked : Asked) (e : ErrorReply) (taken : Bool) (s : NotedState)
    → (with_hints r (record { asked = asked; said = Denied (record e { is_taken = taken }) }) s).client ≡ s.client
denied-keeps r asked e true s = refl
denied-keeps r asked e false s = refl

hints-keep : (r : Reading) (asked : Asked) (said : Said) (s : NotedState) → (with_hints r (record { asked = asked; said = said }) s).client ≡ s.client
hints-keep r asked (Granted lifetime) s = refl
hints-keep r asked Nothing s = refl
hints-keep r asked (Denied e) s = denied-keeps r asked e e.is_taken s

reply-keeps : (taken : Bool) (reply : Option ErrorReply) (s : NotedState) → (with_reply taken reply s).client ≡ s.client
reply-keeps true reply s = refl
reply-keeps false reply s = refl

received-keeps : (reading : Option Reading) (reply : Option ErrorReply) (taken : Bool) (now : ℕ) (s : NotedState)
    → (received reading reply taken now s).client ≡ s.client
received-keeps None reply taken now s = reply-keeps taken reply s
received-keeps (Some r) reply taken now s =
    let response = response_to r taken in
    hints-keep r response.asked response.said (with_mapped r taken (with_reply taken reply s)) ∙ reply-keeps taken reply s

packet-runs : (transport : TransportType) (from to : SocketAddr) (bytes : List ℕ) (now : ℕ) (s : State)
    → RunsOn s (recv_step transport from to bytes now s).1
packet-runs transport from to bytes now s =
    by-call (Recv (record { payload = bytes; transport = transport; from = from; to = to }) now) s

heard-runs : (transport : TransportType) (from to : SocketAddr) (bytes : List ℕ) (reading : Option Reading) (now : ℕ) (was s : NotedState)
    → DrainsSome now (heard_step transport from to bytes reading now was) s → RunsOn was.client s.client
heard-runs transport from to bytes reading now was s drains =
    let step = recv_step transport from to bytes now was.client in
    let heard = heard_step transport from to bytes reading now was in
    let client : heard.client ≡ step.1 = received-keeps reading (reply_for reading (record was { client = step.1 })) (is_taken step.0) now
    (record was { client = step.1 }) in
    followed was.client heard.client s.client (subst (RunsOn was.client) (sym client) (packet-runs transport from to bytes now was.client))
    (drains-runs now heard s drains)

abbrev pub at : Phase → NotedState → NotedState
at phase s = record s { life = record s.life { phase = phase } }

receives-at : (transport : TransportType) (from to : SocketAddr) (bytes : List ℕ) (now : ℕ) (was s : NotedState) (phase : Phase) (nothing : Bool)
    → answers_nothing to bytes was.client ≡ nothing → Receives transport from to bytes now (at phase was) s → RunsOn was.client s.client
receives-at transport from to bytes now was s Opening true a h =
    let kept : s ≡ at Opening was = rw a at h in same was.client s.client (ap (λ (t : NotedState). t.client) kept)
receives-at transport from to bytes now was s Open true a h =
    let kept : s ≡ at Open was = rw a at h in same was.client s.client (ap (λ (t : NotedState). t.client) kept)
receives-at transport from to bytes now was s Opening false a h =
    let heard = rw a at h in heard-runs transport from to bytes heard.0 now (at Opening was) s heard.2
receives-at transport from to bytes now was s Open false a h =
    let heard = rw a at h in heard-runs transport from to bytes heard.0 now (at Open was) s heard.2
receives-at transport from to bytes now was s (Leaving leave) nothing a h =
    subst (λ (t : NotedState). RunsOn was.client t.client) (sym h) (packet-runs transport from to bytes now was.client)
receives-at transport from to bytes now was s (Over why) nothing a h = same was.client s.client (ap (λ (t : NotedState). t.client) h)

pub receives-runs : (transport : TransportType) (from to : SocketAddr) (bytes : List ℕ) (now : ℕ) (was s : NotedState)
    → Receives transport from to bytes now was s → RunsOn was.client s.client
receives-runs transport from to bytes now was s h =
    receives-at transport from to bytes now was s was.life.phase (answers_nothing to bytes was.client) refl h

-- ---- packets and data

pub sent-runs : (transport : TransportType) (peer : SocketAddr) (bytes : List ℕ) (now : ℕ) (s : NotedState)
    → RunsOn s.client (sent_step transport peer bytes now s).1.client
sent-runs transport peer bytes now s = elim (cases_Bool (is_over s.life.phase)) [
  | inl over ↦ rw over (here s.client)
  | inr running ↦ rw running (by-call (SendTo transport peer bytes now) s.client)
]

-- ---- data connections

socket-taken : (result : Result Unit TcpAllocateError) (was s : State) (said : Result Unit TcpAllocateError × State) → RunsOn was said.1
    → Api.TakesSocket result was s said → RunsOn was s
socket-taken (Ok done) was s said runs h = subst (RunsOn was) (sym h.1) runs
socket-taken (Err Socket.OutOfMemory) was s said runs h = same was s h.1
socket-taken (Err Socket.NoAllocation) was s said runs h = subst (RunsOn was) (sym h.1) runs
socket-taken (Err Socket.AlreadyExists) was s said runs h = subst (RunsOn was) (sym h.1) runs

takes-socket-at : (id : ℕ) (socket : Socket5Tuple) (peer : SocketAddr) (local : Option SocketAddr) (now : ℕ) (result : Result Unit TcpAllocateError)
    (was s : NotedState) (over : Bool) → is_over was.life.phase ≡ over → TakesSocket id socket peer local now result was s → RunsOn was.client s.client
takes-socket-at id socket peer local now result was s true o h =
    let kept = rw o at h in same was.client s.client (ap (λ (t : NotedState). t.client) kept.1)
takes-socket-at id socket peer local now result was s false o h =
    let takes = rw o at h in
    socket-taken result was.client s.client (allocated_tcp_socket_step id socket peer local now was.client)
    (by-call (AllocatedTcpSocket id socket peer local now) was.client) takes.0

pub takes-socket-runs : (id : ℕ) (socket : Socket5Tuple) (peer : SocketAddr) (local : Option SocketAddr) (now : ℕ)
    (result : Result Unit TcpAllocateError) (was s : NotedState) → TakesSocket id socket peer local now result was s → RunsOn was.client s.client
takes-socket-runs id socket peer local now result was s h =
    takes-socket-at id socket peer local now result was s (is_over was.life.phase) refl h

pub fails-socket-runs : (id : ℕ) (socket : Socket5Tuple) (peer : SocketAddr) (tag : Tag) (now : ℕ) (result : Result Unit TcpAllocateError)
    (was s : NotedState) → FailsSocket id socket peer tag now result was s → RunsOn was.client s.client
fails-socket-runs id socket peer tag now result was s (inl takes) = takes-socket-runs id socket peer None now result _ s takes
fails-socket-runs id socket peer tag now result was s (inr kept) = same was.client s.client (ap (λ (t : NotedState). t.client) kept.1)

pub closed-socket-runs : (local peer : SocketAddr) (tag : Tag) (now : ℕ) (s : NotedState) → RunsOn s.client (closed_socket local peer tag s).client
closed-socket-runs local peer tag now s = by-call (TcpClosed local s.client.remote now) s.client
