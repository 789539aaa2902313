use Rattle.std.proofs.Common.{◌≡◌, ◌⊎◌, ℕ, Bool, true, false, List, Option, Some, None, refl, sym, ap, ◌∙◌, subst, inl, inr}
use Rattle.std.specs.Prelude.{◌&&◌, not, if◌then◌else◌, is_some, nat_lt}
use Rattle.std.specs.declared.net.socket_addr.SocketAddr.{SocketAddr}
use Rattle.std.proofs.lemmas.Bool.{cases_Bool}
use Rattle.std.proofs.lemmas.Option.{same_Some}
use Rattle.turn_stun.specs.declared.transport.TransportType.{TransportType}
use Rattle.turn_client_api.specs.Effect.{closed}
use Rattle.turn_client_api.specs.Poll.{poll_step}
use Rattle.turn_client_api.specs.Receive.{recv_step}
use Rattle.turn_client_api.specs.State.{State}
use Rattle.turn_client_api.specs.declared.poll.TurnPollRet.{TurnPollRet}
use Rattle.turn_client_api.specs.declared.poll.TurnPollRet.TheVariants as Answered
use Rattle.turn_session_book.specs.Keys.{permission_for}
use Rattle.turn_session_book.specs.OpenRequests.{first_closed, first_denied, is_unpermitted}
use Rattle.turn_session_book.specs.declared.causes.Why.{Why}
use Rattle.turn_session_book.specs.declared.causes.Why.TheVariants.{Closed, GrantSilent, OutOfMemory}
use Rattle.turn_session_book.specs.declared.keys.Key.{Key}
use Rattle.turn_session_book.specs.declared.keys.Key.TheVariants.{Permission, Channel, Connect}
use Rattle.turn_session_book.specs.declared.open_requests.OpenRequest.{OpenRequest}
use Rattle.turn_session_book.specs.declared.replies.ErrorReply.{ErrorReply}
use Rattle.turn_session_life.specs.Heard.{has_hint}
use Rattle.turn_session_life.specs.Life.{after_end, after_opening, cause_in, is_running}
use Rattle.turn_session_life.specs.Verdict.{verdict_step}
use Rattle.turn_session_life.specs.declared.life.Life.{Life}
use Rattle.turn_session_life.specs.declared.life.Phase.{Phase}
use Rattle.turn_session_life.specs.declared.life.Phase.TheVariants.{Opening, Open, Leaving, Over}
use Rattle.turn_session_life.specs.declared.responses.Asked.{Asked}
use Rattle.turn_session_life.specs.declared.responses.Response.{Response}
use Rattle.turn_session_life.specs.declared.responses.Said.{Said}
use Rattle.turn_session_life.specs.declared.responses.Said.TheVariants.{Granted, Denied, Nothing}
use Rattle.turn_session_life.specs.declared.verdict.VerdictStep.{VerdictStep}
use Rattle.turn_session_life.specs.declared.verdict.VerdictStep.TheVariants as Verdict
use Rattle.turn_session_client.specs.Asking.{is_granted}
use Rattle.turn_session_client.specs.Drain.{drained}
use Rattle.turn_session_client.specs.Ending.{ended, is_opening, left, left_for}
use Rattle.turn_session_client.specs.Expiring.{ClosedWaits, ExpiryWaits, closed_noted, closed_settled, expiry_noted, first_expired}
use Rattle.turn_session_client.specs.Making.{made}
use Rattle.turn_session_client.specs.Notes.{is_asked}
use Rattle.turn_session_client.specs.NotedState.{NotedState}
use Rattle.turn_session_client.specs.Permitting.{DeniedWaits, PermissionWaits, PermittedWaits, denied_noted, first_permitted, permission_made}
use Rattle.turn_session_client.specs.Permitting.{permission_taken, permitted_noted}
use Rattle.turn_session_client.specs.Polling.{AfterPoll, Closes, ExpiredOrWent, ExpiresOrGoesOn, IsCause, IsShort, MakesOrPolls, NextWaitsOn, Polls, PollsClient, PollsNoted, PollsRunning, RequestWaits, WaitsOn, cause_noted, opened, request_made, silent_grant, verdict_noted, waiting, waiting_made}
use Rattle.turn_session_client.specs.Receiving.{Receives, answers_nothing, heard_step, is_taken, received, reply_for, with_hints, with_mapped, with_reply}
use Rattle.turn_session_client.specs.Reading.{response_to}
use Rattle.turn_session_client.specs.Waiting.{is_full, next_to_make}
use Rattle.turn_session_client.specs.declared.making.Made.{Made}
use Rattle.turn_session_client.specs.declared.making.Made.TheVariants as Client
use Rattle.turn_session_client.specs.declared.reading.Reading.{Reading}
use Rattle.turn_session_client.proofs.DrainLemmas.{some-same}
use Rattle.turn_session_laws.specs.CauseLaws.{IsCauseOfPoll, IsOfServer}
use Rattle.turn_session_laws.proofs.causes.ends_have_causes.Goals as goal

abbrev at : Phase → NotedState → NotedState
at phase s = record s { life = record s.life { phase = phase } }

cause-of : (a b : Why) → Some a ≡ Some b → b ≡ a
cause-of a b e = sym (same_Some a b e)

-- ---- the caller leaves

left-at : (now : ℕ) (s : NotedState) (why : Why) (phase : Phase) → is_running phase ≡ true → cause_in (left now (at phase s)).life.phase ≡ Some why → why ≡ Closed
left-at now s why Open running is = cause-of Closed why is
left-at now s why Opening running is = elim (cases_Bool (s.heard.is_challenged && not (has_hint s.heard))) [
  | inl waits ↦ cause-of Closed why (rw waits at is)
  | inr ends ↦ cause-of Closed why (rw ends at is)
]
left-at now s why (Leaving leave) running is = cc
left-at now s why (Over before) running is = cc

-- ---- the first cause stays

stays-at : (l : Life) (why other : Why) (phase : Phase) → cause_in phase ≡ Some why → cause_in (after_end other (record l { phase = phase })).phase ≡ Some why
stays-at l why other Opening is = cc
stays-at l why other Open is = cc
stays-at l why other (Leaving leave) is = is
stays-at l why other (Over before) is = is

-- ---- what is received

abbrev saying : Asked → Said → Response
saying asked said = record { asked = asked; said = said }

denied-keeps : (r : Reading) (asked : Asked) (e : ErrorReply) (taken : Bool) (s : NotedState)
    → (with_hints r (saying asked (Denied (record e { is_taken = taken }))) s).life ≡ s.life
denied-keeps r asked e true s = refl
denied-keeps r asked e false s = refl

hints-keep : (r : Reading) (asked : Asked) (said : Said) (s : NotedState) → (with_hints r (saying asked said) s).life ≡ s.life
hints-keep r asked (Granted lifetime) s = refl
hints-keep r asked Nothing s = refl
hints-keep r asked (Denied e) s = denied-keeps r asked e e.is_taken s

reply-keeps : (taken : Bool) (reply : Option ErrorReply) (s : NotedState) → (with_reply taken reply s).life ≡ s.life
reply-keeps true reply s = refl
reply-keeps false reply s = refl

received-phase : (reading : Option Reading) (reply : Option ErrorReply) (taken : Bool) (now : ℕ) (s : NotedState)
    → (received reading reply taken now s).life.phase ≡ s.life.phase
received-phase None reply taken now s = ap (λ (l : Life). l.phase) (reply-keeps taken reply s)
received-phase (Some r) reply taken now s =
    let response = response_to r taken in
    ap (λ (l : Life). l.phase)
    (hints-keep r response.asked response.said (with_mapped r taken (with_reply taken reply s)) ∙ reply-keeps taken reply s)

runs-on : (transport : TransportType) (from to : SocketAddr) (bytes : List ℕ) (reading : Option Reading) (now : ℕ) (was s : NotedState)
    → is_running was.life.phase ≡ true → drained now s ≡ drained now (heard_step transport from to bytes reading now was) → is_running s.life.phase ≡ true
runs-on transport from to bytes reading now was s running same =
    let step = recv_step transport from to bytes now was.client in
    let phase : s.life.phase ≡ was.life.phase = ap (λ (t : NotedState). t.life.phase) same
    ∙ received-phase reading (reply_for reading (record was { client = step.1 })) (is_taken step.0) now (record was { client = step.1 }) in
    rw phase running

-- one that is no response of the request changes nothing
runs-at : (transport : TransportType) (from to : SocketAddr) (bytes : List ℕ) (now : ℕ) (was s : NotedState) (phase : Phase) (nothing : Bool)
    → answers_nothing to bytes was.client ≡ nothing → is_running phase ≡ true → Receives transport from to bytes now (at phase was) s
    → is_running s.life.phase ≡ true
runs-at transport from to bytes now was s Opening true a running h =
    let same : s ≡ at Opening was = rw a at h in rw (ap (λ (t : NotedState). t.life.phase) same) running
runs-at transport from to bytes now was s Open true a running h =
    let same : s ≡ at Open was = rw a at h in rw (ap (λ (t : NotedState). t.life.phase) same) running
runs-at transport from to bytes now was s Opening false a running h =
    let heard = rw a at h in runs-on transport from to bytes heard.0 now (at Opening was) s refl
    (some-same now (heard_step transport from to bytes heard.0 now (at Opening was)) s heard.2)
runs-at transport from to bytes now was s Open false a running h =
    let heard = rw a at h in runs-on transport from to bytes heard.0 now (at Open was) s refl
    (some-same now (heard_step transport from to bytes heard.0 now (at Open was)) s heard.2)
runs-at transport from to bytes now was s (Leaving leave) nothing a running h = cc
runs-at transport from to bytes now was s (Over before) nothing a running h = cc

received-at : (transport : TransportType) (from to : SocketAddr) (bytes : List ℕ) (now : ℕ) (was s : NotedState) (phase : Phase) → is_running phase ≡ true
    → Receives transport from to bytes now (at phase was) s → is_running s.life.phase ≡ true
received-at transport from to bytes now was s Opening running h =
    runs-at transport from to bytes now was s Opening (answers_nothing to bytes was.client) refl running h
received-at transport from to bytes now was s Open running h =
    runs-at transport from to bytes now was s Open (answers_nothing to bytes was.client) refl running h
received-at transport from to bytes now was s (Leaving leave) running h = cc
received-at transport from to bytes now was s (Over before) running h = cc

-- ---- a session that has a cause was given it

running-none : (phase : Phase) (why : Why) → is_running phase ≡ true → cause_in phase ≡ Some why → ⊥
running-none Opening why running is = cc
running-none Open why running is = cc
running-none (Leaving leave) why running is = cc
running-none (Over before) why running is = cc

same-life : (was s : NotedState) (why : Why) → is_running was.life.phase ≡ true → s.life ≡ was.life → cause_in s.life.phase ≡ Some why → ⊥
same-life was s why running same is = running-none was.life.phase why running (subst (λ (l : Life). cause_in l.phase ≡ Some why) same is)

given : (l : Life) (why other : Why) (phase : Phase) → is_running phase ≡ true
    → cause_in (after_end other (record l { phase = phase })).phase ≡ Some why → why ≡ other
given l why other Opening running is = cause-of other why is
given l why other Open running is = cause-of other why is
given l why other (Leaving leave) running is = cc
given l why other (Over before) running is = cc

ended-by : (was s : NotedState) (why other : Why) → is_running was.life.phase ≡ true → s ≡ ended other was → cause_in s.life.phase ≡ Some why → why ≡ other
ended-by was s why other running e is =
    given was.life why other was.life.phase running (subst (λ (t : NotedState). cause_in t.life.phase ≡ Some why) e is)

left-by : (now : ℕ) (was s : NotedState) (why other : Why) → s ≡ left_for other now (at Opening was) → cause_in s.life.phase ≡ Some why → why ≡ other
left-by now was s why other e is =
    let has : cause_in (left_for other now (at Opening was)).life.phase ≡ Some why = subst (λ (t : NotedState). cause_in t.life.phase ≡ Some why) e is in
    elim (cases_Bool was.heard.is_challenged) [
      | inl is_so ↦ cause-of other why (rw is_so at has)
      | inr is_not ↦ cause-of other why (rw is_not at has)
    ]

-- ---- the client is polled

of-server : (now : ℕ) (was : NotedState) (why : Why) → IsCause now was why → IsOfServer now was why
of-server now was why cause = elim (cases_Bool (is_opening was.life.phase)) [
  | inl is_so ↦ inl (rw is_so at cause)
  | inr is_not ↦ inr (rw is_not at cause)
]

closes : (now : ℕ) (was s : NotedState) (answer : TurnPollRet) (why : Why) → is_running was.life.phase ≡ true → Closes now was s answer
    → cause_in s.life.phase ≡ Some why → IsOfServer now was why
closes now was s answer why running (inl ends) is =
    let end = ends.1 in let one = ended-by (drained now was) s why end.0 running end.2 is in
    of-server now was why (subst (λ (w : Why). IsCause now was w) (sym one) end.1)
closes now was s answer why running (inr short) is =
    absurd (same-life was s why running (ap (λ (t : NotedState). t.life) (some-same now was s short.1)) is)

waiting-keeps : (time now : ℕ) (s : NotedState) → (waiting time now s).life ≡ s.life
waiting-keeps time now s = elim (cases_Bool (nat_lt now time)) [
  | inl later ↦ rw later refl
  | inr past ↦ rw past refl
]

answered : (now : ℕ) (said : TurnPollRet) (was s : NotedState) (answer : TurnPollRet) (why : Why) → is_running was.life.phase ≡ true
    → AfterPoll now said was s answer → cause_in s.life.phase ≡ Some why → IsOfServer now was why
answered now (Answered.WaitUntil time) was s answer why running h is =
    absurd (same-life was s why running (ap (λ (t : NotedState). t.life) h.1 ∙ waiting-keeps time now was) is)
answered now Answered.Closed was s answer why running h is = closes now was s answer why running h is
answered now (Answered.AllocateTcpSocket id socket peer) was s answer why running h is =
    absurd (same-life was s why running (ap (λ (t : NotedState). t.life) h.1) is)
answered now (Answered.TcpClose local remote) was s answer why running h is =
    absurd (same-life was s why running (ap (λ (t : NotedState). t.life) h.1) is)

abbrev IsOfClient : ℕ → NotedState → Why → Type 0
IsOfClient now s why = IsOfServer now s why ⊎ (why ≡ OutOfMemory)

client-polled : (now : ℕ) (was s : NotedState) (answer : TurnPollRet) (why : Why) → is_running was.life.phase ≡ true → PollsClient now was s answer
    → cause_in s.life.phase ≡ Some why → IsOfClient now was why
client-polled now was s answer why running (inl after) is =
    let step = poll_step now was.client in
    inl (answered now step.0 (record was { client = step.1 }) s answer why running after is)
client-polled now was s answer why running (inr short) is =
    inr (ended-by (record was { client = closed was.client }) s why OutOfMemory running short.1 is)

-- ---- a request that waits is made first, or one for the permission that another needs

made-keeps : (r : OpenRequest) (relays : TransportType) (now : ℕ) (s : NotedState) (p : Made × State) → made r.key relays now s.client ≡ p
    → (waiting_made r relays now s).life ≡ s.life
made-keeps r relays now s (Client.Queued, client) e = rw e refl
made-keeps r relays now s (Client.Refused error, client) e = rw e refl
made-keeps r relays now s (Client.NoMemory, client) e = rw e refl

waits-keeps : (key : Key) (relays : TransportType) (now : ℕ) (was s : NotedState) → WaitsOn key relays now was s → s.life ≡ was.life
waits-keeps key relays now was s (inl same) = ap (λ (t : NotedState). t.life) same
waits-keeps key relays now was s (inr refused) = ap (λ (t : NotedState). t.life) refused

asked-keeps : (r : OpenRequest) (relays : TransportType) (now : ℕ) (s : NotedState) (p : Made × State) → made (permission_for r.key) relays now s.client ≡ p
    → (permission_made r relays now s).life ≡ s.life
asked-keeps r relays now s (Client.Queued, client) e = rw e refl
asked-keeps r relays now s (Client.Refused error, client) e = rw e refl
asked-keeps r relays now s (Client.NoMemory, client) e = rw e refl

request-keeps : (r : OpenRequest) (relays : TransportType) (now : ℕ) (s : NotedState) (is : Bool) → is_unpermitted r.progress ≡ is
    → (request_made r relays now s).life ≡ s.life
request-keeps r relays now s true u = rw u (asked-keeps r relays now s (made (permission_for r.key) relays now s.client) refl)
request-keeps r relays now s false u = rw u (made-keeps r relays now s (made r.key relays now s.client) refl)

permission-waits : (r : OpenRequest) (relays : TransportType) (now : ℕ) (was s : NotedState) → PermissionWaits r relays now was s → s.life ≡ was.life
permission-waits r relays now was s (inl same) = ap (λ (t : NotedState). t.life) same
permission-waits r relays now was s (inr refused) = ap (λ (t : NotedState). t.life) refused

request-waits : (r : OpenRequest) (relays : TransportType) (now : ℕ) (was s : NotedState) (is : Bool) → is_unpermitted r.progress ≡ is
    → RequestWaits r relays now was s → s.life ≡ was.life
request-waits r relays now was s true u h = permission-waits r relays now was s (rw u at h)
request-waits r relays now was s false u h = waits-keeps r.key relays now was s (rw u at h)

abbrev relaying : Option TransportType → NotedState → NotedState
relaying relays s = record s { notes = record s.notes { relays = relays } }

makes : (now : ℕ) (was s : NotedState) (answer : TurnPollRet) (why : Why) (relays : Option TransportType) (next : Option OpenRequest)
    → next_to_make was ≡ next → is_running was.life.phase ≡ true → MakesOrPolls now (relaying relays was) s answer → cause_in s.life.phase ≡ Some why
    → IsOfClient now was why
makes now was s answer why None next n running h is = client-polled now (relaying None was) s answer why running h is
makes now was s answer why (Some relays) None n running h is = client-polled now (relaying (Some relays) was) s answer why running (rw n at h) is
makes now was s answer why (Some relays) (Some r) n running h is =
    absurd (by (rw n at h))
  where
    t : NotedState
    t = relaying (Some relays) was

    by : ((answer ≡ Answered.WaitUntil now) × (s ≡ request_made r relays now t)) ⊎ (IsShort now answer × NextWaitsOn now t s) → ⊥
    by (inl one) =
        same-life was s why running (ap (λ (u : NotedState). u.life) one.1 ∙ request-keeps r relays now t (is_unpermitted r.progress) refl) is
    by (inr short) =
        same-life was s why running (request-waits r relays now t s (is_unpermitted r.progress) refl (rw (n, NextWaitsOn) at short.1)) is

-- ---- what has expired is noted before, and what needs a permission

-- something is noted, and the life goes on, or nothing is
abbrev Notes : NotedState → Bool × NotedState → Type 0
Notes was (true, t) = t.life ≡ was.life
Notes was (false, t) = t ≡ was

taken-keeps : (key permission : Key) (s : NotedState) (is_question : Bool) → is_asked permission s.notes ≡ is_question
    → (permission_taken key permission s).life ≡ s.life
taken-keeps key permission s true asked = rw asked refl
taken-keeps (Permission ip) permission s false asked = rw asked refl
taken-keeps (Channel peer) permission s false asked = rw asked refl
taken-keeps (Connect peer) permission s false asked = rw asked refl

permitted-notes : (s : NotedState) (first : Option OpenRequest) → first_permitted s ≡ first → Notes s (permitted_noted s)
permitted-notes s (Some r) f = rw f (taken-keeps r.key (permission_for r.key) s (is_asked (permission_for r.key) s.notes) refl)
permitted-notes s None f = rw f refl

denied-notes : (now : ℕ) (s : NotedState) (first : Option OpenRequest) → first_denied s.notes.book.requests ≡ first → Notes s (denied_noted now s)
denied-notes now s (Some r) f = rw f refl
denied-notes now s None f = rw f (permitted-notes s (first_permitted s) refl)

settled-keeps : (r : OpenRequest) (s : NotedState) (again : Bool) → r.is_repeated ≡ again → (closed_settled r s).life ≡ s.life
settled-keeps r s true again = rw again refl
settled-keeps r s false again = rw again refl

closed-notes : (now : ℕ) (s : NotedState) (first : Option OpenRequest) → first_closed s.notes.book.requests ≡ first → Notes s (closed_noted now s)
closed-notes now s (Some r) f = rw f (settled-keeps r s r.is_repeated refl)
closed-notes now s None f = rw f (denied-notes now s (first_denied s.notes.book.requests) refl)

expiry-notes : (now : ℕ) (s : NotedState) (first : Option Key) → first_expired s ≡ first → Notes s (expiry_noted now s)
expiry-notes now s (Some key) f = rw f refl
expiry-notes now s None f = rw f (closed-notes now s (first_closed s.notes.book.requests) refl)

-- without memory the life goes on too
permitted-waits : (was s : NotedState) (first : Option OpenRequest) → first_permitted was ≡ first → PermittedWaits was s → s.life ≡ was.life
permitted-waits was s (Some r) f h = let same : s ≡ was = rw f at h in ap (λ (t : NotedState). t.life) same
permitted-waits was s None f h = absurd (rw f at h)

denied-waits : (now : ℕ) (was s : NotedState) (first : Option OpenRequest) → first_denied was.notes.book.requests ≡ first → DeniedWaits now was s
    → s.life ≡ was.life
denied-waits now was s (Some r) f h = let same : s ≡ was = rw f at h in ap (λ (t : NotedState). t.life) same
denied-waits now was s None f h =
    permitted-waits was s (first_permitted was) refl (rw f at h)

closed-waits : (now : ℕ) (was s : NotedState) (first : Option OpenRequest) → first_closed was.notes.book.requests ≡ first → ClosedWaits now was s
    → s.life ≡ was.life
closed-waits now was s (Some r) f h = let same : s ≡ was = rw f at h in ap (λ (t : NotedState). t.life) same
closed-waits now was s None f h = denied-waits now was s (first_denied was.notes.book.requests) refl (rw f at h)

expiry-waits : (now : ℕ) (was s : NotedState) (first : Option Key) → first_expired was ≡ first → ExpiryWaits now was s → s.life ≡ was.life
expiry-waits now was s (Some key) f h = let same : s ≡ was = rw f at h in ap (λ (t : NotedState). t.life) same
expiry-waits now was s None f h = closed-waits now was s (first_closed was.notes.book.requests) refl (rw f at h)

went : (now : ℕ) (was s : NotedState) (answer : TurnPollRet) (why : Why) (p : Bool × NotedState) → Notes was p
    → is_running was.life.phase ≡ true → ExpiredOrWent now was p s answer → cause_in s.life.phase ≡ Some why → IsOfClient now was why
went now was s answer why (true, t) keeps running (inl one) is =
    absurd (same-life was s why running (ap (λ (u : NotedState). u.life) one.1 ∙ keeps) is)
went now was s answer why (true, t) keeps running (inr short) is =
    absurd (same-life was s why running (expiry-waits now was s (first_expired was) refl short.1) is)
went now was s answer why (false, t) same running h is =
    let on : MakesOrPolls now was s answer = subst (λ (u : NotedState). MakesOrPolls now u s answer) same h in
    makes now was s answer why was.notes.relays (next_to_make was) refl running on is

expires : (now : ℕ) (was s : NotedState) (answer : TurnPollRet) (why : Why) → is_running was.life.phase ≡ true → ExpiresOrGoesOn now was s answer
    → cause_in s.life.phase ≡ Some why → IsOfClient now was why
expires now was s answer why running h is =
    went now was s answer why (expiry_noted now was) (expiry-notes now was (first_expired was) refl) running h is

-- ---- what ends it comes first

abbrev IsOfVerdict : ℕ → NotedState → Why → Type 0
IsOfVerdict now s why = (verdict_step now s.verdict.blame ≡ Verdict.Ended why) ⊎ IsOfClient now s why

judged : (now : ℕ) (was s : NotedState) (answer : TurnPollRet) (why : Why) (phase : Phase) (step : VerdictStep) → is_running phase ≡ true
    → verdict_step now was.verdict.blame ≡ step → PollsNoted now (verdict_noted now (at phase was)) s answer → cause_in s.life.phase ≡ Some why
    → IsOfVerdict now (at phase was) why
judged now was s answer why Opening (Verdict.Ended other) running v h is =
    let ends = rw v at h in inl (v ∙ ap Verdict.Ended (sym (left-by now was s why other ends.1 is)))
judged now was s answer why Opening (Verdict.WaitUntil time) running v h is =
    inr (expires now (at Opening was) s answer why refl (rw v at h) is)
judged now was s answer why Opening Verdict.Idle running v h is =
    inr (expires now (at Opening was) s answer why refl (rw v at h) is)
judged now was s answer why Open step running v h is = inr (expires now (at Open was) s answer why refl h is)
judged now was s answer why (Leaving leave) step running v h is = cc
judged now was s answer why (Over before) step running v h is = cc

abbrev IsOfGrant : NotedState → Why → Type 0
IsOfGrant s why = (key : Key) × (silent_grant s ≡ Some key) × (why ≡ GrantSilent key)

caused : (now : ℕ) (was s : NotedState) (answer : TurnPollRet) (why : Why) (silent : Option Key) → silent_grant was ≡ silent
    → is_running was.life.phase ≡ true → PollsNoted now (cause_noted now was) s answer → cause_in s.life.phase ≡ Some why
    → IsOfGrant was why ⊎ IsOfVerdict now was why
caused now was s answer why (Some key) g running h is =
    let ends = rw g at h in inl (key, g, ended-by was s why (GrantSilent key) running ends.1 is)
caused now was s answer why None g running h is =
    inr (judged now was s answer why was.life.phase (verdict_step now was.verdict.blame) running refl (rw g at h) is)

-- ---- the call

opens : (l : Life) (phase : Phase) (is_relayed : Bool) → is_running phase ≡ true
    → is_running (if is_relayed then after_opening (record l { phase = phase }) else record l { phase = phase }).phase ≡ true
opens l phase false running = running
opens l Opening true running = refl
opens l Open true running = refl
opens l (Leaving leave) true running = cc
opens l (Over before) true running = cc

runs : (now : ℕ) (was s : NotedState) (answer : TurnPollRet) (why : Why) → is_running was.life.phase ≡ true → PollsRunning now was s answer
    → cause_in s.life.phase ≡ Some why → IsCauseOfPoll now was why
runs now was s answer why running (inl noted) is =
    let t = drained now was in
    caused now (opened t) s answer why (silent_grant t) refl (opens was.life was.life.phase (is_some t.notes.relays) running) noted is
runs now was s answer why running (inr short) is =
    absurd (same-life was s why running (ap (λ (t : NotedState). t.life) (some-same now was s short.1)) is)

polled-at : (now : ℕ) (was s : NotedState) (answer : TurnPollRet) (why : Why) (phase : Phase) → is_running phase ≡ true → Polls now (at phase was) s answer
    → cause_in s.life.phase ≡ Some why → IsCauseOfPoll now (at phase was) why
polled-at now was s answer why Opening running h is = runs now (at Opening was) s answer why refl h is
polled-at now was s answer why Open running h is = runs now (at Open was) s answer why refl h is
polled-at now was s answer why (Leaving leave) running h is = cc
polled-at now was s answer why (Over before) running h is = cc

pub returns : goal.returns
returns c = record {
  left = λ now s why running is. left-at now s why s.life.phase running is;
  received = λ transport from to bytes now was s running h. received-at transport from to bytes now was s was.life.phase running h;
  polled = λ now was s answer why running h is. polled-at now was s answer why was.life.phase running h is;
  stays = λ s why other is. stays-at s.life why other s.life.phase is;
}
