-- A client with what is noted of it is polled: which calls of its own it makes.
use Rattle.std.proofs.Common.{◌≡◌, ◌∙◌, ◌⊎◌, ℕ, Bool, true, false, Option, Some, None, refl, sym, ap, subst, inl, inr}
use Rattle.std.specs.Prelude.{Result, Ok, Err, nat_le, nat_lt}
use Rattle.std.proofs.lemmas.Bool.{cases_Bool}
use Rattle.turn_stun.specs.declared.transport.TransportType.{TransportType}
use Rattle.turn_client_api.specs.Calls.{delete_step}
use Rattle.turn_client_api.specs.Poll.{poll_step}
use Rattle.turn_client_api.specs.State.{State}
use Rattle.turn_client_api.specs.declared.call.Call.TheVariants.{Delete, Poll, PollEvent}
use Rattle.turn_client_api.specs.declared.error.DeleteError.{DeleteError}
use Rattle.turn_client_api.specs.declared.poll.TurnPollRet.{TurnPollRet}
use Rattle.turn_client_api.specs.declared.poll.TurnPollRet.TheVariants as Answered
use Rattle.turn_session_book.specs.Keys.{permission_for}
use Rattle.turn_session_book.specs.OpenRequests.{first_closed, first_denied, is_unpermitted}
use Rattle.turn_session_book.specs.declared.causes.Why.{Why}
use Rattle.turn_session_book.specs.declared.keys.Key.{Key}
use Rattle.turn_session_book.specs.declared.keys.Key.TheVariants.{Permission, Channel, Connect}
use Rattle.turn_session_book.specs.declared.open_requests.OpenRequest.{OpenRequest}
use Rattle.turn_session_life.specs.Verdict.{verdict_step}
use Rattle.turn_session_life.specs.declared.life.Leave.{Leave}
use Rattle.turn_session_life.specs.declared.life.Phase.{Phase}
use Rattle.turn_session_life.specs.declared.life.Phase.TheVariants.{Opening, Open, Leaving, Over}
use Rattle.turn_session_life.specs.declared.verdict.VerdictStep.{VerdictStep}
use Rattle.turn_session_life.specs.declared.verdict.VerdictStep.TheVariants as Verdict
use Rattle.turn_session_client.specs.Drain.{drained}
use Rattle.turn_session_client.specs.Ending.{ended}
use Rattle.turn_session_client.specs.Expiring.{ClosedWaits, ExpiryWaits, closed_noted, closed_settled, expiry_noted, first_expired}
use Rattle.turn_session_client.specs.Keeping.{kept}
use Rattle.turn_session_client.specs.Leaving.{PollsForgotten, PollsLeaving, PollsToEnd, PollsUntil, TriesDeletion, delete_tried, deleted_once, lingers_until}
use Rattle.turn_session_client.specs.Leaving.{ended_with_answer, event_forgotten}
use Rattle.turn_session_client.specs.Notes.{is_asked}
use Rattle.turn_session_client.specs.NotedState.{NotedState}
use Rattle.turn_session_client.specs.Permitting.{DeniedWaits, PermittedWaits, denied_noted, first_permitted}
use Rattle.turn_session_client.specs.Permitting.{permission_taken, permitted_noted}
use Rattle.turn_session_client.specs.Polling.{AfterPoll, Closes, ExpiredOrWent, NextWaitsOn, Polls, PollsClient, PollsNoted, PollsRunning}
use Rattle.turn_session_client.specs.Polling.{RequestWaits, WaitsOn, cause_noted, opened, request_made, silent_grant, verdict_noted, waiting}
use Rattle.turn_session_client.specs.Waiting.{next_to_make}
use Rattle.turn_session_laws.specs.RunLaws.{RunsOn, RunsOrEnds}
use Rattle.turn_session_book.specs.declared.causes.Why.TheVariants.{GrantSilent}
use Rattle.turn_session_client.specs.Polling.{ExpiresOrGoesOn, IsShort, MakesOrPolls}
use Rattle.turn_session_laws.proofs.RunLemmas.{at, by-call, drains-runs, emptied, ends, ends-after, followed, here, left-keeps, made-runs, relaying, request-runs, same}

-- ---- the client

call-runs : (now : ℕ) (s : State) → RunsOn s (poll_step now s).1
call-runs now s = by-call (Poll now) s

-- its last events are taken
closes-runs : (now : ℕ) (was s : NotedState) (answer : TurnPollRet) → Closes now was s answer → RunsOn was.client s.client
closes-runs now was s answer (inl closes) =
    let end = closes.1 in subst (λ (t : NotedState). RunsOn was.client t.client) (sym end.2) (emptied was.client)
closes-runs now was s answer (inr short) = drains-runs now was s short.1

waiting-keeps : (time now : ℕ) (s : NotedState) → (waiting time now s).client ≡ s.client
waiting-keeps time now s = elim (cases_Bool (nat_lt now time)) [
  | inl later ↦ rw later refl
  | inr past ↦ rw past refl
]

answered : (now : ℕ) (said : TurnPollRet) (was s : NotedState) (answer : TurnPollRet) → AfterPoll now said was s answer → RunsOn was.client s.client
answered now (Answered.WaitUntil time) was s answer h =
    same was.client s.client (ap (λ (t : NotedState). t.client) h.1 ∙ waiting-keeps time now was)
answered now Answered.Closed was s answer h = closes-runs now was s answer h
answered now (Answered.AllocateTcpSocket id socket peer) was s answer h = same was.client s.client (ap (λ (t : NotedState). t.client) h.1)
answered now (Answered.TcpClose local remote) was s answer h = same was.client s.client (ap (λ (t : NotedState). t.client) h.1)

client-polled : (now : ℕ) (was s : NotedState) (answer : TurnPollRet) → PollsClient now was s answer → RunsOrEnds was.client s.client
client-polled now was s answer (inl after) =
    let step = poll_step now was.client in
    ends was.client s.client (followed was.client step.1 s.client (call-runs now was.client)
    (answered now step.0 (record was { client = step.1 }) s answer after))
client-polled now was s answer (inr short) = (was.client, here was.client, inr (ap (λ (t : NotedState). t.client) short.1))

-- ---- a request that waits is made first, or one for the permission that another needs

waits-runs : (key : Key) (relays : TransportType) (now : ℕ) (was s : NotedState) → WaitsOn key relays now was s → RunsOn was.client s.client
waits-runs key relays now was s (inl kept) = same was.client s.client (ap (λ (t : NotedState). t.client) kept)
waits-runs key relays now was s (inr refused) =
    subst (λ (t : NotedState). RunsOn was.client t.client) (sym refused) (made-runs key relays now was.client)

request-waits : (r : OpenRequest) (relays : TransportType) (now : ℕ) (was s : NotedState) (is : Bool) → is_unpermitted r.progress ≡ is
    → RequestWaits r relays now was s → RunsOn was.client s.client
request-waits r relays now was s true u h = waits-runs (permission_for r.key) relays now was s (rw u at h)
request-waits r relays now was s false u h = waits-runs r.key relays now was s (rw u at h)

makes-or-polls : (now : ℕ) (was s : NotedState) (answer : TurnPollRet) (relays : Option TransportType) (next : Option OpenRequest) → next_to_make was ≡ next
    → MakesOrPolls now (relaying relays was) s answer → RunsOrEnds was.client s.client
makes-or-polls now was s answer None next n h = client-polled now (relaying None was) s answer h
makes-or-polls now was s answer (Some relays) None n h = client-polled now (relaying (Some relays) was) s answer (rw n at h)
makes-or-polls now was s answer (Some relays) (Some r) n h =
    ends was.client s.client (by (rw n at h))
  where
    t : NotedState
    t = relaying (Some relays) was

    by : ((answer ≡ Answered.WaitUntil now) × (s ≡ request_made r relays now t)) ⊎ (IsShort now answer × NextWaitsOn now t s) → RunsOn was.client s.client
    by (inl one) =
        subst (λ (u : NotedState). RunsOn was.client u.client) (sym one.1) (request-runs r relays now t (is_unpermitted r.progress) refl)
    by (inr short) = request-waits r relays now t s (is_unpermitted r.progress) refl (rw (n, NextWaitsOn) at short.1)

-- ---- what has expired is noted before, and what needs a permission: the client is not called

abbrev Keeps : NotedState → Bool × NotedState → Type 0
Keeps was (true, t) = t.client ≡ was.client
Keeps was (false, t) = t ≡ was

taken-keeps : (key permission : Key) (s : NotedState) (is_question : Bool) → is_asked permission s.notes ≡ is_question
    → (permission_taken key permission s).client ≡ s.client
taken-keeps key permission s true asked = rw asked refl
taken-keeps (Permission ip) permission s false asked = rw asked refl
taken-keeps (Channel peer) permission s false asked = rw asked refl
taken-keeps (Connect peer) permission s false asked = rw asked refl

permitted-keeps : (s : NotedState) (first : Option OpenRequest) → first_permitted s ≡ first → Keeps s (permitted_noted s)
permitted-keeps s (Some r) f = rw f (taken-keeps r.key (permission_for r.key) s (is_asked (permission_for r.key) s.notes) refl)
permitted-keeps s None f = rw f refl

denied-keeps : (now : ℕ) (s : NotedState) (first : Option OpenRequest) → first_denied s.notes.book.requests ≡ first → Keeps s (denied_noted now s)
denied-keeps now s (Some r) f = rw f refl
denied-keeps now s None f = rw f (permitted-keeps s (first_permitted s) refl)

settled-keeps : (r : OpenRequest) (s : NotedState) (again : Bool) → r.is_repeated ≡ again → (closed_settled r s).client ≡ s.client
settled-keeps r s true again = rw again refl
settled-keeps r s false again = rw again refl

closed-keeps : (now : ℕ) (s : NotedState) (first : Option OpenRequest) → first_closed s.notes.book.requests ≡ first → Keeps s (closed_noted now s)
closed-keeps now s (Some r) f = rw f (settled-keeps r s r.is_repeated refl)
closed-keeps now s None f = rw f (denied-keeps now s (first_denied s.notes.book.requests) refl)

expiry-keeps : (now : ℕ) (s : NotedState) (first : Option Key) → first_expired s ≡ first → Keeps s (expiry_noted now s)
expiry-keeps now s (Some key) f = rw f refl
expiry-keeps now s None f = rw f (closed-keeps now s (first_closed s.notes.book.requests) refl)

-- without memory it is not called either
permitted-waits : (was s : NotedState) (first : Option OpenRequest) → first_permitted was ≡ first → PermittedWaits was s → s ≡ was
permitted-waits was s (Some r) f h = rw f at h
permitted-waits was s None f h = absurd (rw f at h)

denied-waits : (now : ℕ) (was s : NotedState) (first : Option OpenRequest) → first_denied was.notes.book.requests ≡ first → DeniedWaits now was s → s ≡ was
denied-waits now was s (Some r) f h = rw f at h
denied-waits now was s None f h = permitted-waits was s (first_permitted was) refl (rw f at h)

closed-waits : (now : ℕ) (was s : NotedState) (first : Option OpenRequest) → first_closed was.notes.book.requests ≡ first → ClosedWaits now was s → s ≡ was
closed-waits now was s (Some r) f h = rw f at h
closed-waits now was s None f h = denied-waits now was s (first_denied was.notes.book.requests) refl (rw f at h)

expiry-waits : (now : ℕ) (was s : NotedState) (first : Option Key) → first_expired was ≡ first → ExpiryWaits now was s → s ≡ was
expiry-waits now was s (Some key) f h = rw f at h
expiry-waits now was s None f h = closed-waits now was s (first_closed was.notes.book.requests) refl (rw f at h)

went : (now : ℕ) (was s : NotedState) (answer : TurnPollRet) (p : Bool × NotedState) → Keeps was p → ExpiredOrWent now was p s answer
    → RunsOrEnds was.client s.client
went now was s answer (true, t) keeps (inl one) =
    ends was.client s.client (same was.client s.client (ap (λ (u : NotedState). u.client) one.1 ∙ keeps))
went now was s answer (true, t) keeps (inr short) =
    ends was.client s.client (same was.client s.client (ap (λ (u : NotedState). u.client) (expiry-waits now was s (first_expired was) refl short.1)))
went now was s answer (false, t) kept h =
    let on : MakesOrPolls now was s answer = subst (λ (u : NotedState). MakesOrPolls now u s answer) kept h in
    makes-or-polls now was s answer was.notes.relays (next_to_make was) refl on

expires : (now : ℕ) (was s : NotedState) (answer : TurnPollRet) → ExpiresOrGoesOn now was s answer → RunsOrEnds was.client s.client
expires now was s answer h = went now was s answer (expiry_noted now was) (expiry-keeps now was (first_expired was) refl) h

-- ---- what ends the session comes first

ended-same : (was s : NotedState) (why : Why) → s ≡ ended why was → RunsOrEnds was.client s.client
ended-same was s why is = ends was.client s.client (same was.client s.client (ap (λ (t : NotedState). t.client) is))

judged : (now : ℕ) (was s : NotedState) (answer : TurnPollRet) (phase : Phase) (step : VerdictStep) → verdict_step now was.verdict.blame ≡ step
    → PollsNoted now (verdict_noted now (at phase was)) s answer → RunsOrEnds was.client s.client
judged now was s answer Opening (Verdict.Ended other) v h =
    let noted = rw v at h in
    ends was.client s.client (same was.client s.client (ap (λ (t : NotedState). t.client) noted.1 ∙ left-keeps other now (at Opening was)))
judged now was s answer Opening (Verdict.WaitUntil time) v h = expires now (at Opening was) s answer (rw v at h)
judged now was s answer Opening Verdict.Idle v h = expires now (at Opening was) s answer (rw v at h)
judged now was s answer Open step v h = expires now (at Open was) s answer h
judged now was s answer (Leaving leave) step v h = expires now (at (Leaving leave) was) s answer h
judged now was s answer (Over before) step v h = expires now (at (Over before) was) s answer h

caused : (now : ℕ) (was s : NotedState) (answer : TurnPollRet) (silent : Option Key) → silent_grant was ≡ silent
    → PollsNoted now (cause_noted now was) s answer → RunsOrEnds was.client s.client
caused now was s answer (Some key) g h = let noted = rw g at h in ended-same was s (GrantSilent key) noted.1
caused now was s answer None g h = judged now was s answer was.life.phase (verdict_step now was.verdict.blame) refl (rw g at h)

runs : (now : ℕ) (was s : NotedState) (answer : TurnPollRet) → PollsRunning now was s answer → RunsOrEnds was.client s.client
runs now was s answer (inl noted) =
    let t = opened (drained now was) in
    ends-after was.client t.client s.client (emptied was.client) (caused now t s answer (silent_grant t) refl noted)
runs now was s answer (inr short) = ends was.client s.client (drains-runs now was s short.1)

-- ---- a session that leaves

deletion : (now : ℕ) (s : NotedState) (p : Result Unit DeleteError × State) → delete_step now s.client ≡ p → RunsOn s.client (delete_tried now s).client
deletion now s (Ok done, client) e = rw e (subst (λ (p : Result Unit DeleteError × State). RunsOn s.client p.1) e (by-call (Delete now) s.client))
deletion now s (Err refusal, client) e = rw e (here s.client)

deleted-runs : (leave : Leave) (now : ℕ) (s : NotedState) → RunsOn s.client (deleted_once leave now s).client
deleted-runs leave now s = elim (cases_Bool leave.is_deleted) [
  | inl done ↦ rw done (here s.client)
  | inr not_yet ↦ rw not_yet (deletion now s (delete_step now s.client) refl)
]

end-answer : (why : Why) (until : ℕ) (said : TurnPollRet) (s : NotedState) → (ended_with_answer why until said s).1.client ≡ s.client
end-answer why until (Answered.WaitUntil time) s = refl
end-answer why until Answered.Closed s = refl
end-answer why until (Answered.AllocateTcpSocket id socket peer) s = refl
end-answer why until (Answered.TcpClose local remote) s = refl

to-end : (why : Why) (until now : ℕ) (was s : NotedState) (answer : TurnPollRet) → PollsToEnd why until now was s answer → RunsOrEnds was.client s.client
to-end why until now was s answer (inl polled) =
    let step = poll_step now was.client in
    let client : s.client ≡ step.1 = ap (λ (t : NotedState). t.client) polled.1 ∙ end-answer why until step.0 (record was { client = step.1 }) in
    ends was.client s.client (subst (RunsOn was.client) (sym client) (call-runs now was.client))
to-end why until now was s answer (inr short) = (was.client, here was.client, inr (ap (λ (t : NotedState). t.client) short.1))

forgotten : (why : Why) (until now : ℕ) (p : Bool × NotedState) (s : NotedState) (answer : TurnPollRet) → PollsForgotten why until now p s answer
    → RunsOrEnds p.1.client s.client
forgotten why until now (true, t) s answer h = ends t.client s.client (same t.client s.client (ap (λ (u : NotedState). u.client) h.1))
forgotten why until now (false, t) s answer h = to-end why until now t s answer h

polled-until : (why : Why) (until now : ℕ) (was s : NotedState) (answer : TurnPollRet) → PollsUntil why until now was s answer
    → RunsOrEnds was.client s.client
polled-until why until now was s answer h =
    ends-after was.client (event_forgotten was).1.client s.client (by-call PollEvent was.client)
    (forgotten why until now (event_forgotten was) s answer h)

tries : (leave : Leave) (now : ℕ) (was s : NotedState) (answer : TurnPollRet) → TriesDeletion leave now was s answer → RunsOrEnds was.client s.client
tries leave now was s answer (inl polled) =
    let d = deleted_once leave now was in
    ends-after was.client d.client s.client (deleted-runs leave now was) (polled-until leave.why leave.until now d s answer polled)
tries leave now was s answer (inr short) = ends was.client s.client (same was.client s.client (ap (λ (t : NotedState). t.client) short.1))

leaves : (leave : Leave) (now : ℕ) (was s : NotedState) (answer : TurnPollRet) (over : Bool) (lingers : Option ℕ) → nat_le leave.until now ≡ over
    → lingers_until leave now was ≡ lingers → PollsLeaving leave now was s answer → RunsOrEnds was.client s.client
leaves leave now was s answer true lingers o l h = let ended-now = rw o at h in ended-same was s leave.why ended-now.1
leaves leave now was s answer false (Some end) o l h = polled-until leave.why end now was s answer (rw (o, l) at h)
leaves leave now was s answer false None o l h = tries leave now was s answer (rw (o, l) at h)

-- ---- the call

polls-at : (now : ℕ) (was s : NotedState) (answer : TurnPollRet) (phase : Phase) → Polls now (at phase was) s answer → RunsOrEnds was.client s.client
polls-at now was s answer Opening h = runs now (at Opening was) s answer h
polls-at now was s answer Open h = runs now (at Open was) s answer h
polls-at now was s answer (Leaving leave) h =
    let t = at (Leaving leave) was in leaves leave now t s answer (nat_le leave.until now) (lingers_until leave now t) refl refl h
polls-at now was s answer (Over why) h =
    ends was.client s.client (same was.client s.client (ap (λ (t : NotedState). t.client) h.1))

pub polls-runs : (now : ℕ) (was s : NotedState) (answer : TurnPollRet) → Polls now was s answer → RunsOrEnds was.client s.client
polls-runs now was s answer h = polls-at now was s answer was.life.phase h
