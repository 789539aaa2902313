-- A client that is polled, and waits.
use Rattle.std.proofs.Common.{◌≡◌, ◌∙◌, ◌⊎◌, ℕ, ◌<◌, ◌≤◌, Bool, true, false, if◌then◌else◌, Option, Some, None, is_some, refl, sym, subst, inl, inr, arith}
use Rattle.std.proofs.lemmas.Bool.{lt-ltb}
use Rattle.std.proofs.lemmas.List.Elements.{All-weaker}
use Rattle.std.proofs.lemmas.Option.{IfSome_then}
use Rattle.turn_client_api.specs.Alarm.{IsIdleUntil, IsTimely, Lasts}
use Rattle.turn_client_api.specs.Poll.{poll_step}
use Rattle.turn_client_api.specs.State.{State}
use Rattle.turn_client_api.specs.declared.grant.Grant.{Grant}
use Rattle.turn_client_api.specs.declared.grant.Grant.TheVariants as Grants
use Rattle.turn_client_api.specs.declared.grant.Progress.TheVariants as Progress
use Rattle.turn_client_api.specs.declared.poll.TurnPollRet.{TurnPollRet}
use Rattle.turn_client_api.specs.declared.poll.TurnPollRet.TheVariants as Answered
use Rattle.turn_session_book.specs.declared.keys.Key.{Key}
use Rattle.turn_session_life.specs.Heard.{settled}
use Rattle.turn_session_life.specs.Life.{is_running}
use Rattle.turn_session_life.specs.declared.life.Phase.{Phase}
use Rattle.turn_session_life.specs.declared.life.Phase.TheVariants.{Opening, Open, Leaving, Over}
use Rattle.turn_session_life.specs.declared.verdict.Blame.{Blame}
use Rattle.turn_session_client.specs.Expiring.{expiry_noted, first_expired}
use Rattle.turn_session_client.specs.Leaving.{shortage_end}
use Rattle.turn_session_client.specs.NotedState.{NotedState}
use Rattle.turn_session_client.specs.Polling.{AfterPoll, ExpiredOrWent, IsShort, MadeOrPolled, Polls, PollsClient, PollsNoted, PollsRunning}
use Rattle.turn_session_client.specs.Polling.{next_made, next_time, prepared, sooner, verdict_noted, waiting}
use Rattle.turn_session_laws.specs.SleepLaws.{ClientWaits, GoesOn, IsPolledTimely}

-- ---- the time that it tells

same-time : (a b : ℕ) → Answered.WaitUntil a ≡ Answered.WaitUntil b → a ≡ b
same-time a b is = cc

-- it is not that of the call
not-now : (now time : ℕ) → Answered.WaitUntil time ≡ Answered.WaitUntil now → now < time → ⊥
not-now now time is later = let same = same-time time now is in omega (arith, same, later)

-- nothing has ended with its allocation, or the call is repeated at once
abbrev timed : Option Key → ℕ → ℕ → NotedState → ℕ
timed expired told now s = if is_some expired then now else sooner told s

none-expired : (expired : Option Key) (told now time : ℕ) (s : NotedState) → time ≡ timed expired told now s → now < time
    → (expired ≡ None) × (time ≡ sooner told s)
none-expired None told now time s is later = (refl, is)
none-expired (Some key) told now time s is later = absurd (omega (arith, is, later))

-- nor is it after that of the client
abbrev at : Phase → NotedState → NotedState
at phase s = record s { life = record s.life { phase = phase } }

abbrev blaming : Option Blame → NotedState → NotedState
blaming blame s = record s { verdict = record { blame = blame } }

sooner-least : (told : ℕ) (s : NotedState) (phase : Phase) (blame : Option Blame) → sooner told (blaming blame (at phase s)) ≤ told
sooner-least told s Opening None = omega arith
sooner-least told s Opening (Some blame) = omega arith
sooner-least told s Open blame = omega arith
sooner-least told s (Leaving leave) blame = omega arith
sooner-least told s (Over why) blame = omega arith

-- what a client that waits was found to be
abbrev polled : ℕ → NotedState → NotedState
polled now was = record was { client = (poll_step now was.client).1 }

record IsWaiting (now time : ℕ) (was s : NotedState) : Type 0 where
  told : ℕ
  answer : (poll_step now was.client).0 ≡ Answered.WaitUntil told
  expired : first_expired (polled now was) ≡ None
  time-is : time ≡ sooner told (polled now was)
  least : time ≤ told
  after : s ≡ record (polled now was) { heard = settled was.heard }

waits : (now time : ℕ) (was s : NotedState) → ClientWaits now time was s → now < time → IsWaiting now time was s
waits now time was s h later =
    let v = polled now was in
    let told = h.0 in
    let is = same-time time (next_time told now v) h.2.0 in
    let none = none-expired (first_expired v) told now time v is later in
    let first : sooner told v ≤ told = sooner-least told v v.life.phase v.verdict.blame in
    let least : time ≤ told = let same = none.1 in omega (arith, same, first) in
    let before : now < told = omega (arith, later, least) in
    let heard : waiting told now v ≡ record v { heard = settled v.heard } = rw (lt-ltb now told before) refl in
    record { told = told; answer = h.1; expired = none.0; time-is = none.1; least = least; after = h.2.1 ∙ heard }

-- ---- the verdict

verdict-sleeps : (told later : ℕ) (s : NotedState) (phase : Phase) (blame : Option Blame) → later < sooner told (blaming blame (at phase s))
    → verdict_noted later (blaming blame (at phase s)) ≡ (false, blaming blame (at phase s))
verdict-sleeps told later s Opening None before = refl
verdict-sleeps told later s Opening (Some blame) before =
    let early : later < blame.until = omega (arith, before) in rw (lt-ltb later blame.until early) refl
verdict-sleeps told later s Open blame before = refl
verdict-sleeps told later s (Leaving leave) blame before = refl
verdict-sleeps told later s (Over why) blame before = refl

pub settled-verdict : (now time later : ℕ) (was s : NotedState) → ClientWaits now time was s → now < time → later < time
    → (verdict_noted later s ≡ (false, s)) × (first_expired s ≡ None)
settled-verdict now time later was s h after-now before =
    let w = waits now time was s h after-now in
    let t : NotedState = record (polled now was) { heard = settled was.heard } in
    let early : later < sooner w.told t = subst (λ (n : ℕ). later < n) w.time-is before in
    let none : (verdict_noted later t ≡ (false, t)) × (first_expired t ≡ None)
    = (verdict-sleeps w.told later t t.life.phase t.verdict.blame early, w.expired) in
    subst (λ (u : NotedState). (verdict_noted later u ≡ (false, u)) × (first_expired u ≡ None)) (sym w.after) none

-- ---- the client

-- what lasts until a time lasts until a sooner one
active-lasts : (time told : ℕ) (expiry : ℕ) → time ≤ told → told ≤ expiry → time ≤ expiry
active-lasts time told expiry sooner lasts = omega (arith, sooner, lasts)

lasts-sooner : (time told : ℕ) (g : Grant) → time ≤ told → Lasts told g → Lasts time g
lasts-sooner time told (Grants.Allocation a) sooner lasts = λ used. active-lasts time told a.expiry sooner (lasts used)
lasts-sooner time told (Grants.Permission ip (Progress.Active lease)) sooner lasts = active-lasts time told lease.expiry sooner lasts
lasts-sooner time told (Grants.Channel number peer (Progress.Active lease)) sooner lasts = active-lasts time told lease.expiry sooner lasts
lasts-sooner time told (Grants.Connection c) sooner lasts =
    IfSome_then c.deadline lasts (λ deadline until. active-lasts time told deadline sooner until)
lasts-sooner time told (Grants.Permission ip (Progress.Pending is_kept)) sooner lasts = tt
lasts-sooner time told (Grants.Permission ip (Progress.Reserved until)) sooner lasts = tt
lasts-sooner time told (Grants.Channel number peer (Progress.Pending is_kept)) sooner lasts = tt
lasts-sooner time told (Grants.Channel number peer (Progress.Reserved until)) sooner lasts = tt
lasts-sooner time told (Grants.Connect peer) sooner lasts = tt
lasts-sooner time told (Grants.Offer offer) sooner lasts = tt

pub idle-sooner : (now time told : ℕ) (s : State) → time ≤ told → IsIdleUntil now told s → IsIdleUntil now time s
idle-sooner now time told s sooner idle = record {
  sends_nothing = λ t from before. idle.sends_nothing t from (omega (arith, sooner, before));
  ends_nothing = λ t from before. idle.ends_nothing t from (omega (arith, sooner, before));
  no_event = idle.no_event;
  no_offer = idle.no_offer;
  no_close = idle.no_close;
  grants_last = All-weaker (Lasts told) (Lasts time) (λ g lasts. lasts-sooner time told g sooner lasts) s.grants idle.grants_last;
}

pub client-sleeps : (now time : ℕ) (was s : NotedState) → IsPolledTimely now was.client → ClientWaits now time was s → now < time
    → IsIdleUntil now time s.client
client-sleeps now time was s timely h later =
    let w = waits now time was s h later in
    let step = poll_step now was.client in
    let told = subst (λ (r : TurnPollRet). IsTimely r now was.client step.1) w.answer timely in
    let before : now < w.told = let least = w.least in omega (arith, later, least) in
    let idle = idle-sooner now time w.told step.1 w.least (told.0 before) in
    subst (λ (t : NotedState). IsIdleUntil now time t.client) (sym w.after) idle

-- ---- a client that tells a later time

abbrev Told : ℕ → ℕ → NotedState → NotedState → Type 0
Told now time was s = ((t : NotedState) × GoesOn now was t × ClientWaits now time t s) ⊎ (time ≡ shortage_end now)

short : (now time : ℕ) → IsShort now (Answered.WaitUntil time) → time ≡ shortage_end now
short now time is = same-time time (shortage_end now) is

answered : (now time : ℕ) (was s : NotedState) (r : TurnPollRet) → (poll_step now was.client).0 ≡ r
    → AfterPoll now r (polled now was) s (Answered.WaitUntil time) → ClientWaits now time was s ⊎ (time ≡ shortage_end now)
answered now time was s (Answered.WaitUntil told) is h = inl (told, is, h)
answered now time was s Answered.Closed is (inl ends) = let no = ends.0 in cc
answered now time was s Answered.Closed is (inr again) = inr (short now time again.0)
answered now time was s (Answered.AllocateTcpSocket id socket peer) is h = let no = h.0 in cc
answered now time was s (Answered.TcpClose local remote) is h = let no = h.0 in cc

client-polled : (now time : ℕ) (was s : NotedState) → PollsClient now was s (Answered.WaitUntil time)
    → ClientWaits now time was s ⊎ (time ≡ shortage_end now)
client-polled now time was s (inl after) = answered now time was s (poll_step now was.client).0 refl after
client-polled now time was s (inr ends) = let no = ends.0 in cc

makes : (now time : ℕ) (was t u s : NotedState) (x : Bool × NotedState) → prepared now was ≡ (false, t) → expiry_noted now t ≡ (false, u)
    → next_made now u ≡ x → MadeOrPolled now u x s (Answered.WaitUntil time) → now < time → Told now time was s
makes now time was t u s (true, v) p e n (inl one) later = absurd (not-now now time one.0 later)
makes now time was t u s (true, v) p e n (inr again) later = inr (short now time again.0)
makes now time was t u s (false, v) p e n h later = elim (client-polled now time v s h) [
  | inl waits ↦ inl (v, (t, u, p, e, n), waits)
  | inr again ↦ inr again
]

expires : (now time : ℕ) (was t s : NotedState) (x : Bool × NotedState) → prepared now was ≡ (false, t) → expiry_noted now t ≡ x
    → ExpiredOrWent now t x s (Answered.WaitUntil time) → now < time → Told now time was s
expires now time was t s (true, u) p e (inl one) later = absurd (not-now now time one.0 later)
expires now time was t s (true, u) p e (inr again) later = inr (short now time again.0)
expires now time was t s (false, u) p e h later = makes now time was t u s (next_made now u) p e refl h later

notes : (now time : ℕ) (was s : NotedState) (x : Bool × NotedState) → prepared now was ≡ x → PollsNoted now x s (Answered.WaitUntil time) → now < time
    → Told now time was s
notes now time was s (true, t) p h later = absurd (not-now now time h.0 later)
notes now time was s (false, t) p h later = expires now time was t s (expiry_noted now t) p refl h later

runs : (now time : ℕ) (was s : NotedState) → PollsRunning now was s (Answered.WaitUntil time) → now < time → Told now time was s
runs now time was s (inl noted) later = notes now time was s (prepared now was) refl noted later
runs now time was s (inr again) later = inr (short now time again.0)

pub client-told : (now time : ℕ) (was s : NotedState) (phase : Phase) → is_running phase ≡ true → Polls now (at phase was) s (Answered.WaitUntil time)
    → now < time → Told now time (at phase was) s
client-told now time was s Opening running h later = runs now time (at Opening was) s h later
client-told now time was s Open running h later = runs now time (at Open was) s h later
client-told now time was s (Leaving leave) running h later = cc
client-told now time was s (Over why) running h later = cc
