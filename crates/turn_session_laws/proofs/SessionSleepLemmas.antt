-- A session that is polled tells the soonest of the times of its parts.
use Rattle.std.proofs.Common.{◌≡◌, ◌∙◌, ℕ, ◌<◌, ◌≤◌, min, Bool, true, false, if◌then◌else◌, List, Option, Some, None, is_some, refl, sym, ap, subst, inl, inr, arith}
use Rattle.turn_stun.specs.declared.transport.Transmit.{Transmit}
use Rattle.turn_client_api.specs.Alarm.{IsIdleUntil}
use Rattle.turn_client_api.specs.State.{State}
use Rattle.turn_client_api.specs.Transmit.{transmit_step}
use Rattle.turn_client_api.specs.declared.poll.TurnPollRet.{TurnPollRet}
use Rattle.turn_client_api.specs.declared.poll.TurnPollRet.TheVariants as Answered
use Rattle.turn_session_idle.specs.IdlePeers.{idle_step}
use Rattle.turn_session_idle.specs.IdleState.{IdleState}
use Rattle.turn_session_idle.specs.declared.peers.IdleStep.{IdleStep}
use Rattle.turn_session_idle.specs.declared.peers.IdleStep.TheVariants as Idling
use Rattle.turn_session_path.specs.PathDue.{sooner}
use Rattle.turn_session_life.specs.Watch.{watch_step}
use Rattle.turn_session_life.specs.declared.watch.OwnRequest.{OwnRequest}
use Rattle.turn_session_life.specs.declared.watch.Watch.{Watch}
use Rattle.turn_session_life.specs.declared.watch.WatchStep.{WatchStep}
use Rattle.turn_session_life.specs.declared.watch.WatchStep.TheVariants as Watching
use Rattle.turn_session_client.specs.Doubting as Doubting
use Rattle.turn_session_client.specs.Ending.{is_open, is_over}
use Rattle.turn_session_client.specs.Leaving.{shortage_end}
use Rattle.turn_session_client.specs.NotedState.{NotedState}
use Rattle.turn_session_client.specs.Polling as Client
use Rattle.turn_session_client.specs.declared.noted.doubting.DoubtsPoll.{DoubtsPoll}
use Rattle.turn_session_client.specs.declared.noted.doubting.DoubtsPoll.TheVariants as Doubted
use Rattle.turn_session.specs.Checking.{told_path}
use Rattle.turn_session.specs.Polling.{DoubtsLead, IdleLeads, PathLeads, Polls, PollsBoth, PollsDoubts, PollsIdle, PollsUnopened, begun, capped, own_time, watched}
use Rattle.turn_session.specs.Sending.{or_own, own_step}
use Rattle.turn_session.specs.Sending as Session
use Rattle.turn_session.specs.SessionState.{SessionState, with_idle, with_watch}
use Rattle.turn_session_laws.proofs.PathSleepLemmas.{unsent}
use Rattle.turn_session_laws.specs.SleepLaws.{IdleTells, IsNotAfter, TellsSoonest, doubts_time, path_waits}

same-time : (a b : ℕ) → Answered.WaitUntil a ≡ Answered.WaitUntil b → a ≡ b
same-time a b is = cc

not-now : (now time : ℕ) → Answered.WaitUntil time ≡ Answered.WaitUntil now → now < time → ⊥
not-now now time is later = let same = same-time time now is in omega (arith, same, later)

-- ---- the client, and a time of its own

abbrev IsCapped : ℕ → Option ℕ → TurnPollRet → Type 0
IsCapped time own said = (told : ℕ) × (said ≡ Answered.WaitUntil told) × IsNotAfter time own × (time ≤ told)

capped-told : (time : ℕ) (own : Option ℕ) (said : TurnPollRet) → Answered.WaitUntil time ≡ capped own said → IsCapped time own said
capped-told time None (Answered.WaitUntil told) is = let same = same-time time told is in (told, refl, tt, omega (arith, same))
capped-told time (Some own) (Answered.WaitUntil told) is =
    let same = same-time time (min own told) is in (told, refl, omega (arith, same), omega (arith, same))
capped-told time None Answered.Closed is = cc
capped-told time (Some own) Answered.Closed is = cc
capped-told time None (Answered.AllocateTcpSocket id socket peer) is = cc
capped-told time (Some own) (Answered.AllocateTcpSocket id socket peer) is = cc
capped-told time None (Answered.TcpClose local remote) is = cc
capped-told time (Some own) (Answered.TcpClose local remote) is = cc

abbrev BothTold : ℕ → ℕ → Option ℕ → SessionState → SessionState → Type 0
BothTold now time own was s =
    (told : ℕ) × Client.Polls now was.noted s.noted (Answered.WaitUntil told) × IsNotAfter time own × (time ≤ told) × (s.watch ≡ was.watch)
    × (s.received ≡ was.received) × (s.idle ≡ was.idle)

both-told : (now time : ℕ) (own : Option ℕ) (was s : SessionState) → PollsBoth own now was s (Answered.WaitUntil time) → BothTold now time own was s
both-told now time own was s h =
    let told = capped-told time own h.0 h.2 in
    let client = subst (Client.Polls now was.noted s.noted) told.1 h.1.0 in (
      told.0,
      client,
      told.2,
      told.3,
      ap (λ (t : SessionState). t.watch) h.1.1,
      ap (λ (t : SessionState). t.received) h.1.1,
      ap (λ (t : SessionState). t.idle) h.1.1,
    )

-- ---- the soonest of two times

pub not-after : (time : ℕ) (a b : Option ℕ) → IsNotAfter time (sooner a b) → IsNotAfter time a × IsNotAfter time b
not-after time None b h = (tt, h)
not-after time (Some a) None h = (h, tt)
not-after time (Some a) (Some b) h = (omega (arith, h), omega (arith, h))

alone : (time : ℕ) (a : Option ℕ) → IsNotAfter time a → IsNotAfter time (sooner a None)
alone time None h = tt
alone time (Some a) h = h

-- ---- the path learns what was received

told-by : (received : Option ℕ) (s : SessionState) → (told_path (record s { received = received })).received ≡ None
told-by None s = refl
told-by (Some at) s = refl

begun-tells : (now : ℕ) (s : SessionState) → (begun now s).received ≡ None
begun-tells now s = let t = watched now s in told-by t.received t

-- and nothing of idle peers is done
told-idle : (received : Option ℕ) (s : SessionState) → (told_path (record s { received = received })).idle ≡ s.idle
told-idle None s = refl
told-idle (Some at) s = refl

watched-idle : (now : ℕ) (watching : Bool) (s : SessionState) → (watched now (record s { is_watching = watching })).idle ≡ s.idle
watched-idle now true s = refl
watched-idle now false s = refl

begun-idle : (now : ℕ) (s : SessionState) → (begun now s).idle ≡ s.idle
begun-idle now s = let t = watched now s in told-idle t.received t ∙ watched-idle now s.is_watching s

-- ---- the idle peers, and then the client

record IdleTold (now time : ℕ) (own : Option ℕ) (was s : SessionState) : Type 0 where
  idle : Option ℕ
  tells : IdleTells now was.noted.notes.book.held was.idle s.idle idle
  of_idle : IsNotAfter time idle
  of_own : IsNotAfter time own
  told : ℕ
  client_waits : Client.Polls now was.noted s.noted (Answered.WaitUntil told)
  of_client : time ≤ told
  watch : s.watch ≡ was.watch
  received : s.received ≡ was.received

idle-lead : (now time : ℕ) (own : Option ℕ) (was s : SessionState) (x : IdleStep × IdleState) → idle_step was.noted.notes.book.held now was.idle ≡ x
    → IdleLeads own now x was s (Answered.WaitUntil time) → now < time → IdleTold now time own was s
idle-lead now time own was s (Idling.Keep key, after) is h later = absurd (not-now now time h.0 later)
idle-lead now time own was s (Idling.Release key, after) is h later = absurd (not-now now time h.0 later)
idle-lead now time own was s (Idling.WaitUntil due, after) is h later =
    let told = both-told now time (sooner own (Some due)) (with_idle after was) s h in
    let times = not-after time own (Some due) told.2 in
    record {
      idle = Some due;
      tells = inl (is ∙ ap (λ (i : IdleState). (Idling.WaitUntil due, i)) (sym told.6));
      of_idle = times.1;
      of_own = times.0;
      told = told.0;
      client_waits = told.1;
      of_client = told.3;
      watch = told.4;
      received = told.5;
    }
idle-lead now time own was s (Idling.Off, after) is h later =
    let told = both-told now time own (with_idle after was) s h in
    record {
      idle = None;
      tells = inl (is ∙ ap (λ (i : IdleState). (Idling.Off, i)) (sym told.6));
      of_idle = tt;
      of_own = told.2;
      told = told.0;
      client_waits = told.1;
      of_client = told.3;
      watch = told.4;
      received = told.5;
    }

idle-told : (now time : ℕ) (own : Option ℕ) (was s : SessionState) → PollsIdle own now was s (Answered.WaitUntil time) → now < time
    → IdleTold now time own was s
idle-told now time own was s (inl h) later = idle-lead now time own was s (idle_step was.noted.notes.book.held now was.idle) refl h later
idle-told now time own was s (inr h) later =
    let told = both-told now time (sooner own (Some (shortage_end now))) was s h.1 in
    let times = not-after time own (Some (shortage_end now)) told.2 in
    record {
      idle = Some (shortage_end now);
      tells = inr (h.0, told.6, refl);
      of_idle = times.1;
      of_own = times.0;
      told = told.0;
      client_waits = told.1;
      of_client = told.3;
      watch = told.4;
      received = told.5;
    }

idle-alone : (now time : ℕ) (own : Option ℕ) (was s : SessionState) → IdleTold now time own was s → IdleTold now time (sooner own None) was s
idle-alone now time own was s h = record {
  idle = h.idle;
  tells = h.tells;
  of_idle = h.of_idle;
  of_own = alone time own h.of_own;
  told = h.told;
  client_waits = h.client_waits;
  of_client = h.of_client;
  watch = h.watch;
  received = h.received;
}

-- ---- the doubts, and then the rest

doubts-lead : (now time : ℕ) (path : Option ℕ) (said : DoubtsPoll) (was s : SessionState) → DoubtsLead path now said was s (Answered.WaitUntil time)
    → now < time → IdleTold now time (sooner path (doubts_time now said)) was s
doubts-lead now time path Doubted.Now was s h later = absurd (not-now now time h.0 later)
doubts-lead now time path (Doubted.WaitUntil due) was s h later = idle-told now time (sooner path (Some due)) was s h later
doubts-lead now time path Doubted.Idle was s h later = idle-alone now time path was s (idle-told now time path was s h later)
doubts-lead now time path Doubted.NoMemory was s h later = idle-told now time (sooner path (doubts_time now Doubted.NoMemory)) was s h later

doubts-told : (now time : ℕ) (path : Option ℕ) (was first s : SessionState) (w : Watch) → watch_step now first.watch ≡ (path_waits path, w)
    → first ≡ begun now was → PollsDoubts path now (with_watch w first) s (Answered.WaitUntil time) → now < time → TellsSoonest now time was s
doubts-told now time path was first s w waits is h later =
    let t = h.0 in
    let said = h.1 in
    let told = doubts-lead now time path said t s h.4 later in
    let times = not-after time path (doubts_time now said) told.of_own in
    let watch : s.watch ≡ w = told.watch ∙ ap (λ (u : SessionState). u.watch) h.3 in
    let same : watch_step now first.watch ≡ (path_waits path, s.watch)
    = waits ∙ ap (λ (v : Watch). (path_waits path, v)) (sym watch) in
    record {
      path = path;
      path_waits = subst (λ (u : SessionState). watch_step now u.watch ≡ (path_waits path, s.watch)) is same;
      of_path = times.0;
      noted = t.noted;
      said = said;
      doubts_wait = subst (λ (u : SessionState). Doubting.PollsDoubts now u.noted t.noted said) is h.2;
      of_doubts = times.1;
      idle = told.idle;
      idle_tells = subst (λ (i : IdleState). IdleTells now t.noted.notes.book.held i s.idle told.idle)
          (ap (λ (u : SessionState). u.idle) h.3 ∙ ap (λ (u : SessionState). u.idle) is ∙ begun-idle now was) told.tells;
      of_idle = told.of_idle;
      received = told.received ∙ ap (λ (u : SessionState). u.received) h.3 ∙ ap (λ (u : SessionState). u.received) is ∙ begun-tells now was;
      told = told.told;
      client_waits = told.client_waits;
      of_client = told.of_client;
    }

-- ---- the path first

path-told : (now time : ℕ) (was first s : SessionState) (x : WatchStep × Watch) → watch_step now first.watch ≡ x → first ≡ begun now was
    → PathLeads now x first s (Answered.WaitUntil time) → now < time → TellsSoonest now time was s
path-told now time was first s (Watching.Now, w) waits is h later =
    let told = both-told now time (Some now) (with_watch w first) s h in absurd (let at = told.2 in omega (arith, at, later))
path-told now time was first s (Watching.WaitUntil due, w) waits is h later = doubts-told now time (Some due) was first s w waits is h later
path-told now time was first s (Watching.Idle, w) waits is h later = doubts-told now time None was first s w waits is h later
path-told now time was first s (Watching.Doubt, w) waits is h later = absurd (not-now now time h.0 later)
path-told now time was first s (Watching.Moved, w) waits is h later = absurd (not-now now time h.0 later)
path-told now time was first s (Watching.End why, w) waits is h later = absurd (not-now now time h.0 later)

pub opened-told : (now time : ℕ) (was s : SessionState) → is_open was.noted.life.phase ≡ true → Polls now was s (Answered.WaitUntil time) → now < time
    → TellsSoonest now time was s
opened-told now time was s is h later =
    let leads = rw is at h in path-told now time was (begun now was) s (watch_step now (begun now was).watch) refl refl leads later

-- ---- a session that is not open

uncapped : (said : TurnPollRet) → said ≡ capped None said
uncapped (Answered.WaitUntil time) = refl
uncapped Answered.Closed = refl
uncapped (Answered.AllocateTcpSocket id socket peer) = refl
uncapped (Answered.TcpClose local remote) = refl

unopened-by : (now time : ℕ) (opens : Bool) (was s : SessionState) → PollsBoth (own_time opens now) now was s (Answered.WaitUntil time) → now < time
    → Client.Polls now was.noted s.noted (Answered.WaitUntil time)
unopened-by now time true was s h later =
    let told = both-told now time (Some now) was s h in absurd (let at = told.2 in omega (arith, at, later))
unopened-by now time false was s h later =
    subst (Client.Polls now was.noted s.noted) (uncapped h.0 ∙ sym h.2) h.1.0

pub unopened-told : (now time : ℕ) (was s : SessionState) → is_open was.noted.life.phase ≡ false → Polls now was s (Answered.WaitUntil time) → now < time
    → Client.Polls now was.noted s.noted (Answered.WaitUntil time)
unopened-told now time was s unopened h later =
    let leads : PollsUnopened now was s (Answered.WaitUntil time) = rw unopened at h in
    unopened-by now time (is_open s.noted.life.phase) was s leads later

-- ---- nothing is to be sent

abbrev sends_by : ℕ → Bool → NotedState → Option (Transmit (List ℕ)) × NotedState
sends_by later over s =
    if over then (None, s) else (let step = transmit_step later s.client in (step.0, record s { client = step.1 }))

client-silent : (later : ℕ) (over : Bool) (s : NotedState) → transmit_step later s.client ≡ (None, s.client) → sends_by later over s ≡ (None, s)
client-silent later true s silent = refl
client-silent later false s silent =
    ap (λ (step : Option (Transmit (List ℕ)) × State). (step.0, record s { client = step.1 })) silent

own-silent : (s : SessionState) (opened : Bool) → is_open s.noted.life.phase ≡ opened → (opened ≡ true → is_some s.watch.outbox ≡ false)
    → own_step s ≡ (None, s)
own-silent s false is empty = rw is refl
own-silent s true is empty = by s.watch.outbox refl
  where
    by : (outbox : Option OwnRequest) → s.watch.outbox ≡ outbox → own_step s ≡ (None, s)
    by None o = rw (is, o) refl
    by (Some r) o = absurd (let full : true ≡ false = ap is_some (sym o) ∙ empty refl in cc)

pub packets-sleep : (now time later : ℕ) (path : Option ℕ) (s : SessionState) → IsIdleUntil now time s.noted.client
    → (is_open s.noted.life.phase ≡ true → watch_step later s.watch ≡ (path_waits path, s.watch)) → now ≤ later → later < time
    → Session.transmit_step later s ≡ (None, s)
packets-sleep now time later path s idle waits from before =
    let silent = client-silent later (is_over s.noted.life.phase) s.noted (idle.sends_nothing later from before) in
    let empty : is_open s.noted.life.phase ≡ true → is_some s.watch.outbox ≡ false
    = λ opened. unsent later path s.watch s.watch (waits opened) in
    ap (or_own later s) silent ∙ own-silent s (is_open s.noted.life.phase) refl empty
