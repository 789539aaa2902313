-- Data does not wake a path.
use Rattle.std.proofs.Common.{◌≡◌, ◌∙◌, ℕ, ◌<◌, ◌≤◌, true, false, List, Option, Some, None, is_some, option_map, refl, sym, ap, subst, arith}
use Rattle.std.specs.declared.net.socket_addr.SocketAddr.{SocketAddr}
use Rattle.turn_stun.specs.declared.transport.TransportType.{TransportType}
use Rattle.turn_stun.specs.declared.transport.TransportType.TheVariants.{Udp, Tcp}
use Rattle.turn_client_api.specs.Payloads.{Outcome}
use Rattle.turn_client_api.specs.Payloads as Outcomes
use Rattle.turn_client_api.specs.declared.poll.TurnPollRet.TheVariants as Answered
use Rattle.turn_session_book.specs.declared.held.HeldGrant.{HeldGrant}
use Rattle.turn_session_idle.specs.IdlePeers.{idle_step}
use Rattle.turn_session_idle.specs.declared.peers.IdleStep.TheVariants.{Off}
use Rattle.turn_session_path.specs.FullStream.{since_received}
use Rattle.turn_session_path.specs.PathDue.{IsLater, check_due, errors_due, full_due, path_due, probe_due, sooner}
use Rattle.turn_session_path.specs.PathResponses.{after_received}
use Rattle.turn_session_path.specs.Prober.{after_other}
use Rattle.turn_session_path.specs.declared.asked.Asked.{Asked}
use Rattle.turn_session_path.specs.declared.path.Path.{Path}
use Rattle.turn_session_path.specs.declared.prober.Prober.{Prober}
use Rattle.turn_session_life.specs.Watch.{next_wait, watch_step}
use Rattle.turn_session_life.specs.declared.watch.OwnRequest.{OwnRequest}
use Rattle.turn_session_life.specs.declared.watch.Watch.{Watch}
use Rattle.turn_session_client.specs.Ending.{is_open}
use Rattle.turn_session_client.specs.NotedState.{NotedState}
use Rattle.turn_session.specs.Checking.{data_sent, response_delayed, told_path}
use Rattle.turn_session.specs.Polling.{Polls, begun}
use Rattle.turn_session.specs.Receiving.{with_sign}
use Rattle.turn_session.specs.SessionState.{SessionState, with_noted}
use Rattle.turn_session.specs.Uses.{used_peer}
use Rattle.turn_session_laws.specs.CalmLaws.{BeginsNoProbe, IsInOrder, NextIsNotBefore, PathSleeps}
use Rattle.turn_session_laws.specs.SleepLaws.{IsNotAfter}
use Rattle.turn_session_laws.proofs.PathSleepLemmas.{due-waits, watch-again, watch-sleeps}
use Rattle.turn_session_laws.proofs.SessionSleepLemmas.{not-after, opened-told}

-- ---- the soonest of two times

soonest : (time : ℕ) (a b : Option ℕ) → IsNotAfter time a → IsNotAfter time b → IsNotAfter time (sooner a b)
soonest time None b ha hb = hb
soonest time (Some a) None ha hb = ha
soonest time (Some a) (Some b) ha hb = omega (arith, ha, hb)

-- ---- a path that has received something

full-received : (time at : ℕ) (since : Option ℕ) → IsInOrder at since → IsNotAfter time (full_due since) → IsNotAfter time (full_due (since_received at since))
full-received time at None order h = tt
full-received time at (Some since) order h = omega (arith, order, h)

-- a round that is under way is over
asked-received : (time at : ℕ) (q : Prober) (asked : Option Asked) → NextIsNotBefore time (Some (record q { asked = asked }))
    → IsNotAfter time (probe_due (Some (record q { asked = asked }))) → IsNotAfter time (probe_due (Some (after_other at (record q { asked = asked }))))
asked-received time at q None next h = h
asked-received time at q (Some asked) next h = omega (arith, next)

probe-received : (time at : ℕ) (prober : Option Prober) → NextIsNotBefore time prober → IsNotAfter time (probe_due prober)
    → IsNotAfter time (probe_due (option_map (after_other at) prober))
probe-received time at None next h = tt
probe-received time at (Some q) next h = asked-received time at q q.asked next h

path-received : (time at : ℕ) (p : Path) → NextIsNotBefore time p.prober → IsInOrder at p.full.since → IsNotAfter time (path_due p)
    → IsNotAfter time (path_due (after_received at p))
path-received time at p next order h =
    let parts = not-after time (sooner (errors_due p) (full_due p.full.since)) (sooner (check_due p.check) (probe_due p.prober)) h in
    let first = not-after time (errors_due p) (full_due p.full.since) parts.0 in
    let last = not-after time (check_due p.check) (probe_due p.prober) parts.1 in
    soonest time (full_due (since_received at p.full.since)) (sooner (check_due p.check) (probe_due (option_map (after_other at) p.prober)))
    (full-received time at p.full.since order first.1)
    (soonest time (check_due p.check) (probe_due (option_map (after_other at) p.prober)) last.0 (probe-received time at p.prober next last.1))

-- ---- it is told of something that was received later

full-later : (time before at : ℕ) (since : Option ℕ) → before ≤ at → IsNotAfter time (full_due (since_received before since))
    → IsNotAfter time (full_due (since_received at since))
full-later time before at None order h = tt
full-later time before at (Some since) order h = omega (arith, order, h)

asked-later : (time before at : ℕ) (q : Prober) (asked : Option Asked) → before ≤ at
    → IsNotAfter time (probe_due (Some (after_other before (record q { asked = asked }))))
    → IsNotAfter time (probe_due (Some (after_other at (record q { asked = asked }))))
asked-later time before at q None order h = h
asked-later time before at q (Some asked) order h = omega (arith, order, h)

probe-later : (time before at : ℕ) (prober : Option Prober) → before ≤ at → IsNotAfter time (probe_due (option_map (after_other before) prober))
    → IsNotAfter time (probe_due (option_map (after_other at) prober))
probe-later time before at None order h = tt
probe-later time before at (Some q) order h = asked-later time before at q q.asked order h

path-later : (time before at : ℕ) (p : Path) → before ≤ at → IsNotAfter time (path_due (after_received before p))
    → IsNotAfter time (path_due (after_received at p))
path-later time before at p order h =
    let full = full_due (since_received before p.full.since) in
    let probe = probe_due (option_map (after_other before) p.prober) in
    let parts = not-after time full (sooner (check_due p.check) probe) h in
    let last = not-after time (check_due p.check) probe parts.1 in
    soonest time (full_due (since_received at p.full.since)) (sooner (check_due p.check) (probe_due (option_map (after_other at) p.prober)))
    (full-later time before at p.full.since order parts.0)
    (soonest time (check_due p.check) (probe_due (option_map (after_other at) p.prober)) last.0 (probe-later time before at p.prober order last.1))

-- ---- a session

abbrev receiving : Option ℕ → SessionState → SessionState
receiving received s = record s { received = received }

sign-sleeps : (time at : ℕ) (received : Option ℕ) (s : SessionState) → PathSleeps time (receiving received s) → BeginsNoProbe time at (receiving received s)
    → PathSleeps time (receiving (Some at) s)
sign-sleeps time at None s h begins =
    record { due = path-received time at s.watch.path begins.0 begins.1 h.due; is_still = h.is_still; is_sent = h.is_sent }
sign-sleeps time at (Some before) s h begins =
    record { due = path-later time before at s.watch.path begins h.due; is_still = h.is_still; is_sent = h.is_sent }

-- what is noted is none of the path's
noted-sleeps : (time : ℕ) (noted : NotedState) (received : Option ℕ) (s : SessionState) → PathSleeps time (receiving received s)
    → PathSleeps time (with_noted noted (receiving received s))
noted-sleeps time noted None s h = record { due = h.due; is_still = h.is_still; is_sent = h.is_sent }
noted-sleeps time noted (Some at) s h = record { due = h.due; is_still = h.is_still; is_sent = h.is_sent }

noted-begins : (time at : ℕ) (noted : NotedState) (received : Option ℕ) (s : SessionState) → BeginsNoProbe time at (receiving received s)
    → BeginsNoProbe time at (with_noted noted (receiving received s))
noted-begins time at noted None s h = h
noted-begins time at noted (Some before) s h = h

pub received-sleeps : (time at : ℕ) (outcome : Outcome) (noted : NotedState) (was : SessionState) → PathSleeps time was → BeginsNoProbe time at was
    → PathSleeps time (with_sign outcome at (with_noted noted was))
received-sleeps time at Outcomes.Ignored noted was h begins = noted-sleeps time noted was.received was h
received-sleeps time at Outcomes.Handled noted was h begins =
    sign-sleeps time at was.received (with_noted noted was) (noted-sleeps time noted was.received was h) (noted-begins time at noted was.received was begins)
received-sleeps time at (Outcomes.PeerData payload) noted was h begins =
    sign-sleeps time at was.received (with_noted noted was) (noted-sleeps time noted was.received was h) (noted-begins time at noted was.received was begins)
received-sleeps time at (Outcomes.PeerIcmp transport peer icmp) noted was h begins =
    sign-sleeps time at was.received (with_noted noted was) (noted-sleeps time noted was.received was h) (noted-begins time at noted was.received was begins)

-- ---- which peers are used

used-by : (time at : ℕ) (peer : SocketAddr) (received : Option ℕ) (s : SessionState) → PathSleeps time (receiving received s)
    → PathSleeps time (used_peer peer at (receiving received s))
used-by time at peer None s h = record { due = h.due; is_still = h.is_still; is_sent = h.is_sent }
used-by time at peer (Some before) s h = record { due = h.due; is_still = h.is_still; is_sent = h.is_sent }

-- the use of a peer is none of the path's
pub used-sleeps : (time at : ℕ) (peer : SocketAddr) (s : SessionState) → PathSleeps time s → PathSleeps time (used_peer peer at s)
used-sleeps time at peer s h = used-by time at peer s.received s h

pub unused : (peer : SocketAddr) (at : ℕ) (s : SessionState) → s.idle.idle ≡ None → used_peer peer at s ≡ s
unused peer at s off = rw off refl

pub idle-off : (now : ℕ) (granted : List HeldGrant) (s : SessionState) → s.idle.idle ≡ None → idle_step granted now s.idle ≡ (Off, s.idle)
idle-off now granted s off = rw off refl

-- ---- what is sent

abbrev sending_over : TransportType → SessionState → SessionState
sending_over transport s = record s { watch = record s.watch { path = record s.watch.path { transport = transport } } }

sent-by : (time at : ℕ) (transport : TransportType) (received : Option ℕ) (s : SessionState)
    → PathSleeps time (sending_over transport (receiving received s)) → PathSleeps time (response_delayed at (sending_over transport (receiving received s)))
sent-by time at Udp received s h = h
sent-by time at Tcp None s h = record { due = h.due; is_still = h.is_still; is_sent = h.is_sent }
sent-by time at Tcp (Some before) s h = record { due = h.due; is_still = h.is_still; is_sent = h.is_sent }

pub sent-sleeps : (time at : ℕ) (to : SocketAddr) (noted : NotedState) (was : SessionState) → PathSleeps time was
    → PathSleeps time (data_sent to at (with_noted noted was))
sent-sleeps time at to noted was h =
    used-sleeps time at to (response_delayed at (with_noted noted was))
    (sent-by time at was.watch.path.transport was.received (with_noted noted was) (noted-sleeps time noted was.received was h))

-- ---- the time

later-than : (time later : ℕ) (due : Option ℕ) → later < time → IsNotAfter time due → IsLater later due
later-than time later None before h = tt
later-than time later (Some due) before h = omega (arith, before, h)

unsent : (outbox : Option OwnRequest) → outbox ≡ None → is_some outbox ≡ false
unsent outbox is = ap is_some is

-- the path alone is told
told-watch : (received : Option ℕ) (s : SessionState) → let w = (told_path (receiving received s)).watch in
    (w.is_moved ≡ s.watch.is_moved) × (w.outbox ≡ s.watch.outbox)
told-watch None s = (refl, refl)
told-watch (Some at) s = (refl, refl)

pub path-still-sleeps : (time later : ℕ) (s : SessionState) → PathSleeps time s → later < time
    → let w = (told_path s).watch in watch_step later w ≡ (next_wait w, w)
path-still-sleeps time later s h before =
    let w = (told_path s).watch in
    let same = told-watch s.received s in
    watch-again later w (same.0 ∙ h.is_still) (unsent w.outbox (same.1 ∙ h.is_sent)) (later-than time later (path_due w.path) before h.due)

-- ---- a poll

none-sent : (outbox : Option OwnRequest) → is_some outbox ≡ false → outbox ≡ None
none-sent None is = refl
none-sent (Some r) is = cc

told-nothing : (received : Option ℕ) (s : SessionState) → received ≡ None → (told_path (receiving received s)).watch ≡ s.watch
told-nothing None s is = refl
told-nothing (Some at) s is = cc

pub polled-sleeps : (now time : ℕ) (was s : SessionState) → is_open was.noted.life.phase ≡ true → Polls now was s (Answered.WaitUntil time) → now < time
    → PathSleeps time s
polled-sleeps now time was s is h later =
    let told = opened-told now time was s is h later in
    let again = watch-sleeps now now told.path (begun now was).watch s.watch told.path_waits (later-than time now told.path later told.of_path) in
    let waits = due-waits now told.path s.watch again in
    let same = told-nothing s.received s told.received in
    record {
      due = subst (λ (w : Watch). IsNotAfter time (path_due w.path)) (sym same)
          (subst (IsNotAfter time) (sym waits.2) told.of_path);
      is_still = waits.0;
      is_sent = none-sent s.watch.outbox waits.1;
    }
