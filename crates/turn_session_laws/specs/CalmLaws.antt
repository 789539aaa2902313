-- Laws of data that makes nothing due.
use Rattle.std.specs.Prelude.{◌≡◌, ℕ, ◌+◌, ◌-◌, ◌^◌, ◌<◌, ◌≤◌, min, true, false, List, [], ◌∷◌, Option, Some, None}
use Rattle.std.specs.declared.net.socket_addr.SocketAddr.{SocketAddr}
use Rattle.turn_stun.specs.declared.transport.TransportType.TheVariants.{Udp}
use Rattle.turn_agent.specs.TransactionIds.{Source}
use Rattle.turn_client_api.specs.Payloads.{Outcome}
use Rattle.turn_client_api.specs.declared.poll.TurnPollRet.TheVariants.{WaitUntil}
use Rattle.turn_session_book.specs.declared.held.HeldGrant.{HeldGrant}
use Rattle.turn_session_idle.specs.IdlePeers.{idle_step}
use Rattle.turn_session_idle.specs.declared.peers.IdleStep.TheVariants.{Off}
use Rattle.turn_session_path.specs.Path.{first_path}
use Rattle.turn_session_path.specs.PathDue.{path_due}
use Rattle.turn_session_path.specs.declared.asked.Asked.{Asked}
use Rattle.turn_session_path.specs.declared.path.Path.{Path}
use Rattle.turn_session_path.specs.declared.prober.Prober.{Prober}
use Rattle.turn_session_life.specs.Watch.{next_wait, watch_step}
use Rattle.turn_session_client.specs.Ending.{is_open}
use Rattle.turn_session_client.specs.NotedState.{NotedState}
use Rattle.turn_session.specs.Checking.{data_sent, told_path}
use Rattle.turn_session.specs.Polling.{Polls}
use Rattle.turn_session.specs.Receiving.{with_sign}
use Rattle.turn_session.specs.SessionState.{SessionState, with_noted}
use Rattle.turn_session.specs.Uses.{used_peer}
use Rattle.turn_session_laws.specs.PathRuns.{path_after}
use Rattle.turn_session_laws.specs.PathRuns.PathCall.{Polled}
use Rattle.turn_session_laws.specs.SleepLaws.{IsNotAfter}

-- the path has nothing to do before this time, also once it has learned what was received
pub record PathSleeps (time : ℕ) (s : SessionState) : Type 0 where
  pub due : IsNotAfter time (path_due (told_path s).watch.path)
  pub is_still : s.watch.is_moved ≡ false
  pub is_sent : s.watch.outbox ≡ None

-- ---- what is received ends a probe that is under way

-- the next one is not due before this time
abbrev pub NextIsNotBefore : ℕ → Option Prober → Type 0
NextIsNotBefore time None = Unit {0}
NextIsNotBefore time (Some q) = by q.asked
  where
    by : Option Asked → Type 0
    by None = Unit {0}
    by (Some asked) = time ≤ min (q.probes.due + q.probes.every) (2 ^ 63 - 1)

-- what happened before happened at this time at the latest
abbrev pub IsInOrder : ℕ → Option ℕ → Type 0
IsInOrder at None = Unit {0}
IsInOrder at (Some before) = before ≤ at

-- nothing that is received at this time begins a probe before the other
abbrev pub BeginsNoProbe : ℕ → ℕ → SessionState → Type 0
BeginsNoProbe time at s = by s.received
  where
    by : Option ℕ → Type 0
    by None = NextIsNotBefore time s.watch.path.prober × IsInOrder at s.watch.path.full.since
    by (Some before) = before ≤ at

-- ---- the law

pub record DataMakesNothingDue : Type 0 where
  -- from a poll on that has told this time, the path of a session that is open sleeps
  pub polled : (now time : ℕ) (was s : SessionState) → is_open was.noted.life.phase ≡ true → Polls now was s (WaitUntil time)
      → now < time → PathSleeps time s
  -- until then it does nothing
  pub sleeps : (time later : ℕ) (s : SessionState) → PathSleeps time s → later < time
      → let w = (told_path s).watch in watch_step later w ≡ (next_wait w, w)
  -- data that is sent does not wake it, whatever the client is then
  pub sent : (time at : ℕ) (to : SocketAddr) (noted : NotedState) (was : SessionState) → PathSleeps time was
      → PathSleeps time (data_sent to at (with_noted noted was))
  -- nor does what is received
  pub received : (time at : ℕ) (outcome : Outcome) (noted : NotedState) (was : SessionState) → PathSleeps time was
      → BeginsNoProbe time at was → PathSleeps time (with_sign outcome at (with_noted noted was))
  -- nor does the use of a peer, by data of it or for it
  pub used : (time at : ℕ) (peer : SocketAddr) (s : SessionState) → PathSleeps time s → PathSleeps time (used_peer peer at s)
  -- if no peer is ever idle, by the settings, no use is noted, and nothing is ever to be done about one
  pub unused : (peer : SocketAddr) (at : ℕ) (s : SessionState) → s.idle.idle ≡ None → used_peer peer at s ≡ s
  pub idle : (now : ℕ) (granted : List HeldGrant) (s : SessionState) → s.idle.idle ≡ None → idle_step granted now s.idle ≡ (Off, s.idle)

-- ---- worked, with times in nanoseconds: a path that is probed each second, over UDP, has sent two requests of its first probe

abbrev pub busy_path : Source → Path
busy_path ids = path_after (first_path Udp (Some 1_000_000_000) ids 0) (Polled 1_500_000_000 ∷ Polled 1_000_000_000 ∷ [])
