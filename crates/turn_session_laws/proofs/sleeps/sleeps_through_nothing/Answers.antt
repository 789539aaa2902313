use Rattle.turn_session_laws.proofs.ClientSleepLemmas.{client-sleeps, client-told, settled-verdict}
use Rattle.turn_session_laws.proofs.DoubtSleepLemmas.{doubts-sleep}
use Rattle.turn_session_laws.proofs.IdleSleepLemmas.{idle-sleeps}
use Rattle.turn_session_laws.proofs.PathSleepLemmas.{watch-sleeps}
use Rattle.turn_session_laws.proofs.SessionSleepLemmas.{opened-told, packets-sleep, unopened-told}
use Rattle.turn_session_laws.proofs.sleeps.sleeps_through_nothing.Goals as goal

pub returns : goal.returns
returns c = record {
  path = watch-sleeps;
  doubts = doubts-sleep;
  idle = idle-sleeps;
  verdict = settled-verdict;
  client = client-sleeps;
  noted = λ now time was s running h later. client-told now time was s was.life.phase running h later;
  packets = packets-sleep;
  opened = opened-told;
  unopened = unopened-told;
}
