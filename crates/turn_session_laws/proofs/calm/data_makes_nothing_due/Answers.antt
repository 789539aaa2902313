use Rattle.turn_session_laws.proofs.CalmLemmas.{idle-off, path-still-sleeps, polled-sleeps, received-sleeps, sent-sleeps, unused, used-sleeps}
use Rattle.turn_session_laws.proofs.calm.data_makes_nothing_due.Goals as goal

pub returns : goal.returns
returns c = record {
  polled = polled-sleeps;
  sleeps = path-still-sleeps;
  sent = sent-sleeps;
  received = received-sleeps;
  used = used-sleeps;
  unused = unused;
  idle = idle-off;
}
