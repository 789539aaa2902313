use Rattle.turn_client_laws.proofs.WakeupLemmas.{due-IsLeast, wakeup-allocated, wakeup-event, wakeup-given_up, wakeup-new, wakeup-others, wakeup-reply}
use Rattle.turn_client_laws.proofs.wakeup.wakeup_is_the_least_time.Goals as goal

pub returns : goal.returns
returns c = record {
  new = wakeup-new;
  event = wakeup-event;
  reply = wakeup-reply;
  given_up = wakeup-given_up;
  least = due-IsLeast;
  allocated = wakeup-allocated;
  others = wakeup-others;
}
