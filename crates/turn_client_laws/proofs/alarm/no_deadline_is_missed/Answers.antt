use Rattle.turn_client_laws.proofs.TimelyLemmas.{poll-timely}
use Rattle.turn_client_laws.proofs.alarm.no_deadline_is_missed.Goals as goal

pub returns : goal.returns
returns c = poll-timely
