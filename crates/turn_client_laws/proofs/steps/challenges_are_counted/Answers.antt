use Rattle.turn_client_laws.proofs.ConfiguredLemmas.{leaves-configured}
use Rattle.turn_client_laws.proofs.CountLemmas.{leaves-accepted}
use Rattle.turn_client_laws.proofs.PhasesGoOn.{leaves-keeps, challenge-IsCounted}
use Rattle.turn_client_laws.proofs.steps.challenges_are_counted.Goals as goal

pub returns : goal.returns
returns c = record {
  configured = leaves-configured;
  stays = λ call s t leaves. (leaves-keeps call s t leaves).1;
  each = challenge-IsCounted;
  falls = leaves-accepted;
}
