use Rattle.turn_client_laws.proofs.Common.{refl}
use Rattle.turn_client_laws.proofs.Machine.{channel_numbers}
use Rattle.turn_client_laws.proofs.rows.channel_numbers_count_up.Goals as goal

pub returns-clause-first : goal.returns-clause-first
unfolding channel_numbers
returns-clause-first c = λ s. refl

pub returns-clause-second : goal.returns-clause-second
unfolding channel_numbers
returns-clause-second c = λ s. refl
