use Rattle.turn_driver.proofs.DrivenRowLemmas.{relay-is-driven}
use Rattle.turn_driver.proofs.driven.a_relay_is_driven.Goals as goal

pub returns : goal.returns
returns c = record { driven = relay-is-driven }
