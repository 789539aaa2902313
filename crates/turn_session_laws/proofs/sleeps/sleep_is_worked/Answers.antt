use Rattle.std.proofs.Common.{refl}
use Rattle.turn_session_laws.specs.SleepLaws.{quiet_session}
use Rattle.turn_session_laws.proofs.sleeps.sleep_is_worked.Goals as goal

pub returns-clause-client : goal.returns-clause-client
returns-clause-client c = λ s. let n = quiet_session s in ((n, n, refl, refl, refl), (9_999_000_000_000, refl, (refl, refl)))
