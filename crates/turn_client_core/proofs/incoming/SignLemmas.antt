-- Clients that can sign.
use Rattle.turn_client_laws.proofs.Common.{Option, IsSome}
use Rattle.turn_client_laws.proofs.Machine.{Challenge, Phase, Authenticating, Allocated}
use Rattle.turn_client_laws.proofs.Laws.{IsHeldIn}
use Rattle.turn_client_core.specs.Attempts.{CanSign}

pub can-sign : (phase : Phase) (held : Option Challenge) → CanSign phase → IsHeldIn phase held → IsSome held
can-sign Authenticating held can is = is
can-sign Allocated held can is = is
can-sign phase held can is = absurd can
