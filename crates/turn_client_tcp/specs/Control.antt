-- The control machine, lent by the client that holds it.
use Rattle.std.specs.Borrow.{Fml, Lends, MutBor, RattleType}
use Rattle.turn_client_api.specs.State.{State}
use Rattle.turn_client_core.specs.contracts.protocol.TurnClientProtocol.{the_row}

-- After the borrow the client is what `with_control` makes of it and of the state in which the control machine
-- was left.
abbrev pub LendsControl : (R : RattleType) → (R.Denot → State → R.Denot) → MutBor R.Denot → MutBor State → Fml
LendsControl R with_control s r = Lends R the_row s r (with_control s.now)
