-- Sessions that are lent for a call.
use Rattle.std.specs.Prelude.{ℕ, List, slice_set}
use Rattle.std.specs.Borrow.{Fml, Lends, MutBor, RattleType}
use Rattle.std.specs.declared.fmt.Debug.{Ghosts as DebugGhosts}
use Rattle.turn_client_api.specs.declared.client.TurnClientApi.{Ghosts}
use Rattle.turn_session.specs.SessionState.{SessionState}
use Rattle.turn_session.specs.contracts.session.Session.{the_row as session_row}
use Rattle.turn_relay_lives.specs.Calls.{called_as}
use Rattle.turn_relay_lives.specs.LiveState.{LiveState}
use Rattle.turn_relay_lives.specs.contracts.live.Live.{the_row as live_row}
use Rattle.turn_relay_lives.specs.contracts.lives.Lives.{the_row as lives_row}

module _ (C : RattleType) (d : DebugGhosts C.Denot) (g : Ghosts C.Denot) where
  -- once the borrow ends, the session is what it was left as, and it may have something to do
  abbrev pub lends_session : MutBor LiveState → MutBor SessionState → Fml
  lends_session l r = Lends (live_row C g d) (session_row C g d) l r (λ s. called_as s l.now)

  -- once the borrow ends, the one at this place is what it was left as
  abbrev pub lends_live : ℕ → MutBor (List LiveState) → MutBor LiveState → Fml
  lends_live place rows r = Lends (lives_row C g d) (live_row C g d) rows r (λ l. slice_set rows.now place l)
