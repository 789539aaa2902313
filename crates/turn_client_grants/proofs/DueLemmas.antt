-- Whether the refresh of a grant is due.
use Rattle.std.proofs.Common.{◌≡◌, arith, Bool, false, not, ℕ, refl}
use Rattle.std.specs.Option.{option_map_or}
use Rattle.std.specs.Prelude.{◌&&◌, None, Some, if◌then◌else◌, nat_le}
use Rattle.turn_client_api.specs.Due.{is_refreshable, refresh_time, refresh_time_by_kind}
use Rattle.turn_client_api.specs.Grants.{has_request}
use Rattle.turn_client_api.specs.State.{State}
use Rattle.turn_client_api.specs.Transmit.{is_refresh_due}
use Rattle.turn_client_api.specs.declared.grant.Grant.{Grant}
use Rattle.turn_client_grants.specs.Lists.{with_ahead}
use Rattle.turn_client_grants.proofs.AheadLemmas.{timed, used-ahead}

pub due-never : (ahead now : ℕ) (s : State) (g : Grant) → refresh_time_by_kind ahead g ≡ None → is_refresh_due now (with_ahead ahead s) g ≡ false
unfolding is_refresh_due refresh_time
due-never ahead now s g kind = rw kind refl

pub due-timed : (ahead now : ℕ) (s : State) (g : Grant) (time : ℕ) → refresh_time_by_kind ahead g ≡ Some time
    → is_refresh_due now (with_ahead ahead s) g ≡ (nat_le time now && (is_refreshable g s && not (has_request g s)))
unfolding is_refresh_due
due-timed ahead now s g time kind =
    rw (timed ahead s g time (is_refreshable g s) (has_request g s) kind (used-ahead ahead g s) refl) (by (is_refreshable g s && not (has_request g s)))
  where
    by : (b : Bool) → option_map_or (λ t. nat_le t now) (if b then Some time else None) false ≡ (nat_le time now && b)
    by b = grind arith
