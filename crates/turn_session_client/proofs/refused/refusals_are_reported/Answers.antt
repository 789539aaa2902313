use Rattle.std.proofs.Common.{refl}
use Rattle.turn_session_client.proofs.refused.refusals_are_reported.Goals as goal

pub returns : goal.returns
returns c = record {
  hint = λ error client. record { outcome = refl; none_waits = refl };
  request = λ error client. record { outcome = refl; none_waits = refl; rests = refl };
  grant = λ error client. record { events = refl; none_is_held = refl; none_rests = refl };
}
