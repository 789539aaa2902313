use Rattle.std.proofs.Common.{refl}
use Rattle.turn_session_client.proofs.refused.expiries_are_reported.Goals as goal

pub returns : goal.returns
returns c = record {
  reported = λ client. record {
    silent = refl;
    at_once = λ time. refl;
    events = refl;
    none_waits = refl;
    held = refl;
    none_left = refl;
  };
}
