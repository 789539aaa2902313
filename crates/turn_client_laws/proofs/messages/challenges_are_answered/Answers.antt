use Rattle.turn_client_laws.proofs.Common.{refl}
use Rattle.turn_client_laws.proofs.Machine.{attributes_from, seen_after}
use Rattle.turn_client_laws.proofs.messages.challenges_are_answered.Goals as goal

pub returns : goal.returns
unfolding attributes_from seen_after
returns c = record {
  handled = λ text s. refl;
  phase = λ text s. refl;
  held = λ text s. refl;
  queued = λ text s. refl;
  unasked = λ text s. refl;
  refused = λ text s. refl;
  reported = λ text s. refl;
  ninth = λ to text s. refl;
  still = λ to text s. refl;
  tenth = λ to text s. refl;
  more = λ to text s. refl;
  eleventh = λ to text s. refl;
  second = λ to text s. refl;
}
