use Rattle.turn_client_laws.proofs.Common.{refl}
use Rattle.turn_client_laws.proofs.Machine.{channel_numbers, refresh_time}
use Rattle.turn_client_laws.proofs.expiries.grants_expire.Goals as goal

pub returns : goal.returns
unfolding refresh_time channel_numbers
returns c = record {
  refresh = λ s. refl;
  permission = λ s. refl;
  permission_reported = λ s. refl;
  channel_left = λ s. refl;
  channel_reported = λ s. refl;
  reserved = λ s. refl;
  refused = λ s. refl;
  still_refused = λ s. refl;
  bound = λ s. refl;
  next_number = λ s. refl;
  same_number = λ s. refl;
  allocation = λ s. refl;
  unrefreshed = λ s. refl;
  ended = λ s. refl;
}
