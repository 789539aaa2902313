use Rattle.turn_client_laws.proofs.ChannelPeers.{leaves-channels}
use Rattle.turn_client_laws.proofs.GrantedLemmas.{leaves-grants}
use Rattle.turn_client_laws.proofs.granted.only_a_signed_success_grants.Goals as goal

pub returns-clause-cause : goal.returns-clause-cause
returns-clause-cause c = leaves-grants

pub returns-clause-channel : goal.returns-clause-channel
returns-clause-channel c = leaves-channels
