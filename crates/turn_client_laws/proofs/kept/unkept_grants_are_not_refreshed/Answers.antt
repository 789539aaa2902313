use Rattle.turn_client_laws.proofs.Machine.{is_open_to, is_permission_of}
use Rattle.turn_client_laws.proofs.KeptLemmas.{channels-ignore, kept-back, marked-same, permissions-ignore, success-keeps, unkept-never}
use Rattle.turn_client_laws.proofs.kept.unkept_grants_are_not_refreshed.Goals as goal

pub returns-clause-never : goal.returns-clause-never
returns-clause-never c = unkept-never

pub returns-clause-same : goal.returns-clause-same
returns-clause-same c = marked-same

pub returns-clause-permission : goal.returns-clause-permission
returns-clause-permission c = λ transport ip s all. kept-back transport (is_permission_of ip) (permissions-ignore ip) s all

pub returns-clause-channel : goal.returns-clause-channel
returns-clause-channel c = λ transport to s all. kept-back transport (is_open_to to) (channels-ignore to) s all

pub returns-clause-success : goal.returns-clause-success
returns-clause-success c = success-keeps
