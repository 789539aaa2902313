use Rattle.std.proofs.Common.{◌≡◌, reverse, take}
use Rattle.std.specs.Prelude.{◌&&◌, find}
use Rattle.turn_client_api.specs.Grants.{is_of}
use Rattle.turn_client_api.specs.Poll.{is_expired_channel}
use Rattle.turn_client_grants.proofs.table.GrantTable.last_expired_channel.Given as goal

abbrev pub invariant-loop-grant : goal.invariant-loop-grant
invariant-loop-grant l = l.last ≡ find (λ g. is_of l.family g && is_expired_channel l.now g) (reverse (take l.grant-index l.grants))
