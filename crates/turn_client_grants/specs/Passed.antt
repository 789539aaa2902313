-- Which grants leave the totals of those that were read.
use Rattle.std.specs.Prelude.{◌&&◌, Bool, false, nat_le, ℕ}
use Rattle.turn_client_api.specs.declared.grant.Grant.{Grant}
use Rattle.turn_client_api.specs.declared.grant.Grant.TheVariants.{Permission, Channel}
use Rattle.turn_client_api.specs.declared.grant.Progress.TheVariants.{Active}
use Rattle.turn_client_grants.specs.declared.totals.Totals.{Totals}

-- the time is no earlier than the earliest expiries, and than this one of what is to be refreshed
abbrev pub is_no_earlier : Totals → ℕ → ℕ → Bool
is_no_earlier totals refreshed time = nat_le totals.end time && (nat_le totals.next_expiry time && nat_le refreshed time)

-- an active permission or channel expires no earlier than any that was read
abbrev pub adds_nothing : Totals → Grant → Bool
adds_nothing totals (Permission ip (Active lease)) = is_no_earlier totals totals.permissions lease.expiry
adds_nothing totals (Channel number peer (Active lease)) = is_no_earlier totals totals.channels lease.expiry
adds_nothing totals _ = false
