use Rattle.std.proofs.Common.{refl}
use Rattle.turn_client_grants.proofs.KeptLemmas.{summary-joined}
use Rattle.turn_client_grants.proofs.TotalsLemmas.{or-false}
use Rattle.turn_client_grants.proofs.summary.joined.Goals as goal

pub returns : goal.returns
returns c = λ others are summed.
    let read = c.totals_of-totals.ensures in
    summary-joined c.args.summary.now _ c.args.grants.now others c.args.last.now c.args.listed.now c.requires are refl refl read.end read.next_expiry refl refl read.permissions read.channels
    (or-false read.unreported) (or-false read.requested) (or-false read.reserved) summed
