use Rattle.std.proofs.Common.{◌≡◌, ◌<◌, ◌∙◌, true, arith, is_some, length, rules, set, sym}
use Rattle.std.proofs.lemmas.List.{length-set}
use Rattle.turn_client_api.specs.Poll.{first_reported, unreported_in}
use Rattle.turn_client_grants.proofs.ListLemmas.{written}
use Rattle.turn_client_grants.proofs.OfferLemmas.{reported-at}
use Rattle.turn_client_grants.proofs.offers.report_first.Goals as goal

pub returns-then-is_some-clause-items : goal.returns-then-is_some-clause-items
returns-then-is_some-clause-items c =
    let grants = c.args.grants.now.items in
    let same : c.loop-grant.all ≡ grants = c.loop-grant.invariant.same ∙ c.as_mut_slice-all.ensures.value in
    let at = c.loop-grant.grant-index in
    let less : at < length grants = omega arith in
    let passes : is_some (unreported_in c.args.family c.grant-item.result) ≡ true = search rules in
    let step : set c.loop-grant.all at c.as_reported.result ≡ first_reported c.args.family grants =
    rw (same, c.as_reported.ensures, ← c.grant-item.is) (sym (reported-at c.args.family grants at c.grant-item.result less (rw same at c.grant-item.is) passes)
    ∙ (rw c.as_mut_slice-all.ensures.value at c.loop-grant.invariant.rest)) in
    let count : length (set c.loop-grant.all at c.as_reported.result) ≡ c.args.grants.now.len = omega (arith, length-set c.loop-grant.all at c.as_reported.result) in
    written c.args.grants.now.len (set c.loop-grant.all at c.as_reported.result) grants count (omega arith) ∙ step
