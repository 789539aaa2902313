use Rattle.std.proofs.Common.{◌≡◌, ◌∙◌, ap, arith, length}
use Rattle.turn_client_grants.specs.Chains.{bucket_of}
use Rattle.turn_client_grants.proofs.ChainLemmas.{popped-keyed, popped-other}
use Rattle.turn_client_grants.proofs.chains.Chains.pop.Goals as goal

pub returns-in_default-key-clause-chained : goal.returns-in_default-key-clause-chained
returns-in_default-key-clause-chained c = λ keys chained.
    popped-other _ c.args.self.now.links.items c.pop.new.self.items keys c.in-Some.before (rw c.in_default-key.is at chained) c.in-Some.ensures.items

pub returns-clause-chained : goal.returns-clause-chained
returns-clause-chained c = λ keys chained.
    let hs = c.args.self.now.heads.items in
    let count : c.len.result ≡ length hs = omega (arith, c.len.ensures) in
    let same = c.bucket_of-bucket.ensures.value ∙ ap (λ n. bucket_of n c.in-Some-key.key) count in
    rw same
    (popped-keyed hs c.args.self.now.links.items c.pop.new.self.items keys c.in-Some-key.key c.in-Some.before (rw c.in-Some-key.is at chained) c.in-Some.ensures.items
    (omega (arith, same, count, c.bucket_of-bucket.ensures.within)))
