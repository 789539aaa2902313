use Rattle.std.proofs.Common.{◌≡◌, ◌<◌, ◌++◌, Some, length, take, drop, suc, sym, ap, refl, ◌∙◌, arith}
use Rattle.std.proofs.lemmas.Option.{slice_get-get_or}
use Rattle.turn_agent.specs.Agent.{without_transaction}
use Rattle.turn_agent.proofs.FrontLemmas.{IsFront-removed}
use Rattle.turn_agent.proofs.TransactionLemmas.{AreDistinct-without, AreIdsOf-without, length-without, remove-without}
use Rattle.turn_agent.proofs.agent.StunAgent.take_out.Goals as goal

pub invariant_of-self : goal.invariant_of-self
invariant_of-self c =
    let ts = c.self.inside.transactions.items in
    let within : c.args.place < length ts = rw (← c.self.view_is) at c.requires in
    let removed = remove-without ts c.args.place c.remove-taken.result c.self.invariant.distinct within in
    let left : take c.args.place ts ++ drop (suc c.args.place) ts ≡ without_transaction c.remove-taken.result.id ts = rw (← c.remove-taken.ensures.value) at removed in
    let kept = c.without_one-self-inside.ensures in
    rw (c.remove-taken.ensures.items, left) (record {
      distinct = AreDistinct-without _ ts c.self.invariant.distinct;
      ids = λ many. AreIdsOf-without _ ts _ _ (c.self.invariant.ids (omega (arith, many, length-without c.remove-taken.result.id ts))) (c.remove_id.ensures (omega (arith, many, ap length (c.remove-taken.ensures.items ∙ left), c.len.ensures)));
      passed = rw (← left) (IsFront-removed _ _ ts _ _ c.args.place c.self.invariant.passed within kept.count kept.until);
      earliest = tt;
    })

pub returns-clause-taken : goal.returns-clause-taken
returns-clause-taken c =
    let ts = c.self.inside.transactions.items in
    let within : c.args.place < length ts = rw (← c.self.view_is) at c.requires in
    rw (← c.self.view_is) (slice_get-get_or ts c.args.place c.remove-taken.result within ∙ ap Some (sym c.remove-taken.ensures.value))

pub returns-clause-after : goal.returns-clause-after
returns-clause-after c =
    let ts = c.self.inside.transactions.items in
    let within : c.args.place < length ts = rw (← c.self.view_is) at c.requires in
    let left = remove-without ts c.args.place c.remove-taken.result c.self.invariant.distinct within in
    rw (c.remove-taken.ensures.items, left, ← c.remove-taken.ensures.value, ← c.self.view_is) refl
