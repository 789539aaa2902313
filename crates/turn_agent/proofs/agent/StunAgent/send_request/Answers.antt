use Rattle.std.proofs.Common.{◌≡◌, ◌∙◌}
use Rattle.turn_agent.specs.Kept.{few}
use Rattle.turn_agent.proofs.FrontLemmas.{IsFront-push}
use Rattle.turn_agent.proofs.TransactionLemmas.{AreDistinct-push, AreIdsOf-push, length-push}
use Rattle.turn_agent.proofs.agent.StunAgent.send_request.Goals as goal

pub invariant_of-self-2 : goal.invariant_of-self-2
invariant_of-self-2 g c =
    let fresh = rw (← c.self.view_is) at c.requires.fresh in
    let now : c.deref.result.now ≡ c.self.inside.transactions.items = c.deref.ensures.value ∙ c.in_ok-reserve_one.ensures.same in
    let added = rw now at c.in_ok-add_id.ensures.ok in
    rw (c.push_reserved.ensures.items, c.in_ok-reserve_one.ensures.same) (record {
      distinct = AreDistinct-push c.self.inside.transactions.items _ c.self.invariant.distinct fresh;
      ids = λ many. AreIdsOf-push c.self.inside.transactions.items _ _ (added (length-push few c.self.inside.transactions.items _ many));
      passed = IsFront-push _ _ c.self.inside.transactions.items _ _ c.self.invariant.passed;
      earliest = tt;
    })
