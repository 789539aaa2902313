use Rattle.std.proofs.Common.{◌≡◌, Some, List, get_or, set, sym, ap, refl, ◌∙◌, eqb}
use Rattle.std.specs.List.{position}
use Rattle.std.proofs.lemmas.Option.{slice_get-get_or}
use Rattle.turn_agent.specs.Agent.{waiting_from, waits_begun}
use Rattle.turn_agent.specs.contracts.agent.StunAgent.{the_view}
use Rattle.turn_agent.specs.declared.transaction.Transaction.{Transaction}
use Rattle.turn_agent.proofs.AgentLemmas.{list_any-none, position-IsFirst, position-IsOf, position-none}
use Rattle.turn_agent.proofs.FrontLemmas.{IsFront-none}
use Rattle.turn_agent.proofs.TransactionLemmas.{AreDistinct-begun, AreIdsOf-begun, begun-none, length-begun, set-begun}
use Rattle.turn_agent.proofs.agent.StunAgent.begin_waits.Goals as goal

pub invariant_of-self : goal.invariant_of-self
invariant_of-self c =
    let ts = c.self.inside.transactions.items in
    let t = c.index_mut.result.now in
    let place : position (λ u. eqb u.id c.args.id) ts ≡ Some c.in-Some.place = rw (← c.self.view_is) at (sym c.place_of.ensures ∙ c.in-Some.is) in
    let first = position-IsFirst (λ (u : Transaction). eqb u.id c.args.id) ts c.in-Some.place place in
    let changed : set ts c.in-Some.place (waiting_from c.args.now (get_or ts c.in-Some.place t)) ≡ waits_begun (get_or ts c.in-Some.place t).id c.args.now ts =
    set-begun c.args.now ts c.in-Some.place t c.self.invariant.distinct first.within in
    let same : set ts c.in-Some.place (waiting_from c.args.now t) ≡ waits_begun (get_or ts c.in-Some.place t).id c.args.now ts =
    ap (λ (u : Transaction). set ts c.in-Some.place (waiting_from c.args.now u)) c.index_mut.ensures.value ∙ changed in
    rw (c.none-self-inside.ensures, same)
    (record {
      distinct = AreDistinct-begun _ c.args.now ts c.self.invariant.distinct;
      ids = λ many. AreIdsOf-begun _ c.args.now ts _ (c.self.invariant.ids (rw (length-begun (get_or ts c.in-Some.place t).id c.args.now ts) at many));
      passed = IsFront-none _ _ _;
      earliest = tt;
    })

pub returns-in-Some : goal.returns-in-Some
returns-in-Some c =
    let ts = c.self.inside.transactions.items in
    let t = c.index_mut.result.now in
    let place : position (λ u. eqb u.id c.args.id) ts ≡ Some c.in-Some.place = rw (← c.self.view_is) at (sym c.place_of.ensures ∙ c.in-Some.is) in
    let first = position-IsFirst (λ (u : Transaction). eqb u.id c.args.id) ts c.in-Some.place place in
    let is = position-IsOf c.args.id ts c.in-Some.place (get_or ts c.in-Some.place t) place (slice_get-get_or ts c.in-Some.place t first.within) in
    let changed : set ts c.in-Some.place (waiting_from c.args.now (get_or ts c.in-Some.place t)) ≡ waits_begun (get_or ts c.in-Some.place t).id c.args.now ts =
    set-begun c.args.now ts c.in-Some.place t c.self.invariant.distinct first.within in
    let same : set ts c.in-Some.place (waiting_from c.args.now t) ≡ waits_begun c.args.id c.args.now ts =
    ap (λ (u : Transaction). set ts c.in-Some.place (waiting_from c.args.now u)) c.index_mut.ensures.value
    ∙ (changed ∙ ap (λ id. waits_begun id c.args.now ts) is.same) in
    rw (← c.self.view_is) (ap (λ (us : List Transaction). record (the_view c.self.inside) { transactions = us }) same)

pub returns-in_default : goal.returns-in_default
returns-in_default c =
    let ts = c.args.self.now.transactions in
    rw (begun-none c.args.id c.args.now ts (list_any-none (λ t. eqb t.id c.args.id) ts (position-none (λ t. eqb t.id c.args.id) ts (sym c.place_of.ensures ∙ c.in_default.is)))) refl
