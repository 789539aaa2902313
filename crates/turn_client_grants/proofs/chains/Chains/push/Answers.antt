use Rattle.std.proofs.Common.{◌≡◌, ◌∙◌, ◌∷◌, ◌++◌, [], ap, arith, refl, true}
use Rattle.std.specs.Prelude.{is_ok}
use Rattle.turn_client_grants.specs.declared.chains.Chains.{Chains}
use Rattle.turn_client_grants.proofs.ChainLemmas.{chained-keyed, chained-other}
use Rattle.turn_client_grants.proofs.chains.Chains.push.Goals as goal
use Rattle.turn_client_grants.proofs.chains.Chains.push.Goals.{in-Some, in-None}

pub returns-clause-chained : goal.returns-clause-chained
returns-clause-chained c keys chained = elim c.match-key.branch [
  | in-Some w ↦
      let links = ap (λ (s : Chains). s.links) w.self-is ∙ w.lead-before.ensures.links in
      let ok : is_ok c.extend_from_slice.result ≡ true = c.extend_from_slice.ensures.succeeds (rw links (omega (arith, c.requires.room))) in
      let items : c.extend_from_slice.new.self.items ≡ c.match-key.self.links.items ++ c.match-key.before ∷ [] = c.extend_from_slice.ensures.items ∙ rw ok refl in
      rw (items, w.self-is, w.before-is, w.lead-before.ensures.heads, w.lead-before.ensures.links, w.lead-before.ensures.value, w.in-Some.is)
      (chained-keyed c.args.self.now.heads.items c.args.self.now.links.items keys w.in-Some.key _ chained w.lead-before.ensures.within (omega (arith, chained.count)))
  | in-None w ↦
      let links = ap (λ (s : Chains). s.links) w.self-is in
      let ok : is_ok c.extend_from_slice.result ≡ true = c.extend_from_slice.ensures.succeeds (rw links (omega (arith, c.requires.room))) in
      let items : c.extend_from_slice.new.self.items ≡ c.match-key.self.links.items ++ c.match-key.before ∷ [] = c.extend_from_slice.ensures.items ∙ rw ok refl in
      rw (items, w.self-is, w.before-is, w.in-None.is) (chained-other c.args.self.now.heads.items c.args.self.now.links.items keys chained)
]
