use Rattle.std.proofs.Common.{rules, not, refl}
use Rattle.std.proofs.lemmas.Fn.{filter_same}
use Rattle.turn_client_streams.proofs.StreamLemmas.{is_at, opened-HasOwnEnds}
use Rattle.turn_client_streams.proofs.streams.Streams.open.Goals as goal

pub invariant_of-self : goal.invariant_of-self
invariant_of-self c =
    rw (c.push_reserved.ensures.items, c.new.ensures, filter_same _ (λ x. not (is_at c.args.local x)) _ (λ x b f' k. search rules) _ _ c.retain.ensures.filtered)
    (opened-HasOwnEnds c.args.local _ c.self.inside.list.items refl c.self.invariant)

pub returns : goal.returns
returns c = λ s.
    rw (
      c.push_reserved.ensures.items,
      c.new.ensures,
      filter_same _ (λ x. not (is_at c.args.local x)) _ (λ x b f' k. search rules) _ _ c.retain.ensures.filtered,
      ← c.self.view_is,
    ) refl
