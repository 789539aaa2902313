use Rattle.std.proofs.Common.{rules, not, ap}
use Rattle.std.proofs.lemmas.Fn.{filter_same}
use Rattle.turn_client_streams.specs.Held.{with_streams}
use Rattle.turn_client_streams.proofs.StreamLemmas.{filter-HasOwnEnds, is_at}
use Rattle.turn_client_streams.proofs.streams.Streams.remove.Goals as goal

pub returns : goal.returns
returns c = λ s.
    rw (← c.self.view_is)
    (ap (λ xs. with_streams xs s) (filter_same _ (λ x. not (is_at c.args.local x)) _ (λ x b f' k. search rules) _ _ c.retain.ensures.filtered))

pub invariant_of-self : goal.invariant_of-self
invariant_of-self c =
    rw (filter_same _ (λ x. not (is_at c.args.local x)) _ (λ x b f' k. search rules) _ _ c.retain.ensures.filtered)
    (filter-HasOwnEnds (λ x. not (is_at c.args.local x)) c.self.inside.list.items c.self.invariant)
