use Rattle.std.proofs.Common.{◌∙◌, sym, ap}
use Rattle.std.specs.Prelude.{Option, unwrap_or}
use Rattle.turn_session_book.proofs.FirstLemmas.{find-some, position-none}
use Rattle.turn_session_idle.specs.Usage.{new_usage}
use Rattle.turn_session_idle.specs.Usages.{is_usage_of}
use Rattle.turn_session_idle.specs.declared.usage.Usage.{Usage}
use Rattle.turn_session_idle.proofs.usages.usage_of.Goals as goal

pub returns-in-Some : goal.returns-in-Some
returns-in-Some c =
    let u = c.index-usages-place.result in
    ap (λ (row : Option Usage). unwrap_or row (new_usage c.args.key c.args.now))
    (sym (find-some (is_usage_of c.args.key) c.args.usages.now c.in-Some.place u (sym c.in-Some.ensures) c.index-usages-place.is))

pub returns-in-None : goal.returns-in-None
returns-in-None c =
    c.new.ensures ∙ ap (λ (row : Option Usage). unwrap_or row (new_usage c.args.key c.args.now))
    (sym (position-none (is_usage_of c.args.key) c.args.usages.now (sym c.in-None.ensures)))
