use Rattle.std.proofs.Common.{rules, ◌≡◌, ◌∙◌, get_or, sym, ap}
use Rattle.std.specs.Option.{option_map_or}
use Rattle.std.specs.Prelude.{Option}
use Rattle.turn_session_book.proofs.FirstLemmas.{find-some, position-none}
use Rattle.turn_session_idle.specs.IdlePeers.{step_of}
use Rattle.turn_session_idle.specs.IdleState.{IdleState}
use Rattle.turn_session_idle.specs.Usage.{is_due}
use Rattle.turn_session_idle.specs.declared.peers.IdleStep.TheVariants.{WaitUntil}
use Rattle.turn_session_idle.specs.declared.usage.Usage.{Usage}
use Rattle.turn_session_idle.proofs.peers.IdlePeers.take_due.Goals as goal

pub returns-in-Some-clause-step : goal.returns-in-Some-clause-step
returns-in-Some-clause-step c =
    let u = c.index.result.now in
    let taken : u ≡ get_or c.args.self.now.usages c.in-Some.place u = rw (← c.self.view_is) c.index.ensures in
    let step : c.step_of.result ≡ step_of u = search rules in
    step ∙ ap (λ (row : Option Usage). option_map_or step_of row (WaitUntil c.args.self.now.look))
    (sym (find-some is_due c.args.self.now.usages c.in-Some.place u (sym c.in-Some.ensures) taken))

pub returns-in-None-clause-step : goal.returns-in-None-clause-step
returns-in-None-clause-step c =
    ap (λ (s : IdleState). WaitUntil s.look) c.self.view_is
    ∙ ap (λ (row : Option Usage). option_map_or step_of row (WaitUntil c.args.self.now.look))
    (sym (position-none is_due c.args.self.now.usages (sym c.in-None.ensures)))
