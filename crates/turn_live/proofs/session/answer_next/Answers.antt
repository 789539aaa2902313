use Rattle.std.proofs.Common.{◌≡◌, ℕ, [], List, Ok, Err, rules, arith, sym, subst}
use Rattle.std.proofs.lemmas.Bool.{eqb-true}
use Rattle.std.proofs.lemmas.List.{nil_from_length}
use Rattle.std.proofs.lemmas.Result.{err_from_is_err_and}
use Rattle.turn_live.specs.Line.{IsTaken}
use Rattle.turn_live.specs.Lines.{line_call}
use Rattle.turn_live.specs.Session.{AnswersLine}
use Rattle.turn_live.specs.declared.line.LineEnd.{LineEnd}
use Rattle.turn_live.specs.declared.line.LineEnd.TheVariants.{Feed, Input}
use Rattle.turn_live.proofs.StepLemmas.{step_ended, step_last, step_on, step_stopped}
use Rattle.turn_live.proofs.session.answer_next.Goals as goal

pub returns-then-is_empty : goal.returns-then-is_empty
returns-then-is_empty g c =
    let first = g.R.Read.remaining c.args.reader.now in
    let second = g.R.Read.remaining c.take_line.new.reader in
    let kept = c.in_ok-line.line.items in
    let last : c.in_ok-line.end ≡ Input = search rules in
    let empty = eqb-true _ _ (sym c.if-is_empty.ensures) in
    let none : kept ≡ [] = nil_from_length kept (omega (arith, c.in_ok-line.line.ok.0, empty)) in
    let taken = subst (λ (end : LineEnd). IsTaken first second c.in_ok-line.ensures.0 end) last c.in_ok-line.ensures.1 in
    step_ended c.args.relays (g.C.TurnClientApi.state c.args.client.now) first second (g.W.Write.contents c.args.writer.now) kept c.in_ok-line.ensures.0 taken c.in_ok-line.ensures.2 none

pub returns-in_err-answer_line : goal.returns-in_err-answer_line
returns-in_err-answer_line g c =
    let p = err_from_is_err_and c.from_residual-in_err-answer_line.result c.from_residual-in_err-answer_line.ensures.1 in
    let s = g.C.TurnClientApi.state c.args.client.now in
    let after = g.C.TurnClientApi.state c.answer_line.new.client in
    let old = g.W.Write.contents c.args.writer.now in
    let new = g.W.Write.contents c.answer_line.new.writer in
    let stop = c.in_err-answer_line.field-0.0 in
    let answer = subst (λ (line : List ℕ). AnswersLine (line_call c.args.relays line) s after old new (Err stop)) c.as_slice.ensures.value c.in_err-answer_line.ensures in
    rw (p.1, p.2) (step_stopped c.args.relays s after c.in_ok-line.line.items c.in_ok-line.ensures.0 c.in_ok-line.end (g.R.Read.remaining c.args.reader.now) (g.R.Read.remaining c.take_line.new.reader)
    old new stop c.in_ok-line.ensures.1 c.in_ok-line.ensures.2 answer)

pub returns-in-Feed : goal.returns-in-Feed
returns-in-Feed g c =
    let s = g.C.TurnClientApi.state c.args.client.now in
    let after = g.C.TurnClientApi.state c.answer_line.new.client in
    let first = g.R.Read.remaining c.args.reader.now in
    let second = g.R.Read.remaining c.take_line.new.reader in
    let old = g.W.Write.contents c.args.writer.now in
    let new = g.W.Write.contents c.answer_line.new.writer in
    let taken = subst (λ (end : LineEnd). IsTaken first second c.in_ok-line.ensures.0 end) c.in-Feed.is c.in_ok-line.ensures.1 in
    let answer = subst (λ (line : List ℕ). AnswersLine (line_call c.args.relays line) s after old new (Ok tt)) c.as_slice.ensures.value c.in_ok-answer_line.ensures in
    step_on c.args.relays s after c.in_ok-line.line.items c.in_ok-line.ensures.0 first second old new taken c.in_ok-line.ensures.2 answer

pub returns : goal.returns
returns g c =
    let s = g.C.TurnClientApi.state c.args.client.now in
    let after = g.C.TurnClientApi.state c.answer_line.new.client in
    let first = g.R.Read.remaining c.args.reader.now in
    let second = g.R.Read.remaining c.take_line.new.reader in
    let old = g.W.Write.contents c.args.writer.now in
    let new = g.W.Write.contents c.answer_line.new.writer in
    let taken = subst (λ (end : LineEnd). IsTaken first second c.in_ok-line.ensures.0 end) c.in-Input.is c.in_ok-line.ensures.1 in
    let answer = subst (λ (line : List ℕ). AnswersLine (line_call c.args.relays line) s after old new (Ok tt)) c.as_slice.ensures.value c.in_ok-answer_line.ensures in
    step_last c.args.relays s after c.in_ok-line.line.items c.in_ok-line.ensures.0 first second old new taken c.in_ok-line.ensures.2 answer
