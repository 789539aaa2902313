use Rattle.std.proofs.Common.{◌≡◌, Bool, Ok, Err, arith, refl, subst}
use Rattle.std.proofs.lemmas.Result.{err_from_is_err_and}
use Rattle.turn_session_live.specs.Program.{Steps}
use Rattle.turn_session_live.proofs.TalkLemmas.{at_limit, comes, comes_on, ends}
use Rattle.turn_session_live.proofs.program.answer_calls.Goals as goal

pub loop-number-init : goal.loop-number-init
loop-number-init g c = comes c.args.session (g.R.Read.remaining c.args.reader.now) (g.W.Write.contents c.args.writer.now)

pub returns-in_err-answer_next : goal.returns-in_err-answer_next
returns-in_err-answer_next g c =
    let p = err_from_is_err_and c.from_residual.result c.from_residual.ensures.1 in
    let status = c.in_err-answer_next.field-0.0 in
    rw (p.1, p.2) (ends c.loop-number.number c.args.session c.loop-number.session c.answer_next.new.session
    (g.R.Read.remaining c.args.reader.now) (g.R.Read.remaining c.loop-number.reader) (g.R.Read.remaining c.answer_next.new.reader)
    (g.W.Write.contents c.args.writer.now) (g.W.Write.contents c.loop-number.writer) (g.W.Write.contents c.answer_next.new.writer)
    (Err status) (Err status) c.loop-number.invariant c.in_err-answer_next.ensures refl)

pub loop-number-preserved : goal.loop-number-preserved
loop-number-preserved g c =
    let second = g.R.Read.remaining c.loop-number.reader in
    let third = g.R.Read.remaining c.answer_next.new.reader in
    let written = g.W.Write.contents c.loop-number.writer in
    let new = g.W.Write.contents c.answer_next.new.writer in
    let after = c.answer_next.new.session in
    let step = subst (λ (more : Bool). Steps c.loop-number.number c.loop-number.session after second third written new (Ok more))
    c.if-not-branch.false c.in_ok-answer_next.ensures in
    comes_on c.loop-number.number c.args.session c.loop-number.session after (g.R.Read.remaining c.args.reader.now) second third
    (g.W.Write.contents c.args.writer.now) written new c.loop-number.invariant step

pub returns : goal.returns
returns g c =
    at_limit c.loop-number.number c.args.session c.loop-number.session
    (g.R.Read.remaining c.args.reader.now) (g.R.Read.remaining c.loop-number.reader)
    (g.W.Write.contents c.args.writer.now) (g.W.Write.contents c.loop-number.writer)
    (λ (two : c.loop-number.number ≡ 2). omega (arith, two, c.loop-number-test.false)) c.loop-number.invariant
