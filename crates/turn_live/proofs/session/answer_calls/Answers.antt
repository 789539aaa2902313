use Rattle.std.proofs.Common.{Bool, Ok, subst}
use Rattle.std.proofs.lemmas.Result.{err_from_is_err_and}
use Rattle.turn_live.specs.Session.{Steps}
use Rattle.turn_live.proofs.TalkLemmas.{begins, ends, goes_on, stops}
use Rattle.turn_live.proofs.session.answer_calls.Goals as goal

pub loop-init : goal.loop-init
loop-init g c =
    begins c.args.relays (g.C.TurnClientApi.state c.args.client) (g.R.Read.remaining c.args.reader.now) (g.W.Write.contents c.args.writer.now) c.requires

pub returns-in_err-answer_next : goal.returns-in_err-answer_next
returns-in_err-answer_next g c =
    let p = err_from_is_err_and c.from_residual.result c.from_residual.ensures.1 in
    let s = g.C.TurnClientApi.state c.args.client in
    let now = g.C.TurnClientApi.state c.loop.client in
    let after = g.C.TurnClientApi.state c.answer_next.new.client in
    rw (p.1, p.2) (stops c.args.relays s now after (g.R.Read.remaining c.args.reader.now) (g.R.Read.remaining c.loop.reader) (g.R.Read.remaining c.answer_next.new.reader)
    (g.W.Write.contents c.args.writer.now) (g.W.Write.contents c.loop.writer)
    (g.W.Write.contents c.answer_next.new.writer) c.in_err-answer_next.field-0.0 c.loop.invariant c.in_err-answer_next.ensures)

pub returns-then-not-branch : goal.returns-then-not-branch
returns-then-not-branch g c =
    let s = g.C.TurnClientApi.state c.args.client in
    let now = g.C.TurnClientApi.state c.loop.client in
    let after = g.C.TurnClientApi.state c.answer_next.new.client in
    let step = subst (λ (more : Bool). Steps c.args.relays now after (g.R.Read.remaining c.loop.reader) (g.R.Read.remaining c.answer_next.new.reader)
    (g.W.Write.contents c.loop.writer) (g.W.Write.contents c.answer_next.new.writer) (Ok more)) c.if-not-branch.true c.in_ok-answer_next.ensures in
    ends c.args.relays s now after (g.R.Read.remaining c.args.reader.now) (g.R.Read.remaining c.loop.reader) (g.R.Read.remaining c.answer_next.new.reader)
    (g.W.Write.contents c.args.writer.now) (g.W.Write.contents c.loop.writer) (g.W.Write.contents c.answer_next.new.writer) c.loop.invariant step

pub loop-preserved : goal.loop-preserved
loop-preserved g c =
    let s = g.C.TurnClientApi.state c.args.client in
    let now = g.C.TurnClientApi.state c.loop.client in
    let after = g.C.TurnClientApi.state c.answer_next.new.client in
    let step = subst (λ (more : Bool). Steps c.args.relays now after (g.R.Read.remaining c.loop.reader) (g.R.Read.remaining c.answer_next.new.reader)
    (g.W.Write.contents c.loop.writer) (g.W.Write.contents c.answer_next.new.writer) (Ok more)) c.if-not-branch.false c.in_ok-answer_next.ensures in
    goes_on c.args.relays s now after (g.R.Read.remaining c.args.reader.now) (g.R.Read.remaining c.loop.reader) (g.R.Read.remaining c.answer_next.new.reader)
    (g.W.Write.contents c.args.writer.now) (g.W.Write.contents c.loop.writer) (g.W.Write.contents c.answer_next.new.writer) c.loop.invariant step
