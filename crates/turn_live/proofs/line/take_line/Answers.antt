use Rattle.std.proofs.Common.{Ok, Option, subst}
use Rattle.std.proofs.lemmas.Result.{err_from_is_err_and}
use Rattle.turn_live.specs.Line.{TakesSome}
use Rattle.turn_live.specs.declared.line.LineEnd.{LineEnd}
use Rattle.turn_live.proofs.LineLemmas.{begun_more, line_lost, line_taken}
use Rattle.turn_live.proofs.line.take_line.Goals as goal

pub returns-in_err-end : goal.returns-in_err-end
returns-in_err-end g c =
    let p = err_from_is_err_and c.from_residual.result c.from_residual.ensures.1 in
    let failed = c.in_err-end.ensures in
    rw (p.1, p.2) (line_lost (g.R.Read.remaining c.args.reader.now) (g.R.Read.remaining c.loop.reader) (g.R.Read.remaining c.take_some.new.reader) c.loop.line.items
    c.in_err-end.field-0.0 c.loop.invariant failed.0 failed.1)

pub returns-in-Some : goal.returns-in-Some
returns-in-Some g c =
    let b = g.R.Read.remaining c.loop.reader in
    let d = g.R.Read.remaining c.take_some.new.reader in
    let before = c.loop.line.items in
    let after = c.take_some.new.line.items in
    let more = subst (λ (end : Option LineEnd). TakesSome b d before after (Ok end)) c.in-Some.is c.in_ok-end.ensures in
    line_taken (g.R.Read.remaining c.args.reader.now) b d before after more.0 c.in-Some.end c.loop.invariant more.1

pub loop-preserved : goal.loop-preserved
loop-preserved g c =
    let b = g.R.Read.remaining c.loop.reader in
    let d = g.R.Read.remaining c.take_some.new.reader in
    let before = c.loop.line.items in
    let after = c.take_some.new.line.items in
    let more = subst (λ (end : Option LineEnd). TakesSome b d before after (Ok end)) c.in_default.is c.in_ok-end.ensures in
    begun_more (g.R.Read.remaining c.args.reader.now) b d before after more.0 c.loop.invariant more.1
