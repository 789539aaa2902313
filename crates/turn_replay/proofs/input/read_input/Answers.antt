use Rattle.std.proofs.Common.{◌<◌, length, arith}
use Rattle.std.proofs.lemmas.Result.{err_from_is_err_and}
use Rattle.turn_replay.proofs.InputLemmas.{kept_more, lost_more, read_when_full, read_at_end}
use Rattle.turn_replay.proofs.input.read_input.Goals as goal

pub returns-then-len-gt-MAX_TRACE : goal.returns-then-len-gt-MAX_TRACE
returns-then-len-gt-MAX_TRACE g c =
    let full : 1048576 < length c.loop.input.items = omega (arith, c.len.ensures, c.loop.input.ok.0) in
    read_when_full (g.R.Read.remaining c.args.reader.now) (g.R.Read.remaining c.loop.reader) c.loop.input.items c.loop.invariant full

pub returns-then-not-branch : goal.returns-then-not-branch
returns-then-not-branch g c =
    let old = g.R.Read.remaining c.args.reader.now in
    let new = g.R.Read.remaining c.read_more.new.reader in
    let read = c.in_ok-read_more.ensures in
    read_at_end old new c.read_more.new.input.items
    (kept_more old (g.R.Read.remaining c.loop.reader) new c.loop.input.items c.read_more.new.input.items _ c.loop.invariant read)
    (read.end c.if-not-branch.true)

pub returns-in_err-read_more : goal.returns-in_err-read_more
returns-in_err-read_more g c =
    let p = err_from_is_err_and c.from_residual.result c.from_residual.ensures.1 in
    rw p.1 (lost_more (g.R.Read.remaining c.args.reader.now) (g.R.Read.remaining c.loop.reader) (g.R.Read.remaining c.read_more.new.reader) c.loop.input.items
    c.in_err-read_more.field-0.0 c.loop.invariant c.in_err-read_more.ensures)
