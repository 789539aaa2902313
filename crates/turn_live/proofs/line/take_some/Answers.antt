use Rattle.std.proofs.Common.{◌≡◌, ◌+◌, rules, arith, length, subst}
use Rattle.std.proofs.BufReadLemmas.{Consumes_shown}
use Rattle.std.proofs.lemmas.Bool.{eqb-true}
use Rattle.std.specs.Io.BufRead.{FillKeeps}
use Rattle.turn_live.proofs.LineLemmas.{piece_ended, piece_fed, piece_none, piece_open}
use Rattle.turn_live.proofs.line.take_some.Goals as goal

pub returns-then-eq : goal.returns-then-eq
returns-then-eq g c =
    piece_none (g.R.Read.remaining c.args.reader.now) (g.R.Read.remaining c.fill_buf.follows.lender-at-none) c.args.line.now.items c.fill_buf.follows.holds-at-none.0

pub returns-then-is_empty : goal.returns-then-is_empty
returns-then-is_empty g c =
    let shown = c.in-Ok.available.now in
    let none : length shown ≡ 0 = eqb-true (length shown) 0 (search rules) in
    piece_ended (g.R.Read.remaining c.args.reader.now) (g.R.Read.remaining c.fill_buf.follows.lender-at-none) shown c.args.line.now.items c.in-Ok.ensures.end c.fill_buf.follows.holds-at-none.0 none

pub returns-in_ok-keep-in-Some : goal.returns-in_ok-keep-in-Some
returns-in_ok-keep-in-Some g c =
    let rested = c.fill_buf.follows.lender-at-none in
    let old = g.R.Read.remaining c.args.reader.now in
    let new = g.R.Read.remaining c.consume.new.self in
    let shown = c.in-Ok.available.now in
    let at = c.in-Some.at in
    let filled = subst (FillKeeps old (g.R.Read.remaining rested) (g.R.BufRead.consumable_len rested)) c.in-Ok.is c.fill_buf.follows.holds-at-none in
    let moved = Consumes_shown old (g.R.Read.remaining rested) new (g.R.BufRead.consumable_len rested) shown (at + 1) (omega (arith, c.in-Some.ensures.0.high))
    c.in-Ok.ensures.front c.in-Ok.ensures.end filled.0 filled.1 c.consume.ensures.bytes in
    piece_fed old new shown c.args.line.now.items c.keep.new.line.items at c.in-Some.ensures moved.0 c.in_ok-keep-in-Some.ensures

pub returns-in_ok-keep-in-None : goal.returns-in_ok-keep-in-None
returns-in_ok-keep-in-None g c =
    let rested = c.fill_buf.follows.lender-at-none in
    let old = g.R.Read.remaining c.args.reader.now in
    let new = g.R.Read.remaining c.consume-in-None.new.self in
    let shown = c.in-Ok.available.now in
    let filled = subst (FillKeeps old (g.R.Read.remaining rested) (g.R.BufRead.consumable_len rested)) c.in-Ok.is c.fill_buf.follows.holds-at-none in
    let moved = Consumes_shown old (g.R.Read.remaining rested) new (g.R.BufRead.consumable_len rested) shown (length shown) (omega arith)
    c.in-Ok.ensures.front c.in-Ok.ensures.end filled.0 filled.1 c.consume-in-None.ensures.bytes in
    piece_open old new shown c.args.line.now.items c.keep-in-None.new.line.items c.in-None.ensures moved.0 c.in_ok-keep-in-None.ensures
