use Rattle.std.proofs.Common.{ℕ, ◌≤◌, List, length, take, subst, arith, length-drop}
use Rattle.std.proofs.lemmas.List.{take_rest}
use Rattle.std.specs.Io.KnownBytes.{Appends}
use Rattle.turn_lines.proofs.AppendsLemmas.{Appends-more}
use Rattle.turn_lines.proofs.write.write_bytes.Goals as goal

pub loop-preserved : goal.loop-preserved
loop-preserved g c =
    let bytes = c.args.bytes.now in
    let before = g.W.Write.contents c.loop.writer in
    let after = g.W.Write.contents c.write_some.new.writer in
    let count = c.in_ok-at.field-0 in
    let wrote = subst (λ (rest : List ℕ). (count ≤ length rest) × Appends before after (take count rest)) (take_rest bytes c.loop.at) c.in_ok-at.ensures in
    record {
      within = omega (arith, wrote.0, length-drop c.loop.at bytes, c.loop.invariant.within);
      wrote = Appends-more (g.W.Write.contents c.args.writer.now) before after bytes c.loop.at count c.loop.invariant.wrote wrote.1;
    }
