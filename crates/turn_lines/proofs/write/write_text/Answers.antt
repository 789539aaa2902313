use Rattle.std.proofs.Common.{List, ℕ, subst}
use Rattle.std.specs.Io.KnownBytes.{Appends}
use Rattle.turn_lines.proofs.AppendsLemmas.{flush_failed}
use Rattle.turn_lines.proofs.write.write_text.Goals as goal

pub returns-then-is_err : goal.returns-then-is_err
returns-then-is_err g c =
    let old = g.W.Write.contents c.args.writer.now in
    let written = g.W.Write.contents c.write_bytes.new.writer in
    let wrote = subst (λ (text : List ℕ). Appends old written text) c.as_bytes.ensures.value c.in_ok-write_bytes.ensures in
    let cut = flush_failed old written (g.W.Write.contents c.flush.new.self) c.args.text.now wrote c.flush.ensures.bytes in
    (cut.0, cut.1)
