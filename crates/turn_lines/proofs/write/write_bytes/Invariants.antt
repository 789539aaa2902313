use Rattle.std.proofs.Common.{◌≤◌, length, take}
use Rattle.std.specs.Io.KnownBytes.{Appends}
use Rattle.turn_lines.proofs.write.write_bytes.Given as goal

abbrev pub invariant-loop : goal.invariant-loop
invariant-loop g l = record {
  within : l.at ≤ length l.bytes;
  wrote : Appends (g.W.Write.contents l.initial.writer) (g.W.Write.contents l.writer) (take l.at l.bytes);
}
