use Rattle.std.proofs.Common.{◌≡◌, false, [], length, sym, ap, ◌∙◌, rules}
use Rattle.std.proofs.lemmas.List.{nil_from_length}
use Rattle.turn_types.specs.Buffers.{Buffered}
use Rattle.turn_types.proofs.BufferLemmas.{first-IsCounted}
use Rattle.turn_types.proofs.tcp.buffer.TurnTcpBuffer.incoming_tcp.Goals as goal

pub returns-then-is_empty-clause-counted : goal.returns-then-is_empty-clause-counted
returns-then-is_empty-clause-counted g c =
    let old = c.args.self.now in
    let empty : length old.stream.bytes ≡ 0 = search rules in
    let nothing : old.stream.bytes ≡ [] = nil_from_length old.stream.bytes empty in
    let unbroken : old.stream.is_broken ≡ false = sym (ap (λ (b : Buffered). b.stream.is_broken) c.self.view_is) ∙ c.if-self.false in
    first-IsCounted old c.first_of.new.self _ nothing unbroken c.first_of.ensures.counted
