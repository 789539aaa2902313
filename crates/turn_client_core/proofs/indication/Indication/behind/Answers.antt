use Rattle.turn_client_laws.proofs.Common.{◌∙◌}
use Rattle.turn_client_core.proofs.incoming.MessageLemmas.{cut-if, other-length, whole-if}
use Rattle.turn_client_core.proofs.indication.Indication.behind.Goals as goal

pub returns-then-from-bytes-clause-none : goal.returns-then-from-bytes-clause-none
returns-then-from-bytes-clause-none c = other-length c.args.bytes.now c.from.result c.requires.headed (c.from.ensures ∙ c.requires.len) c.if-from-bytes.true

pub returns-clause-none : goal.returns-clause-none
returns-clause-none c = cut-if c.args.bytes.now c.from.result c.read_all.result c.requires.headed (c.from.ensures ∙ c.requires.len) c.if-from-bytes.false c.read_all.ensures.cut

pub returns-clause-message : goal.returns-clause-message
returns-clause-message c = whole-if c.args.bytes.now c.from.result c.read_all.result c.requires.headed (c.from.ensures ∙ c.requires.len) c.if-from-bytes.false c.read_all.ensures.whole
