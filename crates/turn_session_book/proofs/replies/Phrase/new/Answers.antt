use Rattle.std.proofs.Common.{◌≡◌, take, arith}
use Rattle.std.proofs.lemmas.Grind.{common_steps}
use Rattle.turn_session_book.proofs.PhraseLemmas.{take-phrase, drop-phrase}
use Rattle.turn_session_book.proofs.replies.Phrase.new.Goals as goal

pub returns-clause-text : goal.returns-clause-text
returns-clause-text c =
    let copied : c.copy_from_slice.new.self ≡ take c.min-len.result c.args.text.now = grind (arith, common_steps, c.copy_from_slice.ensures.after) in
    take-phrase c.args.text.now c.copy_from_slice.new.self _ c.min-len.result copied c.min-len.ensures

pub returns-clause-padding : goal.returns-clause-padding
returns-clause-padding c =
    let copied : c.copy_from_slice.new.self ≡ take c.min-len.result c.args.text.now = grind (arith, common_steps, c.copy_from_slice.ensures.after) in
    drop-phrase c.args.text.now c.copy_from_slice.new.self c.min-len.result copied c.min-len.ensures
