use Rattle.std.proofs.Common.{ℕ, List, subst}
use Rattle.turn_session.specs.Giving.{Gives}
use Rattle.turn_session_lines.proofs.SendLemmas.{reply_given}
use Rattle.turn_session_lines.proofs.reply.«data».send.Goals as goal

pub returns : goal.returns
returns g c =
    let bytes = c.args.«data».now in
    let was = c.args.session.now in
    let s = c.send-given.new.self in
    let gives = subst (λ (sent : List ℕ). Gives c.args.transport c.args.to sent c.args.now c.send-given.result was s) c.as_bytes.ensures c.send-given.ensures in
    reply_given c.args.transport c.args.to bytes c.args.now c.send-given.result was s c.reply_of.result gives c.reply_of.ensures
