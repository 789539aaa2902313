use Rattle.turn_c_calls.proofs.MadeLemmas.{plain_made}
use Rattle.turn_c_calls.proofs.make.plain.Goals as goal

pub returns-clause-ok : goal.returns-clause-ok
returns-clause-ok g c =
    let s = g.C.TurnClientApi.state c.args.client.now in
    let t = g.C.TurnClientApi.state c.plain_reply_to.new.client in
    plain_made c.args.call.now s t c.in_ok-reply.reply c.args.answer.now c.set_reply.new.self c.in_ok-reply.ensures.ok c.requires.plain c.set_reply.ensures
