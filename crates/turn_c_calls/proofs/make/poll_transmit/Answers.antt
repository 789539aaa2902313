use Rattle.std.proofs.Common.{refl, sym, ◌∙◌}
use Rattle.std.specs.Prelude.{Some, None}
use Rattle.turn_client_api.specs.declared.call.Call.TheVariants as Calls
use Rattle.turn_client_calls.specs.declared.reply.Reply.TheVariants as Replies
use Rattle.turn_c_calls.proofs.MadeLemmas.{made, transmitted}
use Rattle.turn_c_calls.proofs.make.poll_transmit.Goals as goal

pub returns-in-None-clause-ok : goal.returns-in-None-clause-ok
returns-in-None-clause-ok g c =
    let s = g.C.TurnClientApi.state c.args.client.now in
    let t = g.C.TurnClientApi.state c.poll_transmit.new.self in
    made (Calls.PollTransmit c.args.now) s t (Replies.Transmit None) 0 c.args.unread.now c.args.unread.now c.args.buffer.now c.args.buffer.now c.args.answer.now _
    (transmitted None c.args.now s t (sym c.in-None.is ∙ c.in_ok-poll_transmit.ensures.answer) c.in_ok-poll_transmit.ensures.after)
    (record { says = refl; buffer_is = refl; unread_is = refl })

pub returns-in-Some-clause-ok : goal.returns-in-Some-clause-ok
returns-in-Some-clause-ok g c =
    let s = g.C.TurnClientApi.state c.args.client.now in
    let t = g.C.TurnClientApi.state c.poll_transmit.new.self in
    let packet = c.in-Some.packet in
    made (Calls.PollTransmit c.args.now) s t (Replies.Transmit (Some packet)) 0 c.args.unread.now c.give.new.unread c.args.buffer.now c.give.new.buffer c.args.answer.now c.give.new.answer
    (transmitted (Some packet) c.args.now s t (sym c.in-Some.is ∙ c.in_ok-poll_transmit.ensures.answer) c.in_ok-poll_transmit.ensures.after)
    (rw (← c.set_packet.ensures) c.give.ensures)
