use Rattle.std.proofs.Common.{refl, sym, ap, ◌∙◌}
use Rattle.std.specs.Option.{option_map}
use Rattle.std.specs.Prelude.{Some, None}
use Rattle.turn_client_api.specs.Answers.{given_payload}
use Rattle.turn_client_api.specs.declared.call.Call.TheVariants as Calls
use Rattle.turn_client_calls.specs.Run.{peer_data}
use Rattle.turn_client_calls.specs.declared.reply.Reply.TheVariants as Replies
use Rattle.turn_c_calls.proofs.MadeLemmas.{made, drained}
use Rattle.turn_c_calls.proofs.make.poll_recv.Goals as goal

pub returns-in-None-clause-ok : goal.returns-in-None-clause-ok
returns-in-None-clause-ok g c =
    let s = g.C.TurnClientApi.state c.args.client.now in
    let t = g.C.TurnClientApi.state c.poll_recv.new.self in
    made (Calls.PollRecv c.args.now) s t Replies.NoData 0 c.args.unread.now c.args.unread.now c.args.buffer.now c.args.buffer.now c.args.answer.now _
    (drained None c.args.now s t (ap (option_map given_payload) (sym c.in-None.is) ∙ c.in_ok-poll_recv.ensures.answer) c.in_ok-poll_recv.ensures.after)
    (record { says = refl; buffer_is = refl; unread_is = refl })

pub returns-in-Some-clause-ok : goal.returns-in-Some-clause-ok
returns-in-Some-clause-ok g c =
    let s = g.C.TurnClientApi.state c.args.client.now in
    let t = g.C.TurnClientApi.state c.poll_recv.new.self in
    let given = c.in-Some.given in
    let reply = Replies.PeerData (peer_data (given_payload given)) in
    made (Calls.PollRecv c.args.now) s t reply 0 c.args.unread.now c.deliver.new.unread c.args.buffer.now c.deliver.new.buffer c.args.answer.now c.deliver.new.answer
    (drained (Some (given_payload given)) c.args.now s t (ap (option_map given_payload) (sym c.in-Some.is) ∙ c.in_ok-poll_recv.ensures.answer) c.in_ok-poll_recv.ensures.after)
    c.deliver.ensures
