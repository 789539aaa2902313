use Rattle.std.proofs.Common.{arith, refl, sym, ap, ◌∙◌}
use Rattle.std.specs.Prelude.{Err}
use Rattle.turn_client_api.specs.declared.call.Call.TheVariants as Calls
use Rattle.turn_client_calls.specs.declared.refusal.Refusal.{Refusal}
use Rattle.turn_client_calls.specs.declared.reply.Reply.TheVariants as Replies
use Rattle.turn_c_calls.specs.Answer.{refusal_answer}
use Rattle.turn_c_calls.proofs.MadeLemmas.{made, sent}
use Rattle.turn_c_calls.proofs.SendLemmas.{send_short, sent_short}
use Rattle.turn_c_calls.proofs.make.send_to.Goals as goal

pub write-requires : goal.write-requires
write-requires g c =
    let s = g.C.TurnClientApi.state c.args.client.now in
    let said = rw c.in-Ok-Some.field-0-is at c.in-Ok-Some.ensures.answer in
    let short = sent_short _ _ c.args.bytes.now said (send_short c.args.transport c.args.to c.args.bytes.now c.args.now s) in
    omega (arith, short)

pub returns-in-Ok-Some : goal.returns-in-Ok-Some
returns-in-Ok-Some g c = λ u.
    let s = g.C.TurnClientApi.state c.args.client.now in
    let t = g.C.TurnClientApi.state c.send_to.new.self in
    let said = rw c.in-Ok-Some.field-0-is at c.in-Ok-Some.ensures.answer in
    made (Calls.SendTo c.args.transport c.args.to c.args.bytes.now c.args.now) s t _ 0 u u c.args.buffer.now c.write.new.buffer c.args.answer.now c.write.new.answer
    (sent _ c.args.transport c.args.to c.args.bytes.now c.args.now s t (sym said) c.in-Ok-Some.ensures.after)
    (c.write.ensures u)

pub returns-in-Err : goal.returns-in-Err
returns-in-Err g c = λ u.
    let s = g.C.TurnClientApi.state c.args.client.now in
    let t = g.C.TurnClientApi.state c.send_to.new.self in
    let says = c.set_refusal.ensures ∙ ap (λ (refusal : Refusal). refusal_answer refusal c.args.answer.now) c.from.ensures in
    made (Calls.SendTo c.args.transport c.args.to c.args.bytes.now c.args.now) s t (Replies.SendTo (Err c.in-Err.error)) 0 u u
    c.args.buffer.now c.args.buffer.now c.args.answer.now c.set_refusal.new.self
    (sent (Err c.in-Err.error) c.args.transport c.args.to c.args.bytes.now c.args.now s t (sym c.in-Err.ensures.answer) c.in-Err.ensures.after)
    (record { says = says; buffer_is = refl; unread_is = refl })
