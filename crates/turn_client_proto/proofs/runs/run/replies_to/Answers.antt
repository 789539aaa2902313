use Rattle.std.proofs.Common.{ap, arith, ◌∙◌}
use Rattle.std.proofs.lemmas.Grind.{common_steps}
use Rattle.turn_client_api.specs.State.{State}
use Rattle.turn_client_calls.specs.declared.reply.Reply.{Reply}
use Rattle.turn_client_proto.proofs.RunLemmas.{relays_stay}
use Rattle.turn_client_proto.proofs.runs.run.replies_to.Goals as goal

pub loop-call-preserved : goal.loop-call-preserved
loop-call-preserved g c =
    let stay = relays_stay c.call-item.result (g.C.TurnClientApi.state c.loop-call.client) in
    record {
      replies = grind (arith, common_steps);
      relays = ap (λ (p : Reply × State). p.1.config.allocation_transport) c.in_ok-reply_to.ensures.ok ∙ stay ∙ c.loop-call.invariant.relays;
      client = grind (arith, common_steps);
    }
