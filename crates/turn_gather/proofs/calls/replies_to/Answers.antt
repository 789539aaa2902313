use Rattle.turn_client_laws.proofs.Common.{arith, ◌∙◌, common_steps}
use Rattle.turn_gather.proofs.DriveLemmas.{gather_step-relays}
use Rattle.turn_gather.proofs.calls.replies_to.Goals as goal

pub loop-call-preserved : goal.loop-call-preserved
loop-call-preserved g c = record {
  replies = grind (arith, common_steps);
  gatherer = grind (arith, common_steps);
  relays = gather_step-relays c.loop-call.gatherer c.reply_to.new.gatherer c.call-item.result c.in_ok-reply_to.field-0 c.in_ok-reply_to.ensures ∙ c.loop-call.invariant.relays;
}
