use Rattle.turn_client_calls.proofs.CallableLemmas.{callable_anywhere}
use Rattle.turn_refusals.proofs.make.ask.Goals as goal

pub reply_to-requires : goal.reply_to-requires
reply_to-requires g c = record {
  callable = callable_anywhere _ c.args.call.now c.requires;
}
