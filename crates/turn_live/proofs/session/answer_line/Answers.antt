use Rattle.std.proofs.Common.{sym, subst}
use Rattle.turn_stun.specs.declared.transport.TransportType.{TransportType}
use Rattle.turn_client_calls.specs.Run.{IsCallable}
use Rattle.turn_live.proofs.CallsLemmas.{line_is_callable}
use Rattle.turn_live.proofs.session.answer_line.Goals as goal

pub reply_to-requires : goal.reply_to-requires
reply_to-requires g c = record {
  callable = subst (λ (relays : TransportType). IsCallable relays c.in-Ok.call) (sym c.requires)
      (line_is_callable c.args.relays c.args.line.now c.in-Ok.call c.in-Ok.ensures);
}
