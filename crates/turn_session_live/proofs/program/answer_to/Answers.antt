use Rattle.turn_session_lines.proofs.CallableLemmas.{callable_line_of_session}
use Rattle.turn_session_live.proofs.program.answer_to.Goals as goal

pub reply_to-requires : goal.reply_to-requires
reply_to-requires g c = record {
  callable = callable_line_of_session c.args.line.now c.in-Ok.call c.in-Ok.ensures;
}
