use Rattle.std.proofs.Common.{refl, ◌∙◌}
use Rattle.turn_session_lines.proofs.reply.grants.Goals as goal

pub returns : goal.returns
returns g c = (c.in_ok-from_slice.field-0, refl, c.in_ok-from_slice.ensures.items ∙ c.grants.ensures, refl)
