use Rattle.turn_stun.specs.declared.transport.TransportType.TheVariants.{Udp}
use Rattle.turn_lines.proofs.CallableLemmas.{callable_line}
use Rattle.turn_hostile.proofs.session.call_of.Goals as goal

pub returns-in-Ok : goal.returns-in-Ok
returns-in-Ok c = callable_line Udp c.args.line.now c.in-Ok.call c.in-Ok.ensures
