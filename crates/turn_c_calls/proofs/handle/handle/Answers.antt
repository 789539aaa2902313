use Rattle.std.proofs.Common.{arith, length}
use Rattle.std.specs.Prelude.{nat_lt}
use Rattle.turn_c_calls.proofs.handle.handle.Goals as goal

pub returns-in_ok-send_to-in-SendTo-clause-ok : goal.returns-in_ok-send_to-in-SendTo-clause-ok
returns-in_ok-send_to-in-SendTo-clause-ok g c =
    let h = c.in_ok-send_to-in-SendTo.ensures.ok c.args.unread.now (nat_lt 0 (length c.args.unread.now)) in grind (arith, h)

pub returns-in_err-send_to-in-SendTo-clause-err : goal.returns-in_err-send_to-in-SendTo-clause-err
returns-in_err-send_to-in-SendTo-clause-err g c =
    let h = c.in_err-send_to-in-SendTo.ensures.err c.args.unread.now (nat_lt 0 (length c.args.unread.now)) in grind (arith, h)
