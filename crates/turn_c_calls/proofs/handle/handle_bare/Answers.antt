use Rattle.std.proofs.Common.{arith}
use Rattle.turn_c_calls.proofs.handle.handle_bare.Goals as goal

pub returns-in_ok-delete-in-Delete-clause-ok : goal.returns-in_ok-delete-in-Delete-clause-ok
returns-in_ok-delete-in-Delete-clause-ok g c = λ bytes unread buffer.
    let h = c.in_ok-delete-in-Delete.ensures.ok unread buffer in grind (arith, h)

pub returns-in_ok-poll-in-Poll-clause-ok : goal.returns-in_ok-poll-in-Poll-clause-ok
returns-in_ok-poll-in-Poll-clause-ok g c = λ bytes unread buffer.
    let h = c.in_ok-poll-in-Poll.ensures.ok unread buffer in grind (arith, h)

pub returns-in-PollEvent-clause-ok : goal.returns-in-PollEvent-clause-ok
returns-in-PollEvent-clause-ok g c = λ bytes unread buffer. let h = c.poll_event.ensures unread buffer in grind (arith, h)

pub returns-in_ok-plain-in-ProtocolError-clause-ok : goal.returns-in_ok-plain-in-ProtocolError-clause-ok
returns-in_ok-plain-in-ProtocolError-clause-ok g c = λ bytes unread buffer.
    let h = c.in_ok-plain-in-ProtocolError.ensures.ok unread buffer in grind (arith, h)
