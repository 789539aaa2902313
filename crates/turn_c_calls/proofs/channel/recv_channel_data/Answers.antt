use Rattle.std.proofs.Common.{◌≡◌, true, refl}
use Rattle.turn_types.proofs.ChannelLemmas.{IsChannel-ReadsChannel, PassesTests-no_fault}
use Rattle.turn_client_api.specs.Payloads.{is_channel_frame}
use Rattle.turn_c_calls.proofs.MadeLemmas.{ignored_made}
use Rattle.turn_c_calls.proofs.RangeLemmas.{range_made}
use Rattle.turn_c_calls.proofs.channel.recv_channel_data.Goals as goal
use Rattle.turn_c_calls.specs.Request.{packet_over}

pub returns-in-Some-clause-made : goal.returns-in-Some-clause-made
returns-in-Some-clause-made c = λ made now unread buffer.
    let a = c.args in
    let place = c.in-Some.place in
    range_made (packet_over a.tuple.now a.bytes.now) c.in-Some.transport c.in-Some.peer place now a.client.now unread buffer a.answer.now
    c.set_channel_data.new.self c.in-Some.ensures.within.0 c.in-Some.ensures.within.1 (c.in-Some.ensures.received now) c.set_channel_data.ensures

pub returns-in-Ok-clause-made : goal.returns-in-Ok-clause-made
returns-in-Ok-clause-made c = λ made now unread buffer.
    let a = c.args in
    let bytes = a.bytes.now in
    let tests = (IsChannel-ReadsChannel bytes _ _ _ c.in-Ok.ensures.found).tests in
    let frame : is_channel_frame bytes ≡ true = rw (PassesTests-no_fault bytes tests) refl in
    ignored_made (packet_over a.tuple.now bytes) now a.client.now unread buffer a.answer.now (c.in-None.ensures.others refl frame now)
