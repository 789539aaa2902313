use Rattle.std.proofs.Common.{refl}
use Rattle.turn_relay.proofs.CallLemmas.{sends-in}
use Rattle.turn_relay.proofs.relay.Relay.send_over.Goals as goal

pub returns-in-Ok-Packet : goal.returns-in-Ok-Packet
returns-in-Ok-Packet g c =
    let a = c.args in
    sends-in a.self.now _ a.place c.at-live.result.now c.send.new.self c.touch.result.now c.self.view_is c.at-live.ensures.value
    c.touch.ensures.value a.transport a.to (g.T.AsSlice.items a.data) a.now _ c.send.result _ c.send.ensures
    (rw (c.in-Ok-Packet.is, c.in-Ok-Packet.field-0-is) (rw c.link-socket.ensures (refl, refl)))

pub returns-in-Ok-Requested : goal.returns-in-Ok-Requested
returns-in-Ok-Requested g c =
    let a = c.args in
    sends-in a.self.now _ a.place c.at-live.result.now c.send.new.self c.touch.result.now c.self.view_is c.at-live.ensures.value
    c.touch.ensures.value a.transport a.to (g.T.AsSlice.items a.data) a.now _ c.send.result _ c.send.ensures
    (rw (c.in-Ok-Requested.is, c.in-Ok-Requested.field-0-is) c.request_permission.ensures)

pub returns-in-Err : goal.returns-in-Err
returns-in-Err g c =
    let a = c.args in
    sends-in a.self.now _ a.place c.at-live.result.now c.send.new.self c.touch.result.now c.self.view_is c.at-live.ensures.value
    c.touch.ensures.value a.transport a.to (g.T.AsSlice.items a.data) a.now _ c.send.result _ c.send.ensures
    (rw c.in-Err.is (refl, refl))
