use Rattle.std.proofs.Common.{inl, refl}
use Rattle.turn_c_calls.proofs.give.report.Goals as goal

pub returns-in-Handled : goal.returns-in-Handled
returns-in-Handled g c = rw c.in-Handled.is (inl (record { says = refl; buffer_is = refl; unread_is = refl }))

pub returns-in-Ignored : goal.returns-in-Ignored
returns-in-Ignored g c = rw c.in-Ignored.is (inl (record { says = refl; buffer_is = refl; unread_is = refl }))

pub returns-in-Ok : goal.returns-in-Ok
returns-in-Ok g c =
    rw c.in-PeerData.is (inl (rw (← c.in-Ok.ensures.payload, ← c.in-Ok.ensures.transport, ← c.in-Ok.ensures.peer) c.deliver.ensures))

pub returns : goal.returns
returns g c = rw c.in-PeerIcmp.is (inl (record { says = c.set_peer_icmp.ensures; buffer_is = refl; unread_is = refl }))
