use Rattle.std.proofs.Common.{arith, ◌≡◌, ◌≤◌, ◌+◌, ℕ, length, nat_lt, Some, Bool, true, ◌&&◌, if◌then◌else◌}
use Rattle.turn_c_calls.specs.Judge.{is_udp}
use Rattle.turn_c_calls.specs.Request.{peer_of}
use Rattle.turn_c_calls.proofs.handle.send_to_peer.Goals as goal
use Rattle.turn_c_calls.proofs.handle.send_to_peer.Goals.{else-eq-via-then-eq+else-bytes-gt-MAX_PAYLOAD, else-eq-via-else-eq}

fitting : {A : Type 0} (udp : Bool) (len room : ℕ) (x y z : A) → (udp ≡ true → len ≤ 65504) → len + 64 ≤ room
    → (if udp && nat_lt 65504 len then x else if nat_lt room (len + 64) then y else z) ≡ z
fitting udp len room x y z few fits = grind (arith, few, fits)

pub returns-clause-ok : goal.returns-clause-ok
returns-clause-ok g c =
    let is : peer_of c.args.request.now ≡ Some (c.args.transport, c.into-to.result) = c.requires.peer _ c.into-to.ensures in
    let udp = is_udp (g.C.TurnClientApi.state c.args.client.now).config.allocation_transport in
    let few : udp ≡ true → length c.args.bytes.now ≤ 65504 = λ yes. elim c.else-eq.branch [
      | else-eq-via-then-eq+else-bytes-gt-MAX_PAYLOAD w ↦ w.if-bytes-gt-MAX_PAYLOAD.false
      | else-eq-via-else-eq w ↦ grind (arith, yes, c.requires.relays, c.eq.ensures, w.if-eq.false)
    ] in
    λ unread is_left. rw is (rw (fitting udp (length c.args.bytes.now) (length c.args.buffer.now) _ _ _ few c.if-buffer-bytes.false) (c.send_to.ensures unread))
