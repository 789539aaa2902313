-- Data of a peer that lies in the input.
use Rattle.std.proofs.Common.{◌≡◌, ℕ, ◌+◌, ◌-◌, ◌≤◌, List, Some, None, drop, length, take, inl, inr, refl, sym, ap, arith, ◌∙◌}
use Rattle.std.proofs.lemmas.List.{length-drop, length-take, take_min}
use Rattle.std.specs.Prelude.{slice_range}
use Rattle.std.specs.declared.convert.AsSlice.{Ghosts}
use Rattle.std.specs.declared.net.socket_addr.SocketAddr.{SocketAddr}
use Rattle.std.specs.declared.ops.Range.{Range}
use Rattle.turn_stun.specs.declared.transport.Transmit.{Transmit}
use Rattle.turn_stun.specs.declared.transport.TransportType.{TransportType}
use Rattle.turn_client_api.specs.Answers.{HandsBack, IsPartOf, given_payload, outcome_of, place_in}
use Rattle.turn_client_api.specs.Payloads as O
use Rattle.turn_client_api.specs.PeerBytes.{IsOwned, held_bytes, held_in, payload_of}
use Rattle.turn_client_api.specs.Range.{part_of, place_of, source_of}
use Rattle.turn_client_api.specs.State.{State}
use Rattle.turn_client_api.specs.Steps.{packet_step}
use Rattle.turn_client_api.specs.declared.call.Call.TheVariants as Calls
use Rattle.turn_client_api.specs.declared.receive.DataRangeOrOwned.{DataRangeOrOwned}
use Rattle.turn_client_api.specs.declared.receive.DataRangeOrOwned.TheVariants as Data
use Rattle.turn_client_api.specs.declared.receive.data_range.DataRange.{DataRange}
use Rattle.turn_client_api.specs.declared.receive.TurnPeerData.{TurnPeerData}
use Rattle.turn_client_api.specs.declared.receive.TurnRecvRet.{TurnRecvRet}
use Rattle.turn_client_api.specs.declared.receive.TurnRecvRet.TheVariants as Recv
use Rattle.turn_client_calls.specs.Run.{recv_reply}
use Rattle.turn_c_calls.specs.Answer.{data_answer}
use Rattle.turn_c_calls.specs.Arms.{IsPointed, Reports}
use Rattle.turn_c_calls.specs.Buffer.{Points}
use Rattle.turn_c_calls.specs.Held.{held}
use Rattle.turn_c_calls.specs.Step.{IsMade, Shows}
use Rattle.turn_c_calls.specs.declared.answer.Answer.{Answer}
use Rattle.turn_c_calls.specs.declared.code.TheConstants.{PEER_DATA_RANGE}
use Rattle.turn_c_calls.proofs.MadeLemmas.{made_so, received}

-- data of a peer at this place of the input
abbrev pub outcome_at : List ℕ → TransportType → SocketAddr → Range ℕ → O.Outcome
outcome_at xs transport peer place = O.PeerData (record {
  transport = transport;
  peer = peer;
  bytes = slice_range xs place.start place.end;
  place = Some place;
})

taken_again : (n : ℕ) (xs : List ℕ) → take (length (take n xs)) xs ≡ take n xs
taken_again n xs = ap (λ m. take m xs) (length-take n xs) ∙ take_min n xs

-- the packet as the machine sees it
abbrev pub shown : {T : Type 0} → Ghosts T ℕ → Transmit T → Transmit (List ℕ)
shown g packet = record { payload = g.items packet.payload; transport = packet.transport; from = packet.from; to = packet.to }

module _ {T : Type 0} {g : Ghosts T ℕ} where
  pointed_whole : (range : DataRange T g)
      → (take (length (part_of range)) (drop (place_of range).start (g.items (source_of range))) ≡ part_of range)
      × ((place_of range).start + length (part_of range) ≤ length (g.items (source_of range)))
  pointed_whole range =
      let xs : List ℕ = g.items (source_of range) in
      let from : ℕ = (place_of range).start in
      let to : ℕ = (place_of range).end in
      let ordered : from ≤ to = range.ordered in
      let inside : to ≤ length xs = range.inside in
      (taken_again (to - from) (drop from xs), omega (arith, length-take (to - from) (drop from xs), length-drop from xs))

  pointed_in : (passed : T) (d : DataRangeOrOwned T g) (part : Range ℕ) → IsPartOf passed d → place_in d ≡ Some part
      → (take (length (held_bytes d)) (drop part.start (g.items passed)) ≡ held_bytes d)
      × (part.start + length (held_bytes d) ≤ length (g.items passed))
  pointed_in passed (Data.Range range) part is place =
      let same : place_of range ≡ part = cc in
      rw (← is, ← same) (pointed_whole range)
  pointed_in passed (Data.Owned bytes) part is place = let no : ⊥ = cc in absurd no

  pointed_by : (packet : Transmit T) (given : TurnPeerData T g) (was buffer after unread : List ℕ) (a b : Answer)
      → IsPartOf packet.payload (held_in given) → IsPointed (O.PeerData (given_payload given)) was buffer after unread a b
      → Points (payload_of given) (g.items packet.payload) was (data_answer given.transport given.peer a) buffer after unread b
  pointed_by packet given was buffer after unread a b is points =
      let start : b.start ≡ points.0.start = ap (λ (x : Answer). x.start) points.2 in
      let whole = pointed_in packet.payload (held_in given) points.0 is points.1 in
      let said : ℕ → Answer = λ n.
      record (data_answer given.transport given.peer a) { kind = PEER_DATA_RANGE; start = n; len = length (payload_of given) } in
      record {
        says = points.2 ∙ ap said (sym start);
        part = rw start whole.0;
        inside = rw start whole.1;
        buffer_is = points.3;
        unread_is = points.4;
      }

  -- the answer says the reply, whatever became of the input
  shown_by : (packet : Transmit T) (outcome : TurnRecvRet T g) (was buffer after unread : List ℕ) (a b : Answer)
      → HandsBack packet outcome → Reports (outcome_of outcome) was buffer after unread a b
      → Shows (recv_reply (outcome_of outcome)) 0 (g.items packet.payload) was buffer after unread a b
  shown_by packet outcome was buffer after unread a b back (inl puts) = inl puts
  shown_by packet Recv.Handled was buffer after unread a b back (inr points) = absurd points
  shown_by packet (Recv.Ignored p) was buffer after unread a b back (inr points) = absurd points
  shown_by packet (Recv.PeerIcmp transport peer icmp_type icmp_code icmp_data) was buffer after unread a b back (inr points) = absurd points
  shown_by packet (Recv.PeerData given) was buffer after unread a b back (inr points) =
      inr (pointed_by packet given was buffer after unread a b back points)

  pub recv_made : (packet : Transmit T) (outcome : TurnRecvRet T g) (now : ℕ) (s t : State) (was unread buffer after : List ℕ) (a b : Answer)
      → outcome_of outcome ≡ (packet_step (shown g packet) now s).0 → t ≡ (packet_step (shown g packet) now s).1
      → HandsBack packet outcome → Reports (outcome_of outcome) was buffer after unread a b
      → IsMade (Calls.Recv (shown g packet) now) 0 (held s was) (held t unread) buffer after a b
  recv_made packet outcome now s t was unread buffer after a b e e' back reports =
      made_so (Calls.Recv (shown g packet) now) s t (recv_reply (outcome_of outcome)) 0 was unread buffer after a b
      (received (outcome_of outcome) (shown g packet) now s t e e')
      (shown_by packet outcome was buffer after unread a b back reports)

  -- bytes that lie nowhere in what was passed in are owned
  pub owned_by : (given : TurnPeerData T g) → place_in (held_in given) ≡ None → IsOwned (held_in given)
  owned_by given none = by (held_in given) none
    where
      by : (d : DataRangeOrOwned T g) → place_in d ≡ None → IsOwned d
      by (Data.Range range) e = let no : ⊥ = cc in absurd no
      by (Data.Owned bytes) e = tt

-- data that lies in the input, of a call that changes nothing
pub range_made : (packet : Transmit (List ℕ)) (transport : TransportType) (peer : SocketAddr) (place : Range ℕ) (now : ℕ) (s : State) (was buffer : List ℕ) (a b : Answer)
    → place.start ≤ place.end → place.end ≤ length packet.payload
    → packet_step packet now s ≡ (outcome_at packet.payload transport peer place, s)
    → b ≡ record (data_answer transport peer a) { kind = PEER_DATA_RANGE; start = place.start; len = place.end - place.start }
    → IsMade (Calls.Recv packet now) 0 (held s was) (held s was) buffer buffer a b
range_made packet transport peer place now s was buffer a b ordered inside e says =
    let xs : List ℕ = packet.payload in
    let size : ℕ = place.end - place.start in
    let part : List ℕ = take size (drop place.start xs) in
    let outcome : O.Outcome = outcome_at xs transport peer place in
    let start : b.start ≡ place.start = ap (λ (x : Answer). x.start) says in
    let long : length part ≡ size = omega (arith, ordered, inside, length-take size (drop place.start xs), length-drop place.start xs) in
    let said : ℕ → ℕ → Answer = λ at n. record (data_answer transport peer a) { kind = PEER_DATA_RANGE; start = at; len = n } in
    let points : Points part xs was (data_answer transport peer a) buffer buffer was b = record {
      says = says ∙ (ap (λ at. said at size) (sym start) ∙ ap (λ n. said b.start n) (sym long));
      part = rw start (taken_again size (drop place.start xs));
      inside = rw (start, long) (omega (arith, ordered, inside));
      buffer_is = refl;
      unread_is = refl;
    } in
    made_so (Calls.Recv packet now) s s (recv_reply outcome) 0 was was buffer buffer a b
    (received outcome packet now s s (sym (ap (λ (p : O.Outcome × State). p.0) e)) (sym (ap (λ (p : O.Outcome × State). p.1) e)))
    (inr points)
