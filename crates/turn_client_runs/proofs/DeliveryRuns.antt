-- In a run all data of peers is returned.
use Rattle.turn_client_laws.proofs.Common.{◌≡◌, ◌∙◌, ℕ, true, List, refl, sym, SocketAddr}
use Rattle.turn_client_laws.proofs.Machine.{TransportType, Udp, same_address, Config, State, initial, Call, datagram_step, is_from_server}
use Rattle.turn_client_laws.proofs.Machine.{recv_step, state_after, state_after_all, same_address-self}
use Rattle.turn_client_laws.proofs.Laws.{before-single, calls-walk, poll_recv-drained}
use Rattle.turn_client_runs.specs.Deliveries.{DataIsReturned, DatagramsAreReturned, InputsAreReturned, StreamsAreDrained}
use Rattle.turn_client_runs.proofs.DeliveryLemmas.{datagram-brings, input-returned}
use Rattle.turn_client_runs.proofs.PeerLemmas.{call-answered}
use Rattle.turn_client_runs.proofs.QuietLemmas.{calls-keep}
use Rattle.turn_client_runs.proofs.RunGrants.{Keeps, call-keeps, first-keeps}
use Rattle.turn_client_runs.proofs.SentWalk.{Stays, Stays-KeepsAllEdits}

-- a datagram from the server is processed as such
module _ (transport : TransportType) (from to : SocketAddr) (bytes : List ℕ) (now : ℕ) where
  datagram-step : (carrier : TransportType) (s : State) → carrier ≡ Udp → transport ≡ Udp → from ≡ s.remote → to ≡ s.local
      → let u = record s { transport = carrier } in recv_step transport from to bytes now u ≡ datagram_step bytes now u
  datagram-step Udp s e over here there =
      let u = record s { transport = Udp } in
      let server : is_from_server transport from u ≡ true = rw (over, here) (same_address-self s.remote) in
      let local : same_address to s.local ≡ true = rw there (same_address-self s.local) in
      rw (server, local) refl
  datagram-step carrier s e over here there = cc

module _ (transport : TransportType) (local remote : SocketAddr) (config : Config) (seed : List ℕ) (calls : List Call) where
  abbrev first : State
  first = initial transport local remote config seed

  keeps : (earlier : List Call) → Keeps (state_after_all first earlier)
  keeps earlier = calls-keep Keeps call-keeps earlier first (first-keeps transport local remote config seed)

  stays : (earlier : List Call) → Stays first (state_after_all first earlier)
  stays earlier = calls-keep (Stays first) then earlier first (refl, refl, refl, refl)
    where
      then : (call : Call) (s : State) → Stays first s → Stays first (state_after call s)
      then call s before =
          let after = calls-walk Stays Stays-KeepsAllEdits (λ t streams. (refl, refl, refl, refl)) call s in
          (after.0 ∙ before.0, after.1 ∙ before.1, after.2 ∙ before.2, after.3 ∙ before.3)

  pub datagrams : DatagramsAreReturned first calls
  datagrams earlier packet now later payload e udp over from to is =
      let s = state_after_all first earlier in
      let same = stays earlier in
      datagram-step packet.transport packet.from packet.to packet.payload now s.transport s (same.0 ∙ udp) over (from ∙ sym same.2) (to ∙ sym same.1)
      ∙ datagram-brings packet.payload now s payload (keeps earlier).2 is

  pub inputs : InputsAreReturned first calls
  inputs earlier call later e =
      let s = state_after_all first earlier in
      let k = keeps earlier in
      record {
        each = λ one among. input-returned one (before-single call s one k.4 k.2 among);
        all = sym (call-answered call s);
      }

  pub drained : StreamsAreDrained first calls
  drained earlier now later e none = poll_recv-drained now (state_after_all first earlier) none

  pub run-returns : DataIsReturned first calls
  run-returns = (datagrams, inputs, drained)
