use Rattle.std.proofs.Common.{◌≡◌, ◌∙◌, ℕ, true, List, ap, subst, sym}
use Rattle.std.specs.Prelude.{IsOk, OnOk, Result, Ok, Err}
use Rattle.std.specs.declared.net.socket_addr.SocketAddr.{SocketAddr}
use Rattle.turn_stun.specs.declared.transport.TransportType.{TransportType}
use Rattle.turn_stun.specs.declared.transport.TransportType.TheVariants.{Udp}
use Rattle.turn_client_api.specs.Answers.{takes_no_memory}
use Rattle.turn_client_api.specs.Receive.{recv_step}
use Rattle.turn_client_api.specs.State.{State}
use Rattle.turn_session_client.specs.Answering.{is_channel_data}
use Rattle.turn_session_client.specs.NotedState.{NotedState}
use Rattle.turn_session_client.proofs.ChannelDataLemmas.{free, unchanged}
use Rattle.turn_session_client.proofs.noted.NotedClient.recv_channel_datagram.Goals as goal

of-ok : {T E P : Type 0} (r : Result T E) → IsOk r → OnOk r P → P
of-ok (Ok x) ok p = p
of-ok (Err e) ok p = cc

free-over : (transport : TransportType) (from to : SocketAddr) (bytes : List ℕ) (s : State) → transport ≡ Udp → is_channel_data bytes ≡ true
    → takes_no_memory transport from to bytes s ≡ true
free-over transport from to bytes s udp channel =
    subst (λ (t : TransportType). takes_no_memory t from to bytes s ≡ true) (sym udp) (free from to bytes s channel)

unchanged-over : (transport : TransportType) (from to : SocketAddr) (bytes : List ℕ) (now : ℕ) (s : State) → transport ≡ Udp
    → is_channel_data bytes ≡ true → (recv_step transport from to bytes now s).1 ≡ s
unchanged-over transport from to bytes now s udp channel =
    subst (λ (t : TransportType). (recv_step t from to bytes now s).1 ≡ s) (sym udp) (unchanged from to bytes now s channel)

same-client : (inside was : NotedState) (client : State) → inside ≡ was → client ≡ inside.client → record inside { client = client } ≡ was
same-client inside was client is same = ap (λ (c : State). record inside { client = c }) same ∙ is

pub returns-clause-free : goal.returns-clause-free
returns-clause-free g c =
    let t = c.args.transmit in
    c.recv.ensures.free (free-over t.transport t.from t.to (g.T.AsSlice.items t.payload) (g.C.TurnClientApi.state c.self.inside.client)
    c.requires.datagram c.requires.channel_data)

pub returns-clause-same : goal.returns-clause-same
returns-clause-same g c =
    let t = c.args.transmit in
    let bytes = g.T.AsSlice.items t.payload in
    let client = g.C.TurnClientApi.state c.self.inside.client in
    let ok = c.recv.ensures.free (free-over t.transport t.from t.to bytes client c.requires.datagram c.requires.channel_data) in
    same-client _ c.args.self.now (g.C.TurnClientApi.state c.recv.new.self) c.self.view_is
    (of-ok c.recv.result ok c.recv.ensures.after
    ∙ unchanged-over t.transport t.from t.to bytes c.args.now client c.requires.datagram c.requires.channel_data)
