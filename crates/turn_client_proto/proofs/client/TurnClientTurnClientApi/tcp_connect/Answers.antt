use Rattle.std.proofs.Common.{rules, subst}
use Rattle.turn_client_api.specs.Answers.{Connects}
use Rattle.turn_client_api.specs.Calls.{tcp_connect_step}
use Rattle.turn_client_api.specs.State.{State}
use Rattle.turn_client_proto.specs.Client.{state_of}
use Rattle.turn_client_proto.proofs.client.TurnClientTurnClientApi.tcp_connect.Goals as goal

pub returns-in-Udp : goal.returns-in-Udp
returns-in-Udp c =
    let was = state_of c.args.self.now in
    let inner : Connects c.tcp_connect.result was c.tcp_connect.new.self (tcp_connect_step c.args.peer_addr c.args.now was) = subst
    (λ (s : State). Connects c.tcp_connect.result s c.tcp_connect.new.self (tcp_connect_step c.args.peer_addr c.args.now s)) (search rules) c.tcp_connect.ensures.step in
    record {
      step = subst (λ (s : State). Connects c.tcp_connect.result was s (tcp_connect_step c.args.peer_addr c.args.now was)) (search rules) inner;
    }

pub returns-in-Tcp : goal.returns-in-Tcp
returns-in-Tcp c =
    let was = state_of c.args.self.now in
    let inner : Connects c.tcp_connect-in-Tcp.result was c.tcp_connect-in-Tcp.new.self (tcp_connect_step c.args.peer_addr c.args.now was) = subst
    (λ (s : State). Connects c.tcp_connect-in-Tcp.result s c.tcp_connect-in-Tcp.new.self (tcp_connect_step c.args.peer_addr c.args.now s)) (search rules) c.tcp_connect-in-Tcp.ensures.step in
    record {
      step = subst (λ (s : State). Connects c.tcp_connect-in-Tcp.result was s (tcp_connect_step c.args.peer_addr c.args.now was)) (search rules) inner;
    }
