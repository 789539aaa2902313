use Rattle.std.proofs.Common.{rules, subst}
use Rattle.turn_client_api.specs.Answers.{CreatesPermission}
use Rattle.turn_client_api.specs.Calls.{create_permission_step}
use Rattle.turn_client_api.specs.State.{State}
use Rattle.turn_client_proto.specs.Client.{state_of}
use Rattle.turn_client_proto.proofs.client.TurnClientTurnClientApi.create_permission.Goals as goal

pub returns-in-Udp : goal.returns-in-Udp
returns-in-Udp c =
    let was = state_of c.args.self.now in
    let inner : CreatesPermission c.create_permission.result was c.create_permission.new.self (create_permission_step c.args.transport c.args.peer_addr c.args.now was) = subst
    (λ (s : State). CreatesPermission c.create_permission.result s c.create_permission.new.self (create_permission_step c.args.transport c.args.peer_addr c.args.now s)) (search rules) c.create_permission.ensures.step in
    record {
      step = subst (λ (s : State). CreatesPermission c.create_permission.result was s (create_permission_step c.args.transport c.args.peer_addr c.args.now was)) (search rules) inner;
    }

pub returns-in-Tcp : goal.returns-in-Tcp
returns-in-Tcp c =
    let was = state_of c.args.self.now in
    let inner : CreatesPermission c.create_permission-in-Tcp.result was c.create_permission-in-Tcp.new.self (create_permission_step c.args.transport c.args.peer_addr c.args.now was) = subst
    (λ (s : State). CreatesPermission c.create_permission-in-Tcp.result s c.create_permission-in-Tcp.new.self (create_permission_step c.args.transport c.args.peer_addr c.args.now s)) (search rules) c.create_permission-in-Tcp.ensures.step in
    record {
      step = subst (λ (s : State). CreatesPermission c.create_permission-in-Tcp.result was s (create_permission_step c.args.transport c.args.peer_addr c.args.now was)) (search rules) inner;
    }
