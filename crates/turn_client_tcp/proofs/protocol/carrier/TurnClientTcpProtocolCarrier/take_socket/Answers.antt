use Rattle.std.proofs.Common.{◌≡◌, ◌∙◌, None, Result, Some, ap, subst, sym}
use Rattle.turn_client_api.specs.Answers.{TakesSocket}
use Rattle.turn_client_api.specs.Calls.{allocated_tcp_socket_step, with_stream}
use Rattle.turn_client_api.specs.State.{State}
use Rattle.turn_client_api.specs.declared.error.TcpAllocateError.{TcpAllocateError}
use Rattle.turn_client_laws.proofs.AnyStreamsEffects.{opened_in, socket-alike}
use Rattle.turn_client_laws.proofs.AnyStreamsLemmas.{with_streams}
use Rattle.turn_client_laws.specs.StreamEffects.{opens_at}
use Rattle.turn_client_tcp.proofs.CallLemmas.{fails-with, opens-ok, opens-with, takes-with}
use Rattle.turn_client_tcp.proofs.protocol.carrier.TurnClientTcpProtocolCarrier.take_socket.Goals as goal

-- the step with the streams is that of the control machine, and then the stream is opened that `opens_at` names

pub returns-in_default : goal.returns-in_default
returns-in_default c =
    let x = c.self.inside.streams.list in
    let was = c.deref_mut.result.now in
    let view = ap (with_streams x) c.deref_mut.ensures.value ∙ c.self.view_is in
    let t = c.allocated_tcp_socket.new.self in
    let a = c.args in
    let r = c.allocated_tcp_socket.result in
    let said = allocated_tcp_socket_step a.id a.five_tuple a.peer_addr a.local_addr a.now was in
    let none : opens_at a.id a.five_tuple a.peer_addr a.local_addr was ≡ None =
    ap (opens_at a.id a.five_tuple a.peer_addr a.local_addr) (c.deref_mut.ensures.value ∙ sym c.deref.ensures) ∙ (sym c.opens_at.ensures ∙ c.in_default.is) in
    let same = socket-alike x a.id a.five_tuple a.peer_addr a.local_addr a.now was ∙ ap (λ o. opened_in x o said) none in
    record { step = rw (← view) (subst (TakesSocket r (with_streams x was) (with_streams x t)) (sym same) (takes-with x was t r said c.allocated_tcp_socket.ensures.step)) }

pub returns-in_default-reserve : goal.returns-in_default-reserve
returns-in_default-reserve c =
    let x = c.self.inside.streams.list in
    let was = c.self.inside.control.value in
    let a = c.args in
    let some = ap (opens_at a.id a.five_tuple a.peer_addr a.local_addr) (sym c.deref.ensures) ∙ (sym c.opens_at.ensures ∙ c.in-Some.is) in
    let same = socket-alike x a.id a.five_tuple a.peer_addr a.local_addr a.now was in
    let ok = ap (λ (p : Result Unit TcpAllocateError × State). p.0) same ∙ opens-ok a.id a.five_tuple a.peer_addr a.local_addr a.now was c.in-Some.local some in
    record { step = rw (← c.self.view_is) (ok, ap (λ l. with_streams l was) c.reserve.ensures.list) }

pub returns-in-Err : goal.returns-in-Err
returns-in-Err c =
    let x = c.self.inside.streams.list in
    let was = c.deref_mut-2.result.now in
    let view = ap (with_streams x) c.deref_mut-2.ensures.value ∙ c.self.view_is in
    let t = c.allocated_tcp_socket-2.new.self in
    let a = c.args in
    let said = allocated_tcp_socket_step a.id a.five_tuple a.peer_addr a.local_addr a.now was in
    let some = ap (opens_at a.id a.five_tuple a.peer_addr a.local_addr) (c.deref_mut-2.ensures.value ∙ sym c.deref.ensures) ∙ (sym c.opens_at.ensures ∙ c.in-Some.is) in
    let ok = opens-ok a.id a.five_tuple a.peer_addr a.local_addr a.now was c.in-Some.local some in
    let same = socket-alike x a.id a.five_tuple a.peer_addr a.local_addr a.now was in
    let kept = fails-with x was t (opens_at a.id a.five_tuple a.peer_addr a.local_addr was) c.in-Err.refusal said ok c.in-Err.ensures.step in
    let left = ap (λ l. with_streams l t) c.reserve.ensures.list in
    record {
      step = rw (← view)
          (subst (λ (s : State). TakesSocket (Result.Err c.in-Err.refusal) (with_streams x was) s (allocated_tcp_socket_step a.id a.five_tuple a.peer_addr a.local_addr a.now (with_streams x was)))
          (sym left) (subst (TakesSocket (Result.Err c.in-Err.refusal) (with_streams x was) (with_streams x t)) (sym same) kept));
    }

pub returns-in-Ok-allocated_tcp_socket : goal.returns-in-Ok-allocated_tcp_socket
returns-in-Ok-allocated_tcp_socket c =
    let x = c.self.inside.streams.list in
    let was = c.deref_mut-2.result.now in
    let view = ap (with_streams x) c.deref_mut-2.ensures.value ∙ c.self.view_is in
    let t = c.allocated_tcp_socket-2.new.self in
    let a = c.args in
    let said = allocated_tcp_socket_step a.id a.five_tuple a.peer_addr a.local_addr a.now was in
    let some = ap (opens_at a.id a.five_tuple a.peer_addr a.local_addr) (c.deref_mut-2.ensures.value ∙ sym c.deref.ensures) ∙ (sym c.opens_at.ensures ∙ c.in-Some.is) in
    let same = socket-alike x a.id a.five_tuple a.peer_addr a.local_addr a.now was ∙ ap (λ o. opened_in x o said) some in
    let left = c.open.ensures t ∙ ap (λ l. with_stream c.in-Some.local (with_streams l t)) c.reserve.ensures.list in
    let opened = opens-with x was t (Some c.in-Some.local) said c.in-Ok-allocated_tcp_socket.ensures.step in
    record {
      step = rw (← view) (
        opened.0 ∙ ap (λ (p : Result Unit TcpAllocateError × State). p.0) (sym same),
        left ∙ (opened.1 ∙ ap (λ (p : Result Unit TcpAllocateError × State). p.1) (sym same)),
      );
    }
