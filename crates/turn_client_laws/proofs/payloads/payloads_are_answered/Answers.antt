use Rattle.turn_client_laws.proofs.HandledLemmas.{poll_recv-Gives, recv-AreOf, input-IsFromPermitted}
use Rattle.turn_client_laws.proofs.payloads.payloads_are_answered.Goals as goal

pub returns : goal.returns
returns c = record {
  recv = recv-AreOf;
  poll_recv = poll_recv-Gives;
  let_in = input-IsFromPermitted;
}
