use Rattle.turn_client_laws.proofs.AcceptedReplyLemmas.{accepted-ended, accepted-gone, accepted-outstanding, bind-ended, bind-outstanding}
use Rattle.turn_client_laws.proofs.LateReplyLemmas.{stray-binds, stray-grants}
use Rattle.turn_client_laws.proofs.replies.replies_count_once.Goals as goal

pub returns : goal.returns
returns c = record {
  outstanding = accepted-outstanding;
  ended = accepted-ended;
  gone = accepted-gone;
  bind_outstanding = bind-outstanding;
  bind_ended = bind-ended;
  copy = stray-grants;
  binds_nothing = stray-binds;
}
