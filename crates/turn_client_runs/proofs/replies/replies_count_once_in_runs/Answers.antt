use Rattle.turn_client_runs.proofs.ReplyLemmas.{made-between, made-in, made-until, reply-again, reply-ends}
use Rattle.turn_client_runs.proofs.replies.replies_count_once_in_runs.Goals as goal

pub returns : goal.returns
returns c = record {
  ended = λ s calls one there is. reply-ends one is;
  again = reply-again;
  copy = made-between;
  later_copy = made-until;
  drawn = λ s calls id. made-in id s calls;
}
