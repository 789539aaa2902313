use Rattle.turn_client_runs.proofs.LastingPeerLemmas.{peers-last, peers-last-far-ahead, room-at-5-ms, room-late-at-5-ms}
use Rattle.turn_client_runs.proofs.lasting.thousands_of_peers_stay_up.Goals as goal

pub returns : goal.returns
returns c = record { room = room-at-5-ms; room_late = room-late-at-5-ms; last = peers-last; last_far_ahead = peers-last-far-ahead }
