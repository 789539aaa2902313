use Rattle.turn_client_laws.proofs.HandledLemmas.{poll_recv-IsGivenBy, recv-IsGivenBy, recv-IsReportedBy}
use Rattle.turn_client_laws.proofs.PeerLemmas.{datagram-IsMessageFromPermitted, frame-IsFromPermitted}
use Rattle.turn_client_laws.proofs.peers.only_permitted.Goals as goal

pub returns : goal.returns
returns c = record {
  datagram = datagram-IsMessageFromPermitted;
  frame = frame-IsFromPermitted;
  poll_recv = poll_recv-IsGivenBy;
  recv = recv-IsGivenBy;
  icmp = recv-IsReportedBy;
}
