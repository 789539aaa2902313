use Rattle.turn_client_laws.proofs.AnyStreamsCalls.{bind_channel-alike, channel_kept-alike, create_permission-alike, delete-alike, event-alike, gone-alike, permission_kept-alike, protocol_error-alike}
use Rattle.turn_client_laws.proofs.AnyStreamsCalls.{send_to-alike, tcp_closed-alike, tcp_connect-alike}
use Rattle.turn_client_laws.proofs.AnyStreamsTime.{poll-alike, transmit-alike}
use Rattle.turn_client_laws.proofs.streams.calls_leave_streams.Goals as goal

pub returns : goal.returns
returns c = record {
  delete = λ now streams s. delete-alike streams now s;
  permission = λ transport ip now streams s. create_permission-alike streams transport ip now s;
  channel = λ transport peer now streams s. bind_channel-alike streams transport peer now s;
  permission_kept = λ transport ip is_kept streams s. permission_kept-alike streams transport ip is_kept s;
  channel_kept = λ transport peer is_kept streams s. channel_kept-alike streams transport peer is_kept s;
  connect = λ peer now streams s. tcp_connect-alike streams peer now s;
  closed = λ local remote streams s. tcp_closed-alike streams local remote s;
  gone = λ local streams s. gone-alike streams local s;
  send = λ transport to bytes now streams s. send_to-alike streams transport to bytes now s;
  poll = λ now streams s. poll-alike streams now s;
  transmit = λ now streams s. transmit-alike streams now s;
  event = λ streams s. event-alike streams s;
  error = λ streams s. protocol_error-alike streams s;
}
