use Rattle.turn_session_laws.proofs.RunLemmas.{closed-socket-runs, fails-socket-runs, requests-runs, sent-runs, set-kept-runs, takes-socket-runs}
use Rattle.turn_session_laws.proofs.SessionRunLemmas.{event-keeps, polls, polls-data, receives-bytes, transmit-runs}
use Rattle.turn_session_laws.proofs.runs.sessions_are_runs.Goals as goal

pub returns : goal.returns
returns c = record {
  recv = receives-bytes;
  poll_recv = polls-data;
  poll = polls;
  poll_transmit = transmit-runs;
  poll_event = event-keeps;
  request = requests-runs;
  set_kept = set-kept-runs;
  send_to = sent-runs;
  data_opened = takes-socket-runs;
  data_failed = fails-socket-runs;
  data_closed = closed-socket-runs;
}
