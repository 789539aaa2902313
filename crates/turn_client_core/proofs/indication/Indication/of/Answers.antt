use Rattle.turn_client_laws.proofs.Common.{option_map}
use Rattle.turn_client_laws.proofs.Machine.{placed, data_kind, peer_kind, icmp_kind}
use Rattle.turn_client_core.proofs.incoming.MessageLemmas.{last-if, unheaded, unknown-if, value-if, within-if}
use Rattle.turn_client_core.proofs.indication.Indication.of.Goals as goal

pub returns-in-Ok : goal.returns-in-Ok
returns-in-Ok c = record {
  none = c.behind.ensures.none;
  message = c.behind.ensures.message;
  id = c.behind.ensures.id;
  unknown = unknown-if c.args.bytes.now (λ found. found.has_unknown) c.behind.result c.behind.ensures.unknown;
  peer = last-if c.args.bytes.now peer_kind (λ found. option_map placed found.peer) c.behind.result c.behind.ensures.peer;
  payload = last-if c.args.bytes.now data_kind (λ found. option_map placed found.«data») c.behind.result c.behind.ensures.payload;
  icmp = last-if c.args.bytes.now icmp_kind (λ found. option_map placed found.icmp) c.behind.result c.behind.ensures.icmp;
  within = within-if c.args.bytes.now c.behind.result c.behind.ensures.message;
  value = value-if c.args.bytes.now c.behind.result c.behind.ensures.message;
}

pub returns-in-Err-clause-none : goal.returns-in-Err-clause-none
returns-in-Err-clause-none c = unheaded c.args.bytes.now _ c.in-Err.ensures.fault
