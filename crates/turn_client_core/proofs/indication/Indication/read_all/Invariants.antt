use Rattle.turn_client_laws.proofs.Common.{◌≡◌, ◌+◌, ◌||◌, length, drop, fold, None, list_any, option_map}
use Rattle.turn_client_laws.proofs.Machine.{placed, attributes_from, is_unknown, later_of, icmp_kind, data_kind, peer_kind}
use Rattle.turn_client_core.proofs.indication.Indication.read_all.Given as goal

-- what is found, with what is still to be read
abbrev pub invariant-loop-rest : goal.invariant-loop-rest
invariant-loop-rest l = record {
  same : l.found.id ≡ l.fn.id;
  place : l.offset + length l.rest ≡ length l.bytes;
  peer : option_map (fold (later_of peer_kind) (option_map placed l.found.peer)) (attributes_from 0 l.offset l.rest)
      ≡ option_map (fold (later_of peer_kind) None) (attributes_from 0 20 (drop 20 l.bytes));
  payload : option_map (fold (later_of data_kind) (option_map placed l.found.«data»)) (attributes_from 0 l.offset l.rest)
      ≡ option_map (fold (later_of data_kind) None) (attributes_from 0 20 (drop 20 l.bytes));
  icmp : option_map (fold (later_of icmp_kind) (option_map placed l.found.icmp)) (attributes_from 0 l.offset l.rest)
      ≡ option_map (fold (later_of icmp_kind) None) (attributes_from 0 20 (drop 20 l.bytes));
  unknown : option_map (λ attributes. l.found.has_unknown || list_any is_unknown attributes) (attributes_from 0 l.offset l.rest)
      ≡ option_map (list_any is_unknown) (attributes_from 0 20 (drop 20 l.bytes));
}

abbrev pub decreases-loop-rest : goal.decreases-loop-rest
decreases-loop-rest l = length l.rest
