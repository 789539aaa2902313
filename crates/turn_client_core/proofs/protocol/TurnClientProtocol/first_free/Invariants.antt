use Rattle.turn_client_laws.proofs.Common.{◌≡◌, ◌+◌, ◌-◌, ◌%◌, ◌^◌, not, map, range_with_len, find}
use Rattle.turn_client_laws.proofs.Machine.{is_taken}
use Rattle.turn_client_core.proofs.protocol.TurnClientProtocol.first_free.Given as goal

abbrev pub invariant-loop-round : goal.invariant-loop-round
invariant-loop-round l = record {
  counted : l.id ≡ (l.fn.first + l._round) % 2 ^ 96;
  found : find (λ id. not (is_taken id l.self)) (map (λ n. (l.fn.first + n) % 2 ^ 96) (range_with_len l._round (l.count - l._round)))
      ≡ find (λ id. not (is_taken id l.self)) (map (λ n. (l.fn.first + n) % 2 ^ 96) (range_with_len 0 l.count));
}
