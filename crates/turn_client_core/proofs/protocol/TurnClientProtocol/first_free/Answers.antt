use Rattle.turn_client_laws.proofs.Common.{◌+◌, ◌%◌, ◌^◌, not, refl}
use Rattle.turn_client_laws.proofs.Machine.{is_taken}
use Rattle.turn_client_core.proofs.calls.IdLemmas.{counted-on, find-counted}
use Rattle.turn_client_core.proofs.protocol.TurnClientProtocol.first_free.Goals as goal

pub loop-round-preserved : goal.loop-round-preserved
loop-round-preserved c =
    let taken = c.if-not-is_taken.false in
    record {
      counted = rw (c.successor-id.ensures, c.loop-round.invariant.counted) (counted-on c.args.first c.loop-round._round);
      found = rw (
        ← c.loop-round.invariant.found,
        find-counted (λ id. not (is_taken id c.args.self.now)) (λ n. (c.args.first + n) % 2 ^ 96) c.loop-round._round c.args.count c.loop-round-test.true,
        ← c.loop-round.invariant.counted,
        ← c.is_taken.ensures,
        taken,
      ) refl;
    }
