use Rattle.turn_client_laws.proofs.Common.{◌≡◌, ◌∙◌, ◌+◌, ◌%◌, ◌<◌, ◌^◌, arith, length, map, not, rules, range_with_len, find}
use Rattle.turn_client_laws.proofs.Machine.{next_id, fresh_id, is_taken, max_ids_taken}
use Rattle.std.specs.Prelude.{unwrap_or}
use Rattle.turn_client_core.proofs.calls.IdLemmas.{fresh-is, fresh-unlisted, fresh-unsent}
use Rattle.turn_client_core.proofs.protocol.TurnClientProtocol.fresh_id.Goals as goal

-- each of the three counts is a usize
few : (c : goal.After-unwrap_or) → max_ids_taken c.args.self.now < 2 ^ 96
few c =
    let listed : c.listing_count.result ≡ length c.self.inside.ledger.listed = rw c.table.ensures.listed at c.listing_count.ensures in
    let granted : c.count.result ≡ length c.self.inside.ledger.grants = rw c.table-2.ensures.grants at c.count.ensures in
    let asked : c.outstanding.result ≡ length c.self.inside.outbox.transactions = rw c.agent.ensures.transactions at c.outstanding.ensures in
    rw (← c.self.view_is)
    (omega (arith, asked, listed, granted, c.outstanding.type_inv, c.listing_count.type_inv, c.count.type_inv))

is : (c : goal.After-unwrap_or) → c.unwrap_or.result ≡ fresh_id c.args.self.now
is c = found ∙ fresh-is c.args.self.now (few c)
  where
    found : c.unwrap_or.result ≡ unwrap_or (find (λ id. not (is_taken id c.args.self.now))
        (map (λ n. (next_id c.args.self.now.ids + n) % 2 ^ 96) (range_with_len 0 (max_ids_taken c.args.self.now + 1)))) (next_id c.args.self.now.ids)
    found = search rules

pub returns-clause-id : goal.returns-clause-id
returns-clause-id c = is c

pub returns-clause-unsent : goal.returns-clause-unsent
returns-clause-unsent c = rw (is c) (fresh-unsent c.args.self.now)

pub returns-clause-unlisted : goal.returns-clause-unlisted
returns-clause-unlisted c = rw (is c) (fresh-unlisted c.args.self.now)
