use Rattle.std.proofs.Common.{arith, ◌≡◌, ◌+◌, ◌%◌, ◌^◌, ◌<◌, ℕ}
use Rattle.turn_agent.specs.TransactionIds.{keyed_id_at}
use Rattle.turn_agent.proofs.number_source.drawn_id.Goals as goal

below : (p : ℕ) → p < 2 ^ 68 → p % 2 ^ 68 ≡ p
below p h = omega arith

-- the word after the next one
twice : (p : ℕ) → ((p + 1) % 2 ^ 68 + 1) % 2 ^ 68 ≡ (p + 2) % 2 ^ 68
twice p = omega arith

pub returns-clause-id : goal.returns-clause-id
unfolding keyed_id_at
returns-clause-id c =
    let p = c.args.generator.now.word_pos in
    let first : p % 2 ^ 68 ≡ p = below p c.requires.place in
    let third = twice p in
    rw (
      c.from_bytes.ensures,
      c.drawn_bytes-3.ensures.bytes,
      c.drawn_bytes-2.ensures.bytes,
      c.drawn_bytes.ensures.bytes,
      c.drawn_bytes-2.ensures.after,
      c.drawn_bytes.ensures.after,
      c.requires.stream,
      first,
      third,
    )
