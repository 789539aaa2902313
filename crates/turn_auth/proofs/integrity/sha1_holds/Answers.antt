use Rattle.std.proofs.Common.{Some, ap, arith, sym, ◌∙◌}
use Rattle.std.specs.Cmp.Lexicographic.{unequal}
use Rattle.turn_auth.proofs.IntegrityLemmas.{IsMessage-short}
use Rattle.turn_auth.proofs.DigestLemmas.{length-hmac_sha1}
use Rattle.turn_auth.proofs.integrity.sha1_holds.Goals as goal

-- a value of another length is no HMAC
pub returns-then-raw-ne20 : goal.returns-then-raw-ne20
returns-then-raw-ne20 c = λ key holds.
    rw (← c.in-Some.ensures.first) (ap Some (sym (unequal _ _ _ (λ e. c.if-raw-ne20.true (e ∙ length-hmac_sha1 key _)))))

-- the attribute ends within the message, at an offset that its length field can express
pub sha1_value-requires-clause-short : goal.sha1_value-requires-clause-short
sha1_value-requires-clause-short c =
    let short = IsMessage-short c.args.message.now _ _ _ c.as_bytes-bytes.ensures.message
    (rw (← c.as_bytes-bytes.ensures.bytes) (c.type_inv.bytes 2)) (rw (← c.as_bytes-bytes.ensures.bytes) (c.type_inv.bytes 3)) in
    omega (arith, c.in-Some.ensures.within, short, c.if-raw-ne20.false)
