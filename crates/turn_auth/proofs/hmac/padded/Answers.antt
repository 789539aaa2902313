use Rattle.std.proofs.Common.{arith}
use Rattle.turn_auth.proofs.HmacLemmas.{padded_more}
use Rattle.turn_auth.proofs.hmac.padded.Goals as goal

pub loop-byte-preserved : goal.loop-byte-preserved
loop-byte-preserved c = rw c.loop-byte.invariant (padded_more c.args.pad c.args.block.now c.loop-byte.byte-index (omega arith))
