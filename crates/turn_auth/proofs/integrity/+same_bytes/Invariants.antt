use Rattle.std.proofs.Common.{length}
use Rattle.turn_auth.proofs.integrity.+same_bytes.Given as goal

abbrev pub decreases-same_bytes : goal.decreases-same_bytes
decreases-same_bytes l = length l.found.now
