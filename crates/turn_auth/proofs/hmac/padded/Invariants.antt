use Rattle.std.proofs.Common.{◌≡◌, ◌++◌, take, drop}
use Rattle.turn_auth.specs.Hmac.{padded}
use Rattle.turn_auth.proofs.hmac.padded.Given as goal

-- the bytes that were processed are XORed, and the rest of the block is unchanged
abbrev pub invariant-loop-byte : goal.invariant-loop-byte
invariant-loop-byte l = l.byte-items ≡ padded l.pad (take l.byte-index l.block) ++ drop l.byte-index l.block
