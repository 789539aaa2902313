-- What the verdict on a message says, and the challenge that was read for it.
use Rattle.std.specs.Prelude.{Option, Some, None}
use Rattle.turn_auth.specs.LongTerm.{Challenge}
use Rattle.turn_auth.specs.declared.validation.Validation.{Validation}
use Rattle.turn_auth.specs.declared.validation.Validation.TheVariants as V
use Rattle.turn_auth.specs.declared.validation.Verdict.{Verdict}
use Rattle.turn_auth.specs.declared.validation.Verdict.TheVariants as T

-- the judgement alone
abbrev pub validation_in : Verdict → Validation
validation_in (T.Signed algorithm) = V.Validated algorithm
validation_in (T.Challenge challenge) = V.ResendRequest challenge.algorithm
validation_in (T.Refused integrity) = V.Refused integrity

abbrev pub challenge_read : Verdict → Option Challenge
challenge_read (T.Signed algorithm) = None
challenge_read (T.Challenge challenge) = Some challenge
challenge_read (T.Refused integrity) = None
