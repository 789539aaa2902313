use Rattle.turn_client_laws.proofs.ChannelRange.{initial-HasNumbersInRange, leaves-HasNumbersInRange}
use Rattle.turn_client_laws.proofs.states.channel_numbers_are_in_range.Goals as goal

pub returns-clause-initial : goal.returns-clause-initial
returns-clause-initial c = initial-HasNumbersInRange

pub returns-clause-kept : goal.returns-clause-kept
returns-clause-kept c = leaves-HasNumbersInRange
