use Rattle.turn_auth.proofs.ChallengeLemmas.{challenge_of_is}
use Rattle.turn_auth.proofs.long_term.LongTermClientAuth.validate_incoming_message.Goals as goal

pub returns-clause-challenge : goal.returns-clause-challenge
returns-clause-challenge c = challenge_of_is c.args.self.now c.args.message.now
