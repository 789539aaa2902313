use Rattle.turn_client_runs.specs.Challenges.{IsWithinChallengeLimit}
use Rattle.turn_client_runs.proofs.HoldLemmas.{holds-any, holds-found}
use Rattle.turn_client_runs.proofs.ChallengeLemmas.{challenge-counts, few-answered, initial-patient, leaves-patient}
use Rattle.turn_client_runs.proofs.challenges.few_challenges_are_answered.Goals as goal

pub returns : goal.returns
returns c = record {
  found = holds-found IsWithinChallengeLimit leaves-patient initial-patient;
  any = holds-any IsWithinChallengeLimit leaves-patient initial-patient;
  each = λ s calls one there is. challenge-counts one is;
  few = few-answered;
}
