-- Worked runs, with times in nanoseconds.
use Rattle.std.specs.Prelude.{ℕ, List, [], ◌∷◌}
use Rattle.turn_stun.specs.declared.transport.TransportType.{TransportType}
use Rattle.turn_session_path.specs.Rounds.{round_step}
use Rattle.turn_session_path.specs.Suspicion.{suspicion_step}
use Rattle.turn_session_path.specs.declared.round.Round.{Round}
use Rattle.turn_session_path.specs.declared.round.RoundStep.{RoundStep}
use Rattle.turn_session_path.specs.declared.suspicion.DoubtStep.{DoubtStep}
use Rattle.turn_session_path.specs.declared.suspicion.Suspicion.{Suspicion}

-- what a round does that is polled at these times
abbrev pub polled_round : TransportType → List ℕ → Round → List RoundStep
polled_round transport [] r = []
polled_round transport (now ∷ later) r = (round_step transport now r).0 ∷ polled_round transport later (round_step transport now r).1

-- what doubts lead to that are polled at these times
abbrev pub polled_doubts : List ℕ → Suspicion → List DoubtStep
polled_doubts [] s = []
polled_doubts (now ∷ later) s = (suspicion_step now s).0 ∷ polled_doubts later (suspicion_step now s).1
