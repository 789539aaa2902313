use Rattle.std.proofs.Common.{subst}
use Rattle.turn_session_path.specs.Path.{first_path}
use Rattle.turn_session_laws.proofs.DoubtPolls as Doubts
use Rattle.turn_session_laws.proofs.PathPolls as Path
use Rattle.turn_session_laws.proofs.PathProbes.{EndsByCause}
use Rattle.turn_session_laws.proofs.health.healthy_paths_stay.Goals as goal

pub returns : goal.returns
returns c = record {
  path = λ transport every ids began now before why ends.
      subst (EndsByCause (first_path transport every ids began) now before) ends (Path.end-cause transport every ids began now before);
  allocation = λ checks now before why ends. subst (Doubts.EndsByCause checks now before) ends (Doubts.end-cause checks now before);
}
