use Rattle.turn_types.proofs.CutLemmas.{fed_each-drained}
use Rattle.turn_types.proofs.FrameLemmas.{size_in-IsPrefixCut}
use Rattle.turn_types.proofs.tcp.laws.same_for_any_cut.Goals as goal

pub returns : goal.returns
returns g c = λ mode handle state bytes pieces. fed_each-drained _ handle (size_in-IsPrefixCut mode) pieces state bytes
