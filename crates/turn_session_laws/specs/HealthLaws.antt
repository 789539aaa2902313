-- Laws of checks: what a path ends by, and what doubts of the allocation do.
use Rattle.std.specs.Prelude.{List, [], ◌∷◌, true, Some}
use Rattle.turn_stun.specs.declared.transport.TransportType.TheVariants.{Udp}
use Rattle.turn_agent.specs.TransactionIds.{Source}
use Rattle.turn_session_path.specs.Path.{first_path}
use Rattle.turn_session_path.specs.declared.path.Path.{Path}
use Rattle.turn_session_life.specs.declared.doubts.Asking.TheVariants as Client
use Rattle.turn_session_life.specs.declared.doubts.Doubts.{Doubts}
use Rattle.turn_session_laws.specs.DoubtEnds.{DoubtsEndByCauses}
use Rattle.turn_session_laws.specs.DoubtRuns.{DoubtCall, doubts_after}
use Rattle.turn_session_laws.specs.DoubtRuns.DoubtCall.{Asked, Doubted, Polled as PolledDoubts}
use Rattle.turn_session_laws.specs.PathEnds.{PathsEndByCauses}
use Rattle.turn_session_laws.specs.PathRuns.{PathCall, path_after}
use Rattle.turn_session_laws.specs.PathRuns.PathCall.{Polled}

pub record HealthyPathsStay : Type 0 where
  pub path : PathsEndByCauses
  pub allocation : DoubtsEndByCauses

-- ---- worked runs, with times in nanoseconds, the latest call first

-- over UDP the path is probed each 15 s, and polled when something is due: two probes had no response, and a third is under way
abbrev pub third_probe : List PathCall
third_probe =
    Polled 46_500_000_000 ∷ Polled 45_500_000_000 ∷ Polled 45_000_000_000
    ∷ Polled 33_500_000_000 ∷ Polled 31_500_000_000 ∷ Polled 30_500_000_000 ∷ Polled 30_000_000_000
    ∷ Polled 18_500_000_000 ∷ Polled 16_500_000_000 ∷ Polled 15_500_000_000 ∷ Polled 15_000_000_000 ∷ []

abbrev pub probed_path : Source → List PathCall → Path
probed_path ids before = path_after (first_path Udp (Some 15_000_000_000) ids 0) before

-- two checks of the allocation were not answered, and the third is under way
abbrev pub third_check : List DoubtCall
third_check =
    Asked Client.Asked ∷ PolledDoubts 6_000_000_000 ∷ Asked Client.Asked ∷ PolledDoubts 3_000_000_000
    ∷ Asked Client.Asked ∷ PolledDoubts 0 ∷ Doubted ∷ []

abbrev pub checked_doubts : List DoubtCall → Doubts
checked_doubts before = doubts_after true before
