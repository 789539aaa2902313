-- What the streams of a client over TCP hold between two calls.
use Rattle.std.specs.Prelude.{◌≡◌, ℕ, false, List, [], ◌++◌, map, All, ⊤}
use Rattle.std.specs.List.{IsDistinct}
use Rattle.turn_types.specs.Frames.{IsFrame, begins_no_frame}
use Rattle.turn_agent.specs.Agent.{same_address}
use Rattle.turn_client_api.specs.State.{State}
use Rattle.turn_client_api.specs.declared.state.Mode.{Mode}
use Rattle.turn_client_api.specs.declared.state.Mode.TheVariants.{Control, Waiting, Bound, Broken}
use Rattle.turn_client_api.specs.declared.state.Stream.{Stream}
use Rattle.turn_client_api.specs.Payloads.{Outcome}
use Rattle.turn_client_laws.specs.LawsPeers.{HasNoPeer}

-- no whole frame comes first, nor a byte that no frame begins with
abbrev pub HasNoFrame : List ℕ → Type 0
HasNoFrame bytes =
    (begins_no_frame bytes ≡ false) × ((frame more : List ℕ) → bytes ≡ frame ++ more → ¬ IsFrame frame)

-- nothing of the stream is processed before more of it is received
abbrev pub NeedsMoreBytes : Stream → Type 0
NeedsMoreBytes stream = by stream.mode
  where
    by : Mode → Type 0
    by Control = HasNoFrame stream.bytes
    by Waiting = HasNoFrame stream.bytes
    by (Bound peer) = stream.bytes ≡ []
    by Broken = ⊤

-- if no data of a peer is returned, no stream is left with something to process
abbrev pub DrainsOrGives : Outcome × State → Type 0
DrainsOrGives r = HasNoPeer r.0 → All NeedsMoreBytes r.1.streams

-- where the stream is broken, it holds nothing
abbrev pub IsEmptyIfBroken : Stream → Type 0
IsEmptyIfBroken stream = stream.mode ≡ Broken → stream.bytes ≡ []

-- no two streams have one local address, and a broken one holds nothing
abbrev pub AreApart : State → Type 0
AreApart s = IsDistinct same_address (map (λ stream. stream.local) s.streams) × All IsEmptyIfBroken s.streams
