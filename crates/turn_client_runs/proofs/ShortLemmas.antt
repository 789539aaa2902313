-- A stream of a client that was polled to the end holds less than the longest frame.
use Rattle.turn_client_laws.proofs.Common.{◌≡◌, ◌∙◌, ◌<◌, ℕ, List, [], ◌∷◌, ◌++◌, length, sym, subst, refl, arith, All, SocketAddr, All-contains, All-tail}
use Rattle.turn_client_laws.proofs.Machine.{TransportType, Config, State, initial, poll_recv_step, Call, PollRecv, Mode, Broken, state_after_all}
use Rattle.turn_client_laws.proofs.Laws.{AreApart, NeedsMoreBytes, IsEmptyIfBroken, contains-has, call-apart, initial-apart, poll_recv-drained}
use Rattle.turn_client_laws.proofs.StreamShortLemmas.{drained-short}
use Rattle.turn_client_runs.specs.Short.{StreamsAreShort}
use Rattle.turn_client_runs.proofs.QuietLemmas.{calls-keep}
use Rattle.turn_client_runs.proofs.ReceivedRuns.{streams-received}
use Rattle.turn_client_runs.proofs.RunGrants.{first-hold}

-- what ends a list of bytes are bytes
ends-bytes : (before bytes : List ℕ) → All (λ b. b < 256) (before ++ bytes) → All (λ b. b < 256) bytes
ends-bytes [] bytes h = h
ends-bytes (b ∷ before) bytes h = ends-bytes before bytes (All-tail (λ (c : ℕ). c < 256) b (before ++ bytes) h)

pub streams-short : (transport : TransportType) (local remote : SocketAddr) (config : Config) (seed : List ℕ) (calls : List Call) → StreamsAreShort (initial transport local remote config seed) calls
streams-short transport local remote config seed calls earlier now later e none stream there bytes = by stream.mode refl
  where
    first : State
    first = initial transport local remote config seed

    s : State
    s = state_after_all first earlier

    t : State
    t = (poll_recv_step now s).1

    apart : AreApart t
    apart = call-apart (PollRecv now) s (calls-keep AreApart call-apart earlier first (initial-apart transport local remote config seed))

    drained : NeedsMoreBytes stream
    drained = All-contains NeedsMoreBytes t.streams stream (poll_recv-drained now s none) there

    held : All (λ b. b < 256) stream.bytes
    held =
        let (before, is) = streams-received earlier now first (first-hold transport local remote config seed) stream (contains-has stream t.streams there) in
        ends-bytes before stream.bytes (subst (All (λ (b : ℕ). b < 256)) is bytes)

    by : (m : Mode) → stream.mode ≡ m → length stream.bytes < 65555
    by Broken m = let nothing : stream.bytes ≡ [] = All-contains IsEmptyIfBroken t.streams stream apart.1 there m in rw nothing (omega arith)
    by x m = drained-short stream drained (λ is. cc (sym m ∙ is)) held
