-- What every run of a new client keeps, each promise as one statement on its first state and its calls.
use Rattle.std.specs.Prelude.{◌≡◌, ℕ, List, [], ◌∷◌, ◌++◌, None}
use Rattle.std.specs.List.{Contains, concat}
use Rattle.std.specs.declared.net.socket_addr.SocketAddr.{SocketAddr}
use Rattle.turn_stun.specs.declared.transport.TransportType.TheVariants.{Tcp}
use Rattle.turn_client_api.specs.State.{State}
use Rattle.turn_client_laws.specs.Handled.{Input, handled}
use Rattle.turn_client_laws.specs.LawsGranted.{IsActiveGrant}
use Rattle.turn_client_laws.specs.LawsNumbers.{HasDistinctNumbers}
use Rattle.turn_client_laws.specs.LawsSteps.{KeepsRealm}
use Rattle.turn_client_api.specs.Streams.{poll_recv_step}
use Rattle.turn_client_api.specs.declared.call.Call.{Call}
use Rattle.turn_client_api.specs.declared.grant.Grant.{Grant}
use Rattle.turn_client_runs.specs.Bound.{BoundConnectionsHaveSuccess, BoundStreamsHaveSuccess, StreamsAreBoundBefore}
use Rattle.turn_client_runs.specs.Challenges.{AnswersFew, CountsAll, FallsByReplies, IsWithinChallengeLimit}
use Rattle.turn_client_runs.specs.Cut.{ArePieces, given_in_run, joined, whole_of}
use Rattle.turn_client_runs.specs.Granted.{ComesIn, HasReply}
use Rattle.turn_client_runs.specs.Held.{HeldFromChallenge}
use Rattle.turn_client_runs.specs.Peers.{IcmpIsOfPermitted, ReceivesOnlyPermitted}
use Rattle.turn_client_runs.specs.Received.{HasArrived}
use Rattle.turn_client_runs.specs.Replies.{CountsOnce, EachReply, EndsItsRequest}
use Rattle.turn_client_runs.specs.Inputs.{handled_in}
use Rattle.turn_client_api.specs.Steps.{state_after_all}

-- it holds for the calls before the first one, and for all up to each of them
abbrev pub AfterEach : (State → List Call → Type 0) → State → List Call → Type 0
AfterEach Q first calls = (earlier later : List Call) → calls ≡ earlier ++ later → Q first earlier

-- it holds for any calls of the run that follow each other, from the state in which they find the client
abbrev pub InEachPart : (State → List Call → Type 0) → State → List Call → Type 0
InEachPart Q first calls =
    (earlier middle later : List Call) → calls ≡ earlier ++ (middle ++ later) → Q (state_after_all first earlier) middle

-- each active grant has its signed reply to an own request
abbrev pub GrantsHaveReplies : State → List Call → Type 0
GrantsHaveReplies first calls =
    (g : Grant) → IsActiveGrant g → Contains (state_after_all first calls).grants g → HasReply g calls first

-- no channel number names two peers
abbrev pub NumbersAreDistinct : State → List Call → Type 0
NumbersAreDistinct first calls = HasDistinctNumbers (state_after_all first calls)

-- Each bound stream and each bound data connection has the signed success that bound it. So has each stream
-- that is bound when an input is processed.
abbrev pub BoundHaveSuccess : State → List Call → Type 0
BoundHaveSuccess first calls =
    BoundStreamsHaveSuccess first calls × BoundConnectionsHaveSuccess first calls × StreamsAreBoundBefore first calls

-- Each input is processed in its call and at its time, and its bytes were received by the calls up to that
-- one.
abbrev pub InputsCameIn : State → List Call → Type 0
InputsCameIn first calls =
    (earlier : List Call) (call : Call) (later : List Call) (one : Input) → calls ≡ earlier ++ call ∷ later
    → Contains (handled call (state_after_all first earlier)) one → ComesIn call one × HasArrived (earlier ++ call ∷ []) first one

-- each payload is of a permitted peer, an ICMP report is about a permitted one, and what they were read
-- from had been received
abbrev pub DeliversOnlyPermitted : State → List Call → Type 0
DeliversOnlyPermitted first calls =
    InEachPart (λ s middle. ReceivesOnlyPermitted s middle × IcmpIsOfPermitted s middle) first calls × InputsCameIn first calls

-- a reply is accepted once
abbrev pub RepliesCountOnce : State → List Call → Type 0
RepliesCountOnce first calls =
    EachReply EndsItsRequest first calls × InEachPart CountsOnce first calls

-- at most as many challenges are answered between two signed replies as the client was configured with
abbrev pub FewAreAnswered : State → List Call → Type 0
FewAreAnswered first = InEachPart (λ s middle.
    (s.config ≡ first.config) × IsWithinChallengeLimit s × AnswersFew s middle × CountsAll s middle × FallsByReplies s middle) first

-- realm and algorithm, once held, never change
abbrev pub RealmStays : State → List Call → Type 0
RealmStays = InEachPart (λ s middle.
    KeepsRealm s (state_after_all s middle)
    × ((one : Input) → Contains (handled_in s middle) one → KeepsRealm s one.before × KeepsRealm one.before (state_after_all s middle)))

-- what is held is of the realm and the algorithm of the first challenge that was answered
abbrev pub RealmIsAnswered : State → List Call → Type 0
RealmIsAnswered = AfterEach HeldFromChallenge

-- what these calls return and leave is what these bytes return as a whole, and leave
abbrev pub GivesTheWhole : SocketAddr → ℕ → List ℕ → State → List Call → Type 0
GivesTheWhole local now bytes s calls =
    (joined local s (given_in_run s calls) ≡ (whole_of local now s bytes).0) × (state_after_all s calls ≡ (whole_of local now s bytes).1)

-- the pieces of a stream, each polled up to the first none, return what their joined bytes return
abbrev pub CutsAgree : State → List Call → Type 0
CutsAgree = InEachPart (λ s middle.
    (local : SocketAddr) (pieces : List (List ℕ)) (now : ℕ) → s.transport ≡ Tcp → poll_recv_step now s ≡ (None, s)
    → ArePieces local pieces now middle s
    → GivesTheWhole local now (concat pieces) s middle)
