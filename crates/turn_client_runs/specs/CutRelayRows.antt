-- Worked runs over TCP: a success and a challenge that are cut in two, with data of a peer before and behind them.
use Rattle.std.specs.Prelude.{◌≡◌, ◌≢◌, ℕ, true, List, [], ◌∷◌, ◌++◌, IsSome, Some}
use Rattle.turn_stun.specs.Message.{id_of}
use Rattle.turn_stun.specs.declared.message.header.MessageClass.TheVariants.{Error}
use Rattle.turn_stun.specs.declared.transport.TransportType.TheVariants.{Tcp}
use Rattle.turn_auth.specs.LongTerm.{Challenge}
use Rattle.turn_client_api.specs.Judgement.{challenge_in, class_in}
use Rattle.turn_client_api.specs.Payloads.{is_message}
use Rattle.turn_client_api.specs.State.{State}
use Rattle.turn_client_api.specs.Steps.{state_after, state_after_all}
use Rattle.turn_client_api.specs.declared.call.Call.{Call}
use Rattle.turn_client_api.specs.declared.call.Call.TheVariants.{PollRecv, PollTransmit, Recv}
use Rattle.turn_client_api.specs.declared.grant.Purpose.TheVariants.{ForPermission}
use Rattle.turn_client_api.specs.declared.state.Mode.TheVariants.{Control}
use Rattle.turn_client_laws.specs.LawsReceived.{abc_frame, client, empty_stream, server}
use Rattle.turn_client_laws.specs.LawsRows.{ip_of_peer}
use Rattle.turn_client_runs.specs.History.{no_history}
use Rattle.turn_client_runs.specs.InPieces.{RunsInPieces}
use Rattle.turn_client_runs.specs.LastingRows.{first_request}
use Rattle.turn_client_runs.specs.Late.{IsSteadyBehind, RunsBehind}
use Rattle.turn_client_runs.specs.LateRows.{grants_with, with_channel}
use Rattle.turn_client_runs.specs.Server.{success_for}

-- the client of `LateRows`, over TCP
abbrev pub over_tcp : State → State
over_tcp s = record (with_channel s) { transport = Tcp; local = client; remote = server; streams = empty_stream client Control ∷ [] }

-- the success to the refresh of the permission, which is sent when it is due
abbrev pub refresh_success : State → List ℕ
refresh_success s = let sent = state_after (PollTransmit 241_100_000_000) s in success_for sent (ForPermission ip_of_peer) (first_request sent.listed).id

-- a piece of the control connection
abbrev pub piece_call : List ℕ → ℕ → Call
piece_call piece now = Recv (record { payload = piece; transport = Tcp; from = server; to = client }) now

-- 50 ms later a piece has a frame of the peer and the front of the success, and 100 ms later the next one has the back of it and
-- another frame. After each the client is polled for data.
abbrev pub cut_calls : List ℕ → List ℕ → List Call
cut_calls front back =
    PollTransmit 241_100_000_000
    ∷ piece_call (abc_frame ++ front) 241_150_000_000 ∷ PollRecv 241_150_000_000
    ∷ piece_call (back ++ abc_frame) 241_200_000_000 ∷ PollRecv 241_200_000_000
    ∷ []

-- It begins and runs as no grant is lost, with at most three grants, a queued packet and a delay of 100 ms. The permission is
-- refreshed.
pub record LastsThoughCut (front back : List ℕ) (s : State) : Type 0 where
  pub begins : IsSteadyBehind 3 1 0 0 100_000_000 1_100_000_000 s
  pub runs : RunsBehind 3 1 0 0 100_000_000 1_100_000_000 1_100_000_000 (no_history s) s (cut_calls front back)
  pub refreshes : (state_after_all s (cut_calls front back)).grants ≡ grants_with 541_200_000_000

-- wherever the success is cut, and whatever the client's credentials and IDs are
abbrev pub CutRelayStaysUp : Type 0
CutRelayStaysUp =
    (s : State) (front back : List ℕ) → IsSome s.held → refresh_success (over_tcp s) ≡ front ++ back → back ≢ []
    → LastsThoughCut front back (over_tcp s)

-- ---- another nonce

-- the message is a challenge to the refresh, which is made again with this one's nonce (RFC 8489, section 9.2.5)
pub record IsStale (message : List ℕ) (challenge : Challenge) (sent : State) : Type 0 where
  pub whole : is_message message ≡ true
  pub error : class_in message ≡ Error
  pub named : id_of message ≡ (first_request sent.listed).id
  pub requires : challenge_in sent message ≡ Some challenge

-- the same pieces with the challenge in place of the success, and then the request is sent again at once
abbrev pub asked_calls : List ℕ → List ℕ → List Call
asked_calls front back =
    PollTransmit 241_100_000_000
    ∷ piece_call (abc_frame ++ front) 241_150_000_000
    ∷ piece_call (back ++ abc_frame) 241_200_000_000 ∷ PollTransmit 241_200_000_000
    ∷ []

-- It begins and runs as no grant is lost, with a packet that is extra and a delay of 200 ms. The client holds the nonce, and has
-- sent what it queued.
pub record LastsThoughAsked (front back : List ℕ) (challenge : Challenge) (s : State) : Type 0 where
  pub begins : IsSteadyBehind 3 1 1 0 200_000_000 1_100_000_000 s
  pub runs : RunsInPieces 3 1 1 0 200_000_000 1_100_000_000 1_100_000_000 (no_history s) s (asked_calls front back)
  pub holds : (state_after_all s (asked_calls front back)).held ≡ Some challenge
  pub sends : (state_after_all s (asked_calls front back)).queue ≡ []

-- whatever the challenge is, and wherever it is cut
abbrev pub AskedRelayStaysUp : Type 0
AskedRelayStaysUp =
    (s : State) (front back : List ℕ) (challenge : Challenge) → IsSome s.held
    → IsStale (front ++ back) challenge (state_after (PollTransmit 241_100_000_000) (over_tcp s)) → back ≢ []
    → LastsThoughAsked front back challenge (over_tcp s)
