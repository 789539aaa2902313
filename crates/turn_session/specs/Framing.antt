-- The stream to the server is cut into frames, and each is received by itself (RFC 8656, section 12.5).
use Rattle.std.specs.Prelude.{◌≡◌, ◌⊎◌, ◌==◌, ◌&&◌, ◌<◌, ℕ, zero, suc, Bool, true, false, not, if◌then◌else◌}
use Rattle.std.specs.Prelude.{List, [], length, All, Option, Some, None, IsSomeAnd}
use Rattle.std.specs.Option.{option_map_or}
use Rattle.std.specs.declared.net.socket_addr.SocketAddr.{SocketAddr}
use Rattle.turn_stun.specs.declared.transport.TransportType.{TransportType}
use Rattle.turn_types.specs.Frames.{begins_no_frame}
use Rattle.turn_types.specs.Streams.{broken_stream, framed, next_frame, with_piece}
use Rattle.turn_client_api.specs.Answers.{EndsAfterSteps, RecvEnds}
use Rattle.turn_client_api.specs.Payloads.{Outcome, Payload}
use Rattle.turn_client_api.specs.Payloads as Outcomes
use Rattle.turn_client_api.specs.Streams.{HoldsLittle, owned, payload_in, poll_recv_step}
use Rattle.turn_session_book.specs.declared.causes.Why.TheVariants.{NotAStream, OutOfMemory}
use Rattle.turn_session_client.specs.Ending.{ended, is_over}
use Rattle.turn_session_client.specs.NotedState.{is_stream}
use Rattle.turn_session_client.specs.Receiving.{ended_with}
use Rattle.turn_session.specs.Receiving.{Ends, Receives, is_of_server, outcome_after}
use Rattle.turn_session.specs.SessionState.{SessionState, with_frames, with_noted}
use Rattle.turn_session.specs.Uses.{used_by}

-- for want of memory
abbrev pub lost : SessionState → SessionState
lost s = with_noted (ended OutOfMemory s.noted) s

-- ---- one frame

-- the server has sent it over the control connection
abbrev pub FrameGives : List ℕ → ℕ → SessionState → SessionState → Outcome → Type 0
FrameGives frame now was s outcome =
    let c = was.noted.client in Receives c.transport c.remote c.local frame now was s
    × (outcome ≡ owned (outcome_after c.transport c.remote c.local frame now was))

-- bytes that begin no frame end the session at once
abbrev pub stopped : Bool → SessionState → SessionState
stopped is_stuck s = if is_stuck then with_noted (ended NotAStream s.noted) s else s

-- the first frame, if it is whole
abbrev pub FirstGives : Option (List ℕ) → Bool → ℕ → SessionState → SessionState → Option Outcome → Type 0
FirstGives (Some frame) is_stuck now was s (Some outcome) = FrameGives frame now was s outcome
FirstGives None is_stuck now was s None = s ≡ stopped is_stuck was
FirstGives _ is_stuck now was s _ = ⊥

-- it is taken out of the stream before
abbrev pub TakesFrame : ℕ → SessionState → SessionState → Option Outcome → Type 0
TakesFrame now was s given =
    let next = next_frame was.frames in (t : SessionState)
    × FirstGives next.frame (begins_no_frame was.frames.bytes) now (with_frames (framed []) was) t given × (s ≡ with_frames next.after t)

-- the client has given the next data that it holds
abbrev pub after_held : ℕ → SessionState → SessionState
after_held now s = with_noted (record s.noted { client = (poll_recv_step now s.noted.client).1 }) s

-- data that the client still holds in its streams comes first, so that what it answers to a frame is of that frame alone
abbrev pub TakesNext : ℕ → SessionState → SessionState → Option Outcome → Type 0
TakesNext now was s given = by (poll_recv_step now was.noted.client).0 (after_held now was)
  where
    by : Option Payload → SessionState → Type 0
    by (Some payload) t = (given ≡ Some (owned (Outcomes.PeerData payload))) × (s ≡ t)
    by None t = TakesFrame now t s given

-- ---- the next data of a peer

-- so many frames without data lead from one state to the other
abbrev pub GivesNoData : ℕ → ℕ → SessionState → SessionState → Type 0
GivesNoData zero now was s = s ≡ was
GivesNoData (suc n) now was s =
    (t : SessionState) × GivesNoData n now was t × (outcome : Outcome) × TakesNext now t s (Some outcome) × (payload_in outcome ≡ None)

abbrev pub last_given : Option Payload → Option Outcome
last_given None = None
last_given (Some payload) = Some (Outcomes.PeerData payload)

abbrev pub TakesData : ℕ → SessionState → SessionState → Option Payload → Type 0
TakesData now was s payload =
    (n : ℕ) × (t : SessionState) × GivesNoData n now was t × TakesNext now t s (last_given payload)

-- without data each stream waits for the rest of a frame
abbrev pub WaitsForMore : SessionState → Type 0
WaitsForMore s = All HoldsLittle s.noted.client.streams × (length s.frames.bytes < 65556)

-- this, or the next data
abbrev pub OrData : ℕ → SessionState → SessionState → Outcome → Outcome → Type 0
OrData now was s first outcome =
    (payload : Option Payload) × TakesData now was s payload × (outcome ≡ option_map_or Outcomes.PeerData payload first)

-- ---- a piece

-- it came from the server over the control connection: no bytes report the end of the stream, and after that of the session none are taken
abbrev pub is_piece : TransportType → SocketAddr → SocketAddr → List ℕ → SessionState → Bool
is_piece transport from to bytes s =
    is_stream transport && not (length bytes == 0) && not (is_over s.noted.life.phase) && is_of_server transport from to s.noted.client

-- behind a frame that gives nothing of a peer comes the next data; a part of a frame shows nothing until the frame is whole
abbrev pub Follows : ℕ → SessionState → SessionState → Option Outcome → Outcome → Type 0
Follows now was s None outcome = (outcome ≡ Outcomes.Handled) × (s ≡ was)
Follows now was s (Some (Outcomes.PeerData payload)) outcome = (outcome ≡ Outcomes.PeerData payload) × (s ≡ was)
Follows now was s (Some (Outcomes.PeerIcmp transport peer icmp)) outcome = (outcome ≡ Outcomes.PeerIcmp transport peer icmp) × (s ≡ was)
Follows now was s (Some first) outcome = OrData now was s first outcome

abbrev pub fed : List ℕ → SessionState → SessionState
fed piece s = with_frames (with_piece s.frames piece) s

abbrev pub PieceGives : List ℕ → ℕ → SessionState → SessionState → Outcome → Type 0
PieceGives piece now was s outcome =
    (t : SessionState) × (first : Option Outcome) × TakesNext now (fed piece was) t first × Follows now t s first outcome

-- ---- the call

abbrev pub BytesGive : TransportType → SocketAddr → SocketAddr → List ℕ → ℕ → SessionState → SessionState → Outcome → Type 0
BytesGive transport from to bytes now was s outcome = by (is_piece transport from to bytes was)
  where
    by : Bool → Type 0
    by true = PieceGives bytes now was s outcome
    by false = (outcome ≡ outcome_after transport from to bytes now was) × Receives transport from to bytes now was s

-- data of a peer is a use of it
abbrev pub ReceivesBytes : TransportType → SocketAddr → SocketAddr → List ℕ → ℕ → SessionState → SessionState → Outcome → Type 0
ReceivesBytes transport from to bytes now was s outcome =
    (t : SessionState) × BytesGive transport from to bytes now was t outcome × (s ≡ used_by (payload_in outcome) now t)

abbrev pub PollsData : ℕ → SessionState → SessionState → Option Payload → Type 0
PollsData now was s payload = (t : SessionState) × TakesData now was t payload × (s ≡ used_by payload now t)

-- ---- without memory, the session has ended

-- for a copy of the data
abbrev pub CopyFails : Outcome → SessionState → SessionState → Type 0
CopyFails outcome was s = (payload : Payload) × (outcome ≡ Outcomes.PeerData payload) × (s ≡ lost was)

-- in the client, or for a copy of the data
abbrev pub FrameFails : List ℕ → ℕ → SessionState → SessionState → Type 0
FrameFails frame now was s =
    let c = was.noted.client in (RecvEnds c.local frame now c s.noted.client × Ends c.transport c.remote c.local frame now was s)
    ⊎ ((t : SessionState) × Receives c.transport c.remote c.local frame now was t
    × CopyFails (outcome_after c.transport c.remote c.local frame now was) t s)

abbrev pub TakingFails : ℕ → SessionState → SessionState → Type 0
TakingFails now was s =
    let next = next_frame was.frames in (t : SessionState)
    × IsSomeAnd next.frame (λ frame. FrameFails frame now (with_frames (framed []) was) t) × (s ≡ with_frames next.after t)

abbrev pub ClientFails : ℕ → SessionState → SessionState → Type 0
ClientFails now was s =
    EndsAfterSteps now was.noted.client s.noted.client × (s ≡ with_noted (ended_with s.noted.client was.noted) was)

-- of what the client gave
abbrev pub FailsAfter : Option Payload → ℕ → SessionState → SessionState → Type 0
FailsAfter (Some payload) now t s = s ≡ lost t
FailsAfter None now t s = TakingFails now t s

abbrev pub TakingNextFails : ℕ → SessionState → SessionState → Type 0
TakingNextFails now was s = ClientFails now was s ⊎ FailsAfter (poll_recv_step now was.noted.client).0 now (after_held now was) s

abbrev pub DataFails : ℕ → SessionState → SessionState → Type 0
DataFails now was s = (n : ℕ) × (t : SessionState) × GivesNoData n now was t × TakingNextFails now t s

-- behind a frame that gives nothing of a peer
abbrev pub FollowingFails : ℕ → SessionState → SessionState → Option Outcome → Type 0
FollowingFails now was s first = IsSomeAnd first (λ outcome. payload_in outcome ≡ None) × DataFails now was s

-- the piece could not be kept
abbrev pub PieceFails : List ℕ → ℕ → SessionState → SessionState → Type 0
PieceFails piece now was s = (s ≡ lost (with_frames broken_stream was)) ⊎ DataFails now (fed piece was) s

abbrev pub ReceivingFails : TransportType → SocketAddr → SocketAddr → List ℕ → ℕ → SessionState → SessionState → Type 0
ReceivingFails transport from to bytes now was s = by (is_piece transport from to bytes was)
  where
    by : Bool → Type 0
    by true = PieceFails bytes now was s
    by false = RecvEnds to bytes now was.noted.client s.noted.client × Ends transport from to bytes now was s
