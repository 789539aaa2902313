-- What a client makes of a whole message or a whole ChannelData message (RFC 8656, sections 11 and 12).
use Rattle.std.specs.Prelude.{ℕ, ◌+◌, ◌==◌, nat_lt, Bool, true, false, if◌then◌else◌, List, [], ◌∷◌, filter, fold, length, Option, Some, None, is_none}
use Rattle.std.specs.Net.Socket.{socket_ip}
use Rattle.std.specs.Option.{option_map_or}
use Rattle.std.specs.declared.ops.Range.{Range}
use Rattle.std.specs.declared.net.socket_addr.SocketAddr.{SocketAddr}
use Rattle.turn_stun.specs.Message.{Attribute, fault_of, id_of}
use Rattle.turn_stun.specs.declared.transport.TransportType.{TransportType}
use Rattle.turn_types.specs.Channel.{channel_data_at, channel_fault_of}
use Rattle.turn_types.specs.Send.{data_kind}
use Rattle.turn_types.specs.declared.attribute.icmp_report.Icmp.{Icmp}
use Rattle.turn_auth.specs.LongTerm.{Challenge}
use Rattle.turn_client_api.specs.State.{State, Phase, Requesting, Authenticating, Purpose, ForBind}
use Rattle.turn_client_api.specs.Grants.{channel_peer, first_in, has_active_permission, purposes_of}
use Rattle.turn_client_api.specs.Requests.{fresh_id, method_for, refresh_method, connection_attempt_method}
use Rattle.turn_client_api.specs.Judgement.{Judgement, Unrelated, Challenged, Fatal, LateResponse, DataIndication, ConnectionAttempt, SignedRequest}
use Rattle.turn_client_api.specs.Judgement.{SignedSuccess, SignedError, judgement_of, method_in, has_unknown, last_in, last_peer_in, last_icmp_in}
use Rattle.turn_client_api.specs.Effect.{allocate_granted, allocate_denied, effect, transaction_ended, closed, fail_all}
use Rattle.turn_client_api.specs.Retry.{retried, state_after_retry}
use Rattle.turn_client_api.specs.Connections.{attempt_requested, attempt_indicated}

-- the data of a peer, and where it lies in the bytes that the caller passed in, unless it is owned
pub record Payload : Type 0 where
  pub transport : TransportType
  pub peer : SocketAddr
  pub bytes : List ℕ
  pub place : Option (Range ℕ)

-- the input was for the client, was not, or came from a peer
pub data Outcome : Type 0 where
  Handled : Outcome
  Ignored : Outcome
  PeerData : Payload → Outcome
  PeerIcmp : TransportType → SocketAddr → Icmp → Outcome

-- ---- from a peer

-- these bytes after a header of four bytes at this offset
abbrev pub data_of : State → SocketAddr → ℕ → List ℕ → Outcome
data_of s peer offset bytes = PeerData (record {
  transport = s.config.allocation_transport;
  peer = peer;
  bytes = bytes;
  place = Some (record { start = offset + 4; end = offset + 4 + length bytes });
})

-- A DATA indication of a peer whose IP address has a permission, whether or not its allocation is expired:
-- data, or an ICMP packet if there is no data (RFC 8656, sections 11.4 and 11.6).
abbrev pub data_indicated : State → List ℕ → Outcome
data_indicated s message = if has_unknown message then Ignored else by (last_peer_in message) (last_in data_kind message) (last_icmp_in message)
  where
    by : Option SocketAddr → Option Attribute → Option Icmp → Outcome
    by (Some peer) (Some a) _ = if has_active_permission (socket_ip peer) s then data_of s peer a.offset a.value else Ignored
    by (Some peer) None (Some icmp) =
        if has_active_permission (socket_ip peer) s then PeerIcmp s.config.allocation_transport peer icmp else Ignored
    by _ _ _ = Ignored

-- a ChannelData message of an active channel, in any phase (RFC 8656, section 12.6)
abbrev pub channel_sent : State → List ℕ → Outcome
channel_sent s frame =
    let channel = channel_data_at frame in
    option_map_or (λ peer. data_of s peer 0 channel.payload) (first_in (channel_peer channel.id) s) Ignored

-- ---- a signed reply to an outstanding request

-- a reply with this method answers a request with this purpose; a CONNECTION_BIND is answered over its own
-- connection alone
abbrev pub is_answered : ℕ → Purpose → Bool
is_answered method (ForBind local peer connection_id) = false
is_answered method purpose = method_for purpose == method

-- what the requests with this ID and of the reply's method were made for
abbrev pub answered_purposes : List ℕ → State → List Purpose
answered_purposes message s = filter (is_answered (method_in message)) (purposes_of (id_of message) s)

-- A REFRESH is always processed. A reply that is for nothing that the client knows ends its transaction,
-- and is ignored.
abbrev pub outcome_for : List ℕ → List Purpose → Outcome
outcome_for message [] = if method_in message == refresh_method then Handled else Ignored
outcome_for message (purpose ∷ others) = Handled

abbrev pub response_step : Bool → List ℕ → ℕ → State → Outcome × State
response_step is_granted message now s =
    let purposes = answered_purposes message s in (
      outcome_for message purposes,
      fold (effect (id_of message) is_granted message now) (transaction_ended (id_of message) s) purposes,
    )

-- ---- a whole message

-- The challenge is answered: one too many ends the client, since its server may always require another nonce
-- (our choice). One that is for nothing is ignored.
abbrev pub challenge_step : List ℕ → Challenge → ℕ → State → Outcome × State
challenge_step message challenge now s =
    if nat_lt s.challenges s.config.max_stale_nonces
    then option_map_or (λ purpose. (Handled, state_after_retry s (id_of message) purpose challenge now)) (retried (purposes_of (id_of message) s)) (Ignored, s)
    else (Handled, closed (fail_all s))

-- the client ends, and so does the transaction of a first ALLOCATE
abbrev pub wrong_step : List ℕ → State → Outcome × State
wrong_step message s = (Handled, closed (fail_all (by s.phase)))
  where
    by : Phase → State
    by Requesting = transaction_ended (id_of message) s
    by _ = s

-- a signed reply, by what the client awaits
abbrev pub signed_step : Bool → List ℕ → ℕ → State → Outcome × State
signed_step is_granted message now s = by s.phase is_granted
  where
    by : Phase → Bool → Outcome × State
    by Authenticating true = (Handled, allocate_granted message now (transaction_ended (id_of message) s))
    by Authenticating false = (Handled, allocate_denied (fresh_id s) message now (transaction_ended (id_of message) s))
    by _ _ = response_step is_granted message now s

-- a message of the control connection, or over UDP of the server
abbrev pub message_step : List ℕ → ℕ → State → Outcome × State
message_step message now s = by (judgement_of s message)
  where
    by : Judgement → Outcome × State
    by Unrelated = (Ignored, s)
    by (Challenged challenge) = challenge_step message challenge now s
    by Fatal = wrong_step message s
    by LateResponse = (Handled, s)
    by DataIndication = (data_indicated s message, s)
    by ConnectionAttempt = option_map_or (λ t. (Handled, t)) (attempt_indicated message s) (Ignored, s)
    by SignedRequest =
        if method_in message == connection_attempt_method then (Handled, attempt_requested message s) else (Ignored, s)
    by SignedSuccess = signed_step true message now s
    by SignedError = signed_step false message now s

abbrev pub is_message : List ℕ → Bool
is_message bytes = is_none (fault_of bytes)

abbrev pub is_channel_frame : List ℕ → Bool
is_channel_frame bytes = is_none (channel_fault_of bytes)

-- a datagram of the server
abbrev pub datagram_step : List ℕ → ℕ → State → Outcome × State
datagram_step bytes now s =
    if is_message bytes then message_step bytes now s
    else (if is_channel_frame bytes then (channel_sent s bytes, s)
    else (Ignored, s))
