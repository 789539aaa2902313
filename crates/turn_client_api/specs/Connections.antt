-- Data connections to peers (RFC 6062).
use Rattle.std.specs.Prelude.{ℕ, ◌==◌, nat_lt, Bool, true, false, not, ◌&&◌, ◌||◌, if◌then◌else◌, List, [], ◌∷◌, ◌++◌, map, filter, find, filter_map, length}
use Rattle.std.specs.Prelude.{codes, Option, Some, None, is_some}
use Rattle.std.specs.List.{list_any}
use Rattle.std.specs.Net.Socket.{socket_ip}
use Rattle.std.specs.declared.net.socket_addr.SocketAddr.{SocketAddr}
use Rattle.turn_stun.specs.Message.{id_of}
use Rattle.turn_stun.specs.declared.transport.TransportType.TheVariants.{Tcp}
use Rattle.turn_auth.specs.LongTerm.{Challenge}
use Rattle.turn_agent.specs.Agent.{same_address}
use Rattle.turn_client_api.specs.State.{State, Phase, Allocated, Grant, Offer, Connection, DataConnection, Origin, ServerRequest, ServerIndication, Mode, Bound}
use Rattle.turn_client_api.specs.State.{Stream, Purpose, later_by}
use Rattle.std.specs.Option.{option_map_or}
use Rattle.turn_client_api.specs.Grants.{find_allocation_to, as_connection, is_connect_to, is_connection_from, has_active_permission, as_offer, purposes_of}
use Rattle.turn_client_api.specs.Grants.{unlisted, without_grants, wait}
use Rattle.turn_client_api.specs.Requests.{bad_request, connection_already_exists, fresh_id, requested, refused_reply, replied, connection_bind_method}
use Rattle.turn_client_api.specs.Judgement.{Judgement, Challenged, SignedSuccess, SignedError, bind_judgement, is_bind_of, connection_id_in, peer_in, method_in}
use Rattle.turn_client_api.specs.Effect.{transaction_ended, with_offer}
use Rattle.turn_client_api.specs.Retry.{bind_time, with_held}
use Rattle.turn_client_api.specs.declared.event.TurnEvent.TheVariants.{TcpConnected, TcpConnectFailed}

-- ---- which connections exist

abbrev pub is_connection_to : SocketAddr → Grant → Bool
is_connection_to peer (Connection c) = same_address c.peer peer
is_connection_to peer (Offer offer) = same_address offer.peer peer
is_connection_to peer _ = false

-- one to this peer exists, or is offered to the caller
abbrev pub is_connected : SocketAddr → State → Bool
is_connected peer s = list_any (is_connection_to peer) s.grants

-- one to this peer was requested
abbrev pub is_connecting : SocketAddr → State → Bool
is_connecting peer s = list_any (is_connect_to peer) s.grants

-- the connection from this local address
abbrev pub connection_at : SocketAddr → State → Option DataConnection
connection_at local s = find (λ c. same_address c.local local) (filter_map as_connection s.grants)

-- ---- the server requests one, since a peer connected to the relayed address (RFC 6062, section 4.4)

-- a request is refused at once, or offered: then it is answered when the caller reports what became of the
-- offer, unless its allocation or the client has ended (our choice: RFC 6062 has only an indication)
abbrev pub attempt_requested : List ℕ → State → State
attempt_requested message s = by (connection_id_in message) (peer_in message)
  where
    refused : ℕ → List ℕ → State
    refused code reason = replied (refused_reply code reason s (id_of message)) s

    by : Option ℕ → Option SocketAddr → State
    by (Some connection_id) (Some peer) =
        if not (is_some (find_allocation_to Tcp (socket_ip peer) s)) then refused bad_request (codes "Bad Request")
        else (if is_connected peer s then refused connection_already_exists (codes "Connection Already Exists")
        else with_offer connection_id peer (ServerRequest (id_of message)) s)
    by _ _ = refused bad_request (codes "Bad Request")

-- at most so many offers by indications exist, since these are not signed (our choice)
abbrev pub max_indicated : ℕ
max_indicated = 64

abbrev pub is_indicated : Grant → Bool
is_indicated grant = option_map_or (λ offer. by offer.origin) (as_offer grant) false
  where
    by : Origin → Bool
    by ServerIndication = true
    by _ = false

-- An indication is accepted only for a peer with a permission, as RFC 6062, section 4.4, requires, and if
-- no other connection to it exists or is pending.
abbrev pub accepts_attempt : SocketAddr → State → Bool
accepts_attempt peer s =
    is_some (find_allocation_to Tcp (socket_ip peer) s) && has_active_permission (socket_ip peer) s
    && not (is_connected peer s || is_connecting peer s)
    && nat_lt (length (filter is_indicated s.grants)) max_indicated

abbrev pub attempt_indicated : List ℕ → State → Option State
attempt_indicated message s = by (connection_id_in message) (peer_in message)
  where
    by : Option ℕ → Option SocketAddr → Option State
    by (Some connection_id) (Some peer) =
        if accepts_attempt peer s then Some (with_offer connection_id peer ServerIndication s) else None
    by _ _ = None

-- ---- a connection is bound (RFC 6062, section 4.3)

-- the bytes of the stream at this local address have this mode from now on
abbrev pub with_mode : SocketAddr → Mode → State → State
with_mode local mode s = record s { streams = map by s.streams }
  where
    by : Stream → Stream
    by stream = if same_address stream.local local then record stream { mode = mode } else stream

abbrev pub deadline_set : SocketAddr → Option ℕ → Grant → Grant
deadline_set local deadline (Connection c) =
    if same_address c.local local then Connection (record c { deadline = deadline }) else Connection c
deadline_set local deadline grant = grant

-- the server may bind the connection until this time; `None` says that it did
abbrev pub with_deadline : SocketAddr → Option ℕ → State → State
with_deadline local deadline s = record s { grants = map (deadline_set local deadline) s.grants }

abbrev pub with_close : SocketAddr → State → State
with_close local s = record s { closes = s.closes ++ local ∷ [] }

-- what follows on the stream is data of the peer
abbrev pub bound : DataConnection → State → State
bound c s =
    wait (TcpConnected c.peer ∷ [])
    (with_mode c.local (Bound c.peer) (with_deadline c.local None (unlisted (is_connection_from c.local) s)))

-- the caller is to close it
abbrev pub not_bound : DataConnection → State → State
not_bound c s =
    wait (TcpConnectFailed c.peer ∷ [])
    (with_close c.local (without_grants (is_connection_from c.local) s))

-- The nonce is stored, and another CONNECTION_BIND replaces the one with this ID, which stays outstanding.
-- Challenges are not counted here: each concerns one connection alone (our choice).
abbrev pub bind_again : DataConnection → ℕ → Challenge → ℕ → State → State
bind_again c id challenge now s = option_map_or again (find (is_bind_of c.local) (purposes_of id s)) s
  where
    again : Purpose → State
    again purpose =
        with_deadline c.local (Some (later_by bind_time now))
        (requested (fresh_id s) purpose now (unlisted (is_connection_from c.local) (with_held challenge s)))

-- a message of a connection that waits to be bound
abbrev pub bind_answered : DataConnection → List ℕ → ℕ → State → State
bind_answered c message now s = by (bind_judgement s c.local message)
  where
    by : Judgement → State
    by (Challenged challenge) = bind_again c (id_of message) challenge now s
    by SignedSuccess = bound c (transaction_ended (id_of message) s)
    by SignedError = not_bound c (transaction_ended (id_of message) s)
    by _ = not_bound c s

-- what a message of a data connection changes: nothing, if it is for no such connection
abbrev pub bind_step : SocketAddr → List ℕ → ℕ → State → State
bind_step local message now s = by s.phase (connection_at local s)
  where
    by : Phase → Option DataConnection → State
    by Allocated (Some c) = if method_in message == connection_bind_method then bind_answered c message now s else s
    by _ _ = s
