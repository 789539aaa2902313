-- A line of a trace that is a call.
use Rattle.std.specs.Prelude.{ℕ, ◌^◌, nat_le, Bool, true, false, if◌then◌else◌, List, [], ◌∷◌, length, codes, Option, Some, Result, Ok, Err}
use Rattle.std.specs.List.{find}
use Rattle.std.specs.Option.{option_map, option_or}
use Rattle.std.specs.Str.{bytes_eq}
use Rattle.turn_stun.specs.declared.transport.TransportType.{TransportType}
use Rattle.turn_stun.specs.declared.transport.TransportType.TheVariants.{Udp, Tcp}
use Rattle.turn_client_api.specs.declared.call.Call.{Call}
use Rattle.turn_client_api.specs.declared.call.Call.TheVariants as Calls
use Rattle.turn_client_calls.specs.Checks.{needed, ◌>>=◌}
use Rattle.turn_lines.specs.Arguments.{packet_of, sending_of, transport_and_ip_of, transport_and_address_of, one_address_of, two_addresses_of, tuple_of}
use Rattle.turn_lines.specs.Arguments.{data_ends_of, transport_and_grantee_of}
use Rattle.turn_lines.specs.Number.{decimal_up_to}
use Rattle.turn_lines.specs.Parts.{parts_of, next, ends}
use Rattle.turn_lines.specs.declared.call.arguments.Grantee.{Grantee}
use Rattle.turn_lines.specs.declared.call.arguments.Grantee.TheVariants.{Ip, Peer}
use Rattle.turn_lines.specs.declared.call.name.CallName.{CallName}
use Rattle.turn_lines.specs.declared.call.name.CallName.TheVariants as Name
use Rattle.turn_lines.specs.declared.fault.BadKind.{BadKind}
use Rattle.turn_lines.specs.declared.fault.BadKind.TheVariants as Bad

-- nanoseconds
abbrev pub instant_of : List ℕ → Option ℕ
instant_of = decimal_up_to (2 ^ 62)

-- the calls that bring the client time, packets or sockets, or take its output, each with its name
abbrev pub driving_calls : List (List ℕ × CallName)
driving_calls =
    (codes "poll", Name.Poll) ∷ (codes "transmit", Name.Transmit) ∷ (codes "event", Name.Event) ∷ (codes "recv", Name.Recv)
    ∷ (codes "poll_recv", Name.PollRecv) ∷ (codes "socket", Name.Socket) ∷ (codes "closed", Name.Closed) ∷ (codes "error", Name.Error) ∷ []

-- the calls that request something of the client, or read its state
abbrev pub asking_calls : List (List ℕ × CallName)
asking_calls =
    (codes "send", Name.Send) ∷ (codes "permit", Name.Permit) ∷ (codes "bind", Name.Bind) ∷ (codes "connect", Name.Connect)
    ∷ (codes "delete", Name.Delete) ∷ (codes "relayed", Name.Relayed) ∷ (codes "permissions", Name.Permissions) ∷ (codes "have", Name.Have)
    ∷ (codes "release", Name.Release) ∷ (codes "keep", Name.Keep) ∷ []

abbrev pub named : List (List ℕ × CallName) → List ℕ → Option CallName
named calls text = option_map (λ call. call.1) (find (λ call. bytes_eq text call.0) calls)

abbrev pub name_of : List ℕ → Option CallName
name_of text = option_or (named driving_calls text) (named asking_calls text)

-- a call without arguments
abbrev pub without_arguments : Call → List (List ℕ) → Option Call
without_arguments call fields = option_map (λ _. call) (ends fields)

-- the data connection that the caller has opened, or could not open
abbrev pub socket_of : ℕ → List (List ℕ) → Option Call
socket_of now fields = do
  tuple ← tuple_of fields
  places ← data_ends_of tuple.1
  Some (Calls.AllocatedTcpSocket tuple.0.0 tuple.0.1 places.0 places.1 now)

-- T ADDR, of an allocation
abbrev pub permissions_call : List (List ℕ) → Option Call
permissions_call fields = option_map (λ a. Calls.Permissions a.0 a.1) (transport_and_address_of fields)

-- T IP, of a peer
abbrev pub have_of : List (List ℕ) → Option Call
have_of fields = option_map (λ p. Calls.HavePermission p.0 p.1) (transport_and_ip_of fields)

-- the call that says whether this grant is kept
abbrev pub kept_call : Bool → TransportType → Grantee → Call
kept_call is_kept transport (Ip ip) = Calls.SetPermissionKept transport ip is_kept
kept_call is_kept transport (Peer peer) = Calls.SetChannelKept transport peer is_kept

-- T IP, of a permission, or T ADDR, of a channel
abbrev pub kept_of : Bool → List (List ℕ) → Option Call
kept_of is_kept fields = option_map (λ g. kept_call is_kept g.0 g.1) (transport_and_grantee_of fields)

-- a call from its time, its name and its arguments
abbrev pub call_with : ℕ → CallName → List (List ℕ) → Option Call
call_with now Name.Poll fields = without_arguments (Calls.Poll now) fields
call_with now Name.Transmit fields = without_arguments (Calls.PollTransmit now) fields
call_with now Name.Event fields = without_arguments Calls.PollEvent fields
call_with now Name.Recv fields = option_map (λ packet. Calls.Recv packet now) (packet_of fields)
call_with now Name.PollRecv fields = without_arguments (Calls.PollRecv now) fields
call_with now Name.Send fields = option_map (λ s. Calls.SendTo s.0 s.1 s.2 now) (sending_of fields)
call_with now Name.Permit fields = option_map (λ p. Calls.CreatePermission p.0 p.1 now) (transport_and_ip_of fields)
call_with now Name.Bind fields = option_map (λ p. Calls.BindChannel p.0 p.1 now) (transport_and_address_of fields)
call_with now Name.Connect fields = option_map (λ peer. Calls.TcpConnect peer now) (one_address_of fields)
call_with now Name.Socket fields = socket_of now fields
call_with now Name.Delete fields = without_arguments (Calls.Delete now) fields
call_with now Name.Closed fields = option_map (λ e. Calls.TcpClosed e.0 e.1 now) (two_addresses_of fields)
call_with now Name.Error fields = without_arguments Calls.ProtocolError fields
call_with now Name.Relayed fields = without_arguments Calls.RelayedAddresses fields
call_with now Name.Permissions fields = permissions_call fields
call_with now Name.Have fields = have_of fields
call_with now Name.Release fields = kept_of false fields
call_with now Name.Keep fields = kept_of true fields

-- the most that one message to the server carries for an allocation over UDP; over TCP there is no limit
abbrev pub is_short : TransportType → List ℕ → Bool
is_short Udp payload = nat_le (length payload) 65504
is_short Tcp payload = true

abbrev pub has_short_payload : TransportType → Call → Bool
has_short_payload relays (Calls.SendTo transport to payload now) = is_short relays payload
has_short_payload relays _ = true

-- the call, unless it sends more than an allocation over this transport takes
abbrev pub if_short : TransportType → Call → Result Call BadKind
if_short relays call = if has_short_payload relays call then Ok call else Err Bad.Payload

-- NOW CALL, and the arguments, for a client whose allocation is over this transport
unfoldable pub call_of : TransportType → List ℕ → Result Call BadKind
call_of relays line =
    needed (next instant_of (parts_of 32 line)) Bad.Time (λ now.
    needed (next name_of now.1) Bad.Call (λ name.
    needed (call_with now.0 name.0 name.1) Bad.Argument (if_short relays)))
