-- Parsing the line of a call gives that call.
use Rattle.std.proofs.Common.{◌≡◌, ℕ, ◌-◌, ◌^◌, ◌<◌, ◌≤◌, Bool, true, false, List, [], ◌∷◌, length, Option, Some, None, Result, Ok, Err, cond, not, refl, sym, ap, subst, ◌∙◌, arith}
use Rattle.std.specs.Prelude.{◌==◌, decimal, codes}
use Rattle.std.specs.List.{list_all}
use Rattle.std.proofs.lemmas.Bool.{le-leb, ne_eqb}
use Rattle.std.specs.Option.{option_map}
use Rattle.std.specs.Result.{result_ok}
use Rattle.std.specs.Str.{bytes_eq}
use Rattle.hex.specs.Hex.{encode_with, encode_lower, decode_of, IsBytes}
use Rattle.hex.proofs.HexLemmas.{decode_of-encode_lower}
use Rattle.std.specs.declared.net.ip_addr.IpAddr.{IpAddr}
use Rattle.std.specs.declared.net.socket_addr.SocketAddr.{SocketAddr}
use Rattle.turn_stun.specs.declared.transport.TransportType.{TransportType}
use Rattle.turn_stun.specs.declared.transport.TransportType.TheVariants.{Udp, Tcp}
use Rattle.turn_stun.specs.declared.transport.Transmit.{Transmit}
use Rattle.turn_client_api.specs.declared.call.Call.{Call}
use Rattle.turn_client_api.specs.declared.call.Call.TheVariants as Calls
use Rattle.turn_client_api.specs.declared.poll.Socket5Tuple.{Socket5Tuple}
use Rattle.turn_client_calls.specs.Checks.{needed, ◌>>=◌}
use Rattle.turn_lines.specs.Address.{address_of}
use Rattle.turn_lines.specs.Arguments.{address_if_any, data_ends_of, one_address_of, packet_of, sending_of, transport_and_address_of}
use Rattle.turn_lines.specs.Arguments.{transport_and_grantee_of, transport_and_ip_of, tuple_of, two_addresses_of, way_of, grantee_of}
use Rattle.turn_lines.specs.Call.{call_of, call_with, if_short, is_short, instant_of, kept_call, name_of}
use Rattle.turn_lines.specs.Field.{bytes_of, is_lower_hex, transport_of}
use Rattle.turn_lines.specs.Line.{call_line, HasLine, IsIp, IsSpelled, IsSpelledIfAny, IsTuple, keep_name, text_if_any, tuple_fields}
use Rattle.turn_lines.specs.Parts.{parts_of, next}
use Rattle.turn_lines.specs.Text.{address_text, bytes_text, fields_text, ip_text, transport_text}
use Rattle.turn_lines.specs.declared.call.arguments.Grantee.{Grantee}
use Rattle.turn_lines.specs.declared.call.arguments.Grantee.TheVariants as Grantees
use Rattle.turn_lines.specs.declared.fault.BadKind.{BadKind}
use Rattle.turn_lines.specs.declared.fault.BadKind.TheVariants as Bad
use Rattle.turn_lines.proofs.LawLemmas.{Free, AllFree, false_and, Free-from_test, parts_of-join, decimal_free, decimal_up_to-decimal}
use Rattle.turn_lines.proofs.AddressLemmas.{address_of-address_text, address_free, address_long, address_of-ip_text, ip_of-ip_text, ip_free, is_lower_hex-encode_lower, hex_free}
use Rattle.turn_client_api.specs.Calls.{FitsDatagram}

-- ---- fields

abbrev not_space : ℕ → Bool
not_space c = not (c == 32)

-- a word without a space, as the names of calls are
word_free : (text : List ℕ) → list_all not_space text ≡ true → Free 32 text
word_free text h = Free-from_test not_space 32 refl text h

transport_of-text : (t : TransportType) → transport_of (transport_text t) ≡ Some t
transport_of-text Udp = refl
transport_of-text Tcp = refl

transport_free : (t : TransportType) → Free 32 (transport_text t)
transport_free Udp = (refl, (refl, (refl, tt)))
transport_free Tcp = (refl, (refl, (refl, tt)))

some_length : (x : ℕ) (xs : List ℕ) → (length (x ∷ xs) == 0) ≡ false
some_length x xs = ne_eqb (length (x ∷ xs)) 0 (λ e. absurd (omega arith))

-- bytes, unless there are none, are written as their digits
bytes_text-some : (b : ℕ) (bytes : List ℕ) → bytes_text (b ∷ bytes) ≡ encode_lower (b ∷ bytes)
bytes_text-some b bytes = ap (λ t. cond t (codes "-") (encode_lower (b ∷ bytes))) (some_length b bytes)

bytes_of-digits : (x y : ℕ) (digits bytes : List ℕ) → is_lower_hex (x ∷ y ∷ digits) ≡ true → decode_of (x ∷ y ∷ digits) ≡ Ok bytes → bytes_of (x ∷ y ∷ digits) ≡ Some bytes
bytes_of-digits x y digits bytes lower decoded =
    let text = x ∷ y ∷ digits in
    let dash : bytes_eq text (45 ∷ []) ≡ false = false_and (x == 45) in
    let some : (length text == 0) ≡ false = some_length x (y ∷ digits) in
    ap (λ t. cond t (Some []) (cond (length text == 0) None (cond (is_lower_hex text) (result_ok (decode_of text)) None))) dash
    ∙ ap (λ t. cond t None (cond (is_lower_hex text) (result_ok (decode_of text)) None)) some
    ∙ ap (λ t. cond t (result_ok (decode_of text)) None) lower
    ∙ ap result_ok decoded

bytes_of-text : (bytes : List ℕ) → IsBytes bytes → bytes_of (bytes_text bytes) ≡ Some bytes
unfolding encode_with
bytes_of-text [] h = refl
bytes_of-text (b ∷ bytes) h =
    ap bytes_of (bytes_text-some b bytes) ∙ bytes_of-digits _ _ _ (b ∷ bytes) (is_lower_hex-encode_lower (b ∷ bytes) h) (decode_of-encode_lower (b ∷ bytes) h)

bytes_free : (bytes : List ℕ) → IsBytes bytes → Free 32 (bytes_text bytes)
bytes_free [] h = (refl, tt)
bytes_free (b ∷ bytes) h = subst (Free 32) (sym (bytes_text-some b bytes)) (hex_free 32 (b ∷ bytes) refl h)

not_dash : (text : List ℕ) → 1 < length text → bytes_eq text (codes "-") ≡ false
not_dash [] h = absurd (omega arith)
not_dash (x ∷ []) h = absurd (omega arith)
not_dash (x ∷ y ∷ text) h = false_and (x == 45)

address_if_any-text : (local : Option SocketAddr) → IsSpelledIfAny local → address_if_any (text_if_any local) ≡ Some local
address_if_any-text None h = refl
address_if_any-text (Some address) h =
    ap (λ b. cond b (Some None) (option_map Some (address_of (address_text address)))) (not_dash (address_text address) (address_long address h))
    ∙ ap (option_map Some) (address_of-address_text address h)

text_if_any_free : (local : Option SocketAddr) → IsSpelledIfAny local → Free 32 (text_if_any local)
text_if_any_free None h = (refl, tt)
text_if_any_free (Some address) h = address_free address h

-- ---- the line

-- the name and the arguments of a call at this time
abbrev with_name : TransportType → ℕ → List (List ℕ) → Result Call BadKind
with_name relays now rest =
    needed (next name_of rest) Bad.Call (λ name. needed (call_with now name.0 name.1) Bad.Argument (if_short relays))

call_of-parts : (relays : TransportType) (now : ℕ) (rest : List (List ℕ)) (line : List ℕ) → parts_of 32 line ≡ decimal now ∷ rest → now ≤ 2 ^ 62 → call_of relays line ≡ with_name relays now rest
unfolding call_of
call_of-parts relays now rest line e h =
    ap (λ parts. needed {A = ℕ × List (List ℕ)} (next instant_of parts) Bad.Time (λ at. with_name relays at.0 at.1)) e
    ∙ ap (λ o. needed {A = ℕ × List (List ℕ)} (option_map (λ value. (value, rest)) o) Bad.Time (λ at. with_name relays at.0 at.1)) (decimal_up_to-decimal (2 ^ 62) now h (omega arith))

-- the fields of a line whose first field is a time
call_of-fields : (relays : TransportType) (now : ℕ) (rest : List (List ℕ)) → now ≤ 2 ^ 62 → AllFree 32 rest → call_of relays (fields_text (decimal now ∷ rest)) ≡ with_name relays now rest
call_of-fields relays now rest low free =
    call_of-parts relays now rest (fields_text (decimal now ∷ rest))
    (parts_of-join 32 (decimal now) rest (decimal_free 32 now refl (omega arith), free)) low

-- the arguments of each kind

packet_of-fields : (packet : Transmit (List ℕ)) → IsSpelled packet.from → IsSpelled packet.to → IsBytes packet.payload
    → packet_of (transport_text packet.transport ∷ address_text packet.from ∷ address_text packet.to ∷ bytes_text packet.payload ∷ []) ≡ Some packet
unfolding packet_of way_of
packet_of-fields packet from to bytes =
    rw (transport_of-text packet.transport, address_of-address_text packet.from from, address_of-address_text packet.to to, bytes_of-text packet.payload bytes) refl

sending_of-fields : (t : TransportType) (to : SocketAddr) (payload : List ℕ) → IsSpelled to → IsBytes payload
    → sending_of (transport_text t ∷ address_text to ∷ bytes_text payload ∷ []) ≡ Some (t, to, payload)
unfolding sending_of
sending_of-fields t to payload h bytes = rw (transport_of-text t, address_of-address_text to h, bytes_of-text payload bytes) refl

transport_and_ip_of-fields : (t : TransportType) (ip : IpAddr) → IsIp ip → transport_and_ip_of (transport_text t ∷ ip_text ip ∷ []) ≡ Some (t, ip)
unfolding transport_and_ip_of
transport_and_ip_of-fields t ip h = rw (transport_of-text t, ip_of-ip_text ip h) refl

transport_and_address_of-fields : (t : TransportType) (address : SocketAddr) → IsSpelled address → transport_and_address_of (transport_text t ∷ address_text address ∷ []) ≡ Some (t, address)
unfolding transport_and_address_of
transport_and_address_of-fields t address h = rw (transport_of-text t, address_of-address_text address h) refl

grantee_of-ip : (ip : IpAddr) → IsIp ip → grantee_of (ip_text ip) ≡ Some (Grantees.Ip ip)
grantee_of-ip ip h = rw (address_of-ip_text ip h, ip_of-ip_text ip h) refl

grantee_of-address : (peer : SocketAddr) → IsSpelled peer → grantee_of (address_text peer) ≡ Some (Grantees.Peer peer)
grantee_of-address peer h = rw (address_of-address_text peer h) refl

transport_and_grantee_of-fields : (t : TransportType) (text : List ℕ) (g : Grantee) → grantee_of text ≡ Some g → transport_and_grantee_of (transport_text t ∷ text ∷ []) ≡ Some (t, g)
unfolding transport_and_grantee_of
transport_and_grantee_of-fields t text g h = rw (transport_of-text t, h) refl

one_address_of-fields : (address : SocketAddr) → IsSpelled address → one_address_of (address_text address ∷ []) ≡ Some address
unfolding one_address_of
one_address_of-fields address h = rw (address_of-address_text address h) refl

two_addresses_of-fields : (local remote : SocketAddr) → IsSpelled local → IsSpelled remote → two_addresses_of (address_text local ∷ address_text remote ∷ []) ≡ Some (local, remote)
unfolding two_addresses_of
two_addresses_of-fields local remote h k = rw (address_of-address_text local h, address_of-address_text remote k) refl

tuple_of-fields : (id : ℕ) (tuple : Socket5Tuple) (others : List (List ℕ)) → id < 2 ^ 32 → IsTuple tuple → tuple_of (decimal id ∷ tuple_fields tuple others) ≡ Some ((id, tuple), others)
unfolding tuple_of way_of
tuple_of-fields id tuple others low h =
    rw (decimal_up_to-decimal (2 ^ 32 - 1) id (omega arith) (omega arith), transport_of-text tuple.transport, address_of-address_text tuple.from h.0, address_of-address_text tuple.to h.1) refl

data_ends_of-fields : (peer : SocketAddr) (local : Option SocketAddr) → IsSpelled peer → IsSpelledIfAny local → data_ends_of (address_text peer ∷ text_if_any local ∷ []) ≡ Some (peer, local)
unfolding data_ends_of
data_ends_of-fields peer local h k = rw (address_of-address_text peer h, address_if_any-text local k) refl

-- the call with these arguments, or an error
abbrev as_read : TransportType → Option Call → Result Call BadKind
as_read relays o = needed o Bad.Argument (if_short relays)

-- bytes that fit an allocation over this transport
short_is : (relays : TransportType) (payload : List ℕ) → FitsDatagram relays payload → is_short relays payload ≡ true
short_is Udp payload h = le-leb (length payload) 65504 (h refl)
short_is Tcp payload h = refl

-- the line that says whether this grant is kept
kept_is_read_again : (relays : TransportType) (idle : ℕ) (is_kept : Bool) (t : TransportType) (text : List ℕ) (g : Grantee) → idle ≤ 2 ^ 62 → Free 32 text → grantee_of text ≡ Some g
    → call_of relays (fields_text (decimal idle ∷ keep_name is_kept ∷ transport_text t ∷ text ∷ [])) ≡ as_read relays (Some (kept_call is_kept t g))
kept_is_read_again relays idle true t text g low free h =
    call_of-fields relays idle (codes "keep" ∷ transport_text t ∷ text ∷ []) low (word_free (codes "keep") refl, (transport_free t, (free, tt)))
    ∙ ap (λ o. as_read relays (option_map (λ g. kept_call true g.0 g.1) o)) (transport_and_grantee_of-fields t text g h)
kept_is_read_again relays idle false t text g low free h =
    call_of-fields relays idle (codes "release" ∷ transport_text t ∷ text ∷ []) low (word_free (codes "release") refl, (transport_free t, (free, tt)))
    ∙ ap (λ o. as_read relays (option_map (λ g. kept_call false g.0 g.1) o)) (transport_and_grantee_of-fields t text g h)

-- parsing the line of a call gives that call
pub call_is_read_again : (relays : TransportType) (idle : ℕ) (call : Call) → idle ≤ 2 ^ 62 → HasLine relays call → call_of relays (call_line idle call) ≡ Ok call
call_is_read_again relays idle (Calls.Poll now) low h = call_of-fields relays now (codes "poll" ∷ []) h (word_free (codes "poll") refl, tt)
call_is_read_again relays idle (Calls.PollTransmit now) low h =
    call_of-fields relays now (codes "transmit" ∷ []) h (word_free (codes "transmit") refl, tt)
call_is_read_again relays idle Calls.PollEvent low h = call_of-fields relays idle (codes "event" ∷ []) low (word_free (codes "event") refl, tt)
call_is_read_again relays idle (Calls.Recv packet now) low h =
    call_of-fields relays now (codes "recv" ∷ transport_text packet.transport ∷ address_text packet.from ∷ address_text packet.to ∷ bytes_text packet.payload ∷ []) h.0
    (word_free (codes "recv") refl, (transport_free packet.transport, (address_free packet.from h.1, (address_free packet.to h.2, (bytes_free packet.payload h.3, tt)))))
    ∙ ap (λ o. as_read relays (option_map (λ p. Calls.Recv p now) o)) (packet_of-fields packet h.1 h.2 h.3)
call_is_read_again relays idle (Calls.PollRecv now) low h =
    call_of-fields relays now (codes "poll_recv" ∷ []) h (word_free (codes "poll_recv") refl, tt)
call_is_read_again relays idle (Calls.SendTo t to payload now) low h =
    let short : is_short relays payload ≡ true = short_is relays payload h.2.1 in
    call_of-fields relays now (codes "send" ∷ transport_text t ∷ address_text to ∷ bytes_text payload ∷ []) h.0
    (word_free (codes "send") refl, (transport_free t, (address_free to h.1, (bytes_free payload h.2.0, tt))))
    ∙ ap (λ o. as_read relays (option_map (λ s. Calls.SendTo s.0 s.1 s.2 now) o)) (sending_of-fields t to payload h.1 h.2.0)
    ∙ ap (λ b. cond b (Ok (Calls.SendTo t to payload now)) (Err Bad.Payload)) short
call_is_read_again relays idle (Calls.CreatePermission t peer now) low h =
    call_of-fields relays now (codes "permit" ∷ transport_text t ∷ ip_text peer ∷ []) h.0 (word_free (codes "permit") refl, (transport_free t, (ip_free peer h.1, tt)))
    ∙ ap (λ o. as_read relays (option_map (λ p. Calls.CreatePermission p.0 p.1 now) o)) (transport_and_ip_of-fields t peer h.1)
call_is_read_again relays idle (Calls.BindChannel t peer now) low h =
    call_of-fields relays now (codes "bind" ∷ transport_text t ∷ address_text peer ∷ []) h.0 (word_free (codes "bind") refl, (transport_free t, (address_free peer h.1, tt)))
    ∙ ap (λ o. as_read relays (option_map (λ p. Calls.BindChannel p.0 p.1 now) o)) (transport_and_address_of-fields t peer h.1)
call_is_read_again relays idle (Calls.TcpConnect peer now) low h =
    call_of-fields relays now (codes "connect" ∷ address_text peer ∷ []) h.0 (word_free (codes "connect") refl, (address_free peer h.1, tt))
    ∙ ap (λ o. as_read relays (option_map (λ p. Calls.TcpConnect p now) o)) (one_address_of-fields peer h.1)
call_is_read_again relays idle (Calls.AllocatedTcpSocket id tuple peer local now) low h =
    let places = address_text peer ∷ text_if_any local ∷ [] in
    call_of-fields relays now (codes "socket" ∷ decimal id ∷ tuple_fields tuple places) h.0 (
      word_free (codes "socket") refl,
      (
        decimal_free 32 id refl (omega (arith, h.1)),
        (transport_free tuple.transport, (address_free tuple.from h.2.0, (address_free tuple.to h.2.1, (address_free peer h.3, (text_if_any_free local h.4, tt))))),
      ),
    )
    ∙ ap (λ (o : Option ((ℕ × Socket5Tuple) × List (List ℕ))). as_read relays (o >>= λ t. data_ends_of t.1 >>= λ e. Some (Calls.AllocatedTcpSocket t.0.0 t.0.1 e.0 e.1 now)))
    (tuple_of-fields id tuple places h.1 h.2)
    ∙ ap (λ (o : Option (SocketAddr × Option SocketAddr)). as_read relays (o >>= λ e. Some (Calls.AllocatedTcpSocket id tuple e.0 e.1 now))) (data_ends_of-fields peer local h.3 h.4)
call_is_read_again relays idle (Calls.Delete now) low h = call_of-fields relays now (codes "delete" ∷ []) h (word_free (codes "delete") refl, tt)
call_is_read_again relays idle (Calls.TcpClosed local remote now) low h =
    call_of-fields relays now (codes "closed" ∷ address_text local ∷ address_text remote ∷ []) h.0 (word_free (codes "closed") refl, (address_free local h.1, (address_free remote h.2, tt)))
    ∙ ap (λ o. as_read relays (option_map (λ e. Calls.TcpClosed e.0 e.1 now) o)) (two_addresses_of-fields local remote h.1 h.2)
call_is_read_again relays idle Calls.ProtocolError low h = call_of-fields relays idle (codes "error" ∷ []) low (word_free (codes "error") refl, tt)
call_is_read_again relays idle Calls.RelayedAddresses low h = call_of-fields relays idle (codes "relayed" ∷ []) low (word_free (codes "relayed") refl, tt)
call_is_read_again relays idle (Calls.Permissions t relayed) low h =
    call_of-fields relays idle (codes "permissions" ∷ transport_text t ∷ address_text relayed ∷ []) low (word_free (codes "permissions") refl, (transport_free t, (address_free relayed h, tt)))
    ∙ ap (λ o. as_read relays (option_map (λ a. Calls.Permissions a.0 a.1) o)) (transport_and_address_of-fields t relayed h)
call_is_read_again relays idle (Calls.HavePermission t to) low h =
    call_of-fields relays idle (codes "have" ∷ transport_text t ∷ ip_text to ∷ []) low (word_free (codes "have") refl, (transport_free t, (ip_free to h, tt)))
    ∙ ap (λ o. as_read relays (option_map (λ p. Calls.HavePermission p.0 p.1) o)) (transport_and_ip_of-fields t to h)
call_is_read_again relays idle (Calls.SetPermissionKept t peer is_kept) low h =
    kept_is_read_again relays idle is_kept t (ip_text peer) (Grantees.Ip peer) low (ip_free peer h) (grantee_of-ip peer h)
call_is_read_again relays idle (Calls.SetChannelKept t peer is_kept) low h =
    kept_is_read_again relays idle is_kept t (address_text peer) (Grantees.Peer peer) low (address_free peer h) (grantee_of-address peer h)
