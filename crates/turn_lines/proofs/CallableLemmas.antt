-- Each parsed call is allowed on a client whose allocation is over the transport for which it was parsed.
use Rattle.std.proofs.Common.{◌≡◌, ℕ, ◌^◌, ◌≤◌, Bool, true, false, List, [], ◌∷◌, length, Option, Some, Ok, subst}
use Rattle.std.specs.Prelude.{◌&&◌, nat_le}
use Rattle.std.specs.Option.{option_map, option_and_then}
use Rattle.std.specs.Str.Parse.{digits_value}
use Rattle.std.proofs.lemmas.Bool.{leb-true}
use Rattle.turn_stun.specs.declared.transport.TransportType.{TransportType}
use Rattle.turn_stun.specs.declared.transport.TransportType.TheVariants.{Udp, Tcp}
use Rattle.turn_client_api.specs.declared.call.Call.{Call}
use Rattle.turn_client_api.specs.declared.call.Call.TheVariants as Calls
use Rattle.turn_client_calls.specs.Checks.{needed}
use Rattle.turn_client_calls.specs.Run.{IsCallable}
use Rattle.turn_lines.specs.Arguments.{data_ends_of, one_address_of, packet_of, sending_of, transport_and_address_of, transport_and_grantee_of, transport_and_ip_of, tuple_of, two_addresses_of}
use Rattle.turn_lines.specs.Call.{call_of, call_with, has_short_payload, if_short, is_short, instant_of, kept_call, name_of}
use Rattle.turn_lines.specs.Number.{decimal_up_to, is_decimal}
use Rattle.turn_lines.specs.Parts.{ends, next, parts_of}
use Rattle.turn_lines.specs.declared.call.arguments.Grantee.{Grantee}
use Rattle.turn_lines.specs.declared.call.arguments.Grantee.TheVariants as Grantees
use Rattle.turn_lines.specs.declared.call.name.CallName.{CallName}
use Rattle.turn_lines.specs.declared.call.name.CallName.TheVariants as Name
use Rattle.turn_lines.specs.declared.fault.BadKind.TheVariants as Bad
use Rattle.turn_lines.proofs.NumberLemmas.{both}
use Rattle.turn_lines.proofs.StepLemmas.{of_map, of_and_then, of_needed, of_then, of_guard, some_is}
use Rattle.turn_client_api.specs.Calls.{FitsDatagram}

-- ---- one call

low_decimal : (most : ℕ) (text : List ℕ) (n : ℕ) → decimal_up_to most text ≡ Some n → n ≤ most
low_decimal most text n h =
    let value = digits_value 10 text in
    let g = of_guard (is_decimal text && nat_le value most) value n h in
    subst (λ m. m ≤ most) g.1 (leb-true value most (both g.0).1)

low_time : (fields : List (List ℕ)) (now : ℕ × List (List ℕ)) → next instant_of fields ≡ Some now → now.0 ≤ 2 ^ 62
low_time [] now h = cc
low_time (field ∷ fields) now h =
    let m = of_map (λ value. (value, fields)) (instant_of field) now h in
    subst (λ (at : ℕ × List (List ℕ)). at.0 ≤ 2 ^ 62) m.2 (low_decimal (2 ^ 62) field m.0 m.1)

-- the call is allowed, unless it sends too many bytes
abbrev IsCallableIfShort : TransportType → Call → Type 0
IsCallableIfShort relays call = has_short_payload relays call ≡ true → IsCallable relays call

short_of : (relays : TransportType) (payload : List ℕ) → is_short relays payload ≡ true → FitsDatagram relays payload
short_of Udp payload h = λ over. leb-true (length payload) 65504 h
short_of Tcp payload h = λ over. cc

mapped : {A : Type 0} → (relays : TransportType) (f : A → Call) (o : Option A) (call : Call) → ((a : A) → IsCallableIfShort relays (f a)) → option_map f o ≡ Some call → IsCallableIfShort relays call
mapped relays f o call good h = let m = of_map f o call h in subst (IsCallableIfShort relays) m.2 (good m.0)

kept_callable : (relays : TransportType) (is_kept : Bool) (t : TransportType) (g : Grantee) → IsCallableIfShort relays (kept_call is_kept t g)
kept_callable relays is_kept t (Grantees.Ip ip) short = tt
kept_callable relays is_kept t (Grantees.Peer peer) short = tt

callable_with : (relays : TransportType) (now : ℕ) (name : CallName) (fields : List (List ℕ)) (call : Call) → now ≤ 2 ^ 62 → call_with now name fields ≡ Some call → IsCallableIfShort relays call
callable_with relays now Name.Poll fields call low h = mapped relays (λ _. Calls.Poll now) (ends fields) call (λ _ short. low) h
callable_with relays now Name.Transmit fields call low h = mapped relays (λ _. Calls.PollTransmit now) (ends fields) call (λ _ short. low) h
callable_with relays now Name.Event fields call low h = mapped relays (λ _. Calls.PollEvent) (ends fields) call (λ _ short. tt) h
callable_with relays now Name.Recv fields call low h = mapped relays (λ p. Calls.Recv p now) (packet_of fields) call (λ _ short. low) h
callable_with relays now Name.PollRecv fields call low h = mapped relays (λ _. Calls.PollRecv now) (ends fields) call (λ _ short. low) h
callable_with relays now Name.Send fields call low h =
    mapped relays (λ s. Calls.SendTo s.0 s.1 s.2 now) (sending_of fields) call (λ s short. (low, short_of relays s.2 short)) h
callable_with relays now Name.Permit fields call low h =
    mapped relays (λ p. Calls.CreatePermission p.0 p.1 now) (transport_and_ip_of fields) call (λ _ short. low) h
callable_with relays now Name.Bind fields call low h =
    mapped relays (λ p. Calls.BindChannel p.0 p.1 now) (transport_and_address_of fields) call (λ _ short. low) h
callable_with relays now Name.Connect fields call low h = mapped relays (λ p. Calls.TcpConnect p now) (one_address_of fields) call (λ _ short. low) h
callable_with relays now Name.Socket fields call low h =
    let t = of_and_then (tuple_of fields) (λ t. option_and_then (λ e. Some (Calls.AllocatedTcpSocket t.0.0 t.0.1 e.0 e.1 now)) (data_ends_of t.1)) call h in
    let e = of_and_then (data_ends_of t.0.1) (λ e. Some (Calls.AllocatedTcpSocket t.0.0.0 t.0.0.1 e.0 e.1 now)) call t.1 in
    subst (IsCallableIfShort relays) (some_is _ call e.1) (λ short. low)
callable_with relays now Name.Delete fields call low h = mapped relays (λ _. Calls.Delete now) (ends fields) call (λ _ short. low) h
callable_with relays now Name.Closed fields call low h = mapped relays (λ e. Calls.TcpClosed e.0 e.1 now) (two_addresses_of fields) call (λ _ short. low) h
callable_with relays now Name.Error fields call low h = mapped relays (λ _. Calls.ProtocolError) (ends fields) call (λ _ short. tt) h
callable_with relays now Name.Relayed fields call low h = mapped relays (λ _. Calls.RelayedAddresses) (ends fields) call (λ _ short. tt) h
callable_with relays now Name.Permissions fields call low h =
    mapped relays (λ a. Calls.Permissions a.0 a.1) (transport_and_address_of fields) call (λ _ short. tt) h
callable_with relays now Name.Have fields call low h = mapped relays (λ p. Calls.HavePermission p.0 p.1) (transport_and_ip_of fields) call (λ _ short. tt) h
callable_with relays now Name.Release fields call low h =
    mapped relays (λ g. kept_call false g.0 g.1) (transport_and_grantee_of fields) call (λ g. kept_callable relays false g.0 g.1) h
callable_with relays now Name.Keep fields call low h =
    mapped relays (λ g. kept_call true g.0 g.1) (transport_and_grantee_of fields) call (λ g. kept_callable relays true g.0 g.1) h

-- ---- a line

pub callable_line : (relays : TransportType) (line : List ℕ) (call : Call) → call_of relays line ≡ Ok call → IsCallable relays call
unfolding call_of
callable_line relays line call h =
    let at = of_needed (next instant_of (parts_of 32 line)) Bad.Time
    (λ now. needed (next name_of now.1) Bad.Call (λ name. needed (call_with now.0 name.0 name.1) Bad.Argument (if_short relays))) call h in
    let name = of_needed (next name_of at.0.1) Bad.Call (λ name. needed (call_with at.0.0 name.0 name.1) Bad.Argument (if_short relays)) call at.2 in
    let made = of_needed (call_with at.0.0 name.0.0 name.0.1) Bad.Argument (if_short relays) call name.2 in
    let kept = of_then (has_short_payload relays made.0) Bad.Payload made.0 call made.2 in
    let low : at.0.0 ≤ 2 ^ 62 = low_time (parts_of 32 line) at.0 at.1 in
    subst (IsCallable relays) kept.1 (callable_with relays at.0.0 name.0.0 name.0.1 made.0 low made.1 kept.0)
