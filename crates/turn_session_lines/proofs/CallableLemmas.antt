-- Each parsed call of a session can be made: its time is in range.
use Rattle.std.proofs.Common.{◌≡◌, ℕ, ◌^◌, ◌≤◌, true, false, List, [], ◌∷◌, Option, Some, None, Ok, refl, subst}
use Rattle.std.specs.Prelude.{◌&&◌, nat_le}
use Rattle.std.specs.Option.{option_map}
use Rattle.std.specs.Str.Parse.{digits_value}
use Rattle.std.specs.declared.net.socket_addr.SocketAddr.{SocketAddr}
use Rattle.std.proofs.lemmas.Bool.{leb-true}
use Rattle.turn_stun.specs.declared.transport.TransportType.TheVariants.{Tcp}
use Rattle.turn_client_api.specs.declared.call.Call.{Call}
use Rattle.turn_client_api.specs.declared.call.Call.TheVariants as Client
use Rattle.turn_client_calls.specs.Checks.{needed}
use Rattle.turn_client_calls.specs.Run.{IsCallable as IsCallableOnClient}
use Rattle.turn_lines.specs.Call.{call_of, instant_of}
use Rattle.turn_lines.specs.Number.{is_decimal}
use Rattle.turn_lines.specs.Parts.{ends, next, parts_of}
use Rattle.turn_lines.specs.declared.fault.BadKind.TheVariants as Bad
use Rattle.turn_lines.proofs.CallableLemmas.{callable_line}
use Rattle.turn_lines.proofs.NumberLemmas.{both}
use Rattle.turn_lines.proofs.StepLemmas.{of_both, of_guard, of_map, of_needed, ok_is}
use Rattle.turn_session_book.specs.declared.keys.Key.{Key}
use Rattle.turn_session_lines.specs.Arguments.{closed_of, key_of}
use Rattle.turn_session_lines.specs.Call.{call_with, key_call, name_of, own_call_with, plain_call, report_with, session_call_of, shared}
use Rattle.turn_session_lines.specs.Reply.{IsCallable}
use Rattle.turn_session_lines.specs.declared.call.SessionCall.{SessionCall}
use Rattle.turn_session_lines.specs.declared.call.SessionCall.TheVariants as Calls
use Rattle.turn_session_lines.specs.declared.parse.name.KeyName.{KeyName}
use Rattle.turn_session_lines.specs.declared.parse.name.KeyName.TheVariants as Keys
use Rattle.turn_session_lines.specs.declared.parse.name.Name.{Name}
use Rattle.turn_session_lines.specs.declared.parse.name.Name.TheVariants.{OfClient, Own}
use Rattle.turn_session_lines.specs.declared.parse.name.OwnName.{OwnName}
use Rattle.turn_session_lines.specs.declared.parse.name.OwnName.TheVariants as Owns
use Rattle.turn_session_lines.specs.declared.parse.name.PlainName.{PlainName}
use Rattle.turn_session_lines.specs.declared.parse.name.PlainName.TheVariants as Plains

-- the first field is a time
low_time : (fields : List (List ℕ)) (now : ℕ × List (List ℕ)) → next instant_of fields ≡ Some now → now.0 ≤ 2 ^ 62
low_time [] now h = cc
low_time (field ∷ fields) now h =
    let m = of_map (λ value. (value, fields)) (instant_of field) now h in
    let value = digits_value 10 field in
    let g = of_guard (is_decimal field && nat_le value (2 ^ 62)) value m.0 m.1 in
    let low = subst (λ n. n ≤ 2 ^ 62) g.1 (leb-true value (2 ^ 62) (both g.0).1) in
    subst (λ (at : ℕ × List (List ℕ)). at.0 ≤ 2 ^ 62) m.2 low

-- a call of the client, as one of the session
shared_callable : (call : Call) (made : SessionCall) → IsCallableOnClient Tcp call → shared call ≡ Ok made → IsCallable made
shared_callable (Client.Poll now) made ok h = subst IsCallable (ok_is _ made h) ok
shared_callable (Client.PollTransmit now) made ok h = subst IsCallable (ok_is _ made h) ok
shared_callable Client.PollEvent made ok h = subst IsCallable (ok_is _ made h) tt
shared_callable (Client.Recv transmit now) made ok h = subst IsCallable (ok_is _ made h) ok
shared_callable (Client.PollRecv now) made ok h = subst IsCallable (ok_is _ made h) ok
shared_callable (Client.SendTo transport to payload now) made ok h = subst IsCallable (ok_is _ made h) ok.0
shared_callable (Client.HavePermission transport to) made ok h = subst IsCallable (ok_is _ made h) tt
shared_callable (Client.AllocatedTcpSocket id tuple peer (Some local) now) made ok h = subst IsCallable (ok_is _ made h) ok
shared_callable (Client.AllocatedTcpSocket id tuple peer None now) made ok h = subst IsCallable (ok_is _ made h) ok
shared_callable (Client.Delete now) made ok h = cc
shared_callable (Client.CreatePermission transport peer now) made ok h = cc
shared_callable (Client.BindChannel transport peer now) made ok h = cc
shared_callable (Client.TcpConnect peer now) made ok h = cc
shared_callable (Client.TcpClosed local remote now) made ok h = cc
shared_callable Client.ProtocolError made ok h = cc
shared_callable Client.RelayedAddresses made ok h = cc
shared_callable (Client.Permissions transport relayed) made ok h = cc
shared_callable (Client.SetPermissionKept transport peer is_kept) made ok h = cc
shared_callable (Client.SetChannelKept transport peer is_kept) made ok h = cc

-- ---- a call that only a session has

mapped : {A : Type 0} → (f : A → SessionCall) (o : Option A) (call : SessionCall) → ((a : A) → IsCallable (f a)) → option_map f o ≡ Some call → IsCallable call
mapped f o call good h = let m = of_map f o call h in subst IsCallable m.2 (good m.0)

key_callable : (name : KeyName) (now : ℕ) → now ≤ 2 ^ 62 → (key : Key) → IsCallable (key_call name key now)
key_callable Keys.Request now low key = low
key_callable Keys.RequestForData now low key = low
key_callable Keys.Keep now low key = tt
key_callable Keys.Release now low key = tt
key_callable Keys.Grant now low key = tt

plain_callable : (name : PlainName) (now : ℕ) → now ≤ 2 ^ 62 → IsCallable (plain_call name now)
plain_callable Plains.Next now low = low
plain_callable Plains.Grants now low = tt
plain_callable Plains.Until now low = tt
plain_callable Plains.Counters now low = tt
plain_callable Plains.Check now low = tt
plain_callable Plains.Abandon now low = low

own_callable : (name : OwnName) (now : ℕ) (fields : List (List ℕ)) (call : SessionCall) → now ≤ 2 ^ 62 → own_call_with name now fields ≡ Some call → IsCallable call
own_callable (Owns.OfKey name) now fields call low h = mapped (λ key. key_call name key now) (key_of fields) call (key_callable name now low) h
own_callable (Owns.Plain name) now fields call low h = mapped (λ _. plain_call name now) (ends fields) call (λ _. plain_callable name now low) h
own_callable (Owns.Report name) now fields call low h = mapped (λ report. Calls.Report report now) (report_with name fields) call (λ _. tt) h
own_callable Owns.Closed now fields call low h = mapped (λ c. Calls.DataClosed c.0 c.1 c.2 now) (closed_of fields) call (λ _. low) h

-- ---- a line

with_callable : (line : List ℕ) (now : ℕ) (name : Name) (fields : List (List ℕ)) (call : SessionCall) → now ≤ 2 ^ 62 → call_with line now (name, fields) ≡ Ok call → IsCallable call
with_callable line now OfClient fields call low h =
    let made = of_both (call_of Tcp line) shared call h in
    shared_callable made.0 call (callable_line Tcp line made.0 made.1) made.2
with_callable line now (Own name) fields call low h =
    let made = of_needed (own_call_with name now fields) Bad.Argument Ok call h in
    own_callable name now fields call low (subst (λ (c : SessionCall). own_call_with name now fields ≡ Some c) (ok_is made.0 call made.2) made.1)

pub callable_line_of_session : (line : List ℕ) (call : SessionCall) → session_call_of line ≡ Ok call → IsCallable call
unfolding session_call_of
callable_line_of_session line call h =
    let at = of_needed (next instant_of (parts_of 32 line)) Bad.Time (λ now. needed (next name_of now.1) Bad.Call (call_with line now.0)) call h in
    let name = of_needed (next name_of at.0.1) Bad.Call (call_with line at.0.0) call at.2 in
    with_callable line at.0.0 name.0.0 name.0.1 call (low_time (parts_of 32 line) at.0 at.1) name.2
