-- A line that is a call of a session.
use Rattle.std.specs.Prelude.{ℕ, Bool, true, false, if◌then◌else◌, List, [], ◌∷◌, codes, Option, Some, None, is_some, Result, Ok, Err}
use Rattle.std.specs.List.{find}
use Rattle.std.specs.Option.{option_map, option_or}
use Rattle.std.specs.Str.{bytes_eq}
use Rattle.turn_stun.specs.declared.transport.TransportType.TheVariants.{Tcp}
use Rattle.turn_client_api.specs.declared.call.Call.{Call}
use Rattle.turn_client_api.specs.declared.call.Call.TheVariants as Client
use Rattle.turn_client_calls.specs.Checks.{needed}
use Rattle.turn_lines.specs.Call.{call_of, instant_of}
use Rattle.turn_lines.specs.Fault.{◌>>=◌}
use Rattle.turn_lines.specs.Parts.{parts_of, next, ends}
use Rattle.turn_lines.specs.declared.fault.BadKind.{BadKind}
use Rattle.turn_lines.specs.declared.fault.BadKind.TheVariants as Bad
use Rattle.turn_session_book.specs.declared.keys.Key.{Key}
use Rattle.turn_session_lines.specs.Arguments.{closed_of, key_of, optional_tag_of, tag_of}
use Rattle.turn_session_lines.specs.declared.call.Report.{Report}
use Rattle.turn_session_lines.specs.declared.call.Report.TheVariants.{SocketError, SocketEnded, NoRoute, HostMoved}
use Rattle.turn_session_lines.specs.declared.call.Report.TheVariants.{Full, Room, DataWritten, Leave}
use Rattle.turn_session_lines.specs.declared.call.SessionCall.{SessionCall}
use Rattle.turn_session_lines.specs.declared.call.SessionCall.TheVariants as Calls
use Rattle.turn_session_lines.specs.declared.parse.name.KeyName.{KeyName}
use Rattle.turn_session_lines.specs.declared.parse.name.KeyName.TheVariants as Keys
use Rattle.turn_session_lines.specs.declared.parse.name.Name.{Name}
use Rattle.turn_session_lines.specs.declared.parse.name.Name.TheVariants.{OfClient, Own}
use Rattle.turn_session_lines.specs.declared.parse.name.OwnName.{OwnName}
use Rattle.turn_session_lines.specs.declared.parse.name.OwnName.TheVariants as Owns
use Rattle.turn_session_lines.specs.declared.parse.name.PlainName.{PlainName}
use Rattle.turn_session_lines.specs.declared.parse.name.PlainName.TheVariants as Plains
use Rattle.turn_session_lines.specs.declared.parse.name.ReportName.{ReportName}
use Rattle.turn_session_lines.specs.declared.parse.name.ReportName.TheVariants as Reports

-- ---- names

-- the client has these calls too, with the same arguments
abbrev pub client_names : List (List ℕ)
client_names =
    codes "poll" ∷ codes "transmit" ∷ codes "recv" ∷ codes "poll_recv" ∷ codes "send" ∷ codes "have" ∷ codes "event" ∷ codes "socket" ∷ []

abbrev pub is_of_client : List ℕ → Bool
is_of_client text = is_some (find (bytes_eq text) client_names)

abbrev pub key_calls : List (List ℕ × KeyName)
key_calls =
    (codes "request", Keys.Request) ∷ (codes "request-for-data", Keys.RequestForData) ∷ (codes "keep", Keys.Keep)
    ∷ (codes "release", Keys.Release) ∷ (codes "grant", Keys.Grant) ∷ []

abbrev pub plain_calls : List (List ℕ × PlainName)
plain_calls =
    (codes "next", Plains.Next) ∷ (codes "grants", Plains.Grants) ∷ (codes "until", Plains.Until)
    ∷ (codes "counters", Plains.Counters) ∷ (codes "check", Plains.Check) ∷ (codes "abandon", Plains.Abandon) ∷ []

abbrev pub report_calls : List (List ℕ × ReportName)
report_calls =
    (codes "error", Reports.Error) ∷ (codes "ended", Reports.Ended) ∷ (codes "no-route", Reports.NoRoute)
    ∷ (codes "moved", Reports.Moved) ∷ (codes "full", Reports.Full) ∷ (codes "room", Reports.Room)
    ∷ (codes "written", Reports.Written) ∷ (codes "leave", Reports.Leave) ∷ []

abbrev pub named : {A : Type 0} → List (List ℕ × A) → List ℕ → Option A
named calls text = option_map (λ call. call.1) (find (λ call. bytes_eq text call.0) calls)

abbrev pub closed_name : List ℕ → Option OwnName
closed_name text = if bytes_eq text (codes "closed") then Some Owns.Closed else None

abbrev pub own_name_of : List ℕ → Option OwnName
own_name_of text =
    option_or (option_map Owns.OfKey (named key_calls text))
    (option_or (option_map Owns.Plain (named plain_calls text)) (option_or (option_map Owns.Report (named report_calls text)) (closed_name text)))

abbrev pub name_of : List ℕ → Option Name
name_of text = if is_of_client text then Some OfClient else option_map Own (own_name_of text)

-- ---- arguments

abbrev pub key_call : KeyName → Key → ℕ → SessionCall
key_call Keys.Request key now = Calls.Request key false now
key_call Keys.RequestForData key now = Calls.Request key true now
key_call Keys.Keep key now = Calls.SetKept key true
key_call Keys.Release key now = Calls.SetKept key false
key_call Keys.Grant key now = Calls.GrantOf key now

abbrev pub plain_call : PlainName → ℕ → SessionCall
plain_call Plains.Next now = Calls.Next now
plain_call Plains.Grants now = Calls.Grants
plain_call Plains.Until now = Calls.KeptUntil
plain_call Plains.Counters now = Calls.Counters
plain_call Plains.Check now = Calls.Check now
plain_call Plains.Abandon now = Calls.Abandon now

abbrev pub report_with : ReportName → List (List ℕ) → Option Report
report_with Reports.Error fields = option_map SocketError (tag_of fields)
report_with Reports.Ended fields = option_map SocketEnded (optional_tag_of fields)
report_with Reports.NoRoute fields = option_map NoRoute (tag_of fields)
report_with Reports.Moved fields = option_map HostMoved (tag_of fields)
report_with Reports.Full fields = option_map (λ _. Full) (ends fields)
report_with Reports.Room fields = option_map (λ _. Room) (ends fields)
report_with Reports.Written fields = option_map (λ _. DataWritten) (ends fields)
report_with Reports.Leave fields = option_map (λ _. Leave) (ends fields)

abbrev pub own_call_with : OwnName → ℕ → List (List ℕ) → Option SessionCall
own_call_with (Owns.OfKey name) now fields = option_map (λ key. key_call name key now) (key_of fields)
own_call_with (Owns.Plain name) now fields = option_map (λ _. plain_call name now) (ends fields)
own_call_with (Owns.Report name) now fields = option_map (λ report. Calls.Report report now) (report_with name fields)
own_call_with Owns.Closed now fields = option_map (λ c. Calls.DataClosed c.0 c.1 c.2 now) (closed_of fields)

-- a call that a session has in common with its client; a data connection has a local end if it was opened
abbrev pub shared : Call → Result SessionCall BadKind
shared (Client.Poll now) = Ok (Calls.Poll now)
shared (Client.PollTransmit now) = Ok (Calls.PollTransmit now)
shared Client.PollEvent = Ok Calls.PollEvent
shared (Client.Recv transmit now) = Ok (Calls.Recv transmit now)
shared (Client.PollRecv now) = Ok (Calls.PollRecv now)
shared (Client.SendTo transport to payload now) = Ok (Calls.Send transport to payload now)
shared (Client.HavePermission transport to) = Ok (Calls.HavePermission transport to)
shared (Client.AllocatedTcpSocket id socket peer (Some local) now) = Ok (Calls.DataOpened id socket peer local now)
shared (Client.AllocatedTcpSocket id socket peer None now) = Ok (Calls.DataFailed id socket peer now)
shared _ = Err Bad.Call

-- the call of this name, at this time and with these arguments; that of a client is parsed from the whole line
abbrev pub call_with : List ℕ → ℕ → Name × List (List ℕ) → Result SessionCall BadKind
call_with line now (OfClient, fields) = call_of Tcp line >>= shared
call_with line now (Own name, fields) = needed (own_call_with name now fields) Bad.Argument Ok

-- NOW CALL, and the arguments
unfoldable pub session_call_of : List ℕ → Result SessionCall BadKind
session_call_of line =
    needed (next instant_of (parts_of 32 line)) Bad.Time (λ now.
    needed (next name_of now.1) Bad.Call (call_with line now.0))
