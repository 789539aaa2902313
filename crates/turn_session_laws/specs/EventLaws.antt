-- Laws of events: what a session reports of requests and grants comes from an event of its client.
use Rattle.std.specs.Prelude.{◌≡◌, ℕ, ◌++◌, Bool, true, List, Option, Some, None}
use Rattle.std.specs.List.{AllByRecursion, Contains}
use Rattle.std.specs.declared.net.socket_addr.SocketAddr.{SocketAddr}
use Rattle.turn_client_api.specs.declared.event.TurnEvent.{TurnEvent}
use Rattle.turn_client_api.specs.declared.event.TurnEvent.TheVariants.{AllocationCreated, AllocationCreateFailed, PermissionCreated, PermissionCreateFailed}
use Rattle.turn_client_api.specs.declared.event.TurnEvent.TheVariants.{ChannelCreated, ChannelCreateFailed, TcpConnected, TcpConnectFailed}
use Rattle.turn_session_book.specs.declared.answers.Answer.{Answer}
use Rattle.turn_session_book.specs.declared.answers.Answer.TheVariants as Answers
use Rattle.turn_session_book.specs.declared.answers.Outcome.{Outcome}
use Rattle.turn_session_book.specs.declared.answers.Outcome.TheVariants.{Granted, Refused, TimedOut}
use Rattle.turn_session_book.specs.declared.events.Event.{Event}
use Rattle.turn_session_book.specs.declared.events.Event.TheVariants as Events
use Rattle.turn_session_book.specs.declared.keys.Key.{Key}
use Rattle.turn_session_book.specs.declared.keys.Key.TheVariants.{Permission, Channel, Connect}
use Rattle.turn_session_book.specs.declared.replies.ErrorReply.{ErrorReply}
use Rattle.turn_session_client.specs.Asking.{AnswersNow, is_granted}
use Rattle.turn_session_client.specs.Drain.{drained, unnoted}
use Rattle.turn_session_client.specs.Keeping.{keep_step}
use Rattle.turn_session_client.specs.NotedState.{NotedState}

-- ---- what an event of the client is reported as

abbrev pub IsRelayed : SocketAddr → Option SocketAddr → Event → Type 0
IsRelayed relayed mapped (Events.Up at seen) = (at ≡ relayed) × (seen ≡ mapped)
IsRelayed relayed mapped (Events.Also at) = at ≡ relayed
IsRelayed relayed mapped _ = ⊥

-- the outcome of a request for this key
abbrev pub IsGranted : Key → Event → Type 0
IsGranted key (Events.Outcome ticket k Granted) = k ≡ key
IsGranted key _ = ⊥

-- refused by the error that was received last, or without one timed out
abbrev pub FailsBy : Option ErrorReply → Outcome → Type 0
FailsBy (Some error) (Refused said) = said ≡ error
FailsBy None (TimedOut ignored) = Unit {0}
FailsBy _ _ = ⊥

-- the outcome of a request for this key, or the end of what was granted
abbrev pub IsFailed : Option ErrorReply → Key → Event → Type 0
IsFailed reply key (Events.Outcome ticket k outcome) = (k ≡ key) × FailsBy reply outcome
IsFailed reply key (Events.Lost k outcome) = (k ≡ key) × FailsBy reply outcome
IsFailed reply key (Events.Expired k) = k ≡ key
IsFailed reply key _ = ⊥

abbrev pub Reports : Option ErrorReply → Option SocketAddr → TurnEvent → Event → Type 0
Reports reply mapped (AllocationCreated transport relayed) event = IsRelayed relayed mapped event
Reports reply mapped (AllocationCreateFailed family) event = event ≡ Events.FamilyFailed family reply
Reports reply mapped (PermissionCreated transport ip) event = IsGranted (Permission ip) event
Reports reply mapped (PermissionCreateFailed transport ip) event = IsFailed reply (Permission ip) event
Reports reply mapped (ChannelCreated transport peer) event = IsGranted (Channel peer) event
Reports reply mapped (ChannelCreateFailed transport peer) event = IsFailed reply (Channel peer) event
Reports reply mapped (TcpConnected peer) event = IsGranted (Connect peer) event
Reports reply mapped (TcpConnectFailed peer) event = IsFailed reply (Connect peer) event

-- one of these events of the client is the cause
abbrev pub IsCausedBy : Option ErrorReply → Option SocketAddr → List TurnEvent → Event → Type 0
IsCausedBy reply mapped causes event = (cause : TurnEvent) × Contains causes cause × Reports reply mapped cause event

-- ---- laws

-- events are added behind the others, and each is such a one
abbrev pub Adds : (Event → Type 0) → NotedState → NotedState → Type 0
Adds IsOne was s = (new : List Event) × (s.notes.book.events ≡ was.notes.book.events ++ new) × AllByRecursion IsOne new

pub record GrantedByEvent : Type 0 where
  -- the events of the client are noted, all by the error that was received last
  pub noted : (now : ℕ) (s : NotedState) → Adds (IsCausedBy s.notes.reply s.notes.mapped (unnoted s)) s (drained now s)
  -- a request is answered so only if the client has the permission, or the book the grant
  pub known : (key : Key) (is_for_data : Bool) (now : ℕ) (answer : Answer) (was s : NotedState)
      → AnswersNow key is_for_data now answer was s → answer ≡ Answers.Granted → is_granted key (keep_step key true was).1 ≡ true
