use Rattle.std.proofs.Common.{◌≡◌, ℕ, Bool, true, false, List, [], ◌∷◌, ◌++◌, Option, Some, None, refl, sym, ap, ◌∙◌, subst, inl, inr, append-nil, append_assoc}
use Rattle.std.specs.List.{AllByRecursion}
use Rattle.std.specs.Prelude.{if◌then◌else◌, is_none, option_to_list}
use Rattle.std.specs.declared.net.socket_addr.SocketAddr.{SocketAddr}
use Rattle.std.proofs.lemmas.List.Elements.{Contains-append_left, Contains-append_right, Contains-push}
use Rattle.turn_stun.specs.declared.transport.TransportType.{TransportType}
use Rattle.turn_client_api.specs.State.{State}
use Rattle.turn_client_api.specs.declared.event.TurnEvent.{TurnEvent}
use Rattle.turn_client_api.specs.declared.event.TurnEvent.TheVariants.{AllocationCreated, AllocationCreateFailed, PermissionCreated, PermissionCreateFailed}
use Rattle.turn_client_api.specs.declared.event.TurnEvent.TheVariants.{ChannelCreated, ChannelCreateFailed, TcpConnected, TcpConnectFailed}
use Rattle.turn_session_book.specs.Book.{after_binding, after_connection, after_disconnection, end_event, failure_event, outcome_event, relayed_event}
use Rattle.turn_session_book.specs.BookState.{BookState}
use Rattle.turn_session_book.specs.Held.{is_held, is_kept_in}
use Rattle.turn_session_book.specs.Keys.{permission_for}
use Rattle.turn_session_book.specs.OpenRequests.{is_clients_in, request_for}
use Rattle.turn_session_book.specs.Rests.{rest_in_force}
use Rattle.turn_session_book.specs.declared.answers.Answer.{Answer}
use Rattle.turn_session_book.specs.declared.answers.Answer.TheVariants as Answered
use Rattle.turn_session_book.specs.declared.answers.Outcome.TheVariants.{Granted}
use Rattle.turn_session_book.specs.declared.answers.CallError.{CallError}
use Rattle.turn_session_book.specs.declared.events.Event.{Event}
use Rattle.turn_session_book.specs.declared.events.Event.TheVariants as Events
use Rattle.turn_session_book.specs.declared.keys.Key.{Key}
use Rattle.turn_session_book.specs.declared.keys.Key.TheVariants.{Permission, Channel, Connect}
use Rattle.turn_session_book.specs.declared.open_requests.OpenRequest.{OpenRequest}
use Rattle.turn_session_book.specs.declared.open_requests.Progress.TheVariants.{Waiting}
use Rattle.turn_session_book.specs.declared.replies.ErrorReply.{ErrorReply}
use Rattle.turn_session_book.specs.declared.rests.Rest.{Rest}
use Rattle.turn_session_client.specs.Asking.{Answers, added, answer_with, begun, begun_over, is_granted, lacks_permission, makes}
use Rattle.turn_session_client.specs.Drain.{all_noted, unnoted}
use Rattle.turn_session_client.specs.Keeping.{keep_step}
use Rattle.turn_session_client.specs.Making.{made}
use Rattle.turn_session_client.specs.NotedState.{NotedState}
use Rattle.turn_session_client.specs.Notes.{failed, granted, is_question, noted, question_failed, without_question}
use Rattle.turn_session_client.specs.Waiting.{must_wait}
use Rattle.turn_session_client.specs.declared.making.Made.{Made}
use Rattle.turn_session_client.specs.declared.making.Made.TheVariants as Client
use Rattle.turn_session_client.specs.declared.notes.Notes.{Notes}
use Rattle.turn_session_client.specs.declared.notes.Told.{Told}
use Rattle.turn_session_laws.specs.EventLaws.{IsCausedBy, IsFailed, IsGranted, IsRelayed, Reports}
use Rattle.turn_session_laws.proofs.events.granted_by_event.Goals as goal

-- ---- lists

abbrev Grows : (Event → Type 0) → List Event → List Event → Type 0
Grows P before after = (new : List Event) × (after ≡ before ++ new) × AllByRecursion P new

both : (P : Event → Type 0) (xs ys : List Event) → AllByRecursion P xs → AllByRecursion P ys → AllByRecursion P (xs ++ ys)
both P [] ys h k = k
both P (x ∷ xs) ys h k = (h.0, both P xs ys h.1 k)

weaker : (P Q : Event → Type 0) → ((e : Event) → P e → Q e) → (xs : List Event) → AllByRecursion P xs → AllByRecursion Q xs
weaker P Q f [] h = tt
weaker P Q f (x ∷ xs) h = (f x h.0, weaker P Q f xs h.1)

same : (P : Event → Type 0) (events : List Event) → Grows P events events
same P events = ([], sym (append-nil events), tt)

-- ---- one event

settled-fits : (key : Key) (r : Option OpenRequest) → AllByRecursion (IsGranted key) (option_to_list (outcome_event key Granted r))
settled-fits key None = tt
settled-fits key (Some r) = (refl, tt)

grants : (key : Key) (n : Notes) → Grows (IsGranted key) n.book.events (granted key n).book.events
grants key n = (option_to_list (outcome_event key Granted (request_for key n.book.requests)), refl, settled-fits key (request_for key n.book.requests))

ended-fits : (reply : Option ErrorReply) (key : Key) (kept : Option Bool) → AllByRecursion (IsFailed reply key) (option_to_list (end_event key reply kept))
ended-fits reply key None = tt
ended-fits None key (Some true) = ((refl, tt), tt)
ended-fits (Some error) key (Some true) = ((refl, refl), tt)
ended-fits reply key (Some false) = (refl, tt)

failed-fits : (reply : Option ErrorReply) (key : Key) (r : Option OpenRequest) → AllByRecursion (IsFailed reply key) (option_to_list (failure_event key reply r))
failed-fits reply key None = tt
failed-fits None key (Some r) = ((refl, tt), tt)
failed-fits (Some error) key (Some r) = ((refl, refl), tt)

fails : (key : Key) (now : ℕ) (n : Notes) → Grows (IsFailed n.reply key) n.book.events (failed key now n).book.events
fails key now n =
    let ends = option_to_list (end_event key n.reply (is_kept_in key n.book.held)) in
    let outcomes = option_to_list (failure_event key n.reply (request_for key n.book.requests)) in (
      ends ++ outcomes,
      append_assoc n.book.events ends outcomes,
      both (IsFailed n.reply key) ends outcomes (ended-fits n.reply key (is_kept_in key n.book.held))
          (failed-fits n.reply key (request_for key n.book.requests)),
    )

permits : (key : Key) (n : Notes) (told : Option Told) (is_asked : Bool)
    → Grows (IsGranted key) n.book.events (if is_asked then record n { told = told } else granted key n).book.events
permits key n told true = same (IsGranted key) n.book.events
permits key n told false = grants key n

refuses : (key : Key) (now : ℕ) (n : Notes) (is_asked : Bool)
    → Grows (IsFailed n.reply key) n.book.events (if is_asked then question_failed key n else without_question key (failed key now n)).book.events
refuses key now n true = same (IsFailed n.reply key) n.book.events
refuses key now n false = fails key now n

-- a channel that lacks a permission has no outcome yet
binds : (peer : SocketAddr) (b : BookState) (is_permitted : Bool) → is_held (permission_for (Channel peer)) b.held ≡ is_permitted
    → Grows (IsGranted (Channel peer)) b.events (after_binding peer b).events
binds peer b true held = rw held (
  option_to_list (outcome_event (Channel peer) Granted (request_for (Channel peer) b.requests)),
  refl,
  settled-fits (Channel peer) (request_for (Channel peer) b.requests),
)
binds peer b false held = rw held (same (IsGranted (Channel peer)) b.events)

-- nor has a connection of the peer
connects : (key : Key) (b : BookState) (is_made : Bool) → is_clients_in key b.requests ≡ is_made
    → Grows (IsGranted key) b.events (after_connection key b).events
connects key b true made = rw made (
  option_to_list (outcome_event key Granted (request_for key b.requests)),
  refl,
  settled-fits key (request_for key b.requests),
)
connects key b false made = rw made (same (IsGranted key) b.events)

disconnects : (key : Key) (now : ℕ) (n : Notes) (is_made : Bool) → is_clients_in key n.book.requests ≡ is_made
    → Grows (IsFailed n.reply key) n.book.events (after_disconnection key n.reply now n.book).events
disconnects key now n true made = rw made (fails key now n)
disconnects key now n false made = rw made (same (IsFailed n.reply key) n.book.events)

relayed-fits : (relayed : SocketAddr) (mapped : Option SocketAddr) (is_first : Bool) → IsRelayed relayed mapped (relayed_event relayed mapped is_first)
relayed-fits relayed mapped true = (refl, refl)
relayed-fits relayed mapped false = refl

one : (cause : TurnEvent) (now : ℕ) (n : Notes) → Grows (Reports n.reply n.mapped cause) n.book.events (noted cause now n).book.events
one (AllocationCreated transport relayed) now n =
    (relayed_event relayed n.mapped (is_none n.relays) ∷ [], refl, (relayed-fits relayed n.mapped (is_none n.relays), tt))
one (AllocationCreateFailed family) now n = (Events.FamilyFailed family n.reply ∷ [], refl, (refl, tt))
one (PermissionCreated transport ip) now n = permits (Permission ip) n (Some (record { error = None })) (is_question (Permission ip) n)
one (PermissionCreateFailed transport ip) now n = refuses (Permission ip) now n (is_question (Permission ip) n)
one (ChannelCreated transport peer) now n = binds peer n.book (is_held (permission_for (Channel peer)) n.book.held) refl
one (ChannelCreateFailed transport peer) now n = fails (Channel peer) now n
one (TcpConnected peer) now n = connects (Connect peer) n.book (is_clients_in (Connect peer) n.book.requests) refl
one (TcpConnectFailed peer) now n = disconnects (Connect peer) now n (is_clients_in (Connect peer) n.book.requests) refl

-- ---- the error and the mapped address stay

abbrev Stays : Notes → Notes → Type 0
Stays was n = (n.reply ≡ was.reply) × (n.mapped ≡ was.mapped)

permits-keep : (key : Key) (n : Notes) (told : Option Told) (is_asked : Bool) → Stays n (if is_asked then record n { told = told } else granted key n)
permits-keep key n told true = (refl, refl)
permits-keep key n told false = (refl, refl)

refuses-keep : (key : Key) (now : ℕ) (n : Notes) (is_asked : Bool) → Stays n (if is_asked then question_failed key n else without_question key (failed key now n))
refuses-keep key now n true = (refl, refl)
refuses-keep key now n false = (refl, refl)

keeps : (cause : TurnEvent) (now : ℕ) (n : Notes) → Stays n (noted cause now n)
keeps (AllocationCreated transport relayed) now n = (refl, refl)
keeps (AllocationCreateFailed family) now n = (refl, refl)
keeps (PermissionCreated transport ip) now n = permits-keep (Permission ip) n (Some (record { error = None })) (is_question (Permission ip) n)
keeps (PermissionCreateFailed transport ip) now n = refuses-keep (Permission ip) now n (is_question (Permission ip) n)
keeps (ChannelCreated transport peer) now n = (refl, refl)
keeps (ChannelCreateFailed transport peer) now n = (refl, refl)
keeps (TcpConnected peer) now n = (refl, refl)
keeps (TcpConnectFailed peer) now n = (refl, refl)

-- ---- all of them

first-fits : (cause : TurnEvent) (causes : List TurnEvent) (reply was-reply : Option ErrorReply) (mapped was-mapped : Option SocketAddr) (e : Event)
    → was-reply ≡ reply → was-mapped ≡ mapped → Reports was-reply was-mapped cause e → IsCausedBy reply mapped (cause ∷ causes) e
first-fits cause causes reply was-reply mapped was-mapped e r m h = (
  cause,
  Contains-append_left (cause ∷ []) causes cause (Contains-push [] cause),
  subst (λ (to : Option ErrorReply). Reports to mapped cause e) r (subst (λ (to : Option SocketAddr). Reports was-reply to cause e) m h),
)

later-fits : (cause : TurnEvent) (causes : List TurnEvent) (reply : Option ErrorReply) (mapped : Option SocketAddr) (e : Event)
    → IsCausedBy reply mapped causes e → IsCausedBy reply mapped (cause ∷ causes) e
later-fits cause causes reply mapped e h = (h.0, Contains-append_right (cause ∷ []) causes h.0 h.1, h.2)

all : (causes : List TurnEvent) (now : ℕ) (n : Notes) (reply : Option ErrorReply) (mapped : Option SocketAddr) → n.reply ≡ reply → n.mapped ≡ mapped
    → Grows (IsCausedBy reply mapped causes) n.book.events (all_noted causes now n).book.events
all [] now n reply mapped r m = same (IsCausedBy reply mapped []) n.book.events
all (cause ∷ causes) now n reply mapped r m =
    let first = one cause now n in let kept = keeps cause now n in
    let rest = all causes now (noted cause now n) reply mapped (kept.0 ∙ r) (kept.1 ∙ m) in (
      first.0 ++ rest.0,
      rest.1 ∙ (ap (λ (events : List Event). events ++ rest.0) first.1 ∙ append_assoc n.book.events first.0 rest.0),
      both (IsCausedBy reply mapped (cause ∷ causes)) first.0 rest.0
          (weaker (Reports n.reply n.mapped cause) (IsCausedBy reply mapped (cause ∷ causes))
          (λ e h. first-fits cause causes reply n.reply mapped n.mapped e r m h) first.0 first.2)
          (weaker (IsCausedBy reply mapped causes) (IsCausedBy reply mapped (cause ∷ causes))
          (λ e h. later-fits cause causes reply mapped e h) rest.0 rest.2),
    )

-- ---- the answer to a request

ticket-granted : (ticket : ℕ) → Answered.Ticket ticket ≡ Answered.Granted → ⊥
ticket-granted ticket is = cc

refused-granted : (error : CallError) → Answered.Refused error ≡ Answered.Granted → ⊥
refused-granted error is = cc

makes-granted : (key : Key) (relays : TransportType) (now : ℕ) (s : NotedState) (p : Made × State) → made key relays now s.client ≡ p
    → (makes key relays now s).0 ≡ Answered.Granted → ⊥
makes-granted key relays now s (Client.Queued, client) e is = ticket-granted s.next_ticket (rw e at is)
makes-granted key relays now s (Client.Refused error, client) e is = refused-granted error (rw e at is)
makes-granted key relays now s (Client.NoMemory, client) e is = cc

-- a session with an allocation
abbrev relaying : Option TransportType → NotedState → NotedState
relaying relays s = record s { notes = record s.notes { relays = relays } }

waits-or-makes : (key : Key) (relays : TransportType) (now : ℕ) (s : NotedState) (waits : Bool) → must_wait s ≡ waits
    → (if must_wait s then added key Waiting s else makes key relays now s).0 ≡ Answered.Granted → ⊥
waits-or-makes key relays now s true w is = ticket-granted _ (rw w at is)
waits-or-makes key relays now s false w is = makes-granted key relays now s (made key relays now s.client) refl (rw w at is)

begun-over-granted : (key : Key) (relays : TransportType) (now : ℕ) (s : NotedState) (lacks : Bool) → lacks_permission key relays s ≡ lacks
    → (begun_over key relays now s).0 ≡ Answered.Granted → ⊥
begun-over-granted key relays now s true l is = ticket-granted _ (rw l at is)
begun-over-granted key relays now s false l is = waits-or-makes key relays now s (must_wait s) refl (rw l at is)

begun-granted : (key : Key) (now : ℕ) (s : NotedState) (relays : Option TransportType) → (begun key now (relaying relays s)).0 ≡ Answered.Granted → ⊥
begun-granted key now s None is = cc
begun-granted key now s (Some relays) is =
    let t = relaying (Some relays) s in begun-over-granted key relays now t (lacks_permission key relays t) refl is

known-at : (key : Key) (now : ℕ) (answer : Answer) (was s : NotedState) (is : Bool) (request : Option OpenRequest) (rest : Option Rest)
    → Answers (answer_with is request rest) key now answer was s → answer ≡ Answered.Granted → is ≡ true
known-at key now answer was s true request rest answers granted = refl
known-at key now answer was s false (Some r) rest answers granted = cc
known-at key now answer was s false None (Some rest) answers granted = cc
known-at key now answer was s false None None (inl begins) granted =
    absurd (begun-granted key now was was.notes.relays (sym begins.0 ∙ granted))
known-at key now answer was s false None None (inr short) granted = cc

pub returns : goal.returns
returns c = record {
  noted = λ now s. all (unnoted s) now s.notes s.notes.reply s.notes.mapped refl refl;
  known = λ key is_for_data now answer was s answers granted. known-at key now answer (keep_step key true was).1 s
      (is_granted key (keep_step key true was).1) (request_for key (keep_step key true was).1.notes.book.requests) (if is_for_data then rest_in_force key now (keep_step key true was).1.notes.book.rests else None) answers granted;
}
