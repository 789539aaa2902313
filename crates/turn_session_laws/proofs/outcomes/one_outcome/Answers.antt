use Rattle.std.proofs.Common.{◌≡◌, ℕ, ◌+◌, Bool, true, false, List, [], ◌∷◌, ◌++◌, get_or, Option, Some, None, refl, sym, ap, ◌∙◌, arith}
use Rattle.std.specs.List.{position, sum_by}
use Rattle.std.specs.Prelude.{if◌then◌else◌, is_none, option_map, option_to_list}
use Rattle.std.proofs.lemmas.Option.{same_Some}
use Rattle.std.proofs.lemmas.List.Sums.{sum_by-append, sum_by-cons, sum_by-remove, sum_by-set}
use Rattle.std.specs.declared.net.socket_addr.SocketAddr.{SocketAddr}
use Rattle.turn_stun.specs.declared.transport.TransportType.{TransportType}
use Rattle.turn_client_api.specs.State.{State}
use Rattle.turn_client_api.specs.declared.event.TurnEvent.{TurnEvent}
use Rattle.turn_client_api.specs.declared.event.TurnEvent.TheVariants.{AllocationCreated, AllocationCreateFailed, PermissionCreated, PermissionCreateFailed}
use Rattle.turn_client_api.specs.declared.event.TurnEvent.TheVariants.{ChannelCreated, ChannelCreateFailed, TcpConnected, TcpConnectFailed}
use Rattle.turn_session_book.specs.Book.{after_binding, after_connection, after_disconnection, after_failure, after_grant, after_settlement}
use Rattle.turn_session_book.specs.Book.{end_event, failure_event, failure_outcome, lost_outcome, outcome_event, relayed_event}
use Rattle.turn_session_book.specs.BookState.{BookState}
use Rattle.turn_session_book.specs.First.{with_first}
use Rattle.turn_session_book.specs.Held.{is_held, is_kept_in}
use Rattle.turn_session_book.specs.Keys.{permission_for}
use Rattle.turn_session_book.specs.OpenRequests.{awaits, denied, denied_with, depends_on, first_closed, first_denied, is_clients_in, is_for, is_unpermitted, new_request, progressed, repeated, request_for}
use Rattle.turn_session_book.specs.OpenRequests.{with_denied, with_progress, with_repeated, with_resumed, without_request}
use Rattle.turn_session_book.specs.declared.answers.Outcome.{Outcome}
use Rattle.turn_session_book.specs.declared.answers.Outcome.TheVariants.{Granted, NotMade, NotBound}
use Rattle.turn_session_book.specs.declared.causes.Why.{Why}
use Rattle.turn_session_book.specs.declared.events.Event.{Event}
use Rattle.turn_session_book.specs.declared.events.Event.TheVariants as Events
use Rattle.turn_session_book.specs.declared.keys.Key.{Key}
use Rattle.turn_session_book.specs.declared.keys.Key.TheVariants.{Permission, Channel, Connect}
use Rattle.turn_session_book.specs.declared.open_requests.OpenRequest.{OpenRequest}
use Rattle.turn_session_book.specs.declared.open_requests.Progress.{Progress}
use Rattle.turn_session_book.specs.declared.open_requests.Progress.TheVariants.{Waiting, Queued, Unpermitted, Permitting}
use Rattle.turn_session_book.specs.declared.replies.ErrorReply.{ErrorReply}
use Rattle.turn_session_book.proofs.FirstLemmas.{position-IsFirst, position-none, with_first-none, with_first-some, without_first-none, without_first-some}
use Rattle.turn_session_life.specs.Life.{cause_in, ending_report, over_report}
use Rattle.turn_session_life.specs.declared.life.Phase.{Phase}
use Rattle.turn_session_life.specs.declared.life.Phase.TheVariants.{Opening, Open, Leaving, Over}
use Rattle.turn_session_life.specs.declared.life.Report.{Report}
use Rattle.turn_session_life.specs.declared.life.Report.TheVariants.{NotYet, Due, Done}
use Rattle.turn_session_client.specs.Asking.{added}
use Rattle.turn_session_client.specs.Drain.{all_noted, unnoted}
use Rattle.turn_session_client.specs.Expiring.{closed_noted, closed_settled, expiry_noted, first_expired}
use Rattle.turn_session_client.specs.Making.{made}
use Rattle.turn_session_client.specs.NotedState.{NotedState}
use Rattle.turn_session_client.specs.Notes.{failed, granted, is_asked, is_question, noted, question_failed, without_question}
use Rattle.turn_session_client.specs.Permitting.{denied_noted, first_permitted, permission_made, permission_taken, permitted_noted}
use Rattle.turn_session_client.specs.Polling.{next_made, request_made, waiting_made}
use Rattle.turn_session_client.specs.Reporting.{ending_reported, heard_reported, noted_reported, or_next, over_reported, reported_end, reported_if, reported_outcome, reported_step}
use Rattle.turn_session_client.specs.Waiting.{next_to_make}
use Rattle.turn_session_client.specs.declared.making.Made.{Made}
use Rattle.turn_session_client.specs.declared.making.Made.TheVariants as Client
use Rattle.turn_session_client.specs.declared.notes.Notes.{Notes}
use Rattle.turn_session_client.specs.declared.notes.Told.{Told}
use Rattle.turn_session_laws.specs.OutcomeLaws.{has_ticket, is_new, is_outcome, outcomes_in, owed}
use Rattle.turn_session_laws.proofs.SameKeyLemmas.{same_key-self}
use Rattle.turn_session_laws.proofs.outcomes.one_outcome.Goals as goal

-- ---- a request is taken out

abbrev tickets : ℕ → Option OpenRequest → ℕ
tickets ticket None = 0
tickets ticket (Some r) = has_ticket ticket r

removed-at : (ticket : ℕ) (key : Key) (rs : List OpenRequest) (place : Option ℕ) → position (is_for key) rs ≡ place
    → sum_by (has_ticket ticket) (without_request key rs) + tickets ticket (request_for key rs) ≡ sum_by (has_ticket ticket) rs
removed-at ticket key rs None none =
    rw (without_first-none (is_for key) rs none, position-none (is_for key) rs none) (omega arith)
removed-at ticket key [] (Some i) at = absurd (omega (arith, (position-IsFirst (is_for key) [] i at).within))
removed-at ticket key (r ∷ rs) (Some i) at =
    let first = position-IsFirst (is_for key) (r ∷ rs) i at in
    rw (without_first-some (is_for key) (r ∷ rs) i at, first.found r) (sum_by-remove (has_ticket ticket) (r ∷ rs) i r first.within)

removed : (ticket : ℕ) (key : Key) (rs : List OpenRequest)
    → sum_by (has_ticket ticket) (without_request key rs) + tickets ticket (request_for key rs) ≡ sum_by (has_ticket ticket) rs
removed ticket key rs = removed-at ticket key rs (position (is_for key) rs) refl

-- ---- a request comes so far

changed-at : (ticket : ℕ) (p : OpenRequest → Bool) (f : OpenRequest → OpenRequest) (rs : List OpenRequest) (place : Option ℕ)
    → ((r : OpenRequest) → has_ticket ticket (f r) ≡ has_ticket ticket r) → position p rs ≡ place
    → sum_by (has_ticket ticket) (with_first p f rs) ≡ sum_by (has_ticket ticket) rs
changed-at ticket p f rs None keeps none = ap (sum_by (has_ticket ticket)) (with_first-none p f rs none)
changed-at ticket p f [] (Some i) keeps at = absurd (omega (arith, (position-IsFirst p [] i at).within))
changed-at ticket p f (r ∷ rs) (Some i) keeps at =
    let first = position-IsFirst p (r ∷ rs) i at in
    let x : OpenRequest = get_or (r ∷ rs) i r in
    let is : x ≡ get_or (r ∷ rs) i x = same_Some x (get_or (r ∷ rs) i x) (sym (first.found r) ∙ first.found x) in
    rw (with_first-some p f (r ∷ rs) i x at is) (omega (arith, sum_by-set (has_ticket ticket) (r ∷ rs) i (f x) r first.within, keeps x))

changed : (ticket : ℕ) (p : OpenRequest → Bool) (f : OpenRequest → OpenRequest) (rs : List OpenRequest)
    → ((r : OpenRequest) → has_ticket ticket (f r) ≡ has_ticket ticket r)
    → sum_by (has_ticket ticket) (with_first p f rs) ≡ sum_by (has_ticket ticket) rs
changed ticket p f rs keeps = changed-at ticket p f rs (position p rs) keeps refl

resumes : (ticket : ℕ) (key : Key) (rs : List OpenRequest) → sum_by (has_ticket ticket) (with_resumed key rs) ≡ sum_by (has_ticket ticket) rs
resumes ticket key rs = changed ticket (awaits key) (progressed Unpermitted) rs (λ r. refl)

-- one that is denied keeps its ticket
either-ticket : (ticket : ℕ) (b : Bool) (x y : OpenRequest) → has_ticket ticket x ≡ has_ticket ticket y
    → has_ticket ticket (if b then x else y) ≡ has_ticket ticket y
either-ticket ticket true x y same = same
either-ticket ticket false x y same = refl

denies : (ticket : ℕ) (key : Key) (error : Option ErrorReply) (rs : List OpenRequest)
    → sum_by (has_ticket ticket) (with_denied key error rs) ≡ sum_by (has_ticket ticket) rs
denies ticket key error [] = refl
denies ticket key error (r ∷ rs) = omega (
  arith,
  sum_by-cons (has_ticket ticket) (denied_with key error r) (with_denied key error rs),
  sum_by-cons (has_ticket ticket) r rs,
  either-ticket ticket (depends_on key r) (denied error r) r refl,
  denies ticket key error rs,
)

progresses : (ticket : ℕ) (key : Key) (progress : Progress) (rs : List OpenRequest)
    → sum_by (has_ticket ticket) (with_progress key progress rs) ≡ sum_by (has_ticket ticket) rs
progresses ticket key progress rs = changed ticket (is_for key) (progressed progress) rs (λ r. refl)

repeats : (ticket : ℕ) (key : Key) (rs : List OpenRequest) → sum_by (has_ticket ticket) (with_repeated key rs) ≡ sum_by (has_ticket ticket) rs
repeats ticket key rs = changed ticket (is_for key) repeated rs (λ r. refl)

-- ---- and has its outcome

alone : (ticket : ℕ) (event : Event) → sum_by (is_outcome ticket) (event ∷ []) ≡ is_outcome ticket event
alone ticket event =
    let none : sum_by (is_outcome ticket) [] ≡ 0 = refl in omega (arith, sum_by-cons (is_outcome ticket) event [], none)

settles : (ticket : ℕ) (key : Key) (outcome : Outcome) (r : Option OpenRequest)
    → sum_by (is_outcome ticket) (option_to_list (outcome_event key outcome r)) ≡ tickets ticket r
settles ticket key outcome None = refl
settles ticket key outcome (Some r) = alone ticket (Events.Outcome r.ticket key outcome)

fails : (ticket : ℕ) (key : Key) (error : Option ErrorReply) (r : Option OpenRequest)
    → sum_by (is_outcome ticket) (option_to_list (failure_event key error r)) ≡ tickets ticket r
fails ticket key error None = refl
fails ticket key None (Some r) = alone ticket (Events.Outcome r.ticket key (failure_outcome None r.error))
fails ticket key (Some error) (Some r) = alone ticket (Events.Outcome r.ticket key (failure_outcome (Some error) r.error))

ends : (ticket : ℕ) (key : Key) (error : Option ErrorReply) (kept : Option Bool) → sum_by (is_outcome ticket) (option_to_list (end_event key error kept)) ≡ 0
ends ticket key error None = refl
ends ticket key error (Some true) = alone ticket (Events.Lost key (lost_outcome error))
ends ticket key error (Some false) = alone ticket (Events.Expired key)

settled-owes : (ticket : ℕ) (key : Key) (outcome : Outcome) (b : BookState) → owed ticket (after_settlement key outcome b) ≡ owed ticket b
settled-owes ticket key outcome b =
    let outcomes = option_to_list (outcome_event key outcome (request_for key b.requests)) in
    omega (
      arith,
      removed ticket key b.requests,
      settles ticket key outcome (request_for key b.requests),
      sum_by-append (is_outcome ticket) b.events outcomes,
    )

granted-owes : (ticket : ℕ) (key : Key) (b : BookState) → owed ticket (after_grant key b) ≡ owed ticket b
granted-owes ticket key b = omega (arith, settled-owes ticket key Granted b, resumes ticket key (without_request key b.requests))

failed-owes : (ticket : ℕ) (key : Key) (error : Option ErrorReply) (now : ℕ) (b : BookState) → owed ticket (after_failure key error now b) ≡ owed ticket b
failed-owes ticket key error now b =
    let lost = option_to_list (end_event key error (is_kept_in key b.held)) in
    let outcomes = option_to_list (failure_event key error (request_for key b.requests)) in
    omega (
      arith,
      removed ticket key b.requests,
      denies ticket key error (without_request key b.requests),
      fails ticket key error (request_for key b.requests),
      ends ticket key error (is_kept_in key b.held),
      sum_by-append (is_outcome ticket) (b.events ++ lost) outcomes,
      sum_by-append (is_outcome ticket) b.events lost,
    )

binds-at : (ticket : ℕ) (peer : SocketAddr) (b : BookState) (is_permitted : Bool) → is_held (permission_for (Channel peer)) b.held ≡ is_permitted
    → owed ticket (after_binding peer b) ≡ owed ticket b
binds-at ticket peer b true held = rw held (granted-owes ticket (Channel peer) b)
binds-at ticket peer b false held = rw held (omega (arith, progresses ticket (Channel peer) Unpermitted b.requests))

connects-at : (ticket : ℕ) (key : Key) (b : BookState) (is_made : Bool) → is_clients_in key b.requests ≡ is_made
    → owed ticket (after_connection key b) ≡ owed ticket b
connects-at ticket key b true made = rw made (settled-owes ticket key Granted b)
connects-at ticket key b false made = rw made refl

disconnects-at : (ticket : ℕ) (key : Key) (error : Option ErrorReply) (now : ℕ) (b : BookState) (is_made : Bool) → is_clients_in key b.requests ≡ is_made
    → owed ticket (after_disconnection key error now b) ≡ owed ticket b
disconnects-at ticket key error now b true made = rw made (failed-owes ticket key error now b)
disconnects-at ticket key error now b false made = rw made refl

-- ---- events of the client

permits : (ticket : ℕ) (key : Key) (n : Notes) (told : Option Told) (is_asked : Bool)
    → owed ticket (if is_asked then record n { told = told } else granted key n).book ≡ owed ticket n.book
permits ticket key n told true = refl
permits ticket key n told false = granted-owes ticket key n.book

refuses : (ticket : ℕ) (key : Key) (now : ℕ) (n : Notes) (is_asked : Bool)
    → owed ticket (if is_asked then question_failed key n else without_question key (failed key now n)).book ≡ owed ticket n.book
refuses ticket key now n true = refl
refuses ticket key now n false = failed-owes ticket key n.reply now n.book

relays : (ticket : ℕ) (relayed : SocketAddr) (mapped : Option SocketAddr) (is_first : Bool) → is_outcome ticket (relayed_event relayed mapped is_first) ≡ 0
relays ticket relayed mapped true = refl
relays ticket relayed mapped false = refl

pushed : (ticket : ℕ) (event : Event) (b : BookState) → is_outcome ticket event ≡ 0
    → owed ticket (record b { events = b.events ++ event ∷ [] }) ≡ owed ticket b
pushed ticket event b other = omega (arith, sum_by-append (is_outcome ticket) b.events (event ∷ []), alone ticket event, other)

one : (ticket : ℕ) (cause : TurnEvent) (now : ℕ) (n : Notes) → owed ticket (noted cause now n).book ≡ owed ticket n.book
one ticket (AllocationCreated transport relayed) now n =
    pushed ticket (relayed_event relayed n.mapped (is_none n.relays)) n.book (relays ticket relayed n.mapped (is_none n.relays))
one ticket (AllocationCreateFailed family) now n = pushed ticket (Events.FamilyFailed family n.reply) n.book refl
one ticket (PermissionCreated transport ip) now n =
    permits ticket (Permission ip) n (Some (record { error = None })) (is_question (Permission ip) n)
one ticket (PermissionCreateFailed transport ip) now n = refuses ticket (Permission ip) now n (is_question (Permission ip) n)
one ticket (ChannelCreated transport peer) now n =
    binds-at ticket peer n.book (is_held (permission_for (Channel peer)) n.book.held) refl
one ticket (ChannelCreateFailed transport peer) now n = failed-owes ticket (Channel peer) n.reply now n.book
one ticket (TcpConnected peer) now n = connects-at ticket (Connect peer) n.book (is_clients_in (Connect peer) n.book.requests) refl
one ticket (TcpConnectFailed peer) now n =
    disconnects-at ticket (Connect peer) n.reply now n.book (is_clients_in (Connect peer) n.book.requests) refl

all : (ticket : ℕ) (causes : List TurnEvent) (now : ℕ) (n : Notes) → owed ticket (all_noted causes now n).book ≡ owed ticket n.book
all ticket [] now n = refl
all ticket (cause ∷ causes) now n = all ticket causes now (noted cause now n) ∙ one ticket cause now n

-- ---- what happens without an event

taken-owes : (ticket : ℕ) (key permission : Key) (s : NotedState) (is_question : Bool) → is_asked permission s.notes ≡ is_question
    → owed ticket (permission_taken key permission s).notes.book ≡ owed ticket s.notes.book
taken-owes ticket key permission s true asked = rw asked (granted-owes ticket permission s.notes.book)
taken-owes ticket (Permission ip) permission s false asked = rw asked (settled-owes ticket (Permission ip) Granted s.notes.book)
taken-owes ticket (Channel peer) permission s false asked = rw asked (settled-owes ticket (Channel peer) Granted s.notes.book)
taken-owes ticket (Connect peer) permission s false asked =
    rw asked (omega (arith, progresses ticket (Connect peer) Waiting s.notes.book.requests))

permitted-owes : (ticket : ℕ) (s : NotedState) (first : Option OpenRequest) → first_permitted s ≡ first
    → owed ticket (permitted_noted s).1.notes.book ≡ owed ticket s.notes.book
permitted-owes ticket s (Some r) f =
    rw f (taken-owes ticket r.key (permission_for r.key) s (is_asked (permission_for r.key) s.notes) refl)
permitted-owes ticket s None f = rw f refl

denial-owes : (ticket now : ℕ) (s : NotedState) (first : Option OpenRequest) → first_denied s.notes.book.requests ≡ first
    → owed ticket (denied_noted now s).1.notes.book ≡ owed ticket s.notes.book
denial-owes ticket now s (Some r) f = rw f (settled-owes ticket r.key (failure_outcome r.error None) s.notes.book)
denial-owes ticket now s None f = rw f (permitted-owes ticket s (first_permitted s) refl)

again-owes : (ticket : ℕ) (r : OpenRequest) (s : NotedState) (again : Bool) → r.is_repeated ≡ again
    → owed ticket (closed_settled r s).notes.book ≡ owed ticket s.notes.book
again-owes ticket r s true again = rw again (settled-owes ticket r.key NotBound s.notes.book)
again-owes ticket r s false again = rw again (omega (arith, repeats ticket r.key s.notes.book.requests))

closed-owes : (ticket now : ℕ) (s : NotedState) (first : Option OpenRequest) → first_closed s.notes.book.requests ≡ first
    → owed ticket (closed_noted now s).1.notes.book ≡ owed ticket s.notes.book
closed-owes ticket now s (Some r) f = rw f (again-owes ticket r s r.is_repeated refl)
closed-owes ticket now s None f = rw f (denial-owes ticket now s (first_denied s.notes.book.requests) refl)

expired-owes : (ticket now : ℕ) (s : NotedState) (first : Option Key) → first_expired s ≡ first
    → owed ticket (expiry_noted now s).1.notes.book ≡ owed ticket s.notes.book
expired-owes ticket now s (Some key) f = rw f (failed-owes ticket key None now s.notes.book)
expired-owes ticket now s None f = rw f (closed-owes ticket now s (first_closed s.notes.book.requests) refl)

-- ---- a request is made of the client

permission-owes : (ticket : ℕ) (r : OpenRequest) (relays : TransportType) (now : ℕ) (s : NotedState) (p : Made × State)
    → made (permission_for r.key) relays now s.client ≡ p → owed ticket (permission_made r relays now s).notes.book ≡ owed ticket s.notes.book
permission-owes ticket r relays now s (Client.Queued, client) e = rw e (omega (arith, progresses ticket r.key Permitting s.notes.book.requests))
permission-owes ticket r relays now s (Client.Refused error, client) e = rw e (settled-owes ticket r.key (NotMade error) s.notes.book)
permission-owes ticket r relays now s (Client.NoMemory, client) e = rw e refl

waiting-owes : (ticket : ℕ) (r : OpenRequest) (relays : TransportType) (now : ℕ) (s : NotedState) (p : Made × State)
    → made r.key relays now s.client ≡ p → owed ticket (waiting_made r relays now s).notes.book ≡ owed ticket s.notes.book
waiting-owes ticket r relays now s (Client.Queued, client) e = rw e (omega (arith, progresses ticket r.key Queued s.notes.book.requests))
waiting-owes ticket r relays now s (Client.Refused error, client) e = rw e (settled-owes ticket r.key (NotMade error) s.notes.book)
waiting-owes ticket r relays now s (Client.NoMemory, client) e = rw e refl

request-owes : (ticket : ℕ) (r : OpenRequest) (relays : TransportType) (now : ℕ) (s : NotedState) (is : Bool) → is_unpermitted r.progress ≡ is
    → owed ticket (request_made r relays now s).notes.book ≡ owed ticket s.notes.book
request-owes ticket r relays now s true u = rw u (permission-owes ticket r relays now s (made (permission_for r.key) relays now s.client) refl)
request-owes ticket r relays now s false u = rw u (waiting-owes ticket r relays now s (made r.key relays now s.client) refl)

abbrev relaying : Option TransportType → NotedState → NotedState
relaying relays s = record s { notes = record s.notes { relays = relays } }

next-owes : (ticket now : ℕ) (s : NotedState) (relays : Option TransportType) (next : Option OpenRequest) → next_to_make s ≡ next
    → owed ticket (next_made now (relaying relays s)).1.notes.book ≡ owed ticket s.notes.book
next-owes ticket now s None next n = refl
next-owes ticket now s (Some relays) None n = rw n refl
next-owes ticket now s (Some relays) (Some r) n =
    rw n (request-owes ticket r relays now (relaying (Some relays) s) (is_unpermitted r.progress) refl)

-- ---- a new request

added-owes : (ticket : ℕ) (key : Key) (progress : Progress) (s : NotedState) (found : Option OpenRequest) → request_for key s.notes.book.requests ≡ found
    → owed ticket (added key progress s).1.notes.book ≡ owed ticket s.notes.book + is_new ticket key s
added-owes ticket key progress s None none =
    let r = new_request s.next_ticket key progress in
    let nothing : sum_by (has_ticket ticket) [] ≡ 0 = refl in
    rw none (omega (arith, sum_by-append (has_ticket ticket) s.notes.book.requests (r ∷ []), sum_by-cons (has_ticket ticket) r [], nothing))
added-owes ticket key progress s (Some r) shared = rw shared (omega arith)

-- ---- what is reported

abbrev paid : ℕ → Option Event × NotedState → ℕ
paid ticket p = owed ticket p.1.notes.book + outcomes_in ticket p.0

next-pays : (ticket before : ℕ) (p : Option Event × NotedState) (next : NotedState → Option Event × NotedState) → paid ticket p ≡ before
    → ((t : NotedState) → paid ticket (next t) ≡ owed ticket t.notes.book) → paid ticket (or_next p next) ≡ before
next-pays ticket before (Some event, s) next here later = here
next-pays ticket before (None, s) next here later = omega (arith, later s, here)

heard-pays : (ticket : ℕ) (s : NotedState) (heard : Report)
    → paid ticket (heard_reported (record s { life = record s.life { heard = heard } })) ≡ owed ticket s.notes.book
heard-pays ticket s NotYet = omega arith
heard-pays ticket s Due = omega arith
heard-pays ticket s Done = omega arith

noted-pays : (ticket : ℕ) (s : NotedState) (events : List Event)
    → paid ticket (noted_reported (record s { notes = record s.notes { book = record s.notes.book { events = events } } }))
    ≡ owed ticket (record s.notes.book { events = events })
noted-pays ticket s [] = omega arith
noted-pays ticket s (event ∷ later) = omega (arith, sum_by-cons (is_outcome ticket) event later)

ending-none : (ticket : ℕ) (why : Option Why) → outcomes_in ticket (option_map Events.Ending why) ≡ 0
ending-none ticket None = refl
ending-none ticket (Some why) = refl

over-none : (ticket : ℕ) (why : Option Why) → outcomes_in ticket (option_map Events.Over why) ≡ 0
over-none ticket None = refl
over-none ticket (Some why) = refl

ending-pays : (ticket : ℕ) (s : NotedState) → paid ticket (ending_reported s) ≡ owed ticket s.notes.book
ending-pays ticket s = omega (arith, ending-none ticket (ending_report s.life).0)

over-pays : (ticket : ℕ) (s : NotedState) → paid ticket (over_reported s) ≡ owed ticket s.notes.book
over-pays ticket s = omega (arith, over-none ticket (over_report s.life).0)

oldest : (ticket : ℕ) (r : OpenRequest) (rs : List OpenRequest)
    → sum_by (has_ticket ticket) (without_request r.key (r ∷ rs)) + has_ticket ticket r ≡ sum_by (has_ticket ticket) (r ∷ rs)
oldest ticket r rs =
    let found : request_for r.key (r ∷ rs) ≡ Some r = rw (same_key-self r.key) refl in
    rw found at (removed ticket r.key (r ∷ rs))

outcome-pays : (ticket : ℕ) (why : Why) (s : NotedState) (rs : List OpenRequest)
    → paid ticket (reported_outcome why (record s { notes = record s.notes { book = record s.notes.book { requests = rs } } }))
    ≡ owed ticket (record s.notes.book { requests = rs })
outcome-pays ticket why s [] = omega arith
outcome-pays ticket why s (r ∷ rs) = omega (arith, oldest ticket r rs)

end-pays : (ticket : ℕ) (why : Why) (s : NotedState) → paid ticket (reported_end why s) ≡ owed ticket s.notes.book
end-pays ticket why s =
    next-pays ticket (owed ticket s.notes.book) (ending_reported s) (λ t. or_next (reported_outcome why t) over_reported) (ending-pays ticket s)
    (λ t. next-pays ticket (owed ticket t.notes.book) (reported_outcome why t) over_reported (outcome-pays ticket why t t.notes.book.requests)
    (λ u. over-pays ticket u))

if-pays : (ticket : ℕ) (s : NotedState) (cause : Option Why) → cause_in s.life.phase ≡ cause → paid ticket (reported_if s) ≡ owed ticket s.notes.book
if-pays ticket s None none = rw none (omega arith)
if-pays ticket s (Some why) some = rw some (end-pays ticket why s)

reported-pays : (ticket : ℕ) (s : NotedState) → paid ticket (reported_step s) ≡ owed ticket s.notes.book
reported-pays ticket s =
    next-pays ticket (owed ticket s.notes.book) (heard_reported s) (λ t. or_next (noted_reported t) reported_if) (heard-pays ticket s s.life.heard)
    (λ t. next-pays ticket (owed ticket t.notes.book) (noted_reported t) reported_if (noted-pays ticket t t.notes.book.events)
    (λ u. if-pays ticket u (cause_in u.life.phase) refl))

-- ---- nothing is owed after the end

-- a session at each place of its life, with nothing that was noted
abbrev at : NotedState → Report → Phase → Report → List OpenRequest → NotedState
at s heard phase ending requests = record s {
  life = record s.life { phase = phase; heard = heard; ending = ending };
  notes = record s.notes { book = record s.notes.book { requests = requests; events = [] } };
}

none-open : (s : NotedState) (heard : Report) (phase : Phase) (ending : Report) (requests : List OpenRequest) (why : Why)
    → (reported_step (at s heard phase ending requests)).0 ≡ Some (Events.Over why) → requests ≡ []
none-open s heard phase ending [] why is = refl
none-open s Due phase ending (r ∷ rs) why is = cc
none-open s NotYet Opening ending (r ∷ rs) why is = cc
none-open s NotYet Open ending (r ∷ rs) why is = cc
none-open s NotYet (Leaving leave) Due (r ∷ rs) why is = cc
none-open s NotYet (Leaving leave) NotYet (r ∷ rs) why is = cc
none-open s NotYet (Leaving leave) Done (r ∷ rs) why is = cc
none-open s NotYet (Over cause) Due (r ∷ rs) why is = cc
none-open s NotYet (Over cause) NotYet (r ∷ rs) why is = cc
none-open s NotYet (Over cause) Done (r ∷ rs) why is = cc
none-open s Done Opening ending (r ∷ rs) why is = cc
none-open s Done Open ending (r ∷ rs) why is = cc
none-open s Done (Leaving leave) Due (r ∷ rs) why is = cc
none-open s Done (Leaving leave) NotYet (r ∷ rs) why is = cc
none-open s Done (Leaving leave) Done (r ∷ rs) why is = cc
none-open s Done (Over cause) Due (r ∷ rs) why is = cc
none-open s Done (Over cause) NotYet (r ∷ rs) why is = cc
none-open s Done (Over cause) Done (r ∷ rs) why is = cc

over-at : (ticket : ℕ) (s : NotedState) (events : List Event) (why : Why) → events ≡ []
    → (reported_step (record s { notes = record s.notes { book = record s.notes.book { events = events } } })).0 ≡ Some (Events.Over why)
    → owed ticket (record s.notes.book { events = events }) ≡ 0
over-at ticket s [] why none is =
    let closed = none-open s s.life.heard s.life.phase s.life.ending s.notes.book.requests why is in
    ap (λ (rs : List OpenRequest). owed ticket (record s.notes.book { requests = rs; events = [] })) closed
over-at ticket s (event ∷ later) why none is = cc

pub returns : goal.returns
returns c = record {
  added = λ ticket key progress s. added-owes ticket key progress s (request_for key s.notes.book.requests) refl;
  noted = λ ticket now s. all ticket (unnoted s) now s.notes;
  expired = λ ticket now s. expired-owes ticket now s (first_expired s) refl;
  made = λ ticket now s. next-owes ticket now s s.notes.relays (next_to_make s) refl;
  failed = failed-owes;
  settled = settled-owes;
  reported = reported-pays;
  over = λ ticket s why none is. over-at ticket s s.notes.book.events why none is;
}
