-- What becomes of requests and grants, and which events report it.
use Rattle.std.specs.Prelude.{ℕ, Bool, true, false, List, [], ◌∷◌, ◌++◌, option_to_list, Option, Some, None, is_some, if◌then◌else◌, ◌||◌}
use Rattle.std.specs.Option.{option_map}
use Rattle.std.specs.declared.net.socket_addr.SocketAddr.{SocketAddr}
use Rattle.turn_session_book.specs.BookState.{BookState}
use Rattle.turn_types.specs.declared.family.AddressFamily.{AddressFamily}
use Rattle.turn_session_book.specs.Held.{first_held, is_held, is_kept_in, with_mark, without_grant}
use Rattle.turn_session_book.specs.Held as Held
use Rattle.turn_session_book.specs.OpenRequests.{first_awaiting, first_made, first_needing, is_clients_in, keeps, request_for}
use Rattle.turn_session_book.specs.OpenRequests.{with_denied, with_keeping, with_permission_kept, with_progress, with_resumed, without_request}
use Rattle.turn_session_book.specs.Rests.{after_refusal, without_rest}
use Rattle.turn_session_book.specs.declared.answers.Outcome.{Outcome}
use Rattle.turn_session_book.specs.declared.answers.Outcome.TheVariants.{Granted, Refused, TimedOut, NotOpened}
use Rattle.turn_session_book.specs.declared.events.Event.{Event}
use Rattle.turn_session_book.specs.declared.events.Event.TheVariants as Events
use Rattle.turn_session_book.specs.declared.held.HeldGrant.{HeldGrant}
use Rattle.turn_session_book.specs.Keys.{permission_for}
use Rattle.turn_session_book.specs.declared.keys.Key.{Key}
use Rattle.turn_session_book.specs.declared.keys.Key.TheVariants.{Channel}
use Rattle.turn_session_book.specs.declared.open_requests.Progress.TheVariants.{Unpermitted}
use Rattle.turn_session_book.specs.declared.open_requests.OpenRequest.{OpenRequest}
use Rattle.turn_session_book.specs.declared.replies.ErrorReply.{ErrorReply}
use Rattle.turn_session_book.specs.declared.rests.Rest.{Rest}
use Rattle.turn_session_book.specs.declared.tags.Tag.{Tag}

abbrev pub new_book : BookState
new_book = record { requests = []; held = []; rests = []; events = [] }

abbrev pub after_report : Event → BookState → BookState
after_report event b = record b { events = b.events ++ event ∷ [] }

-- the first relayed address opens the relay, and a further one is of the other family
abbrev pub relayed_event : SocketAddr → Option SocketAddr → Bool → Event
relayed_event relayed mapped is_first = if is_first then Events.Up relayed mapped else Events.Also relayed

-- ---- outcomes

-- the event that reports what became of this request, if there is one
abbrev pub outcome_event : Key → Outcome → Option OpenRequest → Option Event
outcome_event key outcome request = option_map (λ r. Events.Outcome r.ticket key outcome) request

-- the request for the key has this outcome
abbrev pub after_settlement : Key → Outcome → BookState → BookState
after_settlement key outcome b = record b {
  requests = without_request key b.requests;
  events = b.events ++ option_to_list (outcome_event key outcome (request_for key b.requests));
}

-- ---- grants

-- whether it is kept once it is granted
abbrev pub is_kept_after : Key → BookState → Bool
is_kept_after key b = keeps (request_for key b.requests) (first_needing key b.requests)

-- the request for it has its outcome, and one that awaits it goes on; what was let go before it was granted is not kept
abbrev pub after_grant : Key → BookState → BookState
after_grant key b = record (after_settlement key Granted b) {
  requests = with_resumed key (without_request key b.requests);
  held = Held.after_grant key (is_kept_after key b) b.held;
  rests = without_rest key b.rests;
}

-- the server has bound the channel to this peer; without a permission for its IP address the request goes on
abbrev pub after_binding : SocketAddr → BookState → BookState
after_binding peer b = if is_held (permission_for (Channel peer)) b.held then after_grant (Channel peer) b else record b {
  held = Held.after_grant (Channel peer) (is_kept_after (Channel peer) b) b.held;
  requests = with_progress (Channel peer) Unpermitted b.requests;
  rests = without_rest (Channel peer) b.rests;
}

-- the caller keeps what was granted or is requested, or lets it go
abbrev pub after_mark : Key → Bool → BookState → BookState
after_mark key is_kept b = record b {
  held = with_mark key is_kept b.held;
  requests = with_permission_kept key is_kept (with_keeping key is_kept b.requests);
}

-- a data connection is no grant that is kept, and one that the peer has requested is for no request that waits
abbrev pub after_connection : Key → BookState → BookState
after_connection key b =
    if is_clients_in key b.requests then record (after_settlement key Granted b) { rests = without_rest key b.rests } else b

-- ---- failures

-- what became of the request to renew a grant
abbrev pub lost_outcome : Option ErrorReply → Outcome
lost_outcome (Some error) = Refused error
lost_outcome None = TimedOut None

-- what was kept is lost, and what was let go has expired
abbrev pub end_event : Key → Option ErrorReply → Option Bool → Option Event
end_event key error None = None
end_event key error (Some true) = Some (Events.Lost key (lost_outcome error))
end_event key error (Some false) = Some (Events.Expired key)

-- without a response in time, the error is that of the last response that the client ignored
abbrev pub failure_outcome : Option ErrorReply → Option ErrorReply → Outcome
failure_outcome (Some error) ignored = Refused error
failure_outcome None ignored = TimedOut ignored

abbrev pub failure_event : Key → Option ErrorReply → Option OpenRequest → Option Event
failure_event key error request = option_map (λ r. Events.Outcome r.ticket key (failure_outcome error r.error)) request

-- what was requested rests
abbrev pub rests_after : Key → Option ErrorReply → ℕ → Bool → List Rest → List Rest
rests_after key error now requested rests = if requested then after_refusal key error now rests else rests

-- it was requested for itself, or for a request that awaits it
abbrev pub is_requested : Key → BookState → Bool
is_requested key b = is_some (request_for key b.requests) || is_some (first_awaiting key b.requests)

-- the server refused the key by this error, or did not answer in time; so it did what depends on it
abbrev pub after_failure : Key → Option ErrorReply → ℕ → BookState → BookState
after_failure key error now b = record {
  requests = with_denied key error (without_request key b.requests);
  held = without_grant key b.held;
  rests = rests_after key error now (is_requested key b) b.rests;
  events = (b.events ++ option_to_list (end_event key error (is_kept_in key b.held)))
      ++ option_to_list (failure_event key error (request_for key b.requests));
}

-- a data connection failed, which the client or the peer had requested
abbrev pub after_disconnection : Key → Option ErrorReply → ℕ → BookState → BookState
after_disconnection key error now b = if is_clients_in key b.requests then after_failure key error now b else b

-- the caller could not open it, or it was closed
abbrev pub after_opening_failed : Key → Tag → BookState → BookState
after_opening_failed key tag b = if is_clients_in key b.requests then after_settlement key (NotOpened tag) b else b

-- the permission for this request was refused, which is its outcome; what was granted before it stays
abbrev pub after_denial : OpenRequest → ℕ → BookState → BookState
after_denial r now b = record (after_settlement r.key (failure_outcome r.error None) b) { rests = after_refusal r.key r.error now b.rests }

-- ---- an allocation that has ended

-- what is in an allocation of this family: the first grant, or else the first request that does not wait
abbrev pub first_in : AddressFamily → BookState → Option Key
first_in family b = by (first_held family b.held) (first_made family b.requests)
  where
    by : Option HeldGrant → Option OpenRequest → Option Key
    by (Some g) _ = Some g.key
    by None (Some r) = Some r.key
    by None None = None
