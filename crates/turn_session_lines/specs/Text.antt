-- The printed text of a session's answers.
use Rattle.std.specs.Prelude.{ℕ, Bool, true, false, List, [], ◌∷◌, ◌++◌, codes, decimal, Option, Some, None, Result, Ok, Err}
use Rattle.std.specs.Duration.{as_nanos}
use Rattle.std.specs.declared.net.socket_addr.SocketAddr.{SocketAddr}
use Rattle.turn_lines.specs.Text.{address_text, answers_text, bytes_text, family_text, fields_text, ip_text, list_fields}
use Rattle.turn_session_book.specs.Replies.{text_of}
use Rattle.turn_session_book.specs.declared.answers.Answer.{Answer}
use Rattle.turn_session_book.specs.declared.answers.Answer.TheVariants as Answers
use Rattle.turn_session_book.specs.declared.answers.CallError.{CallError}
use Rattle.turn_session_book.specs.declared.answers.CallError.TheVariants.{NoAllocation, NoPermission, AlreadyExists, Reserved, NotGranted}
use Rattle.turn_session_book.specs.declared.answers.CallError.TheVariants as CallErrors
use Rattle.turn_session_book.specs.declared.answers.Outcome.{Outcome}
use Rattle.turn_session_book.specs.declared.answers.Outcome.TheVariants as Outcomes
use Rattle.turn_session_book.specs.declared.causes.Why.{Why}
use Rattle.turn_session_book.specs.declared.causes.Why.TheVariants as Whys
use Rattle.turn_session_book.specs.declared.events.Event.{Event}
use Rattle.turn_session_book.specs.declared.events.Event.TheVariants as Events
use Rattle.turn_session_book.specs.declared.held.HeldGrant.{HeldGrant}
use Rattle.turn_session_book.specs.declared.keys.Key.{Key}
use Rattle.turn_session_book.specs.declared.keys.Key.TheVariants.{Permission, Channel, Connect}
use Rattle.turn_session_book.specs.declared.replies.ErrorReply.{ErrorReply}
use Rattle.turn_session_book.specs.declared.tags.Tag.{Tag}
use Rattle.turn_session_counts.specs.declared.counters.Counters.{Counters}
use Rattle.turn_session_lines.specs.declared.reply.SessionReply.{SessionReply}
use Rattle.turn_session_lines.specs.declared.reply.SessionReply.TheVariants as Replies

abbrev pub key_text : Key → List ℕ
key_text (Permission ip) = codes "permission " ++ ip_text ip
key_text (Channel peer) = codes "channel " ++ address_text peer
key_text (Connect peer) = codes "connect " ++ address_text peer

-- `-` for no address
abbrev pub optional_address_text : Option SocketAddr → List ℕ
optional_address_text None = codes "-"
optional_address_text (Some addr) = address_text addr

-- ---- errors

abbrev pub code_text : Option ℕ → List ℕ
code_text None = codes "none"
code_text (Some code) = decimal code

-- whether the client accepted the response
abbrev pub how_text : Bool → List ℕ
how_text true = codes "taken"
how_text false = codes "hint"

abbrev pub error_text : ErrorReply → List ℕ
error_text e =
    code_text e.code
    ++ (codes " " ++ (how_text e.is_taken ++ (codes " " ++ (bytes_text (text_of e.phrase) ++ (codes " " ++ optional_address_text e.alternate)))))

abbrev pub error_reply_text : Option ErrorReply → List ℕ
error_reply_text None = codes "-"
error_reply_text (Some e) = error_text e

abbrev pub call_error_text : CallError → List ℕ
call_error_text NoAllocation = codes "no-allocation"
call_error_text NoPermission = codes "no-permission"
call_error_text AlreadyExists = codes "already-exists"
call_error_text (Reserved until) = codes "expired " ++ decimal until
call_error_text NotGranted = codes "not-granted"
call_error_text CallErrors.OutOfMemory = codes "no-memory"

-- ---- causes

abbrev pub caused_by_error : List ℕ → ErrorReply → List ℕ
caused_by_error word e = word ++ (codes " " ++ error_text e)

abbrev pub caused_by_system : List ℕ → Tag → List ℕ
caused_by_system word tag = word ++ (codes " " ++ decimal tag.0)

abbrev pub ended_text : Option Tag → List ℕ
ended_text None = codes "socket-ended -"
ended_text (Some tag) = caused_by_system (codes "socket-ended") tag

abbrev pub why_text : Why → List ℕ
why_text Whys.Closed = codes "closed"
why_text (Whys.Silent wait) = codes "silent " ++ decimal (as_nanos wait)
why_text (Whys.Refused e) = caused_by_error (codes "refused") e
why_text (Whys.WrongCredentials e) = caused_by_error (codes "wrong-credentials") e
why_text Whys.Unauthenticated = codes "unauthenticated"
why_text Whys.NoUsableAddress = codes "no-usable-address"
why_text (Whys.TooManyChallenges code) = codes "too-many-challenges " ++ decimal code
why_text (Whys.NotRenewed e) = caused_by_error (codes "not-renewed") e
why_text (Whys.ShortRenewal seconds) = codes "short-renewal " ++ decimal seconds
why_text Whys.RenewalSilent = codes "renewal-silent"
why_text (Whys.Forgotten e) = caused_by_error (codes "forgotten") e
why_text (Whys.Unanswered count) = codes "unanswered " ++ decimal count
why_text (Whys.GrantSilent key) = codes "grant-silent " ++ key_text key
why_text Whys.CredentialsRefused = codes "credentials-refused"
why_text (Whys.SocketErrors tag) = caused_by_system (codes "socket-errors") tag
why_text (Whys.SocketEnded tag) = ended_text tag
why_text Whys.StreamFull = codes "stream-full"
why_text Whys.NotAStream = codes "not-a-stream"
why_text (Whys.NoRoute tag) = caused_by_system (codes "no-route") tag
why_text (Whys.HostMoved tag) = caused_by_system (codes "host-moved") tag
why_text Whys.OutOfMemory = codes "no-memory"

-- ---- outcomes and events

abbrev pub outcome_text : Outcome → List ℕ
outcome_text Outcomes.Granted = codes "granted"
outcome_text (Outcomes.Refused e) = codes "refused " ++ error_text e
outcome_text (Outcomes.TimedOut e) = codes "timed-out " ++ error_reply_text e
outcome_text (Outcomes.NotMade e) = codes "not-made " ++ call_error_text e
outcome_text (Outcomes.NotOpened tag) = codes "not-opened " ++ decimal tag.0
outcome_text Outcomes.NotBound = codes "not-bound"
outcome_text (Outcomes.Ended why) = codes "ended " ++ why_text why

abbrev pub key_and_outcome : Key → Outcome → List ℕ
key_and_outcome key outcome = key_text key ++ (codes " " ++ outcome_text outcome)

abbrev pub event_text : Event → List ℕ
event_text Events.Heard = codes "heard"
event_text (Events.Up relayed mapped) = codes "up " ++ (address_text relayed ++ (codes " " ++ optional_address_text mapped))
event_text (Events.Also relayed) = codes "also" ++ (codes " " ++ address_text relayed)
event_text (Events.FamilyFailed family e) = codes "family-failed " ++ (family_text family ++ (codes " " ++ error_reply_text e))
event_text (Events.Ending why) = codes "ending" ++ (codes " " ++ why_text why)
event_text (Events.Outcome ticket key outcome) = codes "outcome " ++ (decimal ticket ++ (codes " " ++ key_and_outcome key outcome))
event_text (Events.Lost key outcome) = codes "lost " ++ key_and_outcome key outcome
event_text (Events.Expired key) = codes "expired" ++ (codes " " ++ key_text key)
event_text (Events.Refreshed (Some key)) = codes "refreshed" ++ (codes " " ++ key_text key)
event_text (Events.Refreshed None) = codes "refreshed allocation"
event_text (Events.Checked ticket true mapped) = codes "checked " ++ (decimal ticket ++ (codes " yes " ++ optional_address_text mapped))
event_text (Events.Checked ticket false mapped) = codes "checked " ++ (decimal ticket ++ codes " no")
event_text (Events.Moved mapped) = codes "moved" ++ (codes " " ++ address_text mapped)
event_text (Events.Over why) = codes "over" ++ (codes " " ++ why_text why)

-- ---- answers

abbrev pub request_text : Answer → List ℕ
request_text Answers.Granted = codes "granted"
request_text (Answers.Ticket ticket) = codes "ticket " ++ decimal ticket
request_text (Answers.Resting until e) = codes "resting " ++ (decimal until ++ (codes " " ++ error_reply_text e))
request_text (Answers.Refused e) = codes "refused " ++ call_error_text e
request_text (Answers.Ended why) = codes "ended " ++ why_text why

abbrev pub kept_text : Result Unit CallError → List ℕ
kept_text (Ok done) = codes "ok"
kept_text (Err e) = codes "refused " ++ call_error_text e

-- whether what was granted is kept
abbrev pub kept_word : Bool → List ℕ
kept_word true = codes "kept"
kept_word false = codes "released"

abbrev pub grant_fields : HeldGrant → List (List ℕ)
grant_fields g = key_text g.key ∷ kept_word g.is_kept ∷ []

abbrev pub grants_text : List HeldGrant → List ℕ
grants_text grants = fields_text (list_fields grant_fields grants)

abbrev pub until_text : Option ℕ → List ℕ
until_text None = codes "none"
until_text (Some time) = codes "until " ++ decimal time

-- how many requests, how often one again, and the round trip
abbrev pub counters_text : Counters → List ℕ
counters_text c = codes "counters " ++ (decimal c.requests ++ (codes " " ++ (decimal c.retransmissions ++ (codes " " ++ by c.round_trip))))
  where
    by : Option ℕ → List ℕ
    by None = codes "-"
    by (Some nanos) = decimal nanos

abbrev pub optional_event_text : Option Event → List ℕ
optional_event_text None = codes "none"
optional_event_text (Some event) = event_text event

abbrev pub optional_request_text : Option Answer → List ℕ
optional_request_text None = codes "none"
optional_request_text (Some answer) = request_text answer

-- what only a session answers
abbrev pub own_text : SessionReply → List ℕ
own_text (Replies.OfClient reply) = []
own_text (Replies.Event event) = optional_event_text event
own_text (Replies.Answer answer) = optional_request_text answer
own_text (Replies.Kept kept) = kept_text kept
own_text (Replies.Grants grants) = grants_text grants.items
own_text (Replies.KeptUntil time) = until_text time
own_text (Replies.Counters counters) = counters_text counters
own_text Replies.TooLong = codes "refused too-long"

-- each answer is a line
abbrev pub answer_text : SessionReply → List ℕ
answer_text (Replies.OfClient reply) = answers_text (reply ∷ [])
answer_text reply = own_text reply ++ codes "\n"
