-- What is noted of a client.
use Rattle.std.specs.Prelude.{ℕ, ◌&&◌, ◌||◌, Bool, true, false, not, if◌then◌else◌, [], Option, Some, None, is_none}
use Rattle.turn_client_api.specs.declared.event.TurnEvent.{TurnEvent}
use Rattle.turn_client_api.specs.declared.event.TurnEvent.TheVariants.{AllocationCreated, AllocationCreateFailed, PermissionCreated, PermissionCreateFailed}
use Rattle.turn_client_api.specs.declared.event.TurnEvent.TheVariants.{ChannelCreated, ChannelCreateFailed, TcpConnected, TcpConnectFailed}
use Rattle.turn_session_book.specs.Book.{after_binding, after_connection, after_disconnection, after_failure, after_grant, after_report}
use Rattle.turn_session_book.specs.Book.{is_requested, new_book, relayed_event}
use Rattle.turn_session_book.specs.Held.{is_held, is_kept_held, without_grant}
use Rattle.turn_session_book.specs.Held as Held
use Rattle.turn_session_book.specs.Keys.{same_key}
use Rattle.turn_session_book.specs.declared.events.Event.TheVariants.{FamilyFailed}
use Rattle.turn_session_book.specs.declared.keys.Key.{Key}
use Rattle.turn_session_book.specs.declared.keys.Key.TheVariants.{Permission, Channel, Connect}
use Rattle.turn_session_book.specs.declared.replies.ErrorReply.{ErrorReply}
use Rattle.turn_session_client.specs.declared.notes.Notes.{Notes}
use Rattle.turn_session_client.specs.declared.notes.Told.{Told}

abbrev pub new_notes : Notes
new_notes = record { book = new_book; relays = None; mapped = None; reply = None; silent = None; question = None; questions = []; told = None }

-- a grant that was kept, and whose renewal had no response
abbrev pub silent_after : Key → Notes → Option Key
silent_after key n = if is_none n.reply && is_kept_held key n.book.held then Some key else n.silent

-- the server refused this key, by the error that was received last, or did not answer in time
abbrev pub failed : Key → ℕ → Notes → Notes
failed key now n = record n { book = after_failure key n.reply now n.book; silent = silent_after key n }

-- ---- permissions that ask whether the server knows the allocation

abbrev pub is_last_question : Key → Option Key → Bool
is_last_question key None = false
is_last_question key (Some question) = same_key question key

-- the last question, or one before it
abbrev pub is_asked : Key → Notes → Bool
is_asked key n = is_last_question key n.question || is_held key n.questions

-- one that the caller has requested since, or needs for another request, is its own
abbrev pub is_question : Key → Notes → Bool
is_question key n = is_asked key n && not (is_requested key n.book)

-- the last question is noted with those before it
abbrev pub shelved : Notes → Notes
shelved n = by n.question
  where
    by : Option Key → Notes
    by None = n
    by (Some question) = record n { question = None; questions = Held.after_grant question true n.questions }

abbrev pub without_question : Key → Notes → Notes
without_question key n = record n {
  question = if is_last_question key n.question then None else n.question;
  questions = without_grant key n.questions;
}

-- one that the caller has requested is its own
abbrev pub granted : Key → Notes → Notes
granted key n = without_question key (record n { book = after_grant key n.book })

abbrev pub permitted : Key → Notes → Notes
permitted key n = if is_question key n then record n { told = Some (record { error = None }) } else granted key n

-- so is one that the caller requests after the server has granted it
abbrev pub adopted : Key → Notes → Notes
adopted key n = if is_asked key n then granted key n else n

-- without an error it has timed out, or expired
abbrev pub told_by : Option ErrorReply → Option Told → Option Told
told_by None told = told
told_by (Some error) told = Some (record { error = Some error })

abbrev pub question_failed : Key → Notes → Notes
question_failed key n = record (without_question key n) { told = told_by n.reply n.told }

-- one that the caller has requested since has ended too
abbrev pub permission_failed : Key → ℕ → Notes → Notes
permission_failed key now n = if is_question key n then question_failed key n else without_question key (failed key now n)

-- ---- events

-- An event of the client is noted under what it is for. A failure has the error that was received last, or none: a request of the
-- client that has timed out.
abbrev pub noted : TurnEvent → ℕ → Notes → Notes
noted (AllocationCreated transport relayed) now n =
    record n { book = after_report (relayed_event relayed n.mapped (is_none n.relays)) n.book; relays = Some transport }
noted (AllocationCreateFailed family) now n = record n { book = after_report (FamilyFailed family n.reply) n.book }
noted (PermissionCreated transport ip) now n = permitted (Permission ip) n
noted (PermissionCreateFailed transport ip) now n = permission_failed (Permission ip) now n
noted (ChannelCreated transport peer) now n = record n { book = after_binding peer n.book }
noted (ChannelCreateFailed transport peer) now n = failed (Channel peer) now n
noted (TcpConnected peer) now n = record n { book = after_connection (Connect peer) n.book }
noted (TcpConnectFailed peer) now n = record n { book = after_disconnection (Connect peer) n.reply now n.book }
