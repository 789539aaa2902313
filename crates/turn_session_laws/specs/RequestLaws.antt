-- Laws of requests.
use Rattle.std.specs.Prelude.{◌≡◌, ℕ, true, false, Option, Some}
use Rattle.turn_session_book.specs.Book.{failure_outcome, lost_outcome}
use Rattle.turn_session_book.specs.declared.answers.Outcome.TheVariants.{Refused}
use Rattle.turn_session_book.specs.declared.keys.Key.{Key}
use Rattle.turn_session_book.specs.declared.replies.ErrorReply.{ErrorReply}
use Rattle.turn_session_client.specs.Asking.{begun}
use Rattle.turn_session_client.specs.NotedState.{NotedState}
use Rattle.turn_session_client.specs.Permitting.{permitted_noted}
use Rattle.turn_session_client.specs.Polling.{next_made}
use Rattle.turn_session_client.specs.Receiving.{received}
use Rattle.turn_session_client.specs.Waiting.{is_full}
use Rattle.turn_session_client.specs.declared.reading.Reading.{Reading}

-- while eight requests of the client are queued: a new request leaves the client as it is, and none that waits is made, nor a
-- permission that another request needs
pub record FewUnsent : Type 0 where
  pub new : (key : Key) (now : ℕ) (s : NotedState) → is_full s ≡ true → (begun key now s).1.client ≡ s.client
  pub waiting : (now : ℕ) (s : NotedState) → is_full s ≡ true → next_made now s ≡ (false, s)
  -- and at any time one that goes on, since its permission is granted, leaves the client as it is
  pub permitted : (s : NotedState) → (permitted_noted s).1.client ≡ s.client

-- a refusal has the error that was received last, which is one that the client has accepted
pub record RefusalsAreAccepted : Type 0 where
  pub request : (error ignored : Option ErrorReply) (e : ErrorReply) → failure_outcome error ignored ≡ Refused e → error ≡ Some e
  pub grant : (error : Option ErrorReply) (e : ErrorReply) → lost_outcome error ≡ Refused e → error ≡ Some e
  pub accepted : (reading : Option Reading) (reply : Option ErrorReply) (now : ℕ) (s : NotedState)
      → (received reading reply false now s).notes.reply ≡ s.notes.reply
