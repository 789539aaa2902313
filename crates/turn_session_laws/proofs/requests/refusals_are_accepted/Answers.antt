use Rattle.std.proofs.Common.{◌≡◌, ℕ, Bool, Option, Some, None, true, false, refl}
use Rattle.turn_session_book.specs.Book.{failure_outcome, lost_outcome}
use Rattle.turn_session_book.specs.declared.answers.Outcome.TheVariants.{Refused}
use Rattle.turn_session_book.specs.declared.replies.ErrorReply.{ErrorReply}
use Rattle.turn_session_life.specs.declared.responses.Asked.{Asked}
use Rattle.turn_session_life.specs.declared.responses.Said.{Said}
use Rattle.turn_session_life.specs.declared.responses.Said.TheVariants.{Granted, Denied, Nothing}
use Rattle.turn_session_client.specs.NotedState.{NotedState}
use Rattle.turn_session_client.specs.Reading.{response_to}
use Rattle.turn_session_client.specs.Receiving.{received, with_hints, with_mapped}
use Rattle.turn_session_client.specs.declared.reading.Reading.{Reading}
use Rattle.turn_session_laws.proofs.requests.refusals_are_accepted.Goals as goal

request-refused : (error ignored : Option ErrorReply) (e : ErrorReply) → failure_outcome error ignored ≡ Refused e → error ≡ Some e
request-refused None ignored e said = cc
request-refused (Some error) ignored e said = cc

grant-refused : (error : Option ErrorReply) (e : ErrorReply) → lost_outcome error ≡ Refused e → error ≡ Some e
grant-refused None e said = cc
grant-refused (Some error) e said = cc

-- hints change no error that was received
denied-keeps : (r : Reading) (asked : Asked) (e : ErrorReply) (taken : Bool) (s : NotedState)
    → (with_hints r (record { asked = asked; said = Denied (record e { is_taken = taken }) }) s).notes.reply ≡ s.notes.reply
denied-keeps r asked e true s = refl
denied-keeps r asked e false s = refl

hints-keep : (r : Reading) (asked : Asked) (said : Said) (s : NotedState) → (with_hints r (record { asked = asked; said = said }) s).notes.reply ≡ s.notes.reply
hints-keep r asked (Granted lifetime) s = refl
hints-keep r asked Nothing s = refl
hints-keep r asked (Denied e) s = denied-keeps r asked e e.is_taken s

ignored-keeps : (reading : Option Reading) (reply : Option ErrorReply) (now : ℕ) (s : NotedState) → (received reading reply false now s).notes.reply ≡ s.notes.reply
ignored-keeps None reply now s = refl
ignored-keeps (Some r) reply now s =
    let response = response_to r false in hints-keep r response.asked response.said (with_mapped r false s)

pub returns : goal.returns
returns c = record {
  request = request-refused;
  grant = grant-refused;
  accepted = λ reading reply now s. ignored-keeps reading reply now s;
}
