-- The messages of the checks of the path.
use Rattle.std.specs.Prelude.{ℕ, ◌||◌, if◌then◌else◌, List, Option, Some, None, is_some}
use Rattle.turn_stun.specs.Message.{fault_of, id_of}
use Rattle.turn_stun.specs.MessageType.{type_number}
use Rattle.turn_stun.specs.Writer.{header_of}
use Rattle.turn_stun.specs.declared.message.header.MessageClass.{MessageClass}
use Rattle.turn_stun.specs.declared.message.header.MessageClass.TheVariants.{Request, Success, Error}
use Rattle.turn_client_api.specs.Judgement.{class_in}
use Rattle.turn_hints.specs.Hints.{mapped_in}
use Rattle.turn_session_client.specs.Answering.{is_channel_data}
use Rattle.turn_session_life.specs.declared.watch.OwnRequest.{OwnRequest}
use Rattle.turn_session_path.specs.declared.round.CheckRequest.{CheckRequest}
use Rattle.turn_session_path.specs.declared.round.CheckRequest.TheVariants.{Binding, BarePermission}
use Rattle.turn_session.specs.declared.path_messages.PathText.{PathText}

-- ---- requests (RFC 8489, section 18.2; RFC 8656, section 17), of a header alone

abbrev pub method_number : CheckRequest → ℕ
method_number Binding = 0x001
method_number BarePermission = 0x008

abbrev pub request_bytes : OwnRequest → List ℕ
request_bytes r = header_of (type_number (method_number r.request) Request) r.id

-- ---- responses

abbrev pub text_of : List ℕ → PathText
text_of bytes = record { id = id_of bytes; mapped = mapped_in bytes }

abbrev pub text_in : List ℕ → Option PathText
text_in bytes = by (class_in bytes)
  where
    by : MessageClass → Option PathText
    by Success = Some (text_of bytes)
    by Error = Some (text_of bytes)
    by _ = None

abbrev pub response_in : List ℕ → Option PathText
response_in bytes = if is_channel_data bytes || is_some (fault_of bytes) then None else text_in bytes
