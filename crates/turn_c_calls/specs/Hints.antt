-- What the first frame of bytes says.
use Rattle.std.specs.Prelude.{◌≡◌, ℕ, ◌-◌, List, length, replicate, Option, Some, None, unwrap_or, option_and_then}
use Rattle.std.specs.Option.{option_map}
use Rattle.std.specs.declared.net.socket_addr.SocketAddr.{SocketAddr}
use Rattle.std.specs.declared.ops.Range.{Range}
use Rattle.turn_stun.specs.Attributes.{first_of, seen_of}
use Rattle.turn_stun.specs.Message.{id_of, type_of}
use Rattle.turn_stun.specs.MessageType.{class_of, method_of}
use Rattle.turn_stun.specs.Number.{id_bytes}
use Rattle.turn_stun.specs.declared.message.header.MessageClass.{MessageClass}
use Rattle.turn_stun.specs.declared.message.header.MessageClass.TheVariants as Class
use Rattle.turn_stun.specs.declared.transport.TransportType.{TransportType}
use Rattle.turn_stun.specs.declared.transport.TransportType.TheVariants.{Tcp}
use Rattle.turn_hints.specs.First.{IsFirst}
use Rattle.turn_hints.specs.Hints.{alternate_in, mapped_in, place_of, reason_place}
use Rattle.turn_hints.specs.declared.frame.FirstFrame.{FirstFrame}
use Rattle.turn_hints.specs.declared.frame.FirstFrame.TheVariants.{Message, ChannelData, Part, NoFrame}
use Rattle.turn_c_calls.specs.Address.{c_address, c_transport, no_address}
use Rattle.turn_c_calls.specs.declared.address.Address.{Address}
use Rattle.turn_c_calls.specs.declared.code.TheConstants.{BAD_CALL, CHANNEL_DATA, ERROR, INDICATION, MESSAGE, NO, NO_FRAME, NOTHING, REQUEST, SUCCESS, YES}
use Rattle.turn_c_calls.specs.declared.hints.Hints.{Hints}
use Rattle.turn_stun.specs.Read.{code_in}

-- of this kind, with nothing else
abbrev pub hints_of_kind : ℕ → Hints
hints_of_kind kind = record {
  len = 0;
  kind = kind;
  method = 0;
  message_class = 0;
  id = replicate 12 0;
  channel = 0;
  code = 0;
  reason_at = 0;
  reason_len = 0;
  realm_at = 0;
  realm_len = 0;
  mapped = no_address;
  alternate = no_address;
  reserved = replicate 8 0;
}

abbrev pub class_code : MessageClass → ℕ
class_code Class.Request = REQUEST
class_code Class.Indication = INDICATION
class_code Class.Success = SUCCESS
class_code Class.Error = ERROR

abbrev pub address_or : Option SocketAddr → Address
address_or None = no_address
address_or (Some addr) = c_address addr

-- a place, or 0 with length 0
abbrev pub place_start : Option (Range ℕ) → ℕ
place_start None = 0
place_start (Some place) = place.start

abbrev pub place_len : Option (Range ℕ) → ℕ
place_len None = 0
place_len (Some place) = place.end - place.start

-- where the value of the first attribute of a type lies, among those that count
abbrev pub value_place : ℕ → List ℕ → Option (Range ℕ)
value_place kind message = option_map place_of (first_of kind (seen_of message))

abbrev pub reason_in : List ℕ → Option (Range ℕ)
reason_in message = option_and_then reason_place (first_of 0x0009 (seen_of message))

abbrev pub hints_of_message : List ℕ → Hints
hints_of_message m = record (hints_of_kind MESSAGE) {
  len = length m;
  method = method_of (type_of m);
  message_class = class_code (class_of (type_of m));
  id = id_bytes (id_of m);
  code = unwrap_or (code_in m) 0;
  reason_at = place_start (reason_in m);
  reason_len = place_len (reason_in m);
  realm_at = place_start (value_place 0x0014 m);
  realm_len = place_len (value_place 0x0014 m);
  mapped = address_or (mapped_in m);
  alternate = address_or (alternate_in m);
}

abbrev pub hints_of : FirstFrame → Hints
hints_of (Message message) = hints_of_message message
hints_of (ChannelData channel len) = record (hints_of_kind CHANNEL_DATA) { len = len; channel = channel.id }
hints_of Part = hints_of_kind NOTHING
hints_of NoFrame = hints_of_kind NO_FRAME

abbrev pub SaysOver : Option TransportType → List ℕ → Hints → Type 0
SaysOver None bytes hints = hints ≡ hints_of_kind BAD_CALL
SaysOver (Some transport) bytes hints = (first : FirstFrame) × IsFirst transport bytes first × (hints ≡ hints_of first)

-- what is said of the first frame of these bytes
abbrev pub SaysFirst : ℕ → List ℕ → Hints → Type 0
SaysFirst transport bytes hints = SaysOver (c_transport transport) bytes hints

-- the place of an attribute, of a message alone
abbrev pub attribute_in : ℕ → FirstFrame → Option (Range ℕ)
attribute_in kind (Message message) = value_place kind message
attribute_in kind _ = None

abbrev pub found_code : Option (Range ℕ) → ℕ
found_code None = NO
found_code (Some place) = YES

-- a place and its length, and whether there is one
abbrev pub AreOf : Option (Range ℕ) → ℕ → ℕ → ℕ → Type 0
AreOf place start len code = (start ≡ place_start place) × (len ≡ place_len place) × (code ≡ found_code place)

-- the place of the first attribute of this type, of the message that the bytes are or begin with
abbrev pub SaysPlace : ℕ → List ℕ → ℕ → ℕ → ℕ → Type 0
SaysPlace kind bytes start len code = (first : FirstFrame) × IsFirst Tcp bytes first × AreOf (attribute_in kind first) start len code
