-- What signing adds to a message (RFC 8489, sections 9.2.4, 14.5 and 14.6).
use Rattle.std.specs.Prelude.{◌≡◌, ℕ, ◌+◌, Bool, true, not, ◌||◌, List, [], ◌∷◌, length, Option, Some, None}
use Rattle.std.specs.List.{list_all}
use Rattle.turn_stun.specs.Attributes.{is_sha1, is_sha256}
use Rattle.turn_stun.specs.Message.{Attribute, padded_len, type_of, id_of, attributes_of}
use Rattle.turn_stun.specs.MessageType.{class_of}
use Rattle.turn_stun.specs.Writer.{with_attribute}
use Rattle.turn_stun.specs.declared.message.header.MessageClass.{MessageClass}
use Rattle.turn_stun.specs.declared.message.header.MessageClass.TheVariants.{Request, Indication, Success, Error}
use Rattle.turn_auth.specs.Credentials.{Credentials}
use Rattle.turn_auth.specs.LongTerm.{Challenge, ClientAuth}
use Rattle.turn_auth.specs.Key.{userhash}
use Rattle.turn_auth.specs.Integrity.{integrity_kind, integrity_len, mac_of, covered_text}
use Rattle.turn_auth.specs.Validation.{held_key}
use Rattle.turn_auth.specs.declared.feature.Feature.{Feature}
use Rattle.turn_auth.specs.declared.feature.Feature.TheVariants.{Auto, Disabled, Required}
use Rattle.turn_auth.specs.declared.integrity.IntegrityAlgorithm.{IntegrityAlgorithm}
use Rattle.turn_auth.specs.declared.integrity.IntegrityAlgorithm.TheVariants.{Sha1, Sha256}

-- an attribute that is to be written: its type and its value
pub record Addition : Type 0 where
  pub kind : ℕ
  pub value : List ℕ

-- the message with these attributes added at its end
abbrev pub with_additions : List Addition → List ℕ → List ℕ
with_additions [] message = message
with_additions (a ∷ later) message = with_additions later (with_attribute a.kind a.value message)

-- how many bytes an attribute with this value takes
abbrev pub written_len : List ℕ → ℕ
written_len value = 4 + padded_len (length value)

abbrev pub additions_len : List Addition → ℕ
additions_len [] = 0
additions_len (a ∷ later) = written_len a.value + additions_len later

-- the user: USERNAME, or USERHASH in its place if the user name is hidden (section 9.2.4)
abbrev pub user_addition : Feature → Credentials → List ℕ → Addition
user_addition Auto credentials realm = record { kind = 0x0006; value = credentials.user }
user_addition Disabled credentials realm = record { kind = 0x0006; value = credentials.user }
user_addition Required credentials realm = record { kind = 0x001e; value = userhash credentials realm }

-- PASSWORD-ALGORITHMS as it was received, and the PASSWORD-ALGORITHM SHA-256, which is 2, without
-- parameters
abbrev pub algorithm_additions : IntegrityAlgorithm → List ℕ → List Addition
algorithm_additions Sha1 sent_back = []
algorithm_additions Sha256 sent_back =
    record { kind = 0x8002; value = sent_back } ∷ record { kind = 0x001d; value = 0 ∷ 2 ∷ 0 ∷ 0 ∷ [] } ∷ []

-- the attributes of a request before the integrity, in this order (our choice)
abbrev pub request_additions : Feature → Credentials → Challenge → List Addition
request_additions anonymous credentials held =
    user_addition anonymous credentials held.realm
    ∷ record { kind = 0x0014; value = held.realm }
    ∷ record { kind = 0x0015; value = held.nonce }
    ∷ algorithm_additions held.algorithm held.password_algorithms

-- the message with the integrity attribute at its end
abbrev pub with_integrity : IntegrityAlgorithm → List ℕ → List ℕ → List ℕ
with_integrity algorithm key message =
    with_attribute (integrity_kind algorithm) (mac_of algorithm key (covered_text algorithm (length message) message)) message

-- the attributes before the integrity: a response carries the integrity alone
abbrev pub additions_for : MessageClass → Feature → Credentials → Challenge → List Addition
additions_for Request anonymous credentials held = request_additions anonymous credentials held
additions_for Indication anonymous credentials held = []
additions_for Success anonymous credentials held = []
additions_for Error anonymous credentials held = []

abbrev pub signed_by : Option Credentials → Option Challenge → Feature → List ℕ → List ℕ
signed_by (Some credentials) (Some held) anonymous message =
    with_integrity held.algorithm (held_key credentials held)
    (with_additions (additions_for (class_of (type_of message)) anonymous credentials held) message)
signed_by (Some credentials) None anonymous message = message
signed_by None _ anonymous message = message

-- the message, signed by the client: its old bytes stay, and this follows them
abbrev pub signed_text : ClientAuth → List ℕ → List ℕ
signed_text auth message = signed_by auth.credentials auth.held auth.anonymous_username message

abbrev pub signature_len_by : Option Credentials → Option Challenge → Feature → MessageClass → ℕ
signature_len_by (Some credentials) (Some held) anonymous class =
    additions_len (additions_for class anonymous credentials held) + (4 + integrity_len held.algorithm)
signature_len_by (Some credentials) None anonymous class = 0
signature_len_by None _ anonymous class = 0

-- how many bytes signing adds to a message of the class
abbrev pub signature_len : ClientAuth → MessageClass → ℕ
signature_len auth class = signature_len_by auth.credentials auth.held auth.anonymous_username class

-- how long a message is once it is signed
abbrev pub signed_len : ClientAuth → List ℕ → ℕ
signed_len auth message = length message + signature_len auth (class_of (type_of message))

-- how many bytes the algorithms and the integrity of a request take
abbrev pub algorithm_len : IntegrityAlgorithm → List ℕ → ℕ
algorithm_len algorithm sent_back = additions_len (algorithm_additions algorithm sent_back) + (4 + integrity_len algorithm)

-- whether attributes of the type do not carry integrity
abbrev pub is_plain : ℕ → Bool
is_plain kind = not (is_sha1 kind || is_sha256 kind)

-- none of the attributes carries integrity
abbrev pub is_unsigned : List Attribute → Bool
is_unsigned attributes = list_all (λ a. is_plain a.kind) attributes

-- with one more attribute that does not carry integrity an unsigned message stays unsigned
abbrev pub StaysUnsigned : ℕ → List ℕ → List ℕ → Type 0
StaysUnsigned kind old new =
    is_plain kind ≡ true → is_unsigned (attributes_of old) ≡ true → is_unsigned (attributes_of new) ≡ true

-- The new message is the old one with these attributes added: what that means for its length, its type and
-- its integrity attributes.
pub record AddsAll (old new : List ℕ) (additions : List Addition) : Type 0 where
  pub text : new ≡ with_additions additions old
  pub len : length new ≡ length old + additions_len additions
  pub type : type_of new ≡ type_of old
  pub id : id_of new ≡ id_of old
  pub unsigned : is_unsigned (attributes_of old) ≡ true → is_unsigned (attributes_of new) ≡ true
