-- How a message type is composed of a method and a class (RFC 8489, section 5, figure 3).
use Rattle.std.specs.Prelude.{ℕ, zero, suc, ◌+◌, ◌*◌, ◌/◌, ◌%◌}
use Rattle.turn_stun.specs.declared.message.header.MessageClass.{MessageClass}
use Rattle.turn_stun.specs.declared.message.header.MessageClass.TheVariants.{Request, Indication, Success, Error}

-- the class's low bit is bit 4 of the type, and its high bit is bit 8
abbrev pub class_bits : MessageClass → ℕ
class_bits Request = 0
class_bits Indication = 0x010
class_bits Success = 0x100
class_bits Error = 0x110

-- bits 0 to 3 of the method are those of the type, bits 4 to 6 are its bits 5 to 7, and bits 7 to
-- 11 are its bits 9 to 13
abbrev pub method_bits : ℕ → ℕ
method_bits method = method % 16 + method / 16 % 8 * 32 + method / 128 * 512

-- the type of a method and a class
abbrev pub type_number : ℕ → MessageClass → ℕ
type_number method class = method_bits method + class_bits class

-- the method of a type
abbrev pub method_of : ℕ → ℕ
method_of type = type % 16 + type / 32 % 8 * 16 + type / 512 * 128

-- the class whose low bit and high bit these are
abbrev pub class_with_bits : ℕ → ℕ → MessageClass
class_with_bits zero zero = Request
class_with_bits (suc _) zero = Indication
class_with_bits zero (suc _) = Success
class_with_bits (suc _) (suc _) = Error

-- the class of a type
abbrev pub class_of : ℕ → MessageClass
class_of type = class_with_bits (type / 16 % 2) (type / 256 % 2)

-- it answers a request
abbrev pub IsResponse : MessageClass → Type 0
IsResponse Request = ⊥
IsResponse Indication = ⊥
IsResponse Success = Unit {0}
IsResponse Error = Unit {0}
