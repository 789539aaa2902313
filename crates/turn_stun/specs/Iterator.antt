-- What the iterators over attributes have yet to return.
use Rattle.std.specs.Prelude.{ℕ, List, [], unwrap_or}
use Rattle.turn_stun.specs.Message.{Attribute, attributes_from}
use Rattle.turn_stun.specs.Attributes.{seen_after}
use Rattle.turn_stun.specs.declared.attribute.RawAttribute.{RawAttribute}
use Rattle.turn_stun.specs.declared.attribute.walk.AttributeWalk.{AttributeWalk}
use Rattle.turn_stun.specs.declared.message.attributes.MessageAttributesIter.{MessageAttributesIter}

-- an item is an attribute with its place
abbrev pub placed : ℕ × RawAttribute → Attribute
placed (offset, raw) = record { offset = offset; kind = raw.attribute_type.value; value = raw.value.now }

-- the attributes in the bytes, the first of which has that offset
abbrev pub found_from : ℕ → List ℕ → List Attribute
found_from offset bytes = unwrap_or (attributes_from 0 offset bytes) []

-- the attributes that a walk has yet to return
abbrev pub attributes_ahead : AttributeWalk → List Attribute
attributes_ahead walk = found_from walk.offset walk.rest.now

-- the seen ones of those that are left
abbrev pub attributes_left : MessageAttributesIter → List Attribute
attributes_left i = seen_after i.before.any i.before.sha256 (attributes_ahead i.walk)
