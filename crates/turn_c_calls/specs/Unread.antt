-- Bytes that did not fit into a caller's buffer.
use Rattle.std.specs.Prelude.{ℕ, List, [], Option, Some, None}
use Rattle.turn_client_api.specs.PeerBytes.{payload_of}
use Rattle.turn_c_calls.specs.declared.unread.Kept.{Kept}
use Rattle.turn_c_calls.specs.declared.unread.Kept.TheVariants.{Packet, Given}

abbrev pub kept_bytes : Kept → List ℕ
kept_bytes (Packet packet) = packet
kept_bytes (Given given) = payload_of given

-- read or not
abbrev pub whole : Option Kept → List ℕ
whole None = []
whole (Some kept) = kept_bytes kept
