-- Data for a peer over a channel (RFC 8656, section 12.5).
use Rattle.std.specs.Prelude.{ℕ, nat_le, if◌then◌else◌, List, Option, Some, None, Result, Ok}
use Rattle.turn_stun.specs.declared.transport.Transmit.{Transmit}
use Rattle.turn_types.specs.Channel.{channel_frame}
use Rattle.turn_client_api.specs.Requests.{to_server}
use Rattle.turn_client_api.specs.State.{State}
use Rattle.turn_client_api.specs.declared.error.SendError.{SendError}

-- the number of an active channel, up to its expiry
abbrev pub number_by : Option (ℕ × ℕ) → ℕ → Option ℕ
number_by None now = None
number_by (Some found) now = if nat_le now found.1 then Some found.0 else None

abbrev pub in_frame : ℕ → List ℕ → State → Result (Transmit (List ℕ)) SendError
in_frame number bytes s = Ok (to_server s s.local (channel_frame number bytes))
