-- A server that grants what is requested (RFC 8656, sections 7 to 12).
use Rattle.std.specs.Prelude.{◌≡◌, ℕ, ◌^◌, ◌<◌, true, List, [], ◌∷◌, IsSome}
use Rattle.turn_stun.specs.declared.message.header.MessageClass.TheVariants.{Success}
use Rattle.turn_stun.specs.declared.transport.TransportType.TheVariants.{Udp}
use Rattle.turn_stun.specs.declared.transport.Transmit.{Transmit}
use Rattle.turn_agent.specs.Agent.{is_outstanding}
use Rattle.turn_client_api.specs.State.{State}
use Rattle.turn_client_api.specs.declared.grant.Purpose.{Purpose}
use Rattle.turn_client_api.specs.Grants.{purposes_of}
use Rattle.turn_client_api.specs.Requests.{lifetime_attribute, message_of, method_for, signed}
use Rattle.turn_client_runs.specs.Lasting.{IsSuccess}

-- its success for a request with this ID and purpose: with a lifetime of 600 s, and signed (RFC 8489, section
-- 9.2.4)
abbrev pub success_for : State → Purpose → ℕ → List ℕ
success_for s purpose id = signed s (message_of (method_for purpose) Success (lifetime_attribute 600 ∷ []) id)

-- the datagram from the server to the client
abbrev pub from_server : State → List ℕ → Transmit (List ℕ)
from_server s bytes = record { payload = bytes; transport = s.transport; from = s.remote; to = s.local }

-- Over UDP, the server's success for an outstanding request is one by which no grant is lost. No message carries an ID of
-- 2^96 or more.
abbrev pub RequestsCanBeGranted : Type 0
RequestsCanBeGranted =
    (now id : ℕ) (purpose : Purpose) (others : List Purpose) (s : State) → s.transport ≡ Udp → IsSome s.held → id < 2 ^ 96
    → is_outstanding id s.transactions ≡ true → purposes_of id s ≡ purpose ∷ others
    → IsSuccess (from_server s (success_for s purpose id)) now s
