-- What the server reports when a peer connected to the relayed address (RFC 6062, section 4.4).
use Rattle.std.specs.Option.{option_map_or}
use Rattle.std.specs.Prelude.{ℕ, ◌==◌, if◌then◌else◌, List, ⊤}
use Rattle.turn_client_api.specs.Connections.{attempt_indicated, attempt_requested}
use Rattle.turn_client_api.specs.Judgement.{method_in}
use Rattle.turn_client_api.specs.Payloads.{Outcome, Handled, Ignored}
use Rattle.turn_client_api.specs.Requests.{connection_attempt_method}
use Rattle.turn_client_api.specs.State.{State}
use Rattle.turn_client_api.specs.declared.state.Phase.{Phase}
use Rattle.turn_client_api.specs.declared.state.Phase.TheVariants.{Authenticating, Allocated}

abbrev pub attempt_step : List ℕ → State → Outcome × State
attempt_step message s = option_map_or (λ t. (Handled, t)) (attempt_indicated message s) (Ignored, s)

-- a signed request of the server: only a ConnectionAttempt is for a client
abbrev pub request_step : List ℕ → State → Outcome × State
request_step message s =
    if method_in message == connection_attempt_method then (Handled, attempt_requested message s) else (Ignored, s)

-- a challenge was answered, and the client has not ended
abbrev pub CanSign : Phase → Type 0
CanSign Authenticating = ⊤
CanSign Allocated = ⊤
CanSign _ = ⊥
