-- Worked streams, so that the check computes their effect.
use Rattle.std.specs.Prelude.{ℕ, List, [], ◌∷◌, ◌++◌, take, drop, None}
use Rattle.std.specs.declared.net.socket_addr.SocketAddr.{SocketAddr}
use Rattle.turn_auth.specs.declared.validation.Validation.{Validation}
use Rattle.turn_client_api.specs.State.{State, seconds}
use Rattle.turn_client_api.specs.Payloads.{Payload}
use Rattle.turn_client_laws.specs.LawsReceived.{IsJudged, abc, bind_success, data_end, from_peer, hello, relayed, with_waiting}
use Rattle.turn_client_runs.specs.Cut.{fed_pieces, whole_of}

-- at 1 s
abbrev pub whole_at : SocketAddr → List ℕ → State → List Payload × State
whole_at local bytes s = whole_of local (seconds 1) s bytes

abbrev pub pieces_at : SocketAddr → List (List ℕ) → State → List Payload × State
pieces_at local pieces s = fed_pieces local pieces (seconds 1) s

-- the data of a peer

abbrev pub abc_and_hello : List Payload
abc_and_hello = relayed abc None ∷ relayed hello None ∷ []

abbrev pub byte_and_hello : List Payload
byte_and_hello = from_peer (0xff ∷ []) None ∷ from_peer hello None ∷ []

abbrev pub two_bytes : List Payload
two_bytes = from_peer (0xff ∷ []) None ∷ from_peer (0x00 ∷ []) None ∷ []

-- A success to CONNECTION_BIND that is judged so is cut after so many bytes. These bytes precede it, and
-- data follows in the second piece: this holds of what the two pieces return.
abbrev pub WhenCut : Validation → List ℕ → ℕ → (List Payload → Type 0) → Type 0
WhenCut verdict front len Is =
    (byte : ℕ → ℕ) (text : List ℕ) (s : State) → IsJudged verdict (bind_success byte) (with_waiting text s)
    → let reply = bind_success byte in
    Is (pieces_at data_end ((front ++ take len reply) ∷ (drop len reply ++ hello) ∷ []) (with_waiting text s)).0
