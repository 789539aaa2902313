-- What a client requests.
use Rattle.std.specs.Prelude.{◌≡◌, ℕ, List}
use Rattle.turn_stun.specs.Message.{id_of}
use Rattle.turn_stun.specs.declared.transport.TransportType.{TransportType}
use Rattle.turn_types.specs.declared.family.AddressFamily.{AddressFamily}
use Rattle.turn_auth.specs.LongTerm.{ClientAuth}
use Rattle.turn_auth.specs.Signature.{AddsAll, additions_len}
use Rattle.turn_client_api.specs.Requests.{asked_attributes, request_for}
use Rattle.turn_client_api.specs.State.{State, auth_of}
use Rattle.turn_client_api.specs.declared.grant.Purpose.{Purpose}

-- the client if it requests addresses of these families that relay over this transport
abbrev pub with_asked_families : TransportType → List AddressFamily → State → State
with_asked_families transport families s =
    record s { config = record s.config { allocation_transport = transport }; families = families }

-- the new message is the old one with the attributes for the purpose, whatever else the client's state is
abbrev pub AddsAsked : TransportType → List AddressFamily → Purpose → List ℕ → List ℕ → Type 0
AddsAsked transport families purpose old new =
    (s : State) → AddsAll old new (asked_attributes (with_asked_families transport families s) purpose (id_of old))

-- the attributes for the purpose take this many bytes, whatever else the client's state is
abbrev pub IsAskedLen : TransportType → List AddressFamily → Purpose → ℕ → Type 0
IsAskedLen transport families purpose len =
    (s : State) (id : ℕ) → additions_len (asked_attributes (with_asked_families transport families s) purpose id) ≡ len

-- the text is the request for the purpose, of every client that signs with this `ClientAuth`
abbrev pub IsRequestFor : ClientAuth → TransportType → List AddressFamily → Purpose → ℕ → List ℕ → Type 0
IsRequestFor auth transport families purpose id text =
    (s : State) → auth_of s ≡ auth → text ≡ request_for (with_asked_families transport families s) purpose id
