-- Data connections that the caller opened, or could not (RFC 6062, sections 4.3 and 4.4).
use Rattle.std.specs.Prelude.{ℕ, List, [], ◌∷◌, ◌++◌, false, map, option_to_list, Option, Some, None}
use Rattle.std.specs.declared.net.socket_addr.SocketAddr.{SocketAddr}
use Rattle.turn_client_api.specs.Calls.{offer_taken, with_stream}
use Rattle.turn_client_api.specs.Grants.{in_sequence, with_grant}
use Rattle.turn_client_api.specs.Requests.{fresh_id, requested, to_server}
use Rattle.turn_client_api.specs.Retry.{bind_time}
use Rattle.turn_client_api.specs.State.{State, later_by}
use Rattle.turn_client_api.specs.declared.grant.Grant.TheVariants.{Connection}
use Rattle.turn_client_api.specs.declared.grant.Origin.{Origin}
use Rattle.turn_client_api.specs.declared.grant.Origin.TheVariants.{ServerRequest}
use Rattle.turn_client_api.specs.declared.grant.Purpose.TheVariants.{ForBind}

-- a reply is queued for the control connection, if there is one
abbrev pub with_reply : Option (List ℕ) → State → State
with_reply reply s = record s {
  queue = s.queue ++ map (λ text. record { packet = to_server s s.local text; is_request = false }) (option_to_list reply);
}

-- the reply to the server, if it requested the connection
abbrev pub answer_to : (ℕ → List ℕ) → Origin → Option (List ℕ)
answer_to text (ServerRequest request) = Some (text request)
answer_to text _ = None

-- the caller opened the connection, and the server gets this reply
abbrev pub opened_with : Option (List ℕ) → ℕ → SocketAddr → SocketAddr → ℕ → State → State
opened_with reply id peer local now s = in_sequence (
    offer_taken id peer
    ∷ with_reply reply
    ∷ with_grant (Connection (record { local = local; peer = peer; deadline = Some (later_by bind_time now) }))
    ∷ requested (fresh_id s) (ForBind local peer id) now
    ∷ with_stream local
    ∷ []
    ) s
