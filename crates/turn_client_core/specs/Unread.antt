-- Which messages are ignored whatever attributes they contain.
use Rattle.std.specs.Prelude.{ℕ, ◌==◌, nat_lt, Bool, false, not, ◌&&◌, ◌||◌, is_some}
use Rattle.turn_stun.specs.declared.message.header.MessageClass.{MessageClass}
use Rattle.turn_stun.specs.declared.message.header.MessageClass.TheVariants.{Request, Indication, Success, Error}
use Rattle.turn_agent.specs.Agent.{is_outstanding}
use Rattle.turn_client_api.specs.Grants.{purposes_of}
use Rattle.turn_client_api.specs.Requests.{connection_attempt_method, data_method}
use Rattle.turn_client_api.specs.Retry.{retried}
use Rattle.turn_client_api.specs.State.{State}
use Rattle.turn_client_api.specs.declared.state.Phase.{Phase}
use Rattle.turn_client_api.specs.declared.state.Phase.TheVariants.{Allocated}

-- To a client with an allocation: a request or an indication that is not for clients, and a response to no
-- outstanding request. An error with an ID that is not listed either may still be the challenge that is one
-- too many.
abbrev pub is_ignored_unread : MessageClass → ℕ → ℕ → State → Bool
is_ignored_unread class method id s = by s.phase class
  where
    by : Phase → MessageClass → Bool
    by Allocated Request = not (method == connection_attempt_method)
    by Allocated Indication = not ((method == data_method) || (method == connection_attempt_method))
    by Allocated Success = not (is_outstanding id s.transactions)
    by Allocated Error = not (is_outstanding id s.transactions) && not (is_some (retried (purposes_of id s))) && nat_lt s.challenges s.config.max_stale_nonces
    by _ _ = false

-- a DATA indication, to a client with an allocation
abbrev pub indicates_data : Phase → MessageClass → ℕ → Bool
indicates_data Allocated Indication method = method == data_method
indicates_data _ _ method = false
