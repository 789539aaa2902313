-- Why a client refuses a connection that the server offers (RFC 8489, section 14.8, and RFC 6062, section
-- 6.3).
use Rattle.std.specs.Prelude.{ℕ, List, codes}
use Rattle.turn_client_api.specs.Requests.{bad_request, connection_already_exists, connection_timed_out}
use Rattle.turn_client_requests.specs.declared.reply.AttemptRefusal.{AttemptRefusal}
use Rattle.turn_client_requests.specs.declared.reply.AttemptRefusal.TheVariants.{BadRequest, ConnectionAlreadyExists, ConnectionTimeoutOrFailure}

abbrev pub code_of : AttemptRefusal → ℕ
code_of BadRequest = bad_request
code_of ConnectionAlreadyExists = connection_already_exists
code_of ConnectionTimeoutOrFailure = connection_timed_out

abbrev pub reason_of : AttemptRefusal → List ℕ
reason_of BadRequest = codes "Bad Request"
reason_of ConnectionAlreadyExists = codes "Connection Already Exists"
reason_of ConnectionTimeoutOrFailure = codes "Connection Timeout or Failure"
