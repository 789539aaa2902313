-- What a client makes of a message, as the judgement that the machine makes of it.
use Rattle.std.specs.Prelude.{ℕ, if◌then◌else◌, List}
use Rattle.turn_agent.specs.Agent.{is_outstanding}
use Rattle.turn_client_api.specs.Judgement as J
use Rattle.turn_client_api.specs.Judgement.{Judgement, by_class}
use Rattle.turn_client_api.specs.State.{State}
use Rattle.turn_client_core.specs.declared.protocol.incoming.judge.Judged.{Judged}
use Rattle.turn_client_core.specs.declared.protocol.incoming.judge.Judged.TheVariants.{Unrelated, Challenged, Fatal, LateResponse, DataIndication}
use Rattle.turn_client_core.specs.declared.protocol.incoming.judge.Judged.TheVariants.{ConnectionAttempt, SignedRequest, SignedSuccess, SignedError}
use Rattle.turn_stun.specs.Message.{id_of, type_of}
use Rattle.turn_stun.specs.MessageType.{class_of}

abbrev pub judgement_in : Judged → Judgement
judgement_in Unrelated = J.Unrelated
judgement_in (Challenged challenge) = J.Challenged challenge
judgement_in Fatal = J.Fatal
judgement_in LateResponse = J.LateResponse
judgement_in DataIndication = J.DataIndication
judgement_in ConnectionAttempt = J.ConnectionAttempt
judgement_in SignedRequest = J.SignedRequest
judgement_in SignedSuccess = J.SignedSuccess
judgement_in SignedError = J.SignedError

-- what a signed message is by its class, if its request is outstanding, or else the given one
abbrev pub signed_judgement : List ℕ → State → Judgement → Judgement
signed_judgement message s otherwise =
    if is_outstanding (id_of message) s.transactions then by_class (class_of (type_of message)) else otherwise
