-- The answers of a client to calls, as text.
use Rattle.std.specs.Prelude.{ℕ, List}
use Rattle.turn_client_api.specs.declared.call.Call.{Call}
use Rattle.turn_client_calls.specs.Run.{run}
use Rattle.turn_lines.specs.Text.{answers_text}
use Rattle.turn_lines.specs.declared.head.Head.{Head}
use Rattle.turn_line_client.specs.Client.{config_of}

-- one line for each answer of the client
abbrev pub answered_text : Head → List Call → List ℕ
answered_text head calls =
    answers_text (run head.ends.transport head.ends.local head.ends.remote (config_of head) head.seed calls).0
