use Rattle.std.proofs.Common.{◌≡◌, IfOk, List, subst, string_bytes}
use Rattle.turn_client_api.specs.declared.call.Call.{Call}
use Rattle.turn_line_client.specs.Answered.{answered_text}
use Rattle.turn_replay.proofs.answer.answered_text.Goals as goal

pub returns : goal.returns
returns c =
    subst (λ (calls : List Call). IfOk c.replayed_text.result (λ text. string_bytes text ≡ answered_text c.args.trace.head calls)) c.as_slice.ensures.value
    c.replayed_text.ensures
