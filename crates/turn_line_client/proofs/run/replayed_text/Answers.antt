use Rattle.std.proofs.Common.{◌≡◌, IfOk, List, ap, subst, ◌∙◌, string_bytes}
use Rattle.turn_client_calls.specs.Run.{run}
use Rattle.turn_client_calls.specs.declared.reply.Reply.{Reply}
use Rattle.turn_lines.specs.Text.{answers_text}
use Rattle.turn_line_client.specs.Client.{config_of}
use Rattle.turn_line_client.proofs.run.replayed_text.Goals as goal

pub returns : goal.returns
returns c =
    let head = c.args.head in
    let config = config_of head in
    let same : c.as_slice.result.now ≡ (run head.ends.transport head.ends.local head.ends.remote config head.seed c.args.calls.now).0 =
    c.as_slice.ensures.value
    ∙ c.in_ok-replayed.ensures.replies
    ∙ ap (λ configured. (run head.ends.transport head.ends.local head.ends.remote configured head.seed c.args.calls.now).0) c.timed_configuration-config.ensures in
    subst (λ (replies : List Reply). IfOk c.answers_text-text.result (λ text. string_bytes text ≡ answers_text replies)) same c.answers_text-text.ensures
