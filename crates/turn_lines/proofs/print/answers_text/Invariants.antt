use Rattle.std.proofs.Common.{◌≡◌, take, string_bytes}
use Rattle.turn_lines.specs.Text.{answers_text}
use Rattle.turn_lines.proofs.print.answers_text.Given as goal

abbrev pub invariant-loop-reply : goal.invariant-loop-reply
invariant-loop-reply l = string_bytes l.text ≡ answers_text (take l.reply-index l.replies)
