use Rattle.std.proofs.Common.{◌≡◌, ℕ, List, Some, ap, subst, ◌∙◌, inr}
use Rattle.std.specs.Io.BufRead.{strip_last}
use Rattle.turn_session.specs.SessionState.{SessionState, new_session}
use Rattle.turn_session_lines.specs.Head.{described_in, session_head_of}
use Rattle.turn_session_live.specs.Program.{Talks}
use Rattle.turn_session_live.proofs.HeadLemmas.{made_session}
use Rattle.turn_session_live.proofs.program.answer_all.Goals as goal

pub new_client-requires : goal.new_client-requires
new_client-requires g c = record { allocation = made_session c.without_feed.result.now (described_in c.in_ok-head.head) c.in_ok-head.ensures }

pub returns-in-Ok : goal.returns-in-Ok
returns-in-Ok g c =
    let second = g.R.Read.remaining c.take_line.new.reader in
    let third = g.R.Read.remaining c.answer_calls.new.reader in
    let old = g.W.Write.contents c.args.writer.now in
    let new = g.W.Write.contents c.answer_calls.new.writer in
    let head = c.in_ok-head.head in
    let line = c.in_ok-line.line.items in
    let text : c.without_feed.result.now ≡ strip_last 10 line = c.without_feed.ensures ∙ ap (strip_last 10) c.deref.ensures.value in
    let says = subst (λ (read : List ℕ). session_head_of read ≡ Some (described_in head)) text c.in_ok-head.ensures in
    let begun = c.new-session.ensures ∙ ap (new_session head.settings head.seed 0) c.in-Ok.ensures in
    let talks = subst (λ (s : SessionState). Talks s second third old new c.answer_calls.result) begun c.answer_calls.ensures in
    inr (line, second, c.in_ok-line.ensures, inr (head, says, talks))
