use Rattle.std.proofs.Common.{◌≡◌, ℕ, List, Ok, Err, sym, subst, ◌∙◌}
use Rattle.std.proofs.lemmas.Result.{err_from_is_err_and}
use Rattle.turn_client_api.specs.State.{State}
use Rattle.turn_live.specs.Line.{IsTaken}
use Rattle.turn_live.specs.Lines.{calls_said, line_head}
use Rattle.turn_live.specs.Session.{ReadsHead, Talks}
use Rattle.turn_live.specs.declared.line.LineEnd.{LineEnd}
use Rattle.turn_live.proofs.CallsLemmas.{head_is_made, kept_head}
use Rattle.turn_live.proofs.StepLemmas.{head_unread}
use Rattle.turn_live.proofs.TalkLemmas.{head_alone, head_heard, head_lost, head_unheard}
use Rattle.turn_live.proofs.session.hold_session.Goals as goal

pub returns-in_err-line : goal.returns-in_err-line
returns-in_err-line g c =
    let p = err_from_is_err_and c.from_residual.result c.from_residual.ensures.1 in
    rw (p.1, p.2) (head_lost (g.R.Read.remaining c.args.reader.now) (g.R.Read.remaining c.take_line.new.reader) (g.W.Write.contents c.args.writer.now) c.in_err-line.field-0.0 c.in_err-line.ensures)

pub returns-in_err-head : goal.returns-in_err-head
returns-in_err-head g c =
    let p = err_from_is_err_and c.from_residual-in_err-head.result c.from_residual-in_err-head.ensures.1 in
    let unread = subst (λ (line : List ℕ). ReadsHead line (Err c.in_err-head.field-0.0)) c.as_slice.ensures.value c.in_err-head.ensures in
    rw (p.1, p.2) (head_unread (g.R.Read.remaining c.args.reader.now) (g.R.Read.remaining c.take_line.new.reader)
    (g.W.Write.contents c.args.writer.now) c.in_ok-line.line.items c.in_ok-line.ensures.0 c.in_ok-line.end c.in_err-head.field-0.0 c.in_ok-line.ensures.1 c.in_ok-line.ensures.2 unread)

pub new_client-requires : goal.new_client-requires
new_client-requires g c = record { allocation = head_is_made c.as_slice.result.now c.in_ok-head.head c.in_ok-head.ensures }

pub returns-in_err-client-in-Feed : goal.returns-in_err-client-in-Feed
returns-in_err-client-in-Feed g c =
    let p = err_from_is_err_and c.from_residual-in_err-client-in-Feed.result c.from_residual-in_err-client-in-Feed.ensures.1 in
    rw (p.1, p.2) (head_unheard (g.R.Read.remaining c.args.reader.now) (g.R.Read.remaining c.take_line.new.reader)
    (g.W.Write.contents c.args.writer.now) c.in_ok-line.ensures.0 c.in_ok-line.end c.in_ok-line.ensures.1)

pub returns-in-Feed : goal.returns-in-Feed
returns-in-Feed g c =
    let first = g.R.Read.remaining c.args.reader.now in
    let second = g.R.Read.remaining c.take_line.new.reader in
    let third = g.R.Read.remaining c.answer_calls.new.reader in
    let old = g.W.Write.contents c.args.writer.now in
    let new = g.W.Write.contents c.answer_calls.new.writer in
    let head = c.in_ok-head.head in
    let line = c.in_ok-line.ensures.0 in
    let taken = subst (λ (end : LineEnd). IsTaken first second line end) c.in-Feed.is c.in_ok-line.ensures.1 in
    let heard = subst (λ (text : List ℕ). line_head text ≡ Ok head) c.as_slice.ensures.value c.in_ok-head.ensures in
    let says = sym (kept_head c.in_ok-line.line.items line c.in_ok-line.ensures.2) ∙ heard in
    let talks = subst (λ (s : State). Talks (calls_said head.request.allocation s) second third old new c.answer_calls.result) c.in_ok-client-in-Feed.ensures c.answer_calls.ensures in
    head_heard first second third old new line head c.answer_calls.result taken says talks

pub returns : goal.returns
returns g c =
    let first = g.R.Read.remaining c.args.reader.now in
    let second = g.R.Read.remaining c.take_line.new.reader in
    let head = c.in_ok-head.head in
    let line = c.in_ok-line.ensures.0 in
    let taken = subst (λ (end : LineEnd). IsTaken first second line end) c.in-Input.is c.in_ok-line.ensures.1 in
    let heard = subst (λ (text : List ℕ). line_head text ≡ Ok head) c.as_slice.ensures.value c.in_ok-head.ensures in
    let says = sym (kept_head c.in_ok-line.line.items line c.in_ok-line.ensures.2) ∙ heard in
    head_alone first second (g.W.Write.contents c.args.writer.now) line head taken says
