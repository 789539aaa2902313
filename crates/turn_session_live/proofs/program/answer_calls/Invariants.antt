use Rattle.turn_session_live.proofs.TalkLemmas.{Came}
use Rattle.turn_session_live.proofs.program.answer_calls.Given as goal

abbrev pub invariant-loop-number : goal.invariant-loop-number
invariant-loop-number g l =
    Came l.number l.fn.session l.session
    (g.R.Read.remaining l.initial.reader) (g.R.Read.remaining l.reader) (g.W.Write.contents l.initial.writer) (g.W.Write.contents l.writer)
