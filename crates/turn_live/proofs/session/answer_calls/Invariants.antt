use Rattle.turn_live.proofs.TalkLemmas.{GoesOn}
use Rattle.turn_live.proofs.session.answer_calls.Given as goal

abbrev pub invariant-loop : goal.invariant-loop
invariant-loop g l =
    GoesOn l.relays (g.C.TurnClientApi.state l.fn.client) (g.C.TurnClientApi.state l.client)
    (g.R.Read.remaining l.initial.reader) (g.R.Read.remaining l.reader) (g.W.Write.contents l.initial.writer) (g.W.Write.contents l.writer)
