use Rattle.turn_driver.proofs.EndedLemmas.{restful-ended, restful-now}
use Rattle.turn_driver.proofs.next.poll.Goals as goal

pub returns-else-lt-clause-restful : goal.returns-else-lt-clause-restful
returns-else-lt-clause-restful g c = restful-now _ c.args.now (g.C.TurnClientApi.state c.poll.new.self) _ c.what_waits.ensures.answer c.what_waits.ensures.after

pub returns-in-Closed-clause-restful : goal.returns-in-Closed-clause-restful
returns-in-Closed-clause-restful g c = restful-ended _ c.args.now (g.C.TurnClientApi.state c.poll.new.self) _ c.what_waits-in-Closed.ensures.answer c.what_waits-in-Closed.ensures.after
