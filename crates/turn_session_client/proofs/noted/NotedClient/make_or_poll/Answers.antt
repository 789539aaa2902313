use Rattle.std.proofs.Common.{rules, ◌≡◌, Bool, false, subst}
use Rattle.turn_session_client.specs.Polling.{MadeOrPolled, next_made}
use Rattle.turn_session_client.specs.NotedState.{NotedState}
use Rattle.turn_session_client.proofs.noted.NotedClient.make_or_poll.Goals as goal

pub returns-in-Ok-false : goal.returns-in-Ok-false
returns-in-Ok-false g c =
    let none_made : (false, c.make_next.new.self) ≡ next_made c.args.now c.args.self.now = search rules in
    subst (λ (x : Bool × NotedState). MadeOrPolled c.args.now c.args.self.now x c.poll_client.new.self c.poll_client.result)
    none_made c.poll_client.ensures
