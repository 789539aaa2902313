use Rattle.std.proofs.Common.{rules, ◌≡◌, Some, is_some, true}
use Rattle.turn_auth.specs.Challenge.{denial_in}
use Rattle.turn_auth.proofs.long_term.LongTermClientAuth.read_challenge.Goals as goal
use Rattle.turn_stun.specs.Read.{value_in}

pub returns-in-Some-clause-exact : goal.returns-in-Some-clause-exact
returns-in-Some-clause-exact c =
    let known : is_some c.self.inside.credentials ≡ true = search rules in
    let denied : denial_in c.args.message.now ≡ Some c.in_ok-denial.denial = search rules in
    rw (← c.self.view_is, known, denied, c.in-Some.is) (c.later.ensures.exact c.self.inside.supported.items (value_in 0x8002 c.args.message.now))
