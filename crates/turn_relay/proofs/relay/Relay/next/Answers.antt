use Rattle.std.proofs.Common.{◌≡◌, None}
use Rattle.turn_session.proofs.FramingLemmas.{on-err, on-ok}
use Rattle.turn_relay.proofs.NextLemmas.{does-later, lives-later, next-does, next-lives}
use Rattle.turn_relay.proofs.relay.Relay.next.Goals as goal

pub returns-in-Some-job-clause-due : goal.returns-in-Some-job-clause-due
returns-in-Some-job-clause-due g c =
    let quiet : c.args.self.now.report ≡ None = rw (← c.self.view_is) c.in_default.is in
    on-ok c.do_job.result c.do_job.ensures.due
    (λ due same. next-does c.args.now c.args.self.now _ quiet c.in-Some-job.job due (rw (← c.self.view_is) c.in-Some-job.is) same)

pub returns-in-Some-job-clause-no_memory : goal.returns-in-Some-job-clause-no_memory
returns-in-Some-job-clause-no_memory g c =
    let quiet : c.args.self.now.report ≡ None = rw (← c.self.view_is) c.in_default.is in
    on-err c.do_job.result c.do_job.ensures.no_memory
    (λ later. does-later c.args.now c.args.self.now _ quiet c.in-Some-job.job (rw (← c.self.view_is) c.in-Some-job.is) later)

pub returns-in-None-clause-due : goal.returns-in-None-clause-due
returns-in-None-clause-due g c =
    let quiet : c.args.self.now.report ≡ None = rw (← c.self.view_is) c.in_default.is in
    on-ok c.next_of_lives.result c.next_of_lives.ensures.due
    (λ due leads. next-lives c.args.now c.args.self.now _ quiet due (rw (← c.self.view_is) c.in-None.is) leads)

pub returns-in-None-clause-no_memory : goal.returns-in-None-clause-no_memory
returns-in-None-clause-no_memory g c =
    let quiet : c.args.self.now.report ≡ None = rw (← c.self.view_is) c.in_default.is in
    on-err c.next_of_lives.result c.next_of_lives.ensures.no_memory
    (λ later. lives-later c.args.now c.args.self.now _ quiet (rw (← c.self.view_is) c.in-None.is) later)
