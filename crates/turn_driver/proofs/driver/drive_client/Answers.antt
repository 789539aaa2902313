use Rattle.turn_client_laws.proofs.Common.{◌≡◌, ◌∙◌, Vec, Global, ℕ, List, Option, Some, None, ap, inr, refl, subst, sym, IfOk, on_err_weaker}
use Rattle.turn_client_laws.proofs.Machine.{Transmit}
use Rattle.turn_driver.specs.Given.{packet_in, packet_of}
use Rattle.turn_driver.specs.Driver.{Draws, DriveState, begun, driven, drive_steps}
use Rattle.turn_driver.specs.declared.task.Task.{Task}
use Rattle.turn_driver.specs.declared.task.Rest.TheVariants.{Now}
use Rattle.turn_driver.proofs.OnTimeLemmas.{wakes-ok}
use Rattle.turn_driver.proofs.RunLemmas.{whole-ok}
use Rattle.turn_driver.proofs.driver.drive_client.Given.{Over}
use Rattle.turn_driver.proofs.driver.drive_client.Goals as goal
use Rattle.turn_driver.proofs.driver.drive_client.Goals.{in-Some+in_ok-receive, in_default}

-- the loop begins with the input
begins : (came : Option (Transmit (Vec ℕ Global))) (now : ℕ) (was is : DriveState) (packet : Option (Transmit (List ℕ))) → packet_in came ≡ packet → is ≡ begun packet now was
    → is ≡ begun (packet_in came) now was
begins came now was is packet e reported = reported ∙ sym (ap (λ packet. begun packet now was) e)

starts : (g : Over) (c : goal.After-poll_tasks g) → driven c.match-came.tasks.items Now (g.C.TurnClientApi.state c.match-came.client) ≡ begun (packet_in c.args.came) c.args.now
    (driven c.args.tasks.now.items Now (g.C.TurnClientApi.state c.args.client.now))
starts g c =
    let state = g.C.TurnClientApi.state in
    elim c.match-came.branch [
      | in-Some+in_ok-receive w ↦
          ap (λ (v : Vec Task Global). driven v.items Now (state c.match-came.client)) w.tasks-is
          ∙ (ap (λ client. driven w.receive.new.tasks.items Now (state client)) w.client-is
          ∙ begins c.args.came c.args.now _ _ (Some (packet_of w.in-Some.packet)) (ap packet_in w.in-Some.is) w.in_ok-receive.ensures.ok)
      | in_default w ↦
          ap (λ (v : Vec Task Global). driven v.items Now (state c.match-came.client)) w.tasks-is
          ∙ (ap (λ client. driven c.args.tasks.now.items Now (state client)) w.client-is
          ∙ begins c.args.came c.args.now _ _ None (ap packet_in w.in_default.is) refl)
    ]

pub returns-clause-whole : goal.returns-clause-whole
returns-clause-whole g c =
    let state = g.C.TurnClientApi.state in
    whole-ok c.poll_tasks.result (packet_in c.args.came) c.args.most c.args.now _ c.poll_tasks.new.tasks.items (state c.poll_tasks.new.client)
    (subst (λ (t : DriveState). IfOk c.poll_tasks.result (λ rest. driven c.poll_tasks.new.tasks.items rest (state c.poll_tasks.new.client) ≡ drive_steps c.args.most c.args.now t))
    (starts g c) c.poll_tasks.ensures.ok)

pub returns-clause-no_memory : goal.returns-clause-no_memory
returns-clause-no_memory g c =
    let state = g.C.TurnClientApi.state in
    on_err_weaker _ (λ draws. inr (subst (λ (t : DriveState). Draws c.args.most c.args.now t (driven c.poll_tasks.new.tasks.items Now (state c.poll_tasks.new.client)))
    (starts g c) draws)) c.poll_tasks.ensures.no_memory

pub returns-clause-on_time : goal.returns-clause-on_time
returns-clause-on_time g c = wakes-ok c.poll_tasks.result c.args.now (g.C.TurnClientApi.state c.poll_tasks.new.client) c.requires.now_in_range c.poll_tasks.ensures.restful
