use Rattle.turn_client_laws.proofs.Common.{◌≡◌}
use Rattle.turn_driver.specs.Driver.{drive_state, drive_steps}
use Rattle.turn_driver.proofs.driver.poll_tasks.Given as goal

abbrev pub invariant-loop : goal.invariant-loop
invariant-loop g l =
    let state = g.C.TurnClientApi.state in
    drive_steps l.counter l.now (drive_state l.fn.tasks.items (state l.fn.client)) ≡ drive_state l.tasks.items (state l.client)
