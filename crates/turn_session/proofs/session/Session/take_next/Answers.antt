use Rattle.std.proofs.Common.{ap}
use Rattle.std.specs.Prelude.{option_map}
use Rattle.turn_client_api.specs.Answers.{given_payload}
use Rattle.turn_session.proofs.FramingLemmas.{on-err, taking-next-fails}
use Rattle.turn_session.proofs.session.Session.take_next.Goals as goal

pub returns-in-None-clause-no_memory : goal.returns-in-None-clause-no_memory
returns-in-None-clause-no_memory g c =
    on-err c.take_frame.result c.take_frame.ensures.no_memory
    (λ fails. taking-next-fails c.args.now c.args.self.now c.take_held.new.self c.take_frame.new.self (option_map given_payload c.in_ok-data.field-0)
    c.in_ok-data.ensures.answer (ap (option_map given_payload) c.in-None.is) c.in_ok-data.ensures.after fails)
