use Rattle.std.proofs.Common.{◌∙◌, ap}
use Rattle.turn_session.specs.Given.{given_outcome}
use Rattle.turn_session.specs.SessionState.{SessionState}
use Rattle.turn_session.proofs.FramingLemmas.{frame-found, left-shorter, none-found, on-err, on-ok, some-mapped, taken, taking-fails}
use Rattle.turn_session.proofs.session.Session.take_frame.Goals as goal

pub returns-clause-given : goal.returns-clause-given
returns-clause-given g c =
    on-ok c.recv_first-given.result c.recv_first-given.ensures.given
    (λ given first. taken c.args.now c.args.self.now _ _ _ _ _ c.take_out-frames.ensures.frames c.take_out-frames.ensures.none_left c.put_back.ensures.after first)

pub returns-clause-none : goal.returns-clause-none
returns-clause-none g c =
    on-ok c.recv_first-given.result c.recv_first-given.ensures.none
    (λ given same. λ none. ap (λ (s : SessionState). s.noted.client) c.put_back.ensures.after
    ∙ (same none ∙ ap (λ (s : SessionState). s.noted.client) c.take_out-frames.ensures.none_left))

pub returns-clause-little : goal.returns-clause-little
returns-clause-little g c =
    on-ok c.recv_first-given.result c.recv_first-given.ensures.given
    (λ given first. λ none. c.put_back.ensures.little (none-found _ _ _ _ _ _ first (some-mapped given_outcome given ∙ none)))

pub returns-clause-smaller : goal.returns-clause-smaller
returns-clause-smaller g c =
    on-ok c.recv_first-given.result c.recv_first-given.ensures.given
    (λ given first. λ some. let found = frame-found _ _ _ _ _ _ first (some-mapped given_outcome given ∙ some) in
    left-shorter c.args.self.now c.recv_first-given.new.self c.put_back.new.self c.take_out-frames.result.stream found.0 c.take_out-frames.ensures.frames c.put_back.ensures.after found.1)

pub returns-clause-no_memory : goal.returns-clause-no_memory
returns-clause-no_memory g c =
    on-err c.recv_first-given.result c.recv_first-given.ensures.no_memory
    (taking-fails c.args.now c.args.self.now _ _ _ _ c.take_out-frames.ensures.frames c.take_out-frames.ensures.none_left c.put_back.ensures.after)
