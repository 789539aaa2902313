use Rattle.std.proofs.Common.{◌≡◌, ◌∙◌, ℕ, List, ap, subst}
use Rattle.turn_client_core.specs.ProtocolRecv.{IsPart, IsRangeWithin, outcome_in}
use Rattle.turn_client_tcp.specs.Origins.{carried_step}
use Rattle.turn_client_tcp.specs.StreamSteps.{bytes_in_range, left_by}
use Rattle.turn_client_tcp.specs.contracts.protocol.TurnClientTcpProtocol.{the_view}
use Rattle.turn_client_tcp.proofs.PieceLemmas.{lent-outcome, part-IsWithin}
use Rattle.turn_client_tcp.proofs.protocol.TurnClientTcpProtocol.lent_frame.Goals as goal

pub returns-clause-answer : goal.returns-clause-answer
returns-clause-answer g c =
    let bytes : List ℕ = g.T.AsSlice.items c.args.transmit.payload in
    let frame : List ℕ = bytes_in_range bytes c.args.place in
    let reported = c.in_ok-reported.reported in
    let part : IsPart frame c.args.self.now c.frame.new.self reported =
    subst (λ (xs : List ℕ). IsPart (bytes_in_range xs c.args.place) c.args.self.now c.frame.new.self reported) c.as_slice.ensures c.in_ok-reported.ensures.part in
    let answer : outcome_in frame reported ≡ (carried_step c.args.origin frame c.args.now c.args.self.now).0 =
    subst (λ (xs : List ℕ). outcome_in (bytes_in_range xs c.args.place) reported ≡ (carried_step c.args.origin
    (bytes_in_range xs c.args.place) c.args.now c.args.self.now).0) c.as_slice.ensures c.in_ok-reported.ensures.answer in
    let within : IsRangeWithin frame reported = part-IsWithin frame c.args.self.now c.frame.new.self reported part in
    c.lent.ensures.outcome ∙ (lent-outcome bytes c.args.place reported c.requires.front c.requires.inside within ∙ answer)

pub returns-clause-after : goal.returns-clause-after
returns-clause-after g c =
    let bytes : List ℕ = g.T.AsSlice.items c.args.transmit.payload in
    let after : c.frame.new.self ≡ (carried_step c.args.origin (bytes_in_range bytes c.args.place) c.args.now c.args.self.now).1 =
    subst (λ (xs : List ℕ). c.frame.new.self ≡ (carried_step c.args.origin (bytes_in_range xs c.args.place) c.args.now c.args.self.now).1) c.as_slice.ensures c.in_ok-reported.ensures.after in
    c.put.ensures (the_view c.self.inside) ∙ ap (left_by c.args.stream) (c.self.view_is ∙ after)
