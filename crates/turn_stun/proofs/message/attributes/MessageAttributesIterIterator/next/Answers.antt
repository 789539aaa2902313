use Rattle.std.proofs.Common.{◌≡◌, length, sym, ap, ◌∙◌, arith}
use Rattle.turn_stun.specs.Attributes.{seen_after}
use Rattle.turn_stun.specs.Iterator.{attributes_left}
use Rattle.turn_stun.proofs.SeenLemmas.{seen_after-seen, seen_after-unseen, seen_after-nil}
use Rattle.turn_stun.proofs.message.attributes.MessageAttributesIterIterator.next.Goals as goal

pub returns-then-seen-clause-steps : goal.returns-then-seen-clause-steps
returns-then-seen-clause-steps c =
    let before = c.loop-offset.self.before in
    rw (c.behind-self.ensures.any, c.behind-self.ensures.sha256)
    (sym c.loop-offset.invariant
    ∙ (ap (seen_after before.any before.sha256) c.in-Some.ensures.steps
    ∙ seen_after-seen before.any before.sha256 _ _ (sym c.if-seen.ensures)))

pub loop-offset-preserved : goal.loop-offset-preserved
loop-offset-preserved c =
    let before = c.loop-offset.self.before in
    rw (c.behind-self.ensures.any, c.behind-self.ensures.sha256)
    (sym (seen_after-unseen before.any before.sha256 _ _ (sym c.if-seen.ensures))
    ∙ (sym (ap (seen_after before.any before.sha256) c.in-Some.ensures.steps)
    ∙ c.loop-offset.invariant))

pub returns-clause-steps : goal.returns-clause-steps
returns-clause-steps c =
    let before = c.loop-offset.self.before in
    let none = seen_after-nil before.any before.sha256 in (
      sym c.loop-offset.invariant ∙ (ap (seen_after before.any before.sha256) c.in_default.ensures.steps.0 ∙ none),
      ap (seen_after before.any before.sha256) c.in_default.ensures.steps.1 ∙ none,
    )

pub returns-then-seen-clause-goes : goal.returns-then-seen-clause-goes
returns-then-seen-clause-goes c =
    let before = c.loop-offset.self.before in
    let shorter : length (attributes_left c.args.self.now) ≡ _ =
    ap length (sym c.loop-offset.invariant
    ∙ (ap (seen_after before.any before.sha256) c.in-Some.ensures.steps
    ∙ seen_after-seen before.any before.sha256 _ _ (sym c.if-seen.ensures))) in
    record {
      on = λ _. (tt, tt, rw (c.behind-self.ensures.any, c.behind-self.ensures.sha256) (omega (arith, shorter)));
      keeps = tt;
      rests = λ _. tt;
    }
