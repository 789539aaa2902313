use Rattle.std.proofs.Common.{◌≡◌, ℕ, ap, subst}
use Rattle.turn_session.specs.Due.{IsNext}
use Rattle.turn_session.specs.SessionState.{SessionState}
use Rattle.turn_session.specs.declared.due.Due.{Due}
use Rattle.turn_relay_lives.specs.LifeSteps.{LiveNext}
use Rattle.turn_relay_lives.specs.LiveState.{LiveState, due_after}
use Rattle.turn_relay_lives.proofs.live.Live.next.Goals as goal

next-of : (now : ℕ) (inside was : LiveState) (s : SessionState) (due : Due) (time : ℕ) → inside ≡ was → IsNext now inside.session s due
    → time ≡ due_after due inside.due → LiveNext now was (record { link = inside.link; due = time; session = s }) due
next-of now inside was s due time same next after =
    subst (λ (u : LiveState). LiveNext now u (record { link = inside.link; due = time; session = s }) due) same
    (s, next, ap (λ (t : ℕ). record { link = inside.link; due = t; session = s }) after)

pub returns-clause-due : goal.returns-clause-due
returns-clause-due g c =
    next-of c.args.now _ _ c.next.new.self c.in_ok-due.due c.due_after-self-inside.result c.self.view_is c.in_ok-due.ensures.due
    c.due_after-self-inside.ensures
