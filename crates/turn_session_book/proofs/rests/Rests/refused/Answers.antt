use Rattle.std.proofs.Common.{◌≡◌, ◌+◌, ◌-◌, ◌*◌, ◌^◌, ◌<◌, ◌≤◌, List, min, length, sym, ap, ◌∙◌, subst, arith}
use Rattle.std.specs.Prelude.{remove}
use Rattle.std.proofs.lemmas.Grind.{common_steps}
use Rattle.turn_session_book.specs.Once.{AreRests, StandOnce, rest_key}
use Rattle.turn_session_book.specs.Rests.{after_refusal}
use Rattle.turn_session_book.specs.declared.rests.Rest.{Rest}
use Rattle.turn_session_book.proofs.OnceLemmas.{after_refusal-once}
use Rattle.turn_session_book.proofs.RestLemmas.{after_refusal-again, after_refusal-few, after_refusal-first, after_refusal-full, rest_with-unknown}
use Rattle.turn_session_book.proofs.rests.Rests.refused.Goals as goal
use Rattle.turn_session_book.proofs.rests.Rests.refused.Goals.{in-Some, in-None+then-len-lt-MAX_RESTS+in_ok-reserve-in-None, in-None+else-len-lt-MAX_RESTS}

pub returns-in_err-reserve-in-None-clause-free_again : goal.returns-in_err-reserve-in-None-clause-free_again
returns-in_err-reserve-in-None-clause-free_again c =
    λ known. absurd (rest_with-unknown c.args.key c.args.self.now (sym c.in-None.ensures) known)

pub returns-clause-ok : goal.returns-clause-ok
returns-clause-ok c =
    let rests = c.args.self.now in
    let wait = c.match-place_of.wait in
    let are : AreRests rests = rw (← c.self.view_is) c.self.invariant in
    let few : length rests ≤ 4096 = are.few in
    let until : c.plus.result ≡ min (c.args.now + wait) (2 ^ 63 - 1) = rw (← c.from_nanos.ensures) c.plus.ensures in
    c.push_reserved.ensures.items ∙ (elim c.match-place_of.branch [
      | in-Some w ↦
          let left : c.match-place_of.self-inside.rests.items ≡ remove rests w.in-Some.place = rw (w.self-inside-is, ← c.self.view_is) w.remove-before.ensures.items in
          let doubled : wait ≡ min (2 * w.remove-before.result.wait) 80_000_000_000 = omega (arith, w.wait-is, w.min-wait.ensures, w.saturating_mul.ensures) in
          after_refusal-again _ _ _ rests _ w.in-Some.place w.remove-before.result _ _ (sym w.in-Some.ensures)
          (rw (← c.self.view_is) w.remove-before.ensures.value) left few doubled until
      | in-None+then-len-lt-MAX_RESTS+in_ok-reserve-in-None w ↦
          let left : c.match-place_of.self-inside.rests.items ≡ rests = rw (w.self-inside-is, ← c.self.view_is) w.reserve.ensures.items in
          let room : length rests < 4096 = first_of (omega (arith, w.if-len-lt-MAX_RESTS.true, w.len.ensures, ap length c.self.view_is), grind (arith, common_steps, w.len.ensures)) in
          after_refusal-first _ _ _ rests _ _ _ (sym w.in-None.ensures) left room w.wait-is until
      | in-None+else-len-lt-MAX_RESTS w ↦
          let left : c.match-place_of.self-inside.rests.items ≡ remove rests 0 = rw (w.self-inside-is, ← c.self.view_is) w.remove-oldest.ensures.items in
          let full : length rests ≡ 4096 = first_of (omega (arith, few, w.if-len-lt-MAX_RESTS.false, w.len.ensures, ap length c.self.view_is), grind (arith, common_steps, w.len.ensures)) in
          after_refusal-full _ _ _ rests _ _ _ (sym w.in-None.ensures) left full w.wait-is until
    ])

pub returns-clause-once : goal.returns-clause-once
returns-clause-once c =
    let rests = c.args.self.now in
    let are : AreRests rests = rw (← c.self.view_is) c.self.invariant in
    let once : StandOnce rest_key (after_refusal c.args.key c.args.error c.args.now rests) = after_refusal-once c.args.key c.args.error c.args.now rests are.once in
    subst (StandOnce rest_key) (sym (returns-clause-ok c)) once

pub invariant_of-self-2 : goal.invariant_of-self-2
invariant_of-self-2 c =
    let few : length c.push_reserved.new.self.items ≤ 4096 =
    subst (λ (rests : List Rest). length rests ≤ 4096) (sym (returns-clause-ok c)) (after_refusal-few c.args.key c.args.error c.args.now c.args.self.now) in
    record { few = few; once = returns-clause-once c }
