use Rattle.std.proofs.Common.{◌≡◌, ◌≤◌, ◌<◌, ◌-◌, ◌∙◌, ap, arith, length, sym}
use Rattle.turn_client_grants.specs.Keys.{is_found_by}
use Rattle.turn_client_grants.proofs.PlacedLemmas.{last-left, others-of, others-of-none}
use Rattle.turn_client_grants.proofs.changes.count_before_found.Goals as goal

pub returns-then-finds-clause-left : goal.returns-then-finds-clause-left
returns-then-finds-clause-left c =
    let within : c.rows.place - 1 < length c.args.grants.now = omega (arith, c.rows.invariant.within, c.rows-test.true) in
    let before : c.rows.place - 1 ≤ length c.args.grants.now = omega (arith, within) in
    let passes = ap (is_found_by c.args.key.now) (sym c.index-grants-place.is) ∙ (sym c.finds.ensures ∙ c.if-finds.true) in
    (before, last-left (is_found_by c.args.key.now) c.args.grants.now (c.rows.place - 1) c.index-grants-place.result c.requires.alone within passes)

pub returns-then-finds-clause-others : goal.returns-then-finds-clause-others
returns-then-finds-clause-others c =
    let within : c.rows.place - 1 < length c.args.grants.now = omega (arith, c.rows.invariant.within, c.rows-test.true) in
    let passes = ap (is_found_by c.args.key.now) (sym c.index-grants-place.is) ∙ (sym c.finds.ensures ∙ c.if-finds.true) in
    others-of (is_found_by c.args.key.now) c.args.grants.now (c.rows.place - 1) c.index-grants-place.result c.requires.alone within passes

pub returns-clause-others : goal.returns-clause-others
returns-clause-others c =
    let start : c.rows.place ≡ 0 = omega (arith, c.rows-test.false) in
    others-of-none (is_found_by c.args.key.now) c.args.grants.now (rw start at c.rows.invariant.none)
