use Rattle.std.proofs.Common.{◌≡◌, ◌∙◌, ap, arith, false, not, refl, rules, sym, true}
use Rattle.std.specs.Duration.{as_nanos}
use Rattle.std.specs.Prelude.{None, Some, nat_le}
use Rattle.turn_client_api.specs.Due.{is_refreshable, refresh_time_by_kind}
use Rattle.turn_client_grants.specs.Lists.{with_lists}
use Rattle.turn_client_grants.proofs.DueLemmas.{due-never, due-timed}
use Rattle.turn_client_grants.proofs.due.is_refresh_due.Goals as goal

pub returns-in_default : goal.returns-in_default
returns-in_default c = λ s.
    let kind : refresh_time_by_kind (as_nanos c.args.ahead) c.args.grant.now ≡ None = search rules in
    sym (due-never (as_nanos c.args.ahead) c.args.now (with_lists c.args.grants.now c.args.listed.now s) c.args.grant.now kind)

pub returns-then-lt : goal.returns-then-lt
returns-then-lt c = λ s.
    let kind : refresh_time_by_kind (as_nanos c.args.ahead) c.args.grant.now ≡ Some c.in-Some.time = search rules in
    let early : nat_le c.in-Some.time c.args.now ≡ false = grind (arith, c.if-lt.true, c.lt.ensures) in
    let t = with_lists c.args.grants.now c.args.listed.now s in
    sym (due-timed (as_nanos c.args.ahead) c.args.now t c.args.grant.now c.in-Some.time kind ∙ rw early refl)

pub returns-then-is_in_use : goal.returns-then-is_in_use
returns-then-is_in_use c = λ s.
    let kind : refresh_time_by_kind (as_nanos c.args.ahead) c.args.grant.now ≡ Some c.in-Some.time = search rules in
    let due : nat_le c.in-Some.time c.args.now ≡ true = grind (arith, c.if-lt.false, c.lt.ensures) in
    let t = with_lists c.args.grants.now c.args.listed.now s in
    let used : is_refreshable c.args.grant.now t ≡ true = sym (c.is_in_use.ensures s) ∙ c.if-is_in_use.true in
    sym (due-timed (as_nanos c.args.ahead) c.args.now t c.args.grant.now c.in-Some.time kind ∙ rw (due, used) (ap not (sym c.has_request.ensures)))

pub returns-else-is_in_use : goal.returns-else-is_in_use
returns-else-is_in_use c = λ s.
    let kind : refresh_time_by_kind (as_nanos c.args.ahead) c.args.grant.now ≡ Some c.in-Some.time = search rules in
    let due : nat_le c.in-Some.time c.args.now ≡ true = grind (arith, c.if-lt.false, c.lt.ensures) in
    let t = with_lists c.args.grants.now c.args.listed.now s in
    let unused : is_refreshable c.args.grant.now t ≡ false = sym (c.is_in_use.ensures s) ∙ c.if-is_in_use.false in
    sym (due-timed (as_nanos c.args.ahead) c.args.now t c.args.grant.now c.in-Some.time kind ∙ rw (due, unused) (sym c.if-is_in_use.false))
