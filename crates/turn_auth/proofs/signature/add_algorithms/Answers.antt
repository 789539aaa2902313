use Rattle.std.proofs.Common.{◌≡◌, ℕ, List, Some, true, is_some, refl}
use Rattle.turn_stun.specs.Message.{attributes_from}
use Rattle.turn_stun.specs.Values.{password_algorithms_of}
use Rattle.turn_auth.proofs.SignLemmas.{AddsAll-none, AddsAll-push, Extends-then}
use Rattle.turn_auth.proofs.signature.add_algorithms.Goals as goal

-- whole attributes are taken as they are
taken : (offered value : List ℕ) → is_some (attributes_from 0 0 offered) ≡ true → password_algorithms_of offered ≡ Some value → value ≡ offered
taken offered value whole is = let e = rw whole at is in cc

pub returns-clause-all : goal.returns-clause-all
returns-clause-all c =
    let offered = AddsAll-push _ _ _ _ 0x8002 _ (AddsAll-none c.args.message.now)
    c.in_ok-add.ensures.text c.in_ok-add.ensures.added c.in_ok-add.ensures.len (c.in_ok-add.ensures.plain refl) in
    let all = AddsAll-push _ _ _ _ 0x001d _ offered
    c.in_ok-add-2.ensures.text c.in_ok-add-2.ensures.added c.in_ok-add-2.ensures.len (c.in_ok-add-2.ensures.plain refl) in
    rw (taken c.args.offered.now c.unwrap.result c.requires.whole (rw c.from_bytes.ensures at c.unwrap.ensures)) at all

pub returns-in_err-add-clause-kept : goal.returns-in_err-add-clause-kept
returns-in_err-add-clause-kept c = c.add.ensures.kept

pub returns-in_err-add-2-clause-kept : goal.returns-in_err-add-2-clause-kept
returns-in_err-add-2-clause-kept c = Extends-then _ _ _ c.add.ensures.kept c.add-2.ensures.kept

pub returns-clause-kept : goal.returns-clause-kept
returns-clause-kept c = Extends-then _ _ _ c.add.ensures.kept c.add-2.ensures.kept
