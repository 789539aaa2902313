use Rattle.std.proofs.Common.{refl}
use Rattle.turn_auth.proofs.SignLemmas.{AddsAll-push, AddsAll-append, Extends-then}
use Rattle.turn_auth.proofs.signature.add_request_attributes.Goals as goal

-- each attribute was added behind those before it

pub returns-in-Sha1-clause-all : goal.returns-in-Sha1-clause-all
returns-in-Sha1-clause-all c =
    let user = rw c.realm.ensures.bytes at c.in_ok-add_user.ensures.all in
    let realm = AddsAll-push _ _ _ _ 0x0014 _ user
    c.in_ok-add.ensures.text c.in_ok-add.ensures.added c.in_ok-add.ensures.len (c.in_ok-add.ensures.plain refl) in
    let nonce = AddsAll-push _ _ _ _ 0x0015 _ realm
    c.in_ok-add-2.ensures.text c.in_ok-add-2.ensures.added c.in_ok-add-2.ensures.len (c.in_ok-add-2.ensures.plain refl) in
    rw (← c.in-Sha1.ensures) (rw (c.new.ensures, c.realm-2.ensures.bytes, c.new-2.ensures, c.nonce.ensures.bytes) at nonce)

pub returns-in_ok-add_algorithms-in-Sha256-clause-all :
    goal.returns-in_ok-add_algorithms-in-Sha256-clause-all
returns-in_ok-add_algorithms-in-Sha256-clause-all c =
    let user = rw c.realm.ensures.bytes at c.in_ok-add_user.ensures.all in
    let realm = AddsAll-push _ _ _ _ 0x0014 _ user
    c.in_ok-add.ensures.text c.in_ok-add.ensures.added c.in_ok-add.ensures.len (c.in_ok-add.ensures.plain refl) in
    let nonce = AddsAll-push _ _ _ _ 0x0015 _ realm
    c.in_ok-add-2.ensures.text c.in_ok-add-2.ensures.added c.in_ok-add-2.ensures.len (c.in_ok-add-2.ensures.plain refl) in
    let algorithms = rw c.password_algorithms.ensures.bytes at c.in_ok-add_algorithms-in-Sha256.ensures.all in
    let all = AddsAll-append _ _ _ _ _ nonce algorithms in
    rw (← c.in-Sha256.ensures) (rw (c.new.ensures, c.realm-2.ensures.bytes, c.new-2.ensures, c.nonce.ensures.bytes) at all)

pub returns-in-Sha1-clause-kept : goal.returns-in-Sha1-clause-kept
returns-in-Sha1-clause-kept c =
    Extends-then _ _ _ c.add_user.ensures.kept (Extends-then _ _ _ c.add.ensures.kept c.add-2.ensures.kept)

pub returns-in_ok-add_algorithms-in-Sha256-clause-kept :
    goal.returns-in_ok-add_algorithms-in-Sha256-clause-kept
returns-in_ok-add_algorithms-in-Sha256-clause-kept c =
    Extends-then _ _ _ c.add_user.ensures.kept
    (Extends-then _ _ _ c.add.ensures.kept (Extends-then _ _ _ c.add-2.ensures.kept c.add_algorithms.ensures.kept))

pub returns-in_err-add_user-clause-kept : goal.returns-in_err-add_user-clause-kept
returns-in_err-add_user-clause-kept c = c.add_user.ensures.kept

pub returns-in_err-add-clause-kept : goal.returns-in_err-add-clause-kept
returns-in_err-add-clause-kept c = Extends-then _ _ _ c.add_user.ensures.kept c.add.ensures.kept

pub returns-in_err-add-2-clause-kept : goal.returns-in_err-add-2-clause-kept
returns-in_err-add-2-clause-kept c =
    Extends-then _ _ _ c.add_user.ensures.kept (Extends-then _ _ _ c.add.ensures.kept c.add-2.ensures.kept)

pub returns-in_err-add_algorithms-in-Sha256-clause-kept :
    goal.returns-in_err-add_algorithms-in-Sha256-clause-kept
returns-in_err-add_algorithms-in-Sha256-clause-kept c =
    Extends-then _ _ _ c.add_user.ensures.kept
    (Extends-then _ _ _ c.add.ensures.kept (Extends-then _ _ _ c.add-2.ensures.kept c.add_algorithms.ensures.kept))
