use Rattle.std.proofs.Common.{◌≡◌, ◌∙◌, ◌-◌, ◌<◌, ap, arith, drop, false, length, suc, sym}
use Rattle.std.specs.Prelude.{Some, slice_index_or}
use Rattle.std.proofs.lemmas.List.{get_or_default, length-map}
use Rattle.std.specs.List.{list_any}
use Rattle.turn_client_grants.specs.Chains.{bucket_of}
use Rattle.turn_client_grants.specs.Keys.{is_found_by, key_like}
use Rattle.turn_client_grants.proofs.ChainLemmas.{find-none, seek-first, seek-found, seek-next}
use Rattle.turn_client_grants.proofs.chains.Chains.find.Goals as goal

pub rows-init : goal.rows-init
rows-init c =
    let hs = c.args.self.now.heads.items in
    let key = c.args.key.now in
    let count : c.len.result ≡ length hs = omega (arith, c.len.ensures) in
    let same : c.bucket_of.result ≡ bucket_of (length hs) key = c.bucket_of.ensures.value ∙ ap (λ n. bucket_of n key) count in
    let within : bucket_of (length hs) key < length hs = omega (arith, same, count, c.bucket_of.ensures.within) in
    seek-first hs c.args.self.now.links.items c.args.grants.now key c.index-at.result.now c.requires.chained within
    (c.index-at.ensures ∙ (ap (λ n. slice_index_or hs n c.index-at.result.now) same ∙ get_or_default hs (bucket_of (length hs) key) c.index-at.result.now 0 within))

pub rows-smaller : goal.rows-smaller
rows-smaller c =
    let is : c.rows.at ≡ suc (c.rows.at - 1) = omega (arith, c.rows-test.true) in
    (seek-next _ c.args.self.now.links.items c.args.grants.now c.args.key.now (c.rows.at - 1) c.rows.at c.index-at-in-rows.result.now c.index-grants-at.result c.requires.chained c.rows.invariant is
    (ap (is_found_by c.args.key.now) (sym c.index-grants-at.is) ∙ (sym c.finds.ensures ∙ c.if-finds.false))
    (c.index-at-in-rows.ensures ∙ get_or_default c.args.self.now.links.items (c.rows.at - 1) c.index-at-in-rows.result.now 0
    (omega (arith, is, c.rows.invariant.within, c.requires.chained.count, length-map c.args.grants.now (key_like c.args.key.now))))).1

pub rows-preserved : goal.rows-preserved
rows-preserved c =
    let is : c.rows.at ≡ suc (c.rows.at - 1) = omega (arith, c.rows-test.true) in
    (seek-next _ c.args.self.now.links.items c.args.grants.now c.args.key.now (c.rows.at - 1) c.rows.at c.index-at-in-rows.result.now c.index-grants-at.result c.requires.chained c.rows.invariant is
    (ap (is_found_by c.args.key.now) (sym c.index-grants-at.is) ∙ (sym c.finds.ensures ∙ c.if-finds.false))
    (c.index-at-in-rows.ensures ∙ get_or_default c.args.self.now.links.items (c.rows.at - 1) c.index-at-in-rows.result.now 0
    (omega (arith, is, c.rows.invariant.within, c.requires.chained.count, length-map c.args.grants.now (key_like c.args.key.now))))).0

pub returns-then-finds : goal.returns-then-finds
returns-then-finds c =
    let is : c.rows.at ≡ suc (c.rows.at - 1) = omega (arith, c.rows-test.true) in
    ap Some c.index-grants-at.is
    ∙ sym (seek-found _ c.args.grants.now c.args.key.now (c.rows.at - 1) c.rows.at c.index-grants-at.result c.rows.invariant is c.requires.alone
    (ap (is_found_by c.args.key.now) (sym c.index-grants-at.is) ∙ (sym c.finds.ensures ∙ c.if-finds.true)))

pub returns : goal.returns
returns c =
    let none : list_any (is_found_by c.args.key.now) (drop 0 c.args.grants.now) ≡ false = rw c.rows-test.false at c.rows.invariant.none in
    sym (find-none (is_found_by c.args.key.now) c.args.grants.now none)
