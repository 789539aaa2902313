use Rattle.std.proofs.Common.{◌≡◌, ◌∙◌, ap, arith, not, refl, sym}
use Rattle.std.specs.Prelude.{None, is_some, vec_len}
use Rattle.turn_client_grants.specs.Kept.{links_room}
use Rattle.turn_client_grants.specs.Index.{scan}
use Rattle.turn_client_grants.specs.Keys.{is_found_by}
use Rattle.turn_client_grants.specs.Table.{Table, unlisted_in}
use Rattle.turn_client_grants.proofs.IndexRoomLemmas.{room-few, room-left}
use Rattle.turn_client_grants.proofs.KeptLemmas.{unlisted-absent}
use Rattle.turn_client_grants.proofs.TableLemmas.{kept-changed, kept-unlisted}
use Rattle.turn_client_grants.proofs.KeyLemmas.{alone-changed, unlisted-one}
use Rattle.turn_client_grants.proofs.PlacedLemmas.{led-changed}
use Rattle.turn_client_grants.proofs.IndexLemmas.{any-by_index}
use Rattle.turn_client_grants.proofs.FoundLemmas.{none-changed}
use Rattle.turn_client_grants.proofs.table.GrantTable.change_one.Goals as goal

pub returns-in_default-clause-grants : goal.returns-in_default-clause-grants
returns-in_default-clause-grants c =
    let rows = c.self.inside.grants.items in
    let find = scan is_found_by c.self.inside.grants.items in
    let found : find c.args.key.now ≡ None = rw c.as_slice.ensures.value at (sym c.find.ensures ∙ c.in_default.is) in
    rw (← c.self.view_is)
    (none-changed c.args.change.now c.args.key.now c.requires rows (any-by_index is_found_by find rows c.args.key.now c.self.invariant.found ∙ ap is_some found))

pub returns-in_default-clause-listed : goal.returns-in_default-clause-listed
returns-in_default-clause-listed c =
    let rows = c.self.inside.grants.items in
    let find = scan is_found_by c.self.inside.grants.items in
    let found : find c.args.key.now ≡ None = rw c.as_slice.ensures.value at (sym c.find.ensures ∙ c.in_default.is) in
    rw (← c.self.view_is)
    (sym (unlisted-absent (is_found_by c.args.key.now) rows c.self.inside.listed.items
    (ap not (any-by_index is_found_by find rows c.args.key.now c.self.invariant.found ∙ ap is_some found))))

pub invariant_of-self : goal.invariant_of-self
invariant_of-self c =
    let rows = c.self.inside.grants.items in
    let made = c.self.inside.index.is_made in
    let find = scan is_found_by c.self.inside.grants.items in
    let found = rw c.as_slice.ensures.value at (sym c.find.ensures ∙ c.in-Some.is) in
    record {
      table = rw (c.apply_to.ensures.items, c.unlist_one.ensures.items) (kept-changed _ _ c.args.change.now (kept-unlisted _ _ _ c.self.invariant.table));
      found = rw c.apply_to.ensures.items (alone-changed c.args.change.now rows c.self.invariant.found);
      led = rw c.apply_to.ensures.items (led-changed c.self.inside.index c.args.change.now rows c.self.invariant.led);
      few = λ none. omega (
        arith,
        room-few made c.self.inside.index.is_made 0 (vec_len c.self.inside.grants) (vec_len c.apply_to.new.grants) (links_room c.self.inside.index) refl
            (omega (arith, c.apply_to.ensures.len)) (omega arith) (λ off. omega (arith, c.self.invariant.few off)) none,
      );
      summed = rw (c.as_slice-2.ensures.value, c.as_slice-3.ensures.value) at c.summary_of-self-inside.ensures;
    }

pub returns-clause-listed : goal.returns-clause-listed
returns-clause-listed c =
    let rows = c.self.inside.grants.items in
    let find = scan is_found_by c.self.inside.grants.items in
    let found = rw c.as_slice.ensures.value at (sym c.find.ensures ∙ c.in-Some.is) in
    c.unlist_one.ensures.items
    ∙ (unlisted-one rows c.self.inside.listed.items find c.args.key.now c.in-Some.old c.self.invariant.found found
    ∙ ap (λ (t : Table). unlisted_in (is_found_by c.args.key.now) t.grants t.listed) c.self.view_is)

pub returns-clause-grant_room : goal.returns-clause-grant_room
returns-clause-grant_room c =
    rw (← c.self.view_is)
    (omega (
      arith,
      c.apply_to.ensures.capacity,
      c.apply_to.ensures.len,
      room-left c.self.inside.index.is_made c.self.inside.index.is_made 0 (vec_len c.self.inside.grants)
          (vec_len c.apply_to.new.grants) (links_room c.self.inside.index) (links_room c.self.inside.index) refl
          (omega (arith, c.apply_to.ensures.len)) (omega arith),
    ))
