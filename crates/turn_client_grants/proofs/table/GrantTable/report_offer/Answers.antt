use Rattle.std.proofs.Common.{arith, refl}
use Rattle.std.specs.Prelude.{vec_len}
use Rattle.turn_client_grants.specs.Kept.{links_room}
use Rattle.turn_client_grants.proofs.IndexRoomLemmas.{room-few}
use Rattle.turn_client_grants.proofs.OfferLemmas.{kept-reported}
use Rattle.turn_client_grants.proofs.KeyLemmas.{alone-reported}
use Rattle.turn_client_grants.proofs.PlacedLemmas.{led-reported}
use Rattle.turn_client_grants.proofs.table.GrantTable.report_offer.Goals as goal

pub invariant_of-self : goal.invariant_of-self
invariant_of-self c =
    let rows = c.self.inside.grants.items in
    let made = c.self.inside.index.is_made in
    record {
      table = rw c.report_first.ensures.items (kept-reported _ _ _ c.self.invariant.table);
      found = rw c.report_first.ensures.items (alone-reported c.args.family rows c.self.invariant.found);
      led = rw c.report_first.ensures.items (led-reported c.self.inside.index c.args.family rows c.self.invariant.led);
      few = λ none. omega (arith, room-few made made 0 (vec_len c.self.inside.grants) (vec_len c.report_first.new.grants) (links_room c.self.inside.index) refl (omega (arith, c.report_first.ensures.len)) (omega arith) (λ off. omega (arith, c.self.invariant.few off)) none);
      summed = rw (c.as_slice.ensures.value, c.as_slice-2.ensures.value) at c.summary_of-self-inside.ensures;
    }
