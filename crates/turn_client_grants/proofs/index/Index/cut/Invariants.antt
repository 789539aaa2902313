use Rattle.std.proofs.Common.{◌≡◌, ◌≤◌, length, take}
use Rattle.turn_client_grants.specs.Kept.{IsPlaced, links_room}
use Rattle.turn_client_grants.proofs.index.Index.cut.Given as goal

abbrev pub decreases-rows : goal.decreases-rows
decreases-rows l = l.place

abbrev pub invariant-rows : goal.invariant-rows
invariant-rows l = record {
  from : l.from ≤ l.place;
  within : l.place ≤ length l.grants;
  placed : IsPlaced l.self (take l.place l.grants);
  made : l.self.is_made ≡ l.initial.self.is_made;
  room : links_room l.initial.self ≤ links_room l.self;
}
