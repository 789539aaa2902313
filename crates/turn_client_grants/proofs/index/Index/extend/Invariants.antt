use Rattle.std.proofs.Common.{◌≡◌, ◌≤◌, take}
use Rattle.turn_client_grants.specs.Kept.{IsLed, links_room}
use Rattle.turn_client_grants.proofs.index.Index.extend.Given as goal

abbrev pub invariant-rows : goal.invariant-rows
invariant-rows l = record {
  led : IsLed l.self (take l.place l.grants);
  made : l.self.is_made ≡ l.initial.self.is_made;
  room : links_room l.initial.self ≤ links_room l.self;
}
