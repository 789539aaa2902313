use Rattle.std.proofs.Common.{Bool, arith, not, refl}
use Rattle.turn_client_api.specs.declared.grant.Grant.{Grant}
use Rattle.turn_client_grants.specs.GrantFilter.{holds}
use Rattle.turn_client_grants.specs.declared.grant_filter.GrantFilter.TheVariants as W
use Rattle.turn_client_grants.proofs.RoomLemmas.{closes-filtered, event_room_for-filtered}
use Rattle.turn_client_grants.proofs.ledger.GrantLedger.set_free.Goals as goal

pub returns-clause-state : goal.returns-clause-state
unfolding holds
returns-clause-state c = λ s.
    rw (c.remove.ensures.grants, c.remove.ensures.listed, c.unlist.ensures.grants, c.unlist.ensures.listed, ← c.self.view_is) refl

pub returns-clause-room : goal.returns-clause-room
returns-clause-room c =
    let stays : Grant → Bool = λ g. not (holds (W.FreedChannels c.args.family c.args.now) g) in
    rw (← c.self.view_is, c.remove.ensures.grants, c.unlist.ensures.grants)
    (record {
      grants_left = omega (arith, c.remove.ensures.grant_room, c.unlist.ensures.grant_room);
      listings_left = omega (arith, c.remove.ensures.listing_room, c.unlist.ensures.listing_room);
      events_left = omega (arith, event_room_for-filtered stays c.self.inside.table.grants);
      closes_left = omega (arith, closes-filtered stays c.self.inside.table.grants);
    })

pub invariant_of-self : goal.invariant_of-self
invariant_of-self c =
    let stays : Grant → Bool = λ g. not (holds (W.FreedChannels c.args.family c.args.now) g) in
    rw (c.remove.ensures.grants, c.unlist.ensures.grants)
    (record {
      events_fit = omega (arith, event_room_for-filtered stays c.self.inside.table.grants, c.self.invariant.events_fit);
      closes_fit = omega (arith, closes-filtered stays c.self.inside.table.grants, c.self.invariant.closes_fit);
    })
