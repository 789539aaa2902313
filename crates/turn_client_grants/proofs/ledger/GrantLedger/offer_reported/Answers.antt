use Rattle.std.proofs.Common.{arith, refl}
use Rattle.turn_client_grants.proofs.OfferLemmas.{connections-reported, event_room_for-reported}
use Rattle.turn_client_grants.proofs.ledger.GrantLedger.offer_reported.Goals as goal

pub returns-clause-state : goal.returns-clause-state
returns-clause-state c = λ s. rw (c.report_offer.ensures.grants, c.report_offer.ensures.listed, c.family_of.ensures, ← c.self.view_is) refl

pub returns-clause-room : goal.returns-clause-room
returns-clause-room c =
    rw (← c.self.view_is, c.report_offer.ensures.grants, event_room_for-reported, connections-reported)
    (record {
      grants_left = omega (arith, c.report_offer.ensures.grant_room);
      listings_left = omega (arith, c.report_offer.ensures.listing_room);
      events_left = omega arith;
      closes_left = omega arith;
    })

pub invariant_of-self : goal.invariant_of-self
invariant_of-self c =
    rw c.report_offer.ensures.grants
    (record {
      events_fit = rw event_room_for-reported c.self.invariant.events_fit;
      closes_fit = rw connections-reported c.self.invariant.closes_fit;
    })
