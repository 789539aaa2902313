use Rattle.std.proofs.Common.{◌≡◌, arith, filter, not, refl}
use Rattle.turn_client_grants.specs.Asked.{all_back}
use Rattle.turn_client_grants.specs.Ledger.{with_ledger}
use Rattle.turn_client_grants.proofs.PushLemmas.{unlisted-none}
use Rattle.turn_client_grants.specs.Table.{changed}
use Rattle.turn_client_grants.specs.GrantFilter.{holds, purposes_in}
use Rattle.turn_client_grants.specs.declared.grant_filter.GrantFilter.TheVariants as W
use Rattle.turn_client_grants.specs.declared.changes.Change.TheVariants as C
use Rattle.turn_client_grants.proofs.RoomLemmas.{closes-changed, closes-filtered, event_room_for-changed, event_room_for-filtered}
use Rattle.turn_client_grants.proofs.ledger.GrantLedger.queue_delete.Goals as goal

pub list-requires-clause-new : goal.list-requires-clause-new
list-requires-clause-new c =
    rw (c.change.ensures.listed, c.remove.ensures.listed) (unlisted-none (holds W.Active) c.self.inside.table.grants c.self.inside.table.listed c.args.id (rw (← c.self.view_is) at c.requires.new_id))

pub returns-clause-state : goal.returns-clause-state
unfolding holds changed
returns-clause-state c = λ s text from.
    let read : purposes_in c.all_deleted-purposes.result ≡ all_back (with_ledger c.args.self.now s) = c.all_deleted-purposes.ensures s in
    rw (← read, c.list.ensures.grants, c.list.ensures.listed, c.change.ensures.grants, c.change.ensures.listed, c.remove.ensures.grants, c.remove.ensures.listed, ← c.self.view_is) refl

pub returns-clause-room : goal.returns-clause-room
returns-clause-room c =
    let was = c.self.inside.table.grants in
    let left = filter (λ g. not (holds W.Active g)) was in
    rw (← c.self.view_is, c.list.ensures.grants, c.change.ensures.grants, c.remove.ensures.grants)
    (record {
      grants_left = omega (arith, c.remove.ensures.grant_room, c.change.ensures.grant_room, c.list.ensures.grant_room);
      listings_left = omega (arith, c.remove.ensures.listing_room, c.change.ensures.listing_room, c.list.ensures.listing_room);
      events_left = omega (arith, event_room_for-changed (C.EndAll c.args.now) left, event_room_for-filtered (λ g. not (holds W.Active g)) was);
      closes_left = omega (arith, closes-changed (C.EndAll c.args.now) left, closes-filtered (λ g. not (holds W.Active g)) was);
    })

pub invariant_of-self : goal.invariant_of-self
invariant_of-self c =
    let was = c.self.inside.table.grants in
    let left = filter (λ g. not (holds W.Active g)) was in
    rw (c.list.ensures.grants, c.change.ensures.grants, c.remove.ensures.grants)
    (record {
      events_fit = omega (
        arith,
        event_room_for-changed (C.EndAll c.args.now) left,
        event_room_for-filtered (λ g. not (holds W.Active g)) was,
        c.self.invariant.events_fit,
      );
      closes_fit = omega (arith, closes-changed (C.EndAll c.args.now) left, closes-filtered (λ g. not (holds W.Active g)) was, c.self.invariant.closes_fit);
    })
