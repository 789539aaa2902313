use Rattle.std.proofs.Common.{◌∙◌, ap, arith, length, sym}
use Rattle.std.specs.Prelude.{option_and_then}
use Rattle.turn_client_api.specs.Calls.{active_channel}
use Rattle.turn_client_grants.proofs.NumberLemmas.{active-numbered}
use Rattle.turn_client_grants.specs.Keys.{is_found_by}
use Rattle.turn_client_grants.specs.Lists.{first_among}
use Rattle.turn_client_grants.specs.Table.{Table}
use Rattle.turn_client_grants.specs.Index.{scan}
use Rattle.turn_client_grants.specs.declared.key.Key.TheVariants as By
use Rattle.turn_client_grants.proofs.KeyLemmas.{first-found, found-passes, other-active}
use Rattle.turn_client_grants.proofs.IndexRoomLemmas.{many-made}
use Rattle.turn_client_grants.proofs.table.GrantTable.active_channel.Goals as goal

pub lead-requires-clause-placed : goal.lead-requires-clause-placed
lead-requires-clause-placed c =
    rw c.as_slice-2.ensures.value
    (c.self.invariant.led (many-made c.self.inside.index.is_made (length c.self.inside.grants.items) c.self.invariant.few (omega (arith, c.if-len-le-FEW.false))))

pub returns-in-Some-clause-found : goal.returns-in-Some-clause-found
returns-in-Some-clause-found c =
    let found = rw c.as_slice-2.ensures.value at (sym c.in-Some.ensures) in
    c.active_number_of.ensures c.args.peer
    (found-passes c.self.inside.grants.items (By.Peer c.args.peer) _ c.self.invariant.found found)
    ∙ (sym (first-found (active_channel c.args.peer) (scan is_found_by c.self.inside.grants.items) c.self.inside.grants.items (By.Peer c.args.peer) c.self.invariant.found
    (other-active c.args.peer) ∙ ap (option_and_then (active_channel c.args.peer)) found)
    ∙ ap (λ (t : Table). first_among (active_channel c.args.peer) t.grants) c.self.view_is)

pub returns-in-None-clause-found : goal.returns-in-None-clause-found
returns-in-None-clause-found c =
    let none = rw c.as_slice-2.ensures.value at (sym c.in-None.ensures) in
    sym (first-found (active_channel c.args.peer) (scan is_found_by c.self.inside.grants.items) c.self.inside.grants.items (By.Peer c.args.peer) c.self.invariant.found (other-active c.args.peer)
    ∙ ap (option_and_then (active_channel c.args.peer)) none) ∙ ap (λ (t : Table). first_among (active_channel c.args.peer) t.grants) c.self.view_is

pub returns-in-Some-clause-numbered : goal.returns-in-Some-clause-numbered
returns-in-Some-clause-numbered c =
    let found = rw c.as_slice-2.ensures.value at (sym c.in-Some.ensures) in
    rw (c.active_number_of.ensures c.args.peer
    (found-passes c.self.inside.grants.items (By.Peer c.args.peer) _ c.self.invariant.found found)
    ∙ sym (first-found (active_channel c.args.peer) (scan is_found_by c.self.inside.grants.items) c.self.inside.grants.items (By.Peer c.args.peer) c.self.invariant.found
    (other-active c.args.peer) ∙ ap (option_and_then (active_channel c.args.peer)) found))
    (active-numbered c.args.peer c.self.inside.grants.items c.self.invariant.table.numbers)

pub returns-then-len-le-FEW-clause-numbered : goal.returns-then-len-le-FEW-clause-numbered
returns-then-len-le-FEW-clause-numbered c =
    rw (c.active_channel.ensures, c.as_slice.ensures.value) (active-numbered c.args.peer c.self.inside.grants.items c.self.invariant.table.numbers)
