use Rattle.std.proofs.Common.{sym}
use Rattle.turn_client_grants.proofs.KeptLemmas.{no-allocation, no-bind, no-connect, refresh-any}
use Rattle.turn_client_grants.proofs.table.GrantTable.is_for_refreshed.Goals as goal

pub returns-in-ForAllocation : goal.returns-in-ForAllocation
returns-in-ForAllocation c = rw c.in-ForAllocation.is (sym (no-allocation c.args.self.now.grants))

pub returns-in-ForConnect : goal.returns-in-ForConnect
returns-in-ForConnect c = rw c.in-ForConnect.is (sym (no-connect _ c.args.self.now.grants))

pub returns-in-ForBind : goal.returns-in-ForBind
returns-in-ForBind c = rw c.in-ForBind.is (sym (no-bind c.in-ForBind.field-0 c.in-ForBind.field-1 c.in-ForBind.field-2 c.args.self.now.grants))

pub returns-in-ForRefresh : goal.returns-in-ForRefresh
returns-in-ForRefresh c =
    rw (c.in-ForRefresh.is, c.is_some.ensures, c.find_allocation.ensures, c.as_slice.ensures.value, ← c.self.view_is)
    (refresh-any c.in-ForRefresh.family c.in-ForRefresh.field-1 c.self.inside.grants.items)
