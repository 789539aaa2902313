use Rattle.std.proofs.Common.{◌≡◌, ◌∙◌, false, refl, sym}
use Rattle.std.specs.Prelude.{filter_map}
use Rattle.std.specs.List.{list_any}
use Rattle.turn_client_api.specs.Calls.{is_in_progress, progress_to}
use Rattle.turn_client_api.specs.Grants.{is_channel_of}
use Rattle.tests_tables.proofs.grants.random.asks.channel.Goals as goal

pub ask-requires-clause-new : goal.ask-requires-clause-new
ask-requires-clause-new c =
    let peer = c.address-peer.result in
    let unbound : list_any is_in_progress (filter_map (progress_to peer) c.reserve.new.self.grants) ≡ false =
    rw c.table.ensures.grants at (sym c.has_channel.ensures ∙ c.if-has_channel.false) in
    let free : list_any (is_channel_of c.in-Some.number) c.reserve.new.self.grants ≡ false =
    rw (c.in-Some.is, c.table-2.ensures.grants) at c.free_number.ensures.free in
    rw (free, unbound) refl
