use Rattle.std.proofs.Common.{◌≡◌, false, refl}
use Rattle.std.specs.List.{list_any}
use Rattle.turn_client_api.specs.Grants.{is_channel_of}
use Rattle.tests_tables.proofs.grants.numbers.take_number.Goals as goal

pub ask-requires-clause-new : goal.ask-requires-clause-new
ask-requires-clause-new c =
    let free : list_any (is_channel_of c.in-Some.number) c.reserve.new.self.grants ≡ false =
    rw (c.in-Some.is, c.table.ensures.grants) at c.free_number.ensures.free in
    rw free refl
