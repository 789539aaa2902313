use Rattle.std.proofs.Common.{sym, ◌∙◌}
use Rattle.turn_types.proofs.ChannelLemmas.{channel_fault_of-none, PassesTests-IsChannel, PassesTests-no_fault, IsChannel-ReadsChannel}
use Rattle.turn_types.proofs.channel.ChannelData.parse.Goals as goal

pub at_front-requires-clause-whole : goal.at_front-requires-clause-whole
at_front-requires-clause-whole c = (channel_fault_of-none c.args.bytes.now (sym c.fault_in.ensures ∙ c.in-None.is)).whole

pub at_front-requires-clause-least : goal.at_front-requires-clause-least
at_front-requires-clause-least c = (channel_fault_of-none c.args.bytes.now (sym c.fault_in.ensures ∙ c.in-None.is)).least

pub at_front-requires-clause-most : goal.at_front-requires-clause-most
at_front-requires-clause-most c = (channel_fault_of-none c.args.bytes.now (sym c.fault_in.ensures ∙ c.in-None.is)).most

pub returns-in-Some-clause-only : goal.returns-in-Some-clause-only
returns-in-Some-clause-only c = λ id payload rest is.
    let bytes = c.args.bytes.now in
    let none = PassesTests-no_fault bytes (IsChannel-ReadsChannel bytes id payload rest is).tests in
    absurd (cc (c.fault_in.ensures, none, c.in-Some.is))

pub returns-in-None-clause-found : goal.returns-in-None-clause-found
returns-in-None-clause-found c =
    let bytes = c.args.bytes.now in
    rw c.at_front.ensures (PassesTests-IsChannel bytes (channel_fault_of-none bytes (sym c.fault_in.ensures ∙ c.in-None.is)))
