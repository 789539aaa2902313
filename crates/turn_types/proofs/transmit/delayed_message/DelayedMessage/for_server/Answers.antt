use Rattle.std.proofs.Common.{List, ℕ, sym, ap, subst, ◌∙◌}
use Rattle.turn_stun.specs.Attributes.{seen_of}
use Rattle.turn_stun.specs.Message.{IsMessage}
use Rattle.turn_types.specs.Send.{send_type, send_attributes}
use Rattle.turn_types.proofs.SendLemmas.{send_indication-IsMessage, seen_of-send_indication, send_indication-plain}
use Rattle.turn_types.proofs.XorLemmas.{xor_addr-xor_value}
use Rattle.turn_types.proofs.transmit.delayed_message.DelayedMessage.for_server.Goals as goal

pub returns-clause-message : goal.returns-clause-message
returns-clause-message g c = λ small.
    let peer = c.args.peer in
    let payload = g.T.AsSlice.items c.args.payload in
    let id = c.args.id in
    subst (λ (bytes : List ℕ). IsMessage bytes send_type id (send_attributes peer payload id))
    (sym (send_indication-plain c.new.result peer payload id (c.new.ensures ∙ c.plain.ensures.plain)))
    (send_indication-IsMessage peer payload id c.requires small)

pub returns-clause-seen : goal.returns-clause-seen
returns-clause-seen g c = λ small.
    let peer = c.args.peer in
    let payload = g.T.AsSlice.items c.args.payload in
    let id = c.args.id in
    ap seen_of (send_indication-plain c.new.result peer payload id (c.new.ensures ∙ c.plain.ensures.plain))
    ∙ seen_of-send_indication peer payload id c.requires small

pub returns-clause-peer : goal.returns-clause-peer
returns-clause-peer g c = λ small. xor_addr-xor_value c.args.peer c.args.id (rw (← c.plain.ensures.plain) c.plain.ensures.in_range) small
