use Rattle.turn_client_laws.proofs.Common.{◌∙◌, arith, refl, sym}
use Rattle.turn_client_core.proofs.outbox.QueueLemmas.{no_reply, none-counted, reply_count-taken}
use Rattle.turn_client_core.proofs.outbox.ReplyLemmas.{reply-at}
use Rattle.turn_client_core.proofs.outbox.queue.Queue.take_reply.Goals as goal

pub returns-then-self-eq0 : goal.returns-then-self-eq0
returns-then-self-eq0 c =
    let none = none-counted c.self.inside.packets.items (sym c.self.invariant ∙ c.if-self-eq0.true) in
    record { reply = rw (← c.self.view_is) (sym none.first); rest = rw (← c.self.view_is) (sym none.rest) }

pub returns-in_err-place : goal.returns-in_err-place
returns-in_err-place c =
    let none = no_reply c.self.inside.packets.items (sym c.reply_place.ensures.first ∙ c.in_err-place.was) in
    record { reply = rw (c.from_residual.ensures, ← c.self.view_is, none.first) refl; rest = rw (← c.self.view_is) (sym none.rest) }

pub invariant_of-self : goal.invariant_of-self
invariant_of-self c =
    let queue = c.self.inside.packets.items in
    let items = rw c.unwrap-reply.ensures at c.remove.ensures.items in
    let taken = reply_count-taken queue c.in_ok-place.place c.unwrap-reply.result (sym c.in_ok-place.ensures.first) in
    rw items (omega (arith, c.self.invariant, taken))

pub returns : goal.returns
returns c =
    let value = rw c.unwrap-reply.ensures at c.remove.ensures.value in
    let items = rw c.unwrap-reply.ensures at c.remove.ensures.items in
    let at = reply-at c.self.inside.packets.items c.in_ok-place.place c.unwrap-reply.result (sym c.in_ok-place.ensures.first) value in
    record { reply = rw (← c.self.view_is, at.0) refl; rest = rw (items, ← c.self.view_is, at.1) refl }
