use Rattle.std.proofs.Common.{refl}
use Rattle.turn_client_requests.proofs.request.first_allocate.Goals as goal

pub returns : goal.returns
returns c = λ s.
    rw (
      c.from.ensures,
      c.finish.ensures.bytes,
      c.in_ok-add_families.ensures.all.text,
      c.in_ok-add-3.ensures.text,
      c.in_ok-add-2.ensures.text,
      c.in_ok-add.ensures.text,
      c.in_ok-message.ensures.text,
      c.new-transport.ensures.transport,
      c.new-lifetime.ensures.seconds,
    ) refl
