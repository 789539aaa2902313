use Rattle.std.proofs.Common.{length, refl, ap, ◌∙◌}
use Rattle.turn_auth.proofs.SignLemmas.{begun_is_unsigned}
use Rattle.turn_client_requests.proofs.AskedLemmas.{as_long_as_asked}
use Rattle.turn_client_requests.proofs.request.request_for.Goals as goal

pub signed-requires-clause-unsigned : goal.signed-requires-clause-unsigned
signed-requires-clause-unsigned c =
    c.in_ok-add_asked.ensures.unsigned (begun_is_unsigned _ _ _ c.in_ok-message.ensures.message)

pub prove-unreachable-requires : goal.prove-unreachable-requires
prove-unreachable-requires c =
    let begun = rw c.method_for.ensures at c.in_ok-message.ensures.message in
    c.if-prove.true
    (ap length c.as_bytes.ensures
    ∙ as_long_as_asked c.args.auth.now c.args.transport c.args.families.now c.args.purpose.now _ _ _ _ _ _ begun
    c.in_ok-add_asked.ensures.all c.asked_len-asked.ensures.exact c.message_signature_bytes.ensures.value c.in_ok-text.ensures.len)

pub returns : goal.returns
returns c = λ s same.
    rw (
      c.in_ok-text.ensures.text,
      (c.in_ok-add_asked.ensures.all s).text,
      c.in_ok-message.ensures.message.has_id,
      c.in_ok-message.ensures.text,
      c.method_for.ensures,
      ← same,
    ) refl
