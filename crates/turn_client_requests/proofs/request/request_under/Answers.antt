use Rattle.std.proofs.Common.{◌≡◌, length, refl, sym, ap, ◌∙◌}
use Rattle.turn_stun.specs.declared.message.header.MessageClass.TheVariants.{Request}
use Rattle.turn_auth.specs.LongTerm.{with_challenge}
use Rattle.turn_auth.specs.Signature.{signed_text}
use Rattle.turn_auth.proofs.SignLemmas.{begun_is_unsigned}
use Rattle.turn_client_api.specs.Requests.{asked_attributes, message_of, method_for}
use Rattle.turn_client_api.specs.State.{auth_of}
use Rattle.turn_client_requests.specs.RequestAttributes.{with_asked_families}
use Rattle.turn_client_requests.proofs.AskedLemmas.{as_long_as_asked}
use Rattle.turn_client_requests.proofs.request.request_under.Goals as goal

pub signed_under-requires-clause-unsigned : goal.signed_under-requires-clause-unsigned
signed_under-requires-clause-unsigned c =
    c.in_ok-add_asked.ensures.unsigned (begun_is_unsigned _ _ _ c.in_ok-message.ensures.message)

pub prove-unreachable-requires : goal.prove-unreachable-requires
prove-unreachable-requires c =
    let begun = rw c.method_for.ensures at c.in_ok-message.ensures.message in
    c.if-prove.true
    (ap length c.as_bytes.ensures
    ∙ as_long_as_asked (with_challenge c.args.challenge.now c.args.auth.now) c.args.transport c.args.families.now c.args.purpose.now _ _ _ _ _ _ begun
    c.in_ok-add_asked.ensures.all c.asked_len-asked.ensures.exact c.signature_bytes_under.ensures.value c.in_ok-text.ensures.len)

pub returns : goal.returns
returns c = λ s same.
    let asked = asked_attributes (with_asked_families c.args.transport c.args.families.now s) c.args.purpose.now c.args.id in
    let text : c.add_asked.new.message ≡ message_of (method_for c.args.purpose.now) Request asked c.args.id =
    rw ((c.in_ok-add_asked.ensures.all s).text, c.in_ok-message.ensures.message.has_id, c.in_ok-message.ensures.text, c.method_for.ensures) refl in
    c.in_ok-text.ensures.text
    ∙ ap (λ auth. signed_text auth c.add_asked.new.message) (sym same)
    ∙ ap (λ message. signed_text (auth_of s) message) text
