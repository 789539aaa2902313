use Rattle.std.proofs.Common.{refl}
use Rattle.turn_auth.proofs.SignLemmas.{begun_is_unsigned}
use Rattle.turn_client_requests.proofs.reply.accepted_reply.Goals as goal

pub signed-requires-clause-unsigned : goal.signed-requires-clause-unsigned
signed-requires-clause-unsigned c = begun_is_unsigned _ _ _ c.in_ok-message.ensures.message

pub returns : goal.returns
returns c = λ s same. rw (c.in_ok-text.ensures.text, c.in_ok-message.ensures.text, ← same) refl
