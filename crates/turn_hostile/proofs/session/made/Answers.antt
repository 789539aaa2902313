use Rattle.turn_client_calls.proofs.CallableLemmas.{callable_anywhere}
use Rattle.turn_hostile.proofs.session.made.Goals as goal

pub reply_to-requires : goal.reply_to-requires
reply_to-requires g c = record { callable = callable_anywhere _ _ c.in_ok-call.ensures }
