use Rattle.turn_client_laws.proofs.Common.{◌≡◌, ◌∙◌, ◌-◌, ◌^◌, ◌<◌, and_right, arith, lt-leb, refl}
use Rattle.turn_client_laws.proofs.Machine.{timers_of, transaction_timeout}
use Rattle.turn_client_laws.proofs.requests.unsent_requests_wait.Goals as goal

pub returns : goal.returns
returns c = λ made now s x timed from range.
    let last : x.last_send ≡ 2 ^ 63 - 1 = from ∙ rw timed refl in
    let later : now < transaction_timeout (timers_of s.config) s.transport x = omega (arith, last, range) in
    (and_right _ _ (lt-leb _ now later), and_right _ _ (lt-leb _ now later))
