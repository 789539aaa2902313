use Rattle.std.proofs.Common.{◌≡◌, ℕ, Bool, true, Some, ap, subst, rules}
use Rattle.turn_session_book.specs.declared.answers.Answer.{Answer}
use Rattle.turn_session_book.specs.declared.answers.Answer.TheVariants.{Granted}
use Rattle.turn_session_book.specs.declared.keys.Key.{Key}
use Rattle.turn_session_client.specs.Asking.{Answers, Begins, known_answer, taken_over}
use Rattle.turn_session_client.specs.Keeping.{keep_step}
use Rattle.turn_session_client.specs.NotedState.{NotedState}
use Rattle.turn_session_client.proofs.noted.NotedClient.request_now.Goals as goal

answers-granted : (key : Key) (is_for_data : Bool) (now : ℕ) (k s : NotedState) (answer : Answer) → known_answer key is_for_data now k ≡ Some Granted
    → Begins answer k s (taken_over key k) → Answers (known_answer key is_for_data now k) key now answer k s
answers-granted key is_for_data now k s answer known begins = rw known begins

pub returns-in-Some-Granted : goal.returns-in-Some-Granted
returns-in-Some-Granted g c =
    let kept : c.keep-known.new.self ≡ (keep_step c.args.key true c.args.self.now).1 = ap (λ (x : Bool × NotedState). x.1) c.keep-known.ensures in
    let known : known_answer c.args.key c.args.is_for_data c.args.now c.keep-known.new.self ≡ Some Granted = search rules in
    let answered = answers-granted c.args.key c.args.is_for_data c.args.now c.keep-known.new.self c.take_over.new.self c.take_over.result known c.take_over.ensures in
    subst
    (λ (k : NotedState). Answers (known_answer c.args.key c.args.is_for_data c.args.now k) c.args.key c.args.now c.take_over.result k c.take_over.new.self)
    kept answered
