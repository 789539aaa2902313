use Rattle.std.proofs.Common.{◌≡◌, ℕ, None, Err, refl, sym, subst, inl, inr}
use Rattle.std.proofs.lemmas.Bool.{cases_Bool}
use Rattle.turn_client_api.specs.declared.error.SendError.TheVariants.{NoAllocation}
use Rattle.turn_client_api.specs.declared.poll.TurnPollRet.TheVariants.{Closed}
use Rattle.turn_session_book.specs.declared.answers.Answer.TheVariants.{Ended}
use Rattle.turn_session_book.specs.declared.causes.Why.{Why}
use Rattle.turn_session_life.specs.declared.life.Phase.{Phase}
use Rattle.turn_session_life.specs.declared.life.Phase.TheVariants.{Over}
use Rattle.turn_session_client.specs.Asking.{Requests}
use Rattle.turn_session_client.specs.Ending.{abandon_state, after_socket_error, ended, left, left_for}
use Rattle.turn_session_client.specs.Keeping.{kept_while_running}
use Rattle.turn_session_client.specs.NotedState.{NotedState}
use Rattle.turn_session_client.specs.Polling.{Polls, transmitted}
use Rattle.turn_session_client.specs.Receiving.{Receives}
use Rattle.turn_session_client.specs.Sending.{sent_step}
use Rattle.turn_session_client.specs.Sockets.{after_writing}
use Rattle.turn_session_laws.proofs.ends.nothing_follows_the_end.Goals as goal

abbrev at : Phase → NotedState → NotedState
at phase s = record s { life = record s.life { phase = phase } }

-- what holds of a session that has ended for this cause holds of this one
ended-for : (s : NotedState) (why : Why) (P : NotedState → Type 0) → s.life.phase ≡ Over why → P (at (Over why) s) → P s
ended-for s why P over h = subst (λ (phase : Phase). P (at phase s)) (sym over) h

leaves-at : (now : ℕ) (s : NotedState) (why other : Why) → left_for other now (at (Over why) s) ≡ at (Over why) s
leaves-at now s why other = elim (cases_Bool s.heard.is_challenged) [
  | inl is_so ↦ rw is_so refl
  | inr is_not ↦ rw is_not refl
]

pub returns : goal.returns
returns c = record {
  requested = λ key is_for_data now answer was s why over.
      ended-for was why (λ t. Requests key is_for_data now answer t s → (answer ≡ Ended why) × (s ≡ t)) over (λ h. h);
  kept = λ key is_kept s why over. ended-for s why (λ t. (kept_while_running key is_kept t).1 ≡ t) over refl;
  received = λ transport from to bytes now was s why over.
      ended-for was why (λ t. Receives transport from to bytes now t s → s ≡ t) over (λ h. h);
  polled = λ now was s answer why over. ended-for was why (λ t. Polls now t s answer → (answer ≡ Closed) × (s ≡ t)) over (λ h. h);
  transmitted = λ now s why over. ended-for s why (λ t. transmitted now t ≡ (None, t)) over refl;
  sent = λ transport peer bytes now s why over.
      ended-for s why (λ t. sent_step transport peer bytes now t ≡ (Err NoAllocation, t)) over refl;
  failed = λ tag now s why over. ended-for s why (λ t. after_socket_error tag now t ≡ t) over refl;
  written = λ now s why over. ended-for s why (λ t. after_writing now t ≡ t) over refl;
  left = λ now s why over. ended-for s why (λ t. left now t ≡ t) over refl;
  left_for = λ now s why other over. ended-for s why (λ t. left_for other now t ≡ t) over (leaves-at now s why other);
  ended = λ s why other over. ended-for s why (λ t. ended other t ≡ t) over refl;
  abandoned = λ now s why over. ended-for s why (λ t. abandon_state now t ≡ t) over refl;
}
