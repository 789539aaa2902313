use Rattle.std.proofs.Common.{◌≡◌, ℕ, ◌+◌, ◌-◌, ◌^◌, true, refl, ap, subst, inl, inr}
use Rattle.std.specs.Prelude.{min, nat_le, not, ◌&&◌}
use Rattle.std.proofs.lemmas.Bool.{cases_Bool, le-leb}
use Rattle.turn_client_api.specs.declared.poll.TurnPollRet.{TurnPollRet}
use Rattle.turn_client_api.specs.declared.poll.TurnPollRet.TheVariants.{Closed}
use Rattle.turn_session_book.specs.declared.causes.Why.{Why}
use Rattle.turn_session_life.specs.Heard.{has_hint}
use Rattle.turn_session_life.specs.Life.{is_running}
use Rattle.turn_session_life.specs.declared.life.Leave.{Leave}
use Rattle.turn_session_life.specs.declared.life.Phase.{Phase}
use Rattle.turn_session_life.specs.declared.life.Phase.TheVariants.{Opening, Open, Leaving, Over}
use Rattle.turn_session_client.specs.Ending.{left, left_for}
use Rattle.turn_session_client.specs.NotedState.{NotedState}
use Rattle.turn_session_client.specs.Polling.{Polls}
use Rattle.turn_session_laws.specs.EndLaws.{EndsBy}
use Rattle.turn_session_laws.proofs.ends.leaves_in_time.Goals as goal

abbrev at : Phase → NotedState → NotedState
at phase s = record s { life = record s.life { phase = phase } }

begins-at : (now : ℕ) (s : NotedState) (phase : Phase) → is_running phase ≡ true
    → EndsBy (min (now + s.leave_wait) (2 ^ 63 - 1)) (left now (at phase s)).life.phase
begins-at now s Open running = refl
begins-at now s Opening running = elim (cases_Bool (s.heard.is_challenged && not (has_hint s.heard))) [
  | inl waits ↦ rw waits refl
  | inr ends ↦ rw ends tt
]
begins-at now s (Leaving leave) running = cc
begins-at now s (Over why) running = cc

itself-at : (why : Why) (now : ℕ) (s : NotedState) (phase : Phase) → is_running phase ≡ true
    → EndsBy (min (now + s.leave_wait) (2 ^ 63 - 1)) (left_for why now (at phase s)).life.phase
itself-at why now s Open running = refl
itself-at why now s Opening running = elim (cases_Bool s.heard.is_challenged) [
  | inl is_so ↦ rw is_so refl
  | inr is_not ↦ rw is_not tt
]
itself-at why now s (Leaving leave) running = cc
itself-at why now s (Over before) running = cc

stands-at : (now : ℕ) (s : NotedState) (phase : Phase) (leave : Leave) → phase ≡ Leaving leave → (left now (at phase s)).life.phase ≡ phase
stands-at now s Opening leave is = cc
stands-at now s Open leave is = cc
stands-at now s (Leaving until) leave is = refl
stands-at now s (Over why) leave is = refl

ends-at : (now : ℕ) (was s : NotedState) (answer : TurnPollRet) (leave : Leave) → nat_le leave.until now ≡ true
    → Polls now (at (Leaving leave) was) s answer → (answer ≡ Closed) × (s.life.phase ≡ Over leave.why)
ends-at now was s answer leave past polls =
    let ended = rw past at polls in (ended.0, ap (λ (t : NotedState). t.life.phase) ended.1)

pub returns : goal.returns
returns c = record {
  begins = λ now s running. begins-at now s s.life.phase running;
  itself = λ why now s running. itself-at why now s s.life.phase running;
  stands = λ now s leave is. stands-at now s s.life.phase leave is;
  ends = λ now was s answer leave is past polls.
      ends-at now was s answer leave (le-leb leave.until now past) (subst (λ (phase : Phase). Polls now (at phase was) s answer) is polls);
}
