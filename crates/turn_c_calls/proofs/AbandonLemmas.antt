-- How a request that gives the client up ends: what the session holds, and what its allocations relay over.
use Rattle.std.proofs.Common.{◌≡◌, ℕ, Bool, true, false, List, Option, Result, Ok, Err, OnOk, ap, refl, inl, inr, ◌∙◌}
use Rattle.std.specs.Prelude.{IfErr, if◌then◌else◌}
use Rattle.turn_stun.specs.declared.transport.Transmit.{Transmit}
use Rattle.turn_client_api.specs.Abandon.{abandon_step, abandoned}
use Rattle.turn_client_api.specs.Calls.{is_allocated}
use Rattle.turn_client_api.specs.State.{State}
use Rattle.turn_c_calls.specs.Abandon.{AbandonEnds, AbandonFinishes, AbandonLacks}
use Rattle.turn_c_calls.specs.Answer.{of_kind}
use Rattle.turn_c_calls.specs.Held.{held}
use Rattle.turn_c_calls.specs.Judge.{fault_code}
use Rattle.turn_c_calls.specs.declared.answer.Answer.{Answer}
use Rattle.turn_c_calls.specs.declared.fault.Fault.{Fault}

abbrev Given-up : Type 0
Given-up = Option (Transmit (List ℕ)) × State

by_phase : (test : Bool) (a b : Given-up) (s : State) → a.1.config ≡ s.config → b.1.config ≡ s.config → (if test then a else b).1.config ≡ s.config
by_phase true a b s e f = e
by_phase false a b s e f = f

relays_kept : (now : ℕ) (s : State) → (abandon_step now s).1.config ≡ s.config
relays_kept now s = by_phase (is_allocated s.phase) _ _ s refl refl

module _ (s t : State) (was unread buffer after : List ℕ) (a b : Answer) where
  pub abandon_finished : (j : Result ℕ Fault) → AbandonEnds j s t was unread buffer after a b
      → AbandonFinishes j (held s was) (held t unread) buffer after a b
  abandon_finished (Ok now) h = inl h
  abandon_finished (Err refused) h = absurd h

  pub abandon_refused : (j : Result ℕ Fault) (fault : Fault) → AbandonLacks j fault s t was unread buffer after a b
      → AbandonFinishes j (held s was) (held t unread) buffer after a (of_kind (fault_code fault) b)
  abandon_refused (Ok now) fault h = inr (
    h.needs,
    record {
      says = λ i. of_kind (fault_code (h.is i)) (h.says i);
      same = λ i. held (h.client i) (h.unread_is i);
      buffer_is = h.buffer_is;
    },
  )
  abandon_refused (Err first) fault h = record {
    says = λ i. of_kind (fault_code (h.0 i)) (h.4 i);
    same = λ i. held (h.1 i) (h.2 i);
    buffer_is = h.3;
  }

  ends_kept : (j : Result ℕ Fault) → AbandonEnds j s t was unread buffer after a b → t.config.allocation_transport ≡ s.config.allocation_transport
  ends_kept (Ok now) h = ap (λ (x : State). x.config.allocation_transport) h.client ∙ ap (λ c. c.allocation_transport) (relays_kept now s)
  ends_kept (Err refused) h = absurd h

  lacks_kept : (j : Result ℕ Fault) (fault : Fault) → AbandonLacks j fault s t was unread buffer after a b
      → t.config.allocation_transport ≡ s.config.allocation_transport
  lacks_kept (Ok now) fault h = ap (λ (x : State). x.config.allocation_transport) h.client
  lacks_kept (Err first) fault h = ap (λ (x : State). x.config.allocation_transport) h.1

  pub abandon_kept : {A : Type 0} → (r : Result A Fault) (j : Result ℕ Fault) → OnOk r (AbandonEnds j s t was unread buffer after a b)
      → IfErr r (λ fault. AbandonLacks j fault s t was unread buffer after a b) → t.config.allocation_transport ≡ s.config.allocation_transport
  abandon_kept (Ok done) j ok err = ends_kept j ok
  abandon_kept (Err fault) j ok err = lacks_kept j fault err
