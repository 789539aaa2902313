-- How a request for a head ends: what the session holds, and what its allocations relay over.
use Rattle.std.proofs.Common.{◌≡◌, ℕ, List, Result, Ok, Err, OnOk, ap, refl, replicate, ◌∙◌}
use Rattle.std.specs.Prelude.{IfErr}
use Rattle.std.proofs.lemmas.List.{length-replicate}
use Rattle.turn_client_api.specs.State.{State}
use Rattle.turn_client_api.specs.declared.call.Call.TheVariants as Calls
use Rattle.turn_client_proto.proofs.RunLemmas.{relays_stay}
use Rattle.turn_c_calls.specs.Answer.{of_kind}
use Rattle.turn_c_calls.specs.Head.{HeadEnds, HeadFinishes, HeadLacks, Peer}
use Rattle.turn_c_calls.specs.Held.{held}
use Rattle.turn_c_calls.specs.Judge.{fault_code}
use Rattle.turn_c_calls.specs.declared.answer.Answer.{Answer}
use Rattle.turn_c_calls.specs.declared.fault.Fault.{Fault}

module _ (now len : ℕ) (s t : State) (buffer after : List ℕ) (a b : Answer) where
  pub head_finished : (unread : List ℕ) (j : Result Peer Fault) → HeadEnds j now len s t buffer after a b
      → HeadFinishes j now len (held s unread) (held t unread) buffer after a b
  head_finished unread (Ok peer) h = (h, refl)
  head_finished unread (Err refused) h = absurd h

  pub head_refused : (unread : List ℕ) (j : Result Peer Fault) (fault : Fault) → HeadLacks j fault s t buffer after a b
      → HeadFinishes j now len (held s unread) (held t unread) buffer after a (of_kind (fault_code fault) b)
  head_refused unread (Ok peer) fault h = absurd h
  head_refused unread (Err first) fault h = record {
    says = λ i. of_kind (fault_code (h.0 i)) (h.3 i);
    same = λ i. held (h.1 i) unread;
    buffer_is = h.2;
  }

  ends_kept : (j : Result Peer Fault) → HeadEnds j now len s t buffer after a b → t.config.allocation_transport ≡ s.config.allocation_transport
  ends_kept (Err refused) h = absurd h
  ends_kept (Ok peer) h =
      let zeros : List ℕ = replicate len 0 in
      ap (λ (x : State). x.config.allocation_transport) (h zeros (length-replicate {A = ℕ} len 0)).client
      ∙ relays_stay (Calls.SendTo peer.0 peer.1 zeros now) s

  lacks_kept : (j : Result Peer Fault) (fault : Fault) → HeadLacks j fault s t buffer after a b → t.config.allocation_transport ≡ s.config.allocation_transport
  lacks_kept (Ok peer) fault h = absurd h
  lacks_kept (Err first) fault h = ap (λ (x : State). x.config.allocation_transport) h.1

  pub head_kept : {A : Type 0} → (r : Result A Fault) (j : Result Peer Fault) → OnOk r (HeadEnds j now len s t buffer after a b)
      → IfErr r (λ fault. HeadLacks j fault s t buffer after a b) → t.config.allocation_transport ≡ s.config.allocation_transport
  head_kept (Ok done) j ok err = ends_kept j ok
  head_kept (Err fault) j ok err = lacks_kept j fault err
