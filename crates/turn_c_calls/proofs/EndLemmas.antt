-- How a request of one kind ends, by the parts of it that were read.
use Rattle.std.proofs.Common.{◌≡◌, ℕ, Bool, List, [], length, Option, Some, None, Result, Ok, Err, OnOk, inl, inr, refl, ap}
use Rattle.std.specs.Option.{option_map}
use Rattle.std.specs.Prelude.{IfErr, nat_lt}
use Rattle.std.specs.declared.net.ip_addr.IpAddr.{IpAddr}
use Rattle.std.specs.declared.net.socket_addr.SocketAddr.{SocketAddr}
use Rattle.turn_stun.specs.declared.transport.TransportType.{TransportType}
use Rattle.turn_client_api.specs.Calls.{can_send_to, permissions_of}
use Rattle.turn_client_api.specs.State.{State}
use Rattle.turn_client_api.specs.declared.call.Call.{Call}
use Rattle.turn_client_api.specs.declared.call.Call.TheVariants as Calls
use Rattle.turn_client_calls.specs.Checks.{needed}
use Rattle.turn_client_calls.specs.declared.reply.Reply.TheVariants as Replies
use Rattle.turn_c_calls.specs.Answer.{of_kind}
use Rattle.turn_c_calls.specs.Arms.{BareEnds, BareLacks, Ends, EndsLook, EndsPlain, Lacks, LacksLook, LacksPlain, have_permission_answer, permissions_answer}
use Rattle.turn_c_calls.specs.Held.{held}
use Rattle.turn_c_calls.specs.Judge.{fault_code, if_fits, request_judged}
use Rattle.turn_c_calls.specs.Operation.{Operation}
use Rattle.turn_c_calls.specs.Operation as Operations
use Rattle.turn_c_calls.specs.Step.{BareSteps, Finishes}
use Rattle.turn_c_calls.specs.declared.answer.Answer.{Answer}
use Rattle.turn_c_calls.specs.declared.fault.Fault.{Fault}
use Rattle.turn_c_calls.specs.declared.fault.Fault.TheVariants as Faults
use Rattle.turn_c_calls.specs.declared.request.Request.{Request}
use Rattle.turn_c_calls.proofs.KeptLemmas.{SameRelays, does_kept, fails_kept}
use Rattle.turn_c_calls.proofs.MadeLemmas.{bare_made}

-- ---- the parts of a request, or none

abbrev pub fitted : Option Operation → TransportType → Bool → ℕ → ℕ → Result Operation Fault
fitted o relays is_left len buffer = needed o Faults.Call (if_fits relays is_left len buffer)

module _ (relays : TransportType) (is_left : Bool) (n : ℕ) (bytes unread buffer : List ℕ) (a b : Answer) where
  pub plain_ends : (call : Option Call) (o : Option Operation) (s t : State) → option_map Operations.Plain call ≡ o → EndsPlain call s t a b
      → Ends (fitted o relays is_left (length bytes) n) bytes s t unread unread buffer buffer a b
  plain_ends (Some call) o s t e h = rw (← e) (h unread buffer)
  plain_ends None o s t e h = absurd h

  pub plain_lacks : (call : Option Call) (o : Option Operation) (s t : State) (fault : Fault) → option_map Operations.Plain call ≡ o → LacksPlain call fault s t a b
      → Lacks (fitted o relays is_left (length bytes) n) fault bytes s t unread unread buffer buffer a b
  plain_lacks (Some call) o s t fault e h = rw (← e) (h.0, record { client = h.1; unread = refl; buffer_is = refl }, h.2)
  plain_lacks None o s t fault e h = rw (← e) (h.0, h.1, refl, refl, h.2)

  pub permissions_ends : (o : Option (TransportType × SocketAddr)) (index : ℕ) (s : State) → EndsLook o (permissions_answer index s) a b
      → Ends (fitted (option_map (λ p. Operations.Permissions p.0 p.1 index) o) relays is_left (length bytes) n) bytes s s unread unread buffer buffer a b
  permissions_ends (Some p) index s h =
      bare_made (Calls.Permissions p.0 p.1) s s (Replies.Permissions (permissions_of p.0 p.1 s)) index a b refl refl h unread buffer
  permissions_ends None index s h = absurd h

  pub permissions_lacks : (o : Option (TransportType × SocketAddr)) (index : ℕ) (s : State) (fault : Fault) → LacksLook o fault a b
      → Lacks (fitted (option_map (λ p. Operations.Permissions p.0 p.1 index) o) relays is_left (length bytes) n) fault bytes s s unread unread buffer buffer a b
  permissions_lacks (Some p) index s fault h = absurd h
  permissions_lacks None index s fault h = (h.0, refl, refl, refl, h.1)

  pub have_ends : (o : Option (TransportType × IpAddr)) (s : State) → EndsLook o (have_permission_answer s) a b
      → Ends (fitted (option_map (λ p. Operations.Plain (Calls.HavePermission p.0 p.1)) o) relays is_left (length bytes) n) bytes s s unread unread buffer buffer a b
  have_ends (Some p) s h =
      bare_made (Calls.HavePermission p.0 p.1) s s (Replies.HavePermission (can_send_to p.0 p.1 s)) 0 a b refl refl h unread buffer
  have_ends None s h = absurd h

  pub have_lacks : (o : Option (TransportType × IpAddr)) (s : State) (fault : Fault) → LacksLook o fault a b
      → Lacks (fitted (option_map (λ p. Operations.Plain (Calls.HavePermission p.0 p.1)) o) relays is_left (length bytes) n) fault bytes s s unread unread buffer buffer a b
  have_lacks (Some p) s fault h = absurd h
  have_lacks None s fault h = (h.0, refl, refl, refl, h.1)

-- ---- the step of the session

module _ (bytes : List ℕ) (s t : State) (was unread buffer after : List ℕ) (a b : Answer) where
  pub finished : (j : Result Operation Fault) → Ends j bytes s t was unread buffer after a b → Finishes j bytes (held s was) (held t unread) buffer after a b
  finished (Err refused) h = absurd h
  finished (Ok operation) h = inl h

  pub refused : (j : Result Operation Fault) (fault : Fault) → Lacks j fault bytes s t was unread buffer after a b
      → Finishes j bytes (held s was) (held t unread) buffer after a (of_kind (fault_code fault) b)
  refused (Err first) fault h = record {
    says = λ i. of_kind (fault_code (h.0 i)) (h.4 i);
    same = λ i. held (h.1 i) (h.2 i);
    buffer_is = h.3;
  }
  refused (Ok operation) fault h = inr (h.1, λ i. of_kind (fault_code (h.0 i)) (h.2 i))

  pub ends_kept : (j : Result Operation Fault) → Ends j bytes s t was unread buffer after a b → SameRelays (held s was) (held t unread)
  ends_kept (Err refused) h = absurd h
  ends_kept (Ok operation) h = does_kept _ _ _ _ _ _ _ _ h

  pub lacks_kept : (j : Result Operation Fault) (fault : Fault) → Lacks j fault bytes s t was unread buffer after a b → SameRelays (held s was) (held t unread)
  lacks_kept (Err first) fault h = ap (λ (x : State). x.config.allocation_transport) h.1
  lacks_kept (Ok operation) fault h = fails_kept _ _ _ _ _ h.1

  pub handled_kept : {A : Type 0} → (r : Result A Fault) (j : Result Operation Fault) → OnOk r (Ends j bytes s t was unread buffer after a b)
      → IfErr r (λ fault. Lacks j fault bytes s t was unread buffer after a b) → SameRelays (held s was) (held t unread)
  handled_kept (Ok done) j ok err = ends_kept j ok
  handled_kept (Err fault) j ok err = lacks_kept j fault err

-- ---- the same of a request that has to do with no bytes

module _ (r : Request) (s t : State) (a b : Answer) where
  abbrev judged_so : List ℕ → List ℕ → List ℕ → Result Operation Fault
  judged_so bytes unread buffer = request_judged s.config.allocation_transport r (nat_lt 0 (length unread)) (length bytes) (length buffer)

  pub bare_finished : (unread : List ℕ) → BareEnds r s t a b → BareSteps r (held s unread) (held t unread) a b
  bare_finished unread h bytes buffer =
      finished bytes s t unread unread buffer buffer a b (judged_so bytes unread buffer) (h bytes unread buffer)

  pub bare_refused : (unread : List ℕ) (fault : Fault) → BareLacks r fault s t a b
      → BareSteps r (held s unread) (held t unread) a (of_kind (fault_code fault) b)
  bare_refused unread fault h bytes buffer =
      refused bytes s t unread unread buffer buffer a b (judged_so bytes unread buffer) fault (h bytes unread buffer)

  pub bare_kept : {A : Type 0} → (o : Result A Fault) → OnOk o (BareEnds r s t a b) → IfErr o (λ fault. BareLacks r fault s t a b)
      → SameRelays (held s []) (held t [])
  bare_kept (Ok done) ok err = ends_kept [] s t [] [] [] [] a b (judged_so [] [] []) (ok [] [] [])
  bare_kept (Err fault) ok err = lacks_kept [] s t [] [] [] [] a b (judged_so [] [] []) fault (err [] [] [])
