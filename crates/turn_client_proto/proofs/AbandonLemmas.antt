-- A client that is given up.
use Rattle.std.proofs.Common.{◌≡◌, ◌∙◌, ℕ, Bool, true, false, List, Option, Result, Ok, Err, ap, refl, subst, sym}
use Rattle.std.proofs.lemmas.Result.{on_ok_weaker, on_err_weaker}
use Rattle.std.specs.Prelude.{IfOk, OnErr, OnOk, cond}
use Rattle.turn_stun.specs.declared.transport.Transmit.{Transmit}
use Rattle.turn_stun.specs.declared.transport.TransportType.{TransportType}
use Rattle.turn_client_api.specs.Abandon.{abandon_step}
use Rattle.turn_client_api.specs.Calls.{is_allocated}
use Rattle.turn_client_api.specs.State.{State}
use Rattle.turn_client_core.specs.Apart.{with_streams_of}
use Rattle.turn_client_laws.proofs.Common.{arith}
use Rattle.turn_client_laws.proofs.Machine.{Stream, Allocated}
use Rattle.turn_client_laws.proofs.AnyStreamsLemmas.{both_with, pair-cond, with_streams}
use Rattle.turn_client_tcp.specs.Over.{IsClientOver}
use Rattle.turn_client_proto.proofs.ControlLemmas.{Follows, left, same}

abandon-alike : (x : List Stream) (now : ℕ) (s : State) → abandon_step now (with_streams x s) ≡ both_with x (abandon_step now s)
abandon-alike x now s = pair-cond x (is_allocated s.phase) _ _ _ _ refl refl

module _ {s was t u : State} (led : Follows s was t u) {E : Type 0} (r : Result (Option (Transmit (List ℕ))) E) where
  pub abandon-said : (now : ℕ) → IfOk r (λ packet. packet ≡ (abandon_step now was).0) → IfOk r (λ packet. packet ≡ (abandon_step now s).0)
  abandon-said now = subst (λ p. IfOk r (λ packet. packet ≡ p.0)) (sym (same led (abandon_step now) (abandon-alike s.streams now was)))

  pub abandon-left : (now : ℕ) → OnOk r (t ≡ (abandon_step now was).1) → OnOk r (u ≡ (abandon_step now s).1)
  abandon-left now = on_ok_weaker r (left led (abandon_step now) (abandon-alike s.streams now was))

  pub unchanged : OnErr r (t ≡ was) → OnErr r (u ≡ s)
  unchanged = on_err_weaker r (λ e. led.after ∙ (ap (with_streams_of s) e ∙ led.before))

  pub abandon-due : OnErr r (was.phase ≡ Allocated) → OnErr r (s.phase ≡ Allocated)
  abandon-due = on_err_weaker r (subst (λ (v : State). v.phase ≡ Allocated) led.before)

-- what holds after either of two steps holds after the one that is made
after-either : {A : Type 0} (P : State → Type 0) (b : Bool) (x y : A × State) → P x.1 → P y.1 → P (cond b x y).1
after-either P true x y h k = h
after-either P false x y h k = k

pub abandon-IsClientOver : (transport : TransportType) (now : ℕ) (s : State) → IsClientOver transport s → IsClientOver transport (abandon_step now s).1
abandon-IsClientOver transport now s h =
    after-either (IsClientOver transport) (is_allocated s.phase) _ _
    (record {
      carrier = h.carrier;
      relays = h.relays;
      no_streams = h.no_streams;
      fits_phase = (λ new. cc, λ begun. absurd begun, λ some. cc, λ ungranted. absurd ungranted);
      have_allocations = (λ k g less. absurd (omega (arith, less)), λ k l less. absurd (omega (arith, less)));
    })
    (record {
      carrier = h.carrier;
      relays = h.relays;
      no_streams = h.no_streams;
      fits_phase = (λ new. cc, λ begun. absurd begun, λ some. cc, λ ungranted. absurd ungranted);
      have_allocations = (λ k g less. absurd (omega (arith, less)), λ k l less. absurd (omega (arith, less)));
    })

pub abandon-keeps : {transport : TransportType} {s u : State} {E : Type 0} (r : Result (Option (Transmit (List ℕ))) E) (now : ℕ)
    → OnOk r (u ≡ (abandon_step now s).1) → OnErr r (u ≡ s) → IsClientOver transport s → IsClientOver transport u
abandon-keeps {transport} {s} (Ok x) now e f h = subst (IsClientOver transport) (sym e) (abandon-IsClientOver transport now s h)
abandon-keeps {transport} (Err x) now e f h = subst (IsClientOver transport) (sym f) h
