-- What the allocations relay over stays.
use Rattle.std.proofs.Common.{◌≡◌, ℕ, List, Option, Some, None, ap, inr, ◌∙◌}
use Rattle.turn_client_api.specs.State.{State}
use Rattle.turn_client_api.specs.declared.call.Call.{Call}
use Rattle.turn_client_proto.proofs.CarrierLemmas.{leaves-SameCarriers}
use Rattle.turn_client_proto.proofs.RunLemmas.{relays_stay}
use Rattle.turn_c_calls.specs.Held.{Held}
use Rattle.turn_c_calls.specs.Step.{Does, Fails}
use Rattle.turn_c_calls.specs.declared.answer.Answer.{Answer}

abbrev pub SameRelays : Held → Held → Type 0
SameRelays was now = now.client.config.allocation_transport ≡ was.client.config.allocation_transport

pub does_kept : (call : Option Call) (index : ℕ) (was now : Held) (buffer after : List ℕ) (a b : Answer)
    → Does call index was now buffer after a b → SameRelays was now
does_kept None index was now buffer after a b h = ap (λ (s : State). s.config.allocation_transport) h.client
does_kept (Some call) index was now buffer after a b h =
    ap (λ (s : State). s.config.allocation_transport) h.client ∙ relays_stay call was.client

pub fails_kept : (call : Option Call) (was now : Held) (buffer after : List ℕ) → Fails call was now buffer after → SameRelays was now
fails_kept None was now buffer after h = absurd h
fails_kept (Some call) was now buffer after h = (leaves-SameCarriers call was.client now.client (inr h.client.0)).1
