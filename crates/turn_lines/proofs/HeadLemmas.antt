-- The client of a head can be made: over UDP it requests an allocation over UDP.
use Rattle.std.proofs.Common.{◌≡◌, ℕ, Bool, List, Option, Some, refl, subst}
use Rattle.std.specs.Option.{option_and_then}
use Rattle.turn_stun.specs.declared.transport.TransportType.{TransportType}
use Rattle.turn_stun.specs.declared.transport.TransportType.TheVariants.{Udp, Tcp}
use Rattle.turn_auth.specs.Credentials.{Credentials}
use Rattle.turn_client_calls.specs.Checks.{◌>>=◌}
use Rattle.turn_client_calls.specs.Settings.{relayed_for}
use Rattle.turn_client_calls.specs.declared.settings.Ends.{Ends}
use Rattle.turn_client_calls.specs.declared.settings.Request.{Request}
use Rattle.turn_client_calls.specs.declared.settings.Waits.{Waits}
use Rattle.turn_lines.specs.Field.{seed_of}
use Rattle.turn_lines.specs.Head.{credentials_of, ends_of, head_of, request_of, timing_of}
use Rattle.turn_lines.specs.Parts.{next, parts_of}
use Rattle.turn_lines.specs.declared.head.Head.{Head}
use Rattle.turn_lines.proofs.StepLemmas.{of_and_then, some_is}

abbrev pub IsMade : Head → Type 0
IsMade head = head.ends.transport ≡ Udp → head.request.allocation ≡ Udp

-- the head made of these fields
abbrev head_with : Ends → Request → Credentials → List ℕ → Option Waits × Bool → Head
head_with places request credentials seed timing =
    record { ends = places; request = request; credentials = credentials; seed = seed; waits = timing.0; timed_from_send = timing.1 }

abbrev with_timing : Ends → Request → Credentials → List ℕ → Option Waits × Bool → Option Head
with_timing places request credentials seed timing = Some (head_with places request credentials seed timing)

abbrev with_seed : Ends → Request → Credentials → List ℕ × List (List ℕ) → Option Head
with_seed places request credentials seed = timing_of seed.1 >>= with_timing places request credentials seed.0

abbrev with_credentials : Ends → Request → Credentials × List (List ℕ) → Option Head
with_credentials places request credentials = next seed_of credentials.1 >>= with_seed places request credentials.0

abbrev with_request : Ends → Request × List (List ℕ) → Option Head
with_request places request =
    relayed_for places.transport request.0.allocation >>= λ _. credentials_of request.1 >>= with_credentials places request.0

abbrev with_ends : Ends × List (List ℕ) → Option Head
with_ends places = request_of places.1 >>= with_request places.0

-- the check of both transports succeeded
relayed_is : (transport allocation : TransportType) (f : Unit {0} → Option Head) (head : Head) → option_and_then f (relayed_for transport allocation) ≡ Some head → transport ≡ Udp → allocation ≡ Udp
relayed_is Udp Udp f head h over = refl
relayed_is Udp Tcp f head h over = cc
relayed_is Tcp allocation f head h over = cc

-- the head was made of these fields
made_of : (places : Ends) (request : Request) (credentials : Credentials) (seed : List ℕ) (timing : Option Waits × Bool) (head : Head)
    → with_timing places request credentials seed timing ≡ Some head
    → (places.transport ≡ Udp → request.allocation ≡ Udp) → IsMade head
made_of places request credentials seed timing head h made =
    subst IsMade (some_is (head_with places request credentials seed timing) head h) made

made_with : (places : Ends) (request : Request × List (List ℕ)) (head : Head) → with_request places request ≡ Some head → IsMade head
made_with places request head h =
    let go_on = λ (_ : Unit {0}). credentials_of request.1 >>= with_credentials places request.0 in
    let relayed = of_and_then (relayed_for places.transport request.0.allocation) go_on head h in
    let credentials = of_and_then (credentials_of request.1) (with_credentials places request.0) head relayed.1 in
    let seed = of_and_then (next seed_of credentials.0.1) (with_seed places request.0 credentials.0.0) head credentials.1 in
    let timing = of_and_then (timing_of seed.0.1) (with_timing places request.0 credentials.0.0 seed.0.0) head seed.1 in
    made_of places request.0 credentials.0.0 seed.0.0 timing.0 head timing.1 (relayed_is places.transport request.0.allocation go_on head h)

pub made_line : (line : List ℕ) (head : Head) → head_of line ≡ Some head → IsMade head
unfolding head_of
made_line line head h =
    let places = of_and_then (ends_of (parts_of 32 line)) with_ends head h in
    let request = of_and_then (request_of places.0.1) (with_request places.0.0) head places.1 in
    made_with places.0.0 request.0 head request.1
