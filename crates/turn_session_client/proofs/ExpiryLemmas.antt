-- Memory is wanted only where something is noted.
use Rattle.std.proofs.Common.{◌≡◌, ℕ, true, Option, Some, None, refl}
use Rattle.turn_session_book.specs.OpenRequests.{first_closed, first_denied}
use Rattle.turn_session_book.specs.declared.keys.Key.{Key}
use Rattle.turn_session_book.specs.declared.open_requests.OpenRequest.{OpenRequest}
use Rattle.turn_session_client.specs.Expiring.{ClosedWaits, ExpiryWaits, closed_noted, expiry_noted, first_expired}
use Rattle.turn_session_client.specs.NotedState.{NotedState}
use Rattle.turn_session_client.specs.Permitting.{DeniedWaits, PermittedWaits, denied_noted, first_permitted, permitted_noted}

permitted-noted : (was s : NotedState) (first : Option OpenRequest) → first_permitted was ≡ first → PermittedWaits was s
    → (permitted_noted was).0 ≡ true
permitted-noted was s (Some r) f h = rw f refl
permitted-noted was s None f h = absurd (rw f at h)

denied-noted : (now : ℕ) (was s : NotedState) (first : Option OpenRequest) → first_denied was.notes.book.requests ≡ first → DeniedWaits now was s
    → (denied_noted now was).0 ≡ true
denied-noted now was s (Some r) f h = rw f refl
denied-noted now was s None f h =
    rw f (permitted-noted was s (first_permitted was) refl (rw f at h))

closed-noted : (now : ℕ) (was s : NotedState) (first : Option OpenRequest) → first_closed was.notes.book.requests ≡ first → ClosedWaits now was s
    → (closed_noted now was).0 ≡ true
closed-noted now was s (Some r) f h = rw f refl
closed-noted now was s None f h = rw f (denied-noted now was s (first_denied was.notes.book.requests) refl (rw f at h))

pub expiry-noted : (now : ℕ) (was s : NotedState) (first : Option Key) → first_expired was ≡ first → ExpiryWaits now was s
    → (expiry_noted now was).0 ≡ true
expiry-noted now was s (Some key) f h = rw f refl
expiry-noted now was s None f h = rw f (closed-noted now was s (first_closed was.notes.book.requests) refl (rw f at h))
