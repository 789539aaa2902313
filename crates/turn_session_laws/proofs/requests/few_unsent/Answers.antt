use Rattle.std.proofs.Common.{◌≡◌, ℕ, Bool, Option, Some, None, true, false, refl}
use Rattle.turn_stun.specs.declared.transport.TransportType.{TransportType}
use Rattle.turn_session_book.specs.Keys.{permission_for}
use Rattle.turn_session_book.specs.declared.keys.Key.{Key}
use Rattle.turn_session_book.specs.declared.keys.Key.TheVariants.{Permission, Channel, Connect}
use Rattle.turn_session_book.specs.declared.open_requests.OpenRequest.{OpenRequest}
use Rattle.turn_session_client.specs.Asking.{begun, begun_over, lacks_permission}
use Rattle.turn_session_client.specs.NotedState.{NotedState}
use Rattle.turn_session_client.specs.Notes.{is_asked}
use Rattle.turn_session_client.specs.Permitting.{first_permitted, permission_taken, permitted_noted}
use Rattle.turn_session_client.specs.Polling.{next_made}
use Rattle.turn_session_client.specs.Waiting.{is_full}
use Rattle.turn_session_laws.proofs.requests.few_unsent.Goals as goal

abbrev relaying : Option TransportType → NotedState → NotedState
relaying relays s = record s { notes = record s.notes { relays = relays } }

new-over : (key : Key) (relays : TransportType) (now : ℕ) (s : NotedState) (lacks : Bool) → lacks_permission key relays s ≡ lacks → is_full s ≡ true
    → (begun_over key relays now s).1.client ≡ s.client
new-over key relays now s true lacks full = rw lacks refl
new-over key relays now s false lacks full = rw (lacks, full) refl

new-at : (key : Key) (now : ℕ) (s : NotedState) (relays : Option TransportType) → is_full s ≡ true → (begun key now (relaying relays s)).1.client ≡ s.client
new-at key now s None full = refl
new-at key now s (Some relays) full =
    let t = relaying (Some relays) s in new-over key relays now t (lacks_permission key relays t) refl full

waiting-at : (now : ℕ) (s : NotedState) (relays : Option TransportType) → is_full s ≡ true → next_made now (relaying relays s) ≡ (false, relaying relays s)
waiting-at now s None full = refl
waiting-at now s (Some relays) full = rw full refl

-- ---- a permission that another request needs is granted

taken-at : (key permission : Key) (s : NotedState) (is_question : Bool) → is_asked permission s.notes ≡ is_question
    → (permission_taken key permission s).client ≡ s.client
taken-at key permission s true asked = rw asked refl
taken-at (Permission ip) permission s false asked = rw asked refl
taken-at (Channel peer) permission s false asked = rw asked refl
taken-at (Connect peer) permission s false asked = rw asked refl

permitted-at : (s : NotedState) (first : Option OpenRequest) → first_permitted s ≡ first → (permitted_noted s).1.client ≡ s.client
permitted-at s (Some r) f = rw f (taken-at r.key (permission_for r.key) s (is_asked (permission_for r.key) s.notes) refl)
permitted-at s None f = rw f refl

pub returns : goal.returns
returns c = record {
  new = λ key now s full. new-at key now s s.notes.relays full;
  waiting = λ now s full. waiting-at now s s.notes.relays full;
  permitted = λ s. permitted-at s (first_permitted s) refl;
}
