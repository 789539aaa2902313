-- A connection is bound by a signed success on it.
use Rattle.turn_client_laws.proofs.Common.{◌≡◌, ℕ, true, List, [], ◌∷◌, Some, refl, sym, subst, ap, inl, inr, list_any, SocketAddr, cases_Bool}
use Rattle.turn_client_laws.proofs.Machine.{id_of, Success, same_address, State, Waiting, Stream, Purpose, ForBind, purposes_of, is_bind_of, is_message, same_address-true, Has}
use Rattle.turn_client_laws.specs.Handled.{Input}
use Rattle.turn_client_laws.specs.LawsBound.{IsBindInput}
use Rattle.turn_client_laws.proofs.CaseLemmas.{found-local}
use Rattle.turn_client_laws.proofs.ChallengeJudgement.{AnswersBind, IsSignedReply, bind-says}
use Rattle.turn_client_laws.proofs.StandLemmas.{has-contains}
use Rattle.turn_client_laws.proofs.GrantOriginCallLemmas.{Binds}

-- ---- for which connection its request was made

-- a purpose to bind the connection from this local address
abbrev IsAsked : SocketAddr → List Purpose → Type 0
IsAsked local purposes = (peer : SocketAddr) × (number : ℕ) × Has (ForBind local peer number) purposes

asked-later : (local : SocketAddr) (p : Purpose) (purposes : List Purpose) → IsAsked local purposes → IsAsked local (p ∷ purposes)
asked-later local p purposes (peer, number, there) = (peer, number, inr there)

for-bind : (local : SocketAddr) (purposes : List Purpose) → list_any (is_bind_of local) purposes ≡ true → IsAsked local purposes
for-bind local [] e = cc
for-bind local (ForBind other peer number ∷ purposes) e = elim (cases_Bool (same_address other local)) [
  | inl f ↦ (peer, number, inl (ap (λ x. ForBind x peer number) (sym (same_address-true other local f))))
  | inr f ↦ asked-later local (ForBind other peer number) purposes (for-bind local purposes (rw f at e))
]
for-bind local (x ∷ purposes) e = asked-later local x purposes (for-bind local purposes e)

-- the input of a message that binds the connection
pub binds-input : (one : Input) (stream : Stream) (t : State) → one.stream ≡ Some stream → stream.mode ≡ Waiting → is_message one.bytes ≡ true → (b : Binds stream.local one.bytes one.before t)
    → IsBindInput stream.local b.c.peer one
binds-input one stream t of waits whole b = record {
  over = rw of (waits, refl);
  whole = whole;
  method = b.method;
  connection = b.c;
  found = b.found;
  to = refl;
  success = granted.1.class_is;
  signed = granted.1.signed;
  outstanding = granted.1.outstanding;
  asked = asked.0;
  number = asked.1;
  listed = has-contains (ForBind stream.local asked.0 asked.1) purposes asked.2;
}
  where
    purposes : List Purpose
    purposes = purposes_of (id_of one.bytes) one.before

    granted : AnswersBind b.c.local one.bytes one.before × IsSignedReply Success one.bytes one.before
    granted = rw b.judged at (bind-says one.before b.c.local one.bytes)

    asked : IsAsked stream.local purposes
    asked = for-bind stream.local purposes (subst (λ (x : SocketAddr). list_any (is_bind_of x) purposes ≡ true) (found-local stream.local b.c _ b.found) granted.0)
