-- The queued packets.
use Rattle.turn_client_laws.proofs.Common.{◌≡◌, ℕ, List, [], ◌∷◌, ◌++◌, false, None, refl, append-nil, filter-append, not, SocketAddr}
use Rattle.turn_client_laws.proofs.Machine.{without-none, first_sent, is_outstanding, without_transaction, Transaction}
use Rattle.std.proofs.lemmas.Cmp.{nat_eq_equiv}
use Rattle.std.specs.Prelude.{◌==◌}
use Rattle.turn_client_core.specs.Outgoing.{Outgoing, answering}

pub answering_none : (o : Outgoing) → answering None o ≡ o
answering_none o = rw (append-nil o.queue) refl

-- to drop a request again is as if it was never made
pub without_begun : (id : ℕ) (to : SocketAddr) (now : ℕ) (text : List ℕ) (ts : List Transaction) → is_outstanding id ts ≡ false → without_transaction id (ts ++ first_sent id to now text ∷ []) ≡ ts
without_begun id to now text ts new =
    rw (filter-append (λ (t : Transaction). not (t.id == id)) ts (first_sent id to now text ∷ []), without-none id ts new, nat_eq_equiv.refl id, append-nil ts) refl
