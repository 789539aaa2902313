-- What remains when an offer is removed.
use Rattle.turn_client_laws.proofs.Common.{◌≡◌, ℕ, Bool, true, false, List, [], ◌∷◌, inl, inr, refl, arith, SocketAddr, cases_Bool}
use Rattle.turn_client_laws.proofs.Machine.{Grant, Purpose, is_for, is_offer_of, without_first, Has}

pub was-first : (which : Grant → Bool) (g : Grant) (gs : List Grant) → Has g (without_first which gs) → Has g gs
was-first which g [] none = absurd none
was-first which g (x ∷ xs) there = by (which x) refl (was-first which g xs)
  where
    by : (b : Bool) → which x ≡ b → (Has g (without_first which xs) → Has g xs) → Has g (x ∷ xs)
    by true e later = inr (rw e at there)
    by false e later = elim (rw e at there) [ inl same ↦ inl same | inr more ↦ inr (later more) ]

pub stays-first : (which : Grant → Bool) (g : Grant) (gs : List Grant) → Has g gs → which g ≡ false → Has g (without_first which gs)
stays-first which g [] none kept = absurd none
stays-first which g (x ∷ xs) (inl e) kept = rw (rw e at kept) (inl e)
stays-first which g (x ∷ xs) (inr there) kept =
    elim (cases_Bool (which x)) [ inl e ↦ rw e there | inr e ↦ rw e (inr (stays-first which g xs there kept)) ]

-- no request is for an offer
pub no-offer : (id : ℕ) (peer : SocketAddr) (p : Purpose) (g : Grant) → is_for p g ≡ true → is_offer_of id peer g ≡ false
no-offer id peer p g for = grind arith
