-- What is not kept is not refreshed, and otherwise as before.
use Rattle.turn_client_laws.proofs.Common.{arith, ◌≡◌, ℕ, Bool, true, false, List, [], ◌∷◌, map, None, refl, sym, ap, ◌∙◌, inl, inr, list_any, IpAddr, SocketAddr}
use Rattle.turn_client_laws.proofs.Machine.{State, Grant, Allocation, Permission, Channel, Pending, Active, Reserved, TransportType, is_kept, refresh_time, is_permission_of, same_transport, lasting}
use Rattle.turn_client_laws.proofs.Machine.{is_open_to, keep_step, marked, marked_if, Has, has-all}
use Rattle.turn_client_laws.specs.LawsKept.{IsSameButKept, KeepsAll}

pub unkept-never : (s : State) (g : Grant) → is_kept g ≡ false → refresh_time s g ≡ None
unfolding refresh_time
unkept-never s (Permission ip (Active lease)) e = rw e refl
unkept-never s (Channel number peer (Active lease)) e = rw e refl
unkept-never s (Allocation a) e = cc
unkept-never s (Permission ip (Pending k)) e = refl
unkept-never s (Permission ip (Reserved until)) e = refl
unkept-never s (Channel number peer (Pending k)) e = refl
unkept-never s (Channel number peer (Reserved until)) e = refl
unkept-never s g e = refl

pub marked-same : (is_kept : Bool) (g : Grant) → IsSameButKept g (marked is_kept g)
marked-same is_kept (Permission ip (Pending k)) = (refl, λ now. refl, λ transport. refl)
marked-same is_kept (Permission ip (Active lease)) = (refl, λ now. refl, λ transport. refl)
marked-same is_kept (Permission ip (Reserved until)) = (refl, λ now. refl, λ transport. refl)
marked-same is_kept (Channel number peer (Pending k)) = (refl, λ now. refl, λ transport. refl)
marked-same is_kept (Channel number peer (Active lease)) = (refl, λ now. refl, λ transport. refl)
marked-same is_kept (Channel number peer (Reserved until)) = (refl, λ now. refl, λ transport. refl)
marked-same is_kept g = (refl, λ now. refl, λ transport. refl)

-- ---- what is let go and kept again is as before

-- which grants it applies to does not depend on what is kept
abbrev pub IgnoresMarks : (Grant → Bool) → Type 0
IgnoresMarks which = (is_kept : Bool) (g : Grant) → which (marked is_kept g) ≡ which g

pub permissions-ignore : (other : IpAddr) → IgnoresMarks (is_permission_of other)
permissions-ignore other is_kept g = grind arith

pub channels-ignore : (other : SocketAddr) → IgnoresMarks (is_open_to other)
channels-ignore other is_kept g = grind arith

pub success-keeps : (expiry : ℕ) (g : Grant) → is_kept (lasting expiry g) ≡ is_kept g
success-keeps expiry g = grind arith

marked-back : (g : Grant) → is_kept g ≡ true → marked true (marked false g) ≡ g
marked-back (Permission ip (Pending k)) e = rw (sym e) refl
marked-back (Permission ip (Active lease)) e = rw (sym e) refl
marked-back (Permission ip (Reserved until)) e = refl
marked-back (Channel number peer (Pending k)) e = rw (sym e) refl
marked-back (Channel number peer (Active lease)) e = rw (sym e) refl
marked-back (Channel number peer (Reserved until)) e = refl
marked-back g e = refl

one-back : (which : Grant → Bool) → IgnoresMarks which → (g : Grant) → is_kept g ≡ true → (b : Bool) → which g ≡ b → marked_if which true (marked_if which false g) ≡ g
one-back which ignores g kept true e = rw (e, ignores false g, e) (marked-back g kept)
one-back which ignores g kept false e = rw (e, e) refl

all-back : (which : Grant → Bool) → IgnoresMarks which → (gs : List Grant) → ((g : Grant) → Has g gs → is_kept g ≡ true) → map (marked_if which true) (map (marked_if which false) gs) ≡ gs
all-back which ignores [] all = refl
all-back which ignores (g ∷ gs) all =
    rw (one-back which ignores g (all g (inl refl)) (which g) refl, all-back which ignores gs (λ h there. all h (inr there))) refl

one-there : (which : Grant → Bool) → IgnoresMarks which → (g : Grant) (b : Bool) → which g ≡ b → which (marked_if which false g) ≡ which g
one-there which ignores g true e = rw e (ignores false g ∙ e)
one-there which ignores g false e = rw e e

any-there : (which : Grant → Bool) → IgnoresMarks which → (gs : List Grant) → list_any which (map (marked_if which false) gs) ≡ list_any which gs
any-there which ignores [] = refl
any-there which ignores (g ∷ gs) = rw (one-there which ignores g (which g) refl, any-there which ignores gs) refl

pub kept-back : (transport : TransportType) (which : Grant → Bool) → IgnoresMarks which → (s : State) → KeepsAll s → (keep_step transport which true (keep_step transport which false s).1).1 ≡ s
kept-back transport which ignores s all = by (same_transport transport s.config.allocation_transport) (list_any which s.grants) refl refl
  where
    by : (a b : Bool) → same_transport transport s.config.allocation_transport ≡ a → list_any which s.grants ≡ b
        → (keep_step transport which true (keep_step transport which false s).1).1 ≡ s
    by true true e f =
        rw (e, f, e, any-there which ignores s.grants, f)
        (ap (λ (gs : List Grant). record s { grants = gs }) (all-back which ignores s.grants (λ g there. has-all (λ g. is_kept g ≡ true) g s.grants all there)))
    by true false e f = rw (e, f, e, f) refl
    by false b e f = rw (e, e) refl
