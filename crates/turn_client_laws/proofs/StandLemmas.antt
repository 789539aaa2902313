-- What is active in a list of grants, and what a change of the list leaves of it.
use Rattle.turn_client_laws.proofs.Common.{zero, suc, Bool, true, false, cond, List, [], ◌∷◌, ◌++◌, map, filter, inl, inr, refl, sym, arith, Contains}
use Rattle.turn_client_laws.proofs.Machine.{State, Grant, Has, has-append, has-filter}
use Rattle.turn_client_laws.specs.LawsGranted.{IsActiveGrant, IsSameGrant, WasActive}
use Rattle.turn_client_laws.proofs.PeerLemmas.{Contains-here, Contains-later}

-- ---- both ways to say that something is in a list

pub has-contains : {X : Type 0} (x : X) (xs : List X) → Has x xs → Contains xs x
has-contains x [] h = absurd h
has-contains x (y ∷ xs) (inl e) = rw e (Contains-here y xs)
has-contains x (y ∷ xs) (inr h) = Contains-later x y xs (has-contains x xs h)

pub contains-has : {X : Type 0} (x : X) (xs : List X) → Contains xs x → Has x xs
contains-has x [] (k, within, is) = absurd (omega (arith, within))
contains-has x (y ∷ xs) (zero, within, is) = inl (sym is)
contains-has x (y ∷ xs) (suc k, within, is) = inr (contains-has x xs (k, omega (arith, within), is))

-- ---- one grant

-- a grant that is active is kept as itself
pub kept-same : (g : Grant) → IsActiveGrant g → IsSameGrant g g
kept-same g h = grind arith

-- what is kept was active
pub kept-stood : (g h : Grant) → IsSameGrant g h → IsActiveGrant g
kept-stood g h k = grind arith

pub kept-trans : (g h i : Grant) → IsSameGrant g h → IsSameGrant h i → IsSameGrant g i
kept-trans g h i k l = grind arith

-- ---- lists

-- a grant of the list is kept as this one
abbrev pub Covers : List Grant → Grant → Type 0
Covers grants g = (is : Grant) × Has is grants × IsSameGrant is g

pub covers-stood : (s : State) (g : Grant) → Covers s.grants g → WasActive s g
covers-stood s g (is, there, kept) = (is, has-contains is s.grants there, kept)

pub covers-has : (grants : List Grant) (g : Grant) → Has g grants → IsActiveGrant g → Covers grants g
covers-has grants g there stands = (g, there, kept-same g stands)

-- All that is active in the second list was so in the first, with no earlier expiry there.
abbrev pub Left : List Grant → List Grant → Type 0
Left grants later = (g : Grant) → Has g later → IsActiveGrant g → Covers grants g

pub covers-left : (grants later : List Grant) (g : Grant) → Left grants later → Covers later g → Covers grants g
covers-left grants later g left (is, there, kept) = by (left is there (kept-stood is g kept))
  where
    by : Covers grants is → Covers grants g
    by (was, before, k) = (was, before, kept-trans was is g k kept)

pub left-same : (grants : List Grant) → Left grants grants
left-same grants = covers-has grants

pub left-trans : (a b c : List Grant) → Left a b → Left b c → Left a c
left-trans a b c first second g there stands = covers-left a b g first (second g there stands)

pub left-filter : (p : Grant → Bool) (grants : List Grant) → Left grants (filter p grants)
left-filter p grants g there stands = covers-has grants g (has-filter p g grants there).0 stands

-- none of these is active
abbrev pub IsIdle : List Grant → Type 0
IsIdle grants = (g : Grant) → Has g grants → IsActiveGrant g → ⊥

pub left-append : (grants more : List Grant) → IsIdle more → Left grants (grants ++ more)
left-append grants more idle g there stands =
    elim (has-append g grants more there) [ inl here ↦ covers-has grants g here stands | inr behind ↦ absurd (idle g behind stands) ]

-- one more that is not active
pub left-one : (grants : List Grant) (one : Grant) → (IsActiveGrant one → ⊥) → Left grants (grants ++ one ∷ [])
left-one grants one idle = left-append grants (one ∷ []) by
  where
    by : IsIdle (one ∷ [])
    by g (inl e) stands = idle (rw (sym e) stands)
    by g (inr h) stands = absurd h

covers-later : (g h : Grant) (grants : List Grant) → Covers grants g → Covers (h ∷ grants) g
covers-later g h grants (is, there, kept) = (is, inr there, kept)

-- each is changed in a way that makes nothing active, nor extends it
pub left-map : (f : Grant → Grant) → ((g : Grant) → IsActiveGrant (f g) → IsSameGrant g (f g)) → (grants : List Grant) → Left grants (map f grants)
left-map f keeps [] g there stands = absurd there
left-map f keeps (x ∷ grants) g (inl e) stands = (x, inl refl, rw e (keeps x (rw (sym e) stands)))
left-map f keeps (x ∷ grants) g (inr there) stands = covers-later g x grants (left-map f keeps grants g there stands)

-- one more grant before the first list
pub left-skip : (x : Grant) (grants later : List Grant) → Left grants later → Left (x ∷ grants) later
left-skip x grants later left g there stands = covers-later g x grants (left g there stands)

-- the first grant is changed so too
pub left-cons : (x y : Grant) (grants later : List Grant) → (IsActiveGrant y → IsSameGrant x y) → Left grants later → Left (x ∷ grants) (y ∷ later)
left-cons x y grants later keeps left g (inl e) stands = (x, inl refl, rw e (keeps (rw (sym e) stands)))
left-cons x y grants later keeps left g (inr there) stands = left-skip x grants later left g there stands

-- ---- states

-- all that is active in the second state was so in the first
abbrev pub Leaves : State → State → Type 0
Leaves s t = Left s.grants t.grants

pub leaves-same : (s : State) → Leaves s s
leaves-same s = left-same s.grants

pub leaves-trans : (s t u : State) → Leaves s t → Leaves t u → Leaves s u
leaves-trans s t u first second = left-trans s.grants t.grants u.grants first second

pub leaves-cond : (b : Bool) (s t u : State) → Leaves s t → Leaves s u → Leaves s (cond b t u)
leaves-cond true s t u k l = k
leaves-cond false s t u k l = l
