-- How requests, listings and grants are added and removed.
use Rattle.turn_client_laws.proofs.Common.{◌≡◌, ◌⊎◌, Bool, true, false, not, cond, List, [], ◌∷◌, ◌++◌, map, filter, find, Some, None, refl, sym, subst, ◌∙◌, inl, inr, cases_Bool}
use Rattle.turn_client_laws.proofs.Machine.{Transaction, State, Grant, Listing, Has, filter-has, has-append, has-filter, has-left, map-has}
use Rattle.turn_client_laws.specs.LawsGone.{grant_identity}

-- ---- lists

-- what exists later existed before, or was added
abbrev pub Adds : {X : Type 0} → (X → Type 0) → List X → List X → Type 0
Adds {X} Came xs ys = (x : X) → Has x ys → Has x xs ⊎ Came x

-- whatever its progress
abbrev pub Remains : Grant → List Grant → Type 0
Remains g gs = (is : Grant) × Has is gs × (grant_identity g ≡ grant_identity is)

-- what existed before exists later, or was removed
abbrev pub Loses : (Grant → Type 0) → List Grant → List Grant → Type 0
Loses Taken gs later = (g : Grant) → Has g gs → Remains g later ⊎ Taken g

pub adds-same : {X : Type 0} (Came : X → Type 0) (xs : List X) → Adds Came xs xs
adds-same Came xs x h = inl h

pub adds-then : {X : Type 0} (Came : X → Type 0) (xs ys zs : List X) → Adds Came xs ys → Adds Came ys zs → Adds Came xs zs
adds-then {X = X} Came xs ys zs first later x h = elim (later x h) [ inl there ↦ first x there | inr came ↦ inr came ]

pub adds-filter : {X : Type 0} (Came : X → Type 0) (p : X → Bool) (xs : List X) → Adds Came xs (filter p xs)
adds-filter Came p xs x h = inl (has-filter p x xs h).0

-- more is added after
pub adds-more : {X : Type 0} (Came : X → Type 0) (xs ys more : List X) → Adds Came xs ys → ((x : X) → Has x more → Came x) → Adds Came xs (ys ++ more)
adds-more {X = X} Came xs ys more first came x h = elim (has-append x ys more h) [ inl there ↦ first x there | inr new ↦ inr (came x new) ]

pub adds-one : {X : Type 0} (Came : X → Type 0) (xs ys : List X) (one : X) → Adds Came xs ys → Came one → Adds Came xs (ys ++ one ∷ [])
adds-one {X = X} Came xs ys one first came = adds-more Came xs ys (one ∷ []) first by
  where
    by : (x : X) → Has x (one ∷ []) → Came x
    by x (inl e) = subst Came (sym e) came
    by x (inr h) = absurd h

-- what is added by the one is added by the other
pub adds-wider : {X : Type 0} (Came Other : X → Type 0) (xs ys : List X) → ((x : X) → Came x → Other x) → Adds Came xs ys → Adds Other xs ys
adds-wider {X = X} Came Other xs ys wider adds x h = elim (adds x h) [ inl there ↦ inl there | inr came ↦ inr (wider x came) ]

abbrev pub Never : {X : Type 0} → X → Type 0
Never x = ⊥

-- if nothing is added, nothing is added in any way
pub adds-never : {X : Type 0} (Came : X → Type 0) (xs ys : List X) → Adds Never xs ys → Adds Came xs ys
adds-never Came xs ys = adds-wider Never Came xs ys (λ x never. absurd never)

-- where none is found, none passes
pub none-found : {X : Type 0} (p : X → Bool) (x : X) (xs : List X) → find p xs ≡ None → Has x xs → p x ≡ false
none-found p x [] none h = absurd h
none-found p x (y ∷ xs) none h = elim (cases_Bool (p y)) [
  | inl e ↦ let no : Some y ≡ None = rw e at none in cc
  | inr e ↦ elim h [ inl is ↦ rw is e | inr there ↦ none-found p x xs (rw e at none) there ]
]

-- ---- grants

pub remains-here : (g : Grant) (gs : List Grant) → Has g gs → Remains g gs
remains-here g gs h = (g, h, refl)

pub loses-same : (Taken : Grant → Type 0) (gs : List Grant) → Loses Taken gs gs
loses-same Taken gs g h = inl (remains-here g gs h)

-- the progress of a grant does not count
abbrev pub IsOfBare : (Grant → Type 0) → Type 0
IsOfBare Taken = (g is : Grant) → grant_identity g ≡ grant_identity is → Taken is → Taken g

pub loses-then : (Taken : Grant → Type 0) → IsOfBare Taken → (gs hs is : List Grant) → Loses Taken gs hs → Loses Taken hs is → Loses Taken gs is
loses-then Taken whole gs hs later first second g h = elim (first g h) [ inl (k, there, same) ↦ at k same (second k there) | inr taken ↦ inr taken ]
  where
    at : (k : Grant) → grant_identity g ≡ grant_identity k → Remains k later ⊎ Taken k → Remains g later ⊎ Taken g
    at k same (inl (is, there, e)) = inl (is, there, same ∙ e)
    at k same (inr taken) = inr (whole g k same taken)

pub loses-filter : (Taken : Grant → Type 0) (which : Grant → Bool) (gs : List Grant) → ((g : Grant) → which g ≡ true → Taken g) → Loses Taken gs (filter (λ g. not (which g)) gs)
loses-filter Taken which gs takes g h =
    elim (cases_Bool (which g)) [ inl e ↦ inr (takes g e) | inr e ↦ inl (remains-here g _ (filter-has (λ x. not (which x)) g gs h (rw e refl))) ]

pub loses-more : (Taken : Grant → Type 0) (gs hs more : List Grant) → Loses Taken gs hs → Loses Taken gs (hs ++ more)
loses-more Taken gs hs more first g h = elim (first g h) [ inl (k, there, same) ↦ inl (k, has-left k hs more there, same) | inr taken ↦ inr taken ]

pub loses-map : (Taken : Grant → Type 0) (f : Grant → Grant) (gs : List Grant) → ((g : Grant) → grant_identity g ≡ grant_identity (f g)) → Loses Taken gs (map f gs)
loses-map Taken f gs same g h = inl (f g, map-has f g gs h, same g)

-- the first grant stays, or it is removed
pub loses-cons : (Taken : Grant → Type 0) (x y : Grant) (gs hs : List Grant) → grant_identity x ≡ grant_identity y → Loses Taken gs hs
    → Loses Taken (x ∷ gs) (y ∷ hs)
loses-cons Taken x y gs hs same loses g (inl is) = inl (y, inl refl, rw is same)
loses-cons Taken x y gs hs same loses g (inr there) = elim (loses g there) [ inl (k, here, e) ↦ inl (k, inr here, e) | inr taken ↦ inr taken ]

pub loses-one : (Taken : Grant → Type 0) (x : Grant) (gs : List Grant) → Taken x → Loses Taken (x ∷ gs) gs
loses-one Taken x gs taken g (inl is) = inr (rw is taken)
loses-one Taken x gs taken g (inr there) = inl (remains-here g gs there)

pub loses-wider : (Taken Other : Grant → Type 0) (gs hs : List Grant) → ((g : Grant) → Taken g → Other g) → Loses Taken gs hs → Loses Other gs hs
loses-wider Taken Other gs hs wider loses g h = elim (loses g h) [ inl remains ↦ inl remains | inr taken ↦ inr (wider g taken) ]

-- ---- states

-- requests and listings are added so, and grants removed so
abbrev pub Moves : (Transaction → Type 0) → (Listing → Type 0) → (Grant → Type 0) → State → State → Type 0
Moves Made Listed Taken s t =
    Adds Made s.transactions t.transactions × Adds Listed s.listed t.listed × Loses Taken s.grants t.grants

-- nothing is requested, and grants are removed so
abbrev pub Settles : (Grant → Type 0) → State → State → Type 0
Settles Taken s t = Moves Never Never Taken s t

pub settles-same : (Taken : Grant → Type 0) (s : State) → Settles Taken s s
settles-same Taken s = (adds-same Never s.transactions, adds-same Never s.listed, loses-same Taken s.grants)

pub settles-then : (Taken : Grant → Type 0) → IsOfBare Taken → (s t u : State) → Settles Taken s t → Settles Taken t u → Settles Taken s u
settles-then Taken whole s t u first later = (
  adds-then Never s.transactions t.transactions u.transactions first.0 later.0,
  adds-then Never s.listed t.listed u.listed first.1 later.1,
  loses-then Taken whole s.grants t.grants u.grants first.2 later.2,
)

pub moves-same : (Made : Transaction → Type 0) (Listed : Listing → Type 0) (Taken : Grant → Type 0) (s : State) → Moves Made Listed Taken s s
moves-same Made Listed Taken s = (adds-same Made s.transactions, adds-same Listed s.listed, loses-same Taken s.grants)

pub settles-moves : (Made : Transaction → Type 0) (Listed : Listing → Type 0) (Taken : Grant → Type 0) (s t : State) → Settles Taken s t → Moves Made Listed Taken s t
settles-moves Made Listed Taken s t (made, listed, lost) =
    (adds-never Made s.transactions t.transactions made, adds-never Listed s.listed t.listed listed, lost)

pub settles-wider : (Taken Other : Grant → Type 0) (s t : State) → ((g : Grant) → Taken g → Other g) → Settles Taken s t → Settles Other s t
settles-wider Taken Other s t wider (made, listed, lost) = (made, listed, loses-wider Taken Other s.grants t.grants wider lost)

-- a pair by a test
pub by_test : {A : Type 0} (P : State → Type 0) (b : Bool) (x y : A × State) → P x.1 → P y.1 → P (cond b x y).1
by_test P true x y k l = k
by_test P false x y k l = l

-- a value by a test
pub on_choice : {A : Type 0} (P : A → Type 0) (b : Bool) (x y : A) → P x → P y → P (cond b x y)
on_choice P true x y k l = k
on_choice P false x y k l = l

-- a state by a test
pub on_test : (P : State → Type 0) (b : Bool) (s t : State) → P s → P t → P (cond b s t)
on_test = on_choice
