-- The addresses that are taken, one after the other.
use Rattle.turn_client_laws.proofs.Common.{◌≡◌, ℕ, Bool, true, false, cond, if◌then◌else◌, not, map, ◌&&◌, ◌||◌, List, [], ◌∷◌, ◌++◌, filter, refl, sym, ap, ◌∙◌, append_assoc, list_any-append}
use Rattle.turn_client_laws.proofs.Common.{list_all, list_any, SocketAddr}
use Rattle.turn_client_laws.proofs.Machine.{AddressFamily, IPV4, IPV6, same_family, new_allocation, taken_addresses, Grant, family_of, is_of_family}
use Rattle.turn_client_laws.proofs.Laws.{none-filter}
use Rattle.turn_client_grants.specs.Table.{are_apart, are_new, has_no_double}
use Rattle.turn_client_core.specs.Allocated.{IsRead, missing}
use Rattle.turn_client_core.proofs.incoming.RetryLemmas.{none-filtered}

module _ {X : Type 0} (p q : X → Bool) where
  -- a test among those that pass another
  pub any-filter : (xs : List X) → list_any p (filter q xs) ≡ list_any (λ x. q x && p x) xs
  any-filter [] = refl
  any-filter (x ∷ xs) = by (q x) (any-filter xs)
    where
      by : (b : Bool) → list_any p (filter q xs) ≡ list_any (λ y. q y && p y) xs → list_any p (cond b (x ∷ filter q xs) (filter q xs)) ≡ ((b && p x) || list_any (λ y. q y && p y) xs)
      by true later = ap (λ b. p x || b) later
      by false later = later

  -- two tests, one after the other
  filter-filter : (xs : List X) → filter p (filter q xs) ≡ filter (λ x. q x && p x) xs
  filter-filter [] = refl
  filter-filter (x ∷ xs) = by (q x) (filter-filter xs)
    where
      both : List X
      both = filter (λ y. q y && p y) xs

      by : (b : Bool) → filter p (filter q xs) ≡ both → filter p (cond b (x ∷ filter q xs) (filter q xs)) ≡ cond (b && p x) (x ∷ both) both
      by true later = ap (λ ys. cond (p x) (x ∷ ys) ys) later
      by false later = later

not-or : (a b : Bool) → not (a || (b || false)) ≡ (not a && not b)
not-or false true = refl
not-or a b = refl

-- before any address is taken
pub missing-none : (families : List AddressFamily) → missing [] families ≡ families
missing-none [] = refl
missing-none (family ∷ others) = ap (λ later. family ∷ later) (missing-none others)

module _ (address : SocketAddr) (taken : List SocketAddr) (families : List AddressFamily) where
  -- a family of which an address is taken is no longer missing
  missing-more : missing (taken ++ (address ∷ [])) families ≡ filter (λ family. not (is_of_family family address)) (missing taken families)
  missing-more =
      let among = λ (family : AddressFamily). ap not (list_any-append (is_of_family family) taken (address ∷ []))
      ∙ not-or (list_any (is_of_family family) taken) (is_of_family family address) in
      ap (λ test. filter test families) (λ i family. among family i)
      ∙ sym (filter-filter (λ family. not (is_of_family family address)) (λ family. not (list_any (is_of_family family) taken)) families)

  -- whether the address is taken
  abbrev pub wanted : Bool
  wanted = list_any (λ family. not (list_any (is_of_family family) taken) && is_of_family family address) families

  wanted-is : list_any (λ family. is_of_family family address) (missing taken families) ≡ wanted
  wanted-is = any-filter (λ family. is_of_family family address) (λ family. not (list_any (is_of_family family) taken)) families

  pub taken-more : wanted ≡ true → IsRead address families taken (taken ++ (address ∷ []))
  taken-more is = λ later. rw (missing-more, wanted-is, is) (append_assoc taken (address ∷ []) _)

  pub taken-same : wanted ≡ false → IsRead address families taken taken
  taken-same is = λ later. rw (wanted-is, is) refl

-- ---- what is granted is new

same-family : (a b family : AddressFamily) → same_family a b ≡ true → same_family a family ≡ same_family b family
same-family IPV4 IPV6 family is = cc
same-family IPV6 IPV4 family is = cc
same-family a b family is = refl

module _ (lifetime now : ℕ) where
  abbrev grants_of : List SocketAddr → List Grant
  grants_of addresses = map (new_allocation lifetime now) addresses

  all-new : (addresses : List SocketAddr) → list_all (has_no_double []) (grants_of addresses) ≡ true
  all-new [] = refl
  all-new (a ∷ others) = all-new others

  -- an address of a family that is no longer requested is not taken again
  apart-from : (a : SocketAddr) (families : List AddressFamily) (addresses : List SocketAddr) → list_any (λ family. is_of_family family a) families ≡ false
      → list_all (has_no_double (new_allocation lifetime now a ∷ [])) (grants_of (taken_addresses families addresses)) ≡ true
  apart-from a families [] none = refl
  apart-from a families (b ∷ later) none = by (list_any (λ family. is_of_family family b) families) refl (apart-from a families later none)
      (apart-from a rest later (none-filtered _ _ families none))
    where
      rest : List AddressFamily
      rest = filter (λ family. not (is_of_family family b)) families

      other : list_any (λ family. is_of_family family b) families ≡ true → (same : Bool) → same_family (family_of a) (family_of b) ≡ same → same ≡ false
      other wanted false is = refl
      other wanted true is =
          let alike = ap (λ test. list_any test families) (λ i family. same-family (family_of a) (family_of b) family is i) in
          sym wanted ∙ (sym alike ∙ none)

      not-same : list_any (λ family. is_of_family family b) families ≡ true → same_family (family_of a) (family_of b) ≡ false
      not-same wanted = let same = same_family (family_of a) (family_of b) in refl ∙ other wanted same refl

      by : (wanted : Bool) → list_any (λ family. is_of_family family b) families ≡ wanted
          → list_all (has_no_double (new_allocation lifetime now a ∷ [])) (grants_of (taken_addresses families later)) ≡ true
          → list_all (has_no_double (new_allocation lifetime now a ∷ [])) (grants_of (taken_addresses rest later)) ≡ true
          → list_all (has_no_double (new_allocation lifetime now a ∷ [])) (grants_of (if wanted then b ∷ taken_addresses rest later else taken_addresses families later)) ≡ true
      by true is unwanted wanted = rw (not-same is) wanted
      by false is unwanted wanted = unwanted

  apart : (families : List AddressFamily) (addresses : List SocketAddr) → are_apart (grants_of (taken_addresses families addresses)) ≡ true
  apart families [] = refl
  apart families (a ∷ later) = by (list_any (λ family. is_of_family family a) families) (apart families later) (apart rest later)
    where
      rest : List AddressFamily
      rest = filter (λ family. not (is_of_family family a)) families

      by : (wanted : Bool) → are_apart (grants_of (taken_addresses families later)) ≡ true → are_apart (grants_of (taken_addresses rest later)) ≡ true
          → are_apart (grants_of (if wanted then a ∷ taken_addresses rest later else taken_addresses families later)) ≡ true
      by true unwanted wanted = rw (apart-from a rest later (none-filter (λ family. is_of_family family a) families)) wanted
      by false unwanted wanted = unwanted

  pub taken-new : (families : List AddressFamily) (addresses : List SocketAddr) → are_new [] (grants_of (taken_addresses families addresses)) ≡ true
  taken-new families addresses = rw (all-new (taken_addresses families addresses)) (apart families addresses)
