-- A reply to an ALLOCATE tells of each requested family once.
use Rattle.turn_client_laws.proofs.Common.{◌≡◌, ◌∙◌, ℕ, ◌+◌, ◌≤◌, Bool, true, false, cond, not, ◌&&◌, leb, List, [], ◌∷◌, ◌++◌, map, filter, length, refl, sym, subst, arith, inl, inr, list_any}
use Rattle.turn_client_laws.proofs.Common.{and_parts, cases_Bool, false_from_ne_true, not-true, SocketAddr}
use Rattle.turn_client_laws.proofs.Machine.{TransportType, AddressFamily, IPV4, IPV6, is_family_list, same_family, State, TurnEvent, AllocationCreated, AllocationCreateFailed, Allocation, Relay}
use Rattle.turn_client_laws.proofs.Machine.{ForAllocation, is_of_family, family_of, wait, allocate_denied, allocate_granted, allocated, closed, fail_all, family_not_supported, has_code, in_phase}
use Rattle.turn_client_laws.proofs.Machine.{missing_families, new_allocation, relayed_in, taken_addresses, lifetime_in, Authenticating, requested, Has, has-filter}
use Rattle.turn_client_laws.proofs.Laws.{by_found, by_test, any-has, has-any, same_family-true}
use Rattle.turn_client_runs.specs.Reported.{is_awaited_by, is_like, is_to_come}
use Rattle.turn_client_runs.proofs.LastingCounts.{passes, passes-append, passes-filter, passes-none}
use Rattle.turn_client_runs.proofs.ReportedCounts.{passes-over, passes-without}
use Rattle.turn_client_runs.proofs.ReportedLemmas.{Spends}

pub allocation-comes : (e : TurnEvent) (a : Relay) → is_to_come e (Allocation a) ≡ false
allocation-comes e a = grind arith

-- ---- an ALLOCATE: the requested families

-- each family that is still requested fails
failed-like : (e : TurnEvent) (family : AddressFamily) → is_like e (AllocationCreateFailed family) ≡ is_awaited_by e family
failed-like (AllocationCreated over a) family = refl
failed-like (AllocationCreateFailed other) family = refl
failed-like e family = refl

passes-same : {X : Type 0} (p q : X → Bool) → ((x : X) → p x ≡ q x) → (xs : List X) → passes p xs ≡ passes q xs
passes-same p q each [] = refl
passes-same p q each (x ∷ xs) = rw (each x) (omega (arith, passes-same p q each xs))

pub all-failed : (e : TurnEvent) (families : List AddressFamily) → passes (is_like e) (map AllocationCreateFailed families) ≡ passes (is_awaited_by e) families
all-failed e families = passes-over (is_like e) AllocationCreateFailed families ∙ passes-same (λ family. is_like e (AllocationCreateFailed family)) (is_awaited_by e) (failed-like e) families

pub fail-spends : (e : TurnEvent) (s t : State) → t.events ≡ s.events ++ map AllocationCreateFailed s.families → t.grants ≡ s.grants → t.families ≡ [] → Spends e s t
fail-spends e s t events grants families =
    rw (events, grants, families) (omega (arith, passes-append (is_like e) s.events (map AllocationCreateFailed s.families), all-failed e s.families))

module _ (family : AddressFamily) where
  abbrev awaited : AddressFamily → Bool
  awaited other = same_family family other

  abbrev of : SocketAddr → Bool
  of a = is_of_family family a

  clash : (b : Bool) → b ≡ true → b ≡ false → ⊥
  clash b h k = let both : true ≡ false = sym h ∙ k in cc

  -- one address at most for each that is requested
  taken-few : (families : List AddressFamily) (all : List SocketAddr) → passes of (taken_addresses families all) ≤ passes awaited families
  taken-few families [] = omega arith
  taken-few families (a ∷ later) = elim (cases_Bool (list_any (λ f. is_of_family f a) families)) [
    | inl wanted ↦ rw wanted (by (of a) refl (taken-few left later) (any-has (λ f. is_of_family f a) families wanted))
    | inr other ↦ rw other (taken-few families later)
  ]
    where
      left : List AddressFamily
      left = filter (λ f. not (is_of_family f a)) families

      by : (b : Bool) → of a ≡ b → passes of (taken_addresses left later) ≤ passes awaited left → (f : AddressFamily) × Has f families × (is_of_family f a ≡ true)
          → cond (of a) 1 0 + passes of (taken_addresses left later) ≤ passes awaited families
      by true is few (f, there, its) =
          let same : awaited f ≡ true = subst (λ (x : AddressFamily). same_family x f ≡ true) (same_family-true (family_of a) family is) its in
          let gone : passes awaited left + cond (awaited f) 1 0 ≤ passes awaited families = passes-without awaited (λ x. is_of_family x a) f families there its in
          let one : 1 ≤ cond (awaited f) 1 0 = rw same (omega arith) in
          rw is (omega (arith, few, gone, one))
      by false is few found = rw is (omega (arith, few, passes-filter awaited (λ f. not (is_of_family f a)) families))

  -- and one answer at most, with those that get none
  answers-few : (families : List AddressFamily) (all : List SocketAddr)
      → passes of (taken_addresses families all) + passes awaited (filter (λ f. not (list_any (is_of_family f) (taken_addresses families all))) families) ≤ passes awaited families
  answers-few families all = elim (cases_Bool (list_any of addresses)) [
    | inl some ↦ omega (arith, taken-few families all, none-missing some)
    | inr none ↦ omega (arith, none-taken none, passes-filter awaited (λ f. not (list_any (is_of_family f) addresses)) families)
  ]
    where
      addresses : List SocketAddr
      addresses = taken_addresses families all

      none-missing : list_any of addresses ≡ true → passes awaited (filter (λ f. not (list_any (is_of_family f) addresses)) families) ≡ 0
      none-missing some = passes-none awaited (filter (λ f. not (list_any (is_of_family f) addresses)) families) (λ f there. false_from_ne_true (awaited f) (λ is.
          let same = same_family-true family f is in
          let lacks = not-true (list_any (is_of_family f) addresses) (has-filter (λ x. not (list_any (is_of_family x) addresses)) f families there).1 in
          clash (list_any (is_of_family f) addresses) (subst (λ (x : AddressFamily). list_any (is_of_family x) addresses ≡ true) same some) lacks))

      none-taken : list_any of addresses ≡ false → passes of addresses ≡ 0
      none-taken none = passes-none of addresses (λ a there. false_from_ne_true (of a) (λ is. clash (list_any of addresses) (has-any of a addresses there is) none))

-- the events of an allocation are no more than the families that were requested
allocated-fits : (e : TurnEvent) (transport : TransportType) (families : List AddressFamily) (all : List SocketAddr)
    → passes (is_like e) (map (AllocationCreated transport) (taken_addresses families all))
    + passes (is_awaited_by e) (filter (λ f. not (list_any (is_of_family f) (taken_addresses families all))) families)
    ≤ passes (is_awaited_by e) families
allocated-fits (AllocationCreated over a) transport families all =
    omega (arith, passes-over (is_like (AllocationCreated over a)) (AllocationCreated transport) (taken_addresses families all), answers-few (family_of a) families all)
allocated-fits (AllocationCreateFailed family) transport families all =
    omega (arith, passes-over (is_like (AllocationCreateFailed family)) (AllocationCreated transport) (taken_addresses families all), answers-few family families all)
allocated-fits e transport families all = omega (
  arith,
  passes-over (is_like e) (AllocationCreated transport) (taken_addresses families all),
  passes-none (λ a. is_like e (AllocationCreated transport a)) (taken_addresses families all) (λ a there. refl),
  passes-filter (is_awaited_by e) (λ f. not (list_any (is_of_family f) (taken_addresses families all))) families,
)

-- IPv4 of two families fails, and IPv6 is requested again
denied-fits : (e : TurnEvent) (families : List AddressFamily) → is_family_list families ≡ true → leb 2 (length families) ≡ true
    → cond (is_like e (AllocationCreateFailed IPV4)) 1 0 + passes (is_awaited_by e) (IPV6 ∷ []) ≤ passes (is_awaited_by e) families
denied-fits e (IPV4 ∷ IPV6 ∷ []) list two = rw (failed-like e IPV4) (omega arith)
denied-fits e (IPV6 ∷ IPV4 ∷ []) list two = rw (failed-like e IPV4) (omega arith)
denied-fits e families list two = cc

-- while an ALLOCATE is answered, each family is requested once
abbrev pub IsSettled : State → Type 0
IsSettled s = s.phase ≡ Authenticating → is_family_list s.families ≡ true

module _ (e : TurnEvent) where
  allocated-spends : (lifetime : ℕ) (all : List SocketAddr) (now : ℕ) (s t : State)
      → t.events ≡ (s.events ++ map (AllocationCreated s.config.allocation_transport) (taken_addresses s.families all))
      ++ map AllocationCreateFailed (missing_families (taken_addresses s.families all) s)
      → t.grants ≡ s.grants ++ map (new_allocation lifetime now) (taken_addresses s.families all) → t.families ≡ [] → Spends e s t
  allocated-spends lifetime all now s t events grants families =
      let addresses = taken_addresses s.families all in
      let created = map (AllocationCreated s.config.allocation_transport) addresses in
      let lost = missing_families addresses s in
      rw (events, grants, families) (omega (
        arith,
        passes-append (is_like e) (s.events ++ created) (map AllocationCreateFailed lost),
        passes-append (is_like e) s.events created,
        all-failed e lost,
        allocated-fits e s.config.allocation_transport s.families all,
        passes-append (is_to_come e) s.grants (map (new_allocation lifetime now) addresses),
        passes-over (is_to_come e) (new_allocation lifetime now) addresses,
        passes-none (λ a. is_to_come e (new_allocation lifetime now a)) addresses (λ a there. allocation-comes e _),
      ))

  pub granted-spends : (message : List ℕ) (now : ℕ) (s : State) → Spends e s (allocate_granted message now s)
  granted-spends message now s =
      by_found (Spends e s) (λ lifetime. allocated lifetime (taken_addresses s.families (relayed_in message)) now s) (lifetime_in message) (closed (fail_all s))
      (λ lifetime is. allocated-spends lifetime (relayed_in message) now s (allocated lifetime (taken_addresses s.families (relayed_in message)) now s) refl refl refl)
      (fail-spends e s (closed (fail_all s)) refl refl refl)

  denied-again : (s t : State) → is_family_list s.families ≡ true → leb 2 (length s.families) ≡ true
      → t.events ≡ s.events ++ AllocationCreateFailed IPV4 ∷ [] → t.grants ≡ s.grants → t.families ≡ IPV6 ∷ []
      → Spends e s t
  denied-again s t list two events grants families =
      rw (events, grants, families) (omega (arith, denied-fits e s.families list two, passes-append (is_like e) s.events (AllocationCreateFailed IPV4 ∷ [])))

  pub denied-spends : (fresh : ℕ) (message : List ℕ) (now : ℕ) (s : State) → is_family_list s.families ≡ true → Spends e s (allocate_denied fresh message now s)
  denied-spends fresh message now s list =
      by_test (Spends e s) (has_code family_not_supported message && leb 2 (length s.families)) again (closed (fail_all s))
      (λ f. denied-again s again list (and_parts (has_code family_not_supported message) (leb 2 (length s.families)) f).1 refl refl refl)
      (λ f. fail-spends e s (closed (fail_all s)) refl refl refl)
    where
      again : State
      again = requested fresh ForAllocation now (wait (AllocationCreateFailed IPV4 ∷ []) (record (in_phase s.phase s) { families = IPV6 ∷ [] }))
