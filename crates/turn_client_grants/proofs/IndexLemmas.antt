-- What leads from keys to the rows of a list, as rows are added and removed.
use Rattle.std.specs.Prelude.{◌≡◌, Bool, true, false, cond, not, is_some, List, [], ◌∷◌, ◌++◌, map, filter, filter_map, find, slice_get, Option, Some, None, option_map, option_to_list}
use Rattle.std.specs.Prelude.{option_and_then, refl}
use Rattle.std.specs.List.{list_any}
use Rattle.std.proofs.lemmas.Map.Entries.{option_filter}
use Rattle.std.proofs.Common.{ap, arith, sym, ◌∙◌, append-nil}
use Rattle.std.proofs.lemmas.List.Elements.{filter-append}
use Rattle.turn_client_grants.specs.Index.{IsIndex, scan}

module _ {G : Type 0} where
  -- ---- tests and lists

  -- a test that fails if `f` gives nothing may be made before `f`
  filter_map-through : {X : Type 0} (f : G → Option X) (test : G → Bool) → ((g : G) → test g ≡ false → f g ≡ None) → (gs : List G) → filter_map f gs ≡ filter_map f (filter test gs)
  filter_map-through f test h [] = refl
  filter_map-through f test h (g ∷ gs) = grind (arith, h g, filter_map-through f test h gs)

  list_any-filter : (test : G → Bool) (gs : List G) → list_any test gs ≡ is_some (slice_get (filter test gs) 0)
  list_any-filter test [] = refl
  list_any-filter test (g ∷ gs) = grind (arith, list_any-filter test gs)

  filter-filter_out : (test which : G → Bool) (b : Bool) → ((g : G) → test g ≡ true → which g ≡ b) → (gs : List G) → filter test (filter (λ g. not (which g)) gs) ≡ cond b [] (filter test gs)
  filter-filter_out test which true h [] = refl
  filter-filter_out test which false h [] = refl
  filter-filter_out test which b h (g ∷ gs) = grind (arith, h g, filter-filter_out test which b h gs)

  filter-map_same : (test : G → Bool) (h : G → G) → ((g : G) → test (h g) ≡ test g) → (gs : List G) → filter test (map h gs) ≡ map h (filter test gs)
  filter-map_same test h same [] = refl
  filter-map_same test h same (g ∷ gs) = grind (arith, same g, filter-map_same test h same gs)

  filter-filter : (test passes : G → Bool) (gs : List G) → filter test (filter passes gs) ≡ filter passes (filter test gs)
  filter-filter test passes [] = refl
  filter-filter test passes (g ∷ gs) = grind (arith, filter-filter test passes gs)

  -- ---- at most one

  first-of : (found : Option G) (g : G) (gs : List G) → g ∷ gs ≡ option_to_list found → found ≡ Some g
  first-of found g gs h = grind arith

  -- ---- reading

  module _ {K : Type 0} (test : K → G → Bool) where
    pub first-by_index : {X : Type 0} (f : G → Option X) (find : K → Option G) (rows : List G) (k : K) → IsIndex test find rows → ((g : G) → test k g ≡ false → f g ≡ None)
        → slice_get (filter_map f rows) 0 ≡ option_and_then f (find k)
    unfolding IsIndex
    first-by_index {X} f find rows k is h = rw (filter_map-through f (test k) h rows, is k) (by (find k))
      where
        by : (found : Option G) → slice_get (filter_map f (option_to_list found)) 0 ≡ option_and_then f found
        by found = grind arith

    pub any-by_index : (find : K → Option G) (rows : List G) (k : K) → IsIndex test find rows → list_any (test k) rows ≡ is_some (find k)
    unfolding IsIndex
    any-by_index find rows k is = rw (list_any-filter (test k) rows, is k) (by (find k))
      where
        by : (found : Option G) → is_some (slice_get (option_to_list found) 0) ≡ is_some found
        by found = grind arith

    -- ---- rows are added and removed

    pub index-pushed : (find then : K → Option G) (rows : List G) (g : G) (is_at : K → Bool) → IsIndex test find rows
        → ((k : K) → then k ≡ cond (is_at k) (Some g) (find k)) → ((k : K) → test k g ≡ is_at k) → ((k : K) → is_at k ≡ true → find k ≡ None)
        → IsIndex test then (rows ++ g ∷ [])
    unfolding IsIndex
    index-pushed find then rows g is_at is now at free k = rw (filter-append (test k) rows (g ∷ []), is k, at k, now k) (by (is_at k) refl)
      where
        by : (b : Bool) → is_at k ≡ b → option_to_list (find k) ++ cond b (g ∷ []) [] ≡ option_to_list (cond b (Some g) (find k))
        by true e = rw (free k e) refl
        by false e = append-nil (option_to_list (find k))

    pub index-pushed_other : (find : K → Option G) (rows : List G) (g : G) → IsIndex test find rows → ((k : K) → test k g ≡ false) → IsIndex test find (rows ++ g ∷ [])
    unfolding IsIndex
    index-pushed_other find rows g is other k = rw (filter-append (test k) rows (g ∷ []), other k) (append-nil (filter (test k) rows) ∙ is k)

    pub index-removed : (find then : K → Option G) (rows : List G) (which : G → Bool) (is_at : K → Bool) → IsIndex test find rows
        → ((k : K) → then k ≡ cond (is_at k) None (find k)) → ((k : K) (g : G) → test k g ≡ true → which g ≡ is_at k)
        → IsIndex test then (filter (λ g. not (which g)) rows)
    unfolding IsIndex
    index-removed find then rows which is_at is now at k = rw (filter-filter_out (test k) which (is_at k) (at k) rows, is k, now k) (by (is_at k))
      where
        by : (b : Bool) → cond b [] (option_to_list (find k)) ≡ option_to_list (cond b None (find k))
        by b = grind arith

    -- rows change in their places, and keep their keys
    pub index-changed : (find then : K → Option G) (rows : List G) (h : G → G) → IsIndex test find rows
        → ((k : K) → then k ≡ option_map h (find k)) → ((k : K) (g : G) → test k (h g) ≡ test k g)
        → IsIndex test then (map h rows)
    unfolding IsIndex
    index-changed find then rows h is now same k = rw (filter-map_same (test k) h (same k) rows, is k, now k) (by (find k))
      where
        by : (found : Option G) → map h (option_to_list found) ≡ option_to_list (option_map h found)
        by found = grind arith

    -- the rows that pass stay
    pub index-filtered : (find then : K → Option G) (rows : List G) (passes : G → Bool) → IsIndex test find rows
        → ((k : K) → then k ≡ option_filter passes (find k)) → IsIndex test then (filter passes rows)
    unfolding IsIndex
    index-filtered find then rows passes is now k = rw (filter-filter (test k) passes rows, is k, now k) (by (find k))
      where
        by : (found : Option G) → filter passes (option_to_list found) ≡ option_to_list (option_filter passes found)
        by found = grind arith

    pub index-same : (find then : K → Option G) (rows : List G) → IsIndex test find rows → ((k : K) → then k ≡ find k) → IsIndex test then rows
    unfolding IsIndex
    index-same find then rows is same k = rw (same k) (is k)

    pub index-found : (find : K → Option G) (rows : List G) (k : K) (g : G) → IsIndex test find rows → find k ≡ Some g → filter (test k) rows ≡ g ∷ []
    unfolding IsIndex
    index-found find rows k g is found = is k ∙ rw found refl

    -- the only row that passes a test is the one that another map leads to
    pub index-agrees : (other : G → Bool) (find : K → Option G) (rows : List G) (k : K) (g : G) → IsIndex test find rows → filter other rows ≡ g ∷ [] → test k g ≡ true → find k ≡ Some g
    unfolding IsIndex
    index-agrees other find rows k g is alone passes = by (find k) both
      where
        both : filter other (option_to_list (find k)) ≡ g ∷ []
        both = rw (← is k) (filter-filter other (test k) rows ∙ (rw (alone, passes) refl))

        by : (found : Option G) → filter other (option_to_list found) ≡ g ∷ [] → found ≡ Some g
        by found e = grind arith

    -- ---- by a scan

    -- a scan finds the only row that passes
    found-alone : (p : G → Bool) (rows : List G) (found : Option G) → filter p rows ≡ option_to_list found → find p rows ≡ found
    found-alone p [] None alone = refl
    found-alone p [] (Some g) alone = cc
    found-alone p (g ∷ rows) found alone = by (p g) refl (found-alone p rows found)
      where
        by : (b : Bool) → p g ≡ b → (filter p rows ≡ option_to_list found → find p rows ≡ found) → find p (g ∷ rows) ≡ found
        by true e next = rw e (sym (first-of found g (filter p rows) (rw e at alone)))
        by false e next = rw e (next (rw e at alone))

    -- what leads from the keys to the rows tells what a scan finds
    pub index-scanned : (map : K → Option G) (rows : List G) → IsIndex test map rows → IsIndex test (scan test rows) rows
    unfolding IsIndex
    index-scanned map rows is k = is k ∙ sym (ap option_to_list (found-alone (test k) rows (map k) (is k)))
