-- What leads from keys to the rows of a list.
use Rattle.std.specs.Prelude.{◌≡◌, Bool, List, filter, find, Option, option_to_list}

-- Each key leads to the row that passes its test, of which there is at most one.
unfoldable pub IsIndex : {K G : Type 0} → (K → G → Bool) → (K → Option G) → List G → Type 0
IsIndex {K} test find rows = (k : K) → filter (test k) rows ≡ option_to_list (find k)

-- what a scan of the rows finds
abbrev pub scan : {K G : Type 0} → (K → G → Bool) → List G → K → Option G
scan test rows k = find (test k) rows
