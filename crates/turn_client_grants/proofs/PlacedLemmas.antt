-- The chains of a table's grants, as grants are added and change.
use Rattle.std.proofs.Common.{◌≡◌, ◌∙◌, ◌≤◌, ◌+◌, ℕ, Bool, false, List, [], ◌∷◌, ◌++◌, length, map, ap, arith, not, refl}
use Rattle.std.proofs.lemmas.List.{length-append, length-map, take-append-le}
use Rattle.std.specs.List.{list_any}
use Rattle.turn_client_grants.specs.Lists.{AreLeft}
use Rattle.std.proofs.Math.Seq.{take-append_seam}
use Rattle.std.specs.Prelude.{◌<◌, zero, suc, true, filter, drop, find, option_to_list, replicate, slice_index, slice_index_or, take, Option, Some, None, Result, Ok, Err, OnErr, OnOk}
use Rattle.turn_client_api.specs.Poll.{first_reported}
use Rattle.turn_client_api.specs.declared.grant.Grant.{Grant}
use Rattle.turn_types.specs.declared.family.AddressFamily.{AddressFamily}
use Rattle.turn_client_grants.specs.Chains.{IsChained}
use Rattle.turn_client_grants.specs.Index.{IsIndex}
use Rattle.turn_client_grants.specs.Kept.{AreAlone, IsLed, IsPlaced, IsReady, links_room}
use Rattle.turn_client_grants.specs.Keys.{is_found_by, name_of, peer_of}
use Rattle.turn_client_grants.specs.Table.{changed}
use Rattle.turn_client_grants.specs.declared.changes.Change.{Change}
use Rattle.turn_client_grants.specs.declared.index.Index.{Index}
use Rattle.turn_client_grants.specs.declared.key.Key.{Key}
use Rattle.turn_client_grants.proofs.TableLemmas.{changed-same}

-- ---- grants with the same keys

map-same : {X : Type 0} (f : Grant → X) (h : Grant → Grant) → ((g : Grant) → f (h g) ≡ f g) → (rows : List Grant) → map f (map h rows) ≡ map f rows
map-same f h same [] = refl
map-same f h same (g ∷ rows) = rw (same g, map-same f h same rows) refl

length-same : (h : Grant → Grant) (rows : List Grant) → length (map h rows) ≡ length rows
length-same h [] = refl
length-same h (g ∷ rows) = ap suc (length-same h rows)

led-same : (index : Index) (rows others : List Grant) → map name_of others ≡ map name_of rows → map peer_of others ≡ map peer_of rows → length others ≡ length rows → IsLed index rows → IsLed index others
led-same index rows others names peers count led made = record {
  names = rw names (led made).names;
  peers = rw peers (led made).peers;
  fits = rw count (led made).fits;
}

pub led-changed : (index : Index) (change : Change) (rows : List Grant) → IsLed index rows → IsLed index (map (changed change) rows)
led-changed index change rows led =
    led-same index rows (map (changed change) rows)
    (map-same name_of (changed change) (changed-same name_of (λ a e x. refl) (λ ip e u. refl) (λ n p e u. refl) (λ ip e u. refl) (λ n p e u. refl) (λ c d. refl) change) rows)
    (map-same peer_of (changed change) (changed-same peer_of (λ a e x. refl) (λ ip e u. refl) (λ n p e u. refl) (λ ip e u. refl) (λ n p e u. refl) (λ c d. refl) change) rows)
    (length-same (changed change) rows) led

names-reported : (family : AddressFamily) (rows : List Grant) → map name_of (first_reported family rows) ≡ map name_of rows
names-reported family [] = refl
names-reported family (g ∷ rows) = grind (arith, names-reported family rows)

peers-reported : (family : AddressFamily) (rows : List Grant) → map peer_of (first_reported family rows) ≡ map peer_of rows
peers-reported family [] = refl
peers-reported family (g ∷ rows) = grind (arith, peers-reported family rows)

length-reported : (family : AddressFamily) (rows : List Grant) → length (first_reported family rows) ≡ length rows
length-reported family [] = refl
length-reported family (g ∷ rows) = grind (arith, length-reported family rows)

pub led-reported : (index : Index) (family : AddressFamily) (rows : List Grant) → IsLed index rows → IsLed index (first_reported family rows)
led-reported index family rows led =
    led-same index rows (first_reported family rows) (names-reported family rows) (peers-reported family rows) (length-reported family rows) led

-- ---- chains that are empty

abbrev zeros : ℕ → List ℕ
zeros n = replicate n 0

index-zeros : (n b : ℕ) → slice_index (zeros n) b ≡ 0
index-zeros zero b = refl
index-zeros (suc n) zero = refl
index-zeros (suc n) (suc b) = index-zeros n b

length-zeros : (n : ℕ) → length (zeros n) ≡ n
length-zeros zero = refl
length-zeros (suc n) = ap suc (length-zeros n)

-- no row is in a chain yet
pub chained-none : (hs ls : List ℕ) (n : ℕ) → hs ≡ zeros n → ls ≡ [] → 0 < n → IsChained hs ls []
chained-none hs ls n clear empty some = record {
  some = rw (clear, length-zeros n) some;
  heads = λ b lt. rw clear (index-zeros n b);
  links = λ i b at. cc;
  count = rw empty refl;
}

-- ---- grants are added

-- so many can be added where there is room for their links
pub ready-by : (index : Index) (rows : List Grant) (n : ℕ) → IsPlaced index rows → length rows + n ≤ links_room index → IsReady n index
ready-by index rows n placed fits = record {
  names = placed.names.some;
  peers = placed.peers.some;
  name_room = omega (arith, placed.names.count, length-map rows name_of, fits);
  peer_room = omega (arith, placed.peers.count, length-map rows peer_of, fits);
}

-- the first of so many rows and others are these
pub first-rows : (rows more : List Grant) (n : ℕ) → n ≡ length rows → take n (rows ++ more) ≡ rows
first-rows rows more n is = ap (λ m. take m (rows ++ more)) is ∙ take-append_seam rows more

-- ---- grants are taken out

some-passes : (which : Grant → Bool) (rows : List Grant) (n : ℕ) (g : Grant) → n < length rows → which (slice_index_or rows n g) ≡ true → 0 < length (filter which rows)
some-passes which [] n g lt passes = omega (arith, lt)
some-passes which (h ∷ rows) zero g lt passes = grind arith
some-passes which (h ∷ rows) (suc n) g lt passes = grind (arith, some-passes which rows n g)

-- of one row alone that passes, none before it does
pub last-left : (which : Grant → Bool) (rows : List Grant) (n : ℕ) (g : Grant) → length (filter which rows) ≤ 1 → n < length rows
    → which (slice_index_or rows n g) ≡ true → list_any which (take n rows) ≡ false
last-left which [] n g alone lt passes = grind (arith, lt)
last-left which (h ∷ rows) zero g alone lt passes = refl
last-left which (h ∷ rows) (suc n) g alone lt passes = grind (arith, last-left which rows n g, some-passes which rows n g)

-- none of which passes is left out
pub none-goes : (which : Grant → Bool) (rows : List Grant) → length (filter which rows) ≤ 0 → filter (λ g. not (which g)) rows ≡ rows
none-goes which [] few = refl
none-goes which (g ∷ rows) few = grind (arith, none-goes which rows)

-- where none passes, all stay
all-stay : (which : Grant → Bool) (rows : List Grant) → list_any which rows ≡ false → filter (λ g. not (which g)) rows ≡ rows
all-stay which [] none = refl
all-stay which (g ∷ rows) none = grind (arith, all-stay which rows)

all-parts : (rows : List Grant) → rows ≡ take (length rows) rows ++ drop (length rows + 1) rows
all-parts [] = refl
all-parts (g ∷ rows) = grind (arith, all-parts rows)

pub others-of-none : (which : Grant → Bool) (rows : List Grant) → list_any which rows ≡ false
    → filter (λ g. not (which g)) rows ≡ take (length rows) rows ++ drop (length rows + 1) rows
others-of-none which rows none = all-stay which rows none ∙ all-parts rows

-- the others of one row alone that passes are those before and behind it
pub others-of : (which : Grant → Bool) (rows : List Grant) (n : ℕ) (g : Grant) → length (filter which rows) ≤ 1 → n < length rows
    → which (slice_index_or rows n g) ≡ true → filter (λ h. not (which h)) rows ≡ take n rows ++ drop (n + 1) rows
others-of which [] n g alone lt passes = grind (arith, lt)
others-of which (h ∷ rows) zero g alone lt passes = grind (arith, none-goes which rows)
others-of which (h ∷ rows) (suc n) g alone lt passes = grind (arith, others-of which rows n g, some-passes which rows n g)

pub left-first : (which : Grant → Bool) (rows : List Grant) (n : ℕ) → n ≤ length rows → list_any which (take n rows) ≡ false → take n (filter (λ g. not (which g)) rows) ≡ take n rows
left-first which [] n le none = refl
left-first which (g ∷ rows) zero le none = refl
left-first which (g ∷ rows) (suc n) le none = grind (arith, left-first which rows n)

pub left-long : (which : Grant → Bool) (rows : List Grant) (n : ℕ) → n ≤ length rows → list_any which (take n rows) ≡ false → n ≤ length (filter (λ g. not (which g)) rows)
left-long which [] n le none = omega (arith, le)
left-long which (g ∷ rows) zero le none = omega arith
left-long which (g ∷ rows) (suc n) le none = grind (arith, left-long which rows n)

-- the first rows, before those that go, stay first
pub left-within : (which : Grant → Bool) (rows more : List Grant) (n : ℕ) → AreLeft which rows n → n ≤ length (filter (λ g. not (which g)) rows ++ more)
left-within which rows more n left = omega (arith, left-long which rows n left.0 left.1, length-append (filter (λ g. not (which g)) rows) more)

pub left-stay : (which : Grant → Bool) (rows more : List Grant) (n : ℕ) → AreLeft which rows n → take n (filter (λ g. not (which g)) rows ++ more) ≡ take n rows
left-stay which rows more n left =
    take-append-le n (filter (λ g. not (which g)) rows) more (left-long which rows n left.0 left.1) ∙ left-first which rows n left.0 left.1

-- the chains are those of the grants if they are made, and stay if they are not
pub led-reserved : {E : Type 0} (r : Result (Unit {0}) E) (was now : Index) (rows : List Grant) → OnOk r (IsPlaced now rows) → OnErr r (now ≡ was) → IsLed was rows → IsLed now rows
led-reserved (Ok _) was now rows placed same led = λ made. placed
led-reserved (Err _) was now rows placed same led = rw same led

-- ---- which grant a key finds

pub alone-by : (rows : List Grant) (key : Key) → AreAlone rows → filter (is_found_by key) rows ≡ option_to_list (find (is_found_by key) rows)
unfolding IsIndex
alone-by rows key is = is key

few-listed : (found : Option Grant) → length (option_to_list found) ≤ 1
few-listed None = omega arith
few-listed (Some g) = omega arith

-- which is one at most
pub alone-few : (rows : List Grant) (key : Key) → AreAlone rows → length (filter (is_found_by key) rows) ≤ 1
alone-few rows key alone = rw (alone-by rows key alone) (few-listed (find (is_found_by key) rows))
