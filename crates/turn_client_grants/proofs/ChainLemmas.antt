-- Chains of rows, as rows are added and looked for.
use Rattle.std.proofs.Common.{◌≡◌, ◌∙◌, ◌≤◌, ◌<◌, ℕ, zero, suc, Bool, true, false, cond, List, [], ◌∷◌, ◌++◌, length, map, take, drop, filter, ap, arith, inl, inr, refl, sym}
use Rattle.std.specs.Prelude.{◌⊎◌}
use Rattle.std.specs.Prelude.{◌==◌, Option, Some, None, find, option_to_list, slice_index, slice_index_or, slice_set}
use Rattle.std.specs.List.{list_any}
use Rattle.std.proofs.lemmas.Bool.{eq-eqb, eqb-true}
use Rattle.std.proofs.lemmas.List.{get_or-map, get_or-set_other, get_or-set_same, get_or-take, get_or_append_left, length-append, length-map, length-set, length-take-le, take-append-le, take-map}
use Rattle.std.proofs.Math.Seq.{get_or-append_seam, take-append_seam, take-length}
use Rattle.std.specs.declared.net.ip_addr.IpAddr.{IpAddr}
use Rattle.std.specs.declared.net.socket_addr.SocketAddr.{SocketAddr}
use Rattle.turn_client_api.proofs.AddressLemmas.{same_address-true, same_ip-true}
use Rattle.turn_client_api.specs.declared.grant.Grant.{Grant}
use Rattle.turn_client_api.specs.declared.grant.Grant.TheVariants.{Permission, Channel}
use Rattle.turn_client_api.specs.declared.grant.Progress.TheVariants.{Reserved}
use Rattle.turn_client_grants.specs.Chains.{IsChained, bucket_of, counted, is_in, last_of}
use Rattle.turn_client_grants.specs.Keys.{is_found_by, key_like}
use Rattle.turn_client_grants.specs.declared.key.Key.{Key}
use Rattle.turn_client_grants.specs.declared.key.Key.TheVariants as By

counted-within : (b : Bool) (n m : ℕ) → n ≤ m → counted b n ≤ suc m
counted-within true zero m le = omega arith
counted-within false zero m le = omega arith
counted-within b (suc n) m le = omega (arith, le)

module _ {X : Type 0} where
  -- ---- the last that passes

  last-pushed : (p : X → Bool) (xs : List X) (x : X) → last_of p (xs ++ x ∷ []) ≡ cond (p x) (suc (length xs)) (last_of p xs)
  last-pushed p [] x = refl
  last-pushed p (y ∷ xs) x = rw (last-pushed p xs x) (by (p x))
    where
      by : (b : Bool) → counted (p y) (cond b (suc (length xs)) (last_of p xs)) ≡ cond b (suc (suc (length xs))) (counted (p y) (last_of p xs))
      by true = refl
      by false = refl

  last-within : (p : X → Bool) (xs : List X) → last_of p xs ≤ length xs
  last-within p [] = omega arith
  last-within p (x ∷ xs) = counted-within (p x) (last_of p xs) (length xs) (last-within p xs)

  -- the last that passes does
  last-passes : (p : X → Bool) (d : X) (xs : List X) (n : ℕ) → last_of p xs ≡ suc n → p (slice_index_or xs n d) ≡ true
  last-passes p d [] n is = cc
  last-passes p d (x ∷ xs) n is = by (p x) refl (last_of p xs) refl n is (λ m. last-passes p d xs m)
    where
      by : (b : Bool) → p x ≡ b → (m : ℕ) → last_of p xs ≡ m → (n : ℕ) → counted (p x) (last_of p xs) ≡ suc n
          → ((n : ℕ) → last_of p xs ≡ suc n → p (slice_index_or xs n d) ≡ true) → p (slice_index_or (x ∷ xs) n d) ≡ true
      by true e zero f zero is next = e
      by true e zero f (suc n) is next = let off : suc zero ≡ suc (suc n) = rw (e, f) at is in cc
      by false e zero f n is next = let off : zero ≡ suc n = rw (e, f) at is in cc
      by b e (suc m) f zero is next = let off : suc (suc m) ≡ suc zero = rw f at is in cc
      by b e (suc m) f (suc n) is next = let same : suc (suc m) ≡ suc (suc n) = rw f at is in next n (f ∙ omega (arith, same))

  -- none passes after it
  none-after : {G : Type 0} (f : G → X) (p : X → Bool) (q : G → Bool) → ((g : G) → q g ≡ true → p (f g) ≡ true) → (rows : List G)
      → list_any q (drop (last_of p (map f rows)) rows) ≡ false
  none-after f p q passes [] = refl
  none-after {G} f p q passes (g ∷ rows) = by (p (f g)) refl (last_of p (map f rows)) refl (none-after f p q passes rows)
    where
      fails : (b : Bool) → q g ≡ b → p (f g) ≡ false → q g ≡ false
      fails true e off = let both : true ≡ false = sym (passes g e) ∙ off in cc
      fails false e off = e

      by : (b : Bool) → p (f g) ≡ b → (m : ℕ) → last_of p (map f rows) ≡ m → list_any q (drop (last_of p (map f rows)) rows) ≡ false
          → list_any q (drop (counted (p (f g)) (last_of p (map f rows))) (g ∷ rows)) ≡ false
      by true e zero h rest = rw (e, h) (rw h at rest)
      by false e zero h rest = rw (e, h) (rw (fails (q g) refl e) (rw h at rest))
      by b e (suc m) h rest = rw h (rw h at rest)

  -- ---- lists by their places

  any-joined : (q : X → Bool) (xs : List X) (low n : ℕ) → low ≤ n → list_any q (drop low (take n xs)) ≡ false → list_any q (drop n xs) ≡ false → list_any q (drop low xs) ≡ false
  any-joined q [] zero n le before after = refl
  any-joined q [] (suc low) n le before after = refl
  any-joined q (x ∷ xs) zero zero le before after = after
  any-joined q (x ∷ xs) (suc low) zero le before after = let no : ⊥ = omega (arith, le) in absurd no
  any-joined q (x ∷ xs) zero (suc n) le before after = grind (arith, any-joined q xs zero n)
  any-joined q (x ∷ xs) (suc low) (suc n) le before after = any-joined q xs low n (omega (arith, le)) before after

  any-here : (q : X → Bool) (d : X) (xs : List X) (n : ℕ) → n < length xs → q (slice_index_or xs n d) ≡ false → list_any q (drop (suc n) xs) ≡ false → list_any q (drop n xs) ≡ false
  any-here q d [] n lt here after = let no : ⊥ = omega (arith, lt) in absurd no
  any-here q d (x ∷ xs) zero lt here after = rw here after
  any-here q d (x ∷ xs) (suc n) lt here after = any-here q d xs n (omega (arith, lt)) here after

  -- ---- one that passes where one does at most

  pub find-none : (q : X → Bool) (xs : List X) → list_any q xs ≡ false → find q xs ≡ None
  find-none q [] none = refl
  find-none q (x ∷ xs) none = grind (arith, find-none q xs)

  find-alone : (q : X → Bool) (d : X) (xs : List X) (n : ℕ) → n < length xs → q (slice_index_or xs n d) ≡ true → (at : Option X) → filter q xs ≡ option_to_list at → at ≡ Some (slice_index_or xs n d)
  find-alone q d [] n lt passes at alone = let no : ⊥ = omega (arith, lt) in absurd no
  find-alone q d (x ∷ xs) zero lt passes at alone = first at (rw passes at alone)
    where
      first : (at : Option X) → x ∷ filter q xs ≡ option_to_list at → at ≡ Some x
      first at is = grind arith
  find-alone q d (x ∷ xs) (suc n) lt passes at alone = by (q x) refl (λ at. find-alone q d xs n (omega (arith, lt)) passes at)
    where
      rest : (at : Option X) → x ∷ filter q xs ≡ option_to_list at → filter q xs ≡ []
      rest at is = grind arith

      by : (b : Bool) → q x ≡ b → ((at : Option X) → filter q xs ≡ option_to_list at → at ≡ Some (slice_index_or xs n d)) → at ≡ Some (slice_index_or xs n d)
      by true e next = let off : None ≡ Some (slice_index_or xs n d) = next None (rest at (rw e at alone)) in cc
      by false e next = next at (rw e at alone)

-- ---- the key of a grant

-- a key that finds a grant is one of its own
found-key : (k : Key) (g : Grant) → is_found_by k g ≡ true → key_like k g ≡ Some k
found-key (By.Ip other) (Permission ip progress) at = ap (λ (a : IpAddr). Some (By.Ip a)) (same_ip-true ip other at)
found-key (By.Number other) (Channel number peer progress) at = ap (λ (n : ℕ). Some (By.Number n)) (eqb-true number other at)
found-key (By.Peer other) (Channel number peer (Reserved until)) at = cc
found-key (By.Peer other) (Channel number peer progress) at = ap (λ (a : SocketAddr). Some (By.Peer a)) (same_address-true peer other at)
found-key k g at = cc

found-in : (count : ℕ) (k : Key) (g : Grant) → is_found_by k g ≡ true → is_in count (bucket_of count k) (key_like k g) ≡ true
found-in count k g at = rw (found-key k g at) (eq-eqb (bucket_of count k) (bucket_of count k) refl)

-- ---- looking for a key

-- the key finds none of the rows from this place on, and the row before it is in the bucket of the key
pub record Seek (hs : List ℕ) (grants : List Grant) (key : Key) (at : ℕ) : Type 0 where
  pub within : at ≤ length grants
  pub none : list_any (is_found_by key) (drop at grants) ≡ false
  pub led : (n : ℕ) (d : Grant) → at ≡ suc n → is_in (length hs) (bucket_of (length hs) key) (key_like key (slice_index_or grants n d)) ≡ true

seek-at : (hs : List ℕ) (grants : List Grant) (key : Key) (n at : ℕ) → n ≤ length grants
    → at ≡ last_of (is_in (length hs) (bucket_of (length hs) key)) (map (key_like key) (take n grants)) → list_any (is_found_by key) (drop n grants) ≡ false → Seek hs grants key at
seek-at hs grants key n at le is after =
    let p : Option Key → Bool = is_in (length hs) (bucket_of (length hs) key) in
    let long : length (map (key_like key) (take n grants)) ≡ n = length-map (take n grants) (key_like key) ∙ length-take-le n grants le in
    let low : at ≤ n = omega (arith, is, last-within p (map (key_like key) (take n grants)), long) in
    record {
      within = omega (arith, low, le);
      none = any-joined (is_found_by key) grants at n low (rw is (none-after (key_like key) p (is_found_by key) (found-in (length hs) key) (take n grants))) after;
      led = λ m d e.
          let short : m < length (take n grants) = omega (arith, e, low, length-take-le n grants le) in
          let there : m < n = omega (arith, e, low) in
          ap p (sym (get_or-map (key_like key) (take n grants) m d None short ∙ ap (key_like key) (get_or-take n grants m d there)))
          ∙ last-passes p None (map (key_like key) (take n grants)) m (sym is ∙ e);
    }

none-past : {X : Type 0} (q : X → Bool) (xs : List X) → list_any q (drop (length xs) xs) ≡ false
none-past q [] = refl
none-past q (x ∷ xs) = none-past q xs

pub seek-first : (hs ls : List ℕ) (grants : List Grant) (key : Key) (at : ℕ) → IsChained hs ls (map (key_like key) grants) → bucket_of (length hs) key < length hs
    → at ≡ slice_index hs (bucket_of (length hs) key) → Seek hs grants key at
seek-first hs ls grants key at chained lt is =
    seek-at hs grants key (length grants) at (omega arith) (rw (take-length grants) (is ∙ chained.heads (bucket_of (length hs) key) lt)) (none-past (is_found_by key) grants)

-- the link of the row before this place
link-at : (hs ls : List ℕ) (grants : List Grant) (key : Key) (n : ℕ) (d : Grant) → IsChained hs ls (map (key_like key) grants) → n < length grants
    → is_in (length hs) (bucket_of (length hs) key) (key_like key (slice_index_or grants n d)) ≡ true
    → slice_index ls n ≡ last_of (is_in (length hs) (bucket_of (length hs) key)) (map (key_like key) (take n grants))
link-at hs ls grants key n d chained lt led =
    let b : ℕ = bucket_of (length hs) key in
    chained.links n b (ap (is_in (length hs) b) (get_or-map (key_like key) grants n d None lt) ∙ led) ∙ ap (last_of (is_in (length hs) b)) (take-map (key_like key) n grants)

pub seek-next : (hs ls : List ℕ) (grants : List Grant) (key : Key) (n at next : ℕ) (d : Grant) → IsChained hs ls (map (key_like key) grants) → Seek hs grants key at → at ≡ suc n
    → is_found_by key (slice_index_or grants n d) ≡ false → next ≡ slice_index ls n → Seek hs grants key next × (next < at)
seek-next hs ls grants key n at next d chained seek is fails led =
    let lt : n < length grants = omega (arith, is, seek.within) in
    let link = led ∙ link-at hs ls grants key n d chained lt (seek.led n d is) in
    let after : list_any (is_found_by key) (drop (suc n) grants) ≡ false = rw is at seek.none in
    let p : Option Key → Bool = is_in (length hs) (bucket_of (length hs) key) in
    let long : length (map (key_like key) (take n grants)) ≡ n = length-map (take n grants) (key_like key) ∙ length-take-le n grants (omega (arith, lt)) in (
      seek-at hs grants key n next (omega (arith, lt)) link (any-here (is_found_by key) d grants n lt fails after),
      omega (arith, is, link, last-within p (map (key_like key) (take n grants)), long),
    )

pub seek-found : (hs : List ℕ) (grants : List Grant) (key : Key) (n at : ℕ) (d : Grant) → Seek hs grants key at → at ≡ suc n
    → filter (is_found_by key) grants ≡ option_to_list (find (is_found_by key) grants) → is_found_by key (slice_index_or grants n d) ≡ true
    → find (is_found_by key) grants ≡ Some (slice_index_or grants n d)
seek-found hs grants key n at d seek is alone passes =
    find-alone (is_found_by key) d grants n (omega (arith, is, seek.within)) passes (find (is_found_by key) grants) alone

-- ---- a row is added

-- no row has a place past the last
index-past : (keys : List (Option Key)) (key : Option Key) (count i b : ℕ) → is_in count b (slice_index_or (keys ++ key ∷ []) i None) ≡ true → i ≤ length keys
index-past [] key count zero b at = omega arith
index-past [] key count (suc i) b at = cc
index-past (k ∷ keys) key count zero b at = omega arith
index-past (k ∷ keys) key count (suc i) b at = omega (arith, index-past keys key count i b at)

-- before the last, or the last
split : (i n : ℕ) → i ≤ n → (i < n) ⊎ (i ≡ n)
split zero zero le = inr refl
split zero (suc n) le = inl (omega arith)
split (suc i) zero le = let no : ⊥ = omega (arith, le) in absurd no
split (suc i) (suc n) le = by (split i n (omega (arith, le)))
  where
    by : (i < n) ⊎ (i ≡ n) → (suc i < suc n) ⊎ (suc i ≡ suc n)
    by (inl lt) = inl (omega (arith, lt))
    by (inr e) = inr (ap suc e)

-- what a link leads to: for the new row what its bucket led to
links-pushed : (hs ls : List ℕ) (keys : List (Option Key)) (key : Option Key) (before : ℕ) → IsChained hs ls keys
    → ((b : ℕ) → is_in (length hs) b key ≡ true → before ≡ last_of (is_in (length hs) b) keys)
    → (i b : ℕ) → is_in (length hs) b (slice_index_or (keys ++ key ∷ []) i None) ≡ true
    → slice_index (ls ++ before ∷ []) i ≡ last_of (is_in (length hs) b) (take i (keys ++ key ∷ []))
links-pushed hs ls keys key before chained own i b at = by (split i (length keys) (index-past keys key (length hs) i b at))
  where
    by : (i < length keys) ⊎ (i ≡ length keys) → slice_index (ls ++ before ∷ []) i ≡ last_of (is_in (length hs) b) (take i (keys ++ key ∷ []))
    by (inl lt) =
        get_or_append_left ls (before ∷ []) 0 i (omega (arith, lt, chained.count))
        ∙ (chained.links i b (ap (is_in (length hs) b) (sym (get_or_append_left keys (key ∷ []) None i lt)) ∙ at)
        ∙ ap (last_of (is_in (length hs) b)) (sym (take-append-le i keys (key ∷ []) (omega (arith, lt)))))
    by (inr e) =
        let last : slice_index_or (keys ++ key ∷ []) i None ≡ key = ap (λ j. slice_index_or (keys ++ key ∷ []) j None) e ∙ get_or-append_seam keys key [] None in
        ap (λ j. slice_index (ls ++ before ∷ []) j) (e ∙ sym chained.count)
        ∙ (get_or-append_seam ls before [] 0
        ∙ (own b (ap (is_in (length hs) b) (sym last) ∙ at)
        ∙ ap (last_of (is_in (length hs) b)) (sym (ap (λ j. take j (keys ++ key ∷ [])) e ∙ take-append_seam keys (key ∷ [])))))

count-pushed : (hs ls : List ℕ) (keys : List (Option Key)) (key : Option Key) (before : ℕ) → IsChained hs ls keys → length (ls ++ before ∷ []) ≡ length (keys ++ key ∷ [])
count-pushed hs ls keys key before chained = rw (length-append ls (before ∷ []), length-append keys (key ∷ [])) (omega (arith, chained.count))

-- a row that has no key
pub chained-other : (hs ls : List ℕ) (keys : List (Option Key)) → IsChained hs ls keys → IsChained hs (ls ++ 0 ∷ []) (keys ++ None ∷ [])
chained-other hs ls keys chained = record {
  some = chained.some;
  heads = λ b lt. chained.heads b lt ∙ sym (last-pushed (is_in (length hs) b) keys None);
  links = links-pushed hs ls keys None 0 chained (λ b at. cc);
  count = count-pushed hs ls keys None 0 chained;
}

-- the bucket of the new row leads to it, and the others where they did
heads-pushed : (hs ls : List ℕ) (keys : List (Option Key)) (k : Key) (place : ℕ) → IsChained hs ls keys → bucket_of (length hs) k < length hs → place ≡ suc (length keys)
    → (b : ℕ) → b < length hs → slice_index (slice_set hs (bucket_of (length hs) k) place) b ≡ last_of (is_in (length hs) b) (keys ++ Some k ∷ [])
heads-pushed hs ls keys k place chained within is b lt = by (bucket_of (length hs) k == b) refl
  where
    own : ℕ
    own = bucket_of (length hs) k

    by : (c : Bool) → (own == b) ≡ c → slice_index (slice_set hs own place) b ≡ last_of (is_in (length hs) b) (keys ++ Some k ∷ [])
    by true e =
        ap (λ j. slice_index (slice_set hs own place) j) (sym (eqb-true own b e))
        ∙ (get_or-set_same hs own place 0 within ∙ (is ∙ sym (last-pushed (is_in (length hs) b) keys (Some k) ∙ rw e refl)))
    by false e =
        get_or-set_other hs own b place 0 (λ same. let off : false ≡ true = sym e ∙ eq-eqb own b (sym same) in cc)
        ∙ (chained.heads b lt ∙ sym (last-pushed (is_in (length hs) b) keys (Some k) ∙ rw e refl))

pub chained-keyed : (hs ls : List ℕ) (keys : List (Option Key)) (k : Key) (place : ℕ) → IsChained hs ls keys → bucket_of (length hs) k < length hs → place ≡ suc (length keys)
    → IsChained (slice_set hs (bucket_of (length hs) k) place) (ls ++ slice_index hs (bucket_of (length hs) k) ∷ []) (keys ++ Some k ∷ [])
chained-keyed hs ls keys k place chained within is =
    let own : ℕ = bucket_of (length hs) k in
    let same : length (slice_set hs own place) ≡ length hs = length-set hs own place in
    let led : (b : ℕ) → is_in (length hs) b (Some k) ≡ true → slice_index hs own ≡ last_of (is_in (length hs) b) keys
    = λ b at. chained.heads own within ∙ ap (λ c. last_of (is_in (length hs) c) keys) (eqb-true own b at) in
    record {
      some = rw same chained.some;
      heads = rw same (heads-pushed hs ls keys k place chained within is);
      links = rw same (links-pushed hs ls keys (Some k) (slice_index hs own) chained led);
      count = count-pushed hs ls keys (Some k) (slice_index hs own) chained;
    }

-- ---- the last row is taken out

-- a row that is in a bucket has a place
in-range : (keys : List (Option Key)) (count i b : ℕ) → is_in count b (slice_index_or keys i None) ≡ true → i < length keys
in-range [] count i b at = cc
in-range (k ∷ keys) count zero b at = omega arith
in-range (k ∷ keys) count (suc i) b at = omega (arith, in-range keys count i b at)

count-popped : (hs ls left : List ℕ) (keys : List (Option Key)) (key : Option Key) (before : ℕ) → IsChained hs ls (keys ++ key ∷ []) → ls ≡ left ++ before ∷ [] → length left ≡ length keys
count-popped hs ls left keys key before chained is = omega (arith, ap length is, length-append left (before ∷ []), length-append keys (key ∷ []), chained.count)

links-popped : (hs ls left : List ℕ) (keys : List (Option Key)) (key : Option Key) (before : ℕ) → IsChained hs ls (keys ++ key ∷ []) → ls ≡ left ++ before ∷ []
    → (i b : ℕ) → is_in (length hs) b (slice_index_or keys i None) ≡ true → slice_index left i ≡ last_of (is_in (length hs) b) (take i keys)
links-popped hs ls left keys key before chained is i b at =
    let lt : i < length keys = in-range keys (length hs) i b at in
    sym (ap (λ (xs : List ℕ). slice_index xs i) is ∙ get_or_append_left left (before ∷ []) 0 i (omega (arith, lt, count-popped hs ls left keys key before chained is)))
    ∙ (chained.links i b (ap (is_in (length hs) b) (get_or_append_left keys (key ∷ []) None i lt) ∙ at)
    ∙ ap (last_of (is_in (length hs) b)) (take-append-le i keys (key ∷ []) (omega (arith, lt))))

pub popped-other : (hs ls left : List ℕ) (keys : List (Option Key)) (before : ℕ) → IsChained hs ls (keys ++ None ∷ []) → ls ≡ left ++ before ∷ [] → IsChained hs left keys
popped-other hs ls left keys before chained is = record {
  some = chained.some;
  heads = λ b lt. chained.heads b lt ∙ last-pushed (is_in (length hs) b) keys None;
  links = links-popped hs ls left keys None before chained is;
  count = count-popped hs ls left keys None before chained is;
}

-- the bucket of the row that goes leads to what its link did
heads-popped : (hs ls left : List ℕ) (keys : List (Option Key)) (k : Key) (before : ℕ) → IsChained hs ls (keys ++ Some k ∷ []) → ls ≡ left ++ before ∷ []
    → bucket_of (length hs) k < length hs → (b : ℕ) → b < length hs → slice_index (slice_set hs (bucket_of (length hs) k) before) b ≡ last_of (is_in (length hs) b) keys
heads-popped hs ls left keys k before chained is within b lt = by (bucket_of (length hs) k == b) refl
  where
    own : ℕ
    own = bucket_of (length hs) k

    by : (c : Bool) → (own == b) ≡ c → slice_index (slice_set hs own before) b ≡ last_of (is_in (length hs) b) keys
    by true e =
        let same : length left ≡ length keys = count-popped hs ls left keys (Some k) before chained is in
        let at : is_in (length hs) b (slice_index_or (keys ++ Some k ∷ []) (length keys) None) ≡ true = ap (is_in (length hs) b) (get_or-append_seam keys (Some k) [] None) ∙ e in
        ap (λ j. slice_index (slice_set hs own before) j) (sym (eqb-true own b e))
        ∙ (get_or-set_same hs own before 0 within
        ∙ (sym (get_or-append_seam left before [] 0)
        ∙ (ap (λ j. slice_index (left ++ before ∷ []) j) same
        ∙ (ap (λ (xs : List ℕ). slice_index xs (length keys)) (sym is)
        ∙ (chained.links (length keys) b at ∙ ap (last_of (is_in (length hs) b)) (take-append_seam keys (Some k ∷ [])))))))
    by false e =
        get_or-set_other hs own b before 0 (λ same. let off : false ≡ true = sym e ∙ eq-eqb own b (sym same) in cc)
        ∙ (chained.heads b lt ∙ (last-pushed (is_in (length hs) b) keys (Some k) ∙ rw e refl))

pub popped-keyed : (hs ls left : List ℕ) (keys : List (Option Key)) (k : Key) (before : ℕ) → IsChained hs ls (keys ++ Some k ∷ []) → ls ≡ left ++ before ∷ []
    → bucket_of (length hs) k < length hs → IsChained (slice_set hs (bucket_of (length hs) k) before) left keys
popped-keyed hs ls left keys k before chained is within =
    let same : length (slice_set hs (bucket_of (length hs) k) before) ≡ length hs = length-set hs (bucket_of (length hs) k) before in
    record {
      some = rw same chained.some;
      heads = rw same (heads-popped hs ls left keys k before chained is within);
      links = rw same (links-popped hs ls left keys (Some k) before chained is);
      count = count-popped hs ls left keys (Some k) before chained is;
    }
