-- How many bytes the streams hold, where those of one local address count once: a step decreases the
-- number.
use Rattle.turn_client_laws.proofs.Common.{◌≡◌, ℕ, ◌+◌, ◌-◌, ◌<◌, ◌≤◌, max, Bool, true, false, cond, List, [], ◌∷◌, length, map, Some, refl, sym, ap, ◌∙◌, arith, inl, inr, find, sum_by}
use Rattle.turn_client_laws.proofs.Common.{false_from_ne_true, sum_by-cons, SocketAddr}
use Rattle.turn_client_laws.proofs.Machine.{same_address, Stream, same_address-true, same_address-self, Has, has-found}

-- the most bytes of the streams at this local address
unfoldable pub top : SocketAddr → List Stream → ℕ
top local [] = 0
top local (x ∷ xs) = max (cond (same_address x.local local) (length x.bytes) 0) (top local xs)

-- the most bytes of each local address, together
unfoldable pub weight : List Stream → ℕ
weight [] = 0
weight (x ∷ xs) = weight xs + (length x.bytes - top x.local xs)

-- no more than all bytes of all streams
pub weight-le : (xs : List Stream) → weight xs ≤ sum_by (λ stream. length stream.bytes) xs
unfolding weight
weight-le [] = omega arith
weight-le (x ∷ xs) = omega (arith, weight-le xs, sum_by-cons (λ (stream : Stream). length stream.bytes) x xs)

-- a stream in the list counts
has-le-top : (stream : Stream) (xs : List Stream) → Has stream xs → length stream.bytes ≤ top stream.local xs
unfolding top
has-le-top stream [] none = absurd none
has-le-top stream (x ∷ xs) (inl is) = rw (← is, same_address-self stream.local) (omega arith)
has-le-top stream (x ∷ xs) (inr there) = let more = has-le-top stream xs there in omega (arith, more)

-- ---- a change of each stream that keeps its local address

pub record KeepsHeld (f : Stream → Stream) : Type 0 where
  pub local : (x : Stream) → (f x).local ≡ x.local
  pub bytes : (x : Stream) → (f x).bytes ≡ x.bytes

-- the streams at a local address, and no others, have these bytes now
pub record Sets (local : SocketAddr) (bytes : List ℕ) (f : Stream → Stream) : Type 0 where
  pub keeps : (x : Stream) → (f x).local ≡ x.local
  pub at : (x : Stream) → same_address x.local local ≡ true → (f x).bytes ≡ bytes
  pub others : (x : Stream) → same_address x.local local ≡ false → (f x).bytes ≡ x.bytes

-- a change that leaves local addresses and bytes, after one that sets these bytes
pub kept-Sets : (local : SocketAddr) (bytes : List ℕ) (f g : Stream → Stream) → Sets local bytes f → KeepsHeld g → Sets local bytes (λ x. g (f x))
kept-Sets local bytes f g is k = record {
  keeps = λ x. k.local (f x) ∙ is.keeps x;
  at = λ x e. k.bytes (f x) ∙ is.at x e;
  others = λ x e. k.bytes (f x) ∙ is.others x e;
}

-- of two that set bytes the later one counts
pub later-Sets : (local : SocketAddr) (first later : List ℕ) (f g : Stream → Stream) → Sets local first f → Sets local later g → Sets local later (λ x. g (f x))
later-Sets local first later f g is then = record {
  keeps = λ x. then.keeps (f x) ∙ is.keeps x;
  at = λ x e. then.at (f x) (ap (λ a. same_address a local) (is.keeps x) ∙ e);
  others = λ x e. then.others (f x) (ap (λ a. same_address a local) (is.keeps x) ∙ e) ∙ is.others x e;
}

pub top-set : (local : SocketAddr) (bytes : List ℕ) (f : Stream → Stream) → Sets local bytes f → (xs : List Stream) → top local (map f xs) ≤ length bytes
unfolding top
top-set local bytes f is [] = omega arith
top-set local bytes f is (x ∷ xs) = rw (is.keeps x) (by (same_address x.local local) refl (top-set local bytes f is xs))
  where
    later_top : ℕ
    later_top = top local (map f xs)

    by : (b : Bool) → same_address x.local local ≡ b → later_top ≤ length bytes → max (cond b (length (f x).bytes) 0) later_top ≤ length bytes
    by true e later = rw (is.at x e) (omega (arith, later))
    by false e later = omega (arith, later)

-- what is at one local address is not at another
apart : (local other : SocketAddr) (x : Stream) → same_address other local ≡ false → same_address x.local local ≡ true → same_address x.local other ≡ false
apart local other x differ here = false_from_ne_true (same_address x.local other) by
  where
    by : same_address x.local other ≡ true → ⊥
    by too =
        let first = same_address-true x.local other too in
        let there : same_address other local ≡ true = rw (← first) here in
        let clash : true ≡ false = sym there ∙ differ in
        cc

top-other : (local other : SocketAddr) (bytes : List ℕ) (f : Stream → Stream) → Sets local bytes f → same_address other local ≡ false → (xs : List Stream) → top other (map f xs) ≡ top other xs
unfolding top
top-other local other bytes f is differ [] = refl
top-other local other bytes f is differ (x ∷ xs) = rw (is.keeps x, top-other local other bytes f is differ xs) (by (same_address x.local local) refl)
  where
    counts : ℕ → ℕ
    counts n = max (cond (same_address x.local other) n 0) (top other xs)

    by : (b : Bool) → same_address x.local local ≡ b → counts (length (f x).bytes) ≡ counts (length x.bytes)
    by true e = rw (apart local other x differ e) refl
    by false e = rw (is.others x e) refl

-- what counts at the local address is another part of the whole then
abbrev IsMoved : (Stream → Stream) → SocketAddr → List Stream → Type 0
IsMoved f local xs = weight (map f xs) + top local xs ≡ weight xs + top local (map f xs)

-- the same with one stream more, of which so many bytes count at the local address, and so many then
abbrev IsMovedBy : (Stream → Stream) → SocketAddr → Stream → List Stream → ℕ → ℕ → Type 0
IsMovedBy f local x xs old new =
    weight (map f xs) + (length (f x).bytes - top x.local (map f xs)) + max old (top local xs)
    ≡ weight xs + (length x.bytes - top x.local xs) + max new (top local (map f xs))

pub weight-set : (local : SocketAddr) (bytes : List ℕ) (f : Stream → Stream) → Sets local bytes f → (xs : List Stream) → IsMoved f local xs
unfolding weight top
weight-set local bytes f is [] = refl
weight-set local bytes f is (x ∷ xs) = rw (is.keeps x) (by (same_address x.local local) refl (weight-set local bytes f is xs))
  where
    here : x.local ≡ local → IsMoved f local xs → IsMovedBy f local x xs (length x.bytes) (length (f x).bytes)
    here same later = rw same (omega (arith, later))

    by : (b : Bool) → same_address x.local local ≡ b → IsMoved f local xs → IsMovedBy f local x xs (cond b (length x.bytes) 0) (cond b (length (f x).bytes) 0)
    by true e later = here (same_address-true x.local local e) later
    by false e later = rw (is.others x e, top-other local x.local bytes f is e xs) (omega (arith, later))

-- a stream with more bytes was in the list: the whole is less
pub weight-less : (p : Stream → Bool) (xs : List Stream) (stream : Stream) (bytes : List ℕ) (f : Stream → Stream) → find p xs ≡ Some stream → Sets stream.local bytes f
    → length bytes < length stream.bytes → weight (map f xs) < weight xs
weight-less p xs stream bytes f found is fewer =
    omega (arith, weight-set stream.local bytes f is xs, top-set stream.local bytes f is xs, has-le-top stream xs (has-found p stream xs found).0, fewer)
