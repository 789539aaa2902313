-- Streams keep distinct local addresses when their bytes and modes change and when they are added and
-- removed.
use Rattle.turn_client_laws.proofs.Common.{◌≡◌, ◌≢◌, ℕ, Bool, true, false, not, cond, List, [], ◌∷◌, ◌++◌, map, filter, Some, refl, sym, ◌∙◌, inl, inr, All, find, IsDistinct, AllByRecursion}
use Rattle.turn_client_laws.proofs.Common.{cases_Bool, map-append, All-nil, All-cons, All-head, All-tail, All-push, SocketAddr}
use Rattle.turn_client_laws.proofs.Machine.{same_address, Waiting, Bound, Broken, Stream, differ-sym, ends, IsNoneOf, has-found, map-has}
use Rattle.turn_client_laws.specs.LawsStreams.{IsEmptyIfBroken}
use Rattle.turn_client_laws.proofs.MoveLemmas.{on_choice}
use Rattle.turn_client_laws.proofs.NumberLemmas.{all-of, distinct-last}
use Rattle.turn_client_laws.proofs.StreamDrainLemmas.{broken_by, broken_by-Sets, bytes_by, bytes_by-Sets, mode_by, mode_by-KeepsHeld}

abbrev pub Apart : List Stream → Type 0
Apart xs = IsDistinct same_address (ends xs) × All IsEmptyIfBroken xs

-- none of theirs is the local address
abbrev AreOthers : SocketAddr → List Stream → Type 0
AreOthers local xs = AllByRecursion (λ y. same_address y local ≡ false) (ends xs)

-- ---- the streams at one local address

-- it is not broken, if it is one of them
abbrev pub IsWholeAt : SocketAddr → Stream → Type 0
IsWholeAt local x = same_address x.local local ≡ true → x.mode ≢ Broken

-- none of them is broken
abbrev pub NotBroken : SocketAddr → List Stream → Type 0
NotBroken local xs = All (IsWholeAt local) xs

unlike : (a b : SocketAddr) → same_address a b ≡ false → same_address b a ≡ true → ⊥
unlike a b differ e = let clash : true ≡ false = sym e ∙ differ-sym a b differ in cc

none-there : (local : SocketAddr) (xs : List Stream) → IsNoneOf local xs → NotBroken local xs
none-there local [] h = All-nil (IsWholeAt local)
none-there local (x ∷ xs) h = All-cons (IsWholeAt local) x xs (λ e. absurd (unlike local x.local h.0 e)) (none-there local xs h.1)

found-differs : (p : Stream → Bool) (local : SocketAddr) (xs : List Stream) (stream : Stream) → find p xs ≡ Some stream → IsNoneOf local xs → same_address local stream.local ≡ false
found-differs p local xs stream e h =
    all-of (λ y. same_address local y ≡ false) stream.local (ends xs) h (map-has (λ (x : Stream). x.local) stream xs (has-found p stream xs e).0)

-- with distinct local addresses, the one that is found is the one at its local address
pub found-NotBroken : (p : Stream → Bool) (xs : List Stream) (stream : Stream) → find p xs ≡ Some stream → stream.mode ≢ Broken → IsDistinct same_address (ends xs) → NotBroken stream.local xs
unfolding IsDistinct
found-NotBroken p [] stream e whole h = cc
found-NotBroken p (x ∷ xs) stream e whole h = by (p x) refl (found-NotBroken p xs stream)
  where
    by : (b : Bool) → p x ≡ b → (find p xs ≡ Some stream → stream.mode ≢ Broken → IsDistinct same_address (ends xs) → NotBroken stream.local xs) → NotBroken stream.local (x ∷ xs)
    by true f later =
        let is : Some x ≡ Some stream = rw f at e in
        let same : x ≡ stream = cc in
        rw (← same) (All-cons (IsWholeAt x.local) x xs (λ there. rw same whole) (none-there x.local xs h.0))
    by false f later =
        let found : find p xs ≡ Some stream = rw f at e in
        let other = differ-sym x.local stream.local (found-differs p x.local xs stream found h.0) in
        All-cons (IsWholeAt stream.local) x xs (λ there. absurd (unlike stream.local x.local other there)) (later found whole h.1)

-- ---- a change of each stream

pub ends-map : (f : Stream → Stream) → ((x : Stream) → (f x).local ≡ x.local) → (xs : List Stream) → ends (map f xs) ≡ ends xs
ends-map f same [] = refl
ends-map f same (x ∷ xs) = rw (same x, ends-map f same xs) refl

all-map : (P Q : Stream → Type 0) (f : Stream → Stream) → ((x : Stream) → P x → Q (f x)) → (xs : List Stream) → All P xs → All Q (map f xs)
all-map P Q f step [] h = All-nil Q
all-map P Q f step (x ∷ xs) h = All-cons Q (f x) (map f xs) (step x (All-head P x xs h)) (all-map P Q f step xs (All-tail P x xs h))

abbrev IsFineAt : SocketAddr → Stream → Type 0
IsFineAt local x = IsWholeAt local x × IsEmptyIfBroken x

all-fine : (local : SocketAddr) (xs : List Stream) → NotBroken local xs → All IsEmptyIfBroken xs → All (IsFineAt local) xs
all-fine local [] h k = All-nil (IsFineAt local)
all-fine local (x ∷ xs) h k =
    All-cons (IsFineAt local) x xs (All-head (IsWholeAt local) x xs h, All-head IsEmptyIfBroken x xs k)
    (all-fine local xs (All-tail (IsWholeAt local) x xs h) (All-tail IsEmptyIfBroken x xs k))

map-apart : (f : Stream → Stream) → ((x : Stream) → (f x).local ≡ x.local) → ((x : Stream) → IsEmptyIfBroken x → IsEmptyIfBroken (f x)) → (xs : List Stream)
    → Apart xs → Apart (map f xs)
unfolding IsDistinct
map-apart f keeps empty xs h = (rw (ends-map f keeps xs) h.0, all-map IsEmptyIfBroken IsEmptyIfBroken f empty xs h.1)

pub bytes-apart : (local : SocketAddr) (bytes : List ℕ) (xs : List Stream) → NotBroken local xs → Apart xs → Apart (map (bytes_by local bytes) xs)
unfolding IsDistinct bytes_by
bytes-apart local bytes xs whole h = (
  rw (ends-map (bytes_by local bytes) (bytes_by-Sets local bytes).keeps xs) h.0,
  all-map (IsFineAt local) IsEmptyIfBroken (bytes_by local bytes) (λ x fine. by x (same_address x.local local) fine.0 fine.1) xs (all-fine local xs whole h.1),
)
  where
    by : (x : Stream) (b : Bool) → (b ≡ true → x.mode ≢ Broken) → IsEmptyIfBroken x → IsEmptyIfBroken (cond b (record x { bytes = bytes }) x)
    by x true unbroken empty = λ e. absurd (unbroken refl e)
    by x false unbroken empty = empty

pub bytes-NotBroken : (local : SocketAddr) (bytes : List ℕ) (xs : List Stream) → NotBroken local xs → NotBroken local (map (bytes_by local bytes) xs)
unfolding bytes_by
bytes-NotBroken local bytes =
    all-map (IsWholeAt local) (IsWholeAt local) (bytes_by local bytes)
    (λ x unbroken. on_choice (IsWholeAt local) (same_address x.local local) (record x { bytes = bytes }) x unbroken unbroken)

pub bound-NotBroken : (at local peer : SocketAddr) (xs : List Stream) → NotBroken at xs → NotBroken at (map (mode_by local (Bound peer)) xs)
unfolding mode_by
bound-NotBroken at local peer =
    all-map (IsWholeAt at) (IsWholeAt at) (mode_by local (Bound peer))
    (λ x unbroken. on_choice (IsWholeAt at) (same_address x.local local) (record x { mode = Bound peer }) x (λ e f. cc) unbroken)

-- a broken stream without bytes is allowed
pub emptied-apart : (local : SocketAddr) (xs : List Stream) → Apart xs → Apart (map (bytes_by local []) xs)
unfolding bytes_by
emptied-apart local =
    map-apart (bytes_by local []) (bytes_by-Sets local []).keeps
    (λ x empty. on_choice IsEmptyIfBroken (same_address x.local local) (record x { bytes = [] }) x (λ e. refl) empty)

pub broken-apart : (local : SocketAddr) (xs : List Stream) → Apart xs → Apart (map (broken_by local) xs)
unfolding broken_by
broken-apart local =
    map-apart (broken_by local) (broken_by-Sets local).keeps
    (λ x empty. on_choice IsEmptyIfBroken (same_address x.local local) (record x { mode = Broken; bytes = [] }) x (λ e. refl) empty)

pub bound-apart : (local peer : SocketAddr) (xs : List Stream) → Apart xs → Apart (map (mode_by local (Bound peer)) xs)
unfolding mode_by
bound-apart local peer =
    map-apart (mode_by local (Bound peer)) (mode_by-KeepsHeld local (Bound peer)).local
    (λ x empty. on_choice IsEmptyIfBroken (same_address x.local local) (record x { mode = Bound peer }) x (λ e. cc) empty)

-- ---- streams are removed and added

ends-all-filter : (P : SocketAddr → Type 0) (p : Stream → Bool) (xs : List Stream) → AllByRecursion P (ends xs) → AllByRecursion P (ends (filter p xs))
ends-all-filter P p [] h = h
ends-all-filter P p (x ∷ xs) h =
    elim (cases_Bool (p x)) [ inl e ↦ rw e (h.0, ends-all-filter P p xs h.1) | inr e ↦ rw e (ends-all-filter P p xs h.1) ]

pub filter-apart : (p : Stream → Bool) (xs : List Stream) → Apart xs → Apart (filter p xs)
unfolding IsDistinct
filter-apart p [] h = h
filter-apart p (x ∷ xs) h = by (p x) refl (filter-apart p xs (h.0.1, All-tail IsEmptyIfBroken x xs h.1))
  where
    by : (b : Bool) → p x ≡ b → Apart (filter p xs) → Apart (filter p (x ∷ xs))
    by true e later = rw e ((ends-all-filter (λ y. same_address x.local y ≡ false) p xs h.0.0, later.0), All-cons IsEmptyIfBroken x (filter p xs) (All-head IsEmptyIfBroken x xs h.1) later.1)
    by false e later = rw e later

is_other : SocketAddr → Stream → Bool
is_other local x = not (same_address x.local local)

others-differ : (local : SocketAddr) (xs : List Stream) → AreOthers local (filter (is_other local) xs)
unfolding is_other
others-differ local [] = tt
others-differ local (x ∷ xs) =
    elim (cases_Bool (same_address x.local local)) [ inl e ↦ rw e (others-differ local xs) | inr e ↦ rw (e, e) (refl, others-differ local xs) ]

-- a new one in place of any at its local address
pub new-apart : (local : SocketAddr) (xs : List Stream) → Apart xs → Apart (filter (λ x. not (same_address x.local local)) xs ++ record { local = local; mode = Waiting; bytes = [] } ∷ [])
unfolding is_other
new-apart local xs h =
    let others = filter-apart (is_other local) xs h in
    let stream : Stream = record { local = local; mode = Waiting; bytes = [] } in (
      rw map-append (distinct-last same_address local (ends (filter (is_other local) xs)) (others-differ local xs) others.0),
      All-push IsEmptyIfBroken (filter (is_other local) xs) stream others.1 (λ e. refl),
    )
