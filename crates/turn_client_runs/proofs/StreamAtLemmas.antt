-- The stream at a local address, and those at others.
use Rattle.turn_client_laws.proofs.Common.{◌≡◌, ℕ, Bool, true, false, cond, List, [], ◌∷◌, map, find, Option, Some, None, refl, ap, sym, subst, ◌∙◌, inl, inr, cases_Bool, IsDistinct, option_map}
use Rattle.turn_client_laws.proofs.Common.{SocketAddr}
use Rattle.turn_client_laws.proofs.Machine.{same_address, State, Broken, Stream, broken_at, is_ready, stream_at, with_bytes, same_address-true, differ-sym, Has, has-found, IsNoneOf, ends}
use Rattle.turn_client_laws.proofs.Laws.{IsAsideFrom, has-mapped}
use Rattle.turn_client_laws.proofs.FrameRestLemmas.{bytes_by}
use Rattle.turn_client_laws.proofs.StreamApartLemmas.{ends-map}
use Rattle.turn_client_laws.proofs.StepFrameLemmas.{broken_by}

-- ---- lists

-- if none is found, none passes
pub none-false : {X : Type 0} (p : X → Bool) (xs : List X) → find p xs ≡ None → (x : X) → Has x xs → p x ≡ false
none-false p [] e x none = absurd none
none-false p (y ∷ ys) e x there = elim (cases_Bool (p y)) [
  | inl f ↦ let clash : Some y ≡ None = rw f at e in cc
  | inr f ↦ elim there [ inl same ↦ rw same f | inr more ↦ none-false p ys (rw f at e) x more ]
]

-- a change that keeps local addresses finds the same stream, changed
pub find-mapped : (a : SocketAddr) (f : Stream → Stream) → ((x : Stream) → (f x).local ≡ x.local) → (xs : List Stream)
    → find (λ x. same_address x.local a) (map f xs) ≡ option_map f (find (λ x. same_address x.local a) xs)
find-mapped a f keeps [] = refl
find-mapped a f keeps (x ∷ xs) =
    let same : same_address (f x).local a ≡ same_address x.local a = ap (λ (l : SocketAddr). same_address l a) (keeps x) in
    elim (cases_Bool (same_address x.local a)) [ inl e ↦ rw (same, e) refl | inr e ↦ rw (same, e) (find-mapped a f keeps xs) ]

-- ---- the stream that is found

pub found-local : (a : SocketAddr) (s : State) (stream : Stream) → stream_at a s ≡ Some stream → stream.local ≡ a
found-local a s stream e = same_address-true stream.local a (has-found (λ (x : Stream). same_address x.local a) stream s.streams e).1

bytes-local : (a : SocketAddr) (bytes : List ℕ) (x : Stream) → (bytes_by a bytes x).local ≡ x.local
bytes-local a bytes x = elim (same_address x.local a) as (λ b. (cond b (record x { bytes = bytes }) x).local ≡ x.local) [ true ↦ refl | false ↦ refl ]

broken-local : (a : SocketAddr) (x : Stream) → (broken_by a x).local ≡ x.local
broken-local a x = elim (same_address x.local a) as (λ b. (cond b (record x { mode = Broken; bytes = [] }) x).local ≡ x.local) [
  | true ↦ refl
  | false ↦ refl
]

found-test : (a : SocketAddr) (s : State) (stream : Stream) → stream_at a s ≡ Some stream → same_address stream.local a ≡ true
found-test a s stream e = (has-found (λ (x : Stream). same_address x.local a) stream s.streams e).1

pub bytes-found : (a : SocketAddr) (bytes : List ℕ) (s : State) (stream : Stream) → stream_at a s ≡ Some stream → stream_at a (with_bytes a bytes s) ≡ Some (record stream { bytes = bytes })
bytes-found a bytes s stream e =
    find-mapped a (bytes_by a bytes) (bytes-local a bytes) s.streams
    ∙ (ap (option_map (bytes_by a bytes)) e ∙ rw (found-test a s stream e) refl)

pub broken-found : (a : SocketAddr) (s : State) (stream : Stream) → stream_at a s ≡ Some stream → stream_at a (broken_at a s) ≡ Some (record stream { mode = Broken; bytes = [] })
broken-found a s stream e =
    find-mapped a (broken_by a) (broken-local a) s.streams
    ∙ (ap (option_map (broken_by a)) e ∙ rw (found-test a s stream e) refl)

-- ---- its bytes are set

none-set : (a : SocketAddr) (bytes : List ℕ) (xs : List Stream) → find (λ x. same_address x.local a) xs ≡ None → map (bytes_by a bytes) xs ≡ xs
none-set a bytes [] e = refl
none-set a bytes (x ∷ xs) e = elim (cases_Bool (same_address x.local a)) [
  | inl f ↦ let clash : Some x ≡ None = rw f at e in cc
  | inr f ↦ let same = none-set a bytes xs (rw f at e) in rw (f, same) refl
]

-- if there is no such stream, nothing changes
pub none-bytes : (a : SocketAddr) (bytes : List ℕ) (s : State) → stream_at a s ≡ None → with_bytes a bytes s ≡ s
none-bytes a bytes s e = ap (λ (x : List Stream). record s { streams = x }) (none-set a bytes s.streams e)

others-set : (a : SocketAddr) (bytes : List ℕ) (xs : List Stream) → IsNoneOf a xs → map (bytes_by a bytes) xs ≡ xs
others-set a bytes [] none = refl
others-set a bytes (x ∷ xs) none = let same = others-set a bytes xs none.1 in rw (differ-sym a x.local none.0, same) refl

self-set : (a : SocketAddr) (xs : List Stream) (stream : Stream) → IsDistinct same_address (ends xs) → find (λ x. same_address x.local a) xs ≡ Some stream → map (bytes_by a stream.bytes) xs ≡ xs
unfolding IsDistinct
self-set a [] stream apart e = cc
self-set a (x ∷ xs) stream apart e = elim (cases_Bool (same_address x.local a)) [
  | inl f ↦
      let found : Some x ≡ Some stream = rw f at e in
      let is : x ≡ stream = cc in
      let same = others-set a x.bytes xs (subst (λ (l : SocketAddr). IsNoneOf l xs) (same_address-true x.local a f) apart.0) in
      subst (λ (y : Stream). map (bytes_by a y.bytes) (x ∷ xs) ≡ x ∷ xs) is (rw (f, same) refl)
  | inr f ↦ let same = self-set a xs stream apart.1 (rw f at e) in rw (f, same) refl
]

-- set to what it holds, it is unchanged
pub self-bytes : (a : SocketAddr) (s : State) (stream : Stream) → IsDistinct same_address (ends s.streams) → stream_at a s ≡ Some stream → with_bytes a stream.bytes s ≡ s
self-bytes a s stream apart e = ap (λ (x : List Stream). record s { streams = x }) (self-set a s.streams stream apart e)

broken-set : (a : SocketAddr) (x : Stream) → bytes_by a [] (broken_by a x) ≡ broken_by a x
broken-set a x = elim (cases_Bool (same_address x.local a)) [ inl e ↦ rw (e, e) refl | inr e ↦ rw (e, e) refl ]

all-broken-set : (a : SocketAddr) (xs : List Stream) → map (bytes_by a []) (map (broken_by a) xs) ≡ map (broken_by a) xs
all-broken-set a [] = refl
all-broken-set a (x ∷ xs) = rw (broken-set a x, all-broken-set a xs) refl

-- a stream that breaks holds nothing
pub broken-empty : (a : SocketAddr) (s : State) → with_bytes a [] (broken_at a s) ≡ broken_at a s
broken-empty a s = ap (λ (x : List Stream). record s { streams = x }) (all-broken-set a s.streams)

-- ---- the only stream that may be ready

-- all streams from other local addresses wait
abbrev pub OthersWait : SocketAddr → List Stream → Type 0
OthersWait a xs = (x : Stream) → Has x xs → same_address x.local a ≡ false → is_ready x ≡ false

-- The stream at this local address holds nothing, no other has this local address, and the others wait.
pub record IsAlone (a : SocketAddr) (s : State) : Type 0 where
  pub distinct : IsDistinct same_address (ends s.streams)
  pub empty : with_bytes a [] s ≡ s
  pub others : OthersWait a s.streams

none-ready : (a : SocketAddr) (bytes : List ℕ) (xs : List Stream) → IsNoneOf a xs → OthersWait a xs → find is_ready (map (bytes_by a bytes) xs) ≡ None
none-ready a bytes [] none waits = refl
none-ready a bytes (x ∷ xs) none waits =
    let differs = differ-sym a x.local none.0 in
    rw (differs, waits x (inl refl) differs) (none-ready a bytes xs none.1 (λ y there. waits y (inr there)))

abbrev if_ready : Stream → Option Stream
if_ready stream = cond (is_ready stream) (Some stream) None

-- the first at this local address is fed, and no other is there
find-fed : (a : SocketAddr) (bytes : List ℕ) (xs : List Stream) (stream : Stream) → IsDistinct same_address (ends xs) → OthersWait a xs → find (λ x. same_address x.local a) xs ≡ Some stream
    → find is_ready (map (bytes_by a bytes) xs) ≡ if_ready (record stream { bytes = bytes })
unfolding IsDistinct
find-fed a bytes [] stream apart waits e = cc
find-fed a bytes (x ∷ xs) stream apart waits e = elim (cases_Bool (same_address x.local a)) [
  | inl f ↦
      let found : Some x ≡ Some stream = rw f at e in
      let is : x ≡ stream = cc in
      subst (λ (y : Stream). find is_ready (map (bytes_by a bytes) (x ∷ xs)) ≡ if_ready (record y { bytes = bytes })) is
      (elim (cases_Bool (is_ready (record x { bytes = bytes }))) [
        | inl g ↦ rw (f, g) refl
        | inr g ↦
            rw (f, g) (none-ready a bytes xs (subst (λ (l : SocketAddr). IsNoneOf l xs) (same_address-true x.local a f) apart.0) (λ y there. waits y (inr there)))
      ])
  | inr f ↦ rw (f, waits x (inl refl) f) (find-fed a bytes xs stream apart.1 (λ y there. waits y (inr there)) (rw f at e))
]

pub fed-found : (a : SocketAddr) (bytes : List ℕ) (s : State) (stream : Stream) → IsAlone a s → stream_at a s ≡ Some stream
    → find is_ready (with_bytes a bytes s).streams ≡ cond (is_ready (record stream { bytes = bytes })) (Some (record stream { bytes = bytes })) None
fed-found a bytes s stream alone e = find-fed a bytes s.streams stream alone.distinct alone.others e

-- ---- what changes this stream alone

pub aside-alone : (a : SocketAddr) (s t : State) → IsAsideFrom a s t → with_bytes a [] t ≡ t → IsDistinct same_address (ends s.streams) → OthersWait a s.streams → IsAlone a t
aside-alone a s t aside empty distinct others = record {
  distinct = subst (λ (l : List SocketAddr). IsDistinct same_address l) (sym (ap ends aside.same ∙ ends-map aside.change aside.ends s.streams)) distinct;
  empty = empty;
  others = λ x there differs. by x differs (has-mapped aside.change x s.streams (subst (λ (xs : List Stream). Has x xs) aside.same there));
}
  where
    by : (x : Stream) → same_address x.local a ≡ false → (y : Stream) × Has y s.streams × (x ≡ aside.change y) → is_ready x ≡ false
    by x differs (y, before, e) =
        let ends_there : x.local ≡ y.local = ap (λ (z : Stream). z.local) e ∙ aside.ends y in
        let other : same_address y.local a ≡ false = subst (λ (l : SocketAddr). same_address l a ≡ false) ends_there differs in
        let same : x ≡ y = e ∙ aside.others y other in
        subst (λ (z : Stream). is_ready z ≡ false) (sym same) (others y before other)
