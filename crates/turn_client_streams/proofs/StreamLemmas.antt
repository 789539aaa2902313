-- Streams with distinct local addresses: to change one of them is to change the one at its local address.
use Rattle.std.proofs.Common.{◌≡◌, ℕ, ◌+◌, zero, suc, Bool, true, false, not, cond, nat_lt, if◌then◌else◌, List, [], ◌∷◌, ◌++◌, length, map, filter, drop, Option, Some, None, refl, sym, subst, ap, ◌∙◌, get_or}
use Rattle.std.specs.Prelude.{find, slice_get, set}
use Rattle.std.specs.Option.{option_map, option_map_or}
use Rattle.std.specs.List.{IsDistinct, AllByRecursion, position}
use Rattle.std.proofs.lemmas.Option.{slice_get-get_or}
use Rattle.turn_agent.proofs.AgentLemmas.{find-passes, position-IsFirst, position-none}
use Rattle.std.specs.declared.net.socket_addr.SocketAddr.{SocketAddr}
use Rattle.turn_agent.specs.Agent.{same_address}
use Rattle.turn_client_api.specs.declared.state.Stream.{Stream}
use Rattle.turn_client_api.proofs.AddressLemmas.{same_address-true, same_address-self, differ-sym}
use Rattle.turn_client_api.proofs.StreamEnds.{ends, IsNoneOf}
use Rattle.turn_client_api.specs.State.{State}
use Rattle.turn_types.specs.Buffers.{Buffered, cut_off, with_moved, with_taken}
use Rattle.turn_types.specs.Frames.{frame_len}
use Rattle.turn_types.specs.Streams as B
use Rattle.turn_client_streams.specs.Buffered.{is_control_mode, passed, with_content}
use Rattle.turn_client_streams.specs.Held.{HasOwnEnds, control_passed, control_stream, with_streams}

abbrev pub is_at : SocketAddr → Stream → Bool
is_at local x = same_address x.local local

-- the stream at this local address is changed so
abbrev pub at_end : SocketAddr → (Stream → Stream) → List Stream → List Stream
at_end local f xs = map (λ x. cond (same_address x.local local) (f x) x) xs

-- a change that leaves a stream its local address
abbrev pub KeepsEnd : (Stream → Stream) → Type 0
KeepsEnd f = (x : Stream) → (f x).local ≡ x.local

ends-at_end : (local : SocketAddr) (f : Stream → Stream) → KeepsEnd f → (xs : List Stream) → ends (at_end local f xs) ≡ ends xs
ends-at_end local f same [] = refl
ends-at_end local f same (x ∷ xs) = by (same_address x.local local) (ends-at_end local f same xs)
  where
    by : (b : Bool) → ends (at_end local f xs) ≡ ends xs → (cond b (f x) x).local ∷ ends (at_end local f xs) ≡ x.local ∷ ends xs
    by true later = rw (same x) (ap (λ t. x.local ∷ t) later)
    by false later = ap (λ t. x.local ∷ t) later

pub at_end-HasOwnEnds : (local : SocketAddr) (f : Stream → Stream) → KeepsEnd f → (xs : List Stream) → HasOwnEnds xs → HasOwnEnds (at_end local f xs)
at_end-HasOwnEnds local f same xs h = rw (ends-at_end local f same xs) h

others : (local : SocketAddr) (f : Stream → Stream) (xs : List Stream) → IsNoneOf local xs → at_end local f xs ≡ xs
others local f [] h = refl
others local f (x ∷ xs) h = rw (differ-sym local x.local h.0) (ap (λ t. x ∷ t) (others local f xs h.1))

at-differs : (local : SocketAddr) (xs : List Stream) (i : ℕ) (x : Stream) → IsNoneOf local xs → slice_get xs i ≡ Some x → same_address local x.local ≡ false
at-differs local [] i x h e = cc
at-differs local (y ∷ ys) zero x h e = let same : y ≡ x = cc in rw (← same) h.0
at-differs local (y ∷ ys) (suc i) x h e = at-differs local ys i x h.1 e

set-at_end : (f : Stream → Stream) (xs : List Stream) (i : ℕ) (x : Stream) → HasOwnEnds xs → slice_get xs i ≡ Some x → set xs i (f x) ≡ at_end x.local f xs
unfolding IsDistinct
set-at_end f [] i x h e = cc
set-at_end f (y ∷ ys) zero x h e =
    let same : y ≡ x = cc in
    subst (λ z. set (y ∷ ys) 0 (f z) ≡ at_end z.local f (y ∷ ys)) same
    (rw (same_address-self y.local) (ap (λ t. f y ∷ t) (sym (others y.local f ys h.0))))
set-at_end f (y ∷ ys) (suc i) x h e =
    rw (at-differs y.local ys i x h.0 e) (ap (λ t. y ∷ t) (set-at_end f ys i x h.1 e))

-- the first stream that passes a test is changed
pub set-first : (p : Stream → Bool) (f : Stream → Stream) (xs : List Stream) (i : ℕ) (d : Stream) → HasOwnEnds xs → position p xs ≡ Some i
    → set xs i (f (get_or xs i d)) ≡ at_end (get_or xs i d).local f xs
set-first p f xs i d h e =
    let first = position-IsFirst p xs i e in
    set-at_end f xs i (get_or xs i d) h (slice_get-get_or xs i d first.within)

pub set-HasOwnEnds : (p : Stream → Bool) (f : Stream → Stream) → KeepsEnd f → (xs : List Stream) (i : ℕ) (d : Stream) → HasOwnEnds xs → position p xs ≡ Some i
    → HasOwnEnds (set xs i (f (get_or xs i d)))
set-HasOwnEnds p f same xs i d h e = rw (set-first p f xs i d h e) (at_end-HasOwnEnds (get_or xs i d).local f same xs h)

restored : (xs : List Stream) (i : ℕ) (x : Stream) → HasOwnEnds xs → slice_get xs i ≡ Some x
    → at_end x.local (with_content x.bytes) (at_end x.local (with_content []) xs) ≡ xs
unfolding IsDistinct
restored [] i x h e = cc
restored (y ∷ ys) zero x h e =
    let same : y ≡ x = cc in
    let later : at_end y.local (with_content y.bytes) (at_end y.local (with_content []) ys) ≡ ys =
    ap (at_end y.local (with_content y.bytes)) (others y.local (with_content []) ys h.0) ∙ others y.local (with_content y.bytes) ys h.0 in
    subst (λ z. at_end z.local (with_content z.bytes) (at_end z.local (with_content []) (y ∷ ys)) ≡ y ∷ ys) same
    (rw (same_address-self y.local, same_address-self y.local) (ap (λ t. y ∷ t) later))
restored (y ∷ ys) (suc i) x h e =
    let apart = at-differs y.local ys i x h.0 e in
    rw (apart, apart) (ap (λ t. y ∷ t) (restored ys i x h.1 e))

-- the first stream that passes a test is taken out and put back
pub put-back : (p : Stream → Bool) (xs : List Stream) (i : ℕ) (d : Stream) → HasOwnEnds xs → position p xs ≡ Some i
    → at_end (get_or xs i d).local (with_content (get_or xs i d).bytes) (set xs i (with_content [] (get_or xs i d))) ≡ xs
put-back p xs i d h e =
    let first = position-IsFirst p xs i e in
    ap (at_end (get_or xs i d).local (with_content (get_or xs i d).bytes)) (set-first p (with_content []) xs i d h e)
    ∙ restored xs i (get_or xs i d) h (slice_get-get_or xs i d first.within)

-- the stream at this local address is changed
pub set-local : (local : SocketAddr) (f : Stream → Stream) (xs : List Stream) (i : ℕ) (d : Stream) → HasOwnEnds xs → position (is_at local) xs ≡ Some i
    → set xs i (f (get_or xs i d)) ≡ at_end local f xs
set-local local f xs i d h e =
    let first = position-IsFirst (is_at local) xs i e in
    let same = same_address-true (get_or xs i d).local local (find-passes (is_at local) xs (get_or xs i d) (first.found d)) in
    set-first (is_at local) f xs i d h e ∙ ap (λ a. at_end a f xs) same

-- with none at it nothing changes
pub none-local : (local : SocketAddr) (f : Stream → Stream) (xs : List Stream) → position (is_at local) xs ≡ None → at_end local f xs ≡ xs
none-local local f xs e = by xs (position-none (is_at local) xs e)
  where
    by : (xs : List Stream) → find (is_at local) xs ≡ None → at_end local f xs ≡ xs
    by [] e = refl
    by (x ∷ xs) e = one (same_address x.local local) refl (by xs)
      where
        one : (b : Bool) → same_address x.local local ≡ b → (find (is_at local) xs ≡ None → at_end local f xs ≡ xs) → at_end local f (x ∷ xs) ≡ x ∷ xs
        one true g later = let clash : Some x ≡ None = rw g at e in cc
        one false g later = rw g (ap (λ t. x ∷ t) (later (rw g at e)))

-- ---- the control stream, which is the first one

passed-is : (x : Stream) → with_content (passed x).bytes x ≡ passed x
passed-is x = by (frame_len x.bytes)
  where
    by : (o : Option ℕ)
        → with_content (option_map_or (λ len. with_content (drop len x.bytes) x) o x).bytes x ≡ option_map_or (λ len. with_content (drop len x.bytes) x) o x
    by None = refl
    by (Some len) = refl

-- a buffer whose first n bytes are returned, which moves the others to the front or not
abbrev cut_as : Bool → ℕ → Buffered → Buffered
cut_as moves n b =
    let rest : B.Stream = record { bytes = drop n b.stream.bytes; is_broken = b.stream.is_broken } in
    if moves then record { stream = rest; start = 0; counts = with_moved (length rest.bytes) (with_taken n b.counts) }
    else record { stream = rest; start = b.start + n; counts = with_taken n b.counts }

-- it holds the others in both cases
pub cut-stream : (n : ℕ) (b : Buffered) → (cut_off n b).stream ≡ record { bytes = drop n b.stream.bytes; is_broken = b.stream.is_broken }
cut-stream n b = by (nat_lt (length (drop n b.stream.bytes)) (b.start + n))
  where
    by : (moves : Bool) → (cut_as moves n b).stream ≡ record { bytes = drop n b.stream.bytes; is_broken = b.stream.is_broken }
    by true = refl
    by false = refl

-- a whole first frame that has so many bytes is dropped
pub passed-whole : (len : ℕ) (x : Stream) → frame_len x.bytes ≡ Some len → with_content (drop len x.bytes) x ≡ passed x
passed-whole len x e = ap (λ o. option_map_or (λ n. with_content (drop n x.bytes) x) o x) (sym e)

-- its first frame is dropped
pub passed-control : (xs : List Stream) (d : Stream) (len : ℕ) (s : State) → HasOwnEnds xs
    → option_map (λ (x : Stream). frame_len x.bytes) (control_stream xs) ≡ Some (Some len)
    → with_streams (set xs 0 (passed (get_or xs 0 d))) s ≡ control_passed (with_streams xs s)
passed-control [] d len s h e = cc
passed-control (x ∷ xs) d len s h e = by (is_control_mode x.mode) refl
  where
    by : (b : Bool) → is_control_mode x.mode ≡ b → with_streams (passed x ∷ xs) s ≡ control_passed (with_streams (x ∷ xs) s)
    by true f =
        rw (f, ← passed-is x)
        (ap (λ ys. with_streams ys s) (set-at_end (with_content (passed x).bytes) (x ∷ xs) 0 x h refl))
    by false f = let none : None ≡ Some (Some len) = rw f at e in cc

-- ---- streams are removed and added

are-filtered : (P : SocketAddr → Type 0) (p : Stream → Bool) (xs : List Stream) → AllByRecursion P (ends xs) → AllByRecursion P (ends (filter p xs))
are-filtered P p [] h = h
are-filtered P p (x ∷ xs) h = by (p x) refl (are-filtered P p xs h.1)
  where
    by : (b : Bool) → p x ≡ b → AllByRecursion P (ends (filter p xs)) → AllByRecursion P (ends (filter p (x ∷ xs)))
    by true e later = rw e (h.0, later)
    by false e later = rw e later

pub filter-HasOwnEnds : (p : Stream → Bool) (xs : List Stream) → HasOwnEnds xs → HasOwnEnds (filter p xs)
unfolding IsDistinct
filter-HasOwnEnds p [] h = h
filter-HasOwnEnds p (x ∷ xs) h = by (p x) refl (filter-HasOwnEnds p xs h.1)
  where
    by : (b : Bool) → p x ≡ b → HasOwnEnds (filter p xs) → HasOwnEnds (filter p (x ∷ xs))
    by true e later = rw e (are-filtered (λ y. same_address x.local y ≡ false) p xs h.0, later)
    by false e later = rw e later

all-last : (P : SocketAddr → Type 0) (xs : List Stream) (x : Stream) → P x.local → AllByRecursion P (ends xs) → AllByRecursion P (ends (xs ++ x ∷ []))
all-last P [] x last h = (last, tt)
all-last P (y ∷ ys) x last h = (h.0, all-last P ys x last h.1)

pub opened-HasOwnEnds : (local : SocketAddr) (x : Stream) (xs : List Stream) → x.local ≡ local → HasOwnEnds xs → HasOwnEnds (filter (λ y. not (is_at local y)) xs ++ x ∷ [])
unfolding IsDistinct
opened-HasOwnEnds local x [] same h = (tt, tt)
opened-HasOwnEnds local x (y ∷ ys) same h = by (is_at local y) refl (opened-HasOwnEnds local x ys same h.1)
  where
    by : (b : Bool) → is_at local y ≡ b → HasOwnEnds (filter (λ y. not (is_at local y)) ys ++ x ∷ []) → HasOwnEnds (filter (λ y. not (is_at local y)) (y ∷ ys) ++ x ∷ [])
    by true e later = rw e later
    by false e later =
        rw e (
          all-last (λ z. same_address y.local z ≡ false) (filter (λ z. not (is_at local z)) ys) x (rw same e)
              (are-filtered (λ z. same_address y.local z ≡ false) (λ z. not (is_at local z)) ys h.0),
          later,
        )
