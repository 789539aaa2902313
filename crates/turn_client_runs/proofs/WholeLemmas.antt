-- The whole of what is received over a stream, part by part.
use Rattle.turn_client_laws.proofs.Common.{◌≡◌, ℕ, Bool, true, false, cond, eqb, List, [], ◌∷◌, length, map, drop, take, Option, Some, None, refl, ap, sym, ◌∙◌, arith, ne_eqb, length-take-le}
use Rattle.turn_client_laws.proofs.Common.{option_map_or, SocketAddr}
use Rattle.turn_client_laws.proofs.Machine.{Drained, behind, begins_no_frame, frame_len, frame_len-IsWhole, size_in-IsPrefixCut, State, Mode, Control, Waiting, Bound, Broken, Stream, Payload}
use Rattle.turn_client_laws.proofs.Machine.{broken_at, frame_step, sent_by, stream_at}
use Rattle.turn_types.specs.Streams as T
use Rattle.turn_types.proofs.CutLemmas.{by_first}
use Rattle.turn_types.proofs.StepLemmas.{byte-drained}
use Rattle.turn_client_runs.specs.Cut.{framed_whole, after_frame, outcome_payloads, left, mode_at, part_at_step, read_from_front, whole, whole_in}
use Rattle.turn_client_runs.proofs.FollowLemmas.{IsFramed, control-framed, waiting-framed}
use Rattle.turn_client_runs.proofs.StreamAtLemmas.{broken-found, found-local}

module _ (a : SocketAddr) (now : ℕ) (s : State) where
  -- there is no first whole part
  pub whole-waits : (bytes : List ℕ) → T.size_in (mode_at a s) bytes ≡ None → whole a now s bytes ≡ left s bytes
  whole-waits bytes e = by_first (λ t. T.size_in (mode_at a t)) (part_at_step a now) (size_in-IsPrefixCut (mode_at a)) s bytes None e

  -- there is a first one
  pub whole-part : (bytes : List ℕ) (k : ℕ) → T.size_in (mode_at a s) bytes ≡ Some k → (p : State × List Payload) → part_at_step a now s (take k bytes) ≡ p
      → whole a now s bytes ≡ behind p.1 (whole a now p.0 (drop k bytes))
  whole-part bytes k e p is =
      by_first (λ t. T.size_in (mode_at a t)) (part_at_step a now) (size_in-IsPrefixCut (mode_at a)) s bytes (Some k) e
      ∙ ap (λ (q : State × List Payload). behind q.1 (whole a now q.0 (drop k bytes))) is

  -- a byte that is not part of a frame is a part
  whole-byte : (T.Framed ≡ mode_at a s → ⊥) → (b : ℕ) (bytes : List ℕ) (p : State × List Payload) → part_at_step a now s (b ∷ []) ≡ p → whole a now s (b ∷ bytes) ≡ behind p.1 (whole a now p.0 bytes)
  whole-byte other b bytes p is =
      byte-drained (mode_at a) (part_at_step a now) s b bytes (λ e. other (sym e))
      ∙ ap (λ (q : State × List Payload). behind q.1 (whole a now q.0 bytes)) is

  -- bytes of a broken or missing stream are dropped
  pub whole-unmeant : mode_at a s ≡ T.Broken → ((b : ℕ) → part_at_step a now s (b ∷ []) ≡ (s, [])) → (bytes : List ℕ) → whole a now s bytes ≡ left s []
  whole-unmeant e part [] = whole-waits [] (rw e refl)
  whole-unmeant e part (b ∷ bytes) =
      whole-byte (λ f. cc (f ∙ e)) b bytes (s, []) (part b)
      ∙ ap (λ (d : Drained State Payload). behind [] d) (whole-unmeant e part bytes)

  -- a bound stream returns its bytes
  pub whole-bound : (peer : SocketAddr) → mode_at a s ≡ T.Bound → ((b : ℕ) → part_at_step a now s (b ∷ []) ≡ (s, sent_by peer (b ∷ []) None ∷ [])) → (bytes : List ℕ)
      → whole a now s bytes ≡ record { state = s; given = map (λ b. sent_by peer (b ∷ []) None) bytes; rest = [] }
  whole-bound peer e part [] = whole-waits [] (rw e refl)
  whole-bound peer e part (b ∷ bytes) =
      whole-byte (λ f. cc (f ∙ e)) b bytes (s, sent_by peer (b ∷ []) None ∷ []) (part b)
      ∙ ap (λ (d : Drained State Payload). behind (sent_by peer (b ∷ []) None ∷ []) d) (whole-bound peer e part bytes)

  pub none-whole : stream_at a s ≡ None → (bytes : List ℕ) → whole a now s bytes ≡ left s []
  none-whole e bytes = whole-unmeant (rw e refl) (λ b. rw e refl) bytes

  pub broken-whole : (stream : Stream) → stream_at a s ≡ Some (record stream { mode = Broken }) → (bytes : List ℕ) → whole a now s bytes ≡ left s []
  broken-whole stream e bytes = whole-unmeant (rw e refl) (λ b. rw e refl) bytes

  pub bound-whole : (peer : SocketAddr) (stream : Stream) → stream_at a s ≡ Some (record stream { mode = Bound peer }) → (bytes : List ℕ)
      → whole a now s bytes ≡ record { state = s; given = map (λ b. sent_by peer (b ∷ []) None) bytes; rest = [] }
  bound-whole peer stream e bytes = whole-bound peer (rw e refl) (λ b. rw e refl) bytes

-- ---- a stream of frames

pub unless : (b : Bool) (x y : Option ℕ) → b ≡ false → cond b x y ≡ y
unless true x y e = cc
unless false x y e = refl

module _ (a : SocketAddr) (now : ℕ) (c : Bool) (m : Mode) (is : IsFramed c m) (stream : Stream) (s : State) (e : stream_at a s ≡ Some (record stream { mode = m })) where
  abbrev here : Stream
  here = record stream { mode = m }

  means : mode_at a s ≡ T.Framed
  means = rw e is.means

  size-is : (bytes : List ℕ) (o : Option ℕ) → cond (begins_no_frame bytes) (Some 1) (frame_len bytes) ≡ o → T.size_in (mode_at a s) bytes ≡ o
  size-is bytes o f = ap (λ (k : T.Mode). T.size_in k bytes) means ∙ f

  -- no frame begins so
  pub whole-breaks : (bytes : List ℕ) → begins_no_frame bytes ≡ true → whole a now s bytes ≡ left (broken_at a s) []
  whole-breaks [] f = cc
  whole-breaks (b ∷ bytes) f =
      let part-is : part_at_step a now s (b ∷ []) ≡ (broken_at a s, []) = rw e (is.part stream (b ∷ []) now s ∙ ap (λ (l : SocketAddr). (broken_at l s, [])) (found-local a s here e)) in
      whole-part a now s (b ∷ bytes) 1 (size-is (b ∷ bytes) (Some 1) (rw f refl)) (broken_at a s, []) part-is
      ∙ ap (λ (d : Drained State Payload). behind [] d) (broken-whole a now (broken_at a s) (record stream { bytes = [] }) (broken-found a s here e) bytes)

  -- no whole frame is present
  pub whole-partial : (bytes : List ℕ) → begins_no_frame bytes ≡ false → frame_len bytes ≡ None → whole a now s bytes ≡ left s bytes
  whole-partial bytes f g = whole-waits a now s bytes (size-is bytes None (unless _ _ _ f ∙ g))

  -- the first frame has so many bytes
  pub whole-frame : (bytes : List ℕ) (k : ℕ) → begins_no_frame bytes ≡ false → frame_len bytes ≡ Some k → whole a now s bytes ≡ after_frame a here k now s bytes
  whole-frame bytes k f g =
      let w = frame_len-IsWhole bytes k g in
      let p = frame_step here (take k bytes) now s in
      let long : eqb (length (take k bytes)) 1 ≡ false = ne_eqb (length (take k bytes)) 1 (λ one. let same = length-take-le k bytes w.within in absurd (omega (arith, one, same, w.least))) in
      let part-is : part_at_step a now s (take k bytes) ≡ (p.1, outcome_payloads p.0) = rw e (is.part stream (take k bytes) now s ∙ rw long refl) in
      whole-part a now s bytes k (size-is bytes (Some k) (unless _ _ _ f ∙ g)) (p.1, outcome_payloads p.0) part-is

  pub whole-framed : (bytes : List ℕ) → whole a now s bytes ≡ framed_whole a here now s bytes
  whole-framed bytes = by (begins_no_frame bytes) refl (frame_len bytes) refl
    where
      by : (b : Bool) → begins_no_frame bytes ≡ b → (o : Option ℕ) → frame_len bytes ≡ o → whole a now s bytes ≡ framed_whole a here now s bytes
      by true f o g = whole-breaks bytes f ∙ rw f refl
      by false f None g = whole-partial bytes f g ∙ rw (g, f) refl
      by false f (Some k) g = whole-frame bytes k f g ∙ rw (g, f) refl

-- the whole, read from its start
pub whole-front : (a : SocketAddr) (now : ℕ) (s : State) (bytes : List ℕ) → whole a now s bytes ≡ read_from_front a now s bytes
whole-front a now s bytes = by (stream_at a s) refl
  where
    in-mode : (m : Mode) (stream : Stream) → stream_at a s ≡ Some (record stream { mode = m }) → whole a now s bytes ≡ whole_in a (record stream { mode = m }) now s bytes
    in-mode Control stream e = whole-framed a now true Control control-framed stream s e bytes
    in-mode Waiting stream e = whole-framed a now false Waiting waiting-framed stream s e bytes
    in-mode (Bound peer) stream e = bound-whole a now s peer stream e bytes
    in-mode Broken stream e = broken-whole a now s stream e bytes

    by : (o : Option Stream) → stream_at a s ≡ o → whole a now s bytes ≡ option_map_or (λ stream. whole_in a stream now s bytes) o (left s [])
    by None e = none-whole a now s e bytes
    by (Some stream) e = in-mode stream.mode stream e
