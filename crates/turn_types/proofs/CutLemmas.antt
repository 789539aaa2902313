-- The law of cuts: the result of a stream is the same wherever it is cut.
use Rattle.std.proofs.Common.{◌≡◌, ℕ, zero, suc, ◌<◌, ◌≤◌, List, [], ◌∷◌, ◌++◌, length, take, drop, Option, Some, None, refl, sym, ap, ◌∙◌, arith, append_assoc}
use Rattle.std.proofs.lemmas.List.{length-drop, append-nil, take-append-le, drop-append-le}
use Rattle.std.specs.List.{concat}
use Rattle.turn_types.specs.Cuts.{Drained, IsPrefixCut, behind, one_frame, drained_at_most, drained, fed, fed_each}

behind-behind : {S O : Type 0} (first second : List O) (d : Drained S O) → behind first (behind second d) ≡ behind (first ++ second) d
behind-behind first second d = simp append_assoc

module _ {S O : Type 0} (size : S → List ℕ → Option ℕ) (handle : S → List ℕ → S × List O) (is : IsPrefixCut size) where
  -- a stream of no bytes has no first frame
  nothing_in_front : (s : S) (bytes : List ℕ) → length bytes ≤ 0 → (found : Option ℕ) → size s bytes ≡ found → found ≡ None
  nothing_in_front s bytes empty None e = refl
  nothing_in_front s bytes empty (Some k) e = let within = is.within s bytes k e in absurd (omega arith)

  -- the rest after the first frame is shorter
  same_later : (next other : S → List ℕ → Drained S O) (s : S) (bytes : List ℕ) (found : Option ℕ) → size s bytes ≡ found
      → ((t : S) (rest : List ℕ) → length rest < length bytes → next t rest ≡ other t rest) → one_frame size handle next s bytes found ≡ one_frame size handle other s bytes found
  same_later next other s bytes None e same = refl
  same_later next other s bytes (Some k) e same =
      let within = is.within s bytes k e in
      let shorter : length (drop k bytes) < length bytes = rw length-drop (omega arith) in
      ap (λ (d : Drained S O). behind (handle s (take k bytes)).1 d) (same (handle s (take k bytes)).0 (drop k bytes) shorter)

  -- with as many steps as bytes, more steps give the same
  enough : (n m : ℕ) (s : S) (bytes : List ℕ) → length bytes ≤ n → length bytes ≤ m → drained_at_most size handle n s bytes ≡ drained_at_most size handle m s bytes
  unfolding drained_at_most
  enough zero zero s bytes hn hm = refl
  enough zero (suc m) s bytes hn hm = rw (nothing_in_front s bytes hn _ refl) refl
  enough (suc n) zero s bytes hn hm = rw (nothing_in_front s bytes hm _ refl) refl
  enough (suc n) (suc m) s bytes hn hm =
      same_later (drained_at_most size handle n) (drained_at_most size handle m) s bytes _ refl
      (λ t rest shorter. enough n m t rest (omega arith) (omega arith))

  drained_at_most-first : (n : ℕ) (s : S) (bytes : List ℕ) → length bytes ≤ n → drained_at_most size handle n s bytes ≡ one_frame size handle (drained size handle) s bytes (size s bytes)
  unfolding drained_at_most
  drained_at_most-first zero s bytes h = rw (nothing_in_front s bytes h _ refl) refl
  drained_at_most-first (suc n) s bytes h =
      same_later (drained_at_most size handle n) (drained size handle) s bytes _ refl
      (λ t rest shorter. enough n (length rest) t rest (omega arith) (omega arith))

  -- the first frame, and then what is drained of the rest
  pub by_first : (s : S) (bytes : List ℕ) (found : Option ℕ) → size s bytes ≡ found → drained size handle s bytes ≡ one_frame size handle (drained size handle) s bytes found
  by_first s bytes found e = drained_at_most-first (length bytes) s bytes (omega arith) ∙ ap (one_frame size handle (drained size handle) s bytes) e

  -- a frame that is whole is taken first whatever follows it
  fed-first : (next : S → List ℕ → Drained S O) (s : S) (first more : List ℕ) (found : Option ℕ) → size s first ≡ found
      → ((t : S) (rest : List ℕ) → length rest < length first → drained size handle t (rest ++ more) ≡ fed size handle (next t rest) more)
      → drained size handle s (first ++ more) ≡ fed size handle (one_frame size handle next s first found) more
  fed-first next s first more None e later = refl
  fed-first next s first more (Some k) e later =
      let within = is.within s first k e in
      let inside : k ≤ length first = within.1 in
      let shorter : length (drop k first) < length first = rw length-drop (omega arith) in
      by_first s (first ++ more) (Some k) (is.stays s first more k e)
      ∙ rw (take-append-le k first more inside, drop-append-le k first more inside)
      (rw (later (handle s (take k first)).0 (drop k first) shorter)
      (behind-behind (handle s (take k first)).1 (next (handle s (take k first)).0 (drop k first)).given _))

  cut_at : (n : ℕ) (s : S) (first more : List ℕ) → length first ≤ n → drained size handle s (first ++ more) ≡ fed size handle (drained_at_most size handle n s first) more
  unfolding drained_at_most
  cut_at zero s first more h = refl
  cut_at (suc n) s first more h =
      fed-first (drained_at_most size handle n) s first more (size s first) refl
      (λ t rest shorter. cut_at n t rest more (omega arith))

  -- one cut
  pub drained-append : (s : S) (first more : List ℕ) → drained size handle s (first ++ more) ≡ fed size handle (drained size handle s first) more
  drained-append s first more = cut_at (length first) s first more (omega arith)

  -- any cut
  pub fed_each-drained : (pieces : List (List ℕ)) (s : S) (bytes : List ℕ) → fed_each size handle (drained size handle s bytes) pieces ≡ drained size handle s (bytes ++ concat pieces)
  fed_each-drained [] s bytes = ap (drained size handle s) (sym (append-nil bytes))
  fed_each-drained (piece ∷ pieces) s bytes =
      rw (← drained-append s bytes piece) (fed_each-drained pieces s (bytes ++ piece) ∙ ap (drained size handle s) (append_assoc bytes piece (concat pieces)))
