-- Bytes that C passes by a pointer and a length lie at a place that is not null, and go back. Assumes `Logic`.
--     bytes_in, bytes_back      they lie at the place that the function `place_of` names
--     cells_in, cells_back      the same of a buffer that is written
use Rattle.std.proofs.Common.{◌≡◌, ℕ, ◌<◌, ◌^◌, List, [], ◌∷◌, length, suc-ne-zero, refl, sym, ap, lit<}
use Prim.Native.Nat.{zero, suc}
use seplogic.Ra.Ura.{Ura}
use base.Logic.{ent, via, never, never_e, fst∗}
use base.Fml.{Share, ftrue, feq, fsep, fex}
use types.Logic.{Logic, sem}
use types.Kit.{Goal, Item, Seq, ‵, given, ◌$◌, ◌∵◌, !, qed, move, drop, learn, use1, rewrite, fsplit, fjoin, fpick, fpack, feq_i, feq_l, done}
use denote.Array.{Array}
use denote.Builtin.{u8}
use denote.Memory.{part_at}
use denote.RawPtr.{Ptr, block_ptr, null_ptr}
use denote.RawPtr.Bytes.{bytes, bytes_apart, bytes_whole}
use denote.Steps.{nothing}
use Rattle.turn_c.specs.Bytes.{bytes_at, place_of}

none_of : (xs : List ℕ) → length xs ≡ 0 → xs ≡ []
none_of [] e = refl
none_of (x ∷ xs) e = absurd (suc-ne-zero _ e)

module _ {M : Type 1} {𝓤 : Ura M} {𝓛 : Logic 𝓤} {K : Type 0} {Γ : List (Item 𝓤)} {G : Goal 𝓤 𝓛.H} where
  pub bytes_in : K → (q : Share) (p : Ptr) (n : ℕ) (xs : List ℕ) (b' o' : ℕ)
      → ((b o : ℕ) → place_of p n (block_ptr b' o') ≡ block_ptr b o → length xs ≡ n → n < 2 ^ 63 → Seq K 𝓛 (‵ (bytes q xs b o) ∷ Γ) G)
      → Seq K 𝓛 (‵ (bytes_at q p n xs) ∷ Γ) G
  bytes_in t q p zero xs b' o' k =
      fpick t (λ e. rewrite t 0 (λ (ys : List ℕ). ‵ (bytes q ys b' o')) (sym e) refl $ k b' o' refl (ap length e) (lit< tt))
  bytes_in t q (block_ptr b o) (suc n) xs b' o' k =
      fsplit t $ move t (1 ∷ []) $ fpick t (λ low. drop t $ use1 𝓛 (‵ (fsep (feq ℕ (length xs) (suc n)) (bytes q xs b o))) (bytes_apart 𝓛 q (suc n) xs b o) $
      fsplit t $ feq_l t (λ e. k b o refl e low))
  bytes_in t q null_ptr (suc n) xs b' o' k =
      use1 𝓛 (given ⊥ (‵ ftrue)) (via 𝓤 (never 𝓤) (fst∗ 𝓤 (never 𝓤) (sem 𝓛 (fex (suc n < 2 ^ 63) (λ _. ftrue)))) (never_e 𝓤 _)) $ learn t (λ z. absurd z)

module _ {M : Type 1} {𝓤 : Ura M} (𝓛 : Logic 𝓤) where
  pub bytes_back : (q : Share) (p : Ptr) (n : ℕ) (xs : List ℕ) (b' o' b o : ℕ) → place_of p n (block_ptr b' o') ≡ block_ptr b o → length xs ≡ n → n < 2 ^ 63
      → ent 𝓤 (sem 𝓛 (bytes q xs b o)) (sem 𝓛 (bytes_at q p n xs))
  bytes_back q p zero xs b' o' b o e l low = qed 𝓛 (‵ (bytes q xs b o) ∷ []) ∵
      rewrite ! 0 (λ (ys : List ℕ). ‵ (bytes q ys b o)) (none_of xs l) refl $ fpack ! (xs ≡ []) (λ _. ftrue) (none_of xs l) $ done !
  bytes_back q p (suc n) xs b' o' b o e l low = qed 𝓛 (‵ (bytes q xs b o) ∷ []) ∵
      feq_i ! ℕ (length xs) (suc n) l $ fjoin ! $ use1 𝓛 (‵ (part_at (Array u8 (suc n)) q xs b o)) (bytes_whole 𝓛 q (suc n) xs b o) $
      nothing ! $ fpack ! (suc n < 2 ^ 63) (λ _. ftrue) low $ move ! (1 ∷ 0 ∷ []) $ fjoin ! $
      rewrite ! 0 (λ (s : Ptr). ‵ (bytes_at q s (suc n) xs)) (sym e) refl $ done !
