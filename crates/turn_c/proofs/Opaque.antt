-- A value that C holds by a pointer is lent to a safe function, and comes back. Nothing here knows its type. Assumes `Logic`.
--     gave_all, Goes-gave_all      parameters that the body passed on for good: what its callee says of them at exit is left of them
--     lent_out             what lies at a place is lent as a `&mut` for κ
--     comes_in             and lies there again, at its last value, once the callee has returned it
--     parts, joins         the tokens of a call's lifetimes are those of all but the last, and that of the last
--     drop_glue            what a type's drop asks and gives is what a call of a generic function wants of it
--     result_out           a `Result` by its two cases
--     null_or              a pointer by its two cases
use mathlib.Core.List.{List, [], ◌∷◌, ◌++◌}
use Prim.Native.Nat.{ℕ, zero, suc}
use seplogic.Ra.Ura.{Ura}
use base.Fraction.{full_share}
use base.Logic.{SProp, ent, sep, ex, emp, via, mono_l, comm∗, id⊢}
use base.Fml.{Fml, Lft, GName, Share, ftrue, fsep, flent, flft}
use mir.Syntax.{Lifetime, Ty}
use mir.Val.{Val, vptr, of_list}
use types.Logic.{Logic, sem}
use types.SemTy.{Body}
use mathlib.Core.Path.{◌≡◌, refl, ap, ◌∙◌}
use types.Match.{live}
use denote.Steps.{only}
use Rattle.std.specs.declared.result.Result.{Result}
use Rattle.std.specs.declared.result.Result.TheVariants.{Ok, Err}
use Rattle.std.specs.contracts.result.Result as outcome
use types.Kit.{Goal, Item, Seq, drop, fsplit, feq_l, fpick, ‵, raw, ◌⊛◌, some, later, ◌$◌, ◌∵◌, !, qed, move, keep, use0, use1, split, join, pick, show, await, updating, now as at_once, done}
use contract.BorrowLft.{◌⊑◌}
use contract.Lifetimes.{Lfts, Shares, toks}
use contract.Monad.{Fun, fact}
use denote.Builtin.{unit}
use denote.Exit.{Kept, left, yes, no}
use denote.Lend.{lends_ref, left_lies}
use denote.Memory.{part_at, part_of, mem}
use denote.RattleType.{RattleType}
use denote.RawPtr.{Ptr, block_ptr, null_ptr}
use denote.Param.{arg}
use denote.Param.Glue as glue
use denote.Ref.{MutBor, MutRef}
use denote.Signature.{Signature, Slot, plain}
use denote.Steps.{nothing}
use denote.Triple.End.{Kepts}
use denote.Triple.Spec.{Back, Spec, Meets, exits, triple_of}
use denote.Triple.Statement.{Contract, FmF}
use denote.Triple.Walked.{Stay, Stays, Goes, AllGo}

abbrev pub gave : {n : ℕ} (s : Slot n) (k : Kept) → Stay s k
gave s k = record { fit = λ κs x f. Unit {0}; has = λ κs x f vs. left ((s.row κs).exit k) x f }

abbrev pub gave_all : {n : ℕ} (ss : List (Slot n)) (ks : Kepts ss) → Stays ss ks
gave_all [] ks = tt
gave_all (s ∷ ss) ks = (gave s ks.0, gave_all ss ks.1)

module _ {M : Type 1} {𝓤 : Ura M} (𝓛 : Logic 𝓤) where
  open 𝓛 use {H, A}

  pub Goes-gave : (n : ℕ) (s : Slot n) (k : Kept) → Goes 𝓛 n s k (gave s k)
  Goes-gave n s k κs x f vs ok = 𝓛.laws.⇛_intro _

  pub Goes-gave_all : (n : ℕ) (ss : List (Slot n)) (ks : Kepts ss) → AllGo 𝓛 n ss ks (gave_all ss ks)
  Goes-gave_all n [] ks = tt
  Goes-gave_all n (s ∷ ss) ks = (Goes-gave n s ks.0, Goes-gave_all n ss ks.1)

  module _ (R : RattleType) (ℓ : Lifetime) (κ : Lft) where
    pub lent_out : (x : R.Denot) (b o : ℕ) → ent 𝓤 (sem 𝓛 (part_at R full_share x b o))
        (H.⇛ (ex 𝓤 (λ (γ : GName). sem 𝓛 ((MutRef ℓ κ R).own_val (record { ref_ptr = (b, o); ghost_name = γ; now = x }) (vptr b o ∷ [])))))
    unfolding part_of
    lent_out x b o =
        qed 𝓛 (‵ ((mem R).own_at x b o) ∷ []) ∵ updating ! $ use1 𝓛 (later (some (λ (γ : GName). ‵ ((MutRef ℓ κ R).own_val (record { ref_ptr = (b, o); ghost_name = γ; now = x }) (vptr b o ∷ [])) ⊛ ‵
        (flent κ (Body (mem R) b o γ))))) (lends_ref 𝓛 R ℓ κ x b o) $ await ! tt $ pick ! (λ γ.
        at_once ! $ show ! (λ (γ' : GName). sem 𝓛 ((MutRef ℓ κ R).own_val (record { ref_ptr = (b, o); ghost_name = γ'; now = x }) (vptr b o ∷ []))) γ $ split ! $ keep ! (0 ∷ []) $ done !)

    pub comes_in : (q : Share) (x : MutBor R.Denot) (w : R.Denot)
        → ent 𝓤 (sep 𝓤 (sem 𝓛 (left ((MutRef ℓ κ R).exit yes) x w)) (A.lft κ q)) (H.⇛ (sem 𝓛 (part_at R full_share w x.ref_ptr.0 x.ref_ptr.1)))
    unfolding part_of
    comes_in q x w = left_lies 𝓛 R ℓ κ q x w

-- ---- the lifetimes of a call: all but the last, and the last
abbrev pub front : (n : ℕ) → Lfts (suc n) → Lfts n
front zero κs = tt
front (suc n) κs = (κs.0, front n κs.1)

abbrev pub fronts : (n : ℕ) → Shares (suc n) → Shares n
fronts zero qs = tt
fronts (suc n) qs = (qs.0, fronts n qs.1)

abbrev pub back : (n : ℕ) → Lfts (suc n) → Lft
back zero κs = κs.0
back (suc n) κs = back n κs.1

abbrev pub backs : (n : ℕ) → Shares (suc n) → Share
backs zero qs = qs.0
backs (suc n) qs = backs n qs.1

module _ {M : Type 1} {𝓤 : Ura M} (𝓛 : Logic 𝓤) where
  open 𝓛 use {A}

  pub parts : (n : ℕ) (κs : Lfts (suc n)) (qs : Shares (suc n)) → ent 𝓤 (toks 𝓛 (suc n) κs qs) (sep 𝓤 (toks 𝓛 n (front n κs) (fronts n qs)) (A.lft (back n κs) (backs n qs)))
  parts zero κs qs = comm∗ 𝓤 (A.lft κs.0 qs.0) (emp 𝓤)
  parts (suc n) κs qs =
      qed 𝓛 ((‵ (flft κs.0 qs.0) ⊛ raw (toks 𝓛 (suc n) κs.1 qs.1)) ∷ []) ∵ split ! $ move ! (1 ∷ []) $
      use1 𝓛 (raw (toks 𝓛 n (front n κs.1) (fronts n qs.1)) ⊛ ‵ (flft (back n κs.1) (backs n qs.1))) (parts n κs.1 qs.1) $ split ! $ move ! (2 ∷ 0 ∷ []) $ join ! $ join ! $ done !

  pub joins : (n : ℕ) (κs : Lfts (suc n)) (qs : Shares (suc n)) → ent 𝓤 (sep 𝓤 (toks 𝓛 n (front n κs) (fronts n qs)) (A.lft (back n κs) (backs n qs))) (toks 𝓛 (suc n) κs qs)
  joins zero κs qs = comm∗ 𝓤 (emp 𝓤) (A.lft κs.0 qs.0)
  joins (suc n) κs qs =
      qed 𝓛 (((‵ (flft κs.0 qs.0) ⊛ raw (toks 𝓛 n (front n κs.1) (fronts n qs.1))) ⊛ ‵ (flft (back n κs.1) (backs n qs.1))) ∷ []) ∵ split ! $ split ! $ move ! (1 ∷ 2 ∷ []) $ join ! $
      use1 𝓛 (raw (toks 𝓛 (suc n) κs.1 qs.1)) (joins n κs.1 qs.1) $ move ! (1 ∷ 0 ∷ []) $ join ! $ done !

-- ---- what a type's drop asks and gives is what a call of a generic function wants of it
module _ (R : RattleType) (δ : Ty) where
  abbrev pub drop_signature : Signature
  drop_signature = record { lifetimes = 0; outlives = []; params = plain (λ κs. R) ∷ []; result = plain (λ κs. unit) }

  abbrev X : RattleType
  X = arg δ no R

  module _ {M : Type 1} {𝓤 : Ura M} (𝓛 : Logic 𝓤) where
    open 𝓛 use {H, A}

    abbrev pub drop_spec : Spec 𝓤 drop_signature
    drop_spec κs a = record { ghost = Unit {0}; requires = λ _. emp 𝓤; ensures = λ _ r. exits 𝓛 drop_signature (yes, tt) κs a (λ _. emp 𝓤) }

    abbrev Drops : Contract 𝓤
    Drops = triple_of 𝓛 drop_signature drop_spec

    abbrev Glue : Contract 𝓤
    Glue = triple_of 𝓛 (glue.signature X) (glue.spent 𝓛 X)

    abbrev NothingEnds : SProp 𝓤
    NothingEnds = ex 𝓤 (λ (ws : Unit {0} × Unit {0}). sep 𝓤 (sem 𝓛 (fsep ftrue ftrue)) (emp 𝓤))

    nothing_ends : ent 𝓤 (emp 𝓤) NothingEnds
    nothing_ends = qed 𝓛 [] ∵ show ! (λ (ws : Unit {0} × Unit {0}). sep 𝓤 (sem 𝓛 (fsep ftrue ftrue)) (emp 𝓤)) (tt, tt) $ nothing ! $ nothing ! $ nothing ! $ join ! $ done !

    module _ (y : Glue.Ghost) where
      abbrev z : Drops.Ghost
      z = ((tt, tt, tt, (y.0.3.0, tt), (y.0.4.0, tt)), tt)

      asks : ent 𝓤 (Glue.pre y) (sep 𝓤 (Drops.pre z) (A.lft y.0.0.0 y.0.1.0))
      asks = qed 𝓛 (((‵ (flft y.0.0.0 y.0.1.0) ⊛ ‵ ftrue) ⊛ ‵ (fsep (R.own_val y.0.3.0 y.0.4.0) ftrue)) ∷ raw (fact 𝓤 (y.0.0.0 ⊑ R.lives)) ∷ ‵ ftrue ∷ []) ∵
          split ! $ split ! $ keep ! (0 ∷ 2 ∷ []) $ nothing ! $ move ! (2 ∷ []) $ nothing ! $ join ! $ join ! $ done !

      gives : (v : Val) → ent 𝓤 (sep 𝓤 (Drops.post z v) (A.lft y.0.0.0 y.0.1.0)) (Glue.post y v)
      gives v = qed 𝓛 (raw (Drops.post z v) ∷ ‵ (flft y.0.0.0 y.0.1.0) ∷ []) ∵ updating ! $
          use1 𝓛 (later (some (λ (r : Unit {0}). (‵ ftrue ⊛ ‵ (unit.own_val r (v ∷ []))) ⊛ raw (exits 𝓛 drop_signature (yes, tt) tt (y.0.3.0, tt) (λ _. emp 𝓤))))) (id⊢ 𝓤 _) $ await ! tt $ pick ! (λ r.
          split ! $ split ! $ keep ! (1 ∷ 3 ∷ []) $ move ! (1 ∷ []) $ nothing ! $ move ! (1 ∷ 0 ∷ []) $ join ! $ join ! $ use0 𝓛 (raw NothingEnds) nothing_ends $ move ! (1 ∷ 0 ∷ []) $
          at_once ! $ show ! (λ (t : Unit {0}). sep 𝓤 (Back 𝓛 (glue.signature X) y.0 v t) NothingEnds) r $ done !)

    pub drop_glue : (run : Fun 𝓤) → FmF 𝓤 run → Meets 𝓛 drop_signature run drop_spec → Meets 𝓛 (glue.signature X) run (glue.spent 𝓛 X)
    drop_glue run fm met y =
        via 𝓤 (sep 𝓤 (Drops.pre (z y)) (A.lft y.0.0.0 y.0.1.0)) (asks y)
        (via 𝓤 (sep 𝓤 (run (Drops.args (z y)) (Drops.post (z y))) (A.lft y.0.0.0 y.0.1.0)) (mono_l 𝓤 (A.lft y.0.0.0 y.0.1.0) (met (z y)))
        (fm (Drops.args (z y)) (Drops.post (z y)) (Glue.post y) (A.lft y.0.0.0 y.0.1.0) (gives y)))

-- ---- a `Result` by its two cases, each with its machine value
module _ {M : Type 1} {𝓤 : Ura M} {𝓛 : Logic 𝓤} {K : Type 0} {Γ : List (Item 𝓤)} {G : Goal 𝓤 𝓛.H} where
  pub result_out : K → (R S : RattleType) (r : Result R.Denot S.Denot) (v : Val)
      → ((x : R.Denot) (us : List Val) → r ≡ Ok x → v ≡ live 0 (of_list (us ++ [])) → Seq K 𝓛 (‵ (R.own_val x us) ∷ Γ) G)
      → ((x : S.Denot) (us : List Val) → r ≡ Err x → v ≡ live 1 (of_list (us ++ [])) → Seq K 𝓛 (‵ (S.own_val x us) ∷ Γ) G)
      → Seq K 𝓛 (‵ ((outcome.the_row R S).own_val r (v ∷ [])) ∷ Γ) G
  result_out t R S (Ok x) v at_ok at_err =
      fpick t (λ us. fsplit t $ feq_l t (λ e. fpick t (λ vss. fsplit t $ feq_l t (λ e'. fsplit t $ move t (1 ∷ []) $ drop t $ at_ok x vss.0 refl (ap only e
      ∙ ap (λ (ws : List Val). live 0 (of_list ws)) e')))))
  result_out t R S (Err x) v at_ok at_err =
      fpick t (λ us. fsplit t $ feq_l t (λ e. fpick t (λ vss. fsplit t $ feq_l t (λ e'. fsplit t $ move t (1 ∷ []) $ drop t $ at_err x vss.0 refl (ap only e
      ∙ ap (λ (ws : List Val). live 1 (of_list ws)) e')))))

module _ {M : Type 1} {𝓤 : Ura M} {𝓛 : Logic 𝓤} {K : Type 0} {Γ : List (Item 𝓤)} {G : Goal 𝓤 𝓛.H} where
  pub null_or : K → (p : Ptr) (F : Ptr → Fml) → (p ≡ null_ptr → Seq K 𝓛 (‵ (F null_ptr) ∷ Γ) G)
      → ((b o : ℕ) → p ≡ block_ptr b o → Seq K 𝓛 (‵ (F (block_ptr b o)) ∷ Γ) G) → Seq K 𝓛 (‵ (F p) ∷ Γ) G
  null_or t null_ptr F h k = h refl
  null_or t (block_ptr b o) F h k = k b o refl
