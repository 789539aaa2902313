-- `make_session` turns the box that `started` made into its pointer, and puts that in the place; or it hands on the number of the error.
use Rattle.std.proofs.Common.{◌≡◌, List, [], ◌∷◌, ◌++◌, refl, sym, ap, ◌∙◌, subst, lit<, w32}
use native.Mathlib.Nat.{suc-ne-zero}
use Prim.Native.Nat.{ℕ}
use mir.Syntax.{named, method, no_args}
use mir.Val.{Val, vint, of_list}
use base.Logic.{emp, id⊢}
use base.Fraction.{full_share}
use base.Fml.{Lft, ftrue, fsep, fex, flft}
use types.Kit.{‵, raw, ◌⊛◌, some, later, at_ret, ◌$◌, ◌∵◌, !, qed, by, move, keep, drop, split, join, fsplit, fjoin, fjoin3, fpack, pick, use0, use1, await, rewrite, feq_i, feq_l}
use types.Run.{of_opd, addr, stop, fld, lit, no_more, and_then, first, exec, returns, enter}
use types.ByLocal.{alloc_all, pass_all, free_all, look_at, get, get_in, get_tag, through, sets, sets_last, lands_as, env}
use types.Match.{live, vrt, in_variant, by_variants}
use types.Part.{whole}
use types.Tokens.{lft_new}
use contract.Lifetimes.{toks}
use contract.Monad.{fact, fact_i}
use contract.BorrowLft.{◌⊑◌}
use contract.Running.{tables}
use denote.Builtin.{u8, u32, unit, RawPtr}
use denote.Exit.{yes, left}
use denote.Laws.{Is, shows}
use denote.Plain.{uint_Makes}
use denote.RattleType.{RattleType, owns}
use denote.RawPtr.{Ptr, ptr_val, rawptr_Lawful}
use denote.Ref.{MutRef, mut_vals, mut_Tells, shr_vals, shr_Tells}
use denote.Signature.{plain, types_at}
use denote.Slice.{shr_slice_vals, shr_slice_Tells, shr_slice_Lawful}
use denote.Steps.{nothing, only, heard, owned, facts}
use mir.Raw.{raw as bare}
use denote.Param.{layout}
use denote.Param.NoDrop
use denote.Triple.Call.{calls_at}
use denote.Triple.Clauses.{Lasts, lasts}
use denote.Triple.Entry.{alive}
use denote.Triple.Spec.{triple_of}
use denote.Triple.Table.{framed, run_framed, widened}
use denote.Triple.Walked.{Stays, walk_of, Goes-ref}
use Rattle.std.proofs.alloc.Shapes.{after}
use Rattle.std.specs.declared.result.Result.{Result}
use Rattle.std.specs.contracts.result.Result as outcome
use Rattle.std.specs.contracts.boxed.Box as boxed
use Rattle.std.proofs.BoxSteps.Form as box
use Rattle.std.proofs.BoxSteps.Steps.{box_out, box_in}
use Rattle.std.proofs.ResultValues.{and_tt}
use Rattle.std.proofs.raw_atomic.Walks.{proved, leaves}
use Rattle.std.specs.declared.alloc.Global.{Global}
use Rattle.std.specs.contracts.alloc.Global as Heap
use Rattle.std.specs.contracts.impls.GlobalAllocator.TheImpl.{ghosts, dict}
use Rattle.std.proofs.impls.GlobalAllocator.TheImpl.Met.{passed}
use Rattle.std.proofs.alloc.Global.TheLaws as heap
use Rattle.turn_c_calls.specs.contracts.session.Session.{the_row as R}
use Rattle.turn_c_calls.specs.contracts.settings.Settings as Settings
use Rattle.turn_c_calls.proofs.session.Session.TheLaws as session
use Rattle.turn_c.specs.Starts.{IsStarted, Starts}
use Rattle.turn_c.specs.Opaque.{holds_at, new_at}
use Rattle.turn_c.proofs.Boxed.{X, Z, L, LZ, drops, glue, E}
use Rattle.turn_c.proofs.Opaque.{gave_all, Goes-gave_all, front, fronts, back, backs, parts, joins, drop_signature, drop_spec, drop_glue, result_out}
use Rattle.turn_c.proofs.Refusals.{refusal}
use Rattle.std.specs.contracts.boxed.Box.into_raw as k
use Rattle.std.proofs.boxed.Box.into_raw.Met as into_raw
use Rattle.turn_c.specs.contracts.started as g
use Rattle.turn_c.proofs.started.Met as started
use Rattle.turn_c.specs.contracts.put as p
use Rattle.turn_c.proofs.put.Met as put
use Rattle.turn_c.specs.contracts.make_session as f
use Rattle.turn_c.proofs.make_session.Statement.{statement}
use Rattle.turn_c.proofs.make_session.Code as code
use Rattle.turn_c.proofs.Destruct++none.drop.Code.{code as none_code}
use Rattle.turn_c.proofs.turn_c_calls++session++Session+Destruct.drop.Met as dropped
use Rattle.turn_c.proofs.turn_c_calls++session++Session+Destruct.drop.Symbol as drop_symbol

abbrev stayed : Stays f.ended.signature.params f.ended.kept
stayed = gave_all f.ended.signature.params f.ended.kept

abbrev B : RattleType
B = boxed.the_row R Heap.the_row ghosts

pub make_session_spec : {M : Type 1} → statement M
unfolding none_code
make_session_spec {M} 𝓤 𝓛 𝓜 𝓡 wired =
    let c = f.clauses 𝓛 𝓜.mem 𝓡.returns in let W = walk_of 𝓛 f.ended stayed c in let 𝓣 = tables 𝓤 𝓛.H 𝓜 𝓡 𝓡.env in let fn = code.function in
    let G = triple_of 𝓛 g.signature (g.spec 𝓛 𝓜.mem 𝓡.returns) in let P = triple_of 𝓛 p.signature (p.spec 𝓛 𝓜.mem 𝓡.returns) in
    let N = triple_of 𝓛 (k.signature X Z ghosts dict drops glue) (k.spec X Z ghosts dict drops glue 𝓛 𝓜.mem 𝓡.returns) in let Ne = k.ended X Z ghosts dict drops glue in
    let allocator = passed 𝓡.env (code.calls-std_heap::GlobalAllocator::allocate 𝓡.env wired) (code.calls-std_heap::GlobalAllocator::deallocate 𝓡.env wired)
    (code.calls-std_heap::GlobalAllocator::grow 𝓡.env wired) (code.calls-std_heap::GlobalAllocator::shrink 𝓡.env wired) M 𝓤 𝓛 𝓜 𝓡 in
    let glued = NoDrop.glues "turn_c::Destruct++none::drop" 𝓡.env (code.calls-turn_c::Destruct++none::drop 𝓡.env wired) Z LZ M 𝓤 𝓛 𝓜 𝓡 in
    let m = method glue 0 no_args in let drop_wired = code.calls-turn_c::turn_c_calls++session++Session+Destruct::drop 𝓡.env wired in
    let its_glue = drop_glue R (bare (layout R)) 𝓛 (𝓡.run (𝓡.env m)) (run_framed 𝓤 𝓛.H 𝓜 𝓡 (𝓡.env m))
    (widened 𝓤 𝓛.H (triple_of 𝓛 (drop_signature R (bare (layout R))) (drop_spec R (bare (layout R)) 𝓛)) 𝓜 𝓡 𝓡.env (𝓡.env drop_symbol.name) (𝓡.env m)
    (drop_symbol.as_method 𝓡.env drop_wired m refl) (dropped.met 𝓤 𝓛 𝓜 𝓡 drop_wired)) in
    let known = into_raw.met 𝓤 𝓛 𝓜 𝓡 (code.calls-std_alloc::boxed::Box::into_raw 𝓡.env wired) X Z L LZ ghosts dict drops glue allocator glued its_glue in
    proved 𝓛 f.ended stayed c 𝓜 𝓡 (Goes-gave_all 𝓛 5 f.ended.signature.params f.ended.kept) f.Key.name fn (code.unfolded 𝓤 𝓛.H 𝓜 𝓡 wired)
    (λ κs. ((λ (a : Global). heap.lowered a ∷ []), (shr_vals, (shr_slice_vals, (shr_slice_vals, (shr_slice_vals, (mut_vals, tt)))))))
    (λ κs. (
      heap.lowers.val_is,
      (
        shr_Tells (named 0) κs.0 Settings.the_row,
        (
          shr_slice_Tells (named 1) κs.1.0 u8,
          (shr_slice_Tells (named 2) κs.1.1.0 u8, (shr_slice_Tells (named 3) κs.1.1.1.0 u8, (mut_Tells (named 4) κs.1.1.1.1.0 RawPtr, tt))),
        ),
      ),
    ))
    (λ κs qs bounds a _ are.
    let settings = a.1.0 in let user = a.1.1.0 in let password = a.1.1.1.0 in let seed = a.1.1.1.1.0 in let place = a.1.1.1.1.1.0 in
    let κ = back 4 κs in let q' = backs 4 qs in let lent = front 4 κs in let shares = fronts 4 qs in let Place = MutRef (named 0) κ RawPtr in
    let vss : List Val × (List Val × (List Val × (List Val × (List Val × Unit {0})))) =
    (heap.lowered a.0 ∷ [], (shr_vals settings, (shr_slice_vals user, (shr_slice_vals password, (shr_slice_vals seed, tt))))) in
    let user_fits = ((shr_slice_Lawful 𝓛 (named 1) κs.1.0 u8).typed user _ are.1.1.0).0 in let password_fits = ((shr_slice_Lawful 𝓛 (named 2) κs.1.1.0 u8).typed password _ are.1.1.1.0).0 in
    let seed_fits = ((shr_slice_Lawful 𝓛 (named 3) κs.1.1.1.0 u8).typed seed _ are.1.1.1.1.0).0 in
    let z : G.Ghost = ((lent, shares, tt, (a.0, (settings, (user, (password, (seed, tt))))), vss), tt) in
    let y : W.Ghost = ((κs, qs, bounds, a, (vss.0, (vss.1.0, (vss.1.1.0, (vss.1.1.1.0, (vss.1.1.1.1.0, (mut_vals place, tt))))))), tt) in
    let Says : Result B.Denot ℕ → Type 0 = Starts settings.now user.now password.now seed.now in
    qed 𝓛 ((raw (alive 𝓛 f.signature κs qs) ⊛ ‵ (owns (types_at f.signature.params κs) a y.0.4)) ∷ ‵ ftrue ∷ []) ∵
    -- what is owned of the place goes apart from what is owned of the others, and so does its token
    split ! $ move ! (1 ∷ []) $ fsplit ! $ move ! (1 ∷ []) $ fsplit ! $ move ! (1 ∷ []) $ fsplit ! $ move ! (1 ∷ []) $ fsplit ! $ move ! (1 ∷ []) $ fsplit ! $ move ! (1 ∷ []) $ fsplit ! $
    move ! (2 ∷ 1 ∷ []) $ fjoin ! $ move ! (2 ∷ 0 ∷ []) $ fjoin ! $ move ! (2 ∷ 0 ∷ []) $ fjoin ! $ move ! (2 ∷ 0 ∷ []) $ fjoin ! $ move ! (2 ∷ 0 ∷ []) $ fjoin ! $
    move ! (2 ∷ []) $ use1 𝓛 (raw (toks 𝓛 4 lent shares) ⊛ ‵ (flft κ q')) (parts 𝓛 4 κs qs) $ split ! $ move ! (0 ∷ 2 ∷ []) $ join ! $ move ! (0 ∷ 3 ∷ []) $ join ! $ use1 𝓛 (raw (G.pre z)) (id⊢ 𝓤 _) $
    enter ! _ _ _ _ _ $ alloc_all ! (λ l. pass_all ! refl ((tt, ((tt, tt), tt)), ((tt, tt), (user_fits, (password_fits, (seed_fits, ((tt, tt), tt)))))) $ let En = env fn.locals l in
    -- [what `started` asks; the place's token; the place; the locals]
    calls_at ! (framed 𝓤 𝓛.H 𝓜 𝓣) G (started.met 𝓤 𝓛 𝓜 𝓡 (code.calls-turn_c::started 𝓡.env wired)) z
    (and_then ! (get ! refl) (and_then ! (get ! refl) (and_then ! (get ! refl) (and_then ! (get ! refl) (and_then ! (get ! refl) (no_more !)))))) (λ v.
    use1 𝓛 (later (some (λ (r : Result B.Denot ℕ). (raw (toks 𝓛 4 lent shares) ⊛ ‵ ((outcome.the_row B u32).own_val r (v ∷ []))) ⊛ some
    (λ (ls : Lasts g.ended z.0.0 z.0.3). ‵ (lasts g.ended z.0.0 z.0.3 ls) ⊛ raw (fact 𝓤 (Says r)))))) (id⊢ 𝓤 _) $
    await ! tt $ pick ! (λ r. split ! $ split ! $ move ! (2 ∷ []) $ pick ! (λ _. split ! $ drop ! $ heard ! (Says r) (λ said. move ! (1 ∷ []) $
    result_out ! B u32 r v (λ b us same e. let is_new : IsStarted settings.now user.now password.now seed.now b.value = subst Says same said in
    box_out E ! b us (λ b' o' h' e' us' fits'. box_in E ! b b' o' b.value e' refl $ let w : Val = box.word E h' b' o' in let typed = box.box_typed E h' b' o' fits' in
    lands_as ! (e ∙ ap (λ (ws : List Val). live 0 (of_list (ws ++ []))) us') refl (and_tt _ typed.0, (record { fits = lit< tt }, (typed.1, tt))) $
    first ! $ by_variants ! 16 (whole !) (get_tag ! (vrt ! refl (fld ! refl (stop !))) (whole !)) tt (
      (λ _.
          -- [the box; the others' tokens; the place's token; the place; the locals]
          sets ! (of_opd ! (get_in ! (vrt ! refl (fld ! refl (stop !))) (in_variant ! 0 0 refl refl (whole !)))) refl typed $ sets ! (addr ! (through ! refl (stop !))) refl (tt, tt) $ sets !
          (of_opd ! (get ! refl)) refl typed $
          lft_new ! tt (λ α. lft_new ! tt (λ β. let λs : Lft × (Lft × Unit {0}) = (α ∷ [], (β ∷ [], tt)) in let z' : N.Ghost = ((λs, (full_share, (full_share, tt)), tt, (b, tt), (w ∷ [], tt)), tt) in
          move ! (1 ∷ 0 ∷ []) $ nothing ! $ move ! (2 ∷ 0 ∷ []) $ join ! $ move ! (1 ∷ 0 ∷ []) $ join ! $ move ! (1 ∷ []) $ nothing ! $ move ! (1 ∷ 0 ∷ []) $ fjoin ! $ move ! (1 ∷ 0 ∷ []) $ join ! $
          nothing ! $ use0 𝓛 (raw (fact 𝓤 (β ∷ [] ⊑ Z.lives))) (fact_i 𝓤 _ (emp 𝓤) (heap.the_within (β ∷ []))) $ join ! $ use0 𝓛 (raw (fact 𝓤 (α ∷ [] ⊑ X.lives)))
          (fact_i 𝓤 _ (emp 𝓤) (session.the_within (α ∷ []))) $ join ! $
          move ! (1 ∷ 0 ∷ []) $ join ! $ use1 𝓛 (raw (N.pre z')) (id⊢ 𝓤 _) $
          calls_at ! (framed 𝓤 𝓛.H 𝓜 𝓣) N known z' (and_then ! (get ! refl) (no_more !)) (λ u.
          use1 𝓛 (later (some (λ (q : Ptr). ((‵ (flft (α ∷ []) full_share) ⊛ ‵ (flft (β ∷ []) full_share) ⊛ ‵ ftrue) ⊛ ‵ (RawPtr.own_val q (u ∷ []))) ⊛ some
          (λ (ls : Lasts Ne λs z'.0.3). ‵ (lasts Ne λs z'.0.3 ls) ⊛ ‵ (holds_at q b.value))))) (id⊢ 𝓤 _) $
          await ! tt $ pick ! (λ q. split ! $ split ! $ drop ! $ feq_l ! (λ eu. pick ! (λ _. split ! $ drop ! $
          -- [the session at q, for good; the others' tokens; the place's token; the place; the locals]
          lands_as ! (ap only eu) refl ((rawptr_Lawful 𝓛).typed q _ refl).0 $ sets ! (of_opd ! (get ! refl)) refl ((rawptr_Lawful 𝓛).typed q _ refl).0 $
          let z'' : P.Ghost = (((κ, tt), (q', tt), tt, (place, (q, tt)), (mut_vals place, (ptr_val q ∷ [], tt))), tt) in
          nothing ! $ feq_i ! (List Val) (ptr_val q ∷ []) (ptr_val q ∷ []) refl $ move ! (5 ∷ 0 ∷ 1 ∷ []) $ fjoin3 ! $ nothing ! $ move ! (4 ∷ 0 ∷ []) $ join ! $ join ! $ nothing ! $ move !
          (1 ∷ 0 ∷ []) $ join ! $ use1 𝓛 (raw (P.pre z'')) (id⊢ 𝓤 _) $
          calls_at ! (framed 𝓤 𝓛.H 𝓜 𝓣) P (put.met 𝓤 𝓛 𝓜 𝓡 (code.calls-turn_c::put 𝓡.env wired)) z'' (and_then ! (get ! refl) (and_then ! (get ! refl) (no_more !))) (λ v'.
          use1 𝓛 (later (some (λ (t : Unit {0}). ((‵ (flft κ q') ⊛ ‵ ftrue) ⊛ ‵ (unit.own_val t (v' ∷ []))) ⊛ some
          (λ (ws : Lasts p.ended z''.0.0 z''.0.3). ‵ (lasts p.ended z''.0.0 z''.0.3 ws) ⊛ raw (fact 𝓤 (ws.0 ≡ q)))))) (id⊢ 𝓤 _) $
          await ! tt $ pick ! (λ t. split ! $ split ! $ move ! (1 ∷ []) $ feq_l ! (λ is_unit. move ! (1 ∷ []) $ pick ! (λ ws. split ! $ move ! (1 ∷ []) $ heard ! (ws.0 ≡ q) (λ there. fsplit ! $
          -- [what is said of the place; nothing; the place's token; the session at q; the others' tokens; the locals]
          lands_as ! (ap only is_unit) refl (tt, tt) $ sets_last ! (of_opd ! (lit ! tt)) refl (tt, record { fits = lit< tt }) $
          exec ! 𝓣.C 𝓣.Λ En (after 2 fn.body) (at_ret En (W.post y)) $ sets ! (of_opd ! (get ! refl)) refl (tt, record { fits = lit< tt }) $ returns ! (look_at ! 0 refl) $ free_all ! refl $
          keep ! (3 ∷ 0 ∷ 2 ∷ 4 ∷ []) $ rewrite ! 0 (λ (s : Ptr). ‵ (holds_at s b.value)) (sym there) refl $
          nothing ! $ fpack ! (IsStarted settings.now user.now password.now seed.now b.value) (λ _. ftrue) is_new $ move ! (1 ∷ 0 ∷ []) $ fjoin ! $
          fpack ! R.Denot (λ s. fsep (holds_at ws.0 s) (fex (IsStarted settings.now user.now password.now seed.now s) (λ _. ftrue))) b.value $
          -- [the session in its place; what is said of the place; the place's token; the others' tokens]
          move ! (2 ∷ []) $ split ! $ move ! (4 ∷ 0 ∷ []) $ join ! $ use1 𝓛 (raw (alive 𝓛 f.signature κs qs)) (joins 𝓛 4 κs qs) $
          move ! (3 ∷ 1 ∷ []) $ fjoin ! $ nothing ! $ fjoin ! $ nothing ! $ fjoin ! $ nothing ! $ fjoin ! $ nothing ! $ fjoin ! $ nothing ! $ fjoin ! $
          owned ! u32 (Is u32) (uint_Makes 𝓛 w32) 0 (vint w32 0 ∷ []) (refl, lit< tt) $ move ! (2 ∷ 1 ∷ 0 ∷ 3 ∷ []) $
          by ! (leaves 𝓛 f.ended stayed c y (vint w32 0) 0 (tt, (tt, (tt, (tt, (tt, (ws.0, tt)))))) (tt, (tt, (tt, (tt, (tt, (tt, tt))))))))))))))))))),
      ((λ e''. absurd (suc-ne-zero 0 (sym e''))), tt),
    )))
    (λ number us same e. let is_refused = subst Says same said in
    facts ! u32 (Is u32) (shows 𝓛 u32) number us (λ is. lands_as ! (e ∙ ap (λ (ws : List Val). live 1 (of_list (ws ++ []))) is.0) refl (tt, (record { fits = lit< tt }, (record { fits = is.1 }, tt))) $
    first ! $ by_variants ! 15 (whole !) (get_tag ! (vrt ! refl (fld ! refl (stop !))) (whole !)) tt (
      (λ e''. absurd (suc-ne-zero 0 e'')),
      (
        (λ _.
            -- [the others' tokens; the place's token; the place; the locals]
            move ! (2 ∷ []) $ use1 𝓛 (later (‵ (left (Place.exit yes) place place.now))) (Goes-ref 𝓛 1 0 tt (plain (λ _. RawPtr)) (κ, tt) place place.now (mut_vals place) tt) $ await ! tt $
            sets ! (of_opd ! (get_in ! (vrt ! refl (fld ! refl (stop !))) (in_variant ! 1 0 refl refl (whole !)))) refl (tt, record { fits = is.1 }) $ sets_last ! (of_opd ! (get ! refl)) refl
            (tt, record { fits = is.1 }) $
            exec ! 𝓣.C 𝓣.Λ En (after 2 fn.body) (at_ret En (W.post y)) $ sets ! (of_opd ! (get ! refl)) refl (tt, record { fits = is.1 }) $ returns ! (look_at ! 0 refl) $ free_all ! refl $
            -- [what is said of the place; the others' tokens; the place's token]
            nothing ! $ move ! (1 ∷ 0 ∷ []) $ fjoin ! $ nothing ! $ fjoin ! $ nothing ! $ fjoin ! $ nothing ! $ fjoin ! $ nothing ! $ fjoin ! $ nothing ! $ fjoin ! $
            move ! (1 ∷ 2 ∷ []) $ join ! $ use1 𝓛 (raw (alive 𝓛 f.signature κs qs)) (joins 𝓛 4 κs qs) $
            use0 𝓛 (‵ (new_at settings.now user.now password.now seed.now place.now place.now number)) (refusal 𝓛 settings.now user.now password.now seed.now place.now number is_refused) $
            owned ! u32 (Is u32) (uint_Makes 𝓛 w32) number (vint w32 number ∷ []) (refl, is.1) $ move ! (2 ∷ 3 ∷ 0 ∷ 1 ∷ []) $
            by ! (leaves 𝓛 f.ended stayed c y (vint w32 number) number (tt, (tt, (tt, (tt, (tt, (place.now, tt)))))) (tt, (tt, (tt, (tt, (tt, (tt, tt)))))))),
        tt,
      ),
    )))))))))
