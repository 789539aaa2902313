-- `yarrowdoor_free` makes the box again, and hands it to `finish`.
use Rattle.std.proofs.Common.{◌≡◌, List, [], ◌∷◌, ◌++◌, refl, ap, lit<}
use mir.Val.{Val, vunit}
use base.Logic.{SProp, emp, id⊢}
use base.Fraction.{full_share}
use base.Fml.{Lft, ftrue, fsep, flft}
use prog.Wp.{WpFn}
use types.Kit.{at_ret, prop, given, learn, regoal, ‵, raw, ◌⊛◌, some, later, ◌$◌, ◌∵◌, !, qed, by, move, keep, drop, split, join, fsplit, fjoin, fjoin3, pick, use0, use1, await, feq_i, feq_l}
use types.Run.{first, bin, lit, branches, skips, exec, returns_within, of_opd, unit_lit, no_more, and_then, returns, enter}
use types.ByLocal.{env, alloc_all, pass_all, free_all, look_at, get, sets, lands_as}
use types.Tokens.{lft_new}
use contract.Monad.{fact, fact_i}
use contract.BorrowLft.{◌⊑◌}
use contract.Running.{tables}
use denote.Exit.{yes}
use denote.RattleType.{RattleType}
use denote.Memory.{lone}
use mir.Raw.{raw as bare}
use Rattle.turn_c_calls.specs.contracts.session.Session.{the_row as R}
use denote.Signature.{plain}
use denote.Builtin.{RawPtr, unit}
use denote.RawPtr.{Ptr, null_ptr, block_ptr, Testable, tests_null, ptr_val, rawptr_vals, rawptr_Tells, rawptr_Lawful}
use denote.Steps.{nothing, only}
use denote.Param.NoDrop
use denote.Triple.Clauses.{Lasts, lasts}
use denote.Triple.Spec.{triple_of}
use denote.Triple.Call.{calls_at}
use denote.Triple.Table.{framed}
use denote.Triple.Walked.{Stays, stay_dropped, walk_of, Goes-dropped}
use Rattle.std.proofs.BoxSteps.Form as box
use Rattle.std.proofs.BoxSteps.Steps.{box_out, box_in}
use Rattle.std.proofs.VecSteps.Shapes.{after}
use Rattle.std.specs.declared.alloc.Global.{Global}
use Rattle.std.proofs.raw_atomic.Walks.{proved, leaves}
use Rattle.std.specs.contracts.alloc.Global as Heap
use Rattle.std.specs.contracts.impls.GlobalAllocator.TheImpl.{ghosts, dict}
use Rattle.std.proofs.impls.GlobalAllocator.TheImpl.Met.{passed}
use Rattle.std.proofs.alloc.Global.TheLaws as heap
use Rattle.turn_c_calls.proofs.session.Session.TheLaws as session
use Rattle.turn_c.specs.Opaque.{freeable, held_at}
use Rattle.turn_c.proofs.Opaque.{null_or}
use Rattle.turn_c.proofs.Boxed.{X, Z, L, LZ, drops, E, tests}
use Rattle.std.specs.contracts.boxed.Box.from_raw as callee
use Rattle.std.proofs.boxed.Box.from_raw.Met as callee_met
use Rattle.turn_c_calls.specs.contracts.library.finish as g
use Rattle.turn_c_calls.proofs.library.finish.Met as finish
use Rattle.turn_c.specs.contracts.yarrowdoor_free as f
use Rattle.turn_c.proofs.yarrowdoor_free.Statement.{statement}
use Rattle.turn_c.proofs.yarrowdoor_free.Code as code
use Rattle.turn_c.proofs.Destruct++none.drop.Code.{code as none_code}

abbrev stayed : Stays f.ended.signature.params f.ended.kept
stayed = (stay_dropped _ yes, (stay_dropped _ yes, tt))

pub yarrowdoor_free_spec : {M : Type 1} → statement M
unfolding none_code
yarrowdoor_free_spec {M} 𝓤 𝓛 𝓜 𝓡 wired =
    let H = 𝓛.H in let 𝓣 = tables 𝓤 H 𝓜 𝓡 𝓡.env in let c = f.clauses 𝓛 𝓜.mem 𝓡.returns in let W = walk_of 𝓛 f.ended stayed c in let fn = code.function in
    let k = triple_of 𝓛 (callee.signature X Z ghosts dict drops) (callee.spec X Z ghosts dict drops 𝓛 𝓜.mem 𝓡.returns) in
    let allocator = passed 𝓡.env (code.calls-std_heap::GlobalAllocator::allocate 𝓡.env wired) (code.calls-std_heap::GlobalAllocator::deallocate 𝓡.env wired)
    (code.calls-std_heap::GlobalAllocator::grow 𝓡.env wired) (code.calls-std_heap::GlobalAllocator::shrink 𝓡.env wired) M 𝓤 𝓛 𝓜 𝓡 in
    let glued = NoDrop.glues "turn_c::Destruct++none::drop" 𝓡.env (code.calls-turn_c::Destruct++none::drop 𝓡.env wired) Z LZ M 𝓤 𝓛 𝓜 𝓡 in
    let known = callee_met.met 𝓤 𝓛 𝓜 𝓡 (code.calls-std_alloc::boxed::Box::from_raw 𝓡.env wired) X Z L LZ ghosts dict drops allocator glued in
    let G = triple_of 𝓛 g.signature (g.spec 𝓛 𝓜.mem 𝓡.returns) in
    let B : RattleType = box.B E in
    proved 𝓛 f.ended stayed c 𝓜 𝓡 (Goes-dropped 𝓛 0 (plain (λ _. Heap.the_row)) yes (λ κs x w. refl), (Goes-dropped 𝓛 0 (plain (λ _. RawPtr)) yes (λ κs x w. refl), tt)) f.Key.name fn
    (code.unfolded 𝓤 H 𝓜 𝓡 wired)
    (λ κs. ((λ (h : Global). heap.lowered h ∷ []), (rawptr_vals, tt))) (λ κs. (heap.lowers.val_is, (rawptr_Tells, tt)))
    (λ κs qs bounds a x are.
    let hv : Val = heap.lowered a.0 in
    let y : Ptr → W.Ghost = λ p. ((κs, qs, bounds, (a.0, (p, tt)), (hv ∷ [], (rawptr_vals p, tt))), x) in
    let Run : Ptr → SProp 𝓤 = λ p. WpFn 𝓤 H 𝓣.C 𝓣.Λ fn (hv ∷ (rawptr_vals p ++ [])) (W.post (y p)) in
    qed 𝓛 ((‵ ftrue ⊛ ‵ (fsep (Heap.the_row.own_val a.0 (hv ∷ [])) (fsep (RawPtr.own_val a.1.0 (rawptr_vals a.1.0)) ftrue))) ∷ ‵ (held_at a.1.0 x) ∷ []) ∵
    split ! $ move ! (1 ∷ []) $ fsplit ! $ keep ! (3 ∷ 0 ∷ []) $
    null_or ! a.1.0 (λ p. held_at p x)
    (λ e. regoal ! (λ p. prop (Run p)) e refl $
    -- [nothing; the handle]
    enter ! 𝓣.C 𝓣.Λ fn (hv ∷ rawptr_vals null_ptr) (W.post (y null_ptr)) $ alloc_all ! (λ l. pass_all ! refl ((tt, ((tt, tt), tt)), ((rawptr_Lawful 𝓛).typed null_ptr _ refl)) $
    sets ! (bin ! (get ! refl) (lit ! tt) (tests_null null_ptr (lit< tt))) refl (tt, tt) $
    first ! $ branches ! (get ! refl)
    (λ t. sets ! (of_opd ! (unit_lit !)) refl (tt, tt) $ returns_within ! (W.post (y null_ptr)) refl (look_at ! 0 refl) $ free_all ! refl $ keep ! [] $
    nothing ! $ feq_i ! (List Val) (vunit ∷ []) (vunit ∷ []) refl $ nothing ! $ nothing ! $ nothing ! $ fjoin3 ! $ nothing ! $
    by ! (leaves 𝓛 f.ended stayed c (y null_ptr) vunit tt (tt, (tt, tt)) (tt, (tt, tt))))
    (λ t. absurd t)))
    (λ bs os e. regoal ! (λ p. prop (Run p)) e refl $ let p : Ptr = block_ptr bs os in
    -- [the box; the handle]
    fsplit ! $ move ! (1 ∷ []) $ use1 𝓛 (given (Testable p) (‵ (freeable (bare (lone R.mir)) p))) (tests 𝓛 (bare (lone R.mir)) p) $
    learn ! (λ may. move ! (1 ∷ 0 ∷ []) $ fjoin ! $ move ! (1 ∷ 0 ∷ []) $
    enter ! 𝓣.C 𝓣.Λ fn (hv ∷ rawptr_vals p) (W.post (y p)) $ alloc_all ! (λ l. pass_all ! refl ((tt, ((tt, tt), tt)), ((rawptr_Lawful 𝓛).typed p _ refl)) $
    -- [the handle; the box; the locals]
    sets ! (bin ! (get ! refl) (lit ! tt) (tests_null p may)) refl (tt, tt) $
    first ! $ branches ! (get ! refl) (λ t. absurd t) (λ t. skips ! $ exec ! 𝓣.C 𝓣.Λ (env fn.locals l) (after 2 fn.body) (at_ret (env fn.locals l) (W.post (y p))) $
    sets ! (of_opd ! (get ! refl)) refl ((rawptr_Lawful 𝓛).typed p _ refl).0 $
    lft_new ! tt (λ α. lft_new ! tt (λ β. let λs : Lft × (Lft × Unit {0}) = (α ∷ [], (β ∷ [], tt)) in
    let z : k.Ghost = ((λs, (full_share, (full_share, tt)), tt, (a.0, (p, tt)), (hv ∷ [], (ptr_val p ∷ [], tt))), x) in
    -- [β; α; the handle; the box; the locals]
    move ! (1 ∷ 0 ∷ []) $ nothing ! $ move ! (2 ∷ 0 ∷ []) $ join ! $ move ! (1 ∷ 0 ∷ []) $ join ! $
    move ! (2 ∷ []) $ use0 𝓛 (raw (fact 𝓤 (β ∷ [] ⊑ Z.lives))) (fact_i 𝓤 _ (emp 𝓤) (heap.the_within (β ∷ []))) $ join ! $ use0 𝓛 (raw (fact 𝓤 (α ∷ [] ⊑ X.lives)))
    (fact_i 𝓤 _ (emp 𝓤) (session.the_within (α ∷ []))) $ join ! $
    -- [what is asked; the tokens; the handle; the locals]
    nothing ! $ feq_i ! (List Val) (ptr_val p ∷ []) (ptr_val p ∷ []) refl $ move ! (4 ∷ 0 ∷ 1 ∷ []) $ fjoin3 ! $ move ! (2 ∷ 0 ∷ []) $ join ! $ join ! $ use1 𝓛 (raw (k.pre z)) (id⊢ 𝓤 _) $
    calls_at ! (framed 𝓤 𝓛.H 𝓜 𝓣) k known z (and_then ! (get ! refl) (and_then ! (get ! refl) (no_more !))) (λ u.
    use1 𝓛 (later (some (λ (r : B.Denot). ((‵ (flft (α ∷ []) full_share) ⊛ ‵ (flft (β ∷ []) full_share) ⊛ ‵ ftrue) ⊛ ‵ (B.own_val r (u ∷ []))) ⊛ some
    (λ (ls : Lasts (callee.ended X Z ghosts dict drops) λs z.0.3). ‵ (lasts (callee.ended X Z ghosts dict drops) λs z.0.3 ls) ⊛ (raw (fact 𝓤 (r.value ≡ x)) ⊛ raw (fact 𝓤 (r.alloc ≡ a.0)))))))
    (id⊢ 𝓤 (k.post z u)) $
    await ! tt $ pick ! (λ r. split ! $ split ! $ drop ! $ move ! (0 ∷ []) $
    box_out E ! r (u ∷ []) (λ b' o' h' e' us' fits'. box_in E ! r b' o' r.value e' refl $
    let w : Val = box.word E h' b' o' in let y' : G.Ghost = ((tt, tt, tt, (r, tt), (w ∷ [], tt)), tt) in
    lands_as ! (ap only us') refl (box.box_typed E h' b' o' fits') $
    nothing ! $ move ! (1 ∷ 0 ∷ []) $ fjoin ! $ nothing ! $ join ! $ nothing ! $ move ! (1 ∷ 0 ∷ []) $ join ! $ use1 𝓛 (raw (G.pre y')) (id⊢ 𝓤 _) $
    calls_at ! (framed 𝓤 𝓛.H 𝓜 𝓣) G (finish.met 𝓤 𝓛 𝓜 𝓡 (code.calls-turn_c_calls::library::finish 𝓡.env wired)) y' (and_then ! (get ! refl) (no_more !)) (λ v.
    use1 𝓛 (later (some (λ (t : Unit {0}). (‵ ftrue ⊛ ‵ (unit.own_val t (v ∷ []))) ⊛ some (λ (ls : Lasts g.ended tt y'.0.3). ‵ (lasts g.ended tt y'.0.3 ls) ⊛ ‵ ftrue)))) (id⊢ 𝓤 (G.post y' v)) $
    await ! tt $ pick ! (λ t. split ! $ split ! $ drop ! $ feq_l ! (λ is_unit.
    lands_as ! (ap only is_unit) refl (tt, tt) $ sets ! (of_opd ! (unit_lit !)) refl (tt, tt) $
    returns ! (look_at ! 0 refl) $ free_all ! refl $ keep ! [] $
    nothing ! $ feq_i ! (List Val) (vunit ∷ []) (vunit ∷ []) refl $ nothing ! $ nothing ! $ nothing ! $ fjoin3 ! $ nothing ! $
    by ! (leaves 𝓛 f.ended stayed c (y p) vunit tt (tt, (tt, tt)) (tt, (tt, tt))))))))))))))))
