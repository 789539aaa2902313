-- `answer_request` lends the session to `step` for a lifetime that is made for the call, and passes the rest on.
use Rattle.std.proofs.Common.{◌≡◌, ℕ, List, [], ◌∷◌, refl}
use base.Fraction.{full_share}
use base.Logic.{id⊢, fst∗, never}
use base.Fml.{GName, ftrue, fsep, fex, flft}
use mir.Syntax.{named, w32, w64}
use mir.Val.{Val, vptr}
use prog.Wp.{WpFn}
use types.Logic.{sem}
use types.Kit.{‵, raw, ◌⊛◌, some, later, prop, ◌$◌, ◌∵◌, !, qed, by, move, drop, split, join, fsplit, fjoin, fpack, pick, use1, use2, await, regoal}
use types.Run.{of_opd, addr, stop, from, fld, hop, no_more, and_then, returns, enter}
use types.Part.{agg, sub, whole}
use types.ByLocal.{alloc_all, pass_all, free_all, look_at, look_in_at, get, get_in, through, sets, lands_as}
use types.Tokens.{lft_new}
use contract.Monad.{fact}
use contract.Running.{tables}
use denote.Builtin.{u8, u32}
use denote.Laws.{Is, shows}
use denote.Plain.{uint_vals, uint_Tells, uint_Lawful}
use denote.Memory.{part_at}
use denote.RattleType.{flat, owns}
use denote.RawPtr.{Ptr, block_ptr, null_ptr, rawptr_vals, rawptr_Tells, in_a_block}
use denote.Ref.{MutBor, MutRef, shr_vals, shr_Tells, mut_vals, mut_Tells}
use denote.Signature.{types_at}
use denote.Slice.{shr_slice_vals, shr_slice_Tells, shr_slice_Lawful, mut_slice_vals, mut_slice_Tells, mut_slice_Lawful}
use denote.Steps.{nothing, peeks, heard}
use denote.Triple.Call.{calls_at}
use denote.Triple.Clauses.{Lasts, lasts}
use denote.Triple.Entry.{alive}
use denote.Triple.Spec.{triple_of}
use denote.Triple.Table.{framed}
use denote.Triple.Walked.{Stays, walk_of}
use Rattle.std.specs.declared.alloc.Global.{Global}
use Rattle.std.proofs.alloc.Global.TheLaws as heap
use Rattle.std.proofs.raw_atomic.Walks.{proved, leaves}
use Rattle.turn_c_calls.specs.contracts.session.Session.{the_row as R}
use Rattle.turn_c_calls.specs.contracts.request.Request as Request
use Rattle.turn_c_calls.specs.contracts.answer.Answer as Answer
use Rattle.turn_c_calls.specs.Head.{Responds}
use Rattle.turn_c_calls.specs.contracts.library.step as g
use Rattle.turn_c_calls.proofs.library.step.Met.{met}
use Rattle.turn_c.specs.Opaque.{CallDoes, freeable, holds_at}
use Rattle.turn_c.proofs.Opaque.{gave_all, Goes-gave_all, lent_out, comes_in}
use Rattle.turn_c.specs.contracts.answer_request as f
use Rattle.turn_c.proofs.answer_request.Statement.{statement}
use Rattle.turn_c.proofs.answer_request.Code as code

abbrev stayed : Stays f.ended.signature.params f.ended.kept
stayed = gave_all f.ended.signature.params f.ended.kept

pub answer_request_spec : {M : Type 1} → statement M
answer_request_spec 𝓤 𝓛 𝓜 𝓡 wired =
    let c = f.clauses 𝓛 𝓜.mem 𝓡.returns in let W = walk_of 𝓛 f.ended stayed c in let 𝓣 = tables 𝓤 𝓛.H 𝓜 𝓡 𝓡.env in let fn = code.function in
    let G = triple_of 𝓛 g.signature (g.spec 𝓛 𝓜.mem 𝓡.returns) in
    proved 𝓛 f.ended stayed c 𝓜 𝓡 (Goes-gave_all 𝓛 4 f.ended.signature.params f.ended.kept) f.Key.name fn (code.unfolded 𝓤 𝓛.H 𝓜 𝓡 wired)
    (λ κs. (rawptr_vals, ((λ (h : Global). heap.lowered h ∷ []), (shr_vals, (shr_slice_vals, (uint_vals w64, (mut_slice_vals, (mut_vals, tt))))))))
    (λ κs. (
      rawptr_Tells,
      (
        heap.lowers.val_is,
        (
          shr_Tells (named 0) κs.0 Request.the_row,
          (
            shr_slice_Tells (named 1) κs.1.0 u8,
            (uint_Tells w64, (mut_slice_Tells (named 2) κs.1.1.0 u8, (mut_Tells (named 3) κs.1.1.1.0 Answer.the_row, tt))),
          ),
        ),
      ),
    ))
    (λ κs qs bounds a was are.
    let request = a.1.1.0 in let bytes = a.1.1.1.0 in let len = a.1.1.1.1.0 in let buffer = a.1.1.1.1.1.0 in let answer = a.1.1.1.1.1.1.0 in
    let rest : List Val × (List Val × (List Val × (List Val × (List Val × (List Val × Unit {0}))))) =
    (heap.lowered a.1.0 ∷ [], (shr_vals request, (shr_slice_vals bytes, (uint_vals w64 len, (mut_slice_vals buffer, (mut_vals answer, tt)))))) in
    let y : Ptr → W.Ghost = λ p. ((κs, qs, bounds, (p, a.1), (rawptr_vals p, rest)), was) in
    let bytes_fit = ((shr_slice_Lawful 𝓛 (named 1) κs.1.0 u8).typed bytes _ are.1.1.1.0).0 in let buffer_fits = ((mut_slice_Lawful 𝓛 (named 2) κs.1.1.0 u8).typed buffer _ are.1.1.1.1.1.0).0 in let len_fits = are.1.1.1.1.0.1 in
    let toks = raw (alive 𝓛 f.signature κs qs) in
    qed 𝓛 ((toks ⊛ ‵ (owns (types_at f.signature.params κs) a (y a.0).0.4)) ∷ ‵ (holds_at a.0 was) ∷ []) ∵ move ! (1 ∷ []) $
    in_a_block ! a.0 (λ p. holds_at p was) (fst∗ 𝓤 (never 𝓤) (sem 𝓛 (freeable _ null_ptr))) (λ b o e.
    regoal ! (λ p. prop (WpFn 𝓤 𝓛.H 𝓣.C 𝓣.Λ fn (flat (types_at f.signature.params κs) (y p).0.4) (W.post (y p)))) e refl $
    fsplit ! $ move ! (2 ∷ []) $ split ! $ move ! (1 ∷ []) $ fsplit ! $ drop ! $
    enter ! _ _ _ _ _ $ alloc_all ! (λ l. pass_all ! refl ((tt, tt), ((tt, ((tt, tt), tt)), ((tt, tt), (bytes_fit, ((tt, record { fits = len_fits }), (buffer_fits, ((tt, tt), tt))))))) $
    -- [what the others own; the tokens; the session; the right to free; the locals]
    sets ! (of_opd ! (get ! refl)) refl (tt, tt) $ sets ! (addr ! (through ! refl (stop !))) refl (tt, tt) $
    sets ! (addr ! (from ! (fld ! refl (hop ! (look_in_at ! 6 (sub ! 0 refl (whole !))) (stop !))))) refl (tt, tt) $
    sets ! (agg ! (and_then ! (get ! refl) (and_then ! (get_in ! (fld ! refl (stop !)) (sub ! 1 refl (whole !))) (no_more !)))) refl buffer_fits $
    sets ! (addr ! (through ! refl (stop !))) refl (tt, tt) $
    lft_new ! tt (λ α. move ! (3 ∷ []) $
    use1 𝓛 (later (some (λ (γ : GName). ‵ ((MutRef (named 0) (α ∷ []) R).own_val (record { ref_ptr = (b, o); ghost_name = γ; now = was }) (vptr b o ∷ [])))))
    (lent_out 𝓛 R (named 0) (α ∷ []) was b o) $ await ! tt $ pick ! (λ γ.
    -- [the loan; the token of α; what the others own; the tokens; the right to free; the locals]
    let x : MutBor R.Denot = record { ref_ptr = (b, o); ghost_name = γ; now = was } in
    let z : G.Ghost = (((α ∷ [], κs), (full_share, qs), tt, (x, a.1), (vptr b o ∷ [], rest)), tt) in
    nothing ! $ move ! (1 ∷ 3 ∷ []) $ fjoin ! $ move ! (2 ∷ 3 ∷ []) $ join ! $ join ! $ move ! (0 ∷ 1 ∷ []) $ join ! $ use1 𝓛 (raw (G.pre z)) (id⊢ 𝓤 _) $
    calls_at ! (framed 𝓤 𝓛.H 𝓜 𝓣) G (met 𝓤 𝓛 𝓜 𝓡 (code.calls-turn_c_calls::library::step 𝓡.env wired)) z
    (and_then ! (get ! refl) (and_then ! (get ! refl) (and_then ! (get ! refl) (and_then ! (get ! refl) (and_then ! (get ! refl) (and_then ! (get ! refl) (and_then ! (get ! refl) (no_more !)))))))) (λ v.
    let Says : Lasts g.ended z.0.0 z.0.3 → Type 0 = λ ws. Responds request.now bytes.now len was ws.0 buffer.now ws.1.1.1.1.1.0 answer.now ws.1.1.1.1.1.1.0 in let IsKind : ℕ → Lasts g.ended z.0.0 z.0.3
    → Type 0 = λ r ws. r ≡ ws.1.1.1.1.1.1.0.kind in
    use1 𝓛 (later (some (λ (r : ℕ). ((‵ (flft (α ∷ []) full_share) ⊛ toks) ⊛ ‵ (u32.own_val r (v ∷ []))) ⊛ some
    (λ (ws : Lasts g.ended z.0.0 z.0.3). ‵ (lasts g.ended z.0.0 z.0.3 ws) ⊛ (raw (fact 𝓤 (Says ws)) ⊛ raw (fact 𝓤 (IsKind r ws))))))) (id⊢ 𝓤 _) $
    await ! tt $ pick ! (λ r. split ! $ split ! $ split ! $ move ! (3 ∷ []) $ pick ! (λ ws. split ! $ fsplit ! $ move ! (0 ∷ 3 ∷ []) $
    use2 𝓛 (later (‵ (part_at R full_share ws.0 b o))) (comes_in 𝓛 R (named 0) (α ∷ []) full_share x ws.0) $ await ! tt $
    -- [the session; what the callee says of the others; what it ensures; the tokens; the result; the right to free; the locals]
    move ! (2 ∷ []) $ split ! $ heard ! (Says ws) (λ said. heard ! (IsKind r ws) (λ kind. move ! (3 ∷ []) $ peeks ! u32 (Is u32) (shows 𝓛 u32) r (v ∷ [])
    (λ is. lands_as ! refl refl ((uint_Lawful 𝓛 w32).typed r _ is).0 $
    returns ! (look_at ! 0 refl) $ free_all ! refl $
    -- [the result; the session; the others; the tokens; the right to free]
    move ! (1 ∷ 4 ∷ []) $ fjoin ! $ nothing ! $ fpack ! (Says ws × IsKind r ws) (λ _. ftrue) (said, kind) $ move ! (1 ∷ 0 ∷ []) $ fjoin ! $
    fpack ! R.Denot (λ now. fsep (holds_at (block_ptr b o) now) (fex (CallDoes request.now bytes.now len was now buffer.now ws.1.1.1.1.1.0 answer.now ws.1.1.1.1.1.1.0 r) (λ _. ftrue))) ws.0 $
    move ! (2 ∷ []) $ nothing ! $ fjoin ! $ move ! (3 ∷ 0 ∷ 2 ∷ 1 ∷ []) $
    by ! (leaves 𝓛 f.ended stayed c (y (block_ptr b o)) v r (tt, ws.1) (tt, (tt, (tt, (tt, (tt, (tt, (tt, tt)))))))))))))))))))
