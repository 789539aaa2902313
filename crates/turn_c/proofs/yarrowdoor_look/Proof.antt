-- `yarrowdoor_look` lends the session as a `&` to `look` for a lifetime that is made for the call, and passes the rest on.
use Rattle.std.proofs.Common.{◌≡◌, ℕ, List, [], ◌∷◌, refl}
use base.Fraction.{full_share}
use base.Logic.{emp, id⊢, fst∗, never}
use base.Fml.{Lft, Incl-refl, flent, flft}
use mir.Syntax.{named, w32}
use mir.Val.{Val, vptr}
use prog.Wp.{WpFn}
use types.Logic.{sem}
use types.Kit.{‵, raw, ◌⊛◌, some, later, prop, ◌$◌, ◌∵◌, !, qed, by, move, drop, split, join, fsplit, fjoin, pick, use0, use1, use2, await, regoal}
use types.Run.{of_opd, addr, stop, no_more, and_then, returns, enter}
use types.ByLocal.{alloc_all, pass_all, free_all, look_at, get, through, sets, lands_as}
use types.Tokens.{lft_new, lft_end, lent_back}
use contract.Monad.{fact, fact_i}
use contract.Running.{tables}
use denote.Builtin.{u32}
use denote.Laws.{Is, shows}
use denote.Plain.{uint_Lawful}
use denote.Memory.{part_at}
use denote.RattleType.{flat, owns}
use denote.RawPtr.{Ptr, block_ptr, null_ptr, rawptr_vals, rawptr_Tells, in_a_block}
use denote.Ref.{Bor, ShrRef, shr_vals, shr_Tells, mut_vals, mut_Tells}
use denote.Signature.{types_at}
use denote.Steps.{nothing, peeks, heard}
use denote.Triple.Call.{calls_at}
use denote.Triple.Clauses.{Lasts, lasts}
use denote.Triple.Entry.{alive}
use denote.Triple.Spec.{triple_of}
use denote.Triple.Table.{framed}
use denote.Triple.Walked.{Stays, walk_of}
use Rattle.std.proofs.raw_atomic.Walks.{proved, leaves}
use Rattle.turn_c_calls.specs.contracts.session.Session.{the_row as R}
use denote.Lend.{lends_shr}
use Rattle.turn_c_calls.proofs.session.Session.TheLaws as session
use Rattle.turn_c_calls.specs.contracts.request.Request as Request
use Rattle.turn_c_calls.specs.contracts.answer.Answer as Answer
use Rattle.turn_c_calls.specs.Look.{LooksAt}
use Rattle.turn_c_calls.specs.contracts.library.look as g
use Rattle.turn_c_calls.proofs.library.look.Met.{met}
use Rattle.turn_c.specs.Opaque.{freeable, holds_at}
use Rattle.turn_c.proofs.Opaque.{gave_all, Goes-gave_all}
use Rattle.turn_c.specs.contracts.yarrowdoor_look as f
use Rattle.turn_c.proofs.yarrowdoor_look.Statement.{statement}
use Rattle.turn_c.proofs.yarrowdoor_look.Code as code

abbrev stayed : Stays f.ended.signature.params f.ended.kept
stayed = gave_all f.ended.signature.params f.ended.kept

pub yarrowdoor_look_spec : {M : Type 1} → statement M
yarrowdoor_look_spec 𝓤 𝓛 𝓜 𝓡 wired =
    let c = f.clauses 𝓛 𝓜.mem 𝓡.returns in let W = walk_of 𝓛 f.ended stayed c in let 𝓣 = tables 𝓤 𝓛.H 𝓜 𝓡 𝓡.env in let fn = code.function in
    let G = triple_of 𝓛 g.signature (g.spec 𝓛 𝓜.mem 𝓡.returns) in
    proved 𝓛 f.ended stayed c 𝓜 𝓡 (Goes-gave_all 𝓛 2 f.ended.signature.params f.ended.kept) f.Key.name fn (code.unfolded 𝓤 𝓛.H 𝓜 𝓡 wired)
    (λ κs. (rawptr_vals, (shr_vals, (mut_vals, tt))))
    (λ κs. (rawptr_Tells, (shr_Tells (named 0) κs.0 Request.the_row, (mut_Tells (named 1) κs.1.0 Answer.the_row, tt))))
    (λ κs qs bounds a was are.
    let request = a.1.0 in let answer = a.1.1.0 in
    let rest : List Val × (List Val × Unit {0}) = (shr_vals request, (mut_vals answer, tt)) in
    let y : Ptr → W.Ghost = λ p. ((κs, qs, bounds, (p, a.1), (rawptr_vals p, rest)), was) in
    let toks = raw (alive 𝓛 f.signature κs qs) in
    qed 𝓛 ((toks ⊛ ‵ (owns (types_at f.signature.params κs) a (y a.0).0.4)) ∷ ‵ (holds_at a.0 was) ∷ []) ∵ move ! (1 ∷ []) $
    in_a_block ! a.0 (λ p. holds_at p was) (fst∗ 𝓤 (never 𝓤) (sem 𝓛 (freeable _ null_ptr))) (λ b o e.
    regoal ! (λ p. prop (WpFn 𝓤 𝓛.H 𝓣.C 𝓣.Λ fn (flat (types_at f.signature.params κs) (y p).0.4) (W.post (y p)))) e refl $
    fsplit ! $ move ! (2 ∷ []) $ split ! $ move ! (1 ∷ []) $ fsplit ! $ drop ! $
    enter ! _ _ _ _ _ $ alloc_all ! (λ l. pass_all ! refl ((tt, tt), ((tt, tt), ((tt, tt), tt))) $
    -- [what the others own; the tokens; the session; the right to free; the locals]
    sets ! (of_opd ! (get ! refl)) refl (tt, tt) $ sets ! (addr ! (through ! refl (stop !))) refl (tt, tt) $
    sets ! (addr ! (through ! refl (stop !))) refl (tt, tt) $
    lft_new ! tt (λ α. let κ : Lft = α ∷ [] in let x : Bor R.Denot = record { ref_ptr = (b, o); now = was } in
    move ! (3 ∷ 0 ∷ []) $
    use2 𝓛 (later ((‵ ((ShrRef (named 0) κ R).own_val x (vptr b o ∷ [])) ⊛ ‵ (flent κ (part_at R full_share was b o))) ⊛ ‵ (flft κ full_share)))
    (lends_shr 𝓛 R (named 0) κ full_share was b o R.lives (session.the_row_laws.shares 𝓛 was) ((κ, full_share) ∷ []) (session.the_within κ) (Incl-refl κ)) $ await ! tt $ split ! $ split ! $
    -- [the loan; the right to the session; the token of κ; what the others own; the tokens; the right to free; the locals]
    let z : G.Ghost = (((κ, κs), (full_share, qs), tt, (x, a.1), (vptr b o ∷ [], rest)), tt) in
    move ! (0 ∷ 3 ∷ []) $ fjoin ! $ move ! (2 ∷ 3 ∷ []) $ join ! $ join ! $ nothing ! $ move ! (1 ∷ 0 ∷ []) $ join ! $ use1 𝓛 (raw (G.pre z)) (id⊢ 𝓤 _) $
    calls_at ! (framed 𝓤 𝓛.H 𝓜 𝓣) G (met 𝓤 𝓛 𝓜 𝓡 (code.calls-turn_c_calls::library::look 𝓡.env wired)) z
    (and_then ! (get ! refl) (and_then ! (get ! refl) (and_then ! (get ! refl) (no_more !)))) (λ v.
    let Says : Lasts g.ended z.0.0 z.0.3 → Type 0 = λ ws. LooksAt request.now was answer.now ws.1.1.0 in let IsKind : ℕ → Lasts g.ended z.0.0 z.0.3
    → Type 0 = λ r ws. r ≡ ws.1.1.0.kind in
    use1 𝓛 (later (some (λ (r : ℕ). ((‵ (flft κ full_share) ⊛ toks) ⊛ ‵ (u32.own_val r (v ∷ []))) ⊛ some
    (λ (ws : Lasts g.ended z.0.0 z.0.3). ‵ (lasts g.ended z.0.0 z.0.3 ws) ⊛ (raw (fact 𝓤 (Says ws)) ⊛ raw (fact 𝓤 (IsKind r ws))))))) (id⊢ 𝓤 _) $
    await ! tt $ pick ! (λ r. split ! $ split ! $ split ! $ move ! (3 ∷ []) $ pick ! (λ ws. split ! $ move ! (1 ∷ []) $ split ! $ heard ! (Says ws) (λ said. heard ! (IsKind r ws) (λ kind.
    -- [what the callee says of its parameters; the token of κ; the tokens; the result; the right to the session; the right to free; the locals]
    move ! (1 ∷ []) $ lft_end ! tt $ move ! (0 ∷ 4 ∷ []) $ lent_back ! tt $ move ! (0 ∷ 4 ∷ []) $ fjoin ! $
    move ! (3 ∷ []) $ peeks ! u32 (Is u32) (shows 𝓛 u32) r (v ∷ []) (λ is. lands_as ! refl refl ((uint_Lawful 𝓛 w32).typed r _ is).0 $
    returns ! (look_at ! 0 refl) $ free_all ! refl $
    -- [the result; the session; what the callee says of its parameters; the tokens]
    use0 𝓛 (raw (fact 𝓤 (Says ws × IsKind r ws))) (fact_i 𝓤 _ (emp 𝓤) (said, kind)) $ move ! (2 ∷ 0 ∷ []) $ join ! $ move ! (3 ∷ 2 ∷ 1 ∷ 0 ∷ []) $
    by ! (leaves 𝓛 f.ended stayed c (y (block_ptr b o)) v r (tt, (tt, (ws.1.1.0, tt))) (tt, (tt, (tt, tt))))))))))))))
