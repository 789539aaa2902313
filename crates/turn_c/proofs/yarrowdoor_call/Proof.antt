-- `yarrowdoor_call` asks how many bytes are read, lends these and the buffer to `answer_request`, each for a lifetime that is made for the
-- call, and passes the rest on.
use Rattle.std.proofs.Common.{◌≡◌, ◌*◌, ◌<◌, ◌^◌, ℕ, List, [], ◌∷◌, refl, length, arith, ap, ◌∙◌, Bor}
use base.Fraction.{full_share}
use base.Logic.{id⊢}
use base.Fml.{Fml, GName, Lft, Incl-refl, ftrue, fsep, feq, flft, flent}
use mir.Syntax.{named, w8, w32, w64}
use mir.Val.{Val, vint}
use types.Kit.{‵, raw, ◌⊛◌, some, later, ◌$◌, ◌∵◌, !, qed, by, move, drop, split, join, fsplit, fjoin, pick, fpack, use1, use2, await, rewrite, feq_i, feq_l}
use types.Run.{of_opd, addr, stop, from, fld, hop, no_more, and_then, returns, enter}
use types.Part.{agg, sub, whole}
use types.SemTy.{Arr, cells}
use denote.Memory.{mem}
use types.ByLocal.{alloc_all, pass_all, free_all, look_at, look_in_at, get, get_in, through, sets, lands_as}
use types.Tokens.{lft_new, lft_end, lent_back}
use contract.Monad.{fact}
use contract.Running.{tables}
use denote.Builtin.{u8, u32, usize}
use denote.Copied.{uint_Copied}
use denote.Laws.{Is, shows}
use denote.Index.{whole_in, whole_out}
use denote.Lend.{lends_shr_slice, lends_slice, left_slice_lies}
use denote.Lend as lend
use denote.Plain.{uint_vals, uint_Tells, uint_Makes, uint_Lawful}
use denote.RawPtr.{Ptr, block_ptr, RawPtr, ptr_val, rawptr_vals, rawptr_Tells, rawptr_Lawful}
use denote.RawPtr.Bytes.{bytes}
use denote.Ref.{MutBor, ShrRef, shr_copy, shr_vals, shr_Tells, mut_vals, mut_Tells}
use denote.Slice.{MutSlice, ShrSlice, slice_val}
use denote.Steps.{nothing, owned, facts, peeks, heard, only}
use denote.Triple.Call.{calls_at}
use denote.Triple.Clauses.{Lasts, lasts}
use denote.Triple.Entry.{alive}
use denote.Triple.Spec.{triple_of}
use denote.Triple.Table.{framed}
use denote.Triple.Walked.{Stays, walk_of}
use denote.RattleType.{owns}
use denote.Signature.{types_at}
use Rattle.std.proofs.raw_atomic.Walks.{proved, leaves}
use Rattle.std.specs.declared.alloc.Global.{Global}
use Rattle.std.proofs.alloc.Global.TheLaws as heap
use Rattle.turn_c_calls.specs.contracts.request.Request as Request
use Rattle.turn_c_calls.proofs.request.Request.TheLaws.{the_row_laws}
use Rattle.turn_c_calls.specs.contracts.answer.Answer as Answer
use Rattle.turn_c.specs.contracts.answer_request as g
use Rattle.turn_c.proofs.answer_request.Met.{met}
use Rattle.turn_c.specs.Opaque.{holds_at, kept_at, passed_at, read_len}
use Rattle.turn_c.specs.Bytes.{bytes_at, place_of}
use Rattle.turn_c.proofs.Bytes.{bytes_in, bytes_back}
use Rattle.turn_c.proofs.Opaque.{gave_all, Goes-gave_all}
use Rattle.turn_c.specs.contracts.place_of as p
use Rattle.turn_c.proofs.place_of.Met as placing
use Rattle.turn_c.specs.contracts.read_len as reads
use Rattle.turn_c.proofs.read_len.Met as reading
use Rattle.turn_c.specs.contracts.yarrowdoor_call as f
use Rattle.turn_c.proofs.yarrowdoor_call.Statement.{statement}
use Rattle.turn_c.proofs.yarrowdoor_call.Code as code

abbrev stayed : Stays f.ended.signature.params f.ended.kept
stayed = gave_all f.ended.signature.params f.ended.kept

pub yarrowdoor_call_spec : {M : Type 1} → statement M
yarrowdoor_call_spec 𝓤 𝓛 𝓜 𝓡 wired =
    let c = f.clauses 𝓛 𝓜.mem 𝓡.returns in let W = walk_of 𝓛 f.ended stayed c in let 𝓣 = tables 𝓤 𝓛.H 𝓜 𝓡 𝓡.env in let fn = code.function in
    let G = triple_of 𝓛 g.signature (g.spec 𝓛 𝓜.mem 𝓡.returns) in let P = triple_of 𝓛 p.signature (p.spec 𝓛 𝓜.mem 𝓡.returns) in
    let R = triple_of 𝓛 reads.signature (reads.spec 𝓛 𝓜.mem 𝓡.returns) in
    let placed = placing.met 𝓤 𝓛 𝓜 𝓡 (code.calls-turn_c::place_of 𝓡.env wired) in
    proved 𝓛 f.ended stayed c 𝓜 𝓡 (Goes-gave_all 𝓛 2 f.ended.signature.params f.ended.kept) f.Key.name fn (code.unfolded 𝓤 𝓛.H 𝓜 𝓡 wired)
    (λ κs. (rawptr_vals, ((λ (h : Global). heap.lowered h ∷ []), (shr_vals, (rawptr_vals, (uint_vals w64, (rawptr_vals, (uint_vals w64, (mut_vals, tt)))))))))
    (λ κs. (
      rawptr_Tells,
      (
        heap.lowers.val_is,
        (
          shr_Tells (named 0) κs.0 Request.the_row,
          (rawptr_Tells, (uint_Tells w64, (rawptr_Tells, (uint_Tells w64, (mut_Tells (named 1) κs.1.0 Answer.the_row, tt))))),
        ),
      ),
    ))
    (λ κs qs bounds a was are.
    let session = a.0 in let request = a.1.1.0 in let bytes_p = a.1.1.1.0 in let buffer = a.1.1.1.1.1.0 in let answer = a.1.1.1.1.1.1.1.0 in
    let n0 = a.1.1.1.1.0 in let n2 = a.1.1.1.1.1.1.0 in let fits0 = are.1.1.1.1.0.1 in let n1 : ℕ = read_len request.now n0 in let fits2 = are.1.1.1.1.1.1.0.1 in
    let q1 = was.given.share in let xs1 = was.given.bytes in let ys = was.buffer in
    let b' = request.ref_ptr.0 in let o' = request.ref_ptr.1 in let other : Ptr = block_ptr b' o' in let hv : Val = heap.lowered a.1.0 in
    let y : W.Ghost = (
      (
        κs,
        qs,
        bounds,
        a,
        (
          rawptr_vals session,
          (
            hv ∷ [],
            (
              shr_vals request,
              (rawptr_vals bytes_p, (uint_vals w64 n0, (rawptr_vals buffer, (uint_vals w64 n2, (mut_vals answer, tt))))),
            ),
          ),
        ),
      ),
      was,
    ) in
    qed 𝓛 ((raw (alive 𝓛 f.signature κs qs) ⊛ ‵ (owns (types_at f.signature.params κs) a y.0.4))
    ∷ (‵ (holds_at session was.session) ⊛ ‵ (passed_at bytes_p n1 buffer n2 was)) ∷ []) ∵ move ! (1 ∷ []) $ split ! $ move ! (1 ∷ []) $ fsplit ! $
    bytes_in ! q1 bytes_p n1 xs1 b' o' (λ b1 o1 e1 l1 low1. move ! (1 ∷ []) $
    bytes_in ! full_share buffer n2 ys b' o' (λ b2 o2 e2 l2 low2. move ! (3 ∷ []) $ split ! $
    let fits1 : n1 < 2 ^ 64 = omega (arith, low1) in
    let typed = λ (at : Ptr). ((rawptr_Lawful 𝓛).typed at _ refl).0 in
    enter ! _ _ _ _ _ $ alloc_all ! (λ l. pass_all ! refl (
      typed session,
      (
        (tt, ((tt, tt), tt)),
        (
          (tt, tt),
          (
            typed bytes_p,
            (
              (tt, record { fits = fits0 }),
              (typed buffer, ((tt, record { fits = fits2 }), ((tt, tt), tt))),
            ),
          ),
        ),
      ),
    ) $
    -- [the tokens; what the parameters own; the buffer's bytes; the bytes; the session; the locals]
    -- how many bytes are read: the request is passed twice
    use1 𝓛 (‵ (flft κs.0 qs.0) ⊛ (‵ (flft κs.1.0 qs.1.0) ⊛ ‵ ftrue)) (id⊢ 𝓤 _) $ split ! $
    move ! (2 ∷ []) $ fsplit ! $ move ! (1 ∷ []) $ fsplit ! $ move ! (1 ∷ []) $ fsplit ! $
    use1 𝓛 (‵ ((ShrRef (named 0) κs.0 Request.the_row).own_val request (shr_vals request)) ⊛ ‵ ((ShrRef (named 0) κs.0 Request.the_row).own_val request (shr_vals request)))
    ((shr_copy 𝓛 (named 0) κs.0 Request.the_row the_row_laws.shr_laws).twice request (shr_vals request)) $ split ! $
    -- [the request, twice; what the others own, behind it and before it; the token of the request; that of the answer; as above]
    move ! (1 ∷ 2 ∷ []) $ fjoin ! $ move ! (2 ∷ 0 ∷ []) $ fjoin ! $ move ! (2 ∷ 0 ∷ []) $ fjoin ! $
    let z0 : R.Ghost = (((κs.0, tt), (qs.0, tt), tt, (request, (n0, tt)), (shr_vals request, (uint_vals w64 n0, tt))), tt) in
    nothing ! $ owned ! usize (Is usize) (uint_Makes 𝓛 w64) n0 (vint w64 n0 ∷ []) (refl, fits0) $ fjoin ! $ move ! (2 ∷ 0 ∷ []) $ fjoin ! $
    nothing ! $ move ! (3 ∷ 0 ∷ []) $ join ! $ join ! $ nothing ! $ move ! (1 ∷ 0 ∷ []) $ join ! $ use1 𝓛 (raw (R.pre z0)) (id⊢ 𝓤 _) $
    calls_at ! (framed 𝓤 𝓛.H 𝓜 𝓣) R (reading.met 𝓤 𝓛 𝓜 𝓡 (code.calls-turn_c::read_len 𝓡.env wired)) z0 (and_then ! (get ! refl) (and_then ! (get ! refl) (no_more !))) (λ v0.
    use1 𝓛 (later (some (λ (r : ℕ). ((‵ (flft κs.0 qs.0) ⊛ ‵ ftrue) ⊛ ‵ (usize.own_val r (v0 ∷ []))) ⊛ some
    (λ (ls : Lasts reads.ended z0.0.0 z0.0.3). ‵ (lasts reads.ended z0.0.0 z0.0.3 ls) ⊛ raw (fact 𝓤 (r ≡ n1)))))) (id⊢ 𝓤 _) $
    await ! tt $ pick ! (λ r. split ! $ split ! $ split ! $
    -- [the token of the request; nothing; the result; what the callee says; what the parameters own; the token of the answer; as above]
    move ! (2 ∷ []) $ facts ! usize (Is usize) (shows 𝓛 usize) r (v0 ∷ []) (λ is. move ! (2 ∷ []) $ pick ! (λ _. split ! $ drop ! $ heard ! (r ≡ n1) (λ there.
    lands_as ! (ap only (uint_Tells w64 r (v0 ∷ []) is) ∙ ap (vint w64) there) refl (tt, record { fits = fits1 }) $
    move ! (1 ∷ []) $ drop ! $ move ! (0 ∷ 2 ∷ []) $ join ! $
    -- [the tokens; what the parameters own; the buffer's bytes; the bytes; the session; the locals]
    sets ! (addr ! (through ! refl (stop !))) refl (tt, tt) $
    -- the place of the bytes
    let z1 : P.Ghost = ((tt, tt, tt, (bytes_p, (n1, (other, tt))), (rawptr_vals bytes_p, (uint_vals w64 n1, (rawptr_vals other, tt)))), tt) in
    nothing ! $ feq_i ! (List Val) (rawptr_vals other) (rawptr_vals other) refl $ fjoin ! $ owned ! usize (Is usize) (uint_Makes 𝓛 w64) n1 (vint w64 n1 ∷ []) (refl, fits1) $ fjoin ! $
    feq_i ! (List Val) (rawptr_vals bytes_p) (rawptr_vals bytes_p) refl $ fjoin ! $ nothing ! $ join ! $ nothing ! $ move ! (1 ∷ 0 ∷ []) $ join ! $ use1 𝓛 (raw (P.pre z1)) (id⊢ 𝓤 _) $
    calls_at ! (framed 𝓤 𝓛.H 𝓜 𝓣) P placed z1 (and_then ! (get ! refl) (and_then ! (get ! refl) (and_then ! (get ! refl) (no_more !)))) (λ v1.
    use1 𝓛 (later (some (λ (r : Ptr). (‵ ftrue ⊛ ‵ (RawPtr.own_val r (v1 ∷ []))) ⊛ some
    (λ (ls : Lasts p.ended z1.0.0 z1.0.3). ‵ (lasts p.ended z1.0.0 z1.0.3 ls) ⊛ raw (fact 𝓤 (r ≡ place_of bytes_p n1 other)))))) (id⊢ 𝓤 _) $
    await ! tt $ pick ! (λ r. split ! $ split ! $ drop ! $ feq_l ! (λ known. pick ! (λ _. split ! $ drop ! $ heard ! (r ≡ place_of bytes_p n1 other) (λ there.
    lands_as ! (ap only known ∙ ap ptr_val (there ∙ e1)) refl (tt, tt) $
    sets ! (agg ! (and_then ! (get ! refl) (and_then ! (get ! refl) (no_more !)))) refl (tt, (tt, (record { fits = fits1 }, tt))) $
    -- the place of the buffer
    let z2 : P.Ghost = ((tt, tt, tt, (buffer, (n2, (other, tt))), (rawptr_vals buffer, (uint_vals w64 n2, (rawptr_vals other, tt)))), tt) in
    nothing ! $ feq_i ! (List Val) (rawptr_vals other) (rawptr_vals other) refl $ fjoin ! $ owned ! usize (Is usize) (uint_Makes 𝓛 w64) n2 (vint w64 n2 ∷ []) (refl, fits2) $ fjoin ! $
    feq_i ! (List Val) (rawptr_vals buffer) (rawptr_vals buffer) refl $ fjoin ! $ nothing ! $ join ! $ nothing ! $ move ! (1 ∷ 0 ∷ []) $ join ! $ use1 𝓛 (raw (P.pre z2)) (id⊢ 𝓤 _) $
    calls_at ! (framed 𝓤 𝓛.H 𝓜 𝓣) P placed z2 (and_then ! (get ! refl) (and_then ! (get ! refl) (and_then ! (get ! refl) (no_more !)))) (λ v2.
    use1 𝓛 (later (some (λ (r : Ptr). (‵ ftrue ⊛ ‵ (RawPtr.own_val r (v2 ∷ []))) ⊛ some
    (λ (ls : Lasts p.ended z2.0.0 z2.0.3). ‵ (lasts p.ended z2.0.0 z2.0.3 ls) ⊛ raw (fact 𝓤 (r ≡ place_of buffer n2 other)))))) (id⊢ 𝓤 _) $
    await ! tt $ pick ! (λ r. split ! $ split ! $ drop ! $ feq_l ! (λ known. pick ! (λ _. split ! $ drop ! $ heard ! (r ≡ place_of buffer n2 other) (λ there.
    lands_as ! (ap only known ∙ ap ptr_val (there ∙ e2)) refl (tt, tt) $
    sets ! (of_opd ! (get ! refl)) refl (tt, tt) $
    sets ! (agg ! (and_then ! (get ! refl) (and_then ! (get ! refl) (no_more !)))) refl (tt, (tt, (record { fits = fits2 }, tt))) $
    sets ! (addr ! (from ! (fld ! refl (hop ! (look_in_at ! 12 (sub ! 0 refl (whole !))) (stop !))))) refl (tt, tt) $
    sets ! (agg ! (and_then ! (get ! refl) (and_then ! (get_in ! (fld ! refl (stop !)) (sub ! 1 refl (whole !))) (no_more !)))) refl (tt, (tt, (record { fits = fits2 }, tt))) $
    sets ! (addr ! (through ! refl (stop !))) refl (tt, tt) $
    lft_new ! tt (λ α1. let κ1 : Lft = α1 ∷ [] in let s1 : Bor (List ℕ) = record { ref_ptr = (b1, o1); now = xs1 } in
    let fits : length xs1 < 2 ^ 64 = omega (arith, l1, low1) in let room : length xs1 * 1 < 2 ^ 63 = omega (arith, l1, low1) in
    move ! (4 ∷ []) $ feq_i ! ℕ (length xs1) (length xs1) refl $ fjoin ! $
    use2 𝓛 (later ((‵ ((ShrSlice (named 1) κ1 u8).own_val s1 (slice_val (b1, o1) (length xs1) ∷ []))
    ⊛ ‵ (flent κ1 (fsep (feq ℕ (length xs1) (length xs1)) (bytes q1 xs1 b1 o1)))) ⊛ ‵ (flft κ1 full_share)))
    (lends_shr_slice 𝓛 u8 (named 1) κ1 q1 xs1 b1 o1 (fits, room) κ1 ((uint_Copied 𝓛 w8).shares q1 κ1) ((κ1, full_share) ∷ []) (Incl-refl κ1) (Incl-refl κ1)) $ await ! tt $ split ! $ split ! $
    rewrite ! 0 (λ (m : ℕ). ‵ ((ShrSlice (named 1) κ1 u8).own_val s1 (slice_val (b1, o1) m ∷ []))) l1 refl $
    lft_new ! tt (λ α2. let κ2 : Lft = α2 ∷ [] in
    let fits : length ys < 2 ^ 64 = omega (arith, l2, low2) in let room : length ys * 1 < 2 ^ 63 = omega (arith, l2, low2) in
    move ! (6 ∷ []) $ use1 𝓛 (‵ (cells (mem u8) ys b2 o2)) (whole_in 𝓛 u8 ys b2 o2) $
    use1 𝓛 (later (some (λ (γ : GName). ‵ ((MutSlice (named 2) κ2 u8).own_val (record { ref_ptr = (b2, o2); ghost_name = γ; now = ys }) (slice_val (b2, o2) (length ys) ∷ []))
    ⊛ ‵ (flent κ2 (lend.Held u8 (length ys) b2 o2 γ))))) (lends_slice 𝓛 u8 (named 2) κ2 ys b2 o2 (fits, room)) $ await ! tt $ pick ! (λ γ.
    let s2 : MutBor (List ℕ) = record { ref_ptr = (b2, o2); ghost_name = γ; now = ys } in split ! $
    rewrite ! 0 (λ (m : ℕ). ‵ ((MutSlice (named 2) κ2 u8).own_val s2 (slice_val (b2, o2) m ∷ []))) l2 refl $ move ! (1 ∷ []) $ drop ! $
    -- [the buffer's slice and its token; the bytes' slice, the right to the bytes, its token; the tokens; what the parameters own; the session; the locals]
    move ! (6 ∷ []) $ fsplit ! $ move ! (1 ∷ []) $ fsplit ! $ move ! (1 ∷ []) $ fsplit ! $ move ! (1 ∷ []) $ fsplit ! $ drop ! $ fsplit ! $ drop ! $ fsplit ! $ drop ! $ fsplit ! $ drop ! $
    move ! (4 ∷ 0 ∷ []) $ fjoin ! $ owned ! usize (Is usize) (uint_Makes 𝓛 w64) n0 (vint w64 n0 ∷ []) (refl, fits0) $ fjoin ! $
    move ! (5 ∷ 0 ∷ []) $ fjoin ! $ move ! (1 ∷ 0 ∷ []) $ fjoin ! $ move ! (1 ∷ 0 ∷ []) $ fjoin ! $ move ! (1 ∷ 0 ∷ []) $ fjoin ! $
    move ! (4 ∷ []) $ use1 𝓛 (‵ (flft κs.0 qs.0) ⊛ (‵ (flft κs.1.0 qs.1.0) ⊛ ‵ ftrue)) (id⊢ 𝓤 _) $ split ! $
    move ! (3 ∷ 1 ∷ []) $ join ! $ move ! (4 ∷ 0 ∷ []) $ join ! $ move ! (1 ∷ 0 ∷ []) $ join ! $ join ! $ move ! (0 ∷ 2 ∷ []) $ join ! $
    let z : G.Ghost = (
      (
        (κs.0, (κ1, (κ2, κs.1))),
        (qs.0, (full_share, (full_share, qs.1))),
        tt,
        (session, (a.1.0, (request, (s1, (n0, (s2, (answer, tt))))))),
        (rawptr_vals session, (hv ∷ [], (shr_vals request, (slice_val (b1, o1) n1 ∷ [], (uint_vals w64 n0, (slice_val (b2, o2) n2 ∷ [], (mut_vals answer, tt))))))),
      ),
      was.session,
    ) in
    use1 𝓛 (raw (G.pre z)) (id⊢ 𝓤 _) $
    calls_at ! (framed 𝓤 𝓛.H 𝓜 𝓣) G (met 𝓤 𝓛 𝓜 𝓡 (code.calls-turn_c::answer_request 𝓡.env wired)) z
    (and_then ! (get ! refl) (and_then ! (get ! refl) (and_then ! (get ! refl) (and_then ! (get ! refl) (and_then ! (get ! refl) (and_then ! (get ! refl) (and_then ! (get ! refl) (no_more !)))))))) (λ v.
    let Says : ℕ → Lasts g.ended z.0.0 z.0.3 → Fml = λ r ws. kept_at session was.session request.now xs1 n0 ys ws.1.1.1.1.1.0 answer.now ws.1.1.1.1.1.1.0 r in
    use1 𝓛 (later (some (λ (r : ℕ).
    ((‵ (flft κs.0 qs.0) ⊛ (‵ (flft κ1 full_share) ⊛ (‵ (flft κ2 full_share) ⊛ (‵ (flft κs.1.0 qs.1.0) ⊛ ‵ ftrue)))) ⊛ ‵ (u32.own_val r (v ∷ []))) ⊛ some
    (λ (ws : Lasts g.ended z.0.0 z.0.3). ‵ (lasts g.ended z.0.0 z.0.3 ws) ⊛ ‵ (Says r ws))))) (id⊢ 𝓤 _) $
    await ! tt $ pick ! (λ r. split ! $ split ! $ split ! $
    -- [the token of the request; the other tokens; the result; what the callee says; the right to the bytes; the locals]
    move ! (1 ∷ []) $ split ! $ lft_end ! tt $ move ! (0 ∷ 5 ∷ []) $ lent_back ! tt $ fsplit ! $ drop ! $
    use1 𝓛 (‵ (bytes_at q1 bytes_p n1 xs1)) (bytes_back 𝓛 q1 bytes_p n1 xs1 b' o' b1 o1 e1 l1 low1) $
    move ! (1 ∷ []) $ split ! $ move ! (5 ∷ []) $ pick ! (λ ws. split ! $ let after : List ℕ = ws.1.1.1.1.1.0 in
    -- [what the callee says of its parameters, and of the session; the buffer's token; that of the answer; the bytes; that of the request; the result; the locals]
    fsplit ! $ drop ! $ fsplit ! $ move ! (1 ∷ []) $ fsplit ! $ move ! (1 ∷ []) $ fsplit ! $ drop ! $ fsplit ! $ drop ! $ fsplit ! $ move ! (0 ∷ 5 ∷ []) $
    use2 𝓛 (later (‵ ((Arr (mem u8) (length ys)).own_at after b2 o2))) (left_slice_lies 𝓛 u8 (named 2) κ2 full_share s2 after) $ await ! tt $ fsplit ! $ feq_l ! (λ same.
    use1 𝓛 (‵ (bytes full_share after b2 o2)) (whole_out 𝓛 u8 after b2 o2) $
    use1 𝓛 (‵ (bytes_at full_share buffer n2 after)) (bytes_back 𝓛 full_share buffer n2 after b' o' b2 o2 e2 (same ∙ l2) low2) $
    move ! (6 ∷ 0 ∷ []) $ fjoin ! $ move ! (4 ∷ 0 ∷ []) $ fjoin ! $
    fpack ! (List ℕ) (λ ys'. fsep (kept_at session was.session request.now xs1 n0 ys ys' answer.now ws.1.1.1.1.1.1.0 r) (passed_at bytes_p n1 buffer n2 (record was { buffer = ys' }))) after $
    -- [what is ensured; what the callee says of the answer, of the request and of the heap; the tokens; the result; the locals]
    move ! (1 ∷ []) $ nothing ! $ fjoin ! $ nothing ! $ fjoin ! $ nothing ! $ fjoin ! $ nothing ! $ fjoin ! $ move ! (2 ∷ 0 ∷ []) $ fjoin ! $ move ! (2 ∷ 0 ∷ []) $ fjoin ! $ nothing ! $ fjoin ! $
    move ! (3 ∷ 2 ∷ []) $ join ! $ move ! (3 ∷ []) $ peeks ! u32 (Is u32) (shows 𝓛 u32) r (v ∷ []) (λ is. lands_as ! refl refl ((uint_Lawful 𝓛 w32).typed r _ is).0 $
    returns ! (look_at ! 0 refl) $ free_all ! refl $ move ! (1 ∷ 2 ∷ 0 ∷ 3 ∷ []) $
    by ! (leaves 𝓛 f.ended stayed c y v r (tt, (tt, (tt, (tt, (tt, (tt, (tt, (ws.1.1.1.1.1.1.0, tt)))))))) (tt, (tt, (tt, (tt, (tt, (tt, (tt, (tt, tt))))))))))))))))))))))))))))))))))))
