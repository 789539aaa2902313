-- `yarrowdoor_new` lends user name, password and seed to `make_session`, each for a lifetime that is made for the call, and passes the rest on.
use Rattle.std.proofs.Common.{◌≡◌, ◌*◌, ◌<◌, ◌^◌, ℕ, List, [], ◌∷◌, refl, length, arith, ap, ◌∙◌, Bor}
use base.Fraction.{full_share}
use base.Logic.{id⊢}
use base.Fml.{Fml, Lft, Incl-refl, ftrue, fsep, feq, flft, flent}
use mir.Syntax.{named, w8, w32, w64}
use mir.Val.{Val, vint}
use types.Kit.{‵, raw, ◌⊛◌, some, later, ◌$◌, ◌∵◌, !, qed, by, move, drop, split, join, fsplit, fjoin, pick, use1, use2, await, rewrite, feq_i, feq_l}
use types.Run.{addr, stop, no_more, and_then, returns, enter}
use types.Part.{agg}
use types.ByLocal.{alloc_all, pass_all, free_all, look_at, get, through, sets, lands_as}
use types.Tokens.{lft_new, lft_end, lent_back}
use contract.Monad.{fact}
use contract.Running.{tables}
use denote.Builtin.{u8, u32, usize}
use denote.Copied.{uint_Copied}
use denote.Laws.{Is, shows}
use denote.Lend.{lends_shr_slice}
use denote.Plain.{uint_vals, uint_Tells, uint_Makes, uint_Lawful}
use denote.RawPtr.{Ptr, block_ptr, RawPtr, ptr_val, rawptr_vals, rawptr_Tells, rawptr_Lawful}
use denote.RawPtr.Bytes.{bytes}
use denote.Ref.{shr_vals, shr_Tells, mut_vals, mut_Tells}
use denote.Slice.{ShrSlice, slice_val}
use denote.Steps.{nothing, owned, peeks, heard, only}
use denote.Triple.Call.{calls_at}
use denote.Triple.Clauses.{Lasts, lasts}
use denote.Triple.Entry.{alive}
use denote.Triple.Spec.{triple_of}
use denote.Triple.Table.{framed}
use denote.Triple.Walked.{Stays, walk_of}
use denote.RattleType.{owns}
use denote.Signature.{types_at}
use Rattle.std.proofs.raw_atomic.Walks.{proved, leaves}
use Rattle.std.specs.declared.alloc.Global.{Global}
use Rattle.std.proofs.alloc.Global.TheLaws as heap
use Rattle.turn_c_calls.specs.contracts.settings.Settings as Settings
use Rattle.turn_c.specs.contracts.make_session as g
use Rattle.turn_c.proofs.make_session.Met.{met}
use Rattle.turn_c.specs.Opaque.{named_at, new_at}
use Rattle.turn_c.specs.Bytes.{bytes_at, place_of}
use Rattle.turn_c.proofs.Bytes.{bytes_in, bytes_back}
use Rattle.turn_c.proofs.Opaque.{gave_all, Goes-gave_all}
use Rattle.turn_c.specs.contracts.place_of as p
use Rattle.turn_c.proofs.place_of.Met as placing
use Rattle.turn_c.specs.contracts.yarrowdoor_new as f
use Rattle.turn_c.proofs.yarrowdoor_new.Statement.{statement}
use Rattle.turn_c.proofs.yarrowdoor_new.Code as code

abbrev stayed : Stays f.ended.signature.params f.ended.kept
stayed = gave_all f.ended.signature.params f.ended.kept

pub yarrowdoor_new_spec : {M : Type 1} → statement M
yarrowdoor_new_spec 𝓤 𝓛 𝓜 𝓡 wired =
    let c = f.clauses 𝓛 𝓜.mem 𝓡.returns in let W = walk_of 𝓛 f.ended stayed c in let 𝓣 = tables 𝓤 𝓛.H 𝓜 𝓡 𝓡.env in let fn = code.function in
    let G = triple_of 𝓛 g.signature (g.spec 𝓛 𝓜.mem 𝓡.returns) in let P = triple_of 𝓛 p.signature (p.spec 𝓛 𝓜.mem 𝓡.returns) in
    let placed = placing.met 𝓤 𝓛 𝓜 𝓡 (code.calls-turn_c::place_of 𝓡.env wired) in
    proved 𝓛 f.ended stayed c 𝓜 𝓡 (Goes-gave_all 𝓛 2 f.ended.signature.params f.ended.kept) f.Key.name fn (code.unfolded 𝓤 𝓛.H 𝓜 𝓡 wired)
    (λ κs. ((λ (h : Global). heap.lowered h ∷ []), (shr_vals, (rawptr_vals, (uint_vals w64, (rawptr_vals, (uint_vals w64, (rawptr_vals, (uint_vals w64, (mut_vals, tt))))))))))
    (λ κs. (
      heap.lowers.val_is,
      (
        shr_Tells (named 0) κs.0 Settings.the_row,
        (rawptr_Tells, (uint_Tells w64, (rawptr_Tells, (uint_Tells w64, (rawptr_Tells, (uint_Tells w64, (mut_Tells (named 1) κs.1.0 RawPtr, tt))))))),
      ),
    ))
    (λ κs qs bounds a given are.
    let settings = a.1.0 in let user = a.1.1.0 in let password = a.1.1.1.1.0 in let seed = a.1.1.1.1.1.1.0 in let place = a.1.1.1.1.1.1.1.1.0 in
    let n1 = a.1.1.1.0 in let n2 = a.1.1.1.1.1.0 in let n3 = a.1.1.1.1.1.1.1.0 in
    let fits1 = are.1.1.1.0.1 in let fits2 = are.1.1.1.1.1.0.1 in let fits3 = are.1.1.1.1.1.1.1.0.1 in
    let q1 = given.user.share in let q2 = given.password.share in let q3 = given.seed.share in
    let xs1 = given.user.bytes in let xs2 = given.password.bytes in let xs3 = given.seed.bytes in
    let b' = settings.ref_ptr.0 in let o' = settings.ref_ptr.1 in let other : Ptr = block_ptr b' o' in let hv : Val = heap.lowered a.0 in
    let y : W.Ghost = (
      (
        κs,
        qs,
        bounds,
        a,
        (
          hv ∷ [],
          (
            shr_vals settings,
            (rawptr_vals user, (uint_vals w64 n1, (rawptr_vals password, (uint_vals w64 n2, (rawptr_vals seed, (uint_vals w64 n3, (mut_vals place, tt))))))),
          ),
        ),
      ),
      given,
    ) in
    let Named = named_at user n1 password n2 seed n3 given in
    qed 𝓛 ((raw (alive 𝓛 f.signature κs qs) ⊛ ‵ (owns (types_at f.signature.params κs) a y.0.4)) ∷ ‵ Named ∷ []) ∵ move ! (1 ∷ []) $ fsplit ! $
    bytes_in ! q1 user n1 xs1 b' o' (λ b1 o1 e1 l1 low1. move ! (1 ∷ []) $ fsplit ! $
    bytes_in ! q2 password n2 xs2 b' o' (λ b2 o2 e2 l2 low2. move ! (1 ∷ []) $
    bytes_in ! q3 seed n3 xs3 b' o' (λ b3 o3 e3 l3 low3. move ! (3 ∷ 2 ∷ 1 ∷ 0 ∷ []) $ split ! $
    let typed = λ (at : Ptr). ((rawptr_Lawful 𝓛).typed at _ refl).0 in
    enter ! _ _ _ _ _ $ alloc_all ! (λ l. pass_all ! refl (
      (tt, ((tt, tt), tt)),
      (
        (tt, tt),
        (
          typed user,
          (
            (tt, record { fits = fits1 }),
            (typed password, ((tt, record { fits = fits2 }), (typed seed, ((tt, record { fits = fits3 }), ((tt, tt), tt))))),
          ),
        ),
      ),
    ) $
    -- [the tokens; what the parameters own; the three's bytes; the locals]
    sets ! (addr ! (through ! refl (stop !))) refl (tt, tt) $
    -- the place of the user name
    let z1 : P.Ghost = ((tt, tt, tt, (user, (n1, (other, tt))), (rawptr_vals user, (uint_vals w64 n1, (rawptr_vals other, tt)))), tt) in
    nothing ! $ feq_i ! (List Val) (rawptr_vals other) (rawptr_vals other) refl $ fjoin ! $ owned ! usize (Is usize) (uint_Makes 𝓛 w64) n1 (vint w64 n1 ∷ []) (refl, fits1) $ fjoin ! $
    feq_i ! (List Val) (rawptr_vals user) (rawptr_vals user) refl $ fjoin ! $ nothing ! $ join ! $ nothing ! $ move ! (1 ∷ 0 ∷ []) $ join ! $ use1 𝓛 (raw (P.pre z1)) (id⊢ 𝓤 _) $
    calls_at ! (framed 𝓤 𝓛.H 𝓜 𝓣) P placed z1 (and_then ! (get ! refl) (and_then ! (get ! refl) (and_then ! (get ! refl) (no_more !)))) (λ v1.
    use1 𝓛 (later (some (λ (r : Ptr). (‵ ftrue ⊛ ‵ (RawPtr.own_val r (v1 ∷ []))) ⊛ some
    (λ (ls : Lasts p.ended z1.0.0 z1.0.3). ‵ (lasts p.ended z1.0.0 z1.0.3 ls) ⊛ raw (fact 𝓤 (r ≡ place_of user n1 other)))))) (id⊢ 𝓤 _) $
    await ! tt $ pick ! (λ r. split ! $ split ! $ drop ! $ feq_l ! (λ known. pick ! (λ _. split ! $ drop ! $ heard ! (r ≡ place_of user n1 other) (λ there.
    lands_as ! (ap only known ∙ ap ptr_val (there ∙ e1)) refl (tt, tt) $
    sets ! (agg ! (and_then ! (get ! refl) (and_then ! (get ! refl) (no_more !)))) refl (tt, (tt, (record { fits = fits1 }, tt))) $
    -- the place of the password
    let z2 : P.Ghost = ((tt, tt, tt, (password, (n2, (other, tt))), (rawptr_vals password, (uint_vals w64 n2, (rawptr_vals other, tt)))), tt) in
    nothing ! $ feq_i ! (List Val) (rawptr_vals other) (rawptr_vals other) refl $ fjoin ! $ owned ! usize (Is usize) (uint_Makes 𝓛 w64) n2 (vint w64 n2 ∷ []) (refl, fits2) $ fjoin ! $
    feq_i ! (List Val) (rawptr_vals password) (rawptr_vals password) refl $ fjoin ! $ nothing ! $ join ! $ nothing ! $ move ! (1 ∷ 0 ∷ []) $ join ! $ use1 𝓛 (raw (P.pre z2)) (id⊢ 𝓤 _) $
    calls_at ! (framed 𝓤 𝓛.H 𝓜 𝓣) P placed z2 (and_then ! (get ! refl) (and_then ! (get ! refl) (and_then ! (get ! refl) (no_more !)))) (λ v2.
    use1 𝓛 (later (some (λ (r : Ptr). (‵ ftrue ⊛ ‵ (RawPtr.own_val r (v2 ∷ []))) ⊛ some
    (λ (ls : Lasts p.ended z2.0.0 z2.0.3). ‵ (lasts p.ended z2.0.0 z2.0.3 ls) ⊛ raw (fact 𝓤 (r ≡ place_of password n2 other)))))) (id⊢ 𝓤 _) $
    await ! tt $ pick ! (λ r. split ! $ split ! $ drop ! $ feq_l ! (λ known. pick ! (λ _. split ! $ drop ! $ heard ! (r ≡ place_of password n2 other) (λ there.
    lands_as ! (ap only known ∙ ap ptr_val (there ∙ e2)) refl (tt, tt) $
    sets ! (agg ! (and_then ! (get ! refl) (and_then ! (get ! refl) (no_more !)))) refl (tt, (tt, (record { fits = fits2 }, tt))) $
    -- the place of the seed
    let z3 : P.Ghost = ((tt, tt, tt, (seed, (n3, (other, tt))), (rawptr_vals seed, (uint_vals w64 n3, (rawptr_vals other, tt)))), tt) in
    nothing ! $ feq_i ! (List Val) (rawptr_vals other) (rawptr_vals other) refl $ fjoin ! $ owned ! usize (Is usize) (uint_Makes 𝓛 w64) n3 (vint w64 n3 ∷ []) (refl, fits3) $ fjoin ! $
    feq_i ! (List Val) (rawptr_vals seed) (rawptr_vals seed) refl $ fjoin ! $ nothing ! $ join ! $ nothing ! $ move ! (1 ∷ 0 ∷ []) $ join ! $ use1 𝓛 (raw (P.pre z3)) (id⊢ 𝓤 _) $
    calls_at ! (framed 𝓤 𝓛.H 𝓜 𝓣) P placed z3 (and_then ! (get ! refl) (and_then ! (get ! refl) (and_then ! (get ! refl) (no_more !)))) (λ v3.
    use1 𝓛 (later (some (λ (r : Ptr). (‵ ftrue ⊛ ‵ (RawPtr.own_val r (v3 ∷ []))) ⊛ some
    (λ (ls : Lasts p.ended z3.0.0 z3.0.3). ‵ (lasts p.ended z3.0.0 z3.0.3 ls) ⊛ raw (fact 𝓤 (r ≡ place_of seed n3 other)))))) (id⊢ 𝓤 _) $
    await ! tt $ pick ! (λ r. split ! $ split ! $ drop ! $ feq_l ! (λ known. pick ! (λ _. split ! $ drop ! $ heard ! (r ≡ place_of seed n3 other) (λ there.
    lands_as ! (ap only known ∙ ap ptr_val (there ∙ e3)) refl (tt, tt) $
    sets ! (agg ! (and_then ! (get ! refl) (and_then ! (get ! refl) (no_more !)))) refl (tt, (tt, (record { fits = fits3 }, tt))) $
    sets ! (addr ! (through ! refl (stop !))) refl (tt, tt) $
    lft_new ! tt (λ α1. let κ1 : Lft = α1 ∷ [] in let s1 : Bor (List ℕ) = record { ref_ptr = (b1, o1); now = xs1 } in
    let fits : length xs1 < 2 ^ 64 = omega (arith, l1, low1) in let room : length xs1 * 1 < 2 ^ 63 = omega (arith, l1, low1) in
    move ! (3 ∷ []) $ feq_i ! ℕ (length xs1) (length xs1) refl $ fjoin ! $
    use2 𝓛 (later ((‵ ((ShrSlice (named 1) κ1 u8).own_val s1 (slice_val (b1, o1) (length xs1) ∷ []))
    ⊛ ‵ (flent κ1 (fsep (feq ℕ (length xs1) (length xs1)) (bytes q1 xs1 b1 o1)))) ⊛ ‵ (flft κ1 full_share)))
    (lends_shr_slice 𝓛 u8 (named 1) κ1 q1 xs1 b1 o1 (fits, room) κ1 ((uint_Copied 𝓛 w8).shares q1 κ1) ((κ1, full_share) ∷ []) (Incl-refl κ1) (Incl-refl κ1)) $ await ! tt $ split ! $ split ! $
    rewrite ! 0 (λ (m : ℕ). ‵ ((ShrSlice (named 1) κ1 u8).own_val s1 (slice_val (b1, o1) m ∷ []))) l1 refl $
    lft_new ! tt (λ α2. let κ2 : Lft = α2 ∷ [] in let s2 : Bor (List ℕ) = record { ref_ptr = (b2, o2); now = xs2 } in
    let fits : length xs2 < 2 ^ 64 = omega (arith, l2, low2) in let room : length xs2 * 1 < 2 ^ 63 = omega (arith, l2, low2) in
    move ! (6 ∷ []) $ feq_i ! ℕ (length xs2) (length xs2) refl $ fjoin ! $
    use2 𝓛 (later ((‵ ((ShrSlice (named 2) κ2 u8).own_val s2 (slice_val (b2, o2) (length xs2) ∷ []))
    ⊛ ‵ (flent κ2 (fsep (feq ℕ (length xs2) (length xs2)) (bytes q2 xs2 b2 o2)))) ⊛ ‵ (flft κ2 full_share)))
    (lends_shr_slice 𝓛 u8 (named 2) κ2 q2 xs2 b2 o2 (fits, room) κ2 ((uint_Copied 𝓛 w8).shares q2 κ2) ((κ2, full_share) ∷ []) (Incl-refl κ2) (Incl-refl κ2)) $ await ! tt $ split ! $ split ! $
    rewrite ! 0 (λ (m : ℕ). ‵ ((ShrSlice (named 2) κ2 u8).own_val s2 (slice_val (b2, o2) m ∷ []))) l2 refl $
    lft_new ! tt (λ α3. let κ3 : Lft = α3 ∷ [] in let s3 : Bor (List ℕ) = record { ref_ptr = (b3, o3); now = xs3 } in
    let fits : length xs3 < 2 ^ 64 = omega (arith, l3, low3) in let room : length xs3 * 1 < 2 ^ 63 = omega (arith, l3, low3) in
    move ! (9 ∷ []) $ feq_i ! ℕ (length xs3) (length xs3) refl $ fjoin ! $
    use2 𝓛 (later ((‵ ((ShrSlice (named 3) κ3 u8).own_val s3 (slice_val (b3, o3) (length xs3) ∷ []))
    ⊛ ‵ (flent κ3 (fsep (feq ℕ (length xs3) (length xs3)) (bytes q3 xs3 b3 o3)))) ⊛ ‵ (flft κ3 full_share)))
    (lends_shr_slice 𝓛 u8 (named 3) κ3 q3 xs3 b3 o3 (fits, room) κ3 ((uint_Copied 𝓛 w8).shares q3 κ3) ((κ3, full_share) ∷ []) (Incl-refl κ3) (Incl-refl κ3)) $ await ! tt $ split ! $ split ! $
    rewrite ! 0 (λ (m : ℕ). ‵ ((ShrSlice (named 3) κ3 u8).own_val s3 (slice_val (b3, o3) m ∷ []))) l3 refl $
    -- [the seed's slice, the right to its bytes, its token; those of the password; those of the user name; the tokens; what the parameters own; the locals]
    move ! (10 ∷ []) $ fsplit ! $ move ! (1 ∷ []) $ fsplit ! $ move ! (1 ∷ []) $ fsplit ! $ drop ! $ fsplit ! $ drop ! $ fsplit ! $ drop ! $ fsplit ! $ drop ! $ fsplit ! $ drop ! $ fsplit ! $ drop ! $
    move ! (3 ∷ 0 ∷ []) $ fjoin ! $ move ! (5 ∷ 0 ∷ []) $ fjoin ! $ move ! (7 ∷ 0 ∷ []) $ fjoin ! $ move ! (1 ∷ 0 ∷ []) $ fjoin ! $ move ! (1 ∷ 0 ∷ []) $ fjoin ! $
    move ! (7 ∷ []) $ use1 𝓛 (‵ (flft κs.0 qs.0) ⊛ (‵ (flft κs.1.0 qs.1.0) ⊛ ‵ ftrue)) (id⊢ 𝓤 _) $ split ! $
    move ! (4 ∷ 1 ∷ []) $ join ! $ move ! (5 ∷ 0 ∷ []) $ join ! $ move ! (6 ∷ 0 ∷ []) $ join ! $ move ! (1 ∷ 0 ∷ []) $ join ! $ join ! $ nothing ! $ move ! (1 ∷ 0 ∷ []) $ join ! $
    let z : G.Ghost = (
      (
        (κs.0, (κ1, (κ2, (κ3, κs.1)))),
        (qs.0, (full_share, (full_share, (full_share, qs.1)))),
        tt,
        (a.0, (settings, (s1, (s2, (s3, (place, tt)))))),
        (hv ∷ [], (shr_vals settings, (slice_val (b1, o1) n1 ∷ [], (slice_val (b2, o2) n2 ∷ [], (slice_val (b3, o3) n3 ∷ [], (mut_vals place, tt)))))),
      ),
      tt,
    ) in
    use1 𝓛 (raw (G.pre z)) (id⊢ 𝓤 _) $
    calls_at ! (framed 𝓤 𝓛.H 𝓜 𝓣) G (met 𝓤 𝓛 𝓜 𝓡 (code.calls-turn_c::make_session 𝓡.env wired)) z
    (and_then ! (get ! refl) (and_then ! (get ! refl) (and_then ! (get ! refl) (and_then ! (get ! refl) (and_then ! (get ! refl) (and_then ! (get ! refl) (no_more !))))))) (λ v.
    let Says : ℕ → Lasts g.ended z.0.0 z.0.3 → Fml = λ r ws. new_at settings.now xs1 xs2 xs3 place.now ws.1.1.1.1.1.0 r in
    use1 𝓛 (later (some (λ (r : ℕ).
    ((‵ (flft κs.0 qs.0) ⊛ (‵ (flft κ1 full_share) ⊛ (‵ (flft κ2 full_share) ⊛ (‵ (flft κ3 full_share) ⊛ (‵ (flft κs.1.0 qs.1.0) ⊛ ‵ ftrue))))) ⊛ ‵ (u32.own_val r (v ∷ []))) ⊛ some
    (λ (ws : Lasts g.ended z.0.0 z.0.3). ‵ (lasts g.ended z.0.0 z.0.3 ws) ⊛ ‵ (Says r ws))))) (id⊢ 𝓤 _) $
    await ! tt $ pick ! (λ r. split ! $ split ! $ split ! $
    -- [the token of the settings; the other tokens; the result; what the callee says; the rights to the three's bytes; the locals]
    move ! (1 ∷ []) $ split ! $ lft_end ! tt $ move ! (0 ∷ 7 ∷ []) $ lent_back ! tt $ fsplit ! $ drop ! $
    use1 𝓛 (‵ (bytes_at q1 user n1 xs1)) (bytes_back 𝓛 q1 user n1 xs1 b' o' b1 o1 e1 l1 low1) $
    move ! (1 ∷ []) $ split ! $ lft_end ! tt $ move ! (0 ∷ 7 ∷ []) $ lent_back ! tt $ fsplit ! $ drop ! $
    use1 𝓛 (‵ (bytes_at q2 password n2 xs2)) (bytes_back 𝓛 q2 password n2 xs2 b' o' b2 o2 e2 l2 low2) $
    move ! (1 ∷ []) $ split ! $ lft_end ! tt $ move ! (0 ∷ 7 ∷ []) $ lent_back ! tt $ fsplit ! $ drop ! $
    use1 𝓛 (‵ (bytes_at q3 seed n3 xs3)) (bytes_back 𝓛 q3 seed n3 xs3 b' o' b3 o3 e3 l3 low3) $
    -- [the seed; the token of the place; the password; the user name; the token of the settings; the result; what the callee says; the locals]
    move ! (2 ∷ 0 ∷ []) $ fjoin ! $ move ! (2 ∷ 0 ∷ []) $ fjoin ! $ move ! (2 ∷ 1 ∷ []) $ join ! $ move ! (3 ∷ []) $ pick ! (λ ws. split ! $
    move ! (4 ∷ []) $ peeks ! u32 (Is u32) (shows 𝓛 u32) r (v ∷ []) (λ is. lands_as ! refl refl ((uint_Lawful 𝓛 w32).typed r _ is).0 $
    returns ! (look_at ! 0 refl) $ free_all ! refl $
    -- [the result; what the callee says of its parameters, and of the place; the tokens; the bytes]
    move ! (1 ∷ []) $ fsplit ! $ move ! (1 ∷ []) $ fsplit ! $ move ! (1 ∷ []) $ fsplit ! $ drop ! $ fsplit ! $ drop ! $ fsplit ! $ drop ! $
    nothing ! $ fjoin ! $ nothing ! $ fjoin ! $ nothing ! $ fjoin ! $ nothing ! $ fjoin ! $ nothing ! $ fjoin ! $ nothing ! $ fjoin ! $ move ! (1 ∷ 0 ∷ []) $ fjoin ! $ move ! (1 ∷ 0 ∷ []) $ fjoin ! $
    move ! (2 ∷ 4 ∷ []) $ join ! $ move ! (3 ∷ 1 ∷ 2 ∷ 0 ∷ []) $
    by ! (leaves 𝓛 f.ended stayed c y v r (tt, (tt, (tt, (tt, (tt, (tt, (tt, (tt, (ws.1.1.1.1.1.0, tt))))))))) (tt, (tt, (tt, (tt, (tt, (tt, (tt, (tt, (tt, tt)))))))))))))))))))))))))))))))))))))
