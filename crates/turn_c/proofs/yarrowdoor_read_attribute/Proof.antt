-- `yarrowdoor_read_attribute` lends the bytes to `read_attribute` for a lifetime that is made for the call, and passes the rest on.
use Rattle.std.proofs.Common.{◌≡◌, ◌*◌, ◌<◌, ◌^◌, ℕ, List, [], ◌∷◌, refl, length, arith, ap, ◌∙◌, Bor}
use base.Fraction.{full_share}
use base.Logic.{emp, id⊢}
use base.Fml.{Lft, Incl-refl, ftrue, fsep, feq, flft, flent}
use mir.Syntax.{named, w8, w16, w32, w64}
use mir.Val.{Val, vint}
use types.Kit.{‵, raw, ◌⊛◌, some, later, ◌$◌, ◌∵◌, !, qed, by, move, drop, split, join, fsplit, fjoin, pick, use1, use2, use0, await, rewrite, feq_i, feq_l}
use types.Run.{addr, stop, no_more, and_then, returns, enter}
use types.Part.{agg}
use types.ByLocal.{alloc_all, pass_all, free_all, look_at, get, through, sets, lands_as}
use types.Tokens.{lft_new, lft_end, lent_back}
use contract.Monad.{fact, fact_i}
use contract.Running.{tables}
use denote.Builtin.{u8, u32, usize}
use denote.Copied.{uint_Copied}
use denote.Laws.{Is, shows}
use denote.Lend.{lends_shr_slice}
use denote.Plain.{uint_vals, uint_Tells, uint_Makes, uint_Lawful}
use denote.RawPtr.{Ptr, block_ptr, RawPtr, ptr_val, rawptr_vals, rawptr_Tells, rawptr_Lawful}
use denote.RawPtr.Bytes.{bytes}
use denote.Ref.{mut_vals, mut_Tells}
use denote.Slice.{ShrSlice, slice_val}
use denote.Steps.{nothing, owned, peeks, heard, only}
use denote.Triple.Call.{calls_at}
use denote.Triple.Clauses.{Lasts, lasts}
use denote.Triple.Entry.{alive}
use denote.Triple.Spec.{triple_of}
use denote.Triple.Table.{framed}
use denote.Triple.Walked.{Stays, walk_of}
use denote.RattleType.{owns}
use denote.Signature.{types_at}
use Rattle.std.proofs.raw_atomic.Walks.{proved, leaves}
use Rattle.turn_c_calls.specs.Hints.{SaysPlace}
use Rattle.turn_c_calls.specs.contracts.hints.read_attribute as g
use Rattle.turn_c_calls.proofs.hints.read_attribute.Met.{met}
use Rattle.turn_c.specs.Bytes.{bytes_at, place_of}
use Rattle.turn_c.proofs.Bytes.{bytes_in, bytes_back}
use Rattle.turn_c.proofs.Opaque.{gave_all, Goes-gave_all}
use Rattle.turn_c.specs.contracts.place_of as p
use Rattle.turn_c.proofs.place_of.Met as placed
use Rattle.turn_c.specs.contracts.yarrowdoor_read_attribute as f
use Rattle.turn_c.proofs.yarrowdoor_read_attribute.Statement.{statement}
use Rattle.turn_c.proofs.yarrowdoor_read_attribute.Code as code

abbrev stayed : Stays f.ended.signature.params f.ended.kept
stayed = gave_all f.ended.signature.params f.ended.kept

pub yarrowdoor_read_attribute_spec : {M : Type 1} → statement M
yarrowdoor_read_attribute_spec 𝓤 𝓛 𝓜 𝓡 wired =
    let c = f.clauses 𝓛 𝓜.mem 𝓡.returns in let W = walk_of 𝓛 f.ended stayed c in let 𝓣 = tables 𝓤 𝓛.H 𝓜 𝓡 𝓡.env in let fn = code.function in
    let G = triple_of 𝓛 g.signature (g.spec 𝓛 𝓜.mem 𝓡.returns) in let P = triple_of 𝓛 p.signature (p.spec 𝓛 𝓜.mem 𝓡.returns) in
    proved 𝓛 f.ended stayed c 𝓜 𝓡 (Goes-gave_all 𝓛 2 f.ended.signature.params f.ended.kept) f.Key.name fn (code.unfolded 𝓤 𝓛.H 𝓜 𝓡 wired)
    (λ κs. (rawptr_vals, (uint_vals w64, (uint_vals w16, (mut_vals, (mut_vals, tt))))))
    (λ κs. (rawptr_Tells, (uint_Tells w64, (uint_Tells w16, (mut_Tells (named 0) κs.0 usize, (mut_Tells (named 1) κs.1.0 usize, tt))))))
    (λ κs qs bounds a given are.
    let q = given.share in let xs = given.bytes in let at = a.0 in let n = a.1.0 in let rest = a.1.1 in let start = a.1.1.1.0 in
    let b' = start.ref_ptr.0 in let o' = start.ref_ptr.1 in
    let vss : List Val × (List Val × (List Val × Unit {0})) = (uint_vals w16 rest.0, (mut_vals start, (mut_vals rest.1.1.0, tt))) in
    let y : W.Ghost = ((κs, qs, bounds, a, (rawptr_vals at, (uint_vals w64 n, vss))), given) in
    let toks = raw (alive 𝓛 f.signature κs qs) in
    qed 𝓛 ((toks ⊛ ‵ (owns (types_at f.signature.params κs) a y.0.4)) ∷ ‵ (bytes_at q at n xs) ∷ []) ∵ move ! (1 ∷ []) $
    bytes_in ! q at n xs b' o' (λ b o e l low.
    -- [the bytes; the tokens and what the parameters own]
    let none : Ptr = block_ptr b' o' in let n_fits = are.1.0.1 in
    let z : P.Ghost = ((tt, tt, tt, (at, (n, (none, tt))), (rawptr_vals at, (uint_vals w64 n, (rawptr_vals none, tt)))), tt) in
    move ! (1 ∷ []) $ split ! $
    enter ! _ _ _ _ _ $ alloc_all ! (λ l'. pass_all ! refl (
      ((rawptr_Lawful 𝓛).typed at _ refl).0,
      (
        (tt, record { fits = n_fits }),
        ((tt, record { fits = are.1.1.0.1 }), ((tt, tt), ((tt, tt), tt))),
      ),
    ) $
    -- [the tokens; what the parameters own; the bytes; the locals]
    sets ! (addr ! (through ! refl (stop !))) refl (tt, tt) $
    nothing ! $ feq_i ! (List Val) (rawptr_vals none) (rawptr_vals none) refl $ fjoin ! $ owned ! usize (Is usize) (uint_Makes 𝓛 w64) n (vint w64 n ∷ []) (refl, n_fits) $ fjoin ! $
    feq_i ! (List Val) (rawptr_vals at) (rawptr_vals at) refl $ fjoin ! $ nothing ! $ join ! $ nothing ! $ move ! (1 ∷ 0 ∷ []) $ join ! $ use1 𝓛 (raw (P.pre z)) (id⊢ 𝓤 _) $
    calls_at ! (framed 𝓤 𝓛.H 𝓜 𝓣) P (placed.met 𝓤 𝓛 𝓜 𝓡 (code.calls-turn_c::place_of 𝓡.env wired)) z
    (and_then ! (get ! refl) (and_then ! (get ! refl) (and_then ! (get ! refl) (no_more !)))) (λ v.
    use1 𝓛 (later (some (λ (r : Ptr). (‵ ftrue ⊛ ‵ (RawPtr.own_val r (v ∷ []))) ⊛ some
    (λ (ls : Lasts p.ended z.0.0 z.0.3). ‵ (lasts p.ended z.0.0 z.0.3 ls) ⊛ raw (fact 𝓤 (r ≡ place_of at n none)))))) (id⊢ 𝓤 _) $
    await ! tt $ pick ! (λ r. split ! $ split ! $ drop ! $ feq_l ! (λ known. pick ! (λ _. split ! $ drop ! $ heard ! (r ≡ place_of at n none) (λ there.
    lands_as ! (ap only known ∙ ap ptr_val (there ∙ e)) refl (tt, tt) $
    sets ! (agg ! (and_then ! (get ! refl) (and_then ! (get ! refl) (no_more !)))) refl (tt, (tt, (record { fits = n_fits }, tt))) $
    sets ! (addr ! (through ! refl (stop !))) refl (tt, tt) $ sets ! (addr ! (through ! refl (stop !))) refl (tt, tt) $
    lft_new ! tt (λ α. let κ : Lft = α ∷ [] in let s : Bor (List ℕ) = record { ref_ptr = (b, o); now = xs } in
    let fits : length xs < 2 ^ 64 = omega (arith, l, low) in let room : length xs * 1 < 2 ^ 63 = omega (arith, l, low) in
    let Lent = ‵ (flent κ (fsep (feq ℕ (length xs) (length xs)) (bytes q xs b o))) in
    move ! (3 ∷ []) $ feq_i ! ℕ (length xs) (length xs) refl $ fjoin ! $
    use2 𝓛 (later ((‵ ((ShrSlice (named 0) κ u8).own_val s (slice_val (b, o) (length xs) ∷ [])) ⊛ Lent) ⊛ ‵ (flft κ full_share)))
    (lends_shr_slice 𝓛 u8 (named 0) κ q xs b o (fits, room) κ ((uint_Copied 𝓛 w8).shares q κ) ((κ, full_share) ∷ []) (Incl-refl κ) (Incl-refl κ)) $ await ! tt $ split ! $ split ! $
    rewrite ! 0 (λ (m : ℕ). ‵ ((ShrSlice (named 0) κ u8).own_val s (slice_val (b, o) m ∷ []))) l refl $
    -- [the slice; the right to the bytes; the token of κ; the tokens; what the parameters own; the locals]
    move ! (4 ∷ []) $ fsplit ! $ drop ! $ fsplit ! $ drop ! $ move ! (1 ∷ 0 ∷ []) $ fjoin ! $
    let z' : G.Ghost = (((κ, κs), (full_share, qs), tt, (s, rest), (slice_val (b, o) n ∷ [], vss)), tt) in
    move ! (2 ∷ 3 ∷ []) $ join ! $ join ! $ nothing ! $ move ! (1 ∷ 0 ∷ []) $ join ! $ use1 𝓛 (raw (G.pre z')) (id⊢ 𝓤 _) $
    calls_at ! (framed 𝓤 𝓛.H 𝓜 𝓣) G (met 𝓤 𝓛 𝓜 𝓡 (code.calls-turn_c_calls::hints::read_attribute 𝓡.env wired)) z'
    (and_then ! (get ! refl) (and_then ! (get ! refl) (and_then ! (get ! refl) (and_then ! (get ! refl) (no_more !))))) (λ v'.
    let Says : ℕ → Lasts g.ended z'.0.0 z'.0.3 → Type 0 = λ r' ws. SaysPlace rest.0 xs ws.1.1.0 ws.1.1.1.0 r' in
    use1 𝓛 (later (some (λ (r' : ℕ). ((‵ (flft κ full_share) ⊛ toks) ⊛ ‵ (u32.own_val r' (v' ∷ []))) ⊛ some
    (λ (ws : Lasts g.ended z'.0.0 z'.0.3). ‵ (lasts g.ended z'.0.0 z'.0.3 ws) ⊛ raw (fact 𝓤 (Says r' ws)))))) (id⊢ 𝓤 _) $
    await ! tt $ pick ! (λ r'. split ! $ split ! $ split ! $ move ! (3 ∷ []) $ pick ! (λ ws. split ! $ move ! (1 ∷ []) $ heard ! (Says r' ws) (λ said.
    -- [what the callee says of its parameters; the token of κ; the tokens; the result; the right to the bytes; the locals]
    move ! (1 ∷ []) $ lft_end ! tt $ move ! (0 ∷ 4 ∷ []) $ lent_back ! tt $ fsplit ! $ drop ! $ use1 𝓛 (‵ (bytes_at q at n xs)) (bytes_back 𝓛 q at n xs b' o' b o e l low) $
    move ! (3 ∷ []) $ peeks ! u32 (Is u32) (shows 𝓛 u32) r' (v' ∷ []) (λ is. lands_as ! refl refl ((uint_Lawful 𝓛 w32).typed r' _ is).0 $
    returns ! (look_at ! 0 refl) $ free_all ! refl $
    -- [the result; the bytes; what the callee says of its parameters; the tokens]
    use0 𝓛 (raw (fact 𝓤 (Says r' ws))) (fact_i 𝓤 _ (emp 𝓤) said) $ move ! (2 ∷ 0 ∷ []) $ join ! $
    move ! (2 ∷ []) $ fsplit ! $ drop ! $ nothing ! $ fjoin ! $ nothing ! $ fjoin ! $ move ! (3 ∷ 0 ∷ 2 ∷ 1 ∷ []) $
    by ! (leaves 𝓛 f.ended stayed c y v' r' (tt, (tt, ws.1)) (tt, (tt, (tt, (tt, (tt, tt))))))))))))))))))))
