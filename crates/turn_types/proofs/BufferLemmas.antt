-- What the calls of a buffer count.
use Rattle.std.proofs.Common.{◌≡◌, ℕ, ◌+◌, ◌-◌, ◌^◌, ◌<◌, ◌≤◌, Bool, true, false, nat_lt, if◌then◌else◌, List, [], length, drop, refl, sym, ap, subst, ◌∙◌, arith}
use Rattle.std.proofs.lemmas.Bool.{le-ltb}
use Rattle.std.proofs.lemmas.List.{length-drop}
use Rattle.turn_types.specs.Buffers.{Buffered, UpdatesCounts, IsKept, capped, with_taken, with_moved, settled, cut_off, front_by, front_offset, left_of}
use Rattle.turn_types.specs.Streams.{Stream, with_piece}
use Rattle.turn_types.specs.declared.tcp.counts.TcpCounts.{TcpCounts}

-- a call that takes nothing moves nothing
pub stays-IsCounted : (b : Buffered) → IsKept b → UpdatesCounts b b (left_of b.stream.bytes b) (b.start + left_of b.stream.bytes b)
stays-IsCounted b is =
    let still : nat_lt (length b.stream.bytes) (b.start + left_of b.stream.bytes b) ≡ false = le-ltb _ _ (omega (arith, is.half)) in
    record {
      taken = omega (arith, is.bounded);
      moved = rw still (omega (arith, is.bounded, is.paid));
      start = rw still (omega arith);
    }

-- a buffer before its rest may move
abbrev front_cut : ℕ → Buffered → Buffered
front_cut k b = record {
  stream = record { bytes = drop k b.stream.bytes; is_broken = b.stream.is_broken };
  start = b.start + k;
  counts = with_taken k b.counts;
}

settled-moves : (b : Buffered) → nat_lt (length b.stream.bytes) b.start ≡ true → settled b ≡ record { stream = b.stream; start = 0; counts = with_moved (length b.stream.bytes) b.counts }
settled-moves b e = ap (λ short. if short then record { stream = b.stream; start = 0; counts = with_moved (length b.stream.bytes) b.counts } else b) e

settled-stays : (b : Buffered) → nat_lt (length b.stream.bytes) b.start ≡ false → settled b ≡ b
settled-stays b e = ap (λ short. if short then record { stream = b.stream; start = 0; counts = with_moved (length b.stream.bytes) b.counts } else b) e

settled_by : (old b : Buffered) (left : ℕ) → b.counts ≡ with_taken left old.counts → old.counts.moved < 2 ^ 64 → (short : Bool) → nat_lt (length b.stream.bytes) b.start ≡ short
    → UpdatesCounts old (settled b) left b.start × ((settled b).stream ≡ b.stream)
settled_by old b left counts low true e =
    subst (λ (new : Buffered). UpdatesCounts old new left b.start × (new.stream ≡ b.stream)) (sym (settled-moves b e)) (
      record {
        taken = ap (λ (counts : TcpCounts). counts.taken) counts;
        moved =
            ap (λ (counts : TcpCounts). capped (counts.moved + length b.stream.bytes)) counts
            ∙ ap (λ short. capped (old.counts.moved + (if short then length b.stream.bytes else 0))) (sym e);
        start = ap (λ short. if short then 0 else b.start) (sym e);
      },
      refl,
    )
settled_by old b left counts low false e =
    subst (λ (new : Buffered). UpdatesCounts old new left b.start × (new.stream ≡ b.stream)) (sym (settled-stays b e)) (
      record {
        taken = ap (λ (counts : TcpCounts). counts.taken) counts;
        moved =
            ap (λ (counts : TcpCounts). counts.moved) counts
            ∙ (omega arith ∙ ap (λ short. capped (old.counts.moved + (if short then length b.stream.bytes else 0))) (sym e));
        start = ap (λ short. if short then 0 else b.start) (sym e);
      },
      refl,
    )

-- a frame that is returned is taken off
pub cut_off-IsCounted : (b : Buffered) (k : ℕ) → k ≤ length b.stream.bytes → IsKept b
    → UpdatesCounts b (cut_off k b) (left_of b.stream.bytes (cut_off k b)) (b.start + left_of b.stream.bytes (cut_off k b))
cut_off-IsCounted b k h is =
    let done = settled_by b (front_cut k b) k refl (omega (arith, is.paid, is.bounded)) (nat_lt (length (drop k b.stream.bytes)) (b.start + k)) refl in
    let left : left_of b.stream.bytes (cut_off k b) ≡ k =
    ap (λ (s : Stream). length b.stream.bytes - length s.bytes) done.1 ∙ rw length-drop (omega (arith, h)) in
    subst (λ n. UpdatesCounts b (cut_off k b) n (b.start + n)) (sym left) done.0

-- keeping the rest of a piece moves nothing
pub kept_behind-IsCounted : (old new : Buffered) (piece : List ℕ) (k : ℕ) → k ≤ length piece → new.stream.bytes ≡ drop k piece → new.start ≡ 0 → new.counts ≡ with_taken k old.counts → IsKept new
    → UpdatesCounts old new (left_of piece new) 0
kept_behind-IsCounted old new piece k h bytes start counts is =
    let left : left_of piece new ≡ k = rw (bytes, length-drop) (omega (arith, h)) in
    let moved : new.counts.moved ≡ old.counts.moved = ap (λ (c : TcpCounts). c.moved) counts in
    let low : old.counts.moved < 2 ^ 64 = omega (arith, moved, is.paid, is.bounded) in
    let short : nat_lt (length new.stream.bytes) 0 ≡ false = le-ltb _ _ (omega arith) in
    record {
      taken = rw (left, counts) refl;
      moved = rw short (moved ∙ omega (arith, low));
      start = rw short start;
    }

-- if the buffer was empty, none of its bytes precede the rest
pub first-IsCounted : (old new : Buffered) (piece : List ℕ) → old.stream.bytes ≡ [] → old.stream.is_broken ≡ false → UpdatesCounts old new (left_of piece new) 0
    → UpdatesCounts old new (left_of (with_piece old.stream piece).bytes new) (front_offset old (left_of (with_piece old.stream piece).bytes new))
first-IsCounted old new piece bytes broken is =
    let e : old.stream ≡ record { bytes = []; is_broken = false } = rw (bytes, broken) refl in
    let came : left_of (with_piece old.stream piece).bytes new ≡ left_of piece new = ap (λ (s : Stream). left_of (with_piece s piece).bytes new) e in
    let front : front_offset old (left_of piece new) ≡ 0 = ap (λ (s : Stream). front_by s.bytes old.start (left_of piece new)) e in
    subst (λ n. UpdatesCounts old new n (front_offset old n)) (sym came) (subst (λ n. UpdatesCounts old new (left_of piece new) n) (sym front) is)
