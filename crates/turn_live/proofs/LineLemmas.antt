-- A line, piece by piece.
use Rattle.std.proofs.Common.{◌≡◌, ◌≢◌, ℕ, ◌+◌, ◌-◌, ◌<◌, ◌≤◌, All, List, [], ◌∷◌, ◌++◌, Option, Some, None, length, take, get_or, inl, inr, refl, sym, ap, subst, ◌∙◌, append_assoc, arith, ⊎_elim}
use Rattle.std.specs.Prelude.{◌⊎◌, IfSome, OnSome}
use Rattle.std.proofs.lemmas.Bool.{cases_lt, eq-eqb, eqb-true}
use Rattle.std.proofs.lemmas.List.{append-nil, get_or-take, get_or_default, length-take, take-append-le, take_all, take_more}
use Rattle.std.proofs.lemmas.List.Elements.{All-append}
use Rattle.std.proofs.Math.Seq.{take-append-add}
use Rattle.std.specs.Io.KnownBytes.{Consumes, IsAtEnd, Keeps}
use Rattle.memchr.specs.Find.{IsFirstByte, is_byte}
use Rattle.turn_live.specs.Line.{IsLine, IsLost, IsPiece, IsTaken, feed_at, first_bytes, first_of_piece}
use Rattle.turn_live.specs.declared.line.LineEnd.{LineEnd}
use Rattle.turn_live.specs.declared.line.LineEnd.TheVariants.{Feed, Input}
use Rattle.turn_live.specs.declared.stop.Stop.{Stop}
use Rattle.turn_live.specs.declared.stop.Stop.TheVariants as Stops
use Rattle.turn_live.proofs.KnownLemmas.{Consumes-kept, Consumes-then, ends_later}

-- The beginning of a line was read, and kept as far as a line is kept.
pub record IsBegun (old new : Option (List ℕ)) (kept : List ℕ) : Type 0 where
  pub line : List ℕ
  pub consumed : Consumes old new line
  pub clear : IsLine line
  pub kept_is : kept ≡ first_bytes line

-- what is kept of a line and one more piece of it
take_both : (most : ℕ) (line piece : List ℕ) → take most (line ++ piece) ≡ take most line ++ take (most - length (take most line)) piece
take_both most line piece = ⊎_elim
    (λ short.
    let k = most - length line in
    let whole : take most line ≡ line = take_all most line (omega (arith, short)) in
    let sum : most ≡ length line + k = omega (arith, short) in
    ap (λ n. take n (line ++ piece)) sum ∙ take-append-add line piece k ∙ sym (rw whole refl))
    (λ long.
    let full : length (take most line) ≡ most = omega (arith, length-take most line, long) in
    let none : most - length (take most line) ≡ 0 = omega (arith, full) in
    take-append-le most line piece (omega (arith, long)) ∙ sym (append-nil (take most line)) ∙ sym (rw none refl))
    (cases_lt (length line) most)

no_bytes : IsLine []
no_bytes k d low = absurd (omega arith)

pub begun_more : (a b c : Option (List ℕ)) (before after piece : List ℕ) → IsBegun a b before → IsPiece b c before after piece None → IsBegun a c after
begun_more a b c before after piece k p = record {
  line = k.line ++ piece;
  consumed = Consumes-then a b c k.line piece k.consumed (subst (Consumes b c) (append-nil piece) p.consumed);
  clear = All-append (λ byte. byte ≢ 10) k.line piece k.clear p.clear;
  kept_is = p.kept ∙ ap (λ front. front ++ first_of_piece front piece) k.kept_is ∙ sym (take_both 1048577 k.line piece);
}

pub line_taken : (a b c : Option (List ℕ)) (before after piece : List ℕ) (end : LineEnd) → IsBegun a b before → IsPiece b c before after piece (Some end)
    → (line : List ℕ) × IsTaken a c line end × (after ≡ first_bytes line)
line_taken a b c before after piece end k p =
    let line = k.line ++ piece in (
      line,
      record {
        consumed = subst (Consumes a c) (sym (append_assoc k.line piece (feed_at end))) (Consumes-then a b c k.line (piece ++ feed_at end) k.consumed p.consumed);
        clear = All-append (λ byte. byte ≢ 10) k.line piece k.clear p.clear;
        ends = ends_later a b c k.line end k.consumed p.ends;
      },
      p.kept ∙ ap (λ front. front ++ first_of_piece front piece) k.kept_is ∙ sym (take_both 1048577 k.line piece),
    )

begun_still : (a b c : Option (List ℕ)) (line : List ℕ) → Consumes a b line → Consumes b c [] → Consumes a c line
begun_still a b c line h k = subst (Consumes a c) (append-nil line) (Consumes-then a b c line [] h k)

pub line_lost : (a b c : Option (List ℕ)) (kept : List ℕ) (stop : Stop) → IsBegun a b kept → (stop ≡ Stops.ReadFailed) ⊎ (stop ≡ Stops.OutOfMemory) → Consumes b c [] → IsLost a c stop
line_lost a b c kept stop k (inl failed) none = subst (IsLost a c) (sym failed) (k.line, begun_still a b c k.line k.consumed none, k.clear)
line_lost a b c kept stop k (inr failed) none = subst (IsLost a c) (sym failed) (k.line, begun_still a b c k.line k.consumed none, k.clear)

-- ---- a piece of a line, from the bytes that a reader shows

-- the bytes before the first LF are of one line
clear_front : (shown : List ℕ) (at : ℕ) → at ≤ length shown → ((k : ℕ) → 0 ≤ k → k < at → (get_or shown k 0 ≡ 10) → ⊥) → IsLine (take at shown)
clear_front shown at inside none k d low =
    let below : k < at = omega (arith, length-take at shown) in
    λ feed. none k (omega arith) below (get_or_default shown k 0 d (omega (arith, below, inside)) ∙ sym (get_or-take at shown k d below) ∙ feed)

-- a piece that its LF ends
pub piece_fed : (a c : Option (List ℕ)) (shown before after : List ℕ) (at : ℕ) → IsFirstByte (is_byte 10) shown (Some at) → Consumes a c (take (at + 1) shown)
    → after ≡ before ++ first_of_piece before (take at shown) → (piece : List ℕ) × IsPiece a c before after piece (Some Feed)
piece_fed a c shown before after at found moved kept =
    let inside : at < length shown = found.0.high in
    let feed : get_or shown at 0 ≡ 10 = eqb-true (get_or shown at 0) 10 found.1 in
    let split : take (at + 1) shown ≡ take at shown ++ 10 ∷ [] = take_more shown at 0 inside ∙ ap (λ byte. take at shown ++ byte ∷ []) feed in (
      take at shown,
      record {
        consumed = subst (Consumes a c) split moved;
        clear = clear_front shown at (omega (arith, inside)) (λ k low high e. found.0.before k low high (eq-eqb (get_or shown k 0) 10 e));
        kept = kept;
        ends = tt;
      },
    )

-- a piece without an LF
pub piece_open : (a c : Option (List ℕ)) (shown before after : List ℕ) → IsFirstByte (is_byte 10) shown None → Consumes a c (take (length shown) shown)
    → after ≡ before ++ first_of_piece before shown → (piece : List ℕ) × IsPiece a c before after piece None
piece_open a c shown before after none moved kept =
    let whole : take (length shown) shown ≡ shown = take_all (length shown) shown (omega arith) in (
      shown,
      record {
        consumed = subst (Consumes a c) (whole ∙ sym (append-nil shown)) moved;
        clear = subst IsLine whole (clear_front shown (length shown) (omega arith) (λ k low high e. none k low high (eq-eqb (get_or shown k 0) 10 e)));
        kept = kept;
        ends = tt;
      },
    )

at_end : (a b : Option (List ℕ)) (shown : List ℕ) → IfSome a (λ xs. length shown ≡ 0 → xs ≡ []) → Keeps a b → length shown ≡ 0 → OnSome a (IsAtEnd b)
at_end None b shown end kept none = tt
at_end (Some u) None shown end kept none = absurd kept
at_end (Some u) (Some v) shown end kept none = kept ∙ end none

nothing_kept : (before : List ℕ) → before ≡ before ++ first_of_piece before []
nothing_kept before =
    let none : first_of_piece before [] ≡ [] = take_all (1048577 - length before) [] (omega arith) in
    sym (ap (λ (piece : List ℕ). before ++ piece) none ∙ append-nil before)

-- the reader shows nothing, at its end
pub piece_ended : (a b : Option (List ℕ)) (shown before : List ℕ) → IfSome a (λ xs. length shown ≡ 0 → xs ≡ []) → Keeps a b → length shown ≡ 0
    → (piece : List ℕ) × IsPiece a b before before piece (Some Input)
piece_ended a b shown before end kept none =
    ([], record { consumed = Consumes-kept a b kept; clear = no_bytes; kept = nothing_kept before; ends = at_end a b shown end kept none })

-- the reader was interrupted
pub piece_none : (a b : Option (List ℕ)) (before : List ℕ) → Keeps a b → (piece : List ℕ) × IsPiece a b before before piece None
piece_none a b before kept = ([], record { consumed = Consumes-kept a b kept; clear = no_bytes; kept = nothing_kept before; ends = tt })
