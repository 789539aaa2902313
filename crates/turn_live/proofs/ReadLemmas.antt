-- Lines that are read in sequence.
use Rattle.std.proofs.Common.{◌≡◌, ℕ, zero, suc, All, List, [], ◌∷◌, ◌++◌, Option, refl, sym, ap, subst, ◌∙◌, append_assoc, arith}
use Rattle.std.proofs.lemmas.List.{append-nil}
use Rattle.std.proofs.lemmas.List.Elements.{All-append}
use Rattle.std.proofs.lemmas.Grind.{flat_map-append}
use Rattle.std.specs.Io.KnownBytes.{Consumes}
use Rattle.turn_live.specs.Line.{IsLine, IsTaken, feed_at, missing_at}
use Rattle.turn_live.specs.Lines.{joined_lines}
use Rattle.turn_live.specs.Session.{ReadsLines}
use Rattle.turn_live.specs.declared.line.LineEnd.{LineEnd}
use Rattle.turn_live.specs.declared.line.LineEnd.TheVariants.{Feed, Input}
use Rattle.turn_live.proofs.KnownLemmas.{Consumes-none, Consumes-then}

-- a line and its LF, whether the LF was read or is missing
whole_line : (line : List ℕ) (end : LineEnd) → (line ++ feed_at end) ++ missing_at end ≡ line ++ 10 ∷ []
whole_line line Feed = append-nil (line ++ 10 ∷ [])
whole_line line Input = ap (λ (front : List ℕ). front ++ 10 ∷ []) (append-nil line)

fed-more : (lines : List (List ℕ)) (line : List ℕ) → joined_lines (lines ++ line ∷ []) ≡ joined_lines lines ++ (line ++ 10 ∷ [])
fed-more lines line =
    flat_map-append (λ (l : List ℕ). l ++ 10 ∷ []) lines (line ∷ []) ∙ ap (λ (rest : List ℕ). joined_lines lines ++ rest) (append-nil (line ++ 10 ∷ []))

no_lines : All IsLine []
no_lines k d low = absurd (omega arith)

one_line : (line : List ℕ) → IsLine line → All IsLine (line ∷ [])
one_line line clear zero d low = clear
one_line line clear (suc k) d low = absurd (omega arith)

-- the bytes of whole lines
bytes_of_whole : (a b : Option (List ℕ)) (lines : List (List ℕ)) → (r : ReadsLines a b lines [] Feed) → r.bytes ≡ joined_lines lines
bytes_of_whole a b lines r = sym (append-nil r.bytes) ∙ sym r.whole ∙ append-nil (joined_lines lines)

pub none_read : (a : Option (List ℕ)) → ReadsLines a a [] [] Feed
none_read a = record { bytes = []; consumed = Consumes-none a; whole = refl; each = no_lines }

-- one more line
pub more_read : (a b c : Option (List ℕ)) (lines : List (List ℕ)) (line : List ℕ) (end : LineEnd) → ReadsLines a b lines [] Feed → IsTaken b c line end → ReadsLines a c (lines ++ line ∷ []) [] end
more_read a b c lines line end r t =
    let behind = line ++ feed_at end in
    record {
      bytes = r.bytes ++ behind;
      consumed = Consumes-then a b c r.bytes behind r.consumed t.consumed;
      whole = append-nil (joined_lines (lines ++ line ∷ []))
          ∙ fed-more lines line
          ∙ ap (λ (rest : List ℕ). joined_lines lines ++ rest) (sym (whole_line line end))
          ∙ ap (λ (front : List ℕ). front ++ (behind ++ missing_at end)) (sym (bytes_of_whole a b lines r))
          ∙ sym (append_assoc r.bytes behind (missing_at end));
      each = All-append IsLine lines (line ∷ []) r.each (one_line line t.clear);
    }

-- some bytes of one more line
pub rest_read : (a b c : Option (List ℕ)) (lines : List (List ℕ)) (rest : List ℕ) → ReadsLines a b lines [] Feed → Consumes b c rest → ReadsLines a c lines rest Feed
rest_read a b c lines rest r t =
    record {
      bytes = r.bytes ++ rest;
      consumed = Consumes-then a b c r.bytes rest r.consumed t;
      whole = ap (λ (front : List ℕ). front ++ rest) (sym (bytes_of_whole a b lines r)) ∙ sym (append-nil (r.bytes ++ rest));
      each = r.each;
    }

-- the end of the input after whole lines
pub end_read : (a b c : Option (List ℕ)) (lines : List (List ℕ)) (line : List ℕ) → ReadsLines a b lines [] Feed → line ≡ [] → IsTaken b c line Input → ReadsLines a c lines [] Feed
end_read a b c lines line r none t = rest_read a b c lines [] r (subst (Consumes b c) (append-nil line ∙ none) t.consumed)

first_line : (line : List ℕ) (lines : List (List ℕ)) → IsLine line → All IsLine lines → All IsLine (line ∷ lines)
first_line line lines clear each zero d low = clear
first_line line lines clear each (suc k) d low = each k d (omega arith)

-- a line, then others
pub read_behind : (a b c : Option (List ℕ)) (line : List ℕ) (lines : List (List ℕ)) (rest : List ℕ) (end : LineEnd) → IsTaken a b line Feed → ReadsLines b c lines rest end
    → ReadsLines a c (line ∷ lines) rest end
read_behind a b c line lines rest end t r =
    let front = line ++ 10 ∷ [] in
    record {
      bytes = front ++ r.bytes;
      consumed = Consumes-then a b c front r.bytes t.consumed r.consumed;
      whole = append_assoc front (joined_lines lines) rest ∙ ap (λ (more : List ℕ). front ++ more) r.whole ∙ sym (append_assoc front r.bytes (missing_at end));
      each = first_line line lines t.clear r.each;
    }
