-- A session, line by line.
use Rattle.std.proofs.Common.{◌≡◌, ◌⊎◌, ℕ, ◌+◌, zero, suc, All, Bool, true, false, List, [], ◌∷◌, ◌++◌, Option, Some, None, Result, Ok, Err, length}
use Rattle.std.proofs.Common.{inl, inr, refl, sym, ap, subst, ◌∙◌, append_assoc, arith}
use Rattle.std.proofs.lemmas.List.{append-nil, length-append}
use Rattle.std.proofs.lemmas.List.Elements.{All-append}
use Rattle.std.proofs.lemmas.Grind.{flat_map-append}
use Rattle.std.specs.List.{flat_map}
use Rattle.std.specs.Io.{StopsAt}
use Rattle.std.specs.Io.BufRead.{strip_last}
use Rattle.std.specs.Io.KnownBytes.{Appends, Consumes}
use Rattle.turn_lines.proofs.AppendsLemmas.{Appends-none, Appends-then}
use Rattle.turn_lines.specs.declared.status.Status.{Status}
use Rattle.turn_lines.specs.declared.status.Status.TheVariants.{OutOfMemory, ReadFailed}
use Rattle.turn_session.specs.SessionState.{SessionState}
use Rattle.turn_session_lines.specs.Call.{session_call_of}
use Rattle.turn_session_live.specs.Input.{IsTaken}
use Rattle.turn_session_live.specs.Program.{EndsBy, GoesOn, IsAnswered, IsAnsweredBy, Steps, Talks}

-- ---- bytes that are read in sequence

nothing_read : (a : Option (List ℕ)) → Consumes a a []
nothing_read None = tt
nothing_read (Some xs) = refl

both_read : (a b c : Option (List ℕ)) (xs ys : List ℕ) → Consumes a b xs → Consumes b c ys → Consumes a c (xs ++ ys)
both_read None b c xs ys h k = tt
both_read (Some u) None c xs ys h k = absurd h
both_read (Some u) (Some v) None xs ys h k = absurd k
both_read (Some u) (Some v) (Some w) xs ys h k = h ∙ ap (λ (rest : List ℕ). xs ++ rest) k ∙ sym (append_assoc xs ys w)

-- the bytes of one line more
line_more : (lines : List (List ℕ)) (line : List ℕ) → flat_map (λ l. l) (lines ++ line ∷ []) ≡ flat_map (λ l. l) lines ++ line
line_more lines line =
    flat_map-append (λ (l : List ℕ). l) lines (line ∷ []) ∙ ap (λ (rest : List ℕ). flat_map (λ l. l) lines ++ rest) (append-nil line)

no_lines : All (λ line. StopsAt line 10) []
no_lines k d low = absurd (omega arith)

one_line : (line : List ℕ) → StopsAt line 10 → All (λ line. StopsAt line 10) (line ∷ [])
one_line line stops zero d low = stops
one_line line stops (suc k) d low = absurd (omega arith)

-- ---- answers

-- one line more is answered
answered_more : (first number : ℕ) (lines : List (List ℕ)) (line : List ℕ) (was s t : SessionState) (text said : List ℕ) → number ≡ first + length lines
    → IsAnswered first lines was text s → IsAnsweredBy number (session_call_of (strip_last 10 line)) s said t
    → IsAnswered first (lines ++ line ∷ []) was (text ++ said) t
answered_more first number [] line was s t text said at h k =
    let call = session_call_of (strip_last 10 line) in
    let from_was = subst (λ (u : SessionState). IsAnsweredBy number call u said t) h.1 k in
    let here = subst (λ (n : ℕ). IsAnsweredBy n call was said t) (omega (arith, at)) from_was in
    (said, t, [], here, (refl, refl), ap (λ (front : List ℕ). front ++ said) h.0 ∙ sym (append-nil said))
answered_more first number (l ∷ lines) line was s t text said at (told, u, rest, by, more, whole) k = (
  told,
  u,
  rest ++ said,
  by,
  answered_more (first + 1) number lines line u s t rest said (omega (arith, at)) more k,
  ap (λ (front : List ℕ). front ++ said) whole ∙ append_assoc told rest said,
)

begins : (s : SessionState) (a w : Option (List ℕ)) → GoesOn [] s s a a w w
begins s a w = record { consumed = nothing_read a; each = no_lines; text = []; answered = (refl, refl); written = Appends-none w }

goes_on : (number : ℕ) (lines : List (List ℕ)) (line said : List ℕ) (was s t : SessionState) (a b c w x y : Option (List ℕ)) → number ≡ 2 + length lines
    → GoesOn lines was s a b w x → IsTaken b c line → IsAnsweredBy number (session_call_of (strip_last 10 line)) s said t → Appends x y said
    → GoesOn (lines ++ line ∷ []) was t a c w y
goes_on number lines line said was s t a b c w x y at k taken answer told = record {
  consumed = subst (Consumes a c) (sym (line_more lines line)) (both_read a b c (flat_map (λ l. l) lines) line k.consumed taken.consumed);
  each = All-append (λ l. StopsAt l 10) lines (line ∷ []) k.each (one_line line taken.one_line);
  text = k.text ++ said;
  answered = answered_more 2 number lines line was s t k.text said at k.answered answer;
  written = Appends-then w x y k.text said k.written told;
}

-- ---- steps

-- a step that does not end the session has answered a line
stepped : (number : ℕ) (lines : List (List ℕ)) (was s t : SessionState) (a b c w x y : Option (List ℕ)) → number ≡ 2 + length lines
    → GoesOn lines was s a b w x → Steps number s t b c x y (Ok true) → (line : List ℕ) × GoesOn (lines ++ line ∷ []) was t a c w y
stepped number lines was s t a b c w x y at k (inl none) = let wrong : ◌≡◌ {A = Result Bool Status} (Ok true) (Ok false) = none.0 in cc
stepped number lines was s t a b c w x y at k (inr (inl lost)) = let wrong : ◌≡◌ {A = Result Bool Status} (Ok true) (Err lost.0) = lost.1 in cc
stepped number lines was s t a b c w x y at k (inr (inr (line, Err status, same, taken, rest))) =
    let wrong : ◌≡◌ {A = Result Bool Status} (Ok true) (Err status) = same in cc
stepped number lines was s t a b c w x y at k (inr (inr (line, Ok done, same, taken, inl wanted))) =
    let wrong : ◌≡◌ {A = Result (Unit {0}) Status} (Ok done) (Err OutOfMemory) = wanted.0 in cc
stepped number lines was s t a b c w x y at k (inr (inr (line, Ok done, same, taken, inr (said, answer, told)))) =
    (line, goes_on number lines line said was s t a b c w x y at k taken answer told)

-- a session before the line of this number, and how it ends if no line may have a greater number
pub record Came (number : ℕ) (was s : SessionState) (input left old new : Option (List ℕ)) : Type 0 where
  pub lines : List (List ℕ)
  pub number_is : number ≡ 2 + length lines
  pub so_far : GoesOn lines was s input left old new
  pub at_most : (number ≡ 2) ⊎ Talks was input left old new (Err ReadFailed)

pub comes : (s : SessionState) (a w : Option (List ℕ)) → Came 2 s s a a w w
comes s a w = record { lines = []; number_is = refl; so_far = begins s a w; at_most = inl refl }

-- the step at this line is the last one
pub ends : (number : ℕ) (was s t : SessionState) (a b c w x y : Option (List ℕ)) (step : Result Bool Status) (result : Result (Unit {0}) Status)
    → Came number was s a b w x → Steps number s t b c x y step → EndsBy step result → Talks was a c w y result
ends number was s t a b c w x y step result k h last =
    (k.lines, s, t, b, x, step, k.so_far, subst (λ (n : ℕ). Steps n s t b c x y step) k.number_is h, last)

pub comes_on : (number : ℕ) (was s t : SessionState) (a b c w x y : Option (List ℕ)) → Came number was s a b w x → Steps number s t b c x y (Ok true)
    → Came (number + 1) was t a c w y
comes_on number was s t a b c w x y k h =
    let more = stepped number k.lines was s t a b c w x y k.number_is k.so_far h in
    record {
      lines = k.lines ++ more.0 ∷ [];
      number_is = omega (arith, k.number_is, length-append k.lines (more.0 ∷ []));
      so_far = more.1;
      at_most = inr (ends number was s t a b c w x y (Ok true) (Err ReadFailed) k h refl);
    }

-- no line may have a greater number
pub at_limit : (number : ℕ) (was s : SessionState) (a b w x : Option (List ℕ)) → (number ≡ 2 → ⊥) → Came number was s a b w x → Talks was a b w x (Err ReadFailed)
at_limit number was s a b w x far k = elim k.at_most [
  | inl two ↦ absurd (far two)
  | inr talks ↦ talks
]
