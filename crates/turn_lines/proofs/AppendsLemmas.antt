-- Bytes that are written in sequence.
use Rattle.std.proofs.Common.{ℕ, ◌+◌, List, [], ◌++◌, Option, Some, None, length, take, drop, refl, sym, ap, subst, ◌∙◌, append_assoc, arith}
use Rattle.std.proofs.lemmas.List.{append-nil, take_all}
use Rattle.std.proofs.Math.Seq.{take-add, take-append-add}
use Rattle.std.specs.Io.KnownBytes.{Appends, Keeps}

pub Appends-none : (a : Option (List ℕ)) → Appends a a []
Appends-none None = tt
Appends-none (Some xs) = sym (append-nil xs)

pub Appends-then : (a b c : Option (List ℕ)) (xs ys : List ℕ) → Appends a b xs → Appends b c ys → Appends a c (xs ++ ys)
Appends-then None b c xs ys h k = tt
Appends-then (Some u) None c xs ys h k = absurd h
Appends-then (Some u) (Some v) None xs ys h k = absurd k
Appends-then (Some u) (Some v) (Some w) xs ys h k = k ∙ ap (λ (front : List ℕ). front ++ ys) h ∙ append_assoc u xs ys

-- a text and a prefix of the next one, as a prefix of both
pub Appends-cut : (a b c : Option (List ℕ)) (xs ys : List ℕ) (count : ℕ) → Appends a b xs → Appends b c (take count ys) → Appends a c (take (length xs + count) (xs ++ ys))
Appends-cut a b c xs ys count h k = subst (Appends a c) (sym (take-append-add xs ys count)) (Appends-then a b c xs (take count ys) h k)

-- more of a text, after the part that was written
pub Appends-more : (a b c : Option (List ℕ)) (text : List ℕ) (at n : ℕ) → Appends a b (take at text) → Appends b c (take n (drop at text)) → Appends a c (take (at + n) text)
Appends-more a b c text at n h k = subst (Appends a c) (sym (take-add at n text)) (Appends-then a b c (take at text) (take n (drop at text)) h k)

pub Appends-kept : (a b c : Option (List ℕ)) (xs : List ℕ) → Appends a b xs → Keeps b c → Appends a c xs
Appends-kept None b c xs h k = tt
Appends-kept (Some u) None c xs h k = absurd h
Appends-kept (Some u) (Some v) None xs h k = absurd k
Appends-kept (Some u) (Some v) (Some w) xs h k = k ∙ h

-- the whole text was written, and then nothing
pub flush_failed : (a b c : Option (List ℕ)) (text : List ℕ) → Appends a b text → Keeps b c → (count : ℕ) × Appends a c (take count text)
flush_failed a b c text h k = (length text, subst (Appends a c) (sym (take_all (length text) text (omega arith))) (Appends-kept a b c text h k))
