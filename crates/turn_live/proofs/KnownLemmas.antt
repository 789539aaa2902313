-- Bytes that are read in sequence.
use Rattle.std.proofs.Common.{List, [], ◌++◌, ℕ, Option, Some, None, refl, sym, ap, ◌∙◌, append_assoc}
use Rattle.std.specs.Io.KnownBytes.{Consumes, Keeps}
use Rattle.turn_live.specs.Line.{EndsSo}
use Rattle.turn_live.specs.declared.line.LineEnd.{LineEnd}
use Rattle.turn_live.specs.declared.line.LineEnd.TheVariants.{Feed, Input}

pub Consumes-none : (a : Option (List ℕ)) → Consumes a a []
Consumes-none None = tt
Consumes-none (Some xs) = refl

pub Consumes-then : (a b c : Option (List ℕ)) (xs ys : List ℕ) → Consumes a b xs → Consumes b c ys → Consumes a c (xs ++ ys)
Consumes-then None b c xs ys h k = tt
Consumes-then (Some u) None c xs ys h k = absurd h
Consumes-then (Some u) (Some v) None xs ys h k = absurd k
Consumes-then (Some u) (Some v) (Some w) xs ys h k = h ∙ ap (λ (rest : List ℕ). xs ++ rest) k ∙ sym (append_assoc xs ys w)

pub Consumes-kept : (a b : Option (List ℕ)) → Keeps a b → Consumes a b []
Consumes-kept None b k = tt
Consumes-kept (Some u) None k = absurd k
Consumes-kept (Some u) (Some v) k = sym k

-- what ends a line ends it also after the bytes before that
pub ends_later : (a b c : Option (List ℕ)) (bytes : List ℕ) (end : LineEnd) → Consumes a b bytes → EndsSo b c end → EndsSo a c end
ends_later a b c bytes Feed h e = tt
ends_later None b c bytes Input h e = tt
ends_later (Some u) None c bytes Input h e = absurd h
ends_later (Some u) (Some v) c bytes Input h e = e
