-- A loop over all rows of a vector that changes each of them.
use Rattle.std.proofs.Common.{◌≡◌, ◌∙◌, ◌≤◌, ℕ, List, [], ◌++◌, append-nil, ap, arith, drop, length, map, sym, take, take_all}
use Rattle.std.proofs.lemmas.List.{drop_all, length-map}

pub all-mapped : {X : Type 0} (f : X → X) (items xs all : List X) (i n : ℕ) → xs ≡ items → length xs ≡ n → length xs ≤ i
    → all ≡ map f (take i xs) ++ drop i xs → take n (all ++ drop (length all) items) ≡ map f items
all-mapped {X = X} f items xs all i n same len past is =
    let whole : all ≡ map f items = is ∙ rw (take_all i xs past, drop_all i xs past, same) (append-nil (map f items)) in
    let long : length all ≡ length items = ap length whole ∙ length-map items f in
    let count : length items ≡ n = ap length (sym same) ∙ len in
    let rest : drop (length all) items ≡ [] = drop_all (length all) items (omega (arith, long)) in
    ap (λ (r : List X). take n (all ++ r)) rest ∙ ap (take n) (append-nil all) ∙ take_all n all (omega (arith, long, count)) ∙ whole
