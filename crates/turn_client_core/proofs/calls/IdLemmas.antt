-- IDs that are tried one after the other.
use Rattle.turn_client_laws.proofs.Common.{◌≡◌, ℕ, zero, ◌+◌, ◌-◌, ◌%◌, ◌<◌, ◌≤◌, ◌^◌, Bool, false, not, suc, List, map, refl, sym, ap, arith, or_parts, list_any, range_with_len, find, Some}
use Rattle.turn_client_laws.proofs.Common.{if◌then◌else◌}
use Rattle.turn_client_laws.proofs.Machine.{is_outstanding, next_id, is_listed, is_of_request, counted_up, fresh_id, is_taken, max_ids_taken, State}
use Rattle.turn_client_laws.proofs.Laws.{counted-small, fresh-free}
use Rattle.std.specs.Prelude.{◌==◌, unwrap_or}

pub find-counted : (p : ℕ → Bool) (f : ℕ → ℕ) (a b : ℕ) → a < b → find p (map f (range_with_len a (b - a))) ≡ (if p (f a) then Some (f a) else find p (map f (range_with_len (a + 1) (b - (a + 1)))))
find-counted p f a b less =
    let e : b - a ≡ suc (b - (a + 1)) = omega arith in
    ap (λ (n : ℕ). find p (map f (range_with_len a n))) e

pub counted-on : (first n : ℕ) → ((first + n) % 2 ^ 96 + 1) % 2 ^ 96 ≡ (first + (n + 1)) % 2 ^ 96
counted-on first n = omega arith

-- so many IDs, fewer than 2^96, are counted up modulo 2^96
same-ids : (first place count : ℕ) → place + count ≤ 2 ^ 96 → map (counted_up first) (range_with_len place count) ≡ map (λ n. (first + n) % 2 ^ 96) (range_with_len place count)
same-ids first place zero within = refl
same-ids first place (suc count) within =
    let one = counted-small first place (omega (arith, within)) in
    let more = same-ids first (place + 1) count (omega (arith, within)) in
    rw (one, more) refl

-- the next ID is the first of these that is not taken
pub fresh-is : (s : State) → max_ids_taken s < 2 ^ 96
    → unwrap_or (find (λ id. not (is_taken id s)) (map (λ n. (next_id s.ids + n) % 2 ^ 96) (range_with_len 0 (max_ids_taken s + 1)))) (next_id s.ids) ≡ fresh_id s
fresh-is s few =
    ap (λ (ids : List ℕ). unwrap_or (find (λ id. not (is_taken id s)) ids) (next_id s.ids))
    (sym (same-ids (next_id s.ids) 0 (max_ids_taken s + 1) (omega (arith, few))))

pub fresh-unsent : (s : State) → is_outstanding (fresh_id s) s.transactions ≡ false
fresh-unsent s = (or_parts (is_outstanding (fresh_id s) s.transactions) (is_listed (fresh_id s) s) (fresh-free s)).0

pub fresh-unlisted : (s : State) → list_any (λ l. l.id == fresh_id s) s.listed ≡ false
fresh-unlisted s =
    let listed = (or_parts (is_outstanding (fresh_id s) s.transactions) (is_listed (fresh_id s) s) (fresh-free s)).1 in
    (or_parts (list_any (λ l. l.id == fresh_id s) s.listed) (list_any (is_of_request (fresh_id s)) s.grants) listed).0
