-- Which bytes with the header of a message are one.
use Rattle.turn_client_laws.proofs.Common.{◌≡◌, ◌∙◌, ℕ, ◌+◌, ◌==◌, Bool, true, false, not, List, length, drop, None, Some, is_none, is_some, ap, refl, sym, arith, Option, IfSome, fold, nat_lt, eq-eqb}
use Rattle.turn_client_laws.proofs.Common.{eqb-true, false_from_ne_true, list_any, IfNone}
use Rattle.turn_client_laws.proofs.Machine.{fault_of-none, guard_none, seen_of, Attribute, HoldsValue, IsWithin, attributes_from, attributes_of, fault_of, header_fault_of, is_stun_header, length_of}
use Rattle.turn_client_laws.proofs.Machine.{data_kind, has_unknown, is_unknown, last_in, later_of, is_message}
use Rattle.turn_stun.proofs.PlaceLemmas.{seen_of-values, seen_of-within}
use Rattle.turn_stun.specs.declared.error.ParseError.{ParseError}
use Rattle.turn_client_core.proofs.incoming.IndicationLemmas.{last-all}
use Rattle.turn_client_core.proofs.ResultLemmas.{none-is}
use Rattle.turn_client_core.proofs.incoming.SeenLemmas.{all-seen, unknown-seen}

not-none : {A : Type 0} (o : Option A) → is_some o ≡ true → is_none o ≡ false
not-none None h = cc
not-none (Some x) h = refl

pub header-long : (bytes : List ℕ) → header_fault_of bytes ≡ None → nat_lt (length bytes) 20 ≡ false
header-long bytes h = (guard_none (nat_lt (length bytes) 20) _ _ h).0

header-stun : (bytes : List ℕ) → header_fault_of bytes ≡ None → not (is_stun_header bytes) ≡ false
header-stun bytes h = (guard_none (not (is_stun_header bytes)) _ _ (guard_none (nat_lt (length bytes) 20) _ _ h).1).0

pub whole-message : (bytes : List ℕ) → header_fault_of bytes ≡ None → 20 + length_of bytes ≡ length bytes → is_some (attributes_from 0 20 (drop 20 bytes)) ≡ true → is_message bytes ≡ true
unfolding fault_of
whole-message bytes headed same walked =
    let long = header-long bytes headed in
    let stun = header-stun bytes headed in
    let whole : (20 + length_of bytes == length bytes) ≡ true = eq-eqb _ _ same in
    let all = not-none _ walked in
    rw (long, stun, whole, all) refl

pub cut-message : (bytes : List ℕ) → header_fault_of bytes ≡ None → 20 + length_of bytes ≡ length bytes → attributes_from 0 20 (drop 20 bytes) ≡ None → is_message bytes ≡ false
unfolding fault_of
cut-message bytes headed same cut =
    let long = header-long bytes headed in
    let stun = header-stun bytes headed in
    let whole : (20 + length_of bytes == length bytes) ≡ true = eq-eqb _ _ same in
    rw (long, stun, whole, cut) refl

other-message : (bytes : List ℕ) → header_fault_of bytes ≡ None → (20 + length_of bytes == length bytes) ≡ false → is_message bytes ≡ false
unfolding fault_of
other-message bytes headed other =
    let long = header-long bytes headed in
    let stun = header-stun bytes headed in
    rw (long, stun, other) refl

pub other-length : (bytes : List ℕ) (len : ℕ) → header_fault_of bytes ≡ None → len ≡ length_of bytes → (20 + len ≡ length bytes → ⊥) → is_message bytes ≡ false
other-length bytes len headed is other =
    other-message bytes headed (false_from_ne_true _ (λ e. other (omega (arith, is, eqb-true (20 + length_of bytes) (length bytes) e))))

-- ---- what the walk says of the message

pub cut-if : {A : Type 0} (bytes : List ℕ) (len : ℕ) (o : Option A) → header_fault_of bytes ≡ None → len ≡ length_of bytes → 20 + len ≡ length bytes
    → IfNone o (attributes_from 0 20 (drop 20 bytes) ≡ None) → IfNone o (is_message bytes ≡ false)
cut-if bytes len None headed is same cut = cut-message bytes headed (omega (arith, is, same)) cut
cut-if bytes len (Some x) headed is same cut = tt

pub whole-if : {A : Type 0} (bytes : List ℕ) (len : ℕ) (o : Option A) → header_fault_of bytes ≡ None → len ≡ length_of bytes → 20 + len ≡ length bytes
    → IfSome o (λ x. is_some (attributes_from 0 20 (drop 20 bytes)) ≡ true) → IfSome o (λ x. is_message bytes ≡ true)
whole-if bytes len None headed is same walked = tt
whole-if bytes len (Some x) headed is same walked = whole-message bytes headed (omega (arith, is, same)) walked

pub unheaded : (bytes : List ℕ) (fault : ParseError) → header_fault_of bytes ≡ Some fault → is_message bytes ≡ false
unfolding fault_of
unheaded bytes fault = by (nat_lt (length bytes) 20) (not (is_stun_header bytes)) refl refl
  where
    by : (a b : Bool) → nat_lt (length bytes) 20 ≡ a → not (is_stun_header bytes) ≡ b → header_fault_of bytes ≡ Some fault → is_message bytes ≡ false
    by true b e f = rw e (λ h. refl)
    by false true e f = rw (e, f) (λ h. refl)
    by false false e f = rw (e, f) (λ h. cc)

pub within-if : {A : Type 0} (bytes : List ℕ) (o : Option A) → IfSome o (λ x. is_message bytes ≡ true) → IfSome o (λ x. IfSome (last_in data_kind bytes) (IsWithin 20 (length bytes)))
within-if bytes None message = tt
within-if bytes (Some x) message =
    last-all (IsWithin 20 (length bytes)) data_kind None (seen_of bytes) (seen_of-within bytes (fault_of-none bytes (none-is (fault_of bytes) message))) tt

pub value-if : {A : Type 0} (bytes : List ℕ) (o : Option A) → IfSome o (λ x. is_message bytes ≡ true) → IfSome o (λ x. IfSome (last_in data_kind bytes) (HoldsValue bytes))
value-if bytes None message = tt
value-if bytes (Some x) message =
    last-all (HoldsValue bytes) data_kind None (seen_of bytes) (seen_of-values bytes (fault_of-none bytes (none-is (fault_of bytes) message))) tt

pub unknown-if : {A : Type 0} (bytes : List ℕ) (f : A → Bool) (o : Option A) → IfSome o (λ x. f x ≡ list_any is_unknown (attributes_of bytes)) → IfSome o (λ x. f x ≡ has_unknown bytes)
unknown-if bytes f None read = tt
unknown-if bytes f (Some x) read = read ∙ sym (unknown-seen (attributes_of bytes))

pub last-if : {A : Type 0} (bytes : List ℕ) (kind : ℕ) (f : A → Option Attribute) (o : Option A) → IfSome o (λ x. f x ≡ fold (later_of kind) None (attributes_of bytes))
    → IfSome o (λ x. has_unknown bytes ≡ false → f x ≡ last_in kind bytes)
last-if bytes kind f None read = tt
last-if bytes kind f (Some x) read = λ known. read ∙ ap (fold (later_of kind) None) (sym (all-seen (attributes_of bytes) (sym (unknown-seen (attributes_of bytes)) ∙ known)))
