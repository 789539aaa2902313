-- Attributes that are read while they are checked.
use Rattle.turn_client_laws.proofs.Common.{◌≡◌, ℕ, ◌+◌, ◌<◌, ◌≤◌, ◌∙◌, ◌||◌, Bool, true, List, [], ◌∷◌, length, drop, fold, Option, Some, None, is_some, unwrap_or, ap, refl, sym, arith, list_any}
use Rattle.turn_client_laws.proofs.Common.{option_map}
use Rattle.turn_client_laws.proofs.Machine.{Attribute, attribute_at, attribute_size, attributes_from}
use Rattle.std.proofs.Math.Bool.{or_assoc}
use Rattle.turn_stun.proofs.WalkLemmas.{step_cut, step_whole}

folded : {A : Type 0} (f : A → Attribute → A) (before : A) (a : Attribute) (found : Option (List Attribute))
    → option_map (fold f before) (option_map (λ later. a ∷ later) found) ≡ option_map (fold f (f before a)) found
folded f before a None = refl
folded f before a (Some later) = refl

any-folded : (p : Attribute → Bool) (before : Bool) (a : Attribute) (found : Option (List Attribute))
    → option_map (λ l. before || list_any p l) (option_map (λ later. a ∷ later) found) ≡ option_map (λ l. (before || p a) || list_any p l) found
any-folded p before a None = refl
any-folded p before a (Some later) = ap Some (sym (or_assoc before (p a) (list_any p later)))

-- what is read of the attributes that are left, after the first one
pub fold-whole : {A : Type 0} (f : A → Attribute → A) (before : A) (at : ℕ) (bytes : List ℕ) → 0 < length bytes → attribute_size bytes ≤ length bytes
    → option_map (fold f before) (attributes_from 0 at bytes)
    ≡ option_map (fold f (f before (attribute_at at bytes))) (attributes_from 0 (at + attribute_size bytes) (drop (attribute_size bytes) bytes))
fold-whole f before at [] some h = absurd (omega arith)
fold-whole f before at (b ∷ bs) some h = ap (option_map (fold f before)) (step_whole at b bs h) ∙ folded f before _ _

pub any-whole : (p : Attribute → Bool) (before : Bool) (at : ℕ) (bytes : List ℕ) → 0 < length bytes → attribute_size bytes ≤ length bytes
    → option_map (λ l. before || list_any p l) (attributes_from 0 at bytes)
    ≡ option_map (λ l. (before || p (attribute_at at bytes)) || list_any p l) (attributes_from 0 (at + attribute_size bytes) (drop (attribute_size bytes) bytes))
any-whole p before at [] some h = absurd (omega arith)
any-whole p before at (b ∷ bs) some h = ap (option_map (λ l. before || list_any p l)) (step_whole at b bs h) ∙ any-folded p before _ _

pub cut-none : (at : ℕ) (bytes : List ℕ) → 0 < length bytes → length bytes < attribute_size bytes → attributes_from 0 at bytes ≡ None
cut-none at [] some h = absurd (omega arith)
cut-none at (b ∷ bs) some h = step_cut at b bs h

pub end-some : (at : ℕ) (bytes : List ℕ) → length bytes ≡ 0 → attributes_from 0 at bytes ≡ Some []
unfolding attributes_from
end-some at [] h = refl
end-some at (b ∷ bs) h = absurd (omega arith)

none-mapped : {A B : Type 0} (f : A → B) (o : Option A) → option_map f o ≡ None → o ≡ None
none-mapped f None h = refl
none-mapped f (Some x) h = cc

some-mapped : {A : Type 0} (f : List Attribute → A) (o : Option (List Attribute)) (y : A) → Some y ≡ option_map f o → y ≡ f (unwrap_or o [])
some-mapped f None y h = cc
some-mapped f (Some x) y h = cc

some-walked : {A : Type 0} (f : List Attribute → A) (o : Option (List Attribute)) (y : A) → Some y ≡ option_map f o → is_some o ≡ true
some-walked f None y h = cc
some-walked f (Some x) y h = refl

-- an attribute that runs past the end, wherever it lies, keeps all of the bytes from being attributes
pub cut-all : {A : Type 0} (f : List Attribute → A) (g : List Attribute → A) (all left : Option (List Attribute)) → option_map f left ≡ option_map g all → left ≡ None → all ≡ None
cut-all f g all left same cut = none-mapped g all (sym same ∙ ap (option_map f) cut)

-- at the end all was read
pub read-all : {A : Type 0} (f : List Attribute → A) (g : List Attribute → A) (all left : Option (List Attribute)) → option_map f left ≡ option_map g all → left ≡ Some [] → f [] ≡ g (unwrap_or all [])
read-all f g all left same ended = some-mapped g all (f []) (sym (ap (option_map f) ended) ∙ same)

pub walked-all : {A : Type 0} (f : List Attribute → A) (g : List Attribute → A) (all left : Option (List Attribute)) → option_map f left ≡ option_map g all → left ≡ Some [] → is_some all ≡ true
walked-all f g all left same ended = some-walked g all (f []) (sym (ap (option_map f) ended) ∙ same)

-- ---- one step of the loop

pub step-fold : {A : Type 0} (f : A → Attribute → A) (before after : A) (at next : ℕ) (bytes later : List ℕ) (a : Attribute) (r : Option A) → 0 < length bytes → attribute_size bytes ≤ length bytes
    → a ≡ attribute_at at bytes → after ≡ f before a → next ≡ attribute_size bytes → later ≡ drop next bytes
    → option_map (fold f before) (attributes_from 0 at bytes) ≡ r → option_map (fold f after) (attributes_from 0 (at + next) later) ≡ r
step-fold f before after at next bytes later a r some whole is read size rest h = rw (rest, size, read, is) (sym (fold-whole f before at bytes some whole) ∙ h)

pub step-any : (p : Attribute → Bool) (before after : Bool) (at next : ℕ) (bytes later : List ℕ) (a : Attribute) (r : Option Bool) → 0 < length bytes → attribute_size bytes ≤ length bytes
    → a ≡ attribute_at at bytes → after ≡ (before || p a) → next ≡ attribute_size bytes → later ≡ drop next bytes
    → option_map (λ l. before || list_any p l) (attributes_from 0 at bytes) ≡ r → option_map (λ l. after || list_any p l) (attributes_from 0 (at + next) later) ≡ r
step-any p before after at next bytes later a r some whole is read size rest h = rw (rest, size, read, is) (sym (any-whole p before at bytes some whole) ∙ h)
