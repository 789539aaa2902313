-- What is read from one grant after the other.
use Rattle.std.proofs.Common.{arith, ◌≡◌, ◌∙◌, ◌∷◌, ℕ, Bool, true, false, List, [], refl, sym}
use Rattle.std.specs.Prelude.{◌||◌, Option, Some, None, filter_map, fold, min}
use Rattle.std.specs.List.{list_any}
use Rattle.turn_client_api.specs.declared.grant.Grant.{Grant}
use Rattle.turn_client_api.specs.declared.grant.Listing.{Listing}
use Rattle.turn_client_grants.specs.Lists.{with_lists}
use Rattle.turn_client_grants.specs.Summary.{ReadsAlike, end_in, is_requested, is_reserved, is_unreported, kept_expiry, expiry_time_in}
use Rattle.turn_client_grants.specs.declared.totals.Totals.{Totals}

least-first : (f : Grant → Option ℕ) (n : ℕ) (g : Grant) (gs : List Grant) → fold min (fold min n (filter_map f (g ∷ []))) (filter_map f gs) ≡ fold min n (filter_map f (g ∷ gs))
least-first f n g gs = by (f g) refl
  where
    by : (x : Option ℕ) → f g ≡ x → fold min (fold min n (filter_map f (g ∷ []))) (filter_map f gs) ≡ fold min n (filter_map f (g ∷ gs))
    by None e = rw e refl
    by (Some x) e = rw e refl

least-on : (f : Grant → Option ℕ) (now was : ℕ) (g : Grant) (gs : List Grant) → now ≡ fold min was (filter_map f (g ∷ []))
    → fold min now (filter_map f gs) ≡ fold min was (filter_map f (g ∷ gs))
least-on f now was g gs is = rw is (least-first f was g gs)

any-on : (test : Grant → Bool) (now was : Bool) (g : Grant) (gs : List Grant) → (now || false) ≡ (was || list_any test (g ∷ []))
    → (now || list_any test gs) ≡ (was || list_any test (g ∷ gs))
any-on test now was g gs is = grind (arith, is)

-- one grant more was read
pub read-on : (now was start : Totals) (g : Grant) (rest all grants : List Grant) (listed : List Listing) → ReadsAlike now [] was (g ∷ []) grants listed
    → ReadsAlike was (g ∷ rest) start all grants listed → ReadsAlike now rest start all grants listed
read-on now was start g rest all grants listed one before = record {
  end = least-on end_in now.end was.end g rest one.end ∙ before.end;
  next_expiry = least-on (expiry_time_in listed) now.next_expiry was.next_expiry g rest one.next_expiry ∙ before.next_expiry;
  permissions = λ s. least-on (kept_expiry false (with_lists grants listed s)) now.permissions was.permissions g rest (one.permissions s) ∙ before.permissions s;
  channels = λ s. least-on (kept_expiry true (with_lists grants listed s)) now.channels was.channels g rest (one.channels s) ∙ before.channels s;
  unreported = any-on is_unreported now.has_unreported was.has_unreported g rest one.unreported ∙ before.unreported;
  requested = any-on is_requested now.has_requested was.has_requested g rest one.requested ∙ before.requested;
  reserved = any-on is_reserved now.has_reserved was.has_reserved g rest one.reserved ∙ before.reserved;
}

-- what is read in the end
pub or-false : {b other : Bool} → (b || false) ≡ other → b ≡ other
or-false {b = b} is = sym (plain b) ∙ is
  where
    plain : (b : Bool) → (b || false) ≡ b
    plain true = refl
    plain false = refl
