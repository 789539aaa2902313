-- Grants that leave the totals of those that were read.
use Rattle.std.proofs.Common.{◌≡◌, ◌∷◌, arith, Bool, true, false, List, [], refl, ℕ}
use Rattle.std.specs.Prelude.{◌&&◌, filter_map, fold, min, nat_le}
use Rattle.std.proofs.lemmas.Bool.{and_parts}
use Rattle.turn_client_api.specs.State.{State}
use Rattle.turn_client_api.specs.declared.grant.Grant.{Grant}
use Rattle.turn_client_api.specs.declared.grant.Grant.TheVariants.{Permission, Channel}
use Rattle.turn_client_api.specs.declared.grant.Listing.{Listing}
use Rattle.turn_client_api.specs.declared.grant.Progress.TheVariants.{Active}
use Rattle.turn_client_grants.specs.Lists.{with_lists}
use Rattle.turn_client_grants.specs.Passed.{adds_nothing}
use Rattle.turn_client_grants.specs.Summary.{ReadsAlike, kept_expiry, needs_refresh}
use Rattle.turn_client_grants.specs.declared.totals.Totals.{Totals}

no-less : (n time : ℕ) → nat_le n time ≡ true → n ≡ min n time
no-less n time le = grind arith

-- whether it is to be refreshed or not
kept-no_less : (of_channels : Bool) (s : State) (g : Grant) (n time : ℕ) → (needs_refresh g s ≡ true → fold min n (filter_map (kept_expiry of_channels s) (g ∷ [])) ≡ min n time)
    → (needs_refresh g s ≡ false → fold min n (filter_map (kept_expiry of_channels s) (g ∷ [])) ≡ n) → nat_le n time ≡ true
    → n ≡ fold min n (filter_map (kept_expiry of_channels s) (g ∷ []))
kept-no_less of_channels s g n time used unused le = by (needs_refresh g s) refl
  where
    by : (b : Bool) → needs_refresh g s ≡ b → n ≡ fold min n (filter_map (kept_expiry of_channels s) (g ∷ []))
    by true e = rw (used e) (no-less n time le)
    by false e = rw (unused e) refl

pub left-by : (totals : Totals) (g : Grant) (grants : List Grant) (listed : List Listing) → adds_nothing totals g ≡ true → ReadsAlike totals [] totals (g ∷ []) grants listed
unfolding kept_expiry
left-by totals (Permission ip (Active lease)) grants listed is =
    let first = and_parts (nat_le totals.end lease.expiry) (nat_le totals.next_expiry lease.expiry && nat_le totals.permissions lease.expiry) is in
    let others = and_parts (nat_le totals.next_expiry lease.expiry) (nat_le totals.permissions lease.expiry) first.1 in
    record {
      end = no-less totals.end lease.expiry first.0;
      next_expiry = no-less totals.next_expiry lease.expiry others.0;
      permissions = λ s.
          kept-no_less false (with_lists grants listed s) (Permission ip (Active lease)) totals.permissions lease.expiry (λ e. rw e refl) (λ e. rw e refl) others.1;
      channels = λ s. refl;
      unreported = refl;
      requested = refl;
      reserved = refl;
    }
left-by totals (Channel number peer (Active lease)) grants listed is =
    let first = and_parts (nat_le totals.end lease.expiry) (nat_le totals.next_expiry lease.expiry && nat_le totals.channels lease.expiry) is in
    let others = and_parts (nat_le totals.next_expiry lease.expiry) (nat_le totals.channels lease.expiry) first.1 in
    record {
      end = no-less totals.end lease.expiry first.0;
      next_expiry = no-less totals.next_expiry lease.expiry others.0;
      permissions = λ s. refl;
      channels = λ s.
          kept-no_less true (with_lists grants listed s) (Channel number peer (Active lease)) totals.channels lease.expiry (λ e. rw e refl) (λ e. rw e refl) others.1;
      unreported = refl;
      requested = refl;
      reserved = refl;
    }
left-by totals g grants listed is = cc
