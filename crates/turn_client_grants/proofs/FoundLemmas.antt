-- The grant that a key finds, as it changes in its place.
use Rattle.std.proofs.Common.{◌≡◌, arith, false, List, [], ◌∷◌, map, refl, subst, ℕ}
use Rattle.std.specs.Prelude.{Some}
use Rattle.std.specs.List.{list_any}
use Rattle.std.proofs.lemmas.Option.{same_Some}
use Rattle.turn_client_api.specs.declared.grant.Grant.{Grant}
use Rattle.turn_client_grants.specs.Found.{LeavesOthers, lookup_key}
use Rattle.turn_client_grants.specs.GrantFilter.{holds}
use Rattle.turn_client_grants.specs.Keys.{is_found_by}
use Rattle.turn_client_grants.specs.Table.{changed}
use Rattle.turn_client_grants.specs.declared.changes.Change.{Change}
use Rattle.turn_client_grants.specs.declared.changes.Change.TheVariants as C
use Rattle.turn_client_grants.specs.declared.grant_filter.GrantFilter.{GrantFilter}
use Rattle.turn_client_grants.specs.declared.grant_filter.GrantFilter.TheVariants as W
use Rattle.turn_client_grants.specs.declared.key.Key.{Key}
use Rattle.turn_client_grants.specs.declared.key.Key.TheVariants as By

-- ---- the key of a filter

pub key-finds : (which : GrantFilter) (key : Key) → lookup_key which ≡ Some key → is_found_by key ≡ holds which
unfolding holds
key-finds (W.PermissionOf ip) key is = subst (λ (k : Key). is_found_by k ≡ holds (W.PermissionOf ip)) (same_Some (By.Ip ip) key is) refl
key-finds (W.ChannelOf number) key is = subst (λ (k : Key). is_found_by k ≡ holds (W.ChannelOf number)) (same_Some (By.Number number) key is) refl
key-finds (W.OpenTo peer) key is = subst (λ (k : Key). is_found_by k ≡ holds (W.OpenTo peer)) (same_Some (By.Peer peer) key is) refl
key-finds which key is = cc

pub renewal-leaves : (which : GrantFilter) (key : Key) (expiry : ℕ) → lookup_key which ≡ Some key → LeavesOthers key (C.Renew which expiry)
unfolding changed
renewal-leaves which key expiry is g other = rw (← key-finds which key is, other) refl

-- ---- one grant changes

-- no grant changes where the key finds none
pub none-changed : (change : Change) (key : Key) → LeavesOthers key change → (rows : List Grant) → list_any (is_found_by key) rows ≡ false → rows ≡ map (changed change) rows
none-changed change key leaves [] none = refl
none-changed change key leaves (g ∷ rows) none = grind (arith, leaves g, none-changed change key leaves rows)
