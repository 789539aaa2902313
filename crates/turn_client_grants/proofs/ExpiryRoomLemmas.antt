-- What expires as time passes, and the room that it leaves.
use Rattle.std.proofs.Common.{◌≡◌, ◌≤◌, ◌<◌, ◌+◌, ℕ, Bool, true, false, List, [], ◌∷◌, ◌++◌, filter, find, length, map, not, refl, reverse, inl, inr, arith}
use Rattle.std.specs.Prelude.{◌&&◌, Option, Some, filter_map, option_to_list, slice_get}
use Rattle.std.specs.List.{list_all, list_any}
use Rattle.std.specs.declared.net.socket_addr.SocketAddr.{SocketAddr}
use Rattle.turn_types.specs.declared.family.AddressFamily.{AddressFamily}
use Rattle.turn_types.specs.declared.family.AddressFamily.TheVariants.{IPV4, IPV6}
use Rattle.turn_client_api.specs.Grants.{as_allocation, as_connection, family_of, is_channel_of, is_of}
use Rattle.turn_client_api.specs.declared.grant.DataConnection.{DataConnection}
use Rattle.turn_client_api.specs.declared.grant.Grant.{Grant}
use Rattle.turn_client_api.specs.declared.grant.Grant.TheVariants.{Channel}
use Rattle.turn_client_api.specs.declared.grant.Progress.TheVariants.{Active}
use Rattle.turn_client_api.specs.declared.grant.Relay.{Relay}
use Rattle.turn_client_grants.specs.Failures.{close_in, close_room_for, event_room_for}
use Rattle.turn_client_grants.proofs.PushLemmas.{few-of}
use Rattle.turn_client_grants.proofs.RoomLemmas.{event_room_for-filtered}
use Rattle.turn_client_api.proofs.HasLemmas.{Has}
use Rattle.std.proofs.lemmas.Bool.{and_parts, eq-eqb}
use Rattle.turn_client_api.specs.Grants.{without_grants}
use Rattle.turn_client_api.specs.Poll.{allocation_expires, is_expired_channel, expired_allocation, expired_in, last_channel_expired}
use Rattle.turn_client_api.specs.State.{State}
use Rattle.turn_client_api.specs.declared.grant.Purpose.{Purpose}
use Rattle.turn_client_grants.specs.Expiry.{channel_ended}
use Rattle.turn_client_grants.specs.Table.{is_allocation_of, is_numbered}
use Rattle.turn_client_grants.specs.GrantFilter.{holds}
use Rattle.turn_client_grants.specs.declared.grant_filter.GrantFilter.{GrantFilter}
use Rattle.turn_client_api.specs.declared.grant.Lease.{Lease}

-- ---- closes

pub closes-are : (which : GrantFilter) (grants : List Grant) → filter_map (close_in which) grants ≡ map (λ (c : DataConnection). c.local) (filter_map as_connection (filter (holds which) grants))
unfolding close_in
closes-are which [] = refl
closes-are which (g ∷ others) = grind (arith, closes-are which others)

pub closes-left : (which : GrantFilter) (grants : List Grant) → length (filter_map (close_in which) grants) + close_room_for (filter (λ g. not (holds which g)) grants) ≤ close_room_for grants
unfolding close_in
closes-left which [] = omega arith
closes-left which (g ∷ others) = grind (arith, closes-left which others)

-- ---- the allocations

count-of : (grants : List Grant) → length (filter_map as_allocation grants) ≡ length (filter (is_allocation_of IPV4) grants) + length (filter (is_allocation_of IPV6) grants)
count-of [] = refl
count-of (g ∷ others) = grind (arith, count-of others)

two-of : (xs : List Relay) → length xs ≤ 2 → xs ≡ option_to_list (slice_get xs 0) ++ option_to_list (slice_get xs 1)
two-of [] few = refl
two-of (a ∷ []) few = refl
two-of (a ∷ b ∷ []) few = refl
two-of (a ∷ b ∷ c ∷ others) few = let no : ⊥ = omega (arith, few) in absurd no

-- at most two allocations, the one of each family
pub both-allocations : (grants : List Grant) → ((family : AddressFamily) → length (filter (is_allocation_of family) grants) ≤ 1)
    → filter_map as_allocation grants ≡ option_to_list (slice_get (filter_map as_allocation grants) 0) ++ option_to_list (slice_get (filter_map as_allocation grants) 1)
both-allocations grants few = two-of (filter_map as_allocation grants) (omega (arith, count-of grants, few IPV4, few IPV6))

-- ---- whether an allocation is removed

pub goes-away : (given : Option ℕ) (purposes : List Purpose) (now : ℕ) (s : State) (a : Relay) → allocation_expires purposes now s a ≡ true
    → without_grants (is_of (family_of a.relayed)) s ≡ expired_allocation given purposes now s a
goes-away given purposes now s a e = rw e refl

pub goes-not : (given : Option ℕ) (purposes : List Purpose) (now : ℕ) (s : State) (a : Relay) → allocation_expires purposes now s a ≡ false
    → expired_in (family_of a.relayed) given purposes now s ≡ expired_allocation given purposes now s a
goes-not given purposes now s a e = rw e refl

-- ---- a channel that exists

pub ended-is : (family : AddressFamily) (now : ℕ) (s : State) (number : ℕ) (peer : SocketAddr) (expiry : Lease)
    → find (λ g. is_of family g && is_expired_channel now g) (reverse s.grants) ≡ Some (Channel number peer (Active expiry))
    → channel_ended number peer expiry.expiry s ≡ last_channel_expired family now s
ended-is family now s number peer expiry found = rw found refl

has-fewer : {X : Type 0} (p : X → Bool) (g : X) (xs : List X) → Has g xs → p g ≡ true → length (filter (λ x. not (p x)) xs) < length xs
has-fewer p g [] has passes = absurd has
has-fewer p g (x ∷ xs) (inl same) passes = rw (← same, passes) (omega (arith, few-of (λ y. not (p y)) xs))
has-fewer p g (x ∷ xs) (inr later) passes = grind (arith, has-fewer p g xs later passes)

has-any : {X : Type 0} (p : X → Bool) (g : X) (xs : List X) → Has g xs → p g ≡ true → list_any p xs ≡ true
has-any p g [] has passes = absurd has
has-any p g (x ∷ xs) (inl same) passes = rw (← same, passes) refl
has-any p g (x ∷ xs) (inr later) passes = grind (arith, has-any p g xs later passes)

pub ended-there : (number : ℕ) (peer : SocketAddr) (expiry : Lease) (grants : List Grant) → Has (Channel number peer (Active expiry)) grants → list_any (is_channel_of number) grants ≡ true
ended-there number peer expiry grants has = has-any (is_channel_of number) (Channel number peer (Active expiry)) grants has (eq-eqb number number refl)

pub ended-fewer : (number : ℕ) (peer : SocketAddr) (expiry : Lease) (grants : List Grant) → Has (Channel number peer (Active expiry)) grants
    → length (filter (λ g. not (is_channel_of number g)) grants) < length grants
ended-fewer number peer expiry grants has = has-fewer (is_channel_of number) (Channel number peer (Active expiry)) grants has (eq-eqb number number refl)

pub ended-aside : (number : ℕ) (peer : SocketAddr) (expiry : Lease) (grants : List Grant) → Has (Channel number peer (Active expiry)) grants
    → event_room_for (filter (λ g. not (is_channel_of number g)) grants) + 1 ≤ event_room_for grants
ended-aside number peer expiry [] has = absurd has
ended-aside number peer expiry (g ∷ others) (inl same) =
    rw (← same, eq-eqb number number refl) (omega (arith, event_room_for-filtered (λ h. not (is_channel_of number h)) others))
ended-aside number peer expiry (g ∷ others) (inr later) = grind (arith, ended-aside number peer expiry others later)

pub ended-numbered : (g : Grant) (grants : List Grant) → Has g grants → list_all is_numbered grants ≡ true → is_numbered g ≡ true
ended-numbered g [] has all = absurd has
ended-numbered g (h ∷ others) (inl same) all = rw same (and_parts (is_numbered h) (list_all is_numbered others) all).0
ended-numbered g (h ∷ others) (inr later) all = ended-numbered g others later (and_parts (is_numbered h) (list_all is_numbered others) all).1
