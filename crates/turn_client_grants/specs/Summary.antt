-- What is read from all grants at once.
use Rattle.std.specs.Prelude.{ℕ, ◌≡◌, ◌+◌, ◌-◌, ◌^◌, ◌&&◌, ◌||◌, if◌then◌else◌, min, not, Bool, true, false, List, filter_map, fold, slice_get, option_and_then}
use Rattle.std.specs.Prelude.{option_to_list, Option, Some, None}
use Rattle.std.specs.List.{list_any}
use Rattle.std.specs.Option.{option_map_or}
use Rattle.turn_client_api.specs.Due.{final_expiry, is_refreshable, refresh_time_of, time_ahead}
use Rattle.turn_client_api.specs.Effect.{channel_lifetime, permission_lifetime}
use Rattle.turn_client_api.specs.declared.grant.Relay.{Relay}
use Rattle.turn_client_api.specs.Grants.{as_allocation, has_request, is_for}
use Rattle.turn_client_api.specs.State.{State, max_time}
use Rattle.turn_client_api.specs.declared.grant.Grant.{Grant}
use Rattle.turn_client_api.specs.declared.grant.Grant.TheVariants.{Allocation, Permission, Channel, Offer, Connection}
use Rattle.turn_client_api.specs.declared.grant.Listing.{Listing}
use Rattle.turn_client_api.specs.declared.grant.Origin.{Origin}
use Rattle.turn_client_api.specs.declared.grant.Origin.TheVariants.{ServerRequest}
use Rattle.turn_client_api.specs.declared.grant.Progress.TheVariants.{Active, Reserved}
use Rattle.turn_client_grants.specs.Lists.{with_lists}
use Rattle.turn_client_grants.specs.declared.summary.Summary.{Summary}
use Rattle.turn_client_grants.specs.declared.totals.Totals.{Totals}

-- the expiry or the deadline of a grant other than an allocation
abbrev pub end_in : Grant → Option ℕ
end_in (Permission ip (Active lease)) = Some lease.expiry
end_in (Channel number peer (Active lease)) = Some lease.expiry
end_in (Connection c) = c.deadline
end_in _ = None

-- before this time the grant does not expire, nor does its reservation end or its deadline pass: an expired allocation
-- stays up to its final expiry while a request for it awaits its response
abbrev pub expiry_time_in : List Listing → Grant → Option ℕ
expiry_time_in listed (Allocation a) =
    Some (if a.is_expired && list_any (λ l. is_for l.purpose (Allocation a)) listed then final_expiry a else a.expiry)
expiry_time_in listed (Permission ip (Active lease)) = Some lease.expiry
expiry_time_in listed (Channel number peer (Active lease)) = Some lease.expiry
expiry_time_in listed (Channel number peer (Reserved until)) = Some (until + 1)
expiry_time_in listed (Connection c) = c.deadline
expiry_time_in listed _ = None

-- later than every time
abbrev pub never : ℕ
never = 2 ^ 63

-- ---- refreshes: what is kept of them does not depend on how long ahead they are

-- the expiry of an active channel, or of an active permission
abbrev pub expiry_by_kind : Bool → Grant → Option ℕ
expiry_by_kind true (Channel number peer (Active lease)) = Some lease.expiry
expiry_by_kind false (Permission ip (Active lease)) = Some lease.expiry
expiry_by_kind of_channels _ = None

-- its allocation is in use, and no request for it is pending
abbrev pub needs_refresh : Grant → State → Bool
needs_refresh g s = is_refreshable g s && not (has_request g s)

-- the expiry of an active channel, or of an active permission, that is to be refreshed
unfoldable pub kept_expiry : Bool → State → Grant → Option ℕ
kept_expiry of_channels s g = option_and_then (λ expiry. if needs_refresh g s then Some expiry else None) (expiry_by_kind of_channels g)

-- an allocation is to be refreshed
abbrev pub is_to_refresh : List Listing → Relay → Bool
is_to_refresh listed a = not a.is_expired && not (list_any (λ l. is_for l.purpose (Allocation a)) listed)

-- later than each time by more than a refresh is ahead
abbrev pub far : ℕ
far = 2 ^ 64 - 1

-- when the allocation is refreshed, if it is to be
abbrev pub relay_refresh : ℕ → Bool → Option Relay → Option ℕ
relay_refresh ahead keeps relay = option_and_then (λ a. if keeps then Some (refresh_time_of ahead a) else None) relay

-- when the first of all these is refreshed
abbrev pub refresh_in : ℕ → Summary → ℕ
refresh_in ahead summary =
    min (fold min (fold min max_time (option_to_list (relay_refresh ahead summary.keeps_first summary.first)))
    (option_to_list (relay_refresh ahead summary.keeps_second summary.second)))
    (min (summary.permissions - time_ahead ahead permission_lifetime) (summary.channels - time_ahead ahead channel_lifetime))

-- ---- offers and channels

-- an offer that was not reported
abbrev pub is_unreported : Grant → Bool
is_unreported (Offer offer) = not offer.is_reported
is_unreported _ = false

abbrev pub is_by_request : Origin → Bool
is_by_request (ServerRequest id) = true
is_by_request _ = false

-- an offer that the server made by a request
abbrev pub is_requested : Grant → Bool
is_requested (Offer offer) = is_by_request offer.origin
is_requested _ = false

-- a channel that is reserved
abbrev pub is_reserved : Grant → Bool
is_reserved (Channel number peer (Reserved until)) = true
is_reserved _ = false

-- what is read from the rest of some grants, after what was read before, is what is read from all of them
pub record ReadsAlike (now : Totals) (rest : List Grant) (start : Totals) (all grants : List Grant) (listed : List Listing) : Type 0 where
  pub end : fold min now.end (filter_map end_in rest) ≡ fold min start.end (filter_map end_in all)
  pub next_expiry : fold min now.next_expiry (filter_map (expiry_time_in listed) rest) ≡ fold min start.next_expiry (filter_map (expiry_time_in listed) all)
  pub permissions : (s : State) → fold min now.permissions (filter_map (kept_expiry false (with_lists grants listed s)) rest)
      ≡ fold min start.permissions (filter_map (kept_expiry false (with_lists grants listed s)) all)
  pub channels : (s : State) → fold min now.channels (filter_map (kept_expiry true (with_lists grants listed s)) rest)
      ≡ fold min start.channels (filter_map (kept_expiry true (with_lists grants listed s)) all)
  pub unreported : (now.has_unreported || list_any is_unreported rest) ≡ (start.has_unreported || list_any is_unreported all)
  pub requested : (now.has_requested || list_any is_requested rest) ≡ (start.has_requested || list_any is_requested all)
  pub reserved : (now.has_reserved || list_any is_reserved rest) ≡ (start.has_reserved || list_any is_reserved all)

-- it is the summary of these grants and these requests
pub record IsSummary (summary : Summary) (grants : List Grant) (listed : List Listing) : Type 0 where
  pub first : summary.first ≡ slice_get (filter_map as_allocation grants) 0
  pub second : summary.second ≡ slice_get (filter_map as_allocation grants) 1
  pub end : summary.end ≡ fold min max_time (filter_map end_in grants)
  pub next_expiry : summary.next_expiry ≡ fold min never (filter_map (expiry_time_in listed) grants)
  pub keeps_first : summary.keeps_first ≡ option_map_or (is_to_refresh listed) (slice_get (filter_map as_allocation grants) 0) false
  pub keeps_second : summary.keeps_second ≡ option_map_or (is_to_refresh listed) (slice_get (filter_map as_allocation grants) 1) false
  pub permissions : (s : State) → summary.permissions ≡ fold min far (filter_map (kept_expiry false (with_lists grants listed s)) grants)
  pub channels : (s : State) → summary.channels ≡ fold min far (filter_map (kept_expiry true (with_lists grants listed s)) grants)
  pub unreported : summary.has_unreported ≡ list_any is_unreported grants
  pub requested : summary.has_requested ≡ list_any is_requested grants
  pub reserved : summary.has_reserved ≡ list_any is_reserved grants
