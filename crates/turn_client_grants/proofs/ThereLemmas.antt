-- That a grant exists, and stays.
use Rattle.std.proofs.Common.{◌≡◌, ◌<◌, ◌∙◌, ℕ, Bool, true, false, List, [], ◌∷◌, ap, filter, fold, length, map, not, refl, arith}
use Rattle.std.specs.Prelude.{◌||◌, Option, Some, None, find, is_some, option_map}
use Rattle.std.specs.List.{list_any}
use Rattle.std.specs.declared.net.ip_addr.IpAddr.{IpAddr}
use Rattle.std.specs.declared.net.socket_addr.SocketAddr.{SocketAddr}
use Rattle.std.proofs.lemmas.List.Folds.{list_any-append}
use Rattle.turn_agent.specs.Agent.{same_address}
use Rattle.turn_stun.specs.declared.transport.TransportType.TheVariants.{Udp}
use Rattle.turn_auth.specs.declared.feature.Feature.TheVariants.{Disabled}
use Rattle.turn_client_api.specs.Effect.{lasting, lasting_if, permission_answered, permission_answered_for}
use Rattle.turn_client_api.specs.Grants.{channel_at, is_channel_of, is_permission_of, permission_state, permission_progress}
use Rattle.turn_client_api.specs.State.{State, initial}
use Rattle.turn_client_api.specs.declared.grant.DataConnection.{DataConnection}
use Rattle.turn_client_api.specs.declared.grant.Grant.{Grant}
use Rattle.turn_client_api.specs.declared.grant.Grant.TheVariants.{Permission}
use Rattle.turn_client_api.specs.declared.grant.Progress.{Progress}
use Rattle.turn_client_api.specs.declared.grant.Progress.TheVariants.{Pending, Active, Reserved}
use Rattle.turn_client_api.specs.declared.grant.Purpose.{Purpose}
use Rattle.turn_client_api.specs.declared.grant.Purpose.TheVariants.{ForPermission}
use Rattle.turn_client_grants.specs.Lists.{first_among}
use Rattle.turn_client_api.proofs.AddressLemmas.{same_address-true}
use Rattle.turn_client_grants.proofs.PushLemmas.{few-of}

-- some client, for statements about every client
pub someone : SocketAddr → State
someone address = initial Udp address address
    (record {
      allocation_transport = Udp;
      address_families = [];
      credentials = record { user = []; password = [] };
      supported_integrity = [];
      anonymous_username = Disabled;
      request_timers = None;
      max_stale_nonces = 1;
      request_cadence = 0;
      keepalive = None;
      refresh_ahead = 0;
      timed_from_send = false;
    })
    []

pub fewer-of : {X : Type 0} (p : X → Bool) (xs : List X) → list_any p xs ≡ true → length (filter (λ x. not (p x)) xs) < length xs
fewer-of p [] there = cc
fewer-of p (x ∷ xs) there = grind (arith, few-of (λ y. not (p y)) xs, fewer-of p xs)

pub absent : {X : Type 0} (found : Option X) → is_some found ≡ false → found ≡ None
absent found none = grind arith

-- ---- what was found exists

found-there : {X : Type 0} (reader : Grant → Option X) (which : Grant → Bool) → ((g : Grant) (x : X) → reader g ≡ Some x → which g ≡ true)
    → (grants : List Grant) (x : X) → first_among reader grants ≡ Some x → list_any which grants ≡ true
found-there reader which passes [] x found = cc
found-there reader which passes (g ∷ others) x found = grind (arith, passes g x, found-there reader which passes others x)

permission-passes : (ip : IpAddr) (g : Grant) (progress : Progress) → permission_progress ip g ≡ Some progress → is_permission_of ip g ≡ true
permission-passes ip g progress found = grind arith

pub permission-there : (ip : IpAddr) (grants : List Grant) (progress : Progress) → first_among (permission_progress ip) grants ≡ Some progress → list_any (is_permission_of ip) grants ≡ true
permission-there ip grants progress found = found-there (permission_progress ip) (is_permission_of ip) (permission-passes ip) grants progress found

channel-passes : (number : ℕ) (g : Grant) (found : SocketAddr × Progress) → channel_at number g ≡ Some found → is_channel_of number g ≡ true
channel-passes number g x found = grind arith

pub channel-there : (number : ℕ) (grants : List Grant) (peer : SocketAddr) → option_map (λ (p : SocketAddr × Progress). p.0) (first_among (channel_at number) grants) ≡ Some peer
    → list_any (is_channel_of number) grants ≡ true
channel-there number grants peer found = by (first_among (channel_at number) grants) refl
  where
    by : (f : Option (SocketAddr × Progress)) → first_among (channel_at number) grants ≡ f → list_any (is_channel_of number) grants ≡ true
    by None e = let no : None ≡ Some peer = rw e at found in cc
    by (Some x) e = found-there (channel_at number) (is_channel_of number) (channel-passes number) grants x e

-- a data connection that is found by a local address has that address
found-local : (local : SocketAddr) (connections : List DataConnection) (c : DataConnection) → find (λ (d : DataConnection). same_address d.local local) connections ≡ Some c → c.local ≡ local
found-local local [] c found = cc
found-local local (d ∷ others) c found = grind (arith, same_address-true d.local local, found-local local others c)

pub own-end : (local : SocketAddr) (connections : List DataConnection) (c : DataConnection) → find (λ (d : DataConnection). same_address d.local local) connections ≡ Some c
    → find (λ (d : DataConnection). same_address d.local c.local) connections ≡ Some c
own-end local connections c found = ap (λ l. find (λ (d : DataConnection). same_address d.local l) connections) (found-local local connections c found) ∙ found

-- ---- channels stay when permissions are answered

any-filtered : {X : Type 0} (p q : X → Bool) → ((x : X) → p x ≡ true → q x ≡ true) → (xs : List X) → list_any p (filter q xs) ≡ list_any p xs
any-filtered p q passes [] = refl
any-filtered p q passes (x ∷ xs) = grind (arith, passes x, any-filtered p q passes xs)

any-mapped : {X : Type 0} (p : X → Bool) (f : X → X) → ((x : X) → p (f x) ≡ p x) → (xs : List X) → list_any p (map f xs) ≡ list_any p xs
any-mapped p f same [] = refl
any-mapped p f same (x ∷ xs) = rw (same x, any-mapped p f same xs) refl

-- a test that only channels pass, and whatever their expiry
pub record OfChannels (p : Grant → Bool) : Type 0 where
  pub apart : (ip : IpAddr) (g : Grant) → p g ≡ true → not (is_permission_of ip g) ≡ true
  pub lasts : (expiry : ℕ) (g : Grant) → p (lasting expiry g) ≡ p g
  pub other : (ip : IpAddr) (progress : Progress) → p (Permission ip progress) ≡ false

renewed-channel : (p : Grant → Bool) → OfChannels p → (expiry : ℕ) (which : Grant → Bool) (g : Grant) → p (lasting_if which expiry g) ≡ p g
renewed-channel p of expiry which g = grind (arith, of.lasts expiry g)

channels-stay : (p : Grant → Bool) → OfChannels p → (ip : IpAddr) (is_granted : Bool) (now : ℕ) (s : State)
    → list_any p (permission_answered ip is_granted now s).grants ≡ list_any p s.grants
channels-stay p of ip is_granted now s = by (permission_state ip s) is_granted refl
  where
    left : list_any p (filter (λ g. not (is_permission_of ip g)) s.grants) ≡ list_any p s.grants
    left = any-filtered p (λ g. not (is_permission_of ip g)) (of.apart ip) s.grants

    none-more : (b : Bool) → (b || false) ≡ b
    none-more b = grind arith

    by : (found : Option Progress) (b : Bool) → permission_state ip s ≡ found → list_any p (permission_answered ip b now s).grants ≡ list_any p s.grants
    by None b e = rw e refl
    by (Some (Pending is_kept)) true e = rw (e, list_any-append p, left, of.other ip) (none-more (list_any p s.grants))
    by (Some (Pending is_kept)) false e = rw e left
    by (Some (Active until)) true e = rw e (any-mapped p _ (renewed-channel p of _ (is_permission_of ip)) s.grants)
    by (Some (Active until)) false e = rw e left
    by (Some (Reserved until)) b e = rw e refl

purpose-stays : (p : Grant → Bool) → OfChannels p → (is_granted : Bool) (now : ℕ) (s : State) (purpose : Purpose)
    → list_any p (permission_answered_for is_granted now s purpose).grants ≡ list_any p s.grants
purpose-stays p of is_granted now s (ForPermission ip) = channels-stay p of ip is_granted now s
purpose-stays p of is_granted now s purpose = refl

pub purposes-stay : (p : Grant → Bool) → OfChannels p → (is_granted : Bool) (now : ℕ) (s : State) (purposes : List Purpose)
    → list_any p (fold (permission_answered_for is_granted now) s purposes).grants ≡ list_any p s.grants
purposes-stay p of is_granted now s [] = refl
purposes-stay p of is_granted now s (purpose ∷ others) =
    purposes-stay p of is_granted now (permission_answered_for is_granted now s purpose) others ∙ purpose-stays p of is_granted now s purpose
