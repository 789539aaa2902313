-- A grant that replaces others is found by keys of theirs.
use Rattle.std.specs.Prelude.{◌≡◌, ℕ, ◌==◌, Bool, true, ◌&&◌, List, [], ◌∷◌, Option, Some, refl}
use Rattle.std.specs.List.{list_any}
use Rattle.std.specs.declared.net.ip_addr.IpAddr.{IpAddr}
use Rattle.std.specs.declared.net.socket_addr.SocketAddr.{SocketAddr}
use Rattle.std.proofs.Common.{arith, subst}
use Rattle.std.proofs.lemmas.Bool.{eqb-true}
use Rattle.turn_client_api.proofs.AddressLemmas.{same_address-self, same_address-true, same_ip-true}
use Rattle.turn_client_api.specs.Grants.{channel_at, is_channel_of, is_permission_of}
use Rattle.turn_client_api.specs.declared.grant.Grant.{Grant}
use Rattle.turn_client_api.specs.declared.grant.Grant.TheVariants.{Permission, Channel}
use Rattle.turn_client_api.specs.declared.grant.Progress.{Progress}
use Rattle.turn_client_api.specs.declared.grant.Progress.TheVariants.{Pending, Active, Reserved}
use Rattle.turn_client_grants.specs.Keys.{is_open_to}
use Rattle.turn_client_grants.specs.Lists.{first_among}
use Rattle.turn_client_grants.specs.declared.key.Key.TheVariants as By
use Rattle.turn_client_grants.proofs.KeyLemmas.{IsKeyed}
use Rattle.turn_client_grants.proofs.ThereLemmas.{OfChannels}
use Rattle.turn_client_api.specs.declared.grant.Lease.{Lease}

any-self : (p : Grant → Bool) (rows : List Grant) → list_any p rows ≡ true → list_any (λ g. p g && p g) rows ≡ true
any-self p [] there = there
any-self p (g ∷ rows) there = grind (arith, any-self p rows)

any-first : (p q : Grant → Bool) (rows : List Grant) → list_any (λ g. p g && q g) rows ≡ true → list_any p rows ≡ true
any-first p q [] there = there
any-first p q (g ∷ rows) there = grind (arith, any-first p q rows)

pub keyed-permission : (ip : IpAddr) (progress : Progress) (rows : List Grant) → list_any (is_permission_of ip) rows ≡ true → IsKeyed (is_permission_of ip) (Permission ip progress) rows
keyed-permission ip progress rows there (By.Ip other) at =
    subst (λ (a : IpAddr). list_any (λ g. is_permission_of ip g && is_permission_of a g) rows ≡ true) (same_ip-true ip other at) (any-self (is_permission_of ip) rows there)
keyed-permission ip progress rows there k at = cc

keyed-number : (number other : ℕ) (rows : List Grant) → list_any (is_channel_of number) rows ≡ true → (number == other) ≡ true
    → list_any (λ g. is_channel_of number g && is_channel_of other g) rows ≡ true
keyed-number number other rows there at =
    subst (λ (n : ℕ). list_any (λ g. is_channel_of number g && is_channel_of n g) rows ≡ true) (eqb-true number other at) (any-self (is_channel_of number) rows there)

pub keyed-reserved : (number : ℕ) (peer : SocketAddr) (until : ℕ) (rows : List Grant) → list_any (is_channel_of number) rows ≡ true
    → IsKeyed (is_channel_of number) (Channel number peer (Reserved until)) rows
keyed-reserved number peer until rows there (By.Number other) at = keyed-number number other rows there at
keyed-reserved number peer until rows there k at = cc

-- the channel with this number, pending or active, to the peer
abbrev pub is_open_channel : ℕ → SocketAddr → Grant → Bool
is_open_channel number peer g = is_channel_of number g && is_open_to peer g

pub open-channel : (number : ℕ) (peer : SocketAddr) (rows : List Grant) → list_any (is_open_channel number peer) rows ≡ true → list_any (is_channel_of number) rows ≡ true
open-channel number peer rows there = any-first (is_channel_of number) (is_open_to peer) rows there

pub keyed-active : (number : ℕ) (peer : SocketAddr) (expiry : Lease) (rows : List Grant) → list_any (is_open_channel number peer) rows ≡ true
    → IsKeyed (is_channel_of number) (Channel number peer (Active expiry)) rows
keyed-active number peer expiry rows there (By.Number other) at = keyed-number number other rows (open-channel number peer rows there) at
keyed-active number peer expiry rows there (By.Peer other) at =
    subst (λ (a : SocketAddr). list_any (λ g. is_channel_of number g && is_open_to a g) rows ≡ true) (same_address-true peer other at) there
keyed-active number peer expiry rows there (By.Ip other) at = cc

-- the first that a reader finds exists
any-at : {X : Type 0} (reader : Grant → Option X) (which : Grant → Bool) (x : X) → ((g : Grant) → reader g ≡ Some x → which g ≡ true) → (rows : List Grant) → first_among reader rows ≡ Some x
    → list_any which rows ≡ true
any-at reader which x passes [] found = cc
any-at reader which x passes (g ∷ rows) found = grind (arith, passes g, any-at reader which x passes rows)

-- a pending channel that was found exists
pub pending-there : (number : ℕ) (peer : SocketAddr) (is_kept : Bool) (rows : List Grant) → first_among (channel_at number) rows ≡ Some (peer, Pending is_kept)
    → list_any (is_open_channel number peer) rows ≡ true
pending-there number peer is_kept rows found =
    any-at (channel_at number) (is_open_channel number peer) (peer, Pending is_kept) (λ g e. grind (arith, same_address-self)) rows found

-- such a channel stays when permissions are answered
pub open-of_channels : (number : ℕ) (peer : SocketAddr) → OfChannels (is_open_channel number peer)
open-of_channels number peer = record { apart = λ ip g e. grind arith; lasts = λ expiry g. grind arith; other = λ ip progress. refl }
