-- No two channels have one number.
use Rattle.turn_client_laws.proofs.Common.{◌≡◌, ℕ, eqb, not, List, [], ◌∷◌, map, filter, refl, sym, subst, true, IsDistinct, SocketAddr}
use Rattle.turn_client_laws.proofs.Machine.{TransportType, Config, State, initial, Permission, Channel, Connect, Offer, Connection, Pending, is_channel_of, new_allocation, taken_addresses, Leaves}
use Rattle.turn_client_laws.proofs.Machine.{Call}
use Rattle.turn_client_laws.specs.LawsNumbers.{HasDistinctNumbers}
use Rattle.turn_client_laws.proofs.NumberLemmas.{AreApart, apart-channel, apart-filter, apart-others, none-filter, numbers, numbers-without_first}
use Rattle.turn_client_laws.proofs.ChannelRange.{numbers-alike}
use Rattle.turn_client_laws.proofs.GrantEdits.{KeepsGrants, grants-KeepsAllEdits}
use Rattle.turn_client_laws.proofs.EditsOfCalls.{leaves-walk}

pub initial-numbers : (transport : TransportType) (local remote : SocketAddr) (config : Config) (seed : List ℕ) → HasDistinctNumbers (initial transport local remote config seed)
unfolding IsDistinct
initial-numbers transport local remote config seed = tt

numbers-allocations : (lifetime now : ℕ) (addresses : List SocketAddr) → numbers (map (new_allocation lifetime now) addresses) ≡ []
numbers-allocations lifetime now [] = refl
numbers-allocations lifetime now (a ∷ others) = numbers-allocations lifetime now others

pub AreApart-KeepsGrants : KeepsGrants AreApart
AreApart-KeepsGrants = record {
  filters = apart-filter;
  takes_offer = λ id peer gs. subst (λ (ns : List ℕ). IsDistinct eqb ns) (sym (numbers-without_first id peer gs));
  reshapes = λ gs hs e. subst (λ (ns : List ℕ). IsDistinct eqb ns) (sym (numbers-alike gs hs e));
  permission = λ ip progress gs none. apart-others gs (Permission ip progress ∷ []) refl;
  channel = λ number peer gs none within. apart-channel number gs (Channel number peer (Pending true) ∷ []) none refl;
  connect = λ peer gs none. apart-others gs (Connect peer ∷ []) refl;
  connection = λ c gs none. apart-others gs (Connection c ∷ []) refl;
  offers = λ offer gs few. apart-others gs (Offer offer ∷ []) refl;
  rebinds = λ number peer was progress gs there h.
      apart-channel number (filter (λ g. not (is_channel_of number g)) gs) (Channel number peer progress ∷ []) (none-filter (is_channel_of number) gs) refl
      (apart-filter (λ g. not (is_channel_of number g)) gs h);
  allocates = λ lifetime now families addresses gs. apart-others gs (map (new_allocation lifetime now) (taken_addresses families addresses))
      (numbers-allocations lifetime now (taken_addresses families addresses));
}

pub leaves-apart : (call : Call) (s t : State) → Leaves call s t → HasDistinctNumbers s → HasDistinctNumbers t
leaves-apart = leaves-walk (λ s t. AreApart s.grants → AreApart t.grants) (grants-KeepsAllEdits AreApart AreApart-KeepsGrants) (λ s streams h. h)
