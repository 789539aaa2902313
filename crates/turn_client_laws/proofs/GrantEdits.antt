-- What calls keep of the list of grants alone, by what is kept as the list is edited.
use Rattle.turn_client_laws.proofs.Common.{◌≡◌, ℕ, Bool, true, false, not, List, [], ◌∷◌, ◌++◌, map, filter, length, ◌<◌, list_any, IpAddr, SocketAddr}
use Rattle.turn_client_laws.proofs.Machine.{AddressFamily, State, Grant, Permission, Channel, Connect, Offer, Connection, DataConnection, DataOffer, Progress, Pending, Active, Reserved, Origin}
use Rattle.turn_client_laws.proofs.Machine.{OwnConnect, ServerIndication, is_channel_of, is_connect_to, is_connection_from, is_of, is_permission_of, without_grants, new_allocation, relayed_in}
use Rattle.turn_client_laws.proofs.Machine.{taken_addresses, channel_numbers, is_offer_of, offer_taken, without_first, is_indicated, max_indicated, Has}
use Rattle.turn_client_laws.proofs.NumberLemmas.{none-filter}
use Rattle.turn_client_laws.proofs.DoubleLemmas.{none-without_first}
use Rattle.turn_client_laws.proofs.Edits.{KeepsAllEdits, KeepsEdits, aged-outlines, outline, rest-ignored}

pub record KeepsGrants (P : List Grant → Type 0) : Type 0 where
  -- grants are removed
  pub filters : (p : Grant → Bool) (gs : List Grant) → P gs → P (filter p gs)
  pub takes_offer : (id : ℕ) (peer : SocketAddr) (gs : List Grant) → P gs → P (without_first (is_offer_of id peer) gs)
  -- grants are extended, and reported
  pub reshapes : (gs hs : List Grant) → map outline hs ≡ map outline gs → P gs → P hs
  -- one is added of a kind that does not exist
  pub permission : (ip : IpAddr) (progress : Progress) (gs : List Grant) → list_any (is_permission_of ip) gs ≡ false → P gs → P (gs ++ Permission ip progress ∷ [])
  pub channel : (number : ℕ) (peer : SocketAddr) (gs : List Grant) → list_any (is_channel_of number) gs ≡ false → Has number channel_numbers → P gs → P (gs ++ Channel number peer (Pending true) ∷ [])
  pub connect : (peer : SocketAddr) (gs : List Grant) → list_any (is_connect_to peer) gs ≡ false → P gs → P (gs ++ Connect peer ∷ [])
  pub connection : (c : DataConnection) (gs : List Grant) → list_any (is_connection_from c.local) gs ≡ false → P gs → P (gs ++ Connection c ∷ [])
  pub offers : (offer : DataOffer) (gs : List Grant) → (offer.origin ≡ ServerIndication → length (filter is_indicated gs) < max_indicated) → P gs → P (gs ++ Offer offer ∷ [])
  -- a channel takes the place of those of its number
  pub rebinds : (number : ℕ) (peer : SocketAddr) (was progress : Progress) (gs : List Grant) → Has (Channel number peer was) gs → P gs
      → P (filter (λ g. not (is_channel_of number g)) gs ++ Channel number peer progress ∷ [])
  -- the server allocates
  pub allocates : (lifetime now : ℕ) (families : List AddressFamily) (addresses : List SocketAddr) (gs : List Grant) → P gs
      → P (gs ++ map (new_allocation lifetime now) (taken_addresses families addresses))

module _ (P : List Grant → Type 0) (k : KeepsGrants P) where
  abbrev Stays : State → State → Type 0
  Stays s t = P s.grants → P t.grants

  grants-KeepsEdits : KeepsEdits Stays
  grants-KeepsEdits = record {
    rest = rest-ignored Stays (λ s t h. h) (λ s t u first second h. second (first h));
    asks = λ id text purposes now s begun askable spelled h. h;
    unlists = λ which s h. h;
    removes = λ which s spares h. k.filters (λ g. not (which g)) s.grants h;
    removes_family = λ family s h. k.filters (λ g. not (is_of family g)) s.grants h;
    takes_offer = λ id peer s h. k.takes_offer id peer s.grants h;
    ages = λ grants s e h. k.reshapes s.grants grants (aged-outlines grants s.grants e) h;
    permission = λ ip s phase room none h. k.permission ip (Pending true) s.grants none h;
    channel = λ number peer s phase room none within h. k.channel number peer s.grants none within h;
    connect = λ peer s phase room none h. k.connect peer s.grants none h;
    connection = λ id c origin s phase offer none waits h.
        k.connection c (offer_taken id c.peer s).grants (none-without_first (is_connection_from c.local) (is_offer_of id c.peer) s.grants none) (k.takes_offer id c.peer s.grants h);
    reserves = λ number peer was until s there h. k.rebinds number peer was (Reserved until) s.grants there h;
  }

  -- the offer that is added
  abbrev offer : ℕ → SocketAddr → Origin → DataOffer
  offer connection_id peer origin = record { connection_id = connection_id; peer = peer; is_reported = false; origin = origin }

  -- one of the client's own is none by an indication
  own : OwnConnect ≡ ServerIndication → ⊥
  own e = cc

  pub grants-KeepsAllEdits : KeepsAllEdits Stays
  grants-KeepsAllEdits = record {
    edits = grants-KeepsEdits;
    reshapes = λ grants s e h. k.reshapes s.grants grants e h;
    rebinds = λ number peer was progress s there h. k.rebinds number peer was progress s.grants there h;
    holds = λ message d s e h. h;
    counts = λ s held few h. h;
    resets = λ accepted s h. h;
    empties = λ s h. k.filters (λ g. not true) s.grants h;
    allocates = λ message lifetime now s phase none h. k.allocates lifetime now s.families (relayed_in message) s.grants h;
    permits = λ ip is_kept expiry s is h.
        k.permission ip (Active expiry) (without_grants (is_permission_of ip) s).grants (none-filter (is_permission_of ip) s.grants) (k.filters (λ g. not (is_permission_of ip g)) s.grants h);
    connects = λ id connection_id peer s t since stay granted listed h.
        k.offers (offer connection_id peer OwnConnect) (without_grants (is_connect_to peer) t).grants (λ e. absurd (own e)) (k.filters (λ g. not (is_connect_to peer g)) t.grants (since h));
    offers = λ id peer origin s room few h. k.offers (offer id peer origin) s.grants few h;
  }
