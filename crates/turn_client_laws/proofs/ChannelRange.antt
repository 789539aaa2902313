-- Channels have numbers in the range that a client may bind.
use Rattle.turn_client_laws.proofs.Common.{◌≡◌, ℕ, zero, suc, ◌+◌, ◌<◌, ◌≤◌, Bool, not, List, [], ◌∷◌, ◌++◌, map, filter, filter_map, Some, inl, inr, refl, sym, subst, ap, ◌∙◌, arith, range_with_len}
use Rattle.turn_client_laws.proofs.Common.{none-some, same_Some, SocketAddr, true}
use Rattle.turn_client_laws.proofs.Machine.{TransportType, Config, State, initial, Grant, Allocation, Permission, Channel, Connect, Offer, Connection, Pending, is_channel_of, new_allocation}
use Rattle.turn_client_laws.proofs.Machine.{taken_addresses, channel_numbers, is_offer_of, Leaves, Call, Has, all-has, filter_map-has, has-all, has-append, has-filter, has-filter_map}
use Rattle.turn_client_laws.specs.LawsNumbers.{number_of_channel}
use Rattle.turn_client_laws.specs.LawsStates.{HasNumbersInRange, IsInRange}
use Rattle.turn_client_laws.proofs.GrantOriginLemmas.{has-mapped}
use Rattle.turn_client_laws.proofs.TakenOfferLemmas.{was-first}
use Rattle.turn_client_laws.proofs.Edits.{outline}
use Rattle.turn_client_laws.proofs.GrantEdits.{KeepsGrants, grants-KeepsAllEdits}
use Rattle.turn_client_laws.proofs.EditsOfCalls.{leaves-walk}

has-range : (n place count : ℕ) → Has n (range_with_len place count) → (place ≤ n) × (n < place + count)
has-range n place zero none = absurd none
has-range n place (suc count) (inl e) = (omega (arith, e), omega (arith, e))
has-range n place (suc count) (inr later) = let (low, high) = has-range n (place + 1) count later in (omega (arith, low), omega (arith, high))

in-range : (ns : List ℕ) (place count : ℕ) → ns ≡ range_with_len place count → (n : ℕ) → Has n ns → (place ≤ n) × (n < place + count)
in-range ns place count e n there = has-range n place count (subst (λ (l : List ℕ). Has n l) e there)

numbers-are : channel_numbers ≡ range_with_len 0x4000 0x1000
unfolding channel_numbers
numbers-are = refl

has-IsInRange : (n : ℕ) → Has n channel_numbers → IsInRange n
has-IsInRange n there = let (low, high) = in-range channel_numbers 0x4000 0x1000 numbers-are n there in (low, omega (arith, high))

-- where it is a channel, its number is one of them
abbrev Fits : Grant → Type 0
Fits g = (n : ℕ) → number_of_channel g ≡ Some n → IsInRange n

abbrev AllFit : List Grant → Type 0
AllFit gs = (g : Grant) → Has g gs → Fits g

fit-append : (gs hs : List Grant) → AllFit gs → AllFit hs → AllFit (gs ++ hs)
fit-append gs hs old new g there = elim (has-append g gs hs there) [ inl here ↦ old g here | inr behind ↦ new g behind ]

fit-last : (g : Grant) (gs : List Grant) → Fits g → AllFit gs → AllFit (gs ++ g ∷ [])
fit-last g gs fits old = fit-append gs (g ∷ []) old (λ h one. elim one [ inl e ↦ subst Fits (sym e) fits | inr none ↦ absurd none ])

fit-filter : (p : Grant → Bool) (gs : List Grant) → AllFit gs → AllFit (filter p gs)
fit-filter p gs fits g there = fits g (has-filter p g gs there).0

outline-number : (g : Grant) → number_of_channel (outline g) ≡ number_of_channel g
outline-number (Allocation a) = refl
outline-number g = refl

pub numbers-outlined : (gs : List Grant) → filter_map number_of_channel (map outline gs) ≡ filter_map number_of_channel gs
numbers-outlined [] = refl
numbers-outlined (g ∷ gs) = rw (outline-number g, numbers-outlined gs) refl

pub numbers-alike : (gs hs : List Grant) → map outline hs ≡ map outline gs → filter_map number_of_channel hs ≡ filter_map number_of_channel gs
numbers-alike gs hs e = sym (numbers-outlined hs) ∙ (ap (filter_map number_of_channel) e ∙ numbers-outlined gs)

fit-alike : (gs hs : List Grant) → map outline hs ≡ map outline gs → AllFit gs → AllFit hs
fit-alike gs hs e fits g there n is =
    let same = subst (λ (l : List ℕ). Has n l) (numbers-alike gs hs e) (filter_map-has number_of_channel g n hs there is) in
    let (was, here, reads) = has-filter_map number_of_channel n gs same in
    fits was here n reads

none-fit : (addresses : List SocketAddr) (lifetime now : ℕ) → AllFit (map (new_allocation lifetime now) addresses)
none-fit addresses lifetime now g there n is =
    let (a, here, e) = has-mapped (new_allocation lifetime now) g addresses there in
    absurd (none-some n (subst (λ (x : Grant). number_of_channel x ≡ Some n) e is))

channel-fits : (number : ℕ) (peer : SocketAddr) (g : Grant) → number_of_channel g ≡ Some number → IsInRange number → Fits g
channel-fits number peer g reads within n is = subst IsInRange (same_Some number n (sym reads ∙ is)) within

AllFit-KeepsGrants : KeepsGrants AllFit
AllFit-KeepsGrants = record {
  filters = fit-filter;
  takes_offer = λ id peer gs fits g there. fits g (was-first (is_offer_of id peer) g gs there);
  reshapes = fit-alike;
  permission = λ ip progress gs none. fit-last (Permission ip progress) gs (λ n is. absurd (none-some n is));
  channel = λ number peer gs none within. fit-last (Channel number peer (Pending true)) gs (channel-fits number peer (Channel number peer (Pending true)) refl (has-IsInRange number within));
  connect = λ peer gs none. fit-last (Connect peer) gs (λ n is. absurd (none-some n is));
  connection = λ c gs none. fit-last (Connection c) gs (λ n is. absurd (none-some n is));
  offers = λ offer gs few. fit-last (Offer offer) gs (λ n is. absurd (none-some n is));
  rebinds = λ number peer was progress gs there fits.
      fit-last (Channel number peer progress) (filter (λ g. not (is_channel_of number g)) gs)
      (channel-fits number peer (Channel number peer progress) refl (fits (Channel number peer was) there number refl)) (fit-filter (λ g. not (is_channel_of number g)) gs fits);
  allocates = λ lifetime now families addresses gs fits. fit-append gs (map (new_allocation lifetime now) (taken_addresses families addresses)) fits
      (none-fit (taken_addresses families addresses) lifetime now);
}

range-fits : (s : State) → HasNumbersInRange s → AllFit s.grants
range-fits s h g there n is = has-all IsInRange n (filter_map number_of_channel s.grants) h (filter_map-has number_of_channel g n s.grants there is)

fits-range : (s : State) → AllFit s.grants → HasNumbersInRange s
fits-range s fits = all-has IsInRange (filter_map number_of_channel s.grants) (λ n there.
    let (g, here, is) = has-filter_map number_of_channel n s.grants there in
    fits g here n is)

pub initial-HasNumbersInRange : (transport : TransportType) (local remote : SocketAddr) (config : Config) (seed : List ℕ) → HasNumbersInRange (initial transport local remote config seed)
initial-HasNumbersInRange transport local remote config seed = all-has IsInRange [] (λ n none. absurd none)

pub leaves-HasNumbersInRange : (call : Call) (s t : State) → Leaves call s t → HasNumbersInRange s → HasNumbersInRange t
leaves-HasNumbersInRange call s t leaves h =
    fits-range t (leaves-walk (λ s t. AllFit s.grants → AllFit t.grants) (grants-KeepsAllEdits AllFit AllFit-KeepsGrants) (λ s streams h. h) call s t leaves (range-fits s h))
