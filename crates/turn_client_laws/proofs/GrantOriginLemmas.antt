-- What a success grants for the purposes of its request, list by list.
use Rattle.turn_client_laws.proofs.Common.{◌≡◌, ℕ, Bool, eqb, List, [], ◌∷◌, ◌++◌, map, filter, fold, ◌⊎◌, inl, inr, refl, sym, subst, SocketAddr}
use Rattle.turn_client_laws.proofs.Machine.{State, Grant, Channel, Progress, Purpose, Listing, purposes_of, Has, has-append, has-filter, filter-has, map-has}
use Rattle.turn_client_laws.specs.LawsGranted.{IsActiveGrant, IsSameGrant, IsGivenFor}
use Rattle.turn_client_laws.proofs.StandLemmas.{Covers, Left, covers-has, kept-same, kept-stood, kept-trans}

-- the message grants it for one of these purposes
pub record IsGivenOf (purposes : List Purpose) (message : List ℕ) (now : ℕ) (before : State) (g : Grant) : Type 0 where
  pub purpose : Purpose
  pub one : Has purpose purposes
  pub given : IsGivenFor purpose message now before g

-- it grants what is kept as this grant
abbrev pub IsGiven : List Purpose → List ℕ → ℕ → State → Grant → Type 0
IsGiven purposes message now before g = (was : Grant) × IsGivenOf purposes message now before was × IsSameGrant was g

-- All that is active in the second list was so in the first, with the same expiry, or was granted.
abbrev pub Gives : List Purpose → List ℕ → ℕ → State → List Grant → List Grant → Type 0
Gives purposes message now before grants later = (g : Grant) → Has g later → IsActiveGrant g → Covers grants g ⊎ IsGiven purposes message now before g

-- these requests were listed
abbrev pub Within : List Listing → List Listing → Type 0
Within listed later = (l : Listing) → Has l later → Has l listed

pub has-mapped : {X Y : Type 0} (f : X → Y) (y : Y) (xs : List X) → Has y (map f xs) → (x : X) × Has x xs × (y ≡ f x)
has-mapped f y [] h = absurd h
has-mapped f y (x ∷ xs) (inl e) = (x, inl refl, e)
has-mapped f y (x ∷ xs) (inr h) = let (z, there, e) = has-mapped f y xs h in (z, inr there, e)

-- a channel of this number is among these, for this peer
abbrev pub IsChannelIn : ℕ → SocketAddr → List Grant → Type 0
IsChannelIn number peer grants = (progress : Progress) × Has (Channel number peer progress) grants

-- all channels of the second list were in the first
abbrev pub ChannelsWithin : List Grant → List Grant → Type 0
ChannelsWithin grants later = (number : ℕ) (peer : SocketAddr) → IsChannelIn number peer later → IsChannelIn number peer grants

-- nothing is listed anew, and no channel is new
abbrev pub IsWithin : State → State → Type 0
IsWithin s t = Within s.listed t.listed × ChannelsWithin s.grants t.grants

pub channels-filter : (p : Grant → Bool) (grants : List Grant) → ChannelsWithin grants (filter p grants)
channels-filter p grants number peer (progress, there) = (progress, (has-filter p (Channel number peer progress) grants there).0)

-- a change of grants that makes no channel of another
abbrev pub KeepsChannels : (Grant → Grant) → Type 0
KeepsChannels f = (g : Grant) (number : ℕ) (peer : SocketAddr) (progress : Progress) → Channel number peer progress ≡ f g → (was : Progress) × (g ≡ Channel number peer was)

pub channels-map : (f : Grant → Grant) → KeepsChannels f → (grants : List Grant) → ChannelsWithin grants (map f grants)
channels-map f keeps grants number peer (progress, there) =
    let (g, here, e) = has-mapped f (Channel number peer progress) grants there in
    let (was, is) = keeps g number peer progress e in
    (was, subst (λ (x : Grant). Has x grants) is here)

pub channels-append : (grants later : List Grant) (one : Grant) → ChannelsWithin grants later
    → ((number : ℕ) (peer : SocketAddr) (progress : Progress) → Channel number peer progress ≡ one → IsChannelIn number peer grants) → ChannelsWithin grants (later ++ one ∷ [])
channels-append grants later one within known number peer (progress, there) = elim (has-append (Channel number peer progress) later (one ∷ []) there) [
  | inl here ↦ within number peer (progress, here)
  | inr (inl e) ↦ known number peer progress e
  | inr (inr none) ↦ absurd none
]

-- what a success leaves of a state: nothing is listed anew, and nothing is active but what was so or was
-- granted
abbrev pub Takes : List Purpose → List ℕ → ℕ → State → State → State → Type 0
Takes purposes message now before s t = IsWithin s t × Gives purposes message now before s.grants t.grants

pub within-filter : (p : Listing → Bool) (listed : List Listing) → Within listed (filter p listed)
within-filter p listed l there = (has-filter p l listed there).0

module _ (purposes : List Purpose) (message : List ℕ) (now : ℕ) (before : State) where
  -- what was granted is active
  pub gives-covers : (grants later : List Grant) (g : Grant) → Gives purposes message now before grants later → Covers later g → Covers grants g ⊎ IsGiven purposes message now before g
  gives-covers grants later g gives (is, there, kept) = elim (gives is there (kept-stood is g kept)) [
    | inl (was, earlier, k) ↦ inl (was, earlier, kept-trans was is g k kept)
    | inr (was, given, k) ↦ inr (was, given, kept-trans was is g k kept)
  ]

  pub gives-left : (grants later : List Grant) → Left grants later → Gives purposes message now before grants later
  gives-left grants later left g there stands = inl (left g there stands)

  pub gives-trans : (a b c : List Grant) → Gives purposes message now before a b → Gives purposes message now before b c → Gives purposes message now before a c
  gives-trans a b c first second g there stands = elim (second g there stands) [ inl covers ↦ gives-covers a b g first covers | inr given ↦ inr given ]

  pub gives-append : (grants more : List Grant) → ((g : Grant) → Has g more → IsActiveGrant g → IsGivenOf purposes message now before g) → Gives purposes message now before grants (grants ++ more)
  gives-append grants more gives g there stands = elim (has-append g grants more there) [
    | inl here ↦ inl (covers-has grants g here stands)
    | inr behind ↦ inr (g, gives g behind stands, kept-same g stands)
  ]

  pub gives-one : (grants : List Grant) (one : Grant) → (IsActiveGrant one → IsGivenOf purposes message now before one) → Gives purposes message now before grants (grants ++ one ∷ [])
  gives-one grants one gives = gives-append grants (one ∷ []) (λ g there stands. elim there [ inl e ↦ rw e (gives (rw (sym e) stands)) | inr none ↦ absurd none ])

  -- if the second is active, it is the first, or was granted
  abbrev Is : Grant → Grant → Type 0
  Is was is = IsActiveGrant is → IsSameGrant was is ⊎ IsGivenOf purposes message now before is

  pub gives-map : (f : Grant → Grant) (grants : List Grant) → ((g : Grant) → Has g grants → Is g (f g)) → Gives purposes message now before grants (map f grants)
  gives-map f grants keeps g there stands =
      let (x, earlier, e) = has-mapped f g grants there in
      let stood : IsActiveGrant (f x) = subst IsActiveGrant e stands in
      elim (keeps x earlier stood) [
        | inl kept ↦ inl (x, earlier, subst (IsSameGrant x) (sym e) kept)
        | inr given ↦ inr (f x, given, subst (IsSameGrant (f x)) (sym e) (kept-same (f x) stood))
      ]

  -- ---- states

  -- the success leaves it so
  abbrev Taken : State → State → Type 0
  Taken s t = Takes purposes message now before s t

  pub takes-same : (s : State) → Taken s s
  takes-same s = ((λ l there. there, λ number peer h. h), gives-left s.grants s.grants (covers-has s.grants))

  pub takes-trans : (s t u : State) → Taken s t → Taken t u → Taken s u
  takes-trans s t u first second = (
    (λ l there. first.0.0 l (second.0.0 l there), λ number peer h. first.0.1 number peer (second.0.1 number peer h)),
    gives-trans s.grants t.grants u.grants first.1 second.1,
  )

  abbrev Among : List Purpose → List Purpose → Type 0
  Among some all = (p : Purpose) → Has p some → Has p all

  -- what each purpose changes, wherever no more is listed than at first
  abbrev EachTaken : (State → Purpose → State) → List Purpose → State → Type 0
  EachTaken f all s = (t : State) (p : Purpose) → IsWithin s t → Has p all → Taken t (f t p)

  -- one purpose after the other, none of which lists anything anew
  pub takes-fold : (f : State → Purpose → State) (s : State) (all : List Purpose) → EachTaken f all s → (some : List Purpose) → Among some all → (t : State) → IsWithin s t → Taken t (fold f t some)
  takes-fold f s all step [] each t within = takes-same t
  takes-fold f s all step (p ∷ some) each t within =
      let one = step t p within (each p (inl refl)) in
      takes-trans t (f t p) (fold f (f t p) some) one
      (takes-fold f s all step some (λ q there. each q (inr there)) (f t p) (λ l there. within.0 l (one.0.0 l there), λ number peer h. within.1 number peer (one.0.1 number peer h)))

-- a purpose of what is listed still was one before
pub purposes-within : (id : ℕ) (s t : State) → Within s.listed t.listed → (p : Purpose) → Has p (purposes_of id t) → Has p (purposes_of id s)
purposes-within id s t within p there =
    let (l, still, e) = has-mapped (λ (l : Listing). l.purpose) p (filter (λ (l : Listing). eqb l.id id) t.listed) there in
    let (later, same) = has-filter (λ (l : Listing). eqb l.id id) l t.listed still in
    rw e (map-has (λ (l : Listing). l.purpose) l (filter (λ (l : Listing). eqb l.id id) s.listed) (filter-has (λ (l : Listing). eqb l.id id) l s.listed (within l later) same))
