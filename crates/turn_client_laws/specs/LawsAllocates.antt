-- Which families an ALLOCATE requests (RFC 8656, sections 7.1 and 7.4), over all calls.
use Rattle.std.specs.Prelude.{◌≡◌, ◌⊎◌, ◌≤◌, ℕ, true, List, [], ◌∷◌, length}
use Rattle.std.specs.List.{Contains}
use Rattle.turn_stun.specs.Message.{id_of}
use Rattle.turn_types.specs.declared.family.AddressFamily.{AddressFamily}
use Rattle.turn_types.specs.declared.family.AddressFamily.TheVariants.{IPV6}
use Rattle.turn_agent.specs.Agent.{is_outstanding}
use Rattle.turn_agent.specs.declared.transaction.Transaction.{Transaction}
use Rattle.turn_client_api.specs.Config.{Config}
use Rattle.turn_client_api.specs.State.{State}
use Rattle.turn_client_api.specs.declared.grant.Grant.TheVariants.{Allocation}
use Rattle.turn_client_api.specs.declared.grant.Listing.{Listing}
use Rattle.turn_client_api.specs.declared.grant.Relay.{Relay}
use Rattle.turn_client_api.specs.declared.grant.Purpose.TheVariants.{ForAllocation}
use Rattle.turn_client_api.specs.Requests.{first_allocate, request_for}
use Rattle.turn_client_laws.specs.Handled.{Input}
use Rattle.turn_client_laws.specs.LawsGranted.{IsEndedNow, IsGrantInput, WasActive}
use Rattle.turn_client_laws.specs.LawsHandled.{IsDoneBy}
use Rattle.turn_client_laws.specs.LawsOrder.{IsUngranted}
use Rattle.turn_client_api.specs.declared.call.Call.{Call}

-- ---- the bytes

-- The request is an ALLOCATE for these families, as a client of this configuration writes it: the first
-- one, or one that is signed, whatever realm and nonce it held then.
abbrev pub AsksForFamilies : Config → List AddressFamily → Transaction → Type 0
AsksForFamilies config families x =
    (t : State) × (t.config ≡ config) × (t.families ≡ families)
    × ((x.request ≡ first_allocate t x.id) ⊎ (x.request ≡ request_for t ForAllocation x.id))

-- a request with this ID is outstanding for the families that the client still requests
abbrev pub IsAskedForFamilies : ℕ → State → Type 0
IsAskedForFamilies id s = (x : Transaction) × Contains s.transactions x × (x.id ≡ id) × AsksForFamilies s.config s.families x

-- ---- a client

-- the request with this ID is listed for an ALLOCATE
abbrev pub IsAllocate : ℕ → State → Type 0
IsAllocate id s = Contains s.listed (record { id = id; purpose = ForAllocation })

-- until the allocation a client requests nothing else, and after it no allocation
abbrev pub AsksInTime : State → Type 0
AsksInTime s =
    (IsUngranted s.phase → (l : Listing) → Contains s.listed l → l.purpose ≡ ForAllocation)
    × ((IsUngranted s.phase → ⊥) → (id : ℕ) → IsAllocate id s → ⊥)

-- each ALLOCATE that is listed and outstanding is for the families that the client still requests
abbrev pub AsksItsFamilies : State → Type 0
AsksItsFamilies s = (id : ℕ) → IsAllocate id s → is_outstanding id s.transactions ≡ true → IsAskedForFamilies id s

-- until the allocation these are the configured ones, or IPv6 alone of two or more
abbrev pub HasConfiguredFamilies : State → Type 0
HasConfiguredFamilies s =
    IsUngranted s.phase
    → (s.families ≡ s.config.address_families) ⊎ ((s.families ≡ IPV6 ∷ []) × (2 ≤ length s.config.address_families))

abbrev pub AllocatesInOrder : State → Type 0
AllocatesInOrder s = AsksInTime s × AsksItsFamilies s × HasConfiguredFamilies s

-- ---- what is allocated

-- the input granted the allocation: a first one in answer to a request for its family
abbrev pub IsAllocationInput : Relay → Input → Type 0
IsAllocationInput a one =
    (input : IsGrantInput (Allocation a) one)
    × (input.grant.1.purpose ≡ ForAllocation → IsAskedForFamilies (id_of one.bytes) one.before)

-- each allocation after the call existed before, is deleted now, or was granted so
abbrev pub AllocatesAsAsked : Call → State → State → Type 0
AllocatesAsAsked call s t =
    (a : Relay) → Contains t.grants (Allocation a)
    → WasActive s (Allocation a) ⊎ IsEndedNow call s (Allocation a) ⊎ IsDoneBy (IsAllocationInput a) call s
