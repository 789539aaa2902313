-- What the inputs of a run cause.
use Rattle.turn_client_laws.proofs.Common.{◌≡◌, ◌⊎◌, List, [], ◌∷◌, ◌++◌, inl, inr, refl, sym, subst, ◌∙◌, Contains-append_left, Contains-append_right}
use Rattle.turn_client_laws.proofs.Machine.{State, state_after, state_after_all, Call, Recv, PollRecv, Has}
use Rattle.turn_client_laws.proofs.Laws.{Input, handled, processed, IsDoneBy, TakesInput, InputsLead, contains-has, has-contains, IsBrought, lead-brings, calls-do}
use Rattle.turn_client_runs.specs.Inputs.{IsAmong, handled_in}

-- ---- one of some inputs did it

pub among-left : (Did : Input → Type 0) (inputs more : List Input) → IsAmong Did inputs → IsAmong Did (inputs ++ more)
among-left Did inputs more (one, there, did) = (one, Contains-append_left inputs more one there, did)

pub among-right : (Did : Input → Type 0) (inputs more : List Input) → IsAmong Did more → IsAmong Did (inputs ++ more)
among-right Did inputs more (one, there, did) = (one, Contains-append_right inputs more one there, did)

pub among-first : (Did : Input → Type 0) (one : Input) (inputs : List Input) → Did one → IsAmong Did (one ∷ inputs)
among-first Did one inputs did = (one, has-contains one (one ∷ inputs) (inl refl), did)

pub among-later : (Did : Input → Type 0) (one : Input) (inputs : List Input) → IsAmong Did inputs → IsAmong Did (one ∷ inputs)
among-later Did one inputs among = among-right Did (one ∷ []) inputs among

pub has-among : (Did : Input → Type 0) (inputs : List Input) → (one : Input) × Has one inputs × Did one → IsAmong Did inputs
has-among Did inputs (one, there, did) = (one, has-contains one inputs there, did)

pub among-none : (Did : Input → Type 0) → IsAmong Did [] → ⊥
among-none Did (one, there, did) = contains-has one [] there

-- ---- the inputs of a call

-- a call processes inputs, or nothing
pub takes-or : (call : Call) → TakesInput call ⊎ ((s : State) → handled call s ≡ [])
takes-or (Recv packet now) = inl tt
takes-or (PollRecv now) = inl tt
takes-or _ = inr (λ s. refl)

pub none-front : {X : Type 0} (front later : List X) (x : X) → [] ≡ front ++ x ∷ later → ⊥
none-front [] later x e = cc
none-front (y ∷ front) later x e = cc

-- its inputs lead to the state after it, or it processes nothing
pub leads-or : (call : Call) (s : State) → InputsLead (handled call s) s (state_after call s) ⊎ (handled call s ≡ [])
leads-or call s = elim (takes-or call) [
  | inl takes ↦ elim (calls-do call s takes) [ inl lead ↦ inl lead | inr end ↦ inr end.nothing ]
  | inr none ↦ inr (none s)
]

pub handled-leads : (call : Call) (s : State) (front later : List Input) (one : Input) → handled call s ≡ front ++ one ∷ later → InputsLead (front ++ one ∷ later) s (state_after call s)
handled-leads call s front later one e = elim (leads-or call s) [
  | inl lead ↦ subst (λ (inputs : List Input). InputsLead inputs s (state_after call s)) e lead
  | inr nothing ↦ absurd (none-front front later one (sym nothing ∙ e))
]

-- the inputs before one of them, and those after it
pub leads-to : (front later : List Input) (one : Input) (s t : State) → InputsLead (front ++ one ∷ later) s t → InputsLead front s one.before
leads-to [] later one s t (first, lead) = first
leads-to (other ∷ front) later one s t (first, lead) = (first, leads-to front later one (processed other).1 t lead)

pub leads-from : (front later : List Input) (one : Input) (s t : State) → InputsLead (front ++ one ∷ later) s t → InputsLead later (processed one).1 t
leads-from [] later one s t (first, lead) = lead
leads-from (other ∷ front) later one s t (first, lead) = leads-from front later one (processed other).1 t lead

-- ---- the inputs of a run

-- what holds after a run did so before it, or an input of it caused it
module _ (P : State → Type 0) (Did : Input → Type 0) (each : (call : Call) (s : State) → P (state_after call s) → P s ⊎ IsDoneBy Did call s) where
  pub run-brings : (s : State) (calls : List Call) → P (state_after_all s calls) → P s ⊎ IsAmong Did (handled_in s calls)
  run-brings s [] h = inl h
  run-brings s (call ∷ calls) h =
      let more = handled_in (state_after call s) calls in
      elim (run-brings (state_after call s) calls h) [
        | inl there ↦ elim (each call s there) [ inl there ↦ inl there | inr did ↦ inr (among-left Did (handled call s) more did) ]
        | inr among ↦ inr (among-right Did (handled call s) more among)
      ]

-- ---- one input of a run

-- what holds when an input is processed did so before its call, or an earlier input caused it
module _ (P : State → Type 0) (Did : Input → Type 0) (k : IsBrought P Did) (each : (call : Call) (s : State) → P (state_after call s) → P s ⊎ IsDoneBy Did call s) where
  pub in_call : (call : Call) (s : State) (earlier later : List Input) (one : Input) → handled call s ≡ earlier ++ one ∷ later → P one.before → P s ⊎ IsAmong Did earlier
  in_call call s earlier later one e h =
      let lead = leads-to earlier later one s (state_after call s) (handled-leads call s earlier later one e) in
      elim (lead-brings P Did k earlier s one.before lead h) [ inl there ↦ inl there | inr did ↦ inr (has-among Did earlier did) ]
