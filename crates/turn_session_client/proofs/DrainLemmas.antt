-- The events of the client are noted one by one.
use Rattle.std.proofs.Common.{◌≡◌, ◌∙◌, ℕ, zero, suc, ◌<◌, List, [], ◌∷◌, length, Some, None, refl, sym, ap, inl, inr, arith}
use Rattle.std.specs.Prelude.{◌⊎◌, OnErr, Result, Ok, Err, Option}
use Rattle.turn_client_api.specs.declared.event.TurnEvent.{TurnEvent}
use Rattle.turn_session_client.specs.Drain.{DrainsSome, drained, next_event, next_noted, some_noted, unnoted}
use Rattle.turn_session_client.specs.Notes.{noted}
use Rattle.turn_session_client.specs.NotedState.{NotedState}

-- a session with these events, of which one may be noted next
abbrev session_of : NotedState → List TurnEvent → Option TurnEvent → NotedState
session_of s events taken = record s { client = record s.client { events = events }; taken = taken }

-- ---- the next event

next-unnoted_of : (s : NotedState) (events : List TurnEvent) (taken : Option TurnEvent)
    → unnoted (next_event (session_of s events taken)).1 ≡ unnoted (session_of s events taken)
next-unnoted_of s events (Some event) = refl
next-unnoted_of s [] None = refl
next-unnoted_of s (event ∷ later) None = refl

pub next-unnoted : (s : NotedState) → unnoted (next_event s).1 ≡ unnoted s
next-unnoted s = next-unnoted_of s s.client.events s.taken

next-drained_of : (now : ℕ) (s : NotedState) (events : List TurnEvent) (taken : Option TurnEvent)
    → drained now (next_event (session_of s events taken)).1 ≡ drained now (session_of s events taken)
next-drained_of now s events (Some event) = refl
next-drained_of now s [] None = refl
next-drained_of now s (event ∷ later) None = refl

pub next-drained : (now : ℕ) (s : NotedState) → drained now (next_event s).1 ≡ drained now s
next-drained now s = next-drained_of now s s.client.events s.taken

next-taken_of : (s : NotedState) (events : List TurnEvent) (taken : Option TurnEvent)
    → (next_event (session_of s events taken)).1.taken ≡ (next_event (session_of s events taken)).0
next-taken_of s events (Some event) = refl
next-taken_of s events None = refl

pub next-taken : (s : NotedState) → (next_event s).1.taken ≡ (next_event s).0
next-taken s = next-taken_of s s.client.events s.taken

-- ---- an event is noted

pub noted-drained : (now : ℕ) (s : NotedState) (event : TurnEvent) → s.taken ≡ Some event
    → drained now (record s { notes = noted event now s.notes; taken = None }) ≡ drained now s
noted-drained now s event taken = sym (ap (λ (t : Option TurnEvent). drained now (record s { taken = t })) taken)

pub noted-fewer : (now : ℕ) (s : NotedState) (event : TurnEvent) → s.taken ≡ Some event
    → length (unnoted (record s { notes = noted event now s.notes; taken = None })) < length (unnoted s)
noted-fewer now s event taken =
    let all : unnoted s ≡ event ∷ s.client.events = ap (λ (t : Option TurnEvent). unnoted (record s { taken = t })) taken in
    omega (arith, ap length all)

-- ---- none is left

none-drained_of : (now : ℕ) (s : NotedState) (events : List TurnEvent) (taken : Option TurnEvent)
    → (next_event (session_of s events taken)).0 ≡ None
    → (next_event (session_of s events taken)).1 ≡ drained now (session_of s events taken)
none-drained_of now s events (Some event) none = cc
none-drained_of now s [] None none = refl
none-drained_of now s (event ∷ later) None none = cc

pub none-drained : (now : ℕ) (s : NotedState) → (next_event s).0 ≡ None → (next_event s).1 ≡ drained now s
none-drained now s none = none-drained_of now s s.client.events s.taken none

-- ---- some are noted

noted-next_of : (now : ℕ) (s : NotedState) (event : TurnEvent) (t : NotedState) → (next_event s).1 ≡ t → (next_event s).0 ≡ Some event
    → next_noted now s ≡ record t { notes = noted event now t.notes; taken = None }
noted-next_of now s event t is found = rw (found, is) refl

pub noted-next : (now : ℕ) (s t : NotedState) (event : TurnEvent) → t ≡ (next_event s).1 → Some event ≡ (next_event s).0
    → record t { notes = noted event now t.notes; taken = None } ≡ next_noted now s
noted-next now s t event is found = sym (noted-next_of now s event t (sym is) (sym found))

noted-same_of : (now : ℕ) (s : NotedState) (events : List TurnEvent) (taken : Option TurnEvent)
    → drained now (next_noted now (session_of s events taken)) ≡ drained now (session_of s events taken)
noted-same_of now s events (Some event) = refl
noted-same_of now s [] None = refl
noted-same_of now s (event ∷ later) None = refl

noted-same : (now : ℕ) (s : NotedState) → drained now (next_noted now s) ≡ drained now s
noted-same now s = noted-same_of now s s.client.events s.taken

pub some-drained : (n now : ℕ) (s : NotedState) → drained now (some_noted n now s) ≡ drained now s
some-drained zero now s = refl
some-drained (suc n) now s = noted-same now (some_noted n now s) ∙ some-drained n now s

-- what is left to note is what was to be noted
pub some-same : (now : ℕ) (was s : NotedState) → DrainsSome now was s → drained now s ≡ drained now was
some-same now was s some = by some.is
  where
    by : (s ≡ some_noted some.count now was) ⊎ (s ≡ (next_event (some_noted some.count now was)).1) → drained now s ≡ drained now was
    by (inl is) = ap (drained now) is ∙ some-drained some.count now was
    by (inr is) = ap (drained now) is ∙ (next-drained now (some_noted some.count now was) ∙ some-drained some.count now was)

-- none of them is
pub drains_none : (now : ℕ) (s : NotedState) → DrainsSome now s s
drains_none now s = record { count = zero; is = inl refl }

-- ---- without memory

pub on_err : {T E P : Type 0} (r : Result T E) → P → OnErr r P
on_err (Ok x) p = tt
on_err (Err e) p = p
