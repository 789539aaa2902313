-- Which queued packet is taken, and what is dropped before it.
use Rattle.turn_client_laws.proofs.Common.{◌≡◌, ◌∙◌, ℕ, Bool, true, false, not, List, [], ◌∷◌, Option, Some, None, refl, sym, ap, arith, find, length, drop, slice_get, position, position_or_len}
use Rattle.turn_client_laws.proofs.Common.{cond_some, ltb, ltb-true, subst}
use Rattle.turn_client_laws.proofs.Machine.{State, Queued, has_ended, ended_count, next_queued, refreshes_first, queue_step, idle_step, position-none}
use Rattle.turn_client_laws.proofs.Laws.{first_left, none-left, settled-first}
use Rattle.turn_client_core.specs.Outgoing.{Outgoing, with_room, without_front}
use Rattle.turn_client_core.specs.Sending.{front_step, placed_step}
use Rattle.turn_client_core.proofs.calls.AskLemmas.{with_outbox}
use Rattle.turn_client_core.proofs.time.TransmitLemmas.{Packet, Sent}

-- ---- the first one that has not ended

-- with no place for it there is none
pub place-none : (now : ℕ) (s : State) → position (λ q. not (has_ended s q)) s.queue ≡ None → next_queued now s ≡ None
place-none now s none = none-left now s (position-none (λ (q : Queued). not (has_ended s q)) s.queue none)

-- and it is the client's turn
pub none-placed : (now : ℕ) (s : State) → position (λ q. not (has_ended s q)) s.queue ≡ None → idle_step s.phase now s ≡ queue_step now s
none-placed now s none = rw (place-none now s none) refl

none-places : {X : Type 0} (p : X → Bool) (xs : List X) → find p xs ≡ None → position_or_len p xs ≡ length xs
none-places p [] none = refl
none-places p (x ∷ xs) none = by (p x) refl (none-places p xs)
  where
    by : (b : Bool) → p x ≡ b → (find p xs ≡ None → position_or_len p xs ≡ length xs) → position_or_len p (x ∷ xs) ≡ length (x ∷ xs)
    by true e later = let no : Some x ≡ None = rw e at none in cc
    by false e later = rw e (omega (arith, later (rw e at none)))

-- what is at its place is sent next
pub placed-first : (now place : ℕ) (s : State) → refreshes_first now s ≡ false → position (λ q. not (has_ended s q)) s.queue ≡ Some place → placed_step place now s ≡ queue_step now s
placed-first now place s later found = subst (λ (n : ℕ). placed_step n now s ≡ queue_step now s) parts.1 (by (first_left s s.queue) refl)
  where
    parts : (ltb (ended_count s) (length s.queue) ≡ true) × (ended_count s ≡ place)
    parts = cond_some (ltb (ended_count s) (length s.queue)) (ended_count s) place found

    by : (o : Option Queued) → first_left s s.queue ≡ o → placed_step (ended_count s) now s ≡ queue_step now s
    by None e = absurd (omega (arith, none-places (λ (q : Queued). not (has_ended s q)) s.queue e, ltb-true _ _ parts.0))
    by (Some q) e = let (others, is) = settled-first s q e in rw (later, e, is) refl

-- ---- what is taken of the outbox

-- the packet, and the client with that outbox
abbrev outcome : State → Sent → Packet × State
outcome s p = (p.0, with_outbox p.1 s)

same-room : (now room : ℕ) (s : State) (o : Outgoing) → outcome s (front_step s.config.timed_from_send now (with_room room o)) ≡ outcome s (front_step s.config.timed_from_send now o)
same-room now room s o = by (slice_get o.queue 0) refl
  where
    by : (found : Option Queued) → slice_get o.queue 0 ≡ found
        → outcome s (front_step s.config.timed_from_send now (with_room room o)) ≡ outcome s (front_step s.config.timed_from_send now o)
    by None e = rw e refl
    by (Some q) e = rw e refl

front-placed : (now place : ℕ) (s : State) (o : Outgoing) → outcome s (front_step s.config.timed_from_send now (without_front place o)) ≡ placed_step place now (with_outbox o s)
front-placed now place s o = by (slice_get (drop place o.queue) 0) refl
  where
    by : (found : Option Queued) → slice_get (drop place o.queue) 0 ≡ found
        → outcome s (front_step s.config.timed_from_send now (without_front place o)) ≡ placed_step place now (with_outbox o s)
    by None e = rw e refl
    by (Some q) e = rw e refl

pub placed-is : (now place : ℕ) (s : State) (o p r : Outgoing) (packet : Packet) → with_room o.room p ≡ without_front place o
    → ◌≡◌ {A = Sent} (packet, with_room p.room r) (front_step s.config.timed_from_send now p) → ◌≡◌ {A = Packet × State} (packet, with_outbox r s) (placed_step place now (with_outbox o s))
placed-is now place s o p r packet dropped taken =
    ap (outcome s) taken
    ∙ (sym (same-room now o.room s p)
    ∙ (ap (λ (x : Outgoing). outcome s (front_step s.config.timed_from_send now x)) dropped ∙ front-placed now place s o))
