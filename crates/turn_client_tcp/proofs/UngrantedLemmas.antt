-- Nothing is granted before the server allocates, however many steps the streams make.
use Rattle.std.proofs.Common.{◌≡◌, ℕ, ◌≤◌, Bool, true, false, cond, not, List, [], ◌∷◌, Option, Some, None, filter, map, take, ap, refl, subst, ◌∙◌, arith}
use Rattle.std.proofs.lemmas.Option.{none-some}
use Rattle.turn_client_api.specs.State.{State}
use Rattle.turn_client_api.specs.declared.grant.Grant.{Grant}
use Rattle.turn_client_api.specs.declared.grant.Progress.TheVariants.{Pending}
use Rattle.turn_client_api.specs.declared.state.Phase.{Phase}
use Rattle.turn_client_api.specs.declared.state.Phase.TheVariants.{Requesting, Authenticating, Allocated, Closed}
use Rattle.turn_client_api.specs.declared.state.Stream.{Stream}
use Rattle.turn_client_api.specs.Answers.{LeadsTo}
use Rattle.turn_client_api.specs.Calls.{is_offer_of, without_first}
use Rattle.turn_client_api.specs.Effect.{relayed_in, taken_addresses}
use Rattle.turn_client_api.specs.Grants.{is_of}
use Rattle.turn_client_laws.specs.LawsOrder.{IsUngranted}
use Rattle.turn_client_laws.specs.LawsSteps.{GoesOn, rank}
use Rattle.turn_client_api.specs.Payloads.{Payload, Outcome, Handled}
use Rattle.turn_client_api.specs.Retry.{phase_after}
use Rattle.turn_client_api.specs.Streams.{broken_at, framed_by, framed_stream_step}
use Rattle.turn_types.specs.Frames.{begins_no_frame, frame_len}
use Rattle.turn_client_laws.proofs.Edits.{KeepsAllEdits, KeepsEdits, aged-outlines, outline}
use Rattle.turn_client_laws.proofs.EditsOfMessages.{edits-IsKept, granted-with}
use Rattle.turn_client_laws.proofs.PhasesGoOn.{Keeps, Keeps-KeepsAllEdits, Keeps-KeepsEdits, keeps-same, keeps-trans}
use Rattle.turn_client_laws.proofs.RunKeepLemmas.{IsKept, frame-kept, steps-kept}

abbrev pub HasNoneBefore : State → Type 0
HasNoneBefore s = IsUngranted s.phase → s.grants ≡ []

-- what is kept, if the client has not ended
abbrev Stays : State → State → Type 0
Stays s t = (HasNoneBefore s → HasNoneBefore t) × Keeps s t

granted-rank : (p : Phase) → (IsUngranted p → ⊥) → 3 ≤ rank p
granted-rank Allocated granted = omega arith
granted-rank Closed granted = omega arith
granted-rank p granted = absurd (granted tt)

rank-granted : (p : Phase) → 3 ≤ rank p → IsUngranted p → ⊥
rank-granted Allocated far ungranted = ungranted
rank-granted Closed far ungranted = ungranted
rank-granted p far ungranted = absurd (omega (arith, far))

-- a client to which the server granted an allocation stays one
stays-granted : (s t : State) → GoesOn s t → (IsUngranted s.phase → ⊥) → IsUngranted t.phase → ⊥
stays-granted s t on granted = rank-granted t.phase (omega (arith, granted-rank s.phase granted, on.0))

before-after : (p : Phase) → IsUngranted (phase_after p) → IsUngranted p
before-after Requesting u = tt
before-after p u = u

empty-outline : (gs : List Grant) → map outline gs ≡ [] → gs ≡ []
empty-outline [] e = refl
empty-outline (g ∷ gs) e = cc

Stays-KeepsEdits : KeepsEdits Stays
Stays-KeepsEdits = record {
  rest = record {
    same = λ s. (λ h. h, keeps-same s);
    trans = λ s t u first second. (λ h. second.0 (first.0 h), keeps-trans s t u first.1 second.1);
    aside = λ s t. (λ h. h, keeps-same s);
    queues = λ queue s begun. (λ h. h, keeps-same s);
    dequeues = λ queue s fewer. (λ h. h, keeps-same s);
    families = λ families s may. (λ h. h, keeps-same s);
    sends = λ now s waits. (λ h. h, Keeps-KeepsEdits.sends now s waits);
    begins = λ now s new. (λ h. λ u. h (rw new tt), Keeps-KeepsEdits.begins now s new);
    ends = λ s none. (λ h. λ u. absurd u, Keeps-KeepsEdits.ends s none);
    finishes = λ id s. (λ h. h, keeps-same s);
    resends = λ id now s. (λ h. h, keeps-same s);
    starts = λ id now s. (λ h. h, keeps-same s);
  };
  asks = λ id text purposes now s begun askable spelled. (λ h. h, keeps-same s);
  unlists = λ which s. (λ h. h, keeps-same s);
  removes = λ which s spares. (λ h. λ u. ap (filter (λ g. not (which g))) (h u), keeps-same s);
  removes_family = λ family s. (λ h. λ u. ap (filter (λ g. not (is_of family g))) (h u), keeps-same s);
  takes_offer = λ id peer s. (λ h. λ u. ap (without_first (is_offer_of id peer)) (h u), keeps-same s);
  ages = λ grants s e. (λ h. λ u. empty-outline grants (aged-outlines grants s.grants e ∙ ap (map outline) (h u)), keeps-same s);
  permission = λ ip s phase room none. (λ h. λ u. absurd (rw phase at u), keeps-same s);
  channel = λ number peer s phase room none within. (λ h. λ u. absurd (rw phase at u), keeps-same s);
  connect = λ peer s phase room none. (λ h. λ u. absurd (rw phase at u), keeps-same s);
  connection = λ id c origin s phase offer none waits. (λ h. λ u. absurd (rw phase at u), keeps-same s);
  reserves = λ number peer was until s there. (λ h. λ u. absurd (rw (h u) at there), keeps-same s);
}

Stays-KeepsAllEdits : KeepsAllEdits Stays
Stays-KeepsAllEdits = record {
  edits = Stays-KeepsEdits;
  reshapes = λ grants s e. (λ h. λ u. empty-outline grants (e ∙ ap (map outline) (h u)), keeps-same s);
  rebinds = λ number peer was progress s there. (λ h. λ u. absurd (rw (h u) at there), keeps-same s);
  holds = λ message d s e. (λ h. h, Keeps-KeepsAllEdits.holds message d s e);
  counts = λ s held few. (λ h. λ u. h (before-after s.phase u), Keeps-KeepsAllEdits.counts s held few);
  resets = λ accepted s. (λ h. h, Keeps-KeepsAllEdits.resets accepted s);
  empties = λ s. (λ h. λ u. ap (filter (λ g. not true)) (h u), keeps-same s);
  allocates = λ message lifetime now s e none.
      (λ h. λ u. absurd (granted-with (taken_addresses s.families (relayed_in message)) u), Keeps-KeepsAllEdits.allocates message lifetime now s e none);
  permits = λ ip is_kept expiry s is. (λ h. λ u. absurd (none-some (Pending is_kept) (rw (h u) at is)), keeps-same s);
  connects = λ id connection_id peer s t since stay granted listed. (λ h. λ u. absurd (stays-granted s t since.1.3 granted u), since.1);
  offers = λ id peer origin s room few. (λ h. λ u. absurd (rw (h u) at room.1), keeps-same s);
}

Stays-IsKept : IsKept Stays
Stays-IsKept = edits-IsKept Stays Stays-KeepsAllEdits (λ s streams. (λ h. h, keeps-same s))

-- steps of the streams grant nothing before that
pub led-none : (now : ℕ) (was s : State) → LeadsTo now was s → HasNoneBefore was → HasNoneBefore s
led-none now was s (n, led) h =
    (subst (λ (p : Option Payload × State). Stays was p.1) led (steps-kept Stays Stays-IsKept n now was)).0 h

-- nor does a step of a stream of frames
pub framed-none-before : (stream : Stream) (now : ℕ) (t : State) → HasNoneBefore t → HasNoneBefore (framed_stream_step stream now t).1
framed-none-before stream now t h = by (begins_no_frame stream.bytes) (frame_len stream.bytes)
  where
    by : (b : Bool) (o : Option ℕ) → HasNoneBefore (cond {A = Outcome × State} b (Handled, broken_at stream.local t) (framed_by stream now t o)).1
    by true o = h
    by false None = h
    by false (Some len) = (frame-kept Stays Stays-IsKept stream (take len stream.bytes) now t).0 h

-- so while an ALLOCATE awaits its response nothing is granted
pub before-authenticating : (s : State) → HasNoneBefore s → s.phase ≡ Authenticating → s.grants ≡ []
before-authenticating s h e = h (rw e tt)
