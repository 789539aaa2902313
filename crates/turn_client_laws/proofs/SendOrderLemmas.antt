-- What holds for every client: nothing is sent before the first packet, and nothing is granted before the
-- server allocates.
use Rattle.turn_client_laws.proofs.Common.{◌≡◌, ◌∙◌, ℕ, ◌+◌, ◌≤◌, true, not, List, [], ◌∷◌, ◌++◌, map, filter, inl, refl, ap, arith, IsSome, none-some, SocketAddr}
use Rattle.turn_client_laws.proofs.Machine.{TransportType, resent, waits_begun, Config, State, initial, Phase, New, Allocated, Closed, Pending, Queued, is_of, new_allocation, phase_with, relayed_in}
use Rattle.turn_client_laws.proofs.Machine.{taken_addresses, phase_after, is_offer_of, without_first, has_queued_request, FitsPhaseForPoll, Leaves, Call, Has}
use Rattle.turn_agent.specs.Agent as A
use Rattle.turn_client_laws.specs.LawsSteps.{GoesOn, rank}
use Rattle.turn_client_laws.specs.LawsOrder.{FitsPhase, IsUngranted}
use Rattle.turn_client_laws.proofs.InAllocationLemmas.{any-has, has-any}
use Rattle.turn_client_laws.proofs.Edits.{KeepsAllEdits, KeepsEdits, aged-outlines, outline}
use Rattle.turn_client_laws.proofs.EditsOfCalls.{leaves-walk}
use Rattle.turn_client_laws.proofs.PhasesGoOn.{Keeps, Keeps-KeepsAllEdits, Keeps-KeepsEdits, keeps-same, keeps-trans, rank-with}
use Rattle.turn_client_laws.proofs.DistinctGrants.{empty-outline}

-- what is kept, by a client that goes on
abbrev Steadies : State → State → Type 0
Steadies s t = (FitsPhase s → FitsPhase t) × Keeps s t

-- once something was sent, all holds after an allocation
well : (p : Phase) (s : State) → 3 ≤ rank p → IsSome s.last_send → FitsPhase (record s { phase = p })
well Allocated s far sent = (λ e. cc, λ b. sent, λ q. sent, λ u. absurd u)
well Closed s far sent = (λ e. cc, λ b. absurd b, λ q. sent, λ u. absurd u)
well p s far sent = absurd (omega arith)

-- ---- phases

granted-rank : (p : Phase) → (IsUngranted p → ⊥) → 3 ≤ rank p
granted-rank p granted = grind arith

rank-granted : (p : Phase) → 3 ≤ rank p → IsUngranted p → ⊥
rank-granted p far ungranted = grind arith

-- a client to which the server allocated stays one
stays-granted : (s t : State) → GoesOn s t → (IsUngranted s.phase → ⊥) → IsUngranted t.phase → ⊥
stays-granted s t on granted = rank-granted t.phase (omega (arith, granted-rank s.phase granted, on.0))

counts-steady : (p : Phase) (challenges : ℕ) (s : State) → FitsPhase (record s { phase = p }) → FitsPhase (record s { phase = phase_after p; challenges = challenges })
counts-steady p challenges s h = grind arith

-- ---- lists

fewer-empty : (queue was : List Queued) → ((q : Queued) → Has q queue → Has q was) → was ≡ [] → queue ≡ []
fewer-empty [] was fewer none = refl
fewer-empty (q ∷ queue) was fewer none = absurd (rw none at (fewer q (inl refl)))

fewer-queued : (queue : List Queued) (s : State) → ((q : Queued) → Has q queue → Has q s.queue) → has_queued_request (record s { queue = queue }) ≡ true → has_queued_request s ≡ true
fewer-queued queue s fewer some =
    let (q, there, is) = any-has (λ (x : Queued). x.is_request) queue some in has-any (λ (x : Queued). x.is_request) q s.queue (fewer q there) is

-- ---- each edit

Steadies-KeepsEdits : KeepsEdits Steadies
Steadies-KeepsEdits = record {
  rest = record {
    same = λ s. (λ h. h, keeps-same s);
    trans = λ s t u first second. (λ h. second.0 (first.0 h), keeps-trans s t u first.1 second.1);
    aside = λ s t. (λ h. h, keeps-same s);
    queues = λ queue s begun. (λ h. (λ new. absurd (rw new at begun), h.1, λ q. h.1 begun, h.3), keeps-same s);
    dequeues = λ queue s fewer.
        (λ h. (λ new. ((h.0 new).0, fewer-empty queue s.queue fewer (h.0 new).1, (h.0 new).2), h.1, λ q. h.2 (fewer-queued queue s fewer q), h.3), keeps-same s);
    families = λ families s may. (λ h. h, keeps-same s);
    sends = λ now s waits. (λ h. (λ new. absurd (waits new (h.0 new).1 (h.0 new).2), λ b. refl, λ q. refl, h.3), Keeps-KeepsEdits.sends now s waits);
    begins = λ now s new. (λ h. (λ e. cc, λ b. refl, λ q. refl, λ u. h.3 (rw new tt)), Keeps-KeepsEdits.begins now s new);
    ends = λ s none. (λ h. (λ e. cc, λ b. absurd b, h.2, λ u. absurd u), Keeps-KeepsEdits.ends s none);
    finishes = λ id s. (λ h. (λ new. ((h.0 new).0, (h.0 new).1, ap (A.without_transaction id) (h.0 new).2), h.1, h.2, h.3), keeps-same s);
    resends = λ id now s. (λ h. (λ new. ((h.0 new).0, (h.0 new).1, ap (resent id now) (h.0 new).2), h.1, h.2, h.3), keeps-same s);
    starts = λ id now s. (λ h. (λ new. ((h.0 new).0, (h.0 new).1, ap (waits_begun id now) (h.0 new).2), h.1, h.2, h.3), keeps-same s);
  };
  asks = λ id text purposes now s begun askable spelled. (λ h. (λ new. absurd (rw new at begun), h.1, h.2, h.3), keeps-same s);
  unlists = λ which s. (λ h. h, keeps-same s);
  removes = λ which s spares. (λ h. (h.0, h.1, h.2, λ u. ap (filter (λ g. not (which g))) (h.3 u)), keeps-same s);
  removes_family = λ family s. (λ h. (h.0, h.1, h.2, λ u. ap (filter (λ g. not (is_of family g))) (h.3 u)), keeps-same s);
  takes_offer = λ id peer s. (λ h. (h.0, h.1, h.2, λ u. ap (without_first (is_offer_of id peer)) (h.3 u)), keeps-same s);
  ages = λ grants s e. (λ h. (h.0, h.1, h.2, λ u. empty-outline grants (aged-outlines grants s.grants e ∙ ap (map outline) (h.3 u))), keeps-same s);
  permission = λ ip s phase room none. (λ h. (h.0, h.1, h.2, λ u. absurd (rw phase at u)), keeps-same s);
  channel = λ number peer s phase room none within. (λ h. (h.0, h.1, h.2, λ u. absurd (rw phase at u)), keeps-same s);
  connect = λ peer s phase room none. (λ h. (h.0, h.1, h.2, λ u. absurd (rw phase at u)), keeps-same s);
  connection = λ id c origin s phase offer none waits. (λ h. (h.0, h.1, h.2, λ u. absurd (rw phase at u)), keeps-same s);
  reserves = λ number peer was until s there. (λ h. (h.0, h.1, h.2, λ u. absurd (rw (h.3 u) at there)), keeps-same s);
}

Steadies-KeepsAllEdits : KeepsAllEdits Steadies
Steadies-KeepsAllEdits = record {
  edits = Steadies-KeepsEdits;
  reshapes = λ grants s e. (λ h. (h.0, h.1, h.2, λ u. empty-outline grants (e ∙ ap (map outline) (h.3 u))), keeps-same s);
  rebinds = λ number peer was progress s there. (λ h. (h.0, h.1, h.2, λ u. absurd (rw (h.3 u) at there)), keeps-same s);
  holds = λ message d s e. (λ h. h, Keeps-KeepsAllEdits.holds message d s e);
  counts = λ s held few. (counts-steady s.phase (s.challenges + 1) s, Keeps-KeepsAllEdits.counts s held few);
  resets = λ accepted s. (λ h. h, Keeps-KeepsAllEdits.resets accepted s);
  empties = λ s. (λ h. (h.0, h.1, h.2, λ u. ap (filter (λ g. not true)) (h.3 u)), keeps-same s);
  allocates = λ message lifetime now s e none.
      let addresses = taken_addresses s.families (relayed_in message) in (
        λ h. well (phase_with addresses) (record s { grants = s.grants ++ map (new_allocation lifetime now) addresses }) (rank-with addresses) (h.1 (rw e tt)),
        Keeps-KeepsAllEdits.allocates message lifetime now s e none,
      );
  permits = λ ip is_kept expiry s is. (λ h. (h.0, h.1, h.2, λ u. absurd (none-some (Pending is_kept) (rw (h.3 u) at is))), keeps-same s);
  connects = λ id connection_id peer s t since stay granted listed.
      (λ h. ((since.0 h).0, (since.0 h).1, (since.0 h).2, λ u. absurd (stays-granted s t since.1.3 granted u)), since.1);
  offers = λ id peer origin s room few. (λ h. (h.0, h.1, h.2, λ u. absurd (rw (h.3 u) at room.1)), keeps-same s);
}

-- ---- all of them

pub initial-steady : (transport : TransportType) (local remote : SocketAddr) (config : Config) (seed : List ℕ) → FitsPhase (initial transport local remote config seed)
initial-steady transport local remote config seed = (λ e. (refl, refl, refl), λ b. absurd b, λ q. cc, λ u. refl)

-- even if memory allocation fails
pub leaves-steadies : (call : Call) (s t : State) → Leaves call s t → FitsPhase s → FitsPhase t
leaves-steadies call s t leaves = (leaves-walk Steadies Steadies-KeepsAllEdits (λ s streams. (λ h. h, keeps-same s)) call s t leaves).0

orderly_in : (p : Phase) (s : State) → FitsPhase (record s { phase = p }) → FitsPhaseForPoll (record s { phase = p })
orderly_in New s steady = record { nothing_sent = λ e. (steady.0 e).0; sent_before = λ n q. steady.2 q; no_grants = λ b. absurd b }
orderly_in Allocated s steady = record { nothing_sent = λ e. cc; sent_before = λ n q. steady.2 q; no_grants = λ b. absurd b }
orderly_in Closed s steady = record { nothing_sent = λ e. cc; sent_before = λ n q. steady.2 q; no_grants = λ b. absurd b }
orderly_in p s steady = record { nothing_sent = λ e. cc; sent_before = λ n q. steady.2 q; no_grants = λ b. steady.3 tt }

pub steady-FitsPhaseForPoll : (s : State) → FitsPhase s → FitsPhaseForPoll s
steady-FitsPhaseForPoll s = orderly_in s.phase s
