-- What calls keep: that the client has ended, its phase, how many challenges were answered, realm and
-- algorithm.
use Rattle.turn_client_laws.proofs.Common.{◌≡◌, ℕ, Bool, true, false, ltb, List, [], Option, Some, None, refl, ap, ◌∙◌, inl, inr, arith, ◌≤◌, ⊤, ltb-true, ltb-false, none-some, same_Some, SocketAddr}
use Rattle.turn_client_laws.proofs.Machine.{id_of, challenge_of, challenge_of-sound, Challenge, State, auth_of, Phase, New, Requesting, Authenticating, Closed, Purpose, purposes_of, Challenged}
use Rattle.turn_client_laws.proofs.Machine.{challenge_in, judgement_of, bind_step, has_reply, phase_with, challenge_step, message_step, poll_step, phase_after, retried, Leaves, state_after, Call}
use Rattle.turn_client_laws.proofs.Machine.{TurnEvent}
use Rattle.turn_client_laws.specs.LawsSteps.{GoesOn, IsChallengeCounted, KeepsRealm, StaysClosed, KeepsChallengeLimit, rank}
use Rattle.turn_client_api.specs.declared.poll.TurnPollRet.TheVariants as Do
use Rattle.turn_client_laws.proofs.Edits.{KeepsAllEdits, KeepsEdits}
use Rattle.turn_client_laws.proofs.PhaseEdits.{KeepsPhaseEdits, all-phase-edits, phase-edits}
use Rattle.turn_client_laws.proofs.EditsOfMessages.{edits-IsKept}
use Rattle.turn_client_laws.proofs.EditsOfCalls.{calls-walk, leaves-walk}

abbrev pub Keeps : State → State → Type 0
Keeps s t = StaysClosed s t × KeepsChallengeLimit s t × KeepsRealm s t × GoesOn s t

pub rank-le : (p : Phase) → rank p ≤ 4
rank-le p = grind arith

pub keeps-same : (s : State) → Keeps s s
keeps-same s = (λ h. h, λ h. h, λ c e. (c, e, refl, refl), (omega arith, λ h. h))

pub keeps-trans : (s t u : State) → Keeps s t → Keeps t u → Keeps s u
keeps-trans s t u first second = (λ h. second.0 (first.0 h), λ h. second.1 (first.1 h), realm, (omega (arith, first.3.0, second.3.0), λ h. second.3.1 (first.3.1 h)))
  where
    realm : KeepsRealm s u
    realm c e = by (first.2 c e)
      where
        by : (d : Challenge) × (t.held ≡ Some d) × (d.realm ≡ c.realm) × (d.algorithm ≡ c.algorithm) → (d : Challenge) × (u.held ≡ Some d) × (d.realm ≡ c.realm) × (d.algorithm ≡ c.algorithm)
        by (d, f, r, a) = let (d', f', r', a') = second.2 d f in (d', f', r' ∙ r, a' ∙ a)

-- ---- challenges

-- with something held, a challenge keeps realm and algorithm
challenge-realm : (held : Option Challenge) (s : State) (message : List ℕ) (d c : Challenge) → challenge_of (record (auth_of s) { held = held }) message ≡ Some d → held ≡ Some c → (d.realm ≡ c.realm)
    × (d.algorithm ≡ c.algorithm)
challenge-realm None s message d c e f = absurd (none-some c f)
challenge-realm (Some h) s message d c e f =
    let same = same_Some h c f in
    let is = (challenge_of-sound (record (auth_of s) { held = Some h }) message d e).follows.1 in
    (ap (λ (x : Challenge). x.realm) is ∙ ap (λ (x : Challenge). x.realm) same, ap (λ (x : Challenge). x.algorithm) is ∙ ap (λ (x : Challenge). x.algorithm) same)

-- what a challenge makes the client hold
takes-realm : (s : State) (message : List ℕ) (d : Challenge) → challenge_in s message ≡ Some d → (c : Challenge) → s.held ≡ Some c → (x : Challenge) × (◌≡◌ {A = Option Challenge} (Some d) (Some x))
    × (x.realm ≡ c.realm) × (x.algorithm ≡ c.algorithm)
takes-realm s message d e c f = let (r, a) = challenge-realm s.held s message d c e f in (d, refl, r, a)

rank-after : (p : Phase) → rank p ≤ rank (phase_after p)
rank-after p = grind arith

pub rank-with : (addresses : List SocketAddr) → 3 ≤ rank (phase_with addresses)
rank-with addresses = grind arith

-- a challenge that is answered is counted
pub challenge-IsCounted : (message : List ℕ) (now : ℕ) (s : State) (d : Challenge) → judgement_of s message ≡ Challenged d → IsChallengeCounted s (message_step message now s).1
challenge-IsCounted message now s d e = rw e (by (ltb s.challenges s.config.max_stale_nonces) refl (retried (purposes_of (id_of message) s)) refl)
  where
    by : (b : Bool) → ltb s.challenges s.config.max_stale_nonces ≡ b → (o : Option Purpose) → retried (purposes_of (id_of message) s) ≡ o → IsChallengeCounted s (challenge_step message d now s).1
    by false f o g = rw f (inr (inr (ltb-false s.challenges s.config.max_stale_nonces f, refl, refl)))
    by true f None g = rw (f, g) (inl refl)
    by true f (Some purpose) g = rw (f, g) (inr (inl (ltb-true s.challenges s.config.max_stale_nonces f, refl)))

-- ---- each edit

-- the client begins
begins-keeps : (p : Phase) (now : ℕ) (s : State) → p ≡ New → Keeps (record s { phase = p }) (record s { phase = Requesting; last_send = Some now })
begins-keeps New now s e = (λ h. cc, λ h. h, (keeps-same s).2, (omega arith, λ h. refl))
begins-keeps p now s e = cc

-- the server allocates
allocates-keeps : (addresses : List SocketAddr) (p : Phase) (s : State) → p ≡ Authenticating → Keeps (record s { phase = p }) (record s { phase = phase_with addresses })
allocates-keeps addresses Authenticating s e = (λ h. cc, λ h. h, (keeps-same s).2, (omega (arith, rank-with addresses), λ h. h))
allocates-keeps addresses p s e = cc

Keeps-KeepsPhaseEdits : KeepsPhaseEdits Keeps
Keeps-KeepsPhaseEdits = record {
  rest = λ s t. keeps-same s;
  trans = keeps-trans;
  sends = λ now s. (λ h. h, λ h. h, (keeps-same s).2, (omega arith, λ h. refl));
  begins = λ now s new. begins-keeps s.phase now s new;
  ends = λ s. (λ h. refl, λ h. h, (keeps-same s).2, (rank-le s.phase, λ h. h));
}

pub Keeps-KeepsEdits : KeepsEdits Keeps
Keeps-KeepsEdits = phase-edits Keeps Keeps-KeepsPhaseEdits

pub Keeps-KeepsAllEdits : KeepsAllEdits Keeps
Keeps-KeepsAllEdits = all-phase-edits ⊤ Keeps (record {
  edits = Keeps-KeepsPhaseEdits;
  holds = λ message d s e. (λ h. h, λ h. h, takes-realm s message d e, (keeps-same s).3);
  counts = λ s held few. (λ h. ap phase_after h, λ h. omega (arith, few), (keeps-same s).2, (rank-after s.phase, λ h. h));
  resets = λ accepted s. (λ h. h, λ h. omega arith, (keeps-same s).2, (keeps-same s).3);
  allocates = λ addresses s e. allocates-keeps addresses s.phase s e;
})

-- ---- all of them

pub message-keeps : (message : List ℕ) (now : ℕ) (s : State) → Keeps s (message_step message now s).1
message-keeps = (edits-IsKept Keeps Keeps-KeepsAllEdits (λ s streams. keeps-same s)).message

pub bind-keeps : (local : SocketAddr) (message : List ℕ) (now : ℕ) (s : State) → Keeps s (bind_step local message now s)
bind-keeps = (edits-IsKept Keeps Keeps-KeepsAllEdits (λ s streams. keeps-same s)).binds

pub call-keeps : (call : Call) (s : State) → Keeps s (state_after call s)
call-keeps = calls-walk Keeps Keeps-KeepsAllEdits (λ s streams. keeps-same s)

-- even if memory allocation fails
pub leaves-keeps : (call : Call) (s t : State) → Leaves call s t → Keeps s t
leaves-keeps = leaves-walk Keeps Keeps-KeepsAllEdits (λ s streams. keeps-same s)

-- a client that has ended reports so when nothing is pending
reported_of : (p : Phase) (events : List TurnEvent) (now : ℕ) (s : State) → p ≡ Closed → events ≡ [] → has_reply s ≡ false → (poll_step now (record s { phase = p; events = events })).0 ≡ Do.Closed
reported_of p events now s e f g = grind arith

pub closed-reported : (now : ℕ) (s : State) → s.phase ≡ Closed → s.events ≡ [] → has_reply s ≡ false → (poll_step now s).0 ≡ Do.Closed
closed-reported now s = reported_of s.phase s.events now s
