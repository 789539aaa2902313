-- Challenges in a run.
use Rattle.turn_client_laws.proofs.Common.{◌≡◌, ◌⊎◌, ◌∙◌, ◌<◌, ◌≤◌, ◌+◌, Bool, true, false, List, [], ◌∷◌, ◌++◌, inl, inr, refl, sym, subst, ap, arith, cases_lt, ltb-true, length-append}
use Rattle.turn_client_laws.proofs.Common.{filter-append}
use Rattle.turn_client_laws.proofs.Machine.{Config, State, Outcome, is_message, state_after, state_after_all, Call}
use Rattle.turn_client_laws.proofs.Laws.{Input, handled, processed, InputsLead, IsReplyAccepted, HoldsAtFirst, StaysInCalls, IsChallengeCounted, KeepsRealm, leaves-configured, challenge-IsCounted}
use Rattle.turn_client_laws.proofs.Laws.{leaves-keeps, processed-brings, brought}
use Rattle.turn_client_laws.proofs.CountLemmas.{bringing, leaves-accepted}
use Rattle.turn_client_runs.specs.Challenges.{CountsIt, FallsByReplies, IsChallengeInput, IsReplyAcceptedAmong, IsWithinChallengeLimit, answers_in, is_answer}
use Rattle.turn_client_runs.specs.Holds.{Reaches}
use Rattle.turn_client_runs.specs.Inputs.{IsAmong, handled_in}
use Rattle.turn_client_runs.proofs.HoldLemmas.{kept-behind}
use Rattle.turn_client_runs.proofs.MadeLemmas.{control-made}
use Rattle.turn_client_runs.proofs.RealmLemmas.{then-realm}
use Rattle.turn_client_runs.proofs.InputsOfRuns.{among-first, among-later, among-left, among-none, among-right, leads-or}

-- ---- what is held

pub realm-stays : (s : State) (calls : List Call) (t : State) → Reaches s calls t → KeepsRealm s t
realm-stays s [] t same = λ c held. (c, rw same held, refl, refl)
realm-stays s (call ∷ calls) t (u, leaves, more) = then-realm s u t (leaves-keeps call s u leaves).2 (realm-stays u calls t more)

-- ---- how many are answered

pub initial-patient : HoldsAtFirst IsWithinChallengeLimit
initial-patient transport local remote config seed = omega arith

pub leaves-patient : StaysInCalls IsWithinChallengeLimit
leaves-patient call s t leaves = (leaves-keeps call s t leaves).1

pub challenge-counts : (one : Input) → IsChallengeInput one → CountsIt one
challenge-counts one c =
    subst (λ (p : Outcome × State). IsChallengeCounted one.before p.1) (sym (control-made one c.over c.whole))
    (challenge-IsCounted one.bytes one.time one.before c.challenge c.judged)

-- ---- how many in sequence

abbrev IsAcceptedIn : Input → Type 0
IsAcceptedIn one = ((processed one).1.challenges < one.before.challenges) × (is_message one.bytes ≡ true) × IsReplyAccepted one.bytes one.time one.before

abbrev IsWellAccepted : Input → Type 0
IsWellAccepted one = (is_message one.bytes ≡ true) × IsReplyAccepted one.bytes one.time one.before

-- an input makes the count no less, or is accepted
input-grows : (one : Input) → (one.before.challenges ≤ (processed one).1.challenges) ⊎ IsAcceptedIn one
input-grows one =
    let n = one.before.challenges in
    elim (cases_lt (processed one).1.challenges n) [
      | inl fewer ↦ elim (processed-brings (λ s. s.challenges < n) IsWellAccepted (brought (λ s. s.challenges < n) IsReplyAccepted (bringing n)) one fewer) [
        | inl less ↦ absurd (omega (arith, less))
        | inr accepted ↦ inr (fewer, accepted.0, accepted.1)
      ]
      | inr more ↦ inl more
    ]

-- the count grows by each answer, or one of these inputs is accepted
abbrev Counts : State → State → List Input → Type 0
Counts s t inputs = (s.challenges + answers_in inputs ≤ t.challenges) ⊎ IsReplyAcceptedAmong inputs

lead-counts : (inputs : List Input) (s t : State) → InputsLead inputs s t → Counts s t inputs
lead-counts [] s t lead = let same : t.challenges ≡ s.challenges = ap (λ (x : State). x.challenges) lead.others in inl (omega (arith, same))
lead-counts (one ∷ later) s t (first, lead) = by (lead-counts later (processed one).1 t lead) (input-grows one)
  where
    same : one.before.challenges ≡ s.challenges
    same = ap (λ (x : State). x.challenges) first.others

    count : (b : Bool) → is_answer one ≡ b → one.before.challenges ≤ (processed one).1.challenges → (processed one).1.challenges + answers_in later ≤ t.challenges
        → s.challenges + answers_in (one ∷ later) ≤ t.challenges
    count true e grows rest = rw e (let more = ltb-true one.before.challenges (processed one).1.challenges e in omega (arith, more, rest, same))
    count false e grows rest = rw e (omega (arith, grows, rest, same))

    by : Counts (processed one).1 t later → (one.before.challenges ≤ (processed one).1.challenges) ⊎ IsAcceptedIn one → Counts s t (one ∷ later)
    by (inl rest) (inl grows) = inl (count (is_answer one) refl grows rest)
    by (inl rest) (inr accepted) = inr (among-first IsAcceptedIn one later accepted)
    by (inr among) grows = inr (among-later IsAcceptedIn one later among)

-- a call that processes nothing
idle-counts : (call : Call) (s : State) → handled call s ≡ [] → Counts s (state_after call s) (handled call s)
idle-counts call s none = elim (cases_lt (state_after call s).challenges s.challenges) [
  | inl less ↦ absurd (among-none IsWellAccepted (subst (IsAmong IsWellAccepted) none (leaves-accepted call s (state_after call s) (inl refl) less)))
  | inr more ↦ rw none (inl (omega (arith, more)))
]

call-counts : (call : Call) (s : State) → Counts s (state_after call s) (handled call s)
call-counts call s = elim (leads-or call s) [
  | inl lead ↦ lead-counts (handled call s) s (state_after call s) lead
  | inr nothing ↦ idle-counts call s nothing
]

answers-append : (inputs more : List Input) → answers_in (inputs ++ more) ≡ answers_in inputs + answers_in more
answers-append inputs more = simp (filter-append, length-append) refl

run-counts : (s : State) (calls : List Call) → Counts s (state_after_all s calls) (handled_in s calls)
run-counts s [] = inl (omega arith)
run-counts s (call ∷ calls) =
    let inputs = handled call s in
    let more = handled_in (state_after call s) calls in
    elim (call-counts call s) [
      | inl first ↦ elim (run-counts (state_after call s) calls) [
        | inl rest ↦ inl (let sum = answers-append inputs more in omega (arith, first, rest, sum))
        | inr among ↦ inr (among-right IsAcceptedIn inputs more among)
      ]
      | inr among ↦ inr (among-left IsAcceptedIn inputs more among)
    ]

-- only a signed reply lowers the count
pub falls-by-replies : (s : State) (calls : List Call) → FallsByReplies s calls
falls-by-replies s calls = (
  λ one there fewer. elim (input-grows one) [ inl more ↦ absurd (omega (arith, fewer, more)) | inr accepted ↦ (accepted.1, accepted.2) ],
  λ fewer. elim (run-counts s calls) [ inl counts ↦ absurd (omega (arith, fewer, counts)) | inr among ↦ among ],
)

-- what the client was made with stays
pub run-configured : (s : State) (calls : List Call) → (state_after_all s calls).config ≡ s.config
run-configured s calls = kept-behind (λ (t : State). t.config ≡ s.config) (λ call t u leaves same. leaves-configured call t u leaves ∙ same) s calls refl

pub few-answered : (s : State) (calls : List Call) → IsWithinChallengeLimit s → (answers_in (handled_in s calls) ≤ s.config.max_stale_nonces) ⊎ IsReplyAcceptedAmong (handled_in s calls)
few-answered s calls patient =
    let last : IsWithinChallengeLimit (state_after_all s calls) = kept-behind IsWithinChallengeLimit leaves-patient s calls patient in
    let same : (state_after_all s calls).config.max_stale_nonces ≡ s.config.max_stale_nonces =
    ap (λ (c : Config). c.max_stale_nonces) (run-configured s calls) in
    elim (run-counts s calls) [ inl counts ↦ inl (omega (arith, counts, last, same)) | inr among ↦ inr among ]
