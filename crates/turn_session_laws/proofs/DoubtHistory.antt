-- What the calls of doubts leave of what came before.
use Rattle.std.proofs.Common.{◌≡◌, ℕ, Bool, true, false, not, ◌&&◌, if◌then◌else◌, List, ◌∷◌, Option, Some, None, refl, sym, ap, subst, inl, inr}
use Rattle.std.proofs.lemmas.Bool.{cases_Bool}
use Rattle.turn_session_book.specs.declared.replies.ErrorReply.{ErrorReply}
use Rattle.turn_session_path.specs.Credentials.{is_first_refusal, no_refusal}
use Rattle.turn_session_path.specs.Credentials as Credential
use Rattle.turn_session_path.specs.Suspicion.{after_answer, is_forgotten}
use Rattle.turn_session_path.specs.Suspicion as Suspicions
use Rattle.turn_session_path.specs.declared.credentials.Credentials.{Credentials}
use Rattle.turn_session_path.specs.declared.suspicion.Suspicion.{Suspicion}
use Rattle.turn_session_life.specs.Doubts.{after_asking, after_denial, after_doubt, after_error, after_refusal, after_response, after_signed, after_told, code_of}
use Rattle.turn_session_life.specs.Doubts as Doubting
use Rattle.turn_session_life.specs.Heard.{has_code, is_challenge}
use Rattle.turn_session_life.specs.declared.doubts.Asking.{Asking}
use Rattle.turn_session_life.specs.declared.doubts.Asking.TheVariants as Client
use Rattle.turn_session_life.specs.declared.doubts.Doubts.{Doubts}
use Rattle.turn_session_life.specs.declared.responses.Asked.{Asked}
use Rattle.turn_session_life.specs.declared.responses.Response.{Response}
use Rattle.turn_session_life.specs.declared.responses.Said.{Said}
use Rattle.turn_session_life.specs.declared.responses.Said.TheVariants.{Granted, Denied, Nothing}
use Rattle.turn_session_laws.specs.DoubtRuns.{DoubtCall, is_known, is_signed}
use Rattle.turn_session_laws.specs.DoubtRuns.DoubtCall.{Doubted, Moved, Responded, Asked as WasAsked, Told}
use Rattle.turn_session_laws.proofs.DoubtSilence.{HasGrace, IsRefused, Questions, grace-goes_on, questions-go_on, refusal-goes_on}

pub record IsHistory (checks : Bool) (d : Doubts) (before : List DoubtCall) : Type 0 where
  pub questions : Questions checks d.suspicion.deadline d.suspicion.unanswered before
  pub refused : IsRefused d.credentials.is_refused before
  pub grace : HasGrace d.credentials.grace before

-- ---- calls that say nothing of either

pub record Keeps (d e : Doubts) : Type 0 where
  pub deadline : e.suspicion.deadline ≡ d.suspicion.deadline
  pub unanswered : e.suspicion.unanswered ≡ d.suspicion.unanswered
  pub credentials : e.credentials ≡ d.credentials

pub same : (d : Doubts) → Keeps d d
same d = record { deadline = refl; unanswered = refl; credentials = refl }

-- what is kept has the same history
pub kept : (checks : Bool) (d e : Doubts) (calls : List DoubtCall) → Keeps d e → IsHistory checks d calls → IsHistory checks e calls
kept checks d e calls keeps h = record {
  questions = rw (keeps.deadline, keeps.unanswered) h.questions;
  refused = rw keeps.credentials h.refused;
  grace = rw keeps.credentials h.grace;
}

pub goes-on : (checks : Bool) (call : DoubtCall) (d : Doubts) (before : List DoubtCall) → is_known call ≡ false → is_signed call ≡ false
    → IsHistory checks d before → IsHistory checks d (call ∷ before)
goes-on checks call d before unknown unsigned h = record {
  questions = questions-go_on checks d.suspicion.deadline d.suspicion.unanswered call before unknown h.questions;
  refused = refusal-goes_on d.credentials.is_refused call before unsigned h.refused;
  grace = grace-goes_on d.credentials.grace call before unsigned h.grace;
}

doubt-keeps : (checks : Bool) (d : Doubts) → Keeps d (after_doubt (record d { checks = checks }))
doubt-keeps true d = record { deadline = refl; unanswered = refl; credentials = refl }
doubt-keeps false d = record { deadline = refl; unanswered = refl; credentials = refl }

asking-keeps : (asking : Asking) (d : Doubts) → Keeps d (after_asking asking d)
asking-keeps Client.Asked d = record { deadline = refl; unanswered = refl; credentials = refl }
asking-keeps Client.Taken d = record { deadline = refl; unanswered = refl; credentials = refl }
asking-keeps Client.NoAllocation d = record { deadline = refl; unanswered = refl; credentials = refl }

-- ---- the server has answered a check

pub told : (checks : Bool) (error : Option ErrorReply) (now : ℕ) (d : Doubts) (before : List DoubtCall)
    → IsHistory checks d before → IsHistory checks (after_told error now d) (Told error now ∷ before)
told checks error now d before h = elim (cases_Bool (is_forgotten (code_of error))) [
  | inl forgotten ↦
      let is : after_told error now d ≡ d = rw forgotten refl in
      subst (λ (e : Doubts). IsHistory checks e (Told error now ∷ before)) (sym is)
      (goes-on checks (Told error now) d before (ap not forgotten) refl h)
  | inr known ↦
      let answered : Suspicion = record d.suspicion {
        deadline = None;
        unanswered = 0;
        pause = Suspicions.pause_after now d.suspicion;
        answered = Some now;
      } in
      let is : after_told error now d ≡ record d { suspicion = answered } = rw known refl in
      subst (λ (e : Doubts). IsHistory checks e (Told error now ∷ before)) (sym is) (record {
        questions = tt;
        refused = refusal-goes_on d.credentials.is_refused (Told error now) before refl h.refused;
        grace = grace-goes_on d.credentials.grace (Told error now) before refl h.grace;
      })
]

-- ---- a response to a request of the client

abbrev responded : Asked → Said → ℕ → DoubtCall
responded asked said now = Responded (record { asked = asked; said = said }) now

signed-history : (checks : Bool) (call : DoubtCall) (d : Doubts) (before : List DoubtCall) → is_known call ≡ false
    → IsHistory checks d before → IsHistory checks (after_signed d) (call ∷ before)
signed-history checks call d before unknown h = record {
  questions = questions-go_on checks d.suspicion.deadline d.suspicion.unanswered call before unknown h.questions;
  refused = tt;
  grace = tt;
}

-- a 401 that nobody signed
first-keeps : (is_first : Bool) (s : Suspicion) → let t = if is_first then Suspicions.after_doubt s else s in
    (t.deadline ≡ s.deadline) × (t.unanswered ≡ s.unanswered)
first-keeps true s = (refl, refl)
first-keeps false s = (refl, refl)

-- what is left of it in the credentials
abbrev CredentialsAfter : Credentials → List DoubtCall → Type 0
CredentialsAfter c calls = IsRefused c.is_refused calls × HasGrace c.grace calls

grace-after : (asked : Asked) (e : ErrorReply) (now : ℕ) (grace : Option ℕ) (before : List DoubtCall) → is_signed (responded asked (Denied e) now) ≡ false
    → (not e.is_taken && has_code 401 e) ≡ true → IsRefused true before → HasGrace grace before
    → HasGrace (Credential.grace_after now grace) (responded asked (Denied e) now ∷ before)
grace-after asked e now None before unsigned refusal first h = (now, refl, (unsigned, inr ((refusal, refl), first.0, first.1)))
grace-after asked e now (Some grace) before unsigned refusal first h =
    grace-goes_on (Some grace) (responded asked (Denied e) now) before unsigned h

refused-after : (asked : Asked) (e : ErrorReply) (now : ℕ) (is_refused : Bool) (c : Credentials) (before : List DoubtCall)
    → is_signed (responded asked (Denied e) now) ≡ false → (not e.is_taken && has_code 401 e) ≡ true
    → IsRefused is_refused before → HasGrace c.grace before
    → CredentialsAfter (Credential.after_refusal now (record c { is_refused = is_refused })) (responded asked (Denied e) now ∷ before)
refused-after asked e now true c before unsigned refusal first h = (
  refusal-goes_on true (responded asked (Denied e) now) before unsigned first,
  grace-after asked e now c.grace before unsigned refusal first h,
)
refused-after asked e now false c before unsigned refusal first h = (
  (now, (unsigned, inr (refusal, refl))),
  grace-goes_on c.grace (responded asked (Denied e) now) before unsigned h,
)

refusal-history : (checks checked : Bool) (asked : Asked) (e : ErrorReply) (now : ℕ) (d : Doubts) (before : List DoubtCall)
    → is_signed (responded asked (Denied e) now) ≡ false → (not e.is_taken && has_code 401 e) ≡ true
    → IsHistory checks d before
    → IsHistory checks (after_refusal now (record d { checks = checked })) (responded asked (Denied e) now ∷ before)
refusal-history checks true asked e now d before unsigned refusal h =
    let call = responded asked (Denied e) now in
    let keeps = first-keeps (is_first_refusal d.credentials) d.suspicion in
    let after = refused-after asked e now d.credentials.is_refused d.credentials before unsigned refusal h.refused h.grace in
    record {
      questions = rw (keeps.0, keeps.1) (questions-go_on checks d.suspicion.deadline d.suspicion.unanswered call before refl h.questions);
      refused = after.0;
      grace = after.1;
    }
refusal-history checks false asked e now d before unsigned refusal h =
    kept checks d (record d { checks = false }) (responded asked (Denied e) now ∷ before) (record { deadline = refl; unanswered = refl; credentials = refl })
    (goes-on checks (responded asked (Denied e) now) d before refl unsigned h)

-- an error, accepted or not, a challenge or not, a 401 or not
error-history : (checks taken challenge is_401 : Bool) (asked : Asked) (e : ErrorReply) (now : ℕ) (d : Doubts) (before : List DoubtCall)
    → e.is_taken ≡ taken → is_challenge e ≡ challenge → has_code 401 e ≡ is_401
    → IsHistory checks d before → IsHistory checks (after_error e now d) (responded asked (Denied e) now ∷ before)
error-history checks true false is_401 asked e now d before t c f h =
    let is : after_error e now d ≡ after_signed d = rw (t, c) refl in
    subst (λ (x : Doubts). IsHistory checks x (responded asked (Denied e) now ∷ before)) (sym is)
    (signed-history checks (responded asked (Denied e) now) d before refl h)
error-history checks true true is_401 asked e now d before t c f h =
    let is : after_error e now d ≡ d = rw (t, c) refl in
    let unsigned : (e.is_taken && not (is_challenge e)) ≡ false = rw (t, c) refl in
    subst (λ (x : Doubts). IsHistory checks x (responded asked (Denied e) now ∷ before)) (sym is)
    (goes-on checks (responded asked (Denied e) now) d before refl unsigned h)
error-history checks false challenge true asked e now d before t c f h =
    let is : after_error e now d ≡ after_refusal now d = rw (t, f) refl in
    let unsigned : (e.is_taken && not (is_challenge e)) ≡ false = rw t refl in
    let refusal : (not e.is_taken && has_code 401 e) ≡ true = rw (t, f) refl in
    subst (λ (x : Doubts). IsHistory checks x (responded asked (Denied e) now ∷ before)) (sym is)
    (refusal-history checks d.checks asked e now d before unsigned refusal h)
error-history checks false challenge false asked e now d before t c f h =
    let is : after_error e now d ≡ d = rw (t, f) refl in
    let unsigned : (e.is_taken && not (is_challenge e)) ≡ false = rw t refl in
    subst (λ (x : Doubts). IsHistory checks x (responded asked (Denied e) now ∷ before)) (sym is)
    (goes-on checks (responded asked (Denied e) now) d before refl unsigned h)

-- a server that does not know the allocation
denial-keeps : (forgotten : Bool) (a : Doubts) → Keeps a (if forgotten then after_doubt a else a)
denial-keeps true a = doubt-keeps a.checks a
denial-keeps false a = same a

response-history : (checks : Bool) (asked : Asked) (said : Said) (now : ℕ) (d : Doubts) (before : List DoubtCall)
    → IsHistory checks d before
    → IsHistory checks (after_response (record { asked = asked; said = said }) now d) (responded asked said now ∷ before)
response-history checks asked (Granted lifetime) now d before h = signed-history checks (responded asked (Granted lifetime) now) d before refl h
response-history checks asked Nothing now d before h = goes-on checks (responded asked Nothing now) d before refl refl h
response-history checks asked (Denied e) now d before h =
    let a = after_error e now d in
    kept checks a (after_denial e now d) (responded asked (Denied e) now ∷ before) (denial-keeps (is_forgotten e.code) a)
    (error-history checks e.is_taken (is_challenge e) (has_code 401 e) asked e now d before refl refl refl h)

-- ---- each call but a poll

pub doubted : (checks : Bool) (d : Doubts) (before : List DoubtCall) → IsHistory checks d before
    → IsHistory checks (after_doubt d) (Doubted ∷ before)
doubted checks d before h =
    kept checks d (after_doubt d) (Doubted ∷ before) (doubt-keeps d.checks d) (goes-on checks Doubted d before refl refl h)

pub moved : (checks : Bool) (d : Doubts) (before : List DoubtCall) → IsHistory checks d before
    → IsHistory checks (Doubting.after_move d) (Moved ∷ before)
moved checks d before h =
    kept checks d (Doubting.after_move d) (Moved ∷ before) (record { deadline = refl; unanswered = refl; credentials = refl })
    (goes-on checks Moved d before refl refl h)

pub asked : (checks : Bool) (asking : Asking) (d : Doubts) (before : List DoubtCall) → IsHistory checks d before
    → IsHistory checks (after_asking asking d) (WasAsked asking ∷ before)
asked checks asking d before h =
    kept checks d (after_asking asking d) (WasAsked asking ∷ before) (asking-keeps asking d)
    (goes-on checks (WasAsked asking) d before refl refl h)

pub heard : (checks : Bool) (r : Response) (now : ℕ) (d : Doubts) (before : List DoubtCall) → IsHistory checks d before
    → IsHistory checks (after_response r now d) (Responded r now ∷ before)
heard checks r now d before h = response-history checks r.asked r.said now d before h
