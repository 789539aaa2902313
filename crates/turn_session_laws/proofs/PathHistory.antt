-- What the calls of a path leave of what came before.
use Rattle.std.proofs.Common.{◌≡◌, ◌⊎◌, ℕ, true, not, List, [], ◌∷◌, Option, Some, None, refl, sym, ap, subst, inl, inr}
use Rattle.std.proofs.lemmas.Bool.{cases_Bool}
use Rattle.std.specs.Option.{option_map}
use Rattle.turn_stun.specs.declared.transport.TransportType.{TransportType}
use Rattle.turn_stun.specs.declared.transport.TransportType.TheVariants.{Udp, Tcp}
use Rattle.turn_agent.specs.TransactionIds.{Source}
use Rattle.turn_session_book.specs.declared.tags.Tag.{Tag}
use Rattle.turn_session_path.specs.FullStream.{since_received}
use Rattle.turn_session_path.specs.Path.{after_check, after_failure, after_full, after_room, first_path, probed_every}
use Rattle.turn_session_path.specs.PathResponses.{after_received, after_sign, check_with, is_error_request, probe_request, probe_response, respond_step}
use Rattle.turn_session_path.specs.Prober.{after_probe_answer}
use Rattle.turn_session_path.specs.declared.path.Path.{Path}
use Rattle.turn_session_path.specs.declared.path.PathCheck.{PathCheck}
use Rattle.turn_session_path.specs.declared.path.PathResponse.{PathResponse}
use Rattle.turn_session_path.specs.declared.path.PathResponse.TheVariants.{Other, Check, Own}
use Rattle.turn_session_path.specs.declared.round.CheckRequest.{CheckRequest}
use Rattle.turn_session_path.specs.declared.socket_errors.ErrorRun.{ErrorRun}
use Rattle.turn_session_laws.specs.PathRuns.{PathCall, is_answer, is_quiet, is_still_full, path_after, step}
use Rattle.turn_session_laws.specs.PathRuns.PathCall.{Received, Responded, Failed, Full, Room, Probed}
use Rattle.turn_session_laws.proofs.PathErrors.{Errors, errors-go_on, failed}
use Rattle.turn_session_laws.proofs.PathFull.{IsFull, fills, sign-full, still-full}
use Rattle.turn_session_laws.proofs.PathSilence.{ProbesOf, answered-none, probes-go_on, received-none}

pub record IsHistory (first p : Path) (before : List PathCall) : Type 0 where
  pub probes : ProbesOf first p.prober before
  pub errors : Errors first p.errors.run before
  pub full : IsFull first p.full.since before

-- ---- a new path

probed-none : (first : Path) (now : ℕ) (every : Option ℕ) (calls : List PathCall) → ProbesOf first (probed_every now every) calls
probed-none first now None calls = tt
probed-none first now (Some time) calls = tt

pub new-history : (transport : TransportType) (every : Option ℕ) (ids : Source) (now : ℕ)
    → let first = first_path transport every ids now in IsHistory first first []
new-history transport every ids now =
    record { probes = probed-none (first_path transport every ids now) now every []; errors = tt; full = tt }

-- ---- calls that change neither probes nor errors nor a full stream

pub record Keeps (p q : Path) : Type 0 where
  pub prober : q.prober ≡ p.prober
  pub errors : q.errors.run ≡ p.errors.run
  pub full : q.full.since ≡ p.full.since

pub kept-history : (first q : Path) (call : PathCall) (before : List PathCall) → Keeps (path_after first before) q
    → is_quiet call (path_after first before) ≡ true → is_still_full call (path_after first before) ≡ true
    → IsHistory first (path_after first before) before → IsHistory first q (call ∷ before)
kept-history first q call before keeps quiet still h = let p = path_after first before in record {
  probes = rw keeps.prober (probes-go_on first p.prober call before quiet h.probes);
  errors = rw keeps.errors (errors-go_on first p.errors.run call before quiet h.errors);
  full = rw keeps.full (still-full first p.full.since call before still h.full);
}

kept : (p : Path) → Keeps p p
kept p = record { prober = refl; errors = refl; full = refl }

pub checked-keeps : (ticket now : ℕ) (p : Path) (check : Option PathCheck) → Keeps p (after_check ticket now (record p { check = check }))
checked-keeps ticket now p None = record { prober = refl; errors = refl; full = refl }
checked-keeps ticket now p (Some check) = record { prober = refl; errors = refl; full = refl }

-- ---- what is received

-- an answer ends the silence
abbrev Answers : Path → ℕ → Path → PathResponse × Path → Type 0
Answers first now p x =
    (is_answer x.0 ≡ true) × ((calls : List PathCall) → ProbesOf first x.1.prober calls)
    × (x.1.errors.run ≡ None) × (x.1.full.since ≡ since_received now p.full.since)

abbrev after_answer : CheckRequest → ℕ → Path → Path
after_answer request now p = record (after_sign now p) { prober = option_map (after_probe_answer request now) p.prober }

probe-cases : (first : Path) (id now : ℕ) (p : Path) → (probe_response id now p ≡ (Other, p)) ⊎ Answers first now p (probe_response id now p)
probe-cases first id now p = by (probe_request id p.prober) refl
  where
    by : (request : Option CheckRequest) → probe_request id p.prober ≡ request
        → (probe_response id now p ≡ (Other, p)) ⊎ Answers first now p (probe_response id now p)
    by None is = inl (rw is refl)
    by (Some request) is =
        let same : probe_response id now p ≡ (Own, after_answer request now p) = rw is refl in
        inr (subst (Answers first now p) (sym same) (refl, λ calls. answered-none first request now p.prober calls, refl, refl))

respond-cases : (first : Path) (id now : ℕ) (p : Path) → (respond_step id now p ≡ (Other, p)) ⊎ Answers first now p (respond_step id now p)
respond-cases first id now p = by (check_with id p.check) refl
  where
    by : (ticket : Option ℕ) → check_with id p.check ≡ ticket → (respond_step id now p ≡ (Other, p)) ⊎ Answers first now p (respond_step id now p)
    by (Some ticket) is =
        let same : respond_step id now p ≡ (Check ticket, record (after_received now p) { check = None }) = rw is refl in
        inr (subst (Answers first now p) (sym same) (refl, λ calls. received-none first now p.prober calls, refl, refl))
    by None is = elim (cases_Bool (is_error_request id p.error_request)) [
      | inl own ↦
          let same : respond_step id now p ≡ (Own, after_received now p) = rw (is, own) refl in
          inr (subst (Answers first now p) (sym same) (refl, λ calls. received-none first now p.prober calls, refl, refl))
      | inr other ↦
          let same : respond_step id now p ≡ probe_response id now p = rw (is, other) refl in
          subst (λ (x : PathResponse × Path). (x ≡ (Other, p)) ⊎ Answers first now p x) (sym same) (probe-cases first id now p)
    ]

pub received : (first : Path) (now : ℕ) (before : List PathCall)
    → IsHistory first (path_after first before) before → IsHistory first (after_received now (path_after first before)) (Received now ∷ before)
received first now before h = let p = path_after first before in record {
  probes = received-none first now p.prober (Received now ∷ before);
  errors = tt;
  full = sign-full first now p.full.since (Received now) before refl h.full;
}

pub responded : (first : Path) (id now : ℕ) (before : List PathCall)
    → IsHistory first (path_after first before) before → IsHistory first (respond_step id now (path_after first before)).1 (Responded id now ∷ before)
responded first id now before h = let p = path_after first before in elim (respond-cases first id now p) [
  | inl same ↦
      let quiet : not (is_answer (respond_step id now p).0) ≡ true = ap (λ (x : PathResponse × Path). not (is_answer x.0)) same in
      let keeps : Keeps p (respond_step id now p).1 = subst (λ (x : PathResponse × Path). Keeps p x.1) (sym same) (kept p) in
      kept-history first (respond_step id now p).1 (Responded id now) before keeps quiet quiet h
  | inr answer ↦ record {
    probes = answer.1 (Responded id now ∷ before);
    errors = subst (λ (run : Option ErrorRun). Errors first run (Responded id now ∷ before)) (sym answer.2) tt;
    full = subst (λ (since : Option ℕ). IsFull first since (Responded id now ∷ before)) (sym answer.3)
        (sign-full first now p.full.since (Responded id now) before (answer.0, refl) h.full);
  }
]

-- ---- an error of the socket

pub failed-by : (first : Path) (tag : Tag) (now : ℕ) (before : List PathCall) (p : Path) (transport : TransportType)
    → IsHistory first p before → IsHistory first (after_failure tag now (record p { transport = transport })) (Failed tag now ∷ before)
failed-by first tag now before p Udp h = record {
  probes = probes-go_on first p.prober (Failed tag now) before refl h.probes;
  errors = failed first tag now p.errors.run before h.errors;
  full = still-full first p.full.since (Failed tag now) before refl h.full;
}
failed-by first tag now before p Tcp h = record {
  probes = probes-go_on first p.prober (Failed tag now) before refl h.probes;
  errors = errors-go_on first p.errors.run (Failed tag now) before refl h.errors;
  full = still-full first p.full.since (Failed tag now) before refl h.full;
}

-- ---- each call but a poll

pub filled : (first : Path) (now : ℕ) (before : List PathCall)
    → IsHistory first (path_after first before) before → IsHistory first (after_full now (path_after first before)) (Full now ∷ before)
filled first now before h = let p = path_after first before in record {
  probes = probes-go_on first p.prober (Full now) before refl h.probes;
  errors = errors-go_on first p.errors.run (Full now) before refl h.errors;
  full = fills first now p.full.since before h.full;
}

pub roomy : (first : Path) (before : List PathCall)
    → IsHistory first (path_after first before) before → IsHistory first (after_room (path_after first before)) (Room ∷ before)
roomy first before h = let p = path_after first before in record {
  probes = probes-go_on first p.prober Room before refl h.probes;
  errors = errors-go_on first p.errors.run Room before refl h.errors;
  full = tt;
}

pub probed : (first : Path) (every : Option ℕ) (now : ℕ) (before : List PathCall)
    → IsHistory first (path_after first before) before → IsHistory first (step (Probed every now) (path_after first before)) (Probed every now ∷ before)
probed first every now before h = let p = path_after first before in record {
  probes = probed-none first now every (Probed every now ∷ before);
  errors = errors-go_on first p.errors.run (Probed every now) before refl h.errors;
  full = still-full first p.full.since (Probed every now) before refl h.full;
}
