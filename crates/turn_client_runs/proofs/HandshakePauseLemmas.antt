-- A handshake in which the second request waits for the pause.
use Rattle.turn_client_laws.proofs.Common.{◌≡◌, ◌∙◌, ℕ, ◌+◌, ◌^◌, ◌<◌, ◌≤◌, true, false, List, [], ◌∷◌, ◌++◌, None, Option, Some, ap, arith, eqb, inl, inr, refl, subst, sym, cases_Bool, eqb-true}
use Rattle.turn_client_laws.proofs.Common.{lt-ltb}
use Rattle.turn_client_laws.proofs.Common.{SocketAddr, if◌then◌else◌}
use Rattle.turn_client_laws.proofs.Machine.{seen_after, id_in_header, id_of, Error, Transmit, first_sent, behind_id, next_id, Transaction, Config, State, max_time, pause_end, is_paused, reply_step}
use Rattle.turn_client_laws.proofs.Machine.{Requesting, Authenticating, PollTransmit, Recv, ForAllocation, FitsPhaseForPoll, HasAllocation, refresh_time, same_transport, is_for_allocation, Has}
use Rattle.turn_client_laws.proofs.Machine.{Listing}
use Rattle.turn_client_laws.proofs.Machine.{allocate_granted, new_allocation, transaction_ended, Challenged, answers_allocate, answers_one, challenge_in, class_in, judgement_of, next_transmit}
use Rattle.turn_client_laws.proofs.Machine.{Outcome, message_step, signed_step, poll_step, first_allocate, fresh_id, is_taken, listings, request_for, to_server, state_after, queue_step, is_message}
use Rattle.turn_client_laws.proofs.Machine.{state_after_all, same_address-self}
use Rattle.turn_client_laws.proofs.Laws.{not_due-transmit, relayed_v4}
use Rattle.turn_stun.specs.MessageType.{class_of}
use Rattle.turn_client_api.specs.declared.poll.TurnPollRet.TheVariants.{WaitUntil}
use Rattle.turn_client_runs.specs.Handshake.{IsAllocating, IsFirstChallenge, RunsHandshake}
use Rattle.turn_client_runs.specs.HandshakeRows.{PausedHandshakeIsWorked, allocation_packet, challenge_text, new_client, paused_calls}
use Rattle.turn_client_runs.specs.LastingBursts.{timed}
use Rattle.turn_client_runs.specs.OnTime.{IsFromServer, IsInTime}
use Rattle.turn_client_runs.specs.Server.{from_server}
use Rattle.turn_client_runs.proofs.HandshakeLemmas.{IsAsked, IsPlain, IsWaiting, no-due, second-judged, second-listed, small-id, waiting-left}
use Rattle.turn_client_runs.proofs.HandshakeRowLemmas.{challenge-attributes, challenge-id, challenge-message, challenge-type, held, success-id, success-is, success-lifetime, success-message}
use Rattle.turn_client_runs.proofs.HandshakeRowLemmas.{success-relayed}
use Rattle.turn_client_runs.proofs.HandshakeRowLemmas.{success-text, success-type, success-validated}
use Rattle.turn_client_runs.proofs.HeaderLemmas.{request-named}
use Rattle.turn_client_runs.proofs.LastingRowLemmas.{all-none, all-one, at-once, eqb-self, on-time}
use Rattle.turn_client_runs.proofs.LastingRuns.{arrives}

abbrev pub short : ℕ
short = 20_000_000

module _ (local remote : SocketAddr) (config : Config) (seed : List ℕ) where
  abbrev p0 : State
  p0 = timed (new_client local remote config seed)

  abbrev requested : ℕ → List ℕ → State
  requested id text = record p0 {
    phase = Requesting;
    ids = behind_id p0.ids;
    transactions = first_sent id remote 0 text ∷ [];
    listed = listings id (ForAllocation ∷ []);
    last_send = Some 0;
  }

  -- the challenge was taken, and the second request is queued
  abbrev challenged : ℕ → ℕ → List ℕ → State
  challenged id other text = record p0 {
    phase = Authenticating;
    ids = behind_id (behind_id p0.ids);
    held = Some held;
    challenges = 1;
    transactions = first_sent other remote max_time text ∷ [];
    listed = listings id (ForAllocation ∷ []) ++ listings other (ForAllocation ∷ []);
    queue = record { packet = to_server p0 local text; is_request = true } ∷ [];
    last_send = Some 0;
  }

  -- it was sent at the end of the pause, and awaits its response from then on
  abbrev asked : ℕ → ℕ → List ℕ → State
  asked id other text = record (challenged id other text) { queue = []; transactions = first_sent other remote 50_000_000 text ∷ []; last_send = Some 50_000_000 }

  abbrev made_again : ℕ → List ℕ → State
  made_again id text = record (requested id text) { transactions = []; phase = Authenticating; challenges = 1; held = Some held }

  abbrev text-again : ℕ → List ℕ → List ℕ
  text-again id text = request_for (made_again id text) ForAllocation (fresh_id (requested id text))

  second-small : (id : ℕ) (text : List ℕ) → fresh_id (requested id text) < 2 ^ 96
  second-small id text = small-id (λ c. is_taken c (requested id text)) id (next_id (behind_id p0.ids)) by
    where
      by : (c : ℕ) → is_taken c (requested id text) ≡ true → id ≡ c
      by c h = elim (cases_Bool (eqb id c)) [ inl e ↦ eqb-true id c e | inr e ↦ absurd (let no : false ≡ true = rw (← h) (rw e refl) in cc) ]

  reported-first : (id : ℕ) (text : List ℕ) → poll_step 0 (requested id text) ≡ (WaitUntil 500_000_000, requested id text)
  unfolding refresh_time
  reported-first id text = refl

  reported-last : (id other : ℕ) (text : List ℕ) → poll_step 50_000_000 (asked id other text) ≡ (WaitUntil 550_000_000, asked id other text)
  unfolding refresh_time
  reported-last id other text = refl

  judged : (message : List ℕ) (id : ℕ) (text : List ℕ) → id_of message ≡ id → class_in message ≡ Error → challenge_in (requested id text) message ≡ Some held
      → judgement_of (requested id text) message ≡ Challenged held
  judged message id text named error read =
      let answers : answers_one (requested id text) message ≡ true = rw (named, error, eqb-self id) refl in
      rw (answers, read) refl

  answered : (message : List ℕ) (id : ℕ) (text : List ℕ) → id_of message ≡ id → judgement_of (requested id text) message ≡ Challenged held
      → (message_step message short (requested id text)).1 ≡ challenged id (fresh_id (requested id text)) (text-again id text)
  answered message id text named is = rw is (rw (named, eqb-self id) refl)

  challenge-read : (id : ℕ) (text : List ℕ) → id < 2 ^ 96 → challenge_in (requested id text) (challenge_text id) ≡ Some held
  unfolding seen_after
  challenge-read id text i = rw (challenge-type id i, challenge-attributes id i) refl

  last-fits : (id other : ℕ) (text : List ℕ) → FitsPhaseForPoll (asked id other text)
  last-fits id other text = record { nothing_sent = λ new. cc; sent_before = λ not queued. refl; no_grants = λ before. refl }

  first-fits : (id : ℕ) (text : List ℕ) → FitsPhaseForPoll (requested id text)
  first-fits id text = record { nothing_sent = λ new. cc; sent_before = λ not queued. refl; no_grants = λ before. refl }

  from-there : (s : State) (bytes : List ℕ) → same_transport s.transport s.transport ≡ true → is_message bytes ≡ true → IsFromServer (from_server s bytes) s
  from-there s bytes over whole = record { from_server = rw (over, same_address-self s.remote) refl; to_client = same_address-self s.local; whole = whole }

  -- ---- while the second request waits

  module _ (id other : ℕ) (text : List ℕ) (named : id_in_header text ≡ Some other) (now : ℕ) (range : now ≤ 50_000_000) where
    abbrev s : State
    s = challenged id other text

    abbrev x : Transaction
    x = first_sent other remote max_time text

    plain : IsPlain short now s
    plain = record {
      over_udp = refl;
      prompt = omega arith;
      answers = omega arith;
      grants = refl;
      closes = refl;
      events = refl;
      no_reply = refl;
      sent_before = omega arith;
      allocates = allocates;
    }
      where
        allocates : (l : Listing) → Has l s.listed → is_for_allocation l.purpose ≡ true
        allocates l (inl e) = rw e refl
        allocates l (inr (inl e)) = rw e refl
        allocates l (inr (inr none)) = absurd none

    awaits : IsAsked short now max_time s x
    awaits = record { only = refl; young = refl; sent = omega arith; heard = omega (arith, range) }

    waiting : IsWaiting now 50_000_000 s x
    waiting = record {
      timed = refl;
      packet = to_server p0 local text;
      queued = refl;
      named = named;
      listed = second-listed id other s refl;
      paused = omega arith;
      before = range;
    }

    -- nothing is sent within the pause
    silent : now < 50_000_000 → next_transmit now s ≡ None
    silent early =
        let within : is_paused now s ≡ true = lt-ltb now (pause_end s) (omega (arith, early)) in
        let none : (if is_paused now s then reply_step s else queue_step now s).0 ≡ None = rw within refl in
        ap (λ (z : Option (Transmit (List ℕ)) × State). z.0) (not_due-transmit now s (no-due short now max_time s x plain awaits (omega (arith, range)))) ∙ none

  -- at its end it is
  leaves : (id other : ℕ) (text : List ℕ) → id_in_header text ≡ Some other → state_after (PollTransmit 50_000_000) (challenged id other text) ≡ asked id other text
  leaves id other text named =
      waiting-left short 50_000_000 50_000_000 (challenged id other text) (first_sent other remote max_time text) (plain id other text named 50_000_000 (omega arith))
      (awaits id other text named 50_000_000 (omega arith)) (omega arith) refl (waiting id other text named 50_000_000 (omega arith)) (omega arith)

  -- ---- the run

  abbrev id1 : ℕ
  id1 = fresh_id p0

  abbrev text1 : List ℕ
  text1 = first_allocate p0 id1

  abbrev p1 : State
  p1 = requested id1 text1

  abbrev id2 : ℕ
  id2 = fresh_id p1

  abbrev text2 : List ℕ
  text2 = text-again id1 text1

  abbrev p2 : State
  p2 = challenged id1 id2 text2

  abbrev p3 : State
  p3 = asked id1 id2 text2

  abbrev challenge : Transmit (List ℕ)
  challenge = from_server p1 (challenge_text id1)

  first-small : id1 < 2 ^ 96
  first-small = omega arith

  second : id2 < 2 ^ 96
  second = second-small id1 text1

  text-named : id_in_header text2 ≡ Some id2
  text-named = request-named (made_again id1 text1) id2 second ForAllocation

  arrives-first : IsFromServer challenge p1
  arrives-first = from-there p1 (challenge_text id1) refl (challenge-message id1 first-small)

  reached : state_after (Recv challenge short) p1 ≡ p2
  reached =
      let named = challenge-id id1 first-small in
      ap (λ (z : Outcome × State). z.1) (arrives challenge short p1 refl arrives-first)
      ∙ answered (challenge_text id1) id1 text1 named (judged (challenge_text id1) id1 text1 named (ap class_of (challenge-type id1 first-small)) (challenge-read id1 text1 first-small))

  is-challenge : IsFirstChallenge challenge p1
  is-challenge = record {
    arrives = arrives-first;
    phase = refl;
    answers = rw (ap class_of (challenge-type id1 first-small), challenge-id id1 first-small, eqb-self id1) refl;
    challenge = rw (challenge-read id1 text1 first-small) refl;
  }

  third : RunsHandshake short short (state_after (Recv challenge short) p1) (PollTransmit 50_000_000 ∷ [])
  third = subst (λ (x : State). RunsHandshake short short x (PollTransmit 50_000_000 ∷ [])) (sym reached) (
    record {
      on_time = record { later = omega arith; in_range = omega arith; punctual = λ time after early. silent id1 id2 text2 text-named time (omega (arith, early)) early };
      answered = all-one (λ (x : Transaction). 50_000_000 ≤ x.last_send + short) (first_sent id2 remote max_time text2) (omega arith);
    },
    tt,
    tt,
  )

  runs : RunsHandshake short 0 p0 (paused_calls p0)
  runs = (
    record { on_time = at-once 0 p0 (omega arith); answered = all-none (λ (x : Transaction). 0 ≤ x.last_send + short) },
    tt,
    (
      record {
        on_time = on-time 0 500_000_000 short p1 (first-fits id1 text1) (all-none (HasAllocation p1)) (reported-first id1 text1) (omega arith) (omega arith) (omega arith) (omega arith);
        answered = all-one (λ (x : Transaction). short ≤ x.last_send + short) (first_sent id1 remote 0 text1) (omega arith);
      },
      inl is-challenge,
      third,
    ),
  )

  abbrev last : State
  last = state_after_all p0 (paused_calls p0)

  last-is : last ≡ p3
  last-is = ap (state_after (PollTransmit 50_000_000)) reached ∙ leaves id1 id2 text2 text-named

  -- ---- the allocation

  abbrev bytes : List ℕ
  bytes = success-text id2 second p3 refl

  purposes : answers_allocate p3 bytes ≡ true
  purposes = elim (cases_Bool (eqb id1 id2)) [
    | inl e ↦ rw (ap class_of (success-type id2 second p3 refl), success-id id2 second p3 refl, e) refl
    | inr e ↦ rw (ap class_of (success-type id2 second p3 refl), success-id id2 second p3 refl, e, eqb-self id2) refl
  ]

  is-allocating : IsAllocating (from_server p3 bytes) p3
  is-allocating = record {
    arrives = from-there p3 bytes refl (success-message id2 second p3 refl);
    phase = refl;
    answers = purposes;
    success = ap class_of (success-type id2 second p3 refl);
    signed = success-validated id2 second p3 refl;
    outstanding = rw (success-id id2 second p3 refl, eqb-self id2) refl;
    lifetime = rw (success-lifetime id2 second p3 refl) refl;
    relayed = rw (success-relayed id2 second p3 refl) (λ none. cc);
  }

  next-is : state_after (Recv (from_server p3 bytes) 70_000_000) p3 ≡ allocate_granted bytes 70_000_000 (transaction_ended (id_of bytes) p3)
  next-is = ap (λ (z : Outcome × State). z.1) (arrives (from_server p3 bytes) 70_000_000 p3 refl is-allocating.arrives ∙ (judged-second ∙ refl))
    where
      judged-second : message_step bytes 70_000_000 p3 ≡ signed_step true bytes 70_000_000 p3
      judged-second = rw (second-judged bytes p3 refl purposes is-allocating.success is-allocating.signed is-allocating.outstanding) refl

  next-grants : (state_after (Recv (from_server p3 bytes) 70_000_000) p3).grants ≡ new_allocation 600 70_000_000 relayed_v4 ∷ []
  next-grants = ap (λ (x : State). x.grants) next-is ∙ rw (success-lifetime id2 second p3 refl, success-relayed id2 second p3 refl) refl

  -- what is said of the last state
  abbrev Ends : State → Transmit (List ℕ) → Type 0
  Ends x packet =
      IsInTime short 50_000_000 70_000_000 x × (x.phase ≡ Authenticating) × IsAllocating packet x
      × ((state_after (Recv packet 70_000_000) x).grants ≡ new_allocation 600 70_000_000 relayed_v4 ∷ [])

  ends : Ends p3 (from_server p3 bytes)
  ends = (
    record {
      on_time = on-time 50_000_000 550_000_000 70_000_000 p3 (last-fits id1 id2 text2) (all-none (HasAllocation p3)) (reported-last id1 id2 text2)
          (omega arith) (omega arith) (omega arith) (omega arith);
      answered = all-one (λ (x : Transaction). 70_000_000 ≤ x.last_send + short) (first_sent id2 remote 50_000_000 text2) (omega arith);
    },
    refl,
    is-allocating,
    next-grants,
  )

  packet-is : allocation_packet p3 ≡ from_server p3 bytes
  packet-is = ap (from_server p3) (success-is id2 second p3 refl)

  ends-last : Ends last (allocation_packet last)
  ends-last = subst (λ (x : State). Ends x (allocation_packet x)) (sym last-is) (subst (Ends p3) (sym packet-is) ends)

pub paused-handshake-is-worked : PausedHandshakeIsWorked
paused-handshake-is-worked local remote config seed =
    let (in_time, waits, allocates, granted) = ends-last local remote config seed in
    record { runs = runs local remote config seed; in_time = in_time; waits = waits; allocates = allocates; granted = granted }
