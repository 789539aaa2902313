-- A handshake that meets all premises.
use Rattle.turn_client_laws.proofs.Common.{◌≡◌, ◌∙◌, ℕ, ◌+◌, ◌^◌, ◌<◌, ◌≤◌, true, false, List, [], ◌∷◌, ◌++◌, length, Some, ap, arith, eqb, inl, inr, refl, subst, sym}
use Rattle.turn_client_laws.proofs.Common.{cases_Bool, eqb-true, SocketAddr}
use Rattle.turn_client_laws.proofs.Machine.{seen_after, attributes_of, id_of, type_of, AddsAttribute, IsWritten, header_of, with_attribute, Error, Transmit, IsMessage-no_fault, attributes_of-is}
use Rattle.turn_client_laws.proofs.Machine.{Challenge, is_unsigned, with_integrity, IsValidated, held_key, validation_of, first_sent, behind_id, next_id, Transaction, Config, State, auth_of, Udp}
use Rattle.turn_client_laws.proofs.Machine.{AllocationCreated, Requesting, Authenticating, Allocated, PollTransmit, Recv, ForAllocation, FitsPhaseForPoll, HasAllocation, refresh_time, same_transport}
use Rattle.turn_client_laws.proofs.Machine.{allocate_granted, new_allocation, relayed_in, transaction_ended, Challenged, answers_allocate, answers_one, challenge_in, class_in, judgement_of}
use Rattle.turn_client_laws.proofs.Machine.{lifetime_in, Outcome, is_message, message_step, signed_step, poll_step, first_allocate, fresh_id, is_taken, listings, request_for, to_server, state_after}
use Rattle.turn_client_laws.proofs.Machine.{state_after_all, same_address-self}
use Rattle.turn_client_laws.proofs.Laws.{relayed_v4}
use Rattle.turn_stun.specs.MessageType.{class_of}
use Rattle.turn_stun.specs.XorAddress.{xor_value}
use Rattle.turn_stun.proofs.WriteLemmas.{IsWritten-IsMessage, header_of-IsMessage, header_of-IsWritten, with_attribute-AddsAttribute, with_attribute-IsWritten}
use Rattle.turn_types.specs.Values.{number_value}
use Rattle.turn_auth.specs.declared.integrity.IntegrityAlgorithm.TheVariants.{Sha1}
use Rattle.turn_client_api.specs.declared.poll.TurnPollRet.TheVariants.{WaitUntil}
use Rattle.turn_client_runs.specs.Handshake.{IsAllocating, IsFirstChallenge, RunsHandshake}
use Rattle.turn_client_runs.specs.HandshakeRows.{HandshakeIsWorked, allocated_text, allocation_packet, challenge_text, handshake_calls, new_client}
use Rattle.turn_client_runs.specs.Lasting.{HoldsAtMost, queue_ahead}
use Rattle.turn_client_runs.specs.OnTime.{IsFromServer, IsInTime}
use Rattle.turn_client_runs.specs.Server.{from_server}
use Rattle.turn_client_runs.proofs.HandshakeLemmas.{run-steadily, second-judged, small-id}
use Rattle.turn_client_runs.proofs.LastingRowLemmas.{all-none, all-one, at-once, eqb-self, on-time}
use Rattle.turn_client_runs.proofs.LastingRuns.{arrives}
use Rattle.turn_client_runs.proofs.LastingStands.{ahead-queued}
use Rattle.turn_client_runs.proofs.ServerLemmas.{holds-true}
use Rattle.turn_client_runs.proofs.SignedBytes.{mac-added, signed-holds, signed-message}

-- ---- the challenge

abbrev pub held : Challenge
held = record { realm = 0x72 ∷ 0x65 ∷ 0x61 ∷ 0x6c ∷ 0x6d ∷ []; nonce = 0x6e ∷ 0x6f ∷ 0x6e ∷ 0x63 ∷ 0x65 ∷ []; algorithm = Sha1; password_algorithms = [] }

module _ (id : ℕ) (i : id < 2 ^ 96) where
  abbrev header : List ℕ
  header = header_of 0x0113 id

  abbrev with_code : List ℕ
  with_code = with_attribute 0x0009 (0 ∷ 0 ∷ 4 ∷ 1 ∷ []) header

  abbrev with_realm : List ℕ
  with_realm = with_attribute 0x0014 held.realm with_code

  header-written : IsWritten header
  header-written = header_of-IsWritten 0x0113 id (omega arith) i

  code-len : length with_code ≡ 28
  unfolding with_attribute
  code-len = refl

  realm-len : length with_realm ≡ 40
  unfolding with_attribute
  realm-len = refl

  code-written : IsWritten with_code
  code-written = with_attribute-IsWritten 0x0009 (0 ∷ 0 ∷ 4 ∷ 1 ∷ []) header header-written (omega arith) (omega arith)

  code-added : AddsAttribute header with_code 0x0009 (0 ∷ 0 ∷ 4 ∷ 1 ∷ [])
  code-added = with_attribute-AddsAttribute 0x0009 (0 ∷ 0 ∷ 4 ∷ 1 ∷ []) header header-written (omega arith) (omega arith)

  realm-written : IsWritten with_realm
  realm-written = with_attribute-IsWritten 0x0014 held.realm with_code code-written (omega arith) (omega (arith, code-len))

  realm-added : AddsAttribute with_code with_realm 0x0014 held.realm
  realm-added = with_attribute-AddsAttribute 0x0014 held.realm with_code code-written (omega arith) (omega (arith, code-len))

  nonce-written : IsWritten (challenge_text id)
  nonce-written = with_attribute-IsWritten 0x0015 held.nonce with_realm realm-written (omega arith) (omega (arith, realm-len))

  nonce-added : AddsAttribute with_realm (challenge_text id) 0x0015 held.nonce
  nonce-added = with_attribute-AddsAttribute 0x0015 held.nonce with_realm realm-written (omega arith) (omega (arith, realm-len))

  pub challenge-id : id_of (challenge_text id) ≡ id
  challenge-id = nonce-added.id ∙ realm-added.id ∙ code-added.id ∙ (header_of-IsMessage 0x0113 id (omega arith) i).has_id

  pub challenge-type : type_of (challenge_text id) ≡ 0x0113
  challenge-type = nonce-added.type ∙ realm-added.type ∙ code-added.type ∙ (header_of-IsMessage 0x0113 id (omega arith) i).has_type

  pub challenge-attributes : attributes_of (challenge_text id)
      ≡ record { offset = length header; kind = 0x0009; value = 0 ∷ 0 ∷ 4 ∷ 1 ∷ [] }
      ∷ record { offset = length with_code; kind = 0x0014; value = held.realm }
      ∷ record { offset = length with_realm; kind = 0x0015; value = held.nonce }
      ∷ []
  challenge-attributes = rw (nonce-added.attributes, realm-added.attributes, code-added.attributes, attributes_of-is header 0x0113 id [] (header_of-IsMessage 0x0113 id (omega arith) i)) refl

  pub challenge-message : is_message (challenge_text id) ≡ true
  challenge-message = rw (IsMessage-no_fault (challenge_text id) _ _ _ (IsWritten-IsMessage (challenge_text id) nonce-written)) refl

-- ---- the success to an ALLOCATE

module _ (id : ℕ) (i : id < 2 ^ 96) (s : State) (holds : s.held ≡ Some held) where
  abbrev pub start : List ℕ
  start = header_of 0x0103 id

  abbrev pub with_address : List ℕ
  with_address = with_attribute 0x0016 (xor_value relayed_v4 id) start

  abbrev pub base : List ℕ
  base = with_attribute 0x000d (number_value 600) with_address

  abbrev pub key : List ℕ
  key = held_key s.config.credentials held

  start-written : IsWritten start
  start-written = header_of-IsWritten 0x0103 id (omega arith) i

  address-len : length with_address ≡ 32
  unfolding with_attribute
  address-len = refl

  base-len : length base ≡ 40
  unfolding with_attribute
  base-len = refl

  address-written : IsWritten with_address
  address-written = with_attribute-IsWritten 0x0016 (xor_value relayed_v4 id) start start-written (omega arith) (omega arith)

  address-added : AddsAttribute start with_address 0x0016 (xor_value relayed_v4 id)
  address-added = with_attribute-AddsAttribute 0x0016 (xor_value relayed_v4 id) start start-written (omega arith) (omega arith)

  base-written : IsWritten base
  base-written = with_attribute-IsWritten 0x000d (number_value 600) with_address address-written (omega arith) (omega (arith, address-len))

  base-added : AddsAttribute with_address base 0x000d (number_value 600)
  base-added = with_attribute-AddsAttribute 0x000d (number_value 600) with_address address-written (omega arith) (omega (arith, address-len))

  base-attributes : attributes_of base
      ≡ record { offset = length start; kind = 0x0016; value = xor_value relayed_v4 id } ∷ record { offset = length with_address; kind = 0x000d; value = number_value 600 } ∷ []
  base-attributes = rw (base-added.attributes, address-added.attributes, attributes_of-is start 0x0103 id [] (header_of-IsMessage 0x0103 id (omega arith) i)) refl

  base-plain : is_unsigned (attributes_of base) ≡ true
  base-plain = rw base-attributes refl

  base-type : type_of base ≡ 0x0103
  base-type = base-added.type ∙ address-added.type ∙ (header_of-IsMessage 0x0103 id (omega arith) i).has_type

  abbrev pub success-text : List ℕ
  success-text = with_integrity Sha1 key base

  pub success-is : allocated_text s id ≡ success-text
  success-is = rw (holds, base-type) refl

  pub success-type : type_of success-text ≡ 0x0103
  success-type = (mac-added base base-written base-plain (omega (arith, base-len)) (omega (arith, base-len)) Sha1 key).type ∙ base-type

  pub success-id : id_of success-text ≡ id
  success-id = (mac-added base base-written base-plain (omega (arith, base-len)) (omega (arith, base-len)) Sha1 key).id
      ∙ base-added.id ∙ address-added.id ∙ (header_of-IsMessage 0x0103 id (omega arith) i).has_id

  pub success-lifetime : lifetime_in success-text ≡ Some 600
  unfolding seen_after
  success-lifetime = rw ((mac-added base base-written base-plain (omega (arith, base-len)) (omega (arith, base-len)) Sha1 key).attributes, base-attributes) refl

  pub success-relayed : relayed_in success-text ≡ relayed_v4 ∷ []
  unfolding seen_after
  success-relayed = rw ((mac-added base base-written base-plain (omega (arith, base-len)) (omega (arith, base-len)) Sha1 key).attributes, base-attributes) refl

  pub success-validated : IsValidated (validation_of (auth_of s) success-text)
  success-validated = rw (ap class_of success-type, holds, holds-true success-text Sha1 key (signed-holds base base-written base-plain (omega (arith, base-len)) (omega (arith, base-len)) Sha1 key)) tt

  pub success-message : is_message success-text ≡ true
  success-message = signed-message base base-written base-plain (omega (arith, base-len)) (omega (arith, base-len)) Sha1 key

-- ---- the states

module _ (local remote : SocketAddr) (config : Config) (seed : List ℕ) where
  abbrev pub h0 : State
  h0 = new_client local remote config seed

  abbrev pub requested : ℕ → List ℕ → State
  requested id text = record h0 {
    phase = Requesting;
    ids = behind_id h0.ids;
    transactions = first_sent id remote 0 text ∷ [];
    listed = listings id (ForAllocation ∷ []);
    last_send = Some 0;
  }

  -- the challenge was taken, and the second request is queued
  abbrev pub challenged : ℕ → ℕ → List ℕ → State
  challenged id other text = record h0 {
    phase = Authenticating;
    ids = behind_id (behind_id h0.ids);
    held = Some held;
    challenges = 1;
    transactions = first_sent other remote 100_000_000 text ∷ [];
    listed = listings id (ForAllocation ∷ []) ++ listings other (ForAllocation ∷ []);
    queue = record { packet = to_server h0 local text; is_request = true } ∷ [];
    last_send = Some 0;
  }

  abbrev pub asked : ℕ → ℕ → List ℕ → State
  asked id other text = record (challenged id other text) { queue = []; last_send = Some 100_000_000 }

  abbrev pub text-again : ℕ → List ℕ → List ℕ
  text-again id text =
      request_for (record (requested id text) { transactions = []; phase = Authenticating; challenges = 1; held = Some held }) ForAllocation (fresh_id (requested id text))

  second-small : (id : ℕ) (text : List ℕ) → fresh_id (requested id text) < 2 ^ 96
  second-small id text = small-id (λ c. is_taken c (requested id text)) id (next_id (behind_id h0.ids)) by
    where
      by : (c : ℕ) → is_taken c (requested id text) ≡ true → id ≡ c
      by c h = elim (cases_Bool (eqb id c)) [ inl e ↦ eqb-true id c e | inr e ↦ absurd (let no : false ≡ true = rw (← h) (rw e refl) in cc) ]

  reported-first : (id : ℕ) (text : List ℕ) → poll_step 0 (requested id text) ≡ (WaitUntil 500_000_000, requested id text)
  unfolding refresh_time
  reported-first id text = refl

  reported-second : (id other : ℕ) (text : List ℕ) → poll_step 100_000_000 (asked id other text) ≡ (WaitUntil 600_000_000, asked id other text)
  unfolding refresh_time
  reported-second id other text = refl

  judged : (message : List ℕ) (id : ℕ) (text : List ℕ) → id_of message ≡ id → class_in message ≡ Error → challenge_in (requested id text) message ≡ Some held
      → judgement_of (requested id text) message ≡ Challenged held
  judged message id text named error read =
      let answers : answers_one (requested id text) message ≡ true = rw (named, error, eqb-self id) refl in
      rw (answers, read) refl

  answered : (message : List ℕ) (id : ℕ) (text : List ℕ) → id_of message ≡ id → judgement_of (requested id text) message ≡ Challenged held
      → (message_step message 100_000_000 (requested id text)).1 ≡ challenged id (fresh_id (requested id text)) (text-again id text)
  answered message id text named is = rw is (rw (named, eqb-self id) refl)

  challenge-read : (id : ℕ) (text : List ℕ) → id < 2 ^ 96 → challenge_in (requested id text) (challenge_text id) ≡ Some held
  unfolding seen_after
  challenge-read id text i = rw (challenge-type id i, challenge-attributes id i) refl

  waiting-fits : (id other : ℕ) (text : List ℕ) → FitsPhaseForPoll (asked id other text)
  waiting-fits id other text = record { nothing_sent = λ new. cc; sent_before = λ not queued. refl; no_grants = λ before. refl }

  first-fits : (id : ℕ) (text : List ℕ) → FitsPhaseForPoll (requested id text)
  first-fits id text = record { nothing_sent = λ new. cc; sent_before = λ not queued. refl; no_grants = λ before. refl }

  from-there : (s : State) (bytes : List ℕ) → same_transport s.transport s.transport ≡ true → is_message bytes ≡ true → IsFromServer (from_server s bytes) s
  from-there s bytes over whole = record { from_server = rw (over, same_address-self s.remote) refl; to_client = same_address-self s.local; whole = whole }

  -- ---- the run

  abbrev pub id1 : ℕ
  id1 = fresh_id h0

  abbrev pub text1 : List ℕ
  text1 = first_allocate h0 id1

  abbrev pub h1 : State
  h1 = requested id1 text1

  abbrev pub id2 : ℕ
  id2 = fresh_id h1

  abbrev pub h2 : State
  h2 = challenged id1 id2 (text-again id1 text1)

  abbrev pub h3 : State
  h3 = asked id1 id2 (text-again id1 text1)

  abbrev pub challenge : Transmit (List ℕ)
  challenge = from_server h1 (challenge_text id1)

  sends : state_after (PollTransmit 0) h0 ≡ h1
  sends = refl

  first-small : id1 < 2 ^ 96
  first-small = omega arith

  first-judged : judgement_of h1 (challenge_text id1) ≡ Challenged held
  first-judged = judged (challenge_text id1) id1 text1 (challenge-id id1 first-small) (ap class_of (challenge-type id1 first-small)) (challenge-read id1 text1 first-small)

  arrives-first : IsFromServer challenge h1
  arrives-first = from-there h1 (challenge_text id1) refl (challenge-message id1 first-small)

  pub reached : state_after (Recv challenge 100_000_000) h1 ≡ h2
  reached = ap (λ (z : Outcome × State). z.1) (arrives challenge 100_000_000 h1 refl arrives-first) ∙ answered (challenge_text id1) id1 text1 (challenge-id id1 first-small) first-judged

  is-challenge : IsFirstChallenge challenge h1
  is-challenge = record {
    arrives = arrives-first;
    phase = refl;
    answers = rw (ap class_of (challenge-type id1 first-small), challenge-id id1 first-small, eqb-self id1) refl;
    challenge = rw (challenge-read id1 text1 first-small) refl;
  }

  third : RunsHandshake 100_000_000 100_000_000 (state_after (Recv challenge 100_000_000) h1) (PollTransmit 100_000_000 ∷ [])
  third = subst (λ (x : State). RunsHandshake 100_000_000 100_000_000 x (PollTransmit 100_000_000 ∷ [])) (sym reached) (
    record {
      on_time = at-once 100_000_000 h2 (omega arith);
      answered = all-one (λ (x : Transaction). 100_000_000 ≤ x.last_send + 100_000_000) (first_sent id2 remote 100_000_000 (text-again id1 text1)) (omega arith);
    },
    tt,
    tt,
  )

  runs : RunsHandshake 100_000_000 0 h0 (handshake_calls h0)
  runs = (
    record { on_time = at-once 0 h0 (omega arith); answered = all-none (λ (x : Transaction). 0 ≤ x.last_send + 100_000_000) },
    tt,
    (
      record {
        on_time = on-time 0 500_000_000 100_000_000 h1 (first-fits id1 text1) (all-none (HasAllocation h1)) (reported-first id1 text1) (omega arith) (omega arith) (omega arith) (omega arith);
        answered = all-one (λ (x : Transaction). 100_000_000 ≤ x.last_send + 100_000_000) (first_sent id1 remote 0 text1) (omega arith);
      },
      inl is-challenge,
      third,
    ),
  )

  abbrev pub last : State
  last = state_after_all h0 (handshake_calls h0)

  pub last-is : last ≡ h3
  last-is = ap (state_after (PollTransmit 100_000_000)) reached

  -- ---- the allocation

  pub second : id2 < 2 ^ 96
  second = second-small id1 text1

  abbrev pub bytes : List ℕ
  bytes = success-text id2 second h3 refl

  purposes : answers_allocate h3 bytes ≡ true
  purposes = elim (cases_Bool (eqb id1 id2)) [
    | inl e ↦ rw (ap class_of (success-type id2 second h3 refl), success-id id2 second h3 refl, e) refl
    | inr e ↦ rw (ap class_of (success-type id2 second h3 refl), success-id id2 second h3 refl, e, eqb-self id2) refl
  ]

  is-allocating : IsAllocating (from_server h3 bytes) h3
  is-allocating = record {
    arrives = from-there h3 bytes refl (success-message id2 second h3 refl);
    phase = refl;
    answers = purposes;
    success = ap class_of (success-type id2 second h3 refl);
    signed = success-validated id2 second h3 refl;
    outstanding = rw (success-id id2 second h3 refl, eqb-self id2) refl;
    lifetime = rw (success-lifetime id2 second h3 refl) refl;
    relayed = rw (success-relayed id2 second h3 refl) (λ none. cc);
  }

  next-is : state_after (Recv (from_server h3 bytes) 200_000_000) h3 ≡ allocate_granted bytes 200_000_000 (transaction_ended (id_of bytes) h3)
  next-is = ap (λ (z : Outcome × State). z.1) (arrives (from_server h3 bytes) 200_000_000 h3 refl is-allocating.arrives ∙ (judged-second ∙ refl))
    where
      judged-second : message_step bytes 200_000_000 h3 ≡ signed_step true bytes 200_000_000 h3
      judged-second = rw (second-judged bytes h3 refl purposes is-allocating.success is-allocating.signed is-allocating.outstanding) refl

  next-grants : (state_after (Recv (from_server h3 bytes) 200_000_000) h3).grants ≡ new_allocation 600 200_000_000 relayed_v4 ∷ []
  next-grants = ap (λ (x : State). x.grants) next-is ∙ rw (success-lifetime id2 second h3 refl, success-relayed id2 second h3 refl) refl

  next-queue : (state_after (Recv (from_server h3 bytes) 200_000_000) h3).queue ≡ []
  next-queue = ap (λ (x : State). x.queue) next-is ∙ rw (success-lifetime id2 second h3 refl) refl

  pub packet-is : allocation_packet h3 ≡ from_server h3 bytes
  packet-is = ap (from_server h3) (success-is id2 second h3 refl)

  few : (x : State) → x.queue ≡ [] → queue_ahead x ≤ 1
  few x e = let least = ahead-queued x in let none : length x.queue ≡ 0 = rw e refl in omega (arith, least, none)

  -- what is said of the last state
  abbrev Ends : State → Transmit (List ℕ) → Type 0
  Ends x packet =
      IsAllocating packet x × ((state_after (Recv packet 200_000_000) x).grants ≡ new_allocation 600 200_000_000 relayed_v4 ∷ [])
      × IsInTime 100_000_000 100_000_000 200_000_000 x × (x.queue ≡ []) × (lifetime_in packet.payload ≡ Some 600) × HoldsAtMost 3 1 (state_after (Recv packet 200_000_000) x)

  ends : Ends h3 (from_server h3 bytes)
  ends = (
    is-allocating,
    next-grants,
    record {
      on_time = on-time 100_000_000 600_000_000 200_000_000 h3 (waiting-fits id1 id2 (text-again id1 text1)) (all-none (HasAllocation h3)) (reported-second id1 id2 (text-again id1 text1))
          (omega arith) (omega arith) (omega arith) (omega arith);
      answered = all-one (λ (x : Transaction). 200_000_000 ≤ x.last_send + 100_000_000) (first_sent id2 remote 100_000_000 (text-again id1 text1)) (omega arith);
    },
    refl,
    success-lifetime id2 second h3 refl,
    (rw next-grants (omega arith), few (state_after (Recv (from_server h3 bytes) 200_000_000) h3) next-queue),
  )

  ends-last : Ends last (allocation_packet last)
  ends-last = subst (λ (x : State). Ends x (allocation_packet x)) (sym last-is) (subst (Ends h3) (sym packet-is) ends)

  -- ---- the state after it

  abbrev pub done : State
  done = record h3 {
    phase = Allocated;
    families = [];
    grants = new_allocation 600 200_000_000 relayed_v4 ∷ [];
    listed = [];
    transactions = [];
    events = AllocationCreated Udp relayed_v4 ∷ [];
  }

  pub done-after : state_after (Recv (from_server h3 bytes) 200_000_000) h3 ≡ done
  done-after = next-is ∙ rw (success-lifetime id2 second h3 refl, success-relayed id2 second h3 refl, success-id id2 second h3 refl, eqb-self id2) refl

  pub done-is : state_after (Recv (allocation_packet last) 200_000_000) last ≡ done
  done-is =
      ap (λ (x : State). state_after (Recv (allocation_packet x) 200_000_000) x) last-is
      ∙ (ap (λ (packet : Transmit (List ℕ)). state_after (Recv packet 200_000_000) h3) packet-is ∙ done-after)

pub handshake-is-worked : HandshakeIsWorked
handshake-is-worked local remote config seed =
    let (allocates, granted, in_time, empty, said, within) = ends-last local remote config seed in
    record {
      runs = runs local remote config seed;
      allocates = allocates;
      granted = granted;
      steady = run-steadily local remote (h0 local remote config seed).config seed 100_000_000 0 200_000_000
          (handshake_calls (h0 local remote config seed)) (allocation_packet (last local remote config seed)) 3 1 0 600 (omega arith) (omega arith)
          (runs local remote config seed) in_time allocates empty said (omega arith) (omega arith) within;
    }
