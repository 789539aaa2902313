-- No grant is lost by a call.
use Rattle.turn_client_laws.proofs.Common.{◌≡◌, ◌⊎◌, ℕ, ◌+◌, ◌<◌, ◌≤◌, Bool, true, false, cond, not, ◌&&◌, eqb, List, [], ◌∷◌, ◌++◌, length, drop, Option, Some, None, refl, inl, inr, ap, sym, subst, ◌∙◌}
use Rattle.turn_client_laws.proofs.Common.{arith, filter, filter_map, not-true, is_some, IsSome, nat_lt, Result, Ok, Err, list_any, and_parts, eqb-true, eq-eqb, lt-leb, lt-ltb, or_right, option_map_or, SocketAddr, IpAddr}
use Rattle.turn_client_laws.proofs.Machine.{TransportType, channel_kept_step, is_in_progress, is_open_to, keep_step, permission_kept_step, with_marks, send_to_step, id_of, Error, Success, Udp}
use Rattle.turn_client_laws.proofs.Machine.{Transmit, IsValidated, validation_of, Validation, Validated, ResendRequest, Refused, due, is_outstanding, resent, Transaction, State, agent_of, auth_of}
use Rattle.turn_client_laws.proofs.Machine.{Allocated, Relay, Grant, Allocation, Permission, Channel, Listing, Purpose, allocations, is_past, is_permission_of, same_transport, purposes_of, Challenged}
use Rattle.turn_client_laws.proofs.Machine.{SignedSuccess, challenge_in, class_in, judgement_of, retried, state_after_retry, Challenge, transaction_ended, Handled, Ignored, Outcome, challenge_step}
use Rattle.turn_client_laws.proofs.Machine.{datagram_step, message_step, response_step, signed_step, bind_channel_step, create_permission_step, expired_at, poll_step, transmit_step, fresh_id}
use Rattle.turn_client_laws.proofs.Machine.{packet_step, to_server, state_after, state_after_all, Call, BindChannel, CreatePermission, Recv, Poll, PollTransmit, PollEvent, SendTo, SetChannelKept}
use Rattle.turn_client_laws.proofs.Machine.{SetPermissionKept, allocation-there, Has, filter-has, has-filter, map-has}
use Rattle.turn_client_laws.proofs.Laws.{any-has, has-any, purpose-with, send_to-by}
use Rattle.turn_client_api.specs.declared.error.KeepError.{KeepError}
use Rattle.turn_client_api.specs.declared.error.KeepError.TheVariants.{NotGranted}
use Rattle.turn_client_runs.specs.Late.{AreAnswered, IsCalm, IsGranting, IsMild, since_next}
use Rattle.std.specs.List.{AllByRecursion}
use Rattle.turn_client_laws.proofs.Laws.{DiffersInStreams, Input, InputsLead, TakesInput, calls-do, handled, processed}
use Rattle.turn_client_laws.proofs.Machine.{PollRecv, Stream, as_connection, connection_gone, filter-none, without_stream}
use Rattle.turn_client_laws.specs.LawsHandled.{IsStreamEnd}
use Rattle.turn_client_runs.specs.Granted.{ComesIn}
use Rattle.turn_client_runs.proofs.ComingLemmas.{inputs-come}
use Rattle.turn_client_runs.proofs.LastingPolls.{filter_map-none}
use Rattle.turn_client_runs.proofs.LastingNoise.{noise-changes-nothing}
use Rattle.turn_client_runs.specs.Lasting.{IsAnsweredChallenge, Answers, DatagramsAreMessages, IsQuiet, IsSuccess, expiry_of, queue_ahead, HoldsAtMost, SuccessesEndRequests}
use Rattle.turn_client_runs.proofs.MadeLemmas.{control-made, success-ends}
use Rattle.turn_client_runs.specs.OnTime.{IsFromServer, time_of}
use Rattle.turn_client_runs.specs.History.{History, is_replied, IsSeldom, extra_since, is_extra, lost, was_let_go, with_call}
use Rattle.turn_client_runs.proofs.LastingStands.{allocation-stands, kept-changed, kept-rest, stands-aside, Goes, IsRequested, goes-more, goes-trans, IsKept, Lag, Stands, stands-early, taken}
use Rattle.turn_client_runs.proofs.LastingCounts.{passes, passes-length}
use Rattle.turn_client_runs.proofs.LastingCalls.{Asks, asked-goes, asked-kept, binds, creates}
use Rattle.turn_client_runs.proofs.LastingAgain.{IsOneMore, goes-again, goes-retried, kept-again, kept-retried}
use Rattle.turn_client_runs.proofs.LastingHistory.{goes-row, same-row, GoesOn, extra-more, lost-more, call-extra, call-goes_on, call-made, goes-later, kept-later, none-over_yet}
use Rattle.turn_client_runs.proofs.LastingTime.{time-kept}
use Rattle.turn_client_runs.proofs.LastingPolls.{ArePlain, kept-aside, polls}
use Rattle.turn_client_runs.proofs.LastingTransmits.{transmit-kept}
use Rattle.turn_client_runs.proofs.LastingExpiry.{goes-left, kept-left}
use Rattle.turn_client_runs.proofs.LastingLeft.{IsPlain, IsTidy, is_lost, expired_at-passes}
use Rattle.turn_client_runs.proofs.LastingMarks.{goes-marked, kept-marked}
use Rattle.turn_client_runs.proofs.LastingReplies.{IsAnswered, IsGiven, all-answered, all-known}

-- ---- a success is processed

pub success-judged : (message : List ℕ) (s : State) → s.phase ≡ Allocated → class_in message ≡ Success → IsValidated (validation_of (auth_of s) message)
    → is_outstanding (id_of message) s.transactions ≡ true
    → judgement_of s message ≡ SignedSuccess
success-judged message s p c v o = by (validation_of (auth_of s) message) refl v
  where
    by : (w : Validation) → validation_of (auth_of s) message ≡ w → IsValidated w → judgement_of s message ≡ SignedSuccess
    by (Validated algorithm) e h = rw (p, c, e, o) (rw c refl)
    by (ResendRequest algorithm) e h = absurd h
    by (Refused integrity) e h = absurd h

-- over UDP the message is processed
pub arrives : (packet : Transmit (List ℕ)) (now : ℕ) (s : State) → s.transport ≡ Udp → IsFromServer packet s → packet_step packet now s ≡ message_step packet.payload now s
arrives packet now s udp is = datagram ∙ whole
  where
    datagram : packet_step packet now s ≡ datagram_step packet.payload now s
    datagram = rw (is.from_server, udp, is.to_client) refl

    whole : datagram_step packet.payload now s ≡ message_step packet.payload now s
    whole = rw is.whole refl

pub datagram-message : DatagramsAreMessages
datagram-message packet now s udp is = ap (λ (z : Outcome × State). z.1) (arrives packet now s udp is)

pub received : (packet : Transmit (List ℕ)) (now : ℕ) (s : State) → s.phase ≡ Allocated → IsSuccess packet now s → state_after (Recv packet now) s ≡ (response_step true packet.payload now s).1
received packet now s p is = is.message ∙ ap (λ (z : Outcome × State). z.1) (judged ∙ signed)
  where
    judged : message_step packet.payload now s ≡ signed_step true packet.payload now s
    judged = rw (success-judged packet.payload s p is.success is.signed is.outstanding) refl

    signed : signed_step true packet.payload now s ≡ response_step true packet.payload now s
    signed = rw p refl

-- the server has answered it
pub success-ended : SuccessesEndRequests
success-ended packet now s p is =
    subst (λ (x : State). is_outstanding (id_of packet.payload) x.transactions ≡ false) (sym is.message)
    (success-ends packet.payload now s (success-judged packet.payload s p is.success is.signed is.outstanding))

-- ---- what is left is kept

-- no grant is lost by the call
abbrev pub KeepsAll : ℕ → ℕ → ℕ → Lag → ℕ → ℕ → History → History → State → State → Type 0
KeepsAll count slots extras lag delay now past later s t = IsKept count slots extras lag delay now later t.transactions t × Goes past later s.transactions t.transactions s t

module _ (count slots extras : ℕ) (lag : Lag) (delay now : ℕ) (past : History) (s : State) (k : IsKept count slots extras lag delay now past s.transactions s)
    (message : List ℕ) (answers : Answers message (purposes_of (id_of message) s)) where
  abbrev id : ℕ
  id = id_of message

  abbrev ended : State
  ended = transaction_ended id s

  abbrev t : State
  t = (response_step true message now s).1

  still : (x : Transaction) → Has x ended.transactions → Has x s.transactions
  still x h = (has-filter (λ (x : Transaction). not (eqb x.id id)) x s.transactions h).0

  kept-ended : IsKept count slots extras lag delay now past s.transactions ended
  kept-ended = kept-rest count slots extras lag delay now past s.transactions s k lag.since s.queue s.last_send ended.transactions s.events s.ids s.closes (record {
    begins = k.begins;
    behind = k.behind;
    requests = k.requests;
    few = k.few;
    sent = k.sent;
    awaited = still;
    stands = λ g there. stands-aside count slots extras lag delay now past s.transactions ended.transactions s s.ids s.events s.closes g;
  })

  purpose-listed : (l : Listing) → Has l s.listed → l.id ≡ id → Has l.purpose (purposes_of id s)
  purpose-listed l there e = map-has (λ (l : Listing). l.purpose) l (filter (λ (l : Listing). eqb l.id id) s.listed) (filter-has (λ (l : Listing). eqb l.id id) l s.listed there (eq-eqb l.id id e))

  given : (p : Purpose) → Has p (purposes_of id ended) → IsGiven ended.grants p
  given p h = k.asked (record { id = id; purpose = p }) (purpose-with id p s h)

  done : IsAnswered count slots extras lag delay now past s.transactions (purposes_of id ended) ended t
  done = (all-answered message id count slots extras lag delay now past s.transactions ended kept-ended given answers).0

  -- a success of a request that is listed begins a row of challenges anew
  pub reset-answered : list_any (λ (l : Listing). eqb l.id id) s.listed ≡ true → t.challenges ≡ 0
  reset-answered some =
      let (l, there, e) = any-has (λ (l : Listing). eqb l.id id) s.listed some in
      (all-answered message id count slots extras lag delay now past s.transactions ended kept-ended given answers).1 l.purpose (purpose-listed l there (eqb-true l.id id e))

  -- what is listed under the ID is listed no more
  unlisted : (l : Listing) → Has l t.listed → l.id ≡ id → ⊥
  unlisted l h e = let (was, not) = done.listed l h in not (purpose-listed l was e)

  remains : (x : Transaction) → Has x s.transactions → (x.id ≡ id → ⊥) → Has x t.transactions
  remains x h other =
      subst (λ (xs : List Transaction). Has x xs) (sym done.outstanding)
      (filter-has (λ (x : Transaction). not (eqb x.id id)) x s.transactions h (by (eqb x.id id) refl))
    where
      by : (b : Bool) → eqb x.id id ≡ b → not (eqb x.id id) ≡ true
      by false e = rw e refl
      by true e = absurd (other (eqb-true x.id id e))

  -- what awaits another reply awaits it still
  requested-answered : (when : ℕ → Type 0) (g : Grant) → IsRequested when past s.transactions t.listed g → IsRequested when past t.transactions t.listed g
  requested-answered when g a = record {
    transaction = a.transaction;
    there = remains a.transaction a.there (λ e. unlisted a.listing a.within (sym a.same ∙ e));
    listing = a.listing;
    within = a.within;
    for = a.for;
    same = a.same;
    made = a.made;
  }

  stands-answered : (g : Grant) → Stands count slots extras lag delay now past s.transactions t g → Stands count slots extras lag delay now past t.transactions t g
  stands-answered g was = record {
    granted = was.granted;
    room = was.room;
    long = was.long;
    either = elim was.either [ inl a ↦ inl (requested-answered (λ made. made + delay < expiry_of g) g a) | inr idle ↦ inr idle ];
  }

  goes-answered : Goes past past s.transactions t.transactions s t
  goes-answered = record {
    let_go = done.goes.let_go;
    remain = done.goes.remain;
    follow = λ until g there waits pending none. elim (done.goes.follow until g there waits pending none) [
      | inl (here, still) ↦ inl (here, requested-answered (λ made. made ≤ until) g still)
      | inr is ↦ inr is
    ];
  }

  pub kept-answered : KeepsAll count slots extras lag delay now past past s t
  kept-answered = (
    kept-changed count slots extras lag delay now past past s.transactions t.transactions t (λ x h. refl) done.kept.seldom done.kept t.grants t.listed t.events t.challenges t.ids t.closes (record {
      row = done.kept.row;
      asked = done.kept.asked;
      size = done.kept.size;
      single = done.kept.single;
      linked = done.kept.linked;
      in_allocations = done.kept.in_allocations;
      known = done.kept.known;
      each = λ g there. elim (done.kept.each g there) [
        | inl (waits, pending) ↦ inl (waits, requested-answered (λ made. made ≤ now) g pending)
        | inr (inl stands) ↦ inr (inl (stands-answered g stands))
        | inr (inr loose) ↦ inr (inr loose)
      ];
    }),
    goes-answered,
  )

-- ---- each call

-- no grant and no request changes
pub goes-same : (past : History) (s t : State) → t.grants ≡ s.grants → t.transactions ≡ s.transactions → t.listed ≡ s.listed → Goes past past s.transactions t.transactions s t
goes-same past s t e f l =
    goes-more past s.transactions t.transactions s t e (λ x h. subst (λ (xs : List Transaction). Has x xs) (sym f) h) (λ m h. subst (λ (ls : List Listing). Has m ls) (sym l) h)

all-plain : (count slots extras : ℕ) (lag : Lag) (delay now : ℕ) (past : History) (s : State) → IsKept count slots extras lag delay now past s.transactions s → ArePlain s
all-plain count slots extras lag delay now past s k g there = elim (all-known count slots extras lag delay now past s.transactions s k g there) [
  | inl waits ↦ inl waits
  | inr (inl active) ↦ inr (inl active)
  | inr (inr (is, none)) ↦ inr (inr is)
]

tidy-of : (count slots extras : ℕ) (lag : Lag) (delay now : ℕ) (past : History) (s : State) → IsKept count slots extras lag delay now past s.transactions s → IsTidy s.grants s.listed
tidy-of count slots extras lag delay now past s k = record {
  refreshing = λ l h. (k.asked l h).0;
  single = k.single;
  linked = k.linked;
  plain = all-plain count slots extras lag delay now past s k;
}

-- the challenge is answered
pub challenge-judged : (message : List ℕ) (challenge : Challenge) (s : State) → s.phase ≡ Allocated
    → class_in message ≡ Error → challenge_in s message ≡ Some challenge → judgement_of s message ≡ Challenged challenge
challenge-judged message challenge s p c o = rw (p, c, o) refl

-- the request is made again, if it is known
abbrev pub retry_step : List ℕ → Challenge → ℕ → State → Outcome × State
retry_step message challenge now s =
    option_map_or (λ purpose. (Handled, state_after_retry s (id_of message) purpose challenge now)) (retried (purposes_of (id_of message) s)) (Ignored, s)

challenged : (packet : Transmit (List ℕ)) (now : ℕ) (past : History) (s : State) (challenge : Challenge) → s.phase ≡ Allocated
    → s.challenges < s.config.max_stale_nonces → IsAnsweredChallenge packet now past s → challenge_in s packet.payload ≡ Some challenge
    → state_after (Recv packet now) s ≡ (retry_step packet.payload challenge now s).1
challenged packet now past s challenge p few is o = is.message ∙ ap (λ (z : Outcome × State). z.1) (judged ∙ counted)
  where
    judged : message_step packet.payload now s ≡ challenge_step packet.payload challenge now s
    judged = rw (challenge-judged packet.payload challenge s p is.error o) refl

    counted : challenge_step packet.payload challenge now s ≡ retry_step packet.payload challenge now s
    counted = rw (lt-ltb s.challenges s.config.max_stale_nonces few) refl

-- ---- what streams bring

-- the streams are nothing to what is kept
stands-streams : (count slots extras : ℕ) (lag : Lag) (delay now : ℕ) (past : History) (xs : List Transaction) (s : State) (streams : List Stream) (g : Grant)
    → Stands count slots extras lag delay now past xs s g → Stands count slots extras lag delay now past xs (record s { streams = streams }) g
stands-streams count slots extras lag delay now past xs s streams g was = record {
  granted = was.granted;
  room = was.room;
  long = was.long;
  either = elim was.either [ inl a ↦ inl a | inr idle ↦ inr (record { unasked = idle.unasked; near = idle.near; soon = idle.soon; paused = idle.paused }) ];
}

kept-streams : (count slots extras : ℕ) (lag : Lag) (delay now : ℕ) (past : History) (xs : List Transaction) (s : State) (streams : List Stream)
    → IsKept count slots extras lag delay now past xs s → IsKept count slots extras lag delay now past xs (record s { streams = streams })
kept-streams count slots extras lag delay now past xs s streams k = record {
  phase = k.phase;
  requests = k.requests;
  few = k.few;
  prompt = k.prompt;
  paced = k.paced;
  begins = k.begins;
  behind = k.behind;
  pace = k.pace;
  sent = k.sent;
  aged = k.aged;
  lone = k.lone;
  begun = k.begun;
  heard = k.heard;
  seldom = k.seldom;
  row = k.row;
  asked = k.asked;
  size = k.size;
  single = k.single;
  linked = k.linked;
  in_range = k.in_range;
  in_allocations = k.in_allocations;
  known = k.known;
  each = λ g there. elim (k.each g there) [
    | inl waits ↦ inl waits
    | inr (inl stands) ↦ inr (inl (stands-streams count slots extras lag delay now past xs s streams g stands))
    | inr (inr loose) ↦ inr (inr loose)
  ];
}

-- Challenges are counted anew, or as before, and then each request that is listed and awaits its reply awaits it still.
abbrev pub SameRow : State → State → Type 0
SameRow s t =
    (t.challenges ≡ 0)
    ⊎ ((t.challenges ≡ s.challenges) × (t.listed ≡ s.listed)
    × ((id : ℕ) → list_any (λ l. eqb l.id id) s.listed ≡ true → is_outstanding id s.transactions ≡ true → is_outstanding id t.transactions ≡ true))

row-trans : (s u t : State) → SameRow s u → SameRow u t → SameRow s t
row-trans s u t first (inl none) = inl none
row-trans s u t (inl none) (inr (same, ls, outs)) = inl (same ∙ none)
row-trans s u t (inr (one, ks, before)) (inr (same, ls, outs)) =
    inr (
      same ∙ one,
      ls ∙ ks,
      λ id listed out. outs id (subst (λ (ls : List Listing). list_any (λ (l : Listing). eqb l.id id) ls ≡ true) (sym ks) listed) (before id listed out),
    )

module _ (count slots extras : ℕ) (lag : Lag) (delay now : ℕ) (past : History) where
  abbrev pub Kept_at : State → Type 0
  Kept_at s = IsKept count slots extras lag delay now past s.transactions s

  -- no grant is lost between these
  abbrev pub Leads : State → State → Type 0
  Leads s t = Kept_at t × Goes past past s.transactions t.transactions s t × SameRow s t

  leads-trans : (s u t : State) → Leads s u → Leads u t → Leads s t
  leads-trans s u t (kept, goes, row) (last, as_well, same) = (last, goes-trans past past past s.transactions u.transactions t.transactions s u t goes as_well, row-trans s u t row same)

  leads-streams : (s : State) (streams : List Stream) → Kept_at s → Leads s (record s { streams = streams })
  leads-streams s streams k = (
    kept-streams count slots extras lag delay now past s.transactions s streams k,
    goes-same past s (record s { streams = streams }) refl refl refl,
    inr (refl, refl, λ id listed out. out),
  )

  pub leads-differs : (s t : State) → Kept_at s → DiffersInStreams s t → Leads s t
  leads-differs s t k differs = subst (Leads s) (sym differs.others) (leads-streams s t.streams k)

  -- a success that is processed
  module _ (message : List ℕ) (s : State) (k : Kept_at s) (answers : Answers message (purposes_of (id_of message) s)) where
    abbrev after : State
    after = (response_step true message now s).1

    unlisted-row : list_any (λ (l : Listing). eqb l.id (id_of message)) s.listed ≡ false → SameRow s after
    unlisted-row none = subst (SameRow s) (sym ends) (inr (refl, refl, outs))
      where
        of : ℕ
        of = id_of message

        other : (l : Listing) → Has l s.listed → eqb l.id (id_of message) ≡ false
        other l h = by (eqb l.id (id_of message)) refl
          where
            by : (b : Bool) → eqb l.id (id_of message) ≡ b → eqb l.id (id_of message) ≡ false
            by false e = e
            by true e = let no : false ≡ true = sym none ∙ has-any (λ (l : Listing). eqb l.id (id_of message)) l s.listed h e in cc

        no_listing : filter (λ (l : Listing). eqb l.id (id_of message)) s.listed ≡ []
        no_listing = filter-none (λ (l : Listing). eqb l.id (id_of message)) s.listed other

        ends : after ≡ transaction_ended (id_of message) s
        ends = rw (no_listing, response_step) refl

        outs : (id : ℕ) → list_any (λ l. eqb l.id id) s.listed ≡ true → is_outstanding id s.transactions ≡ true → is_outstanding id (transaction_ended (id_of message) s).transactions ≡ true
        outs id listed out =
            let (l, there, e) = any-has (λ (l : Listing). eqb l.id id) s.listed listed in
            let (x, here, f) = any-has (λ (x : Transaction). eqb x.id id) s.transactions out in
            has-any (λ (x : Transaction). eqb x.id id) x (transaction_ended (id_of message) s).transactions
            (filter-has (λ (x : Transaction). not (eqb x.id (id_of message))) x s.transactions here
            (apart l there (eqb-true l.id id e) x (eqb-true x.id id f) (eqb x.id (id_of message)) refl)) f
          where
            apart : (l : Listing) → Has l s.listed → l.id ≡ id → (x : Transaction) → x.id ≡ id → (b : Bool) → eqb x.id (id_of message) ≡ b → not (eqb x.id (id_of message)) ≡ true
            apart l there e x f false g = rw g refl
            apart l there e x f true g =
                let same : l.id ≡ id_of message = e ∙ (sym f ∙ eqb-true x.id (id_of message) g) in
                let no : false ≡ true = sym (other l there) ∙ eq-eqb l.id (id_of message) same in
                cc

    row-answered : SameRow s after
    row-answered = by (list_any (λ (l : Listing). eqb l.id (id_of message)) s.listed) refl
      where
        by : (b : Bool) → list_any (λ (l : Listing). eqb l.id (id_of message)) s.listed ≡ b → SameRow s after
        by true some = inl (reset-answered count slots extras lag delay now past s k message answers some)
        by false none = unlisted-row none

    leads-answered : Leads s after
    leads-answered =
        let (kept, goes) = kept-answered count slots extras lag delay now past s k message answers in
        (kept, goes, row-answered)

  pub granting-made : (one : Input) → Kept_at one.before → one.time ≡ now → IsGranting one → (processed one).1 ≡ (response_step true one.bytes now one.before).1
  granting-made one k at is = ap (λ (z : Outcome × State). z.1) (control-made one is.over is.whole ∙ (timed ∙ (judged ∙ signed)))
    where
      signed : signed_step true one.bytes now one.before ≡ response_step true one.bytes now one.before
      signed = rw k.phase refl

      judged : message_step one.bytes now one.before ≡ signed_step true one.bytes now one.before
      judged = rw (success-judged one.bytes one.before k.phase is.success is.signed is.outstanding) refl

      timed : message_step one.bytes one.time one.before ≡ message_step one.bytes now one.before
      timed = ap (λ (time : ℕ). message_step one.bytes time one.before) at

  leads-granting : (one : Input) → Kept_at one.before → one.time ≡ now → IsGranting one → Leads one.before (processed one).1
  leads-granting one k at is = subst (Leads one.before) (sym (granting-made one k at is)) (leads-answered one.bytes one.before k is.answers)

  -- its request is all that is no longer outstanding
  pub granting-ends : (one : Input) → Kept_at one.before → one.time ≡ now → IsGranting one → (processed one).1.transactions ≡ (transaction_ended (id_of one.bytes) one.before).transactions
  granting-ends one k at is =
      ap (λ (t : State). t.transactions) (granting-made one k at is) ∙ (done count slots extras lag delay now past one.before k one.bytes is.answers).outstanding

  pub leads-mild : (one : Input) → Kept_at one.before → one.time ≡ now → IsMild one → Leads one.before (processed one).1
  leads-mild one k at (inl is) = leads-granting one k at is
  leads-mild one k at (inr (inl (over, noise))) =
      subst (Leads one.before) (sym (noise-changes-nothing one k.phase over noise)) (k, goes-same past one.before one.before refl refl refl, inr (refl, refl, λ id listed out. out))
  leads-mild one k at (inr (inr same)) = subst (Leads one.before) (sym same) (k, goes-same past one.before one.before refl refl refl, inr (refl, refl, λ id listed out. out))

  leads-all : (inputs : List Input) (s t : State) → Kept_at s → InputsLead inputs s t → AllByRecursion IsMild inputs → ((one : Input) → Has one inputs → one.time ≡ now) → Leads s t
  leads-all [] s t k lead all times = leads-differs s t k lead
  leads-all (one ∷ later) s t k (differs, lead) (mild, all) times =
      let first = leads-differs s one.before k differs in
      let next = leads-mild one first.0 (times one (inl refl)) mild in
      leads-trans s one.before t first
      (leads-trans one.before (processed one).1 t next (leads-all later (processed one).1 t next.0 lead all (λ x h. times x (inr h))))

  -- the server closes a stream that is of no data connection
  plain-connection : (g : Grant) → IsPlain g → as_connection g ≡ None
  plain-connection (Allocation a) h = refl
  plain-connection (Permission ip progress) h = refl
  plain-connection (Channel number peer progress) h = refl
  plain-connection g (inl h) = absurd (let no : false ≡ true = h in cc)
  plain-connection g (inr (inl h)) = absurd h
  plain-connection g (inr (inr h)) = absurd h

  pub leads-end : (call : Call) (s t : State) → Kept_at s → IsStreamEnd call s t → Leads s t
  leads-end call s t k end = subst (Leads s) (sym (end.gone ∙ ap (without_stream end.local) stays)) (leads-streams s (without_stream end.local s).streams k)
    where
      none : filter_map as_connection s.grants ≡ []
      none = filter_map-none as_connection s.grants (λ g h. plain-connection g (all-plain count slots extras lag delay now past s k g h))

      stays : connection_gone end.local s ≡ s
      stays = rw none refl

module _ (count slots extras : ℕ) (lag : Lag) (delay before : ℕ) (past : History) (s : State) where
  abbrev Kept : ℕ → History → Type 0
  Kept now later = IsKept count slots extras lag delay now later s.transactions s

  abbrev Keeps : ℕ → History → History → State → Type 0
  Keeps now first later t = KeepsAll count slots extras lag delay now first later s t

  abbrev onward : Call → History
  onward c = with_call c (time_of before c) s past

  abbrev Seldom : Call → Type 0
  Seldom c = IsSeldom extras s.config.refresh_ahead (time_of before c) (onward c)

  -- with another history all is kept, and so it is after the call
  calm-to : (to : Lag) (c : Call) (t : State) → Kept (time_of before c) past → Seldom c → s.challenges ≤ (onward c).challenged
      → (Kept (time_of before c) (onward c) → KeepsAll count slots extras to delay (time_of before c) (onward c) (onward c) s t)
      → KeepsAll count slots extras to delay (time_of before c) past (onward c) s t
  calm-to to c t k seldom row step =
      let on = call-goes_on c (time_of before c) past s in
      let (kept, goes) = step (kept-later count slots extras lag delay (time_of before c) past (onward c) s on seldom row k) in
      (kept, goes-later past (onward c) t.transactions s t on goes)

  calm : (c : Call) (t : State) → Kept (time_of before c) past → Seldom c → s.challenges ≤ (onward c).challenged
      → (Kept (time_of before c) (onward c) → Keeps (time_of before c) (onward c) (onward c) t) → Keeps (time_of before c) past (onward c) t
  calm = calm-to lag

  same-kept : (c : Call) → Kept (time_of before c) past → Seldom c → state_after c s ≡ s → Keeps (time_of before c) past (onward c) (state_after c s)
  same-kept c k seldom same =
      subst (Keeps (time_of before c) past (onward c)) (sym same) (calm c s k seldom (same-row c (time_of before c) past s same k.row) (λ k. (k, goes-same (onward c) s s refl refl refl)))

  asks-kept : (now : ℕ) (later : History) → later.made (fresh_id s) ≡ now → Kept now later → Asks (λ t. HoldsAtMost count slots t → Keeps now later later t) now s
  asks-kept now later fresh k ps news text are w =
      (asked-kept count slots extras lag delay now later s k ps news are text fresh w.0 w.1, asked-goes count slots extras lag delay now later s k ps news are text fresh)

  -- a packet that is taken is late no more
  abbrev Transmits : ℕ → Option (Transmit (List ℕ)) × State → Type 0
  Transmits now z = KeepsAll count slots extras (taken (cond (is_some z.0) now lag.since) lag) delay now past (onward (PollTransmit now)) s z.1

  transmits-kept : (now : ℕ) → Kept now past → Seldom (PollTransmit now) → Transmits now (transmit_step now s)
  transmits-kept now k seldom = by (due (agent_of s) now) refl
    where
      by : (o : Option Transaction) → due (agent_of s) now ≡ o → Transmits now (transmit_step now s)
      by None e =
          calm-to (taken (cond (is_some (transmit_step now s).0) now lag.since) lag) (PollTransmit now) (transmit_step now s).1 k seldom k.row
          (λ k. transmit-kept count slots extras lag delay now (onward (PollTransmit now)) s k (call-made (PollTransmit now) now past s) e)
      by (Some x) e =
          let on = call-goes_on (PollTransmit now) now past s in
          let more = call-extra (PollTransmit now) now past s (subst (λ (o : Option Transaction). is_some o ≡ true) (sym e) refl) in
          let is : (Some (record (to_server s s.local x.request) { to = x.to }), record s { transactions = resent x.id now s.transactions; last_send = Some now }) ≡ transmit_step now s = rw (e, transmit_step) refl in
          subst (Transmits now) is (
            kept-again count slots extras lag delay now past (onward (PollTransmit now)) s k on more seldom k.row x e,
            goes-again count slots extras lag delay now past (onward (PollTransmit now)) s k on more seldom k.row x e,
          )

  -- the server requires another nonce
  module _ (packet : Transmit (List ℕ)) (now : ℕ) (k : Kept now past) (seldom : Seldom (Recv packet now)) (is : IsAnsweredChallenge packet now past s)
      (within : HoldsAtMost count slots (state_after (Recv packet now) s)) where
    abbrev of_reply : ℕ
    of_reply = id_of packet.payload

    abbrev behind : History
    behind = onward (Recv packet now)

    fresh-made : behind.made (fresh_id s) ≡ cond (is_outstanding of_reply s.transactions) (past.made of_reply) now
    fresh-made = call-made (Recv packet now) now past s

    -- the transaction of an outstanding request
    outstanding-there : is_outstanding of_reply s.transactions ≡ true → (x : Transaction) × Has x s.transactions × (x.id ≡ of_reply)
    outstanding-there e = let (x, there, is) = any-has (λ (x : Transaction). eqb x.id of_reply) s.transactions e in (x, there, eqb-true x.id of_reply is)

    retried-kept : (challenge : Challenge) (purpose : Purpose)
        → state_after (Recv packet now) s ≡ state_after_retry s of_reply purpose challenge now → Keeps now past behind (state_after (Recv packet now) s)
    retried-kept challenge purpose e = subst (Keeps now past behind) (sym e) (
      kept-retried count slots extras lag delay now past behind s k on more seldom row of_reply purpose challenge fits early answered as-old,
      goes-retried count slots extras lag delay now past behind s k on more seldom row of_reply purpose challenge fits early answered as-old,
    )
      where
        on : GoesOn s.transactions past behind
        on = call-goes_on (Recv packet now) now past s

        counts : is_extra (Recv packet now) s ≡ true
        counts = subst (λ (x : State). nat_lt s.challenges x.challenges ≡ true) (sym e) (lt-ltb s.challenges (s.challenges + 1) (omega arith))

        more : IsOneMore now past behind
        more = call-extra (Recv packet now) now past s counts

        row : s.challenges + 1 ≤ behind.challenged
        row =
            let counted : cond (is_extra (Recv packet now) s) (past.challenged + 1) (cond (is_replied of_reply (Recv packet now) s) 0 past.challenged) ≡ past.challenged + 1 = rw counts refl in
            let old = k.row in
            omega (arith, counted, old)

        fits : queue_ahead (state_after_retry s of_reply purpose challenge now) ≤ slots
        fits = (subst (HoldsAtMost count slots) e within).1

        by-age : (b : Bool) → is_outstanding of_reply s.transactions ≡ b → (behind.made (fresh_id s) ≤ now) × (now ≤ behind.made (fresh_id s) + delay)
        by-age false f =
            let now_made : cond (is_outstanding of_reply s.transactions) (past.made of_reply) now ≡ now = rw f refl in
            let made : behind.made (fresh_id s) ≡ now = fresh-made ∙ now_made in
            (omega (arith, made), omega (arith, made))
        by-age true f =
            let (x, there, same) = outstanding-there f in
            let as_old : cond (is_outstanding of_reply s.transactions) (past.made of_reply) now ≡ past.made of_reply = rw f refl in
            let made : behind.made (fresh_id s) ≡ past.made of_reply = fresh-made ∙ as_old in
            let as_x : past.made x.id ≡ past.made of_reply = ap past.made same in
            let begun = k.begun x there in
            let heard = k.heard x there in
            (omega (arith, made, as_x, begun), omega (arith, made, as_x, heard))

        early : behind.made (fresh_id s) ≤ now
        early = (by-age (is_outstanding of_reply s.transactions) refl).0

        answered : now ≤ behind.made (fresh_id s) + delay
        answered = (by-age (is_outstanding of_reply s.transactions) refl).1

        as-old : (x : Transaction) → Has x s.transactions → x.id ≡ of_reply → behind.made (fresh_id s) ≡ past.made x.id
        as-old x there same =
            let here : is_outstanding of_reply s.transactions ≡ true = has-any (λ (y : Transaction). eqb y.id of_reply) x s.transactions there (eq-eqb x.id of_reply same) in
            let as_old : cond (is_outstanding of_reply s.transactions) (past.made of_reply) now ≡ past.made of_reply = rw here refl in
            fresh-made ∙ (as_old ∙ ap past.made (sym same))

    pub challenge-kept : Keeps now past behind (state_after (Recv packet now) s)
    challenge-kept = by (challenge_in s packet.payload) refl is.challenge
      where
        by : (o : Option Challenge) → challenge_in s packet.payload ≡ o → IsSome o → Keeps now past behind (state_after (Recv packet now) s)
        by None e some = absurd (let no : false ≡ true = some in cc)
        by (Some challenge) e some = for (retried (purposes_of of_reply s)) refl
          where
            retries-none : retried (purposes_of of_reply s) ≡ None → (retry_step packet.payload challenge now s).1 ≡ s
            retries-none f = rw (f, retry_step) refl

            retries : (purpose : Purpose) → retried (purposes_of of_reply s) ≡ Some purpose → (retry_step packet.payload challenge now s).1 ≡ state_after_retry s of_reply purpose challenge now
            retries purpose f = rw (f, retry_step) refl

            few : s.challenges < s.config.max_stale_nonces
            few = let old = k.row in let less = is.few in omega (arith, old, less)

            for : (p : Option Purpose) → retried (purposes_of of_reply s) ≡ p → Keeps now past behind (state_after (Recv packet now) s)
            for None f = same-kept (Recv packet now) k seldom (challenged packet now past s challenge k.phase few is e ∙ retries-none f)
            for (Some purpose) f = retried-kept challenge purpose (challenged packet now past s challenge k.phase few is e ∙ retries purpose f)

  -- a request has its success
  answered-kept : (packet : Transmit (List ℕ)) (now : ℕ) → Kept now past → Seldom (Recv packet now) → IsSuccess packet now s
      → Keeps now past (onward (Recv packet now)) (state_after (Recv packet now) s)
  answered-kept packet now k seldom is = subst (Keeps now past later) (sym (received packet now s k.phase is)) (
    kept-later count slots extras lag delay now middle later t (record { same = λ x h. refl; more = λ since. omega arith; let_go = λ g e. e }) kept.0.seldom
        (row (is_extra (Recv packet now) s) (is_replied id (Recv packet now) s) refl) kept.0,
    goes-row past later past.challenged s.transactions t.transactions s t (goes-later past middle t.transactions s t on kept.1),
  )
    where
      id : ℕ
      id = id_of packet.payload

      later : History
      later = onward (Recv packet now)

      -- the row of challenges is as it was until the effect
      middle : History
      middle = record later { challenged = past.challenged }

      t : State
      t = (response_step true packet.payload now s).1

      on : GoesOn s.transactions past middle
      on = let on = call-goes_on (Recv packet now) now past s in record { same = on.same; more = on.more; let_go = on.let_go }

      begun : IsKept count slots extras lag delay now middle s.transactions s
      begun = kept-later count slots extras lag delay now past middle s on seldom k.row k

      kept : KeepsAll count slots extras lag delay now middle middle s t
      kept = kept-answered count slots extras lag delay now middle s begun packet.payload is.answers

      row : (a b : Bool) → is_replied id (Recv packet now) s ≡ b → t.challenges ≤ cond a (past.challenged + 1) (cond b 0 past.challenged)
      row true b e = let old = kept.0.row in omega (arith, old)
      row false false e = kept.0.row
      row false true e =
          let listed = list_any (λ (l : Listing). eqb l.id id) s.listed in
          let some = (and_parts listed _ (and_parts (listed && is_outstanding id s.transactions) _ e).0).0 in
          let none = reset-answered count slots extras lag delay now middle s begun packet.payload is.answers some in
          omega (arith, none)

  -- ---- what expires

  -- so many refreshes were lost, and are extra from now on
  lost-counts : (now : ℕ) (t : State) → (poll_step now s).1 ≡ t → (since : ℕ) → since ≤ now
      → extra_since since past + passes (is_lost s.listed t.listed) s.grants ≤ extra_since since (onward (Poll now))
  lost-counts now t is since before =
      let all = extra-more now past (lost (Poll now) s) since in
      let each = lost-more now (lost (Poll now) s) since before in
      let same : length (lost (Poll now) s) ≡ passes (is_lost s.listed t.listed) s.grants =
      subst (λ (x : State). length (lost (Poll now) s) ≡ passes (is_lost s.listed x.listed) s.grants) is (passes-length (is_lost s.listed (poll_step now s).1.listed) s.grants) in
      omega (arith, all, each, same)

  polled-kept : (now : ℕ) → Kept now past → Seldom (Poll now) → Keeps now past (onward (Poll now)) (poll_step now s).1
  polled-kept now k seldom =
      polls (λ t. (poll_step now s).1 ≡ t → Keeps now past (onward (Poll now)) t) now s k.phase (all-plain count slots extras lag delay now past s k)
      (none-over_yet delay now past s k.prompt k.in_range k.aged k.heard)
      (λ e. calm (Poll now) s k seldom k.row (λ k. (k, goes-same (onward (Poll now)) s s refl refl refl)))
      expires refl
    where
      early : (a : Relay) → Has a (allocations s) → is_past now a ≡ false
      early a h =
          let there = allocation-there a s.grants h in
          lt-leb a.expiry now (stands-early count slots extras lag delay now past s k (Allocation a) there (allocation-stands count slots extras lag delay now past s.transactions s k a there))

      expires : (closes : List SocketAddr) → (poll_step now s).1 ≡ record (expired_at None now s) { closes = closes }
          → Keeps now past (onward (Poll now)) (record (expired_at None now s) { closes = closes })
      expires closes is =
          let u = expired_at None now s in
          let (alters, (expires_into, tidy)) = expired_at-passes now s early (tidy-of count slots extras lag delay now past s k) in
          let on = call-goes_on (Poll now) now past s in
          let counts = lost-counts now (record u { closes = closes }) is in
          let same : record s { grants = u.grants; listed = u.listed; events = u.events; closes = closes } ≡ record u { closes = closes } =
          ap (λ (x : State). record x { closes = closes }) (sym alters) in
          subst (Keeps now past (onward (Poll now))) same (
            kept-left count slots extras lag delay now past (onward (Poll now)) s k on seldom k.row u.grants u.listed u.events closes expires_into tidy counts,
            goes-left count slots extras lag delay now past (onward (Poll now)) s k on seldom k.row u.grants u.listed u.events closes expires_into tidy counts,
          )

  -- ---- what is let go, or kept again

  marks-kept : (later : History) → Kept before later → (transport : TransportType) (which : Grant → Bool) (kept : Bool)
      → ((same_transport transport s.config.allocation_transport && list_any which s.grants) ≡ true → (g : Grant) → which g ≡ true → kept ≡ false → was_let_go later g ≡ true)
      → Keeps before later later (keep_step transport which kept s).1
  marks-kept later k transport which kept let_go = by (same_transport transport s.config.allocation_transport && list_any which s.grants) refl
    where
      by : (b : Bool) → (same_transport transport s.config.allocation_transport && list_any which s.grants) ≡ b
          → Keeps before later later (cond {A = Result Unit KeepError × State} b (Ok tt, with_marks which kept s) (Err NotGranted, s)).1
      by true e = (kept-marked count slots extras lag delay before later s k which kept (let_go e), goes-marked count slots extras lag delay before later s k which kept (let_go e))
      by false e = (k, goes-same later s s refl refl refl)

  permission-let_go : (transport : TransportType) (ip : IpAddr) (kept : Bool) → (same_transport transport s.config.allocation_transport && list_any (is_permission_of ip) s.grants) ≡ true
      → (g : Grant) → is_permission_of ip g ≡ true → kept ≡ false → was_let_go (onward (SetPermissionKept transport ip kept)) g ≡ true
  permission-let_go transport ip true ok g is e = cc
  permission-let_go transport ip false ok (Permission other progress) is e = or_right (past.permission_let_go other) _ (rw ok is)
  permission-let_go transport ip false ok g is e = cc

  channel-let_go : (transport : TransportType) (peer : SocketAddr) (kept : Bool) → (same_transport transport s.config.allocation_transport && list_any (is_open_to peer) s.grants) ≡ true
      → (g : Grant) → is_open_to peer g ≡ true → kept ≡ false → was_let_go (onward (SetChannelKept transport peer kept)) g ≡ true
  channel-let_go transport peer true ok g is e = cc
  channel-let_go transport peer false ok (Channel number other progress) is e = or_right (past.channel_let_go number other) _ (rw ok (and_parts (is_in_progress progress) _ is).1)
  channel-let_go transport peer false ok g is e = cc

  -- ---- bytes that come, or are polled for

  mild-kept : (c : Call) → TakesInput c → AllByRecursion IsMild (handled c s) → Kept (time_of before c) past → Seldom c → Keeps (time_of before c) past (onward c) (state_after c s)
  mild-kept c takes all k seldom = (
    kept-later count slots extras lag delay now middle later t (record { same = λ x h. refl; more = λ since. omega arith; let_go = λ g e. e }) leads.0.seldom (row c leads.0.row leads.2) leads.0,
    goes-row past later s.challenges s.transactions t.transactions s t (goes-later past middle t.transactions s t on leads.1),
  )
    where
      now : ℕ
      now = time_of before c

      later : History
      later = onward c

      -- the row of challenges is as it was until the inputs
      middle : History
      middle = record later { challenged = s.challenges }

      t : State
      t = state_after c s

      on : GoesOn s.transactions past middle
      on = let on = call-goes_on c now past s in record { same = on.same; more = on.more; let_go = on.let_go }

      begun : IsKept count slots extras lag delay now middle s.transactions s
      begun = kept-later count slots extras lag delay now past middle s on seldom (omega arith) k

      at-now : (c : Call) (one : Input) → ComesIn c one → one.time ≡ time_of before c
      at-now (Recv packet now) one comes = comes.0
      at-now (PollRecv now) one comes = comes.0
      at-now c one comes = absurd comes

      leads : Leads count slots extras lag delay now middle s t
      leads = elim (calls-do c s takes) [
        | inl lead ↦ leads-all count slots extras lag delay now middle (handled c s) s t begun lead all (λ one h. at-now c one (inputs-come c s one h))
        | inr end ↦ leads-end count slots extras lag delay now middle c s t begun end
      ]

      row : (c : Call) → (state_after c s).challenges ≤ s.challenges → SameRow s (state_after c s) → (state_after c s).challenges ≤ (onward c).challenged
      row (Recv packet now) fewer same = by (is_extra (Recv packet now) s) (is_replied (id_of packet.payload) (Recv packet now) s) refl
        where
          after : State
          after = state_after (Recv packet now) s

          ended : is_replied (id_of packet.payload) (Recv packet now) s ≡ true → SameRow s after → after.challenges ≡ 0
          ended e (inl none) = none
          ended e (inr (as_many, listed, outs)) =
              let some = list_any (λ (l : Listing). eqb l.id (id_of packet.payload)) s.listed in
              let (both, gone) = and_parts (some && is_outstanding (id_of packet.payload) s.transactions) _ e in
              let (is_listed, was) = and_parts some (is_outstanding (id_of packet.payload) s.transactions) both in
              let no : false ≡ true = sym (not-true _ gone) ∙ outs (id_of packet.payload) is_listed was in
              cc

          by : (a b : Bool) → is_replied (id_of packet.payload) (Recv packet now) s ≡ b → after.challenges ≤ cond a (past.challenged + 1) (cond b 0 past.challenged)
          by true b e = let old = k.row in omega (arith, old, fewer)
          by false false e = let old = k.row in omega (arith, old, fewer)
          by false true e = let none = ended e same in omega (arith, none)
      row c fewer same = let old = k.row in omega (arith, old, fewer)

  call-by : (c : Call) → Kept (time_of before c) past → Seldom c → IsQuiet c past s → HoldsAtMost count slots (state_after c s)
      → KeepsAll count slots extras (taken (since_next c s lag.since) lag) delay (time_of before c) past (onward c) s (state_after c s)
  call-by (Poll now) k seldom quiet within = polled-kept now k seldom
  call-by (PollTransmit now) k seldom quiet within = transmits-kept now k seldom
  call-by PollEvent k seldom quiet within = calm PollEvent (record s { events = drop 1 s.events }) k seldom k.row (λ k. (
    kept-aside count slots extras lag delay before (onward PollEvent) s.transactions s s.ids
        (drop 1 s.events) s.closes k,
    goes-same (onward PollEvent) s (record s { events = drop 1 s.events }) refl refl refl,
  ))
  call-by (SendTo transport peer bytes now) k seldom quiet within = calm (SendTo transport peer bytes now) (send_to_step transport peer bytes now s).1 k seldom k.row (λ k.
      send_to-by (Keeps now (onward (SendTo transport peer bytes now)) (onward (SendTo transport peer bytes now))) transport peer bytes now s
      (λ ids. (
        kept-aside count slots extras lag delay now (onward (SendTo transport peer bytes now)) s.transactions s ids s.events s.closes k,
        goes-same (onward (SendTo transport peer bytes now)) s (record s { ids = ids }) refl refl refl,
      )))
  call-by (CreatePermission transport ip now) k seldom quiet within = calm (CreatePermission transport ip now) (create_permission_step transport ip now s).1 k seldom k.row (λ k.
      let later = onward (CreatePermission transport ip now) in
      creates (λ t. HoldsAtMost count slots t → Keeps now later later t) count slots extras lag delay now later s k (λ w. (k, goes-same later s s refl refl refl))
      (asks-kept now later (call-made (CreatePermission transport ip now) now past s) k) transport ip within)
  call-by (BindChannel transport peer now) k seldom quiet within = calm (BindChannel transport peer now) (bind_channel_step transport peer now s).1 k seldom k.row (λ k.
      let later = onward (BindChannel transport peer now) in
      binds (λ t. HoldsAtMost count slots t → Keeps now later later t) count slots extras lag delay now later s k (λ w. (k, goes-same later s s refl refl refl))
      (asks-kept now later (call-made (BindChannel transport peer now) now past s) k) transport peer within)
  call-by (SetPermissionKept transport ip kept) k seldom quiet within = calm (SetPermissionKept transport ip kept) (permission_kept_step transport ip kept s).1 k seldom k.row (λ k.
      marks-kept (onward (SetPermissionKept transport ip kept)) k transport (is_permission_of ip) kept (λ ok g is. permission-let_go transport ip kept ok g is))
  call-by (SetChannelKept transport peer kept) k seldom quiet within = calm (SetChannelKept transport peer kept) (channel_kept_step transport peer kept s).1 k seldom k.row (λ k.
      marks-kept (onward (SetChannelKept transport peer kept)) k transport (is_open_to peer) kept (λ ok g is. channel-let_go transport peer kept ok g is))
  call-by (Recv packet now) k seldom (inl is) within = answered-kept packet now k seldom is
  call-by (Recv packet now) k seldom (inr (inl is)) within = challenge-kept packet now k seldom is within
  call-by (Recv packet now) k seldom (inr (inr same)) within = same-kept (Recv packet now) k seldom same
  call-by c k seldom same within = same-kept c k seldom same

-- such a call takes no packet
mild-by : (count slots extras : ℕ) (lag : Lag) (delay before : ℕ) (past : History) (s : State) (c : Call) → TakesInput c → AllByRecursion IsMild (handled c s)
    → IsKept count slots extras lag delay (time_of before c) past s.transactions s → IsSeldom extras s.config.refresh_ahead (time_of before c) (with_call c (time_of before c) s past)
    → KeepsAll count slots extras (taken (since_next c s lag.since) lag) delay (time_of before c) past (with_call c (time_of before c) s past) s (state_after c s)
mild-by count slots extras lag delay before past s (Recv packet now) takes all k seldom = mild-kept count slots extras lag delay before past s (Recv packet now) takes all k seldom
mild-by count slots extras lag delay before past s (PollRecv now) takes all k seldom = mild-kept count slots extras lag delay before past s (PollRecv now) takes all k seldom
mild-by count slots extras lag delay before past s c takes all k seldom = absurd takes

-- a call that comes in time
pub call-kept : (count slots extras : ℕ) (lag : Lag) (delay before : ℕ) (past : History) (s : State) (start : ℕ) (call : Call) → IsKept count slots extras lag delay before past s.transactions s
    → AreAnswered lag.late delay lag.since before start (time_of before call) past s
    → IsCalm call past s → HoldsAtMost count slots (state_after call s) → IsSeldom extras s.config.refresh_ahead (time_of before call) (with_call call (time_of before call) s past)
    → KeepsAll count slots extras (taken (since_next call s start) lag) delay (time_of before call) past (with_call call (time_of before call) s past) s (state_after call s)
call-kept count slots extras lag delay before past s start call k in_time (inl quiet) within seldom =
    call-by count slots extras (taken start lag) delay before past s call
    (time-kept count slots extras lag delay before start (time_of before call) past s k in_time) seldom quiet within
call-kept count slots extras lag delay before past s start call k in_time (inr (takes, mild)) within seldom =
    mild-by count slots extras (taken start lag) delay before past s call takes mild
    (time-kept count slots extras lag delay before start (time_of before call) past s k in_time) seldom

pub joined : (s : State) (earlier later : List Call) → state_after_all s (earlier ++ later) ≡ state_after_all (state_after_all s earlier) later
joined s [] later = refl
joined s (call ∷ earlier) later = joined (state_after call s) earlier later
