-- A run that meets all premises, and in which each grant is refreshed.
use Rattle.turn_client_laws.proofs.Common.{◌≡◌, ◌∙◌, ℕ, ◌+◌, ◌^◌, ◌<◌, ◌≤◌, Bool, true, false, cond, List, [], ◌∷◌, None, Some, ap, arith, eqb, inl, inr, refl, subst, sym, All, IsSome, Option, nat_lt}
use Rattle.turn_client_laws.proofs.Common.{IsDistinct, eq-eqb, le-ltb}
use Rattle.turn_client_laws.proofs.Machine.{Udp, Transmit, IPV4, Source, behind_id, due, first_sent, Transaction, State, agent_of, seconds, New, Allocated, Call, BindChannel, Recv, Poll, PollTransmit}
use Rattle.turn_client_laws.proofs.Machine.{PollEvent, Grant, Allocation, Channel, Permission, Pending, ChannelCreated, PermissionCreated, Purpose, ForRefresh, ForPermission, ForChannel, TurnPollRet}
use Rattle.turn_client_laws.proofs.Machine.{AllHaveAllocation, FitsPhaseForPoll, HasAllocation, IsBeforeGrants, IsIdleUntil, IsTimely, refresh_time, channel_numbers, granted_until, new_allocation}
use Rattle.turn_client_laws.proofs.Machine.{purposes_of, response_step, poll_step, asked_lifetime, fresh_id, listings, request_for, to_server, state_after, state_after_all, is_refresh_due, Has}
use Rattle.turn_client_laws.proofs.Machine.{all-has, has-all}
use Rattle.turn_client_laws.proofs.Laws.{granted_at, ip_of_peer, peer, relayed_v4, poll-timely}
use Rattle.turn_client_api.specs.declared.poll.TurnPollRet.TheVariants.{WaitUntil}
use Rattle.turn_client_runs.specs.Lasting.{HasRoom, IsInForce, IsSteady, IsSuccess, HoldsAtMost, RunsSteadily, ahead_of, expiry_of}
use Rattle.turn_client_runs.specs.Late.{HasRoomBehind, IsSteadyBehind, RunsBehind}
use Rattle.turn_client_runs.specs.LateRows.{LateRelayStaysUp, late_calls}
use Rattle.turn_client_runs.proofs.LastingParts.{behind-of, runs-behind}
use Rattle.turn_client_laws.proofs.Common.{is_some, max}
use Rattle.turn_client_laws.proofs.Machine.{next_transmit}
use Rattle.turn_client_runs.specs.LastingRows.{RelayStaysUp, with_allocation, calls_of_700_s, granted_call, refreshed_grants, served}
use Rattle.turn_client_runs.specs.History.{History, IsSeldom, is_extra, lost, no_history, with_call}
use Rattle.turn_client_runs.specs.OnTime.{IsOnTime}
use Rattle.turn_client_runs.specs.Server.{from_server, success_for}
use Rattle.turn_client_runs.proofs.LastingHistory.{call-made}
use Rattle.turn_client_runs.proofs.LastingRuns.{received}
use Rattle.turn_client_runs.proofs.ServerLemmas.{IsReplyFor, requests-can-be-granted, success-read}

pub eqb-self : (n : ℕ) → eqb n n ≡ true
eqb-self n = eq-eqb n n refl

pub all-none : {X : Type 0} (P : X → Type 0) → All P []
all-none P = all-has P [] (λ x h. absurd h)

pub all-one : {X : Type 0} (P : X → Type 0) (a : X) → P a → All P (a ∷ [])
all-one P a p = all-has P (a ∷ []) by
  where
    by : (x : _) → Has x (a ∷ []) → P x
    by x (inl e) = subst P (sym e) p
    by x (inr none) = absurd none

-- ---- a caller that polled is on time until the time that it was reported

pub on-time : (now time next : ℕ) (s : State) → FitsPhaseForPoll s → AllHaveAllocation s → poll_step now s ≡ (WaitUntil time, s) → now < time → now ≤ next → next ≤ time → next ≤ 2 ^ 62
    → IsOnTime now next s
on-time now time next s fits in_allocations reported later from until range = record {
  later = from;
  in_range = range;
  punctual = λ t after before. ap (λ (p : Option (Transmit (List ℕ)) × State). p.0) (idle.sends_nothing t after (omega (arith, before, until)));
}
  where
    timely : IsTimely (poll_step now s).0 now s (poll_step now s).1
    timely = poll-timely now s fits in_allocations (omega (arith, from, range))

    idle : IsIdleUntil now time s
    idle = (subst (λ (p : TurnPollRet × State). IsTimely p.0 now s p.1) reported timely).0 later

-- no time passes
pub at-once : (now : ℕ) (s : State) → now ≤ 2 ^ 62 → IsOnTime now now s
at-once now s range = record { later = omega arith; in_range = range; punctual = λ t after before. absurd (omega (arith, after, before)) }

-- ---- one request, its reply and the events

abbrev pub delay : ℕ
delay = 100_000_000

-- no packet was extra, and each outstanding request was made when it was sent
abbrev FitsPast : History → State → Type 0
FitsPast past s = (past.extra ≡ []) × All (λ x. past.made x.id ≡ x.last_send) s.transactions

-- the rest of the run is steady, and ends with these grants
abbrev Goes : ℕ → State → List Call → Type 0
Goes before s calls = ((past : History) → FitsPast past s → RunsSteadily 3 1 0 delay before past s calls) × ((state_after_all s calls).grants ≡ refreshed_grants)

pub seldom-none : (ahead now : ℕ) (past : History) → past.extra ≡ [] → IsSeldom 0 ahead now past
seldom-none ahead now past none since within = rw none (omega arith)

pub no-extra : (call : Call) (now : ℕ) (s : State) (past : History) → past.extra ≡ [] → is_extra call s ≡ false → lost call s ≡ [] → (with_call call now s past).extra ≡ []
no-extra call now s past none e kept = rw (e, kept, none) refl

answered-in : (now : ℕ) (past : History) (s : State) → FitsPast past s → All (λ x. now ≤ x.last_send + delay) s.transactions → All (λ x. now ≤ past.made x.id + delay) s.transactions
answered-in now past s fits waits = all-has (λ (x : Transaction). now ≤ past.made x.id + delay) s.transactions by
  where
    by : (x : Transaction) → Has x s.transactions → now ≤ past.made x.id + delay
    by x h =
        let made = has-all (λ (x : Transaction). past.made x.id ≡ x.last_send) x s.transactions fits.1 h in
        let late = has-all (λ (x : Transaction). now ≤ x.last_send + delay) x s.transactions waits h in
        omega (arith, made, late)

-- the state before a request is sent, after that, after its reply, and after the events
pub record IsRound (before now id : ℕ) (purpose : Purpose) (others : List Purpose) (text : List ℕ) (s u r v : State) : Type 0 where
  on_time : IsOnTime before now s
  waits : All (λ x. now ≤ x.last_send + delay) s.transactions
  idle : due (agent_of s) now ≡ None
  made : (past : History) → FitsPast past s → (with_call (PollTransmit now) now s past).made id ≡ now
  sends : state_after (PollTransmit now) s ≡ u
  transactions : u.transactions ≡ first_sent id u.remote now text ∷ []
  listed : u.listed ≡ listings id (purpose ∷ others)
  purposes : purposes_of id u ≡ purpose ∷ others
  phase : u.phase ≡ Allocated
  over_udp : u.transport ≡ Udp
  held : IsSome u.held
  small : id < 2 ^ 96
  in_range : now + delay ≤ 2 ^ 62
  awaits : IsOnTime now (now + delay) u
  replied : (message : List ℕ) → IsReplyFor purpose id message → (response_step true message (now + delay) u).1 ≡ r
  answered : r.transactions ≡ []
  calm : r.challenges ≡ 0
  reported : state_after PollEvent (state_after PollEvent r) ≡ v
  within_u : HoldsAtMost 3 1 u
  within_r : HoldsAtMost 3 1 r
  within_v : HoldsAtMost 3 1 v

module _ (before now id last : ℕ) (later : List ℕ) (purpose : Purpose) (others : List Purpose) (text : List ℕ) (s u r v : State) (is : IsRound before now id purpose others text s u r v) where
  abbrev pub reply : Call
  reply = Recv (from_server u (success_for u purpose id)) (now + delay)

  reply-is : granted_call (now + delay) u ≡ reply
  reply-is = rw is.listed refl

  success : IsSuccess (from_server u (success_for u purpose id)) (now + delay) u
  success = requests-can-be-granted (now + delay) id purpose others u is.over_udp is.held is.small (rw (is.transactions, eqb-self id) refl) is.purposes

  pub after-reply : state_after reply u ≡ r
  after-reply = received (from_server u (success_for u purpose id)) (now + delay) u is.phase success ∙ is.replied (success_for u purpose id) (success-read purpose id u is.small is.held)

  waits-u : All (λ x. now + delay ≤ x.last_send + delay) u.transactions
  waits-u = rw is.transactions (all-one (λ (x : Transaction). now + delay ≤ x.last_send + delay) (first_sent id u.remote now text) (omega arith))

  -- nothing is outstanding after the reply
  fits-r : (past : History) → All (λ x. past.made x.id ≡ x.last_send) r.transactions
  fits-r past = rw is.answered (all-none (λ (x : Transaction). past.made x.id ≡ x.last_send))

  waits-r : (past : History) → All (λ x. now + delay ≤ past.made x.id + delay) r.transactions
  waits-r past = rw is.answered (all-none (λ (x : Transaction). now + delay ≤ past.made x.id + delay))

  -- the events do not change this
  waits-e : (past : History) → All (λ x. now + delay ≤ past.made x.id + delay) (state_after PollEvent r).transactions
  waits-e past = waits-r past

  tail : Goes (now + delay) v (served last later v) → Goes (now + delay) r (PollEvent ∷ PollEvent ∷ served last later (state_after PollEvent (state_after PollEvent r)))
  tail (runs, ends) = (steady, over)
    where
      within-v : HoldsAtMost 3 1 (state_after PollEvent (state_after PollEvent r))
      within-v = subst (HoldsAtMost 3 1) (sym is.reported) is.within_v

      over : (state_after_all (state_after PollEvent (state_after PollEvent r)) (served last later (state_after PollEvent (state_after PollEvent r)))).grants ≡ refreshed_grants
      over = subst (λ (x : State). (state_after_all x (served last later x)).grants ≡ refreshed_grants) (sym is.reported) ends

      fits-v : (past : History) → All (λ x. past.made x.id ≡ x.last_send) v.transactions
      fits-v past = subst (λ (x : State). All (λ (y : Transaction). past.made y.id ≡ y.last_send) x.transactions) is.reported (fits-r past)

      rest : (past : History) → past.extra ≡ []
          → RunsSteadily 3 1 0 delay (now + delay) past (state_after PollEvent (state_after PollEvent r)) (served last later (state_after PollEvent (state_after PollEvent r)))
      rest past none = subst (λ (x : State). RunsSteadily 3 1 0 delay (now + delay) past x (served last later x)) (sym is.reported) (runs past (none, fits-v past))

      steady : (past : History) → FitsPast past r → RunsSteadily 3 1 0 delay (now + delay) past r (PollEvent ∷ PollEvent ∷ served last later (state_after PollEvent (state_after PollEvent r)))
      steady past fits =
          let one = with_call PollEvent (now + delay) r past in
          let two = with_call PollEvent (now + delay) (state_after PollEvent r) one in (
            record { on_time = at-once (now + delay) r is.in_range; answered = waits-r past },
            tt,
            is.within_r,
            seldom-none r.config.refresh_ahead (now + delay) one fits.0,
            (
              record { on_time = at-once (now + delay) (state_after PollEvent r) is.in_range; answered = waits-e one },
              tt,
              within-v,
              seldom-none r.config.refresh_ahead (now + delay) two fits.0,
              rest two fits.0,
            ),
          )

  calm : is_extra reply u ≡ false
  calm = subst (λ (x : State). nat_lt u.challenges x.challenges ≡ false) (sym after-reply) (rw is.calm (le-ltb u.challenges 0 (omega arith)))

  after-u : Goes (now + delay) v (served last later v)
      → Goes now u (granted_call (now + delay) u ∷ PollEvent ∷ PollEvent ∷ served last later (state_after PollEvent (state_after PollEvent (state_after (granted_call (now + delay) u) u))))
  after-u goes = subst (λ (call : Call). Goes now u (call ∷ PollEvent ∷ PollEvent ∷ served last later (state_after PollEvent (state_after PollEvent (state_after call u))))) (sym reply-is) (by, rest.1)
    where
      rest : Goes (now + delay) (state_after reply u) (PollEvent ∷ PollEvent ∷ served last later (state_after PollEvent (state_after PollEvent (state_after reply u))))
      rest = subst (λ (x : State). Goes (now + delay) x (PollEvent ∷ PollEvent ∷ served last later (state_after PollEvent (state_after PollEvent x)))) (sym after-reply) (tail goes)

      fits-next : (past : History) → All (λ x. past.made x.id ≡ x.last_send) (state_after reply u).transactions
      fits-next past = subst (λ (x : State). All (λ (y : Transaction). past.made y.id ≡ y.last_send) x.transactions) (sym after-reply) (fits-r past)

      by : (past : History) → FitsPast past u
          → RunsSteadily 3 1 0 delay now past u (reply ∷ PollEvent ∷ PollEvent ∷ served last later (state_after PollEvent (state_after PollEvent (state_after reply u))))
      by past fits =
          let next = with_call reply (now + delay) u past in
          let none = no-extra reply (now + delay) u past fits.0 calm refl in (
            record { on_time = is.awaits; answered = answered-in (now + delay) past u fits waits-u },
            inl success,
            subst (HoldsAtMost 3 1) (sym after-reply) is.within_r,
            seldom-none u.config.refresh_ahead (now + delay) next none,
            rest.0 next (none, fits-next next),
          )

  pub round : Goes (now + delay) v (served last later v) → Goes before s (served last (now ∷ later) s)
  round goes = (by, rest.1)
    where
      rest : Goes now (state_after (PollTransmit now) s) (granted_call (now + delay) (state_after (PollTransmit now) s) ∷ PollEvent ∷ PollEvent
          ∷ served last later (state_after PollEvent (state_after PollEvent (state_after (granted_call (now + delay) (state_after (PollTransmit now) s)) (state_after (PollTransmit now) s)))))
      rest = subst (λ (x : State). Goes now x (granted_call (now + delay) x ∷ PollEvent ∷ PollEvent
          ∷ served last later (state_after PollEvent (state_after PollEvent (state_after (granted_call (now + delay) x) x)))))
          (sym is.sends) (after-u goes)

      fits-next : (past : History) → past.made id ≡ now → All (λ x. past.made x.id ≡ x.last_send) (state_after (PollTransmit now) s).transactions
      fits-next past made = subst (λ (x : State). All (λ (y : Transaction). past.made y.id ≡ y.last_send) x.transactions) (sym is.sends)
          (rw is.transactions (all-one (λ (x : Transaction). past.made x.id ≡ x.last_send) (first_sent id u.remote now text) made))

      by : (past : History) → FitsPast past s → RunsSteadily 3 1 0 delay before past s (served last (now ∷ later) s)
      by past fits =
          let next = with_call (PollTransmit now) now s past in
          let none = no-extra (PollTransmit now) now s past fits.0 (rw is.idle refl) refl in (
            record { on_time = is.on_time; answered = answered-in now past s fits is.waits },
            tt,
            subst (HoldsAtMost 3 1) (sym is.sends) is.within_u,
            seldom-none s.config.refresh_ahead now next none,
            rest.0 next (none, fits-next next (is.made past fits)),
          )

-- ---- the states of the run

-- with all three, which expire then; the last packet was sent at this time
abbrev pub with_three : ℕ → ℕ → ℕ → ℕ → Source → State → State
with_three time allocation permission channel ids s = granted_at time (
    Allocation (record { relayed = relayed_v4; first_lifetime = seconds 600; expiry = allocation; is_expired = false })
    ∷ Permission ip_of_peer (granted_until permission true)
    ∷ Channel 0x4000 peer (granted_until channel true)
    ∷ []
    ) (record s { ids = ids; challenges = 0 })

-- and then a request for this was sent
abbrev pub requesting : ℕ → ℕ → Purpose → List ℕ → State → State
requesting now id purpose text s = record s {
  ids = behind_id s.ids;
  transactions = first_sent id s.remote now text ∷ [];
  listed = listings id (purpose ∷ []);
  last_send = Some now;
}

pub fits : (s : State) → s.phase ≡ Allocated → IsSome s.last_send → FitsPhaseForPoll s
fits s p sent = record {
  nothing_sent = λ new. absurd (let no : Allocated ≡ New = sym p ∙ new in cc);
  sent_before = λ not queued. sent;
  no_grants = λ before. absurd (subst IsBeforeGrants p before);
}

pub three-in_allocations : (time a p c : ℕ) (ids : Source) (s : State) → AllHaveAllocation (with_three time a p c ids s)
three-in_allocations time a p c ids s = all-has (HasAllocation (with_three time a p c ids s)) (with_three time a p c ids s).grants by
  where
    by : (g : Grant) → Has g (with_three time a p c ids s).grants → HasAllocation (with_three time a p c ids s) g
    by g (inl e) = rw e refl
    by g (inr (inl e)) = rw e refl
    by g (inr (inr (inl e))) = rw e refl
    by g (inr (inr (inr none))) = absurd none

three-on-time : (now time next sent a p c : ℕ) (ids : Source) (s : State) → poll_step now (with_three sent a p c ids s) ≡ (WaitUntil time, with_three sent a p c ids s)
    → now < time → now ≤ next → next ≤ time → next ≤ 2 ^ 62 → IsOnTime now next (with_three sent a p c ids s)
three-on-time now time next sent a p c ids s reported later from until range =
    on-time now time next (with_three sent a p c ids s) (fits (with_three sent a p c ids s) refl refl) (three-in_allocations sent a p c ids s) reported later from until range

-- ---- a refresh

module _ (before now time a p c a' p' c' : ℕ) (ids : Source) (purpose : Purpose) (s : State) (some : IsSome s.held) where
  abbrev old : ℕ → State
  old sent = with_three sent a p c ids s

  abbrev text : ℕ → List ℕ
  text sent = request_for (old sent) purpose (fresh_id (old sent))

  abbrev asked : ℕ → State
  asked sent = requesting now (fresh_id (old sent)) purpose (text sent) (old sent)

  abbrev new : State
  new = with_three now a' p' c' (behind_id ids) s

  pub refreshed : (sent : ℕ) → IsOnTime before now (old sent) → state_after (PollTransmit now) (old sent) ≡ asked sent → poll_step now (asked sent) ≡ (WaitUntil time, asked sent)
      → now + delay ≤ time → now + delay ≤ 2 ^ 62
      → ((message : List ℕ) → IsReplyFor purpose (fresh_id (old sent)) message → (response_step true message (now + delay) (asked sent)).1 ≡ new)
      → IsRound before now (fresh_id (old sent)) purpose [] (text sent) (old sent) (asked sent) new new
  refreshed sent punctual sends reported later range replied = record {
    on_time = punctual;
    waits = all-none (λ (x : Transaction). now ≤ x.last_send + delay);
    idle = refl;
    made = λ past fits. call-made (PollTransmit now) now past (old sent);
    sends = sends;
    transactions = refl;
    listed = refl;
    purposes = rw (eqb-self (fresh_id (old sent))) refl;
    phase = refl;
    over_udp = refl;
    held = some;
    small = omega arith;
    in_range = range;
    awaits = on-time now time (now + delay) (asked sent) (fits (asked sent) refl refl) (three-in_allocations sent a p c ids s) reported (omega (arith, later)) (omega arith) later range;
    replied = replied;
    answered = refl;
    calm = refl;
    reported = refl;
    within_u = (omega arith, omega arith);
    within_r = (omega arith, omega arith);
    within_v = (omega arith, omega arith);
  }

-- ---- the rounds

module _ (s : State) (some : IsSome s.held) where
  abbrev pub s0 : State
  s0 = with_allocation s

  abbrev pub bound : State
  bound = state_after (BindChannel Udp peer 1_000_000_000) s0

  abbrev ids1 : Source
  ids1 = behind_id s.ids

  abbrev pub s1 : State
  s1 = with_three 1_000_000_000 600_200_000_000 301_100_000_000 601_100_000_000 ids1 s

  abbrev pub s2 : State
  s2 = with_three 241_100_000_000 600_200_000_000 541_200_000_000 601_100_000_000 (behind_id ids1) s

  abbrev pub s3 : State
  s3 = with_three 481_200_000_000 600_200_000_000 781_300_000_000 601_100_000_000 (behind_id (behind_id ids1)) s

  abbrev pub s4 : State
  s4 = with_three 540_200_000_000 1_140_300_000_000 781_300_000_000 601_100_000_000 (behind_id (behind_id (behind_id ids1))) s

  abbrev pub s5 : State
  s5 = with_three 541_100_000_000 1_140_300_000_000 781_300_000_000 1_141_200_000_000 (behind_id (behind_id (behind_id (behind_id ids1)))) s

  reported-6 : poll_step 700_000_000_000 s5 ≡ (WaitUntil 721_300_000_000, s5)
  unfolding refresh_time
  reported-6 = refl

  reported-0 : poll_step 200_000_000 s0 ≡ (WaitUntil 540_200_000_000, s0)
  unfolding refresh_time
  reported-0 = refl

  -- ---- the channel is bound

  abbrev pub id1 : ℕ
  id1 = fresh_id s0

  abbrev pending : List Grant
  pending = new_allocation 600 200_000_000 relayed_v4 ∷ Channel 0x4000 peer (Pending true) ∷ Permission ip_of_peer (Pending true) ∷ []

  abbrev pub text1 : List ℕ
  text1 = request_for (granted_at 100_000_000 pending s) (ForChannel 0x4000 peer) id1

  abbrev pub queued_bind : State
  queued_bind = record (granted_at 100_000_000 pending s) {
    ids = ids1;
    transactions = first_sent id1 s.remote 1_000_000_000 text1 ∷ [];
    listed = listings id1 (ForChannel 0x4000 peer ∷ ForPermission ip_of_peer ∷ []);
    queue = record { packet = to_server s0 s.local text1; is_request = true } ∷ [];
  }

  abbrev pub sent_bind : State
  sent_bind = record queued_bind { queue = []; last_send = Some 1_000_000_000 }

  abbrev pub granted_bind : State
  granted_bind = record s1 { events = PermissionCreated Udp ip_of_peer ∷ ChannelCreated Udp peer ∷ [] }

  pub binds : bound ≡ queued_bind
  unfolding channel_numbers
  binds = refl

  reported-bind : poll_step 1_000_000_000 sent_bind ≡ (WaitUntil 1_500_000_000, sent_bind)
  unfolding refresh_time
  reported-bind = refl

  bind-in_allocations : AllHaveAllocation sent_bind
  bind-in_allocations = all-has (HasAllocation sent_bind) pending by
    where
      by : (g : Grant) → Has g pending → HasAllocation sent_bind g
      by g (inl e) = rw e refl
      by g (inr (inl e)) = rw e refl
      by g (inr (inr (inl e))) = rw e refl
      by g (inr (inr (inr none))) = absurd none

  -- the same with another ID
  abbrev bind_sent : ℕ → List ℕ → State
  bind_sent id text = record sent_bind {
    transactions = first_sent id s.remote 1_000_000_000 text ∷ [];
    listed = listings id (ForChannel 0x4000 peer ∷ ForPermission ip_of_peer ∷ []);
  }

  pub replied-1 : (id : ℕ) (text message : List ℕ) → IsReplyFor (ForChannel 0x4000 peer) id message → (response_step true message 1_100_000_000 (bind_sent id text)).1 ≡ granted_bind
  replied-1 id text message is = rw (is.named, is.of_method, eqb-self id, eqb-self id) refl

  -- when the packet leaves the queue, its request was made just now
  made-1 : (past : History) → FitsPast past queued_bind → (with_call (PollTransmit 1_000_000_000) 1_000_000_000 queued_bind past).made id1 ≡ 1_000_000_000
  made-1 past fits = by (eqb id1 (fresh_id queued_bind))
    where
      by : (b : Bool) → cond b 1_000_000_000 (past.made id1) ≡ 1_000_000_000
      by true = refl
      by false = has-all (λ (x : Transaction). past.made x.id ≡ x.last_send) (first_sent id1 s.remote 1_000_000_000 text1) queued_bind.transactions fits.1 (inl refl)

  pub round-1 : IsRound 1_000_000_000 1_000_000_000 id1 (ForChannel 0x4000 peer) (ForPermission ip_of_peer ∷ []) text1 queued_bind sent_bind granted_bind s1
  round-1 = record {
    on_time = at-once 1_000_000_000 queued_bind (omega arith);
    waits = all-one (λ (x : Transaction). 1_000_000_000 ≤ x.last_send + delay) (first_sent id1 s.remote 1_000_000_000 text1) (omega arith);
    idle = refl;
    made = λ past fits. made-1 past fits;
    sends = refl;
    transactions = refl;
    listed = refl;
    purposes = rw (eqb-self id1) refl;
    phase = refl;
    over_udp = refl;
    held = some;
    small = omega arith;
    in_range = omega arith;
    awaits = on-time 1_000_000_000 1_500_000_000 1_100_000_000 sent_bind (fits sent_bind refl refl) bind-in_allocations reported-bind (omega arith) (omega arith) (omega arith) (omega arith);
    replied = replied-1 id1 text1;
    answered = refl;
    calm = refl;
    reported = refl;
    within_u = (omega arith, omega arith);
    within_r = (omega arith, omega arith);
    within_v = (omega arith, omega arith);
  }

  -- ---- the refreshes

  punctual-2 : IsOnTime 1_100_000_000 241_100_000_000 s1
  unfolding refresh_time
  punctual-2 = three-on-time 1_100_000_000 241_100_000_000 241_100_000_000 1_000_000_000 600_200_000_000 301_100_000_000 601_100_000_000
      ids1 s refl (omega arith) (omega arith) (omega arith) (omega arith)

  punctual-3 : IsOnTime 241_200_000_000 481_200_000_000 s2
  unfolding refresh_time
  punctual-3 = three-on-time 241_200_000_000 481_200_000_000 481_200_000_000 241_100_000_000 600_200_000_000 541_200_000_000 601_100_000_000
      (behind_id ids1) s refl (omega arith) (omega arith) (omega arith) (omega arith)

  punctual-4 : IsOnTime 481_300_000_000 540_200_000_000 s3
  unfolding refresh_time
  punctual-4 = three-on-time 481_300_000_000 540_200_000_000 540_200_000_000 481_200_000_000 600_200_000_000 781_300_000_000 601_100_000_000
      (behind_id (behind_id ids1)) s refl (omega arith) (omega arith) (omega arith) (omega arith)

  punctual-5 : IsOnTime 540_300_000_000 541_100_000_000 s4
  unfolding refresh_time
  punctual-5 = three-on-time 540_300_000_000 541_100_000_000 541_100_000_000 540_200_000_000 1_140_300_000_000 781_300_000_000 601_100_000_000
      (behind_id (behind_id (behind_id ids1))) s refl (omega arith) (omega arith) (omega arith) (omega arith)

  punctual-6 : IsOnTime 541_200_000_000 700_000_000_000 s5
  unfolding refresh_time
  punctual-6 = three-on-time 541_200_000_000 721_300_000_000 700_000_000_000 541_100_000_000 1_140_300_000_000 781_300_000_000 1_141_200_000_000
      (behind_id (behind_id (behind_id (behind_id ids1)))) s refl (omega arith) (omega arith) (omega arith) (omega arith)

  abbrev pub asked-2 : State
  asked-2 = requesting 241_100_000_000 (fresh_id s1) (ForPermission ip_of_peer) (request_for s1 (ForPermission ip_of_peer) (fresh_id s1)) s1

  abbrev pub asked-3 : State
  asked-3 = requesting 481_200_000_000 (fresh_id s2) (ForPermission ip_of_peer) (request_for s2 (ForPermission ip_of_peer) (fresh_id s2)) s2

  abbrev pub asked-4 : State
  asked-4 = requesting 540_200_000_000 (fresh_id s3) (ForRefresh IPV4 asked_lifetime) (request_for s3 (ForRefresh IPV4 asked_lifetime) (fresh_id s3)) s3

  abbrev pub asked-5 : State
  asked-5 = requesting 541_100_000_000 (fresh_id s4) (ForChannel 0x4000 peer) (request_for s4 (ForChannel 0x4000 peer) (fresh_id s4)) s4

  pub round-2 : IsRound 1_100_000_000 241_100_000_000 (fresh_id s1) (ForPermission ip_of_peer) [] (request_for s1 (ForPermission ip_of_peer) (fresh_id s1)) s1 asked-2 s2 s2
  unfolding refresh_time is_refresh_due
  round-2 = refreshed 1_100_000_000 241_100_000_000 241_600_000_000 600_200_000_000 301_100_000_000 601_100_000_000 600_200_000_000 541_200_000_000 601_100_000_000 ids1
      (ForPermission ip_of_peer) s some 1_000_000_000 punctual-2 refl refl (omega arith) (omega arith) (λ message is. rw (is.named, is.of_method, eqb-self (fresh_id s1)) refl)

  pub round-3 : IsRound 241_200_000_000 481_200_000_000 (fresh_id s2) (ForPermission ip_of_peer) [] (request_for s2 (ForPermission ip_of_peer) (fresh_id s2)) s2 asked-3 s3 s3
  unfolding refresh_time is_refresh_due
  round-3 = refreshed 241_200_000_000 481_200_000_000 481_700_000_000 600_200_000_000 541_200_000_000 601_100_000_000 600_200_000_000 781_300_000_000 601_100_000_000
      (behind_id ids1) (ForPermission ip_of_peer) s some 241_100_000_000 punctual-3 refl refl (omega arith) (omega arith) (λ message is. rw (is.named, is.of_method, eqb-self (fresh_id s2)) refl)

  pub round-4 : IsRound 481_300_000_000 540_200_000_000 (fresh_id s3) (ForRefresh IPV4 asked_lifetime) [] (request_for s3 (ForRefresh IPV4 asked_lifetime) (fresh_id s3)) s3 asked-4 s4 s4
  unfolding refresh_time is_refresh_due
  round-4 = refreshed 481_300_000_000 540_200_000_000 540_700_000_000 600_200_000_000 781_300_000_000 601_100_000_000 1_140_300_000_000 781_300_000_000 601_100_000_000
      (behind_id (behind_id ids1)) (ForRefresh IPV4 asked_lifetime) s some 481_200_000_000 punctual-4 refl refl (omega arith) (omega arith)
      (λ message is. rw (is.named, is.of_method, eqb-self (fresh_id s3), is.lasts) refl)

  pub round-5 : IsRound 540_300_000_000 541_100_000_000 (fresh_id s4) (ForChannel 0x4000 peer) [] (request_for s4 (ForChannel 0x4000 peer) (fresh_id s4)) s4 asked-5 s5 s5
  unfolding refresh_time is_refresh_due
  round-5 = refreshed 540_300_000_000 541_100_000_000 541_600_000_000 1_140_300_000_000 781_300_000_000 601_100_000_000 1_140_300_000_000 781_300_000_000 1_141_200_000_000
      (behind_id (behind_id (behind_id ids1))) (ForChannel 0x4000 peer) s some 540_200_000_000 punctual-5 refl refl (omega arith) (omega arith)
      (λ message is. rw (is.named, is.of_method, eqb-self (fresh_id s4)) refl)

  -- ---- all of the run

  last-poll : Goes 541_200_000_000 s5 (served (seconds 700) [] s5)
  last-poll = (
    λ past fits. (
      record { on_time = punctual-6; answered = all-none (λ (x : Transaction). 700_000_000_000 ≤ past.made x.id + delay) },
      tt,
      subst (λ (q : TurnPollRet × State). HoldsAtMost 3 1 q.1) (sym reported-6) (omega arith, omega arith),
      seldom-none 60_000_000_000 700_000_000_000 (with_call (Poll 700_000_000_000) 700_000_000_000 s5 past) fits.0,
      tt,
    ),
    ap (λ (q : TurnPollRet × State). q.1.grants) reported-6,
  )

  from-5 : Goes 540_300_000_000 s4 (served (seconds 700) (541_100_000_000 ∷ []) s4)
  from-5 = round 540_300_000_000 541_100_000_000 (fresh_id s4) (seconds 700) [] (ForChannel 0x4000 peer) [] _ s4 asked-5 s5 s5
      round-5 last-poll

  from-4 : Goes 481_300_000_000 s3 (served (seconds 700) (540_200_000_000 ∷ 541_100_000_000 ∷ []) s3)
  from-4 = round 481_300_000_000 540_200_000_000 (fresh_id s3) (seconds 700) (541_100_000_000 ∷ []) (ForRefresh IPV4 asked_lifetime) [] _ s3 asked-4 s4 s4
      round-4 from-5

  from-3 : Goes 241_200_000_000 s2 (served (seconds 700) (481_200_000_000 ∷ 540_200_000_000 ∷ 541_100_000_000 ∷ []) s2)
  from-3 = round 241_200_000_000 481_200_000_000 (fresh_id s2) (seconds 700) (540_200_000_000 ∷ 541_100_000_000 ∷ []) (ForPermission ip_of_peer) [] _ s2 asked-3 s3 s3
      round-3 from-4

  from-2 : Goes 1_100_000_000 s1 (served (seconds 700) (241_100_000_000 ∷ 481_200_000_000 ∷ 540_200_000_000 ∷ 541_100_000_000 ∷ []) s1)
  from-2 = round 1_100_000_000 241_100_000_000 (fresh_id s1) (seconds 700) (481_200_000_000 ∷ 540_200_000_000 ∷ 541_100_000_000 ∷ []) (ForPermission ip_of_peer) [] _ s1 asked-2 s2 s2
      round-2 from-3

  from-1 : Goes 1_000_000_000 queued_bind (served (seconds 700) (1_000_000_000 ∷ 241_100_000_000 ∷ 481_200_000_000 ∷ 540_200_000_000 ∷ 541_100_000_000 ∷ []) queued_bind)
  from-1 = round 1_000_000_000 1_000_000_000 id1 (seconds 700) (241_100_000_000 ∷ 481_200_000_000 ∷ 540_200_000_000 ∷ 541_100_000_000 ∷ [])
      (ForChannel 0x4000 peer) (ForPermission ip_of_peer ∷ []) text1 queued_bind sent_bind granted_bind s1 round-1 from-2

  begins : IsSteady 3 1 0 delay 200_000_000 s0
  unfolding IsDistinct
  begins = record {
    allocated = refl;
    none_queued = refl;
    none_outstanding = refl;
    none_listed = refl;
    sent_before = omega arith;
    in_force = all-one (IsInForce 200_000_000) (new_allocation 600 200_000_000 relayed_v4) (refl, omega arith);
    none_late = all-one (λ g. 200_000_000 + ahead_of 60_000_000_000 g ≤ expiry_of g) (new_allocation 600 200_000_000 relayed_v4) (omega arith);
    room = all-one (λ g. HasRoom 3 1 0 50_000_000 delay (ahead_of 60_000_000_000 g)) (new_allocation 600 200_000_000 relayed_v4) (omega arith);
    room_for_more = omega arith;
    within = (omega arith, omega arith);
    distinct = (tt, tt);
    in_allocations = all-one (HasAllocation s0) (new_allocation 600 200_000_000 relayed_v4) refl;
    prompt = omega arith;
    in_range = omega arith;
  }

  fits-0 : FitsPhaseForPoll s0
  fits-0 = fits s0 refl refl

  goes : Goes 200_000_000 s0 (calls_of_700_s s0)
  goes = (by, rest.1)
    where
      rest : Goes 1_000_000_000 bound (served (seconds 700) (1_000_000_000 ∷ 241_100_000_000 ∷ 481_200_000_000 ∷ 540_200_000_000 ∷ 541_100_000_000 ∷ []) bound)
      rest = subst (λ (x : State). Goes 1_000_000_000 x (served (seconds 700) (1_000_000_000 ∷ 241_100_000_000 ∷ 481_200_000_000 ∷ 540_200_000_000 ∷ 541_100_000_000 ∷ []) x)) (sym binds) from-1

      fits-bound : (past : History) → past.made id1 ≡ 1_000_000_000 → All (λ x. past.made x.id ≡ x.last_send) bound.transactions
      fits-bound past made = subst (λ (x : State). All (λ (y : Transaction). past.made y.id ≡ y.last_send) x.transactions) (sym binds)
          (all-one (λ (x : Transaction). past.made x.id ≡ x.last_send) (first_sent id1 s.remote 1_000_000_000 text1) made)

      by : (past : History) → FitsPast past s0 → RunsSteadily 3 1 0 delay 200_000_000 past s0 (calls_of_700_s s0)
      by past fits =
          let next = with_call (BindChannel Udp peer 1_000_000_000) 1_000_000_000 s0 past in (
            record {
              on_time = on-time 200_000_000 540_200_000_000 1_000_000_000 s0 fits-0 (all-one (HasAllocation s0) (new_allocation 600 200_000_000 relayed_v4) refl) reported-0
                  (omega arith) (omega arith) (omega arith) (omega arith);
              answered = all-none (λ (x : Transaction). 1_000_000_000 ≤ past.made x.id + delay);
            },
            tt,
            subst (HoldsAtMost 3 1) (sym binds) (omega arith, omega arith),
            seldom-none 60_000_000_000 1_000_000_000 next fits.0,
            rest.0 next (fits.0, fits-bound next (call-made (BindChannel Udp peer 1_000_000_000) 1_000_000_000 past s0)),
          )

-- whatever came before, if no packet was extra
pub relay-runs : (s : State) → IsSome s.held → (past : History) → past.extra ≡ [] → RunsSteadily 3 1 0 100_000_000 200_000_000 past (with_allocation s) (calls_of_700_s (with_allocation s))
relay-runs s some past none = (goes s some).0 past (none, all-none (λ (x : Transaction). past.made x.id ≡ x.last_send))

pub relay-stays-up : RelayStaysUp
relay-stays-up s some = record { begins = begins s some; runs = relay-runs s some (no_history (with_allocation s)) refl; refreshes = (goes s some).1 }

-- ---- a caller that is late by 5 ms

pub all-three : {X : Type 0} (P : X → Type 0) (a b c : X) → P a → P b → P c → All P (a ∷ b ∷ c ∷ [])
all-three P a b c p q r = all-has P (a ∷ b ∷ c ∷ []) by
  where
    by : (x : _) → Has x (a ∷ b ∷ c ∷ []) → P x
    by x (inl e) = subst P (sym e) p
    by x (inr (inl e)) = subst P (sym e) q
    by x (inr (inr (inl e))) = subst P (sym e) r
    by x (inr (inr (inr none))) = absurd none

module _ (s : State) (some : IsSome s.held) where
  abbrev late1 : State
  late1 = with_three 1_000_000_000 600_200_000_000 301_100_000_000 601_100_000_000 s.ids s

  abbrev late2 : State
  late2 = with_three 241_105_000_000 600_200_000_000 541_205_000_000 601_100_000_000 (behind_id s.ids) s

  abbrev late_id : ℕ
  late_id = fresh_id late1

  abbrev late_text : List ℕ
  late_text = request_for late1 (ForPermission ip_of_peer) late_id

  abbrev late_sent : State
  late_sent = requesting 241_105_000_000 late_id (ForPermission ip_of_peer) late_text late1

  -- as of a caller that calls at this time
  late-round : IsRound 241_105_000_000 241_105_000_000 late_id (ForPermission ip_of_peer) [] late_text late1 late_sent late2 late2
  unfolding refresh_time is_refresh_due
  late-round = refreshed 241_105_000_000 241_105_000_000 241_605_000_000 600_200_000_000 301_100_000_000 601_100_000_000 600_200_000_000 541_205_000_000 601_100_000_000 s.ids
      (ForPermission ip_of_peer) s some 1_000_000_000 (at-once 241_105_000_000 late1 (omega arith)) refl refl (omega arith) (omega arith) (λ message is. rw (is.named, is.of_method, eqb-self late_id) refl)

  waits-until : IsOnTime 1_100_000_000 241_100_000_000 late1
  unfolding refresh_time
  waits-until = three-on-time 1_100_000_000 241_100_000_000 241_100_000_000 1_000_000_000 600_200_000_000 301_100_000_000 601_100_000_000
      s.ids s refl (omega arith) (omega arith) (omega arith) (omega arith)

  due-before : IsSome (next_transmit 241_100_000_000 late1)
  unfolding refresh_time is_refresh_due
  due-before = refl

  takes-one : is_some (next_transmit 241_105_000_000 late1) ≡ true
  unfolding refresh_time is_refresh_due
  takes-one = refl

  late-begins : IsSteady 3 1 0 delay 1_100_000_000 late1
  unfolding IsDistinct
  late-begins = record {
    allocated = refl;
    none_queued = refl;
    none_outstanding = refl;
    none_listed = refl;
    sent_before = omega arith;
    in_force = all-three (IsInForce 1_100_000_000) _ _ _ (refl, omega arith) (refl, omega arith) (refl, omega arith);
    none_late = all-three (λ g. 1_100_000_000 + ahead_of 60_000_000_000 g ≤ expiry_of g) _ _ _ (omega arith) (omega arith) (omega arith);
    room = all-three (λ g. HasRoom 3 1 0 50_000_000 delay (ahead_of 60_000_000_000 g)) _ _ _ (omega arith) (omega arith) (omega arith);
    room_for_more = omega arith;
    within = (omega arith, omega arith);
    distinct = ((refl, (refl, tt)), ((refl, tt), (tt, tt)));
    in_allocations = three-in_allocations 1_000_000_000 600_200_000_000 301_100_000_000 601_100_000_000 s.ids s;
    prompt = omega arith;
    in_range = omega arith;
  }

  late-steady : IsSteadyBehind 3 1 0 5_000_000 delay 1_100_000_000 late1
  late-steady = behind-of 3 1 0 5_000_000 delay 1_100_000_000 late1 late-begins
      (all-three (λ g. HasRoomBehind 3 1 0 5_000_000 50_000_000 delay (ahead_of 60_000_000_000 g)) _ _ _ (omega arith) (omega arith) (omega arith)) (omega arith)

  abbrev late_past : History
  late_past = with_call (PollTransmit 241_105_000_000) 241_105_000_000 late1 (no_history late1)

  late-reply : granted_call 241_205_000_000 late_sent ≡ reply 241_105_000_000 241_105_000_000 late_id 0 [] (ForPermission ip_of_peer) [] late_text late1 late_sent late2 late2 late-round
  late-reply = reply-is 241_105_000_000 241_105_000_000 late_id 0 [] (ForPermission ip_of_peer) [] late_text late1 late_sent late2 late2 late-round

  late-ends : state_after (granted_call 241_205_000_000 late_sent) late_sent ≡ late2
  late-ends = after-reply 241_105_000_000 241_105_000_000 late_id 0 [] (ForPermission ip_of_peer) [] late_text late1 late_sent late2 late2 late-round

  -- the reply comes in time
  late-answered : RunsSteadily 3 1 0 delay 241_105_000_000 late_past late_sent (granted_call 241_205_000_000 late_sent ∷ [])
  late-answered =
      let next = with_call (granted_call 241_205_000_000 late_sent) 241_205_000_000 late_sent late_past in
      let none = no-extra (granted_call 241_205_000_000 late_sent) 241_205_000_000 late_sent late_past refl
      (calm 241_105_000_000 241_105_000_000 late_id 0 [] (ForPermission ip_of_peer) [] late_text late1 late_sent late2 late2 late-round) refl in (
        record {
          on_time = late-round.awaits;
          answered = answered-in 241_205_000_000 late_past late_sent (
            refl,
            all-one (λ (x : Transaction). late_past.made x.id ≡ x.last_send) (first_sent late_id late_sent.remote 241_105_000_000 late_text) (call-made (PollTransmit 241_105_000_000) 241_105_000_000 (no_history late1) late1),
          ) (waits-u 241_105_000_000 241_105_000_000 late_id 0 [] (ForPermission ip_of_peer) [] late_text late1 late_sent late2 late2 late-round);
        },
        inl (success 241_105_000_000 241_105_000_000 late_id 0 [] (ForPermission ip_of_peer) [] late_text late1 late_sent late2 late2 late-round),
        subst (HoldsAtMost 3 1) (sym late-ends) (omega arith, omega arith),
        seldom-none late_sent.config.refresh_ahead 241_205_000_000 next none,
        tt,
      )

  late-runs : RunsBehind 3 1 0 5_000_000 delay 1_100_000_000 1_100_000_000 (no_history late1) late1 (late_calls late1)
  late-runs = (
    241_100_000_000,
    record {
      caller = record {
        later = omega arith;
        in_range = omega arith;
        from = omega arith;
        begun = omega arith;
        soon = omega arith;
        free = λ time after early. waits-until.punctual (max time 1_100_000_000) (omega arith) (omega (arith, early));
      };
      answered = all-none (λ (x : Transaction). 241_105_000_000 ≤ (no_history late1).made x.id + delay);
    },
    inl tt,
    subst (HoldsAtMost 3 1) (sym late-round.sends) (omega arith, omega arith),
    seldom-none late1.config.refresh_ahead 241_105_000_000 late_past refl,
    subst (λ (since : ℕ). RunsBehind 3 1 0 5_000_000 delay since 241_105_000_000 late_past (state_after (PollTransmit 241_105_000_000) late1)
        (granted_call 241_205_000_000 (state_after (PollTransmit 241_105_000_000) late1) ∷ [])) (sym (taken takes-one))
        (subst (λ (t : State). RunsBehind 3 1 0 5_000_000 delay 241_105_000_000 241_105_000_000 late_past t (granted_call 241_205_000_000 t ∷ [])) (sym late-round.sends)
        (runs-behind 3 1 0 5_000_000 delay 241_105_000_000 late_past late_sent (granted_call 241_205_000_000 late_sent ∷ []) late-answered)),
  )
    where
      taken : {b : Bool} → b ≡ true → ◌≡◌ {A = ℕ} (cond b 241_105_000_000 241_100_000_000) 241_105_000_000
      taken e = rw e refl

  late-refreshed : (state_after_all late1 (late_calls late1)).grants ≡ late2.grants
  late-refreshed =
      subst (λ (t : State). (state_after (granted_call 241_205_000_000 t) t).grants ≡ late2.grants) (sym late-round.sends) (ap (λ (t : State). t.grants) late-ends)

pub late-relay-stays-up : LateRelayStaysUp
late-relay-stays-up s some = record { begins = late-steady s some; runs = late-runs s some; was_due = due-before s some; refreshes = late-refreshed s some }
