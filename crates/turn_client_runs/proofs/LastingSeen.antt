-- What the caller sees while no grant is lost.
use Rattle.turn_client_laws.proofs.Common.{◌≡◌, ℕ, Bool, true, false, cond, ◌||◌, List, [], ◌∷◌, ◌++◌, Option, Some, None, Result, Ok, Err, refl, inl, inr, ap, sym, subst, ◌∙◌}
use Rattle.turn_client_laws.proofs.Common.{is_none, is_some, filter_map, list_any, map, not, option_map_or, socket_ip, IpAddr, SocketAddr}
use Rattle.turn_client_laws.proofs.Machine.{TransportType, State, Phase, Allocated, Grant, Allocation, Channel, Permission, Progress, Active, Pending, Reserved, Relay, allocations}
use Rattle.turn_client_laws.proofs.Machine.{as_allocation, Has, filter_map-has, has-right, has_event, has_reply, next_offer, offer_step, timed_out_step, timed_step, expired_at, DataOffer}
use Rattle.turn_client_laws.proofs.Machine.{agent_of, answer_by, timed_out_transaction, transaction_ended, Transaction, TurnPollRet, find_allocation_to, is_past, permission_state, is_allocated}
use Rattle.turn_client_laws.proofs.Machine.{bound_by, channel_step, channels_to, in_allocation, is_in_progress, permission_step, reserved_from, free_number}
use Rattle.turn_client_laws.proofs.Machine.{BindChannel, Call, CreatePermission, Poll, bind_channel_step, create_permission_step, is_open_to, is_permission_of, poll_step, state_after, state_after_all}
use Rattle.turn_client_laws.proofs.Laws.{contains-has}
use Rattle.turn_client_api.specs.declared.poll.TurnPollRet.TheVariants as Do
use Rattle.turn_client_api.specs.declared.error.BindChannelError.{BindChannelError}
use Rattle.turn_client_api.specs.declared.error.BindChannelError.TheVariants as Bind
use Rattle.turn_client_api.specs.declared.error.CreatePermissionError.{CreatePermissionError}
use Rattle.turn_client_api.specs.declared.error.CreatePermissionError.TheVariants as Create
use Rattle.turn_client_runs.specs.History.{History, no_history, with_call}
use Rattle.turn_client_runs.specs.Lasting.{as_granted, with_expiry}
use Rattle.turn_client_runs.specs.LastingRuns.{BindIsGranted, GrantsLastBehind, Lasts, RequestIsGranted, TellAllOpen, TellsOpen}
use Rattle.turn_client_runs.specs.InPieces.{RunsAnswered, with_all}
use Rattle.turn_client_runs.specs.Late.{IsSteadyBehind}
use Rattle.turn_client_runs.specs.OnTime.{time_of, time_of_all}
use Rattle.turn_client_runs.proofs.LastingParts.{first_lag, lasts-through, steady-kept, succeeds}
use Rattle.turn_client_runs.proofs.LastingGranted.{granted-answered}
use Rattle.turn_client_runs.proofs.LastingPieces.{InPieces, pieces-way}
use Rattle.turn_client_runs.proofs.LastingWays.{Behind, Way, all-kept, behind-way, halves, onwards}
use Rattle.turn_client_runs.proofs.LastingStands.{IsKept, Lag, allocation-stands, taken}
use Rattle.turn_client_runs.proofs.LastingTransmits.{same_ip-self}
use Rattle.turn_client_laws.proofs.Machine.{ForPermission, family_of_ip, fresh_id, requested, same_address-self, with_expired, with_grant}

-- ---- the client is not said to have ended

abbrev ended : TurnPollRet → Bool
ended Do.Closed = true
ended _ = false

-- with an allocation left, `poll` does not say so
module _ (now : ℕ) (s : State) (allocated : s.phase ≡ Allocated) (a : Relay) where
  abbrev IsOpen : TurnPollRet × State → Type 0
  IsOpen z = Has (Allocation a) z.1.grants → z.0 ≡ Do.Closed → ⊥

  going : (z : TurnPollRet × State) → ended z.0 ≡ false → IsOpen z
  going z e there f = let no : false ≡ true = sym e ∙ ap ended f in cc

  answers : (given : Option ℕ) (t : State) (closes : List SocketAddr) (p : Phase) (relays : List Relay) → allocations t ≡ relays → IsOpen (answer_by closes p relays given now t)
  answers given t (local ∷ others) p relays e = going (answer_by (local ∷ others) p relays given now t) refl
  answers given t [] Allocated [] e = λ there f. absurd (subst (λ (relays : List Relay). Has a relays) e (filter_map-has as_allocation (Allocation a) a t.grants there refl))
  answers given t [] Allocated (b ∷ relays) e = going (answer_by [] Allocated (b ∷ relays) given now t) refl
  answers given t [] p relays e = going (answer_by [] p relays given now t) refl

  timed : (given : Option ℕ) (t : State) (p : Phase) → p ≡ Allocated → IsOpen (timed_step p given now t)
  timed given t p e = rw e (answers given (expired_at given now t) (expired_at given now t).closes (expired_at given now t).phase (allocations (expired_at given now t)) refl)

  times-out : (o : Option Transaction) → IsOpen (option_map_or (λ t. timed_step s.phase (Some t.id) now (transaction_ended t.id s)) o (timed_step s.phase None now s))
  times-out None = timed None s s.phase allocated
  times-out (Some x) = timed (Some x.id) (transaction_ended x.id s) s.phase allocated

  offers : (o : Option DataOffer) → IsOpen (option_map_or (λ offer. offer_step offer s) o (timed_out_step now s))
  offers None = times-out (timed_out_transaction (agent_of s) now)
  offers (Some offer) = going (offer_step offer s) refl

  pub poll-open : IsOpen (poll_step now s)
  poll-open = by (has_event s || has_reply s)
    where
      by : (b : Bool) → IsOpen (cond b (Do.WaitUntil now, s) (option_map_or (λ offer. offer_step offer s) (next_offer s) (timed_out_step now s)))
      by true = going (Do.WaitUntil now, s) refl
      by false = offers (next_offer s)

abbrev is_relay : Grant → Bool
is_relay (Allocation a) = true
is_relay _ = false

relay-of : (h : Grant) (a : Relay) → with_expiry 0 h ≡ with_expiry 0 (Allocation a) → (b : Relay) × (h ≡ Allocation b)
relay-of (Allocation b) a e = (b, refl)
relay-of (Permission ip (Active lease)) a e = let no : false ≡ true = ap is_relay e in cc
relay-of (Permission ip (Pending kept)) a e = let no : false ≡ true = ap is_relay e in cc
relay-of (Permission ip (Reserved until)) a e = let no : false ≡ true = ap is_relay e in cc
relay-of (Channel number peer (Active lease)) a e = let no : false ≡ true = ap is_relay e in cc
relay-of (Channel number peer (Pending kept)) a e = let no : false ≡ true = ap is_relay e in cc
relay-of (Channel number peer (Reserved until)) a e = let no : false ≡ true = ap is_relay e in cc
relay-of h a e = let no : false ≡ true = ap is_relay e in cc

open-all : (count slots extras delay : ℕ) (Runs : ℕ → ℕ → ℕ → History → State → List Call → Type 0) (onward : Call → ℕ → State → History → History) → Way count slots extras delay Runs onward
    → (lag : Lag) (before : ℕ) (past : History) (s : State) (calls : List Call) → IsKept count slots extras lag delay before past s.transactions s
    → Runs lag.late lag.since before past s calls → (a : Relay) → Has (Allocation a) s.grants → TellAllOpen calls s
open-all count slots extras delay Runs onward way lag before past s [] k run a there = tt
open-all count slots extras delay Runs onward way lag before past s (call ∷ calls) k run a there =
    let (since, (kept, goes), rest) = way.step lag before past s call calls k run in
    let stands = allocation-stands count slots extras lag delay before past s.transactions s k a there in
    let (h, here, same, granted) = goes.remain (Allocation a) there stands.granted refl in
    let (b, is) = relay-of h a same in
    let now_there = subst (λ (x : Grant). Has x (state_after call s).grants) is here in (
      tells call b now_there,
      open-all count slots extras delay Runs onward way (taken since lag) (time_of before call) (onward call (time_of before call) s past) (state_after call s) calls kept rest b now_there,
    )
  where
    tells : (c : Call) (b : Relay) → Has (Allocation b) (state_after c s).grants → TellsOpen c s
    tells (Poll now) b here = poll-open now s k.phase b here
    tells c b here = tt

-- ---- what was requested by a call

abbrev creates_one : Result Unit CreatePermissionError → Bool
creates_one (Ok x) = true
creates_one (Err e) = false

abbrev binds_one : Result Unit BindChannelError → Bool
binds_one (Ok x) = true
binds_one (Err e) = false

-- an accepted request for a permission has it wait
permission-waits : (transport : TransportType) (ip : IpAddr) (now : ℕ) (s : State) → (create_permission_step transport ip now s).0 ≡ Ok tt
    → Has (Permission ip (Pending true)) (create_permission_step transport ip now s).1.grants
permission-waits transport ip now s = allocated (find_allocation_to transport ip s)
  where
    Waits : Result Unit CreatePermissionError × State → Type 0
    Waits z = z.0 ≡ Ok tt → Has (Permission ip (Pending true)) z.1.grants

    step : Waits (permission_step ip now s)
    step = by (is_some (permission_state ip s)) (not (is_allocated s.phase))
      where
        by : (b c : Bool) → Waits (cond b (Err Create.AlreadyExists, s) (cond c (Err Create.NoAllocation, s) (
          Ok tt,
          requested (fresh_id s) (ForPermission ip) now
              (with_grant (Permission ip (Pending true)) s),
        )))
        by true c e = absurd (let no : false ≡ true = ap creates_one e in cc)
        by false true e = absurd (let no : false ≡ true = ap creates_one e in cc)
        by false false e = has-right (Permission ip (Pending true)) s.grants (Permission ip (Pending true) ∷ []) (inl refl)

    allocated : (o : Option Relay) → Waits (in_allocation o ip now Create.NoAllocation s (permission_step ip now s))
    allocated None e = absurd (let no : false ≡ true = ap creates_one e in cc)
    allocated (Some a) e = by (is_past now a) e
      where
        by : (b : Bool) → Waits (cond b (Err Create.NoAllocation, with_expired (family_of_ip ip) s) (permission_step ip now s))
        by true e = absurd (let no : false ≡ true = ap creates_one e in cc)
        by false e = step e

-- what an accepted request for a channel has wait: the channel, under the number that was free, and a permission, if there was none
record Brings (peer : SocketAddr) (s t : State) : Type 0 where
  number : ℕ
  free : free_number s ≡ Some number
  channel : Has (Channel number peer (Pending true)) t.grants
  permission : permission_state (socket_ip peer) s ≡ None → Has (Permission (socket_ip peer) (Pending true)) t.grants

channel-waits : (transport : TransportType) (peer : SocketAddr) (now : ℕ) (s : State) → (bind_channel_step transport peer now s).0 ≡ Ok tt → Brings peer s (bind_channel_step transport peer now s).1
channel-waits transport peer now s = allocated (find_allocation_to transport (socket_ip peer) s)
  where
    Waits : Result Unit BindChannelError × State → Type 0
    Waits z = z.0 ≡ Ok tt → Brings peer s z.1

    more : Option Progress → List Grant
    more o = map (λ ip. Permission ip (Pending true)) (cond (is_none o) (socket_ip peer ∷ []) [])

    bound : (untils : List ℕ) (b : Bool) (o : Option ℕ) → free_number s ≡ o → Waits (bound_by peer now s untils b o)
    bound (until ∷ others) b o f e = absurd (let no : false ≡ true = ap binds_one e in cc)
    bound [] false o f e = absurd (let no : false ≡ true = ap binds_one e in cc)
    bound [] true None f e = absurd (let no : false ≡ true = ap binds_one e in cc)
    bound [] true (Some number) f e = record {
      number = number;
      free = f;
      channel = has-right (Channel number peer (Pending true)) s.grants (Channel number peer (Pending true) ∷ more (permission_state (socket_ip peer) s)) (inl refl);
      permission = λ none. has-right (Permission (socket_ip peer) (Pending true)) s.grants (Channel number peer (Pending true) ∷ more (permission_state (socket_ip peer) s))
          (inr (subst (λ (o : Option Progress). Has (Permission (socket_ip peer) (Pending true)) (more o)) (sym none) (inl refl)));
    }

    step : Waits (channel_step peer now s)
    step = by (list_any is_in_progress (channels_to peer s))
      where
        by : (b : Bool) → Waits (cond b (Err Bind.AlreadyExists, s) (bound_by peer now s (filter_map (reserved_from now) (channels_to peer s)) (is_allocated s.phase) (free_number s)))
        by true e = absurd (let no : false ≡ true = ap binds_one e in cc)
        by false e = bound (filter_map (reserved_from now) (channels_to peer s)) (is_allocated s.phase) (free_number s) refl e

    allocated : (o : Option Relay) → Waits (in_allocation o (socket_ip peer) now Bind.NoAllocation s (channel_step peer now s))
    allocated None e = absurd (let no : false ≡ true = ap binds_one e in cc)
    allocated (Some a) e = by (is_past now a) e
      where
        by : (b : Bool) → Waits (cond b (Err Bind.NoAllocation, with_expired (family_of_ip (socket_ip peer)) s) (channel_step peer now s))
        by true e = absurd (let no : false ≡ true = ap binds_one e in cc)
        by false e = step e

same-permission : (h : Grant) (ip : IpAddr) → with_expiry 0 h ≡ as_granted (Permission ip (Pending true)) → is_permission_of ip h ≡ true
same-permission h ip e = sym (for-permission h ip) ∙ (ap (is_permission_of ip) e ∙ same_ip-self ip)
  where
    for-permission : (h : Grant) (ip : IpAddr) → is_permission_of ip (with_expiry 0 h) ≡ is_permission_of ip h
    for-permission (Permission other (Active lease)) ip = refl
    for-permission (Permission other (Pending kept)) ip = refl
    for-permission (Permission other (Reserved until)) ip = refl
    for-permission (Channel number peer (Active lease)) ip = refl
    for-permission (Channel number peer (Pending kept)) ip = refl
    for-permission (Channel number peer (Reserved until)) ip = refl
    for-permission h ip = refl

same-channel : (h : Grant) (number : ℕ) (peer : SocketAddr) → with_expiry 0 h ≡ as_granted (Channel number peer (Pending true)) → is_open_to peer h ≡ true
same-channel h number peer e = sym (for-channel h peer) ∙ (ap (is_open_to peer) e ∙ same_address-self peer)
  where
    for-channel : (h : Grant) (peer : SocketAddr) → is_open_to peer (with_expiry 0 h) ≡ is_open_to peer h
    for-channel (Permission other (Active lease)) peer = refl
    for-channel (Permission other (Pending kept)) peer = refl
    for-channel (Permission other (Reserved until)) peer = refl
    for-channel (Channel number other (Active lease)) peer = refl
    for-channel (Channel number other (Pending kept)) peer = refl
    for-channel (Channel number other (Reserved until)) peer = refl
    for-channel h peer = refl

requested-granted : (count slots extras delay : ℕ) (Runs : ℕ → ℕ → ℕ → History → State → List Call → Type 0) (onward : Call → ℕ → State → History → History) → Way count slots extras delay Runs onward
    → (lag : Lag) (before : ℕ) (past : History) (s : State) (calls : List Call) → IsKept count slots extras lag delay before past s.transactions s
    → Runs lag.late lag.since before past s calls → RequestIsGranted delay before s calls
requested-granted count slots extras delay Runs onward way lag before past s (CreatePermission transport ip now ∷ calls) k run = λ ok kept late.
    let call = CreatePermission transport ip now in
    let (since, (next, goes), rest) = way.step lag before past s call calls k run in
    let (h, there, same, in_force) = succeeds count slots extras delay Runs onward way (taken since lag) now (onward call now s past) (state_after call s) next calls rest
    (Permission ip (Pending true))
    (permission-waits transport ip now s ok) kept refl late in
    (h, there, same-permission h ip same, in_force)
requested-granted count slots extras delay Runs onward way lag before past s (BindChannel transport peer now ∷ calls) k run = λ ok kept late.
    let call = BindChannel transport peer now in
    let (since, (next, goes), rest) = way.step lag before past s call calls k run in
    let is = channel-waits transport peer now s ok in
    let (h, here, same, in_force) = succeeds count slots extras delay Runs onward way (taken since lag) now (onward call now s past) (state_after call s) next calls rest
    (Channel is.number peer (Pending true))
    is.channel (kept is.number) refl late in
    (h, here, same-channel h is.number peer same, in_force)
requested-granted count slots extras delay Runs onward way lag before past s calls k run = tt

-- the channel by its number, and the permission
bind-granted : (count slots extras delay : ℕ) (Runs : ℕ → ℕ → ℕ → History → State → List Call → Type 0) (onward : Call → ℕ → State → History → History) → Way count slots extras delay Runs onward
    → (lag : Lag) (before : ℕ) (past : History) (s : State) (calls : List Call) → IsKept count slots extras lag delay before past s.transactions s
    → Runs lag.late lag.since before past s calls → BindIsGranted delay before s calls
bind-granted count slots extras delay Runs onward way lag before past s (BindChannel transport peer now ∷ calls) k run = λ ok late.
    let call = BindChannel transport peer now in
    let (since, (next, goes), rest) = way.step lag before past s call calls k run in
    let is = channel-waits transport peer now s ok in
    let later = succeeds count slots extras delay Runs onward way (taken since lag) now (onward call now s past) (state_after call s) next calls rest in (
      λ number free kept.
          let same : is.number ≡ number = unwrapped (sym is.free ∙ free) in
          later (Channel number peer (Pending true)) (subst (λ (n : ℕ). Has (Channel n peer (Pending true)) (state_after call s).grants) same is.channel) kept refl late,
      λ none kept. later (Permission (socket_ip peer) (Pending true)) (is.permission none) kept refl late,
    )
  where
    unwrapped : {m n : ℕ} → Some m ≡ Some n → m ≡ n
    unwrapped e = cc
bind-granted count slots extras delay Runs onward way lag before past s calls k run = tt

-- ---- all of it

run-lasts : (count slots extras delay : ℕ) (Runs : ℕ → ℕ → ℕ → History → State → List Call → Type 0) (onward : Call → ℕ → State → History → History) → Way count slots extras delay Runs onward
    → (late now : ℕ) (s : State) (before after : List Call) → IsSteadyBehind count slots extras late delay now s → Runs late now now (no_history s) s (before ++ after)
    → Lasts delay now s before after
run-lasts count slots extras delay Runs onward way late now s before after steady run =
    let parts = halves count slots extras delay Runs onward way (first_lag late now s) now (no_history s) s before after (steady-kept count slots extras late delay now s steady) run in
    let lag = taken parts.since (first_lag late now s) in
    let past = onwards onward before now s (no_history s) in record {
      grants = lasts-through count slots extras delay Runs onward way late now s before after steady run;
      request = requested-granted count slots extras delay Runs onward way lag (time_of_all now before) past (state_after_all s before) after parts.kept parts.run;
      bind = bind-granted count slots extras delay Runs onward way lag (time_of_all now before) past (state_after_all s before) after parts.kept parts.run;
      allocated = (all-kept count slots extras delay Runs onward way lag (time_of_all now before) past (state_after_all s before) after parts.kept parts.run).1.0.phase;
      open_on = λ a there.
          open-all count slots extras delay Runs onward way lag (time_of_all now before) past (state_after_all s before) after parts.kept parts.run a
          (contains-has (Allocation a) (state_after_all s before).grants there);
    }

pub grants-last-behind : GrantsLastBehind
grants-last-behind count slots extras late delay now s before after steady run = by run
  where
    behind : Behind count slots extras delay late now now (no_history s) s (before ++ after) → Lasts delay now s before after
    behind = run-lasts count slots extras delay (Behind count slots extras delay) with_call (behind-way count slots extras delay) late now s before after steady

    by : RunsAnswered count slots extras late delay now s (before ++ after) → Lasts delay now s before after
    by (inl packets) = behind packets
    by (inr (inl granted)) = behind (granted-answered count slots extras late delay now s (before ++ after) steady granted)
    by (inr (inr pieces)) = run-lasts count slots extras delay (InPieces count slots extras delay) with_all (pieces-way count slots extras delay) late now s before after steady pieces
