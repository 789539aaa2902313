-- In a run all packets go to the server, from the control address or over the data connection that they bind, and
-- data to the peer that was named.
use Rattle.turn_client_laws.proofs.Common.{◌≡◌, ◌⊎◌, ◌∙◌, ◌++◌, ℕ, Bool, true, false, cond, leb, List, [], ◌∷◌, filter_map, flat_map, Option, Some, None, Result, Ok, refl, subst, ap, inl, inr, arith, sym, Contains-append_right}
use Rattle.turn_client_laws.proofs.Common.{find, is_none, nat_le, ⊤, Contains, list_any, socket_ip, and_parts, leb-true, SocketAddr}
use Rattle.turn_client_laws.proofs.Machine.{TransportType, Udp, Tcp, Transmit, channel_frame, send_indication, due, is_due, same_address, Transaction, Config, timers_of, State, agent_of, Challenge, ForChannel, next_refresh, next_transmit, to_server, ForPermission}
use Rattle.turn_client_laws.proofs.Machine.{initial, Call, DataConnection, Grant, Channel, Connection, Lease, Active, Purpose, ForBind, Phase, New, Allocated}
use Rattle.turn_client_laws.proofs.Machine.{Queued, active_channel, bound_to, can_send_to, on_channel, on_connection, send_over, send_to_step, is_paused, keepalive_times}
use Rattle.turn_client_laws.proofs.Machine.{allocations, as_connection, binding_indication, first_allocate, fresh_id, request_for}
use Rattle.turn_client_laws.proofs.Machine.{state_after_all, idle_step, keepalive_step, next_queued, queue_step, refreshes_in, reply_in, reply_step, transmit_step, same_address-true, Has, first-has}
use Rattle.turn_client_laws.proofs.Machine.{has-all, has-filter_map, has-found, AllocatedTcpSocket, BindChannel, auth_of, bound, challenge_in, challenge_of-sound}
use Rattle.turn_client_laws.proofs.Laws.{queued-there, AsksServer, IsToServer, by_found, by_test}
use Rattle.turn_client_laws.proofs.Laws.{has-contains, Input, initial-HasGrantsAsked, initial-numbers}
use Rattle.turn_client_api.specs.declared.error.SendError.{SendError}
use Rattle.turn_client_laws.proofs.SentToServer.{initial-AsksServer, leaves-AsksServer}
use Rattle.turn_client_runs.specs.Holds.{HoldsOfRuns}
use Rattle.turn_client_runs.specs.Inputs.{handled_in}
use Rattle.turn_client_runs.specs.Leaving.{IsNamed, IsOwnRequest, Names, WasHeard}
use Rattle.turn_client_runs.specs.Sent.{GoesToServer, IsBindFrom, IsNoBind, IsOnConnection, IsSentTo, PacketsGoOut, SendsToPeers, SendsToServer, WasOpened, from_control}
use Rattle.turn_client_runs.proofs.HoldLemmas.{holds-found}
use Rattle.turn_client_runs.proofs.SentCalls.{IsOpenedIf, refreshes-else}
use Rattle.turn_client_runs.proofs.SentQueues.{IsBindText, IsControlText}
use Rattle.turn_client_runs.proofs.SentTexts.{first-else, indication-else, request-else, requests-else, responds-else}
use Rattle.turn_client_runs.proofs.SentWalk.{GoesOn, GoesWell, Stays, next-asked, run-goes}

-- ---- what a packet of `poll_transmit` is

-- a request again, what is queued, the first ALLOCATE, a refresh, or what keeps the path to the server alive
module _ (P : Transmit (List ℕ) → Type 0) (now : ℕ) (s : State)
    (again : (x : Transaction) → Has x s.transactions → is_due (timers_of s.config) s.transport now x ≡ true → P (record { payload = x.request; transport = s.transport; from = s.local; to = x.to }))
    (queued : (q : Queued) → Has q s.queue → P q.packet) (begins : P (to_server s s.local (first_allocate s (fresh_id s))))
    (renews : (p : Purpose) → s.phase ≡ Allocated → next_refresh now s ≡ Some p → P (to_server s s.local (request_for s p (fresh_id s))))
    (alive : P (to_server s s.local (binding_indication (fresh_id s)))) where
  abbrev Sends : Option (Transmit (List ℕ)) × State → Type 0
  Sends x = (packet : Transmit (List ℕ)) → x.0 ≡ Some packet → P packet

  some-sends : (x : Transmit (List ℕ)) → P x → (packet : Transmit (List ℕ)) → Some x ≡ Some packet → P packet
  some-sends x is packet e = let same : x ≡ packet = cc in subst P same is

  none-sends : (t : State) → Sends (None, t)
  none-sends t packet e = cc

  reply-sends : Sends (reply_step s)
  reply-sends packet e =
      let (q, there, reads) = has-filter_map reply_in packet s.queue (first-has packet (filter_map reply_in s.queue) e) in
      subst P (by q.is_request q reads) (queued q there)
    where
      by : (b : Bool) (q : Queued) → cond b None (Some q.packet) ≡ Some packet → q.packet ≡ packet
      by true q e = cc
      by false q e = cc

  idle-sends : (p : Phase) → s.phase ≡ p → Sends (idle_step p now s)
  idle-sends New phase = some-sends _ begins
  idle-sends Allocated phase =
      by_found Sends _ (next_refresh now s) (keepalive_step now s) (λ p e. some-sends _ (renews p phase e))
      (by_test Sends (list_any (λ time. nat_le time now) (keepalive_times s)) _ (None, s) (λ e. some-sends _ alive) (λ e. none-sends s))
  idle-sends p phase = none-sends s

  pub transmit-sends : Sends (transmit_step now s)
  transmit-sends =
      by_found Sends _ (due (agent_of s) now) _
      (λ x e. let (there, is) = has-found (is_due (timers_of s.config) s.transport now) x s.transactions e in some-sends _ (again x there is))
      (by_test Sends (is_paused now s) (reply_step s) (queue_step now s) (λ e. reply-sends)
      (λ e. by_found Sends _ (next_queued now s) (idle_step s.phase now s) (λ q f. some-sends _ (queued q (queued-there now s q f).0)) (idle-sends s.phase refl)))

-- ---- a packet that is sent

-- the caller opened the data connection that is to be bound
abbrev pub IsOpenedIn : List Call → State → Purpose → Type 0
IsOpenedIn calls first (ForBind local peer id) = WasOpened local peer id calls first
IsOpenedIn calls first p = ⊤

-- one of the calls named what is requested, and opened the data connection
abbrev pub IsAskedIn : List Call → State → Purpose → Type 0
IsAskedIn calls first p = IsNamed p calls × IsOpenedIn calls first p

pub own-asked : (calls : List Call) (first : State) (p : Purpose) → IsOwnRequest p → IsAskedIn calls first p
own-asked calls first (ForBind local peer id) own = absurd own
own-asked calls first p own = (inl own, tt)

-- who requests a channel names the IP address, too
names-both : (call : Call) (number : ℕ) (peer : SocketAddr) → Names call (ForChannel number peer) → Names call (ForPermission (socket_ip peer))
names-both (BindChannel transport other now) number peer names = ap socket_ip names
names-both (AllocatedTcpSocket id tuple other (Some at) now) number peer names = absurd names
names-both (AllocatedTcpSocket id tuple other None now) number peer names = absurd names
names-both call number peer names = absurd names

pub brings-asked : (calls : List Call) (first : State) (number : ℕ) (peer : SocketAddr) → IsAskedIn calls first (ForChannel number peer) → IsAskedIn calls first (ForPermission (socket_ip peer))
brings-asked calls first number peer (inl none, opened) = absurd none
brings-asked calls first number peer (inr (call, there, names), opened) = (inr (call, there, names-both call number peer names), tt)

module _ (transport : TransportType) (local remote : SocketAddr) (config : Config) (seed : List ℕ) where
  abbrev pub first : State
  first = initial transport local remote config seed

  abbrev pub Asks : List Call → Purpose → Type 0
  Asks calls = IsAskedIn calls first

  abbrev pub Hears : List Call → Challenge → Type 0
  Hears calls d = WasHeard d calls first

  -- after these calls
  pub goes : (calls : List Call) → GoesOn (Asks calls) (Hears calls) first (own-asked calls first) (brings-asked calls first) (state_after_all first calls)
  goes calls = run-goes (Asks calls) (Hears calls) first (own-asked calls first) (brings-asked calls first) calls first named heard begun
    where
      opened : (before : List Call) (call : Call) (later : List Call) → calls ≡ before ++ call ∷ later → (p : Purpose) → IsOpenedIf call (state_after_all first before) p → IsOpenedIn calls first p
      opened before call later e (ForBind at peer id) (tuple, now, is, accepted) = record {
        earlier = before;
        tuple = tuple;
        now = now;
        later = later;
        split = e ∙ ap (λ (c : Call). before ++ c ∷ later) is;
        accepted = accepted;
      }
      opened before call later e p if = tt

      named : (before : List Call) (call : Call) (later : List Call) → calls ≡ before ++ call ∷ later → (p : Purpose) → Names call p → IsOpenedIf call (state_after_all first before) p → Asks calls p
      named before call later e p names if = (
        inr (call, subst (λ (l : List Call). Contains l call) (sym e) (Contains-append_right before (call ∷ later) call (has-contains call (call ∷ later) (inl refl))), names),
        opened before call later e p if,
      )

      heard : (one : Input) → Contains (handled_in first calls) one → (d : Challenge) → challenge_in one.before one.bytes ≡ Some d → Hears calls d
      heard one among d is = (one, among, challenge_of-sound (auth_of one.before) one.bytes d is)

      begun : GoesOn (Asks calls) (Hears calls) first (own-asked calls first) (brings-asked calls first) first
      begun = record {
        well = record {
          stays = (refl, refl, refl, refl);
          holds = tt;
          queue = λ q none. absurd none;
          outstanding = λ x none. absurd none;
          listed = λ l none. absurd none;
          held = λ d e. cc;
        };
        granted = λ g none. absurd none;
        have = initial-HasGrantsAsked transport local remote config seed;
        distinct = initial-numbers transport local remote config seed;
      }

  -- what is refreshed then was asked
  pub refresh-asked : (calls : List Call) (now : ℕ) (p : Purpose) → next_refresh now (state_after_all first calls) ≡ Some p → Asks calls p
  refresh-asked calls now p e =
      next-asked (Asks calls) (Hears calls) first (own-asked calls first) (brings-asked calls first) now (state_after_all first calls) (goes calls).granted p e

  module _ (calls : List Call) (now : ℕ) where
    abbrev s : State
    s = state_after_all first calls

    abbrev well : GoesWell (Asks calls) (Hears calls) first (own-asked calls first) (brings-asked calls first) s
    well = (goes calls).well

    -- from the control address
    control-goes : (text : List ℕ) → IsNoBind text → GoesToServer (to_server s s.local text) calls first
    control-goes text other = record { transport = well.stays.0; to = well.stays.2; from = inl (well.stays.1, λ tcp. other) }

    -- what is signed for the control connection binds none
    control-else : (text : List ℕ) → IsControlText (Asks calls) (Hears calls) first text → IsNoBind text
    control-else text (inl (p, other, asked, requests)) = requests-else (Hears calls) first.config p text other requests
    control-else text (inr responds) = responds-else (Hears calls) first.config text responds

    queued-goes : (q : Queued) → Has q s.queue → GoesToServer q.packet calls first
    queued-goes q there = let (transport, to, from) = well.queue q there in record { transport = transport; to = to; from = by from }
      where
        by : ((q.packet.from ≡ first.local) × IsControlText (Asks calls) (Hears calls) first q.packet.payload) ⊎ IsBindText (Asks calls) (Hears calls) first q.packet.from q.packet.payload
            → ((q.packet.from ≡ first.local) × (first.transport ≡ Tcp → IsNoBind q.packet.payload)) ⊎ IsBindFrom q.packet.from q.packet.payload calls first
        by (inl (control, text)) = inl (control, λ tcp. control-else q.packet.payload text)
        by (inr (peer, id, (named, opened), (u, (config, held), (number, e)))) = inr (peer, id, opened, (u, number, config, e))

    -- over TCP nothing is retransmitted
    never-due : (transport : TransportType) (x : Transaction) → is_due (timers_of s.config) transport now x ≡ true → transport ≡ Tcp → ⊥
    never-due Tcp x e tcp = grind arith
    never-due Udp x e tcp = cc

    resent-goes : AsksServer s → (x : Transaction) → Has x s.transactions → is_due (timers_of s.config) s.transport now x ≡ true
        → GoesToServer (record { payload = x.request; transport = s.transport; from = s.local; to = x.to }) calls first
    resent-goes asks x there is = record {
      transport = well.stays.0;
      to = has-all (IsToServer s) x s.transactions asks there ∙ well.stays.2;
      from = inl (well.stays.1, λ tcp. absurd (never-due s.transport x is (well.stays.0 ∙ tcp)));
    }

    transmit-goes : AsksServer s → (packet : Transmit (List ℕ)) → next_transmit now s ≡ Some packet → GoesToServer packet calls first
    transmit-goes asks =
        transmit-sends (λ packet. GoesToServer packet calls first) now s (resent-goes asks) queued-goes (control-goes (first_allocate s (fresh_id s)) (first-else s (fresh_id s)))
        (λ p phase e. control-goes (request_for s p (fresh_id s))
        (request-else s p (fresh_id s) (refreshes-else now s p (first-has p (flat_map (refreshes_in now s) (allocations s)) e))))
        (control-goes (binding_indication (fresh_id s)) (indication-else (fresh_id s)))

-- ---- data for a peer

module _ (first s : State) (stays : Stays first s) (peer : SocketAddr) (bytes : List ℕ) (now : ℕ) where
  abbrev Gives : (Transmit (List ℕ) → Type 0) → Result (Transmit (List ℕ)) SendError × State → Type 0
  Gives P x = (packet : Transmit (List ℕ)) → x.0 ≡ Ok packet → P packet

  ok-gives : (P : Transmit (List ℕ) → Type 0) (x : Transmit (List ℕ)) → P x → Gives P (Ok x, s)
  ok-gives P x is packet e = let same : x ≡ packet = cc in subst P same is

  control-same : (text : List ℕ) → record { payload = text; transport = s.transport; from = s.local; to = s.remote } ≡ from_control first text
  control-same text = rw (stays.0, stays.1, stays.2) refl

  connection-gives : (o : Option DataConnection) → find (bound_to peer) (filter_map as_connection s.grants) ≡ o → Gives (IsOnConnection peer bytes first s) (on_connection o bytes s)
  connection-gives None e = λ packet f. cc
  connection-gives (Some c) e =
      let (there, is) = has-found (bound_to peer) c (filter_map as_connection s.grants) e in
      let (g, here, reads) = has-filter_map as_connection c s.grants there in
      let (bound, to) = and_parts (is_none c.deadline) (same_address c.peer peer) is in
      ok-gives (IsOnConnection peer bytes first s) _
      (c, has-contains (Connection c) s.grants (listed g here reads), same_address-true c.peer peer to, none c.deadline bound, rw stays.2 refl)
    where
      listed : (g : Grant) → Has g s.grants → as_connection g ≡ Some c → Has (Connection c) s.grants
      listed (Connection d) here reads = let same : d ≡ c = cc in rw (← same) here
      listed g here reads = cc

      none : (o : Option ℕ) → is_none o ≡ true → o ≡ None
      none None e = refl
      none (Some n) e = cc

  channel-there : (number expiry : ℕ) → Has (number, expiry) (filter_map (active_channel peer) s.grants)
      → (lease : Lease) × Contains s.grants (Channel number peer (Active lease)) × (lease.expiry ≡ expiry)
  channel-there number expiry there = let (g, here, reads) = has-filter_map (active_channel peer) (number, expiry) s.grants there in of g here reads
    where
      of : (g : Grant) → Has g s.grants → active_channel peer g ≡ Some (number, expiry) → (lease : Lease) × Contains s.grants (Channel number peer (Active lease)) × (lease.expiry ≡ expiry)
      of (Channel other to (Active lease)) here reads = by (same_address to peer) refl reads
        where
          by : (b : Bool) → same_address to peer ≡ b → cond {A = Option (ℕ × ℕ)} b (Some (other, lease.expiry)) None ≡ Some (number, expiry)
              → (lease : Lease) × Contains s.grants (Channel number peer (Active lease)) × (lease.expiry ≡ expiry)
          by true e f =
              let both : (other, lease.expiry) ≡ (number, expiry) = cc in
              let one : other ≡ number = ap (λ (x : ℕ × ℕ). x.0) both in
              let two : lease.expiry ≡ expiry = ap (λ (x : ℕ × ℕ). x.1) both in (
                lease,
                subst (λ (n : ℕ). Contains s.grants (Channel n peer (Active lease))) one
                    (subst (λ (a : SocketAddr). Contains s.grants (Channel other a (Active lease))) (same_address-true to peer e) (has-contains (Channel other to (Active lease)) s.grants here)),
                two,
              )
          by false e f = cc
      of g here reads = grind arith

  indication-gives : Gives (IsSentTo Udp peer bytes now first s) (on_channel [] peer bytes now s)
  indication-gives = ok-gives (IsSentTo Udp peer bytes now first s) _ (inr (fresh_id s, control-same (send_indication peer bytes (fresh_id s))))

  channel-gives : (channels : List (ℕ × ℕ)) → filter_map (active_channel peer) s.grants ≡ channels → Gives (IsSentTo Udp peer bytes now first s) (on_channel channels peer bytes now s)
  channel-gives [] e = indication-gives
  channel-gives ((number, expiry) ∷ others) e =
      by_test (Gives (IsSentTo Udp peer bytes now first s)) (leb now expiry) _ _
      (λ f.
      let (lease, there, same) = channel-there number expiry (rw e (inl refl)) in
      ok-gives (IsSentTo Udp peer bytes now first s) _ (inl (number, lease, there, rw same (leb-true now expiry f), control-same (channel_frame number bytes))))
      (λ f. indication-gives)

  over-gives : (transport : TransportType) → Gives (IsSentTo transport peer bytes now first s) (send_over transport peer bytes now s)
  over-gives Tcp = connection-gives (find (bound_to peer) (filter_map as_connection s.grants)) refl
  over-gives Udp = channel-gives (filter_map (active_channel peer) s.grants) refl

  send-gives : (transport : TransportType) → Gives (IsSentTo transport peer bytes now first s) (send_to_step transport peer bytes now s)
  send-gives transport = by_test (Gives (IsSentTo transport peer bytes now first s)) (can_send_to transport (socket_ip peer) s) _ _ (λ e. over-gives transport) (λ e packet f. cc)

-- ---- a run

pub run-sends : HoldsOfRuns SendsToServer
run-sends transport local remote config seed calls earlier now later packet e f =
    transmit-goes transport local remote config seed earlier now
    (holds-found AsksServer leaves-AsksServer initial-AsksServer transport local remote config seed earlier) packet f

pub run-gives : HoldsOfRuns SendsToPeers
run-gives transport local remote config seed calls earlier relays peer bytes now later packet e f =
    let first = initial transport local remote config seed in
    send-gives first (state_after_all first earlier) (goes transport local remote config seed earlier).well.stays peer bytes now relays packet f

pub run-goes_out : HoldsOfRuns PacketsGoOut
run-goes_out transport local remote config seed calls =
    (run-sends transport local remote config seed calls, run-gives transport local remote config seed calls)
