-- Each event that waits has its cause in the run.
use Rattle.turn_client_laws.proofs.Common.{◌≡◌, ◌⊎◌, ℕ, List, [], None, refl, inl, inr, Contains, SocketAddr}
use Rattle.turn_client_laws.proofs.Machine.{id_of, TransportType, Config, State, initial, Call, TurnEvent, AllocationCreated, PermissionCreated, ChannelCreated, ChannelCreateFailed, TcpConnected}
use Rattle.turn_client_laws.proofs.Machine.{Grant, Allocation, Permission, Channel, Connection, Active, Purpose, ForRefresh, ForChannel, ForBind, purposes_of, state_after, state_after_all, Has}
use Rattle.turn_client_laws.proofs.Machine.{first-has}
use Rattle.turn_client_laws.proofs.Laws.{Input, AllocatesInOrder, GivesBack, IsActiveGrant, IsDoneBy, contains-has, has-contains, leaves-bring}
use Rattle.turn_client_runs.specs.Events.{Creates, EventsHaveCauses, FailsBy, FailsItself, HasEventCause, IsRefusedIn, Refuses, Reports, Waits, relayed_over}
use Rattle.turn_client_runs.proofs.AskedPeers.{HasAskedConnections, HasAskedPeers}
use Rattle.turn_client_runs.proofs.EventCalls.{call-adds}
use Rattle.turn_client_runs.proofs.EventInputs.{Causing, Creating, IsRefusedAt, Refusing, event-brought}
use Rattle.turn_client_runs.proofs.GrantInputs.{Granting, IsGivenAt}
use Rattle.turn_client_runs.proofs.ReceivedRuns.{HoldNothing}
use Rattle.turn_client_runs.proofs.RunGrants.{AnswersFor, IsDoneFor, Keeps, answered-in, call-keeps, first-hold, first-keeps, granting, granting-answers, keeps-peers, keeps-signed}
use Rattle.turn_client_runs.proofs.RunLemmas.{IsDoneLast, run-did}
use Rattle.turn_client_runs.proofs.SignedLemmas.{Signs}

-- what an event reports as created is active, a connection if it is bound
reported : (x : TurnEvent) (transport : TransportType) (one : Input) (g : Grant) (p : Purpose) → Reports x transport g → IsGivenAt one p g → IsActiveGrant g
reported (AllocationCreated over relayed) transport one (Allocation a) p reports given = tt
reported (PermissionCreated over ip) transport one (Permission other (Active expiry)) p reports given = tt
reported (ChannelCreated over peer) transport one (Channel number to (Active expiry)) p reports given = tt
reported (TcpConnected peer) transport one (Connection c) p reports given = bound p given
  where
    bound : (q : Purpose) → IsGivenAt one q (Connection c) → c.deadline ≡ None
    bound (ForBind local asked id) given = given.2
    bound q given = absurd given
reported x transport one g p reports given = absurd reports

-- nothing that is refused was to be deleted
no-return : (one : Input) (p : Purpose) (x : TurnEvent) → IsRefusedIn one p x → GivesBack p → ⊥
no-return one (ForRefresh family lifetime) x refused back = absurd refused
no-return one p x refused back = back

module _ (e : TurnEvent) where
  -- ---- one input

  creates : (one : Input) → HasAskedPeers one × HasAskedConnections one → AllocatesInOrder one.before × Signs one.before → (is : Creating e one) → Creates e is.purpose one
  creates one asked order is =
      let grant : Granting is.g one = record { over = is.over; purpose = is.purpose; accepting = is.accepting; given = is.given } in
      (is.g, is.reports, granting one is.g (reported e (relayed_over one) one is.g is.purpose is.reports is.given) asked order grant, is.new)

  refused-in : (one : Input) → HasAskedPeers one → (p : Purpose) (x : TurnEvent) → Contains (purposes_of (id_of one.bytes) one.before) p → IsRefusedAt one p x → IsRefusedIn one p x
  refused-in one asked (ForChannel number peer) (ChannelCreateFailed transport to) listed (error, same, has) = (error, same, asked number peer to listed has)
  refused-in one asked (ForChannel number peer) x listed refused = absurd refused
  refused-in one asked p x listed refused = refused

  refuses : (one : Input) → HasAskedPeers one → (is : Refusing e one) → Refuses e is.purpose one
  refuses one asked is = record {
    over = is.over;
    whole = is.whole;
    signed = is.signed;
    listed = is.listed;
    outstanding = is.outstanding;
    ended = is.ended;
    refused = refused-in one asked is.purpose e is.listed is.refused;
  }

  -- ---- one call

  -- why it waits after the call
  abbrev Causes : Call → State → Type 0
  Causes call s = IsDoneFor (Creates e) call s ⊎ IsDoneFor (Refuses e) call s ⊎ FailsBy e call s

  input-causes : (call : Call) (s : State) → Keeps s → IsDoneBy (Causing e) call s → Causes call s
  input-causes call s keeps (one, among, why) = by why
    where
      peers : HasAskedPeers one × HasAskedConnections one
      peers = keeps-peers call s keeps one among

      by : Causing e one → Causes call s
      by (inl is) = inl (one, among, (is.purpose, creates one peers (keeps-signed call s keeps one among) is))
      by (inr (inl is)) = inr (inl (one, among, (is.purpose, refuses one peers.0 is)))
      by (inr (inr fails)) = inr (inr (inr (one, among, fails)))

  call-causes : (call : Call) (s : State) → Keeps s → Waits e (state_after call s) → Waits e s ⊎ Causes call s
  call-causes call s keeps waits =
      elim (leaves-bring (λ u. Has e u.events) (Causing e) (event-brought e) (FailsItself e) (λ call s other there. call-adds s e call other there) call s (state_after call s) (inl refl)
      (contains-has e (state_after call s).events waits)) [
        | inl there ↦ inl (has-contains e s.events there)
        | inr (inl fails) ↦ inr (inr (inr (inl fails)))
        | inr (inr done) ↦ inr (input-causes call s keeps done)
      ]

  -- ---- a run

  creates-answers : AnswersFor (Creates e)
  creates-answers p one (g, reports, granting, new) = granting-answers g p one granting

  refuses-answers : AnswersFor (Refuses e)
  refuses-answers p one is = (is.listed, no-return one p e is.refused)

  module _ (first : State) (unlisted : first.listed ≡ []) (hold : HoldNothing first) (calls : List Call) where
    last-cause : IsDoneLast Causes (Waits e) calls first → HasEventCause e calls first
    last-cause is = by is.did
      where
        last : (Did : Call → State → Type 0) → Did is.call (state_after_all first is.earlier) → IsDoneLast Did (Waits e) calls first
        last Did did = record { earlier = is.earlier; call = is.call; later = is.later; split = is.split; did = did; holds = is.holds }

        by : Causes is.call (state_after_all first is.earlier) → HasEventCause e calls first
        by (inl done) = inl (answered-in first unlisted hold calls (Creates e) creates-answers (Waits e) (last (IsDoneFor (Creates e)) done))
        by (inr (inl done)) = inr (inl (answered-in first unlisted hold calls (Refuses e) refuses-answers (Waits e) (last (IsDoneFor (Refuses e)) done)))
        by (inr (inr fails)) = inr (inr (record { earlier = is.earlier; call = is.call; later = is.later; split = is.split; fails = fails; waits = is.holds }))

pub events-have-causes : (transport : TransportType) (local remote : SocketAddr) (config : Config) (seed : List ℕ) (calls : List Call)
    → EventsHaveCauses (initial transport local remote config seed) calls
events-have-causes transport local remote config seed calls earlier later e split polled =
    let first = initial transport local remote config seed in
    last-cause e first refl (first-hold transport local remote config seed) earlier
    (run-did (Waits e) (Causes e) Keeps call-keeps (call-causes e) earlier first (first-keeps transport local remote config seed) (λ waits. contains-has e [] waits)
    (has-contains e (state_after_all first earlier).events (first-has e (state_after_all first earlier).events polled)))
