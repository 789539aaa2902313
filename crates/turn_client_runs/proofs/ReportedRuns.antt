-- In each part of a run no cause is reported twice.
use Rattle.turn_client_laws.proofs.Common.{◌≡◌, ℕ, ◌+◌, ◌≤◌, true, List, [], ◌∷◌, refl, sym, subst, arith, inl, inr, ◌∙◌, false, list_any, false_from_ne_true, Contains, SocketAddr}
use Rattle.turn_client_laws.proofs.Machine.{TransportType, Config, is_family_list, State, initial, Call, BindChannel, CreatePermission, PollEvent, PollRecv, Recv, TcpConnect, TurnEvent}
use Rattle.turn_client_laws.proofs.Machine.{PermissionCreated, PermissionCreateFailed, ChannelCreated, ChannelCreateFailed, TcpConnected, TcpConnectFailed, Grant, AddressFamily, connection_gone}
use Rattle.turn_client_laws.proofs.Machine.{state_after, state_after_all, without_stream, Has, has-all}
use Rattle.turn_client_laws.proofs.Laws.{has-any, Input, handled, AllocatesInOrder, ProcessesInputs, TakesInput, IsUngranted, HasGrantsAsked, HasItsGrant, call-configured, edits-IsKept}
use Rattle.turn_client_laws.proofs.Laws.{fixed-all-edits, AllHaveGrant, StayFounded, StayFounded-KeepsAllEdits, has-contains, calls-do, before-kept}
use Rattle.turn_client_runs.specs.Reported.{CausesAreReportedOnce, IsOfGrant, IsReportedOncePerRequest, attempts_in, caused_by, due_of, in_calls, is_about, is_awaited_by, is_like, is_to_come}
use Rattle.turn_client_runs.specs.Reported.{reported_by}
use Rattle.turn_client_runs.proofs.LastingCounts.{passes, passes-none}
use Rattle.turn_client_runs.proofs.LoneCalls.{call-lone, input-lone}
use Rattle.turn_client_runs.proofs.LoneConnects.{HasLoneConnects}
use Rattle.turn_client_runs.proofs.QuietLemmas.{calls-keep}
use Rattle.turn_client_runs.proofs.RunGrants.{Keeps, call-keeps, first-keeps, keeps-signed}
use Rattle.turn_client_runs.proofs.ReportedCalls.{quiet-spends}
use Rattle.turn_client_runs.proofs.ReportedCounts.{count-passes, passes-first}
use Rattle.turn_client_runs.proofs.ReportedInputs.{Suits, gone-spends, lead-brings}
use Rattle.turn_client_runs.proofs.ReportedLemmas.{Spends, load, spends-same, spends-trans}
use Rattle.turn_client_runs.proofs.ReportedAllocates.{IsSettled}
use Rattle.turn_client_runs.proofs.ReportedRequests.{channel-requests, connect-requests, permission-requests}
use Rattle.turn_client_runs.proofs.UnboundStreams.{AreUnbound, call-unbound, first-unbound, input-unbound-at}

-- ---- the inputs of a call

-- the configuration has each family once at most
abbrev NamesOnce : State → Type 0
NamesOnce s = is_family_list s.config.address_families ≡ true

input-configured : (call : Call) (s : State) (one : Input) → Contains (handled call s) one → one.before.config ≡ s.config
input-configured = before-kept (λ s t. t.config ≡ s.config) (edits-IsKept (λ s t. t.config ≡ s.config) (fixed-all-edits (λ f. f.1.0)) (λ s streams. refl))

settled : (s : State) → AllocatesInOrder s → NamesOnce s → IsSettled s
settled s (times, its, families) names phase = elim (families (subst IsUngranted (sym phase) tt)) [ inl same ↦ rw same names | inr (one, two) ↦ rw one refl ]

-- what every client keeps about the requests and the streams of its data connections
abbrev KeepsConnections : State → Type 0
KeepsConnections s = HasLoneConnects s × AreUnbound s

call-connections : (call : Call) (s : State) → KeepsConnections s → KeepsConnections (state_after call s)
call-connections call s (lone, unbound) = (call-lone call s lone, call-unbound call s unbound)

-- a request is listed for what exists
input-asked : (call : Call) (s : State) → HasGrantsAsked s → (one : Input) → Contains (handled call s) one → AllHaveGrant one.before
input-asked call s asked one among =
    before-kept StayFounded (edits-IsKept StayFounded StayFounded-KeepsAllEdits (λ s streams h. h)) call s one among (λ l there. has-all (HasItsGrant s) l s.listed asked there)

input-suits : (call : Call) (s : State) → Keeps s → KeepsConnections s → NamesOnce s → (one : Input) → Has one (handled call s) → Suits one
input-suits call s keeps (lone, unbound) names one there =
    let among = has-contains one (handled call s) there in
    record {
      settled = settled one.before (keeps-signed call s keeps one among).0 (rw (input-configured call s one among) names);
      lone = input-lone call s one among lone;
      asked = input-asked call s keeps.0 one among;
      unbound = input-unbound-at call s one among unbound;
    }

-- the event may come only of such a grant
comes-about : (e : TurnEvent) (g : Grant) → is_to_come e g ≡ true → is_about e g ≡ true
comes-about e g is = grind arith

-- of a grant no family is awaited
none-awaited : (e : TurnEvent) → IsOfGrant e → (families : List AddressFamily) → passes (is_awaited_by e) families ≡ 0
none-awaited (PermissionCreated over ip) of families = passes-none _ families (λ family there. refl)
none-awaited (PermissionCreateFailed over ip) of families = passes-none _ families (λ family there. refl)
none-awaited (ChannelCreated over peer) of families = passes-none _ families (λ family there. refl)
none-awaited (ChannelCreateFailed over peer) of families = passes-none _ families (λ family there. refl)
none-awaited (TcpConnected peer) of families = passes-none _ families (λ family there. refl)
none-awaited (TcpConnectFailed peer) of families = passes-none _ families (λ family there. refl)
none-awaited e of families = absurd of

module _ (e : TurnEvent) where
  inputs-bring : (call : Call) (s : State) → Keeps s → KeepsConnections s → NamesOnce s → TakesInput call → load e (state_after call s) ≤ load e s + attempts_in e (handled call s)
  inputs-bring call s keeps connections names takes = by (calls-do call s takes)
    where
      by : ProcessesInputs call s → load e (state_after call s) ≤ load e s + attempts_in e (handled call s)
      by (inl lead) = lead-brings e (handled call s) s (state_after call s) (input-suits call s keeps connections names) lead
      by (inr end) =
          let t = connection_gone end.local s in
          let u = without_stream end.local t in
          let spends : Spends e s (state_after call s) = subst (Spends e s) (sym end.gone) (spends-trans e s t u (gone-spends e end.local s) (spends-same e t u refl refl refl)) in
          omega (arith, spends)

  -- ---- a call

  call-reports : (call : Call) (s : State) → Keeps s → KeepsConnections s → NamesOnce s → reported_by e call s + load e (state_after call s) ≤ load e s + caused_by e call s
  call-reports PollEvent s keeps connections names = omega (arith, passes-first (is_like e) s.events)
  call-reports (CreatePermission transport ip now) s keeps connections names = omega (arith, permission-requests e s transport ip now)
  call-reports (BindChannel transport peer now) s keeps connections names = omega (arith, channel-requests e s transport peer now)
  call-reports (TcpConnect peer now) s keeps connections names = omega (arith, connect-requests e s peer now)
  call-reports (Recv packet now) s keeps connections names = omega (arith, inputs-bring (Recv packet now) s keeps connections names tt)
  call-reports (PollRecv now) s keeps connections names = omega (arith, inputs-bring (PollRecv now) s keeps connections names tt)
  call-reports call s keeps connections names = omega (arith, quiet-spends e s call tt)

  -- ---- a run

  call-names : (call : Call) (s : State) → NamesOnce s → NamesOnce (state_after call s)
  call-names call s names = rw (call-configured call s) names

  calls-report : (calls : List Call) (s : State) → Keeps s → KeepsConnections s → NamesOnce s
      → in_calls (reported_by e) s calls + load e (state_after_all s calls) ≤ load e s + in_calls (caused_by e) s calls
  calls-report [] s keeps connections names = omega arith
  calls-report (call ∷ calls) s keeps connections names = omega (
    arith,
    call-reports call s keeps connections names,
    calls-report calls (state_after call s) (call-keeps call s keeps) (call-connections call s connections) (call-names call s names),
  )

  due-load : (s : State) → due_of e s ≡ load e s
  due-load s = omega (arith, count-passes (is_like e) s.events, count-passes (is_to_come e) s.grants, count-passes (is_awaited_by e) s.families)

  -- ---- one request

  -- of no such grant the event comes
  none-to-come : (gs : List Grant) → list_any (is_about e) gs ≡ false → passes (is_to_come e) gs ≡ 0
  none-to-come gs none = passes-none (is_to_come e) gs (λ g there. false_from_ne_true (is_to_come e g) (λ is.
      let no : true ≡ false = sym (has-any (is_about e) g gs there (comes-about e g is)) ∙ none in cc))

  once-requested : (calls : List Call) (s : State) → Keeps s → KeepsConnections s → NamesOnce s → IsReportedOncePerRequest e s calls
  once-requested calls s keeps connections names of none few =
      let t = state_after_all s calls in
      omega (
        arith,
        few,
        calls-report calls s keeps connections names,
        none-to-come s.grants none,
        none-awaited e of s.families,
        count-passes (is_like e) s.events,
        count-passes (is_like e) t.events,
      )

pub causes-reported-once : (transport : TransportType) (local remote : SocketAddr) (config : Config) (seed : List ℕ) (calls : List Call)
    → CausesAreReportedOnce (initial transport local remote config seed) calls
causes-reported-once transport local remote config seed calls names earlier middle later split e =
    let first = initial transport local remote config seed in
    let s = state_after_all first earlier in
    let keeps = calls-keep Keeps call-keeps earlier first (first-keeps transport local remote config seed) in
    let connections = calls-keep KeepsConnections call-connections earlier first ((λ id peer none. absurd none), first-unbound transport local remote config seed) in
    let still = calls-keep NamesOnce (call-names e) earlier first names in (
      omega (arith, calls-report e middle s keeps connections still, due-load e s, due-load e (state_after_all s middle)),
      once-requested e middle s keeps connections still,
    )
