-- What a call requests may be reported once more.
use Rattle.turn_client_laws.proofs.Common.{◌≡◌, ◌⊎◌, ◌∙◌, ℕ, ◌+◌, ◌≤◌, Bool, true, false, cond, not, ◌&&◌, ◌||◌, List, [], ◌∷◌, map, filter_map, Option, Some, None, Result, refl, sym, subst, arith}
use Rattle.turn_client_laws.proofs.Common.{inl, inr, is_none, is_some, list_any, socket_ip, and_parts, cases_Bool, false_from_ne_true, or_parts, IpAddr, SocketAddr}
use Rattle.turn_client_laws.proofs.Machine.{TransportType, Tcp, same_address, State, Call, BindChannel, CreatePermission, TcpConnect, BindChannelError, CreatePermissionError, TcpConnectError}
use Rattle.turn_client_laws.proofs.Machine.{TurnEvent, PermissionCreated, PermissionCreateFailed, ChannelCreated, ChannelCreateFailed, TcpConnected, TcpConnectFailed, Grant, Permission, Channel}
use Rattle.turn_client_laws.proofs.Machine.{Connect, Offer, Connection, Progress, Pending, ForConnect, ForPermission, is_connected, is_connecting, is_connection_to, bind_channel, bound_by}
use Rattle.turn_client_laws.proofs.Machine.{channel_step, channels_to, connect_step, create_permission_step, free_number, is_allocated, is_in_progress, missing_permission, tcp_connect_step}
use Rattle.turn_client_laws.proofs.Machine.{permission_step, progress_to, reserved_from, bind_channel_step, find_allocation_to, has_active_permission, is_connect_to, is_permission_of}
use Rattle.turn_client_laws.proofs.Machine.{permission_state, same_ip, with_grant, fresh_id, requested, state_after, same_address-true, same_ip-true, Has, filter_map-has, has-right}
use Rattle.turn_client_laws.proofs.Laws.{by_test, no-permission, any-has, has-any}
use Rattle.turn_client_runs.specs.Reported.{is_about, is_connection, is_request_for, is_to_come, requested_by}
use Rattle.turn_client_runs.proofs.LastingCounts.{passes, passes-append}
use Rattle.turn_client_runs.proofs.ReportedCalls.{in-allocation}
use Rattle.turn_client_runs.proofs.ReportedLemmas.{Spends, load, spends-same}

clash : (b : Bool) → b ≡ true → b ≡ false → ⊥
clash b h k = let both : true ≡ false = sym h ∙ k in cc

-- ---- what is about a grant that is requested

about-permission : (e : TurnEvent) (ip : IpAddr) (g : Grant) → is_to_come e (Permission ip (Pending true)) ≡ true → is_about e g ≡ true → is_permission_of ip g ≡ true
about-permission (PermissionCreated over other) ip (Permission to progress) is about = subst (λ (a : IpAddr). same_ip to a ≡ true) (sym (same_ip-true ip other is)) about
about-permission (PermissionCreateFailed over other) ip (Permission to progress) is about = subst (λ (a : IpAddr). same_ip to a ≡ true) (sym (same_ip-true ip other is)) about
about-permission e ip g is about = cc

-- a channel to the peer is pending or active
IsOpenTo : SocketAddr → Grant → Type 0
IsOpenTo peer g = (progress : Progress) × (progress_to peer g ≡ Some progress) × (is_in_progress progress ≡ true)

open-channel : (number : ℕ) (to peer other : SocketAddr) (progress : Progress) → same_address peer other ≡ true
    → (is_in_progress progress && same_address to other) ≡ true → IsOpenTo peer (Channel number to progress)
unfolding IsOpenTo
open-channel number to peer other progress is about =
    let (goes, same) = and_parts (is_in_progress progress) (same_address to other) about in
    let at : same_address to peer ≡ true = subst (λ (a : SocketAddr). same_address to a ≡ true) (sym (same_address-true peer other is)) same in
    (progress, rw at refl, goes)

about-channel : (e : TurnEvent) (number : ℕ) (peer : SocketAddr) (g : Grant) → is_to_come e (Channel number peer (Pending true)) ≡ true → is_about e g ≡ true → IsOpenTo peer g
about-channel (ChannelCreated over other) number peer (Channel n to progress) is about = open-channel n to peer other progress is about
about-channel (ChannelCreateFailed over other) number peer (Channel n to progress) is about = open-channel n to peer other progress is about
about-channel e number peer g is about = cc

at-peer : (a peer to : SocketAddr) → same_address peer to ≡ true → same_address a to ≡ true → same_address a peer ≡ true
at-peer a peer to same is = subst (λ (x : SocketAddr). same_address a x ≡ true) (sym (same_address-true peer to same)) is

of-connection : (to peer : SocketAddr) (g : Grant) → same_address peer to ≡ true → is_connection to g ≡ true → (is_connect_to peer g ≡ true) ⊎ (is_connection_to peer g ≡ true)
of-connection to peer (Connect other) same is = inl (at-peer other peer to same is)
of-connection to peer (Offer offer) same is = inr (at-peer offer.peer peer to same is)
of-connection to peer (Connection c) same is = inr (at-peer c.peer peer to same is)
of-connection to peer g same is = cc

-- a data connection to the peer is requested, or is there
about-connection : (e : TurnEvent) (peer : SocketAddr) (g : Grant) → is_to_come e (Connect peer) ≡ true → is_about e g ≡ true → (is_connect_to peer g ≡ true) ⊎ (is_connection_to peer g ≡ true)
about-connection (TcpConnected to) peer g is about = of-connection to peer g is about
about-connection (TcpConnectFailed to) peer g is about = of-connection to peer g is about
about-connection e peer g is about = cc

module _ (e : TurnEvent) (s : State) where
  none-permission : (ip : IpAddr) → is_some (permission_state ip s) ≡ false → is_to_come e (Permission ip (Pending true)) ≡ true → list_any (is_about e) s.grants ≡ false
  none-permission ip none is = false_from_ne_true (list_any (is_about e) s.grants) (λ some.
      let (g, there, about) = any-has (is_about e) s.grants some in
      clash (list_any (is_permission_of ip) s.grants) (has-any (is_permission_of ip) g s.grants there (about-permission e ip g is about)) (no-permission ip s.grants none))

  none-channel : (number : ℕ) (peer : SocketAddr) → list_any is_in_progress (channels_to peer s) ≡ false
      → is_to_come e (Channel number peer (Pending true)) ≡ true → list_any (is_about e) s.grants ≡ false
  unfolding IsOpenTo
  none-channel number peer none is = false_from_ne_true (list_any (is_about e) s.grants) (λ some.
      let (g, there, about) = any-has (is_about e) s.grants some in
      let (progress, reads, goes) = about-channel e number peer g is about in
      clash (list_any is_in_progress (channels_to peer s)) (has-any is_in_progress progress (channels_to peer s) (filter_map-has (progress_to peer) g progress s.grants there reads) goes) none)

  -- ---- one grant that a call adds

  one-requested : (call : Call) (new : Grant) → Has new (state_after call s).grants → (is_to_come e new ≡ true → is_request_for e call ≡ true)
      → (is_to_come e new ≡ true → list_any (is_about e) s.grants ≡ false)
      → cond (is_to_come e new) 1 0 ≤ requested_by e call s
  one-requested call new there asks none = elim (cases_Bool (is_to_come e new)) [
    | inl is ↦ rw (is, asks is, none is, has-any (is_to_come e) new (state_after call s).grants there is) (omega arith)
    | inr other ↦ rw other (omega arith)
  ]

  permission-request : (transport : TransportType) (ip : IpAddr) (now : ℕ) → is_to_come e (Permission ip (Pending true)) ≡ true → is_request_for e (CreatePermission transport ip now) ≡ true
  permission-request transport ip now is = by e is
    where
      by : (x : TurnEvent) → is_to_come x (Permission ip (Pending true)) ≡ true → is_request_for x (CreatePermission transport ip now) ≡ true
      by (PermissionCreated over other) is = is
      by (PermissionCreateFailed over other) is = is
      by x is = cc

  peer-request : (transport : TransportType) (peer : SocketAddr) (now : ℕ) → is_to_come e (Permission (socket_ip peer) (Pending true)) ≡ true → is_request_for e (BindChannel transport peer now) ≡ true
  peer-request transport peer now is = by e is
    where
      by : (x : TurnEvent) → is_to_come x (Permission (socket_ip peer) (Pending true)) ≡ true → is_request_for x (BindChannel transport peer now) ≡ true
      by (PermissionCreated over other) is = is
      by (PermissionCreateFailed over other) is = is
      by x is = cc

  channel-request : (transport : TransportType) (number : ℕ) (peer : SocketAddr) (now : ℕ)
      → is_to_come e (Channel number peer (Pending true)) ≡ true → is_request_for e (BindChannel transport peer now) ≡ true
  channel-request transport number peer now is = by e is
    where
      by : (x : TurnEvent) → is_to_come x (Channel number peer (Pending true)) ≡ true → is_request_for x (BindChannel transport peer now) ≡ true
      by (ChannelCreated over other) is = is
      by (ChannelCreateFailed over other) is = is
      by x is = cc

  same : Spends e s s
  same = spends-same e s s refl refl refl

  -- ---- a permission

  module _ (transport : TransportType) (ip : IpAddr) (now : ℕ) where
    abbrev asked : State
    asked = requested (fresh_id s) (ForPermission ip) now (with_grant (Permission ip (Pending true)) s)

    abbrev Creates : Result Unit CreatePermissionError × State → Type 0
    Creates x = Spends e s x.1 ⊎ ((x.1 ≡ asked) × (is_some (permission_state ip s) ≡ false))

    creates : Creates (create_permission_step transport ip now s)
    creates = in-allocation e s Creates (find_allocation_to transport ip s) ip now _ (permission_step ip now s) (λ x spends. inl spends)
        (by_test Creates (is_some (permission_state ip s)) _ _ (λ f. inl same)
        (λ none. by_test Creates (not (is_allocated s.phase)) _ _ (λ f. inl same) (λ f. inr (refl, none))))

    asked-load : load e asked ≤ load e s + cond (is_to_come e (Permission ip (Pending true))) 1 0
    asked-load = omega (arith, passes-append (is_to_come e) s.grants (Permission ip (Pending true) ∷ []))

    pub permission-requests : load e (state_after (CreatePermission transport ip now) s) ≤ load e s + requested_by e (CreatePermission transport ip now) s
    permission-requests = by creates
      where
        call : Call
        call = CreatePermission transport ip now

        new : Grant
        new = Permission ip (Pending true)

        by : Creates (create_permission_step transport ip now s) → load e (state_after call s) ≤ load e s + requested_by e call s
        by (inl spends) = omega (arith, spends)
        by (inr (is, none)) =
            let there : Has new (state_after call s).grants = subst (λ (u : State). Has new u.grants) (sym is) (has-right new s.grants (new ∷ []) (inl refl)) in
            let more : load e (state_after call s) ≤ load e s + cond (is_to_come e new) 1 0 = subst (λ (u : State). load e u ≤ load e s + cond (is_to_come e new) 1 0) (sym is) asked-load in
            omega (arith, more, one-requested call new there (permission-request transport ip now) (none-permission ip none))

  -- ---- a channel

  module _ (transport : TransportType) (peer : SocketAddr) (now : ℕ) where
    abbrev Binds : Result Unit BindChannelError × State → Type 0
    Binds x = Spends e s x.1 ⊎ ((number : ℕ) × (x.1 ≡ bind_channel number peer now s) × (list_any is_in_progress (channels_to peer s) ≡ false))

    bound : (times : List ℕ) (b : Bool) (o : Option ℕ) → list_any is_in_progress (channels_to peer s) ≡ false → Binds (bound_by peer now s times b o)
    bound (until ∷ others) b o none = inl same
    bound [] false o none = inl same
    bound [] true None none = inl same
    bound [] true (Some number) none = inr (number, refl, none)

    binds : Binds (bind_channel_step transport peer now s)
    binds = in-allocation e s Binds (find_allocation_to transport (socket_ip peer) s) (socket_ip peer) now _ (channel_step peer now s) (λ x spends. inl spends)
        (by_test Binds (list_any is_in_progress (channels_to peer s)) _ _ (λ f. inl same)
        (λ none. bound (filter_map (reserved_from now) (channels_to peer s)) (is_allocated s.phase) (free_number s) none))

    abbrev pending : IpAddr → Grant
    pending ip = Permission ip (Pending true)

    abbrev added : ℕ → List Grant
    added number = Channel number peer (Pending true) ∷ map pending (missing_permission peer s)

    bound-load : (number : ℕ) → load e (bind_channel number peer now s) ≤ load e s + passes (is_to_come e) (added number)
    bound-load number = omega (arith, passes-append (is_to_come e) s.grants (added number))

    one-kind : (number : ℕ) (ip : IpAddr) → (is_to_come e (Channel number peer (Pending true)) ≡ false) ⊎ (is_to_come e (pending ip) ≡ false)
    one-kind number ip = by e
      where
        by : (x : TurnEvent) → (is_to_come x (Channel number peer (Pending true)) ≡ false) ⊎ (is_to_come x (pending ip) ≡ false)
        by (ChannelCreated over other) = inr refl
        by (ChannelCreateFailed over other) = inr refl
        by x = inl refl

    none-some : (o : Option Progress) → is_none o ≡ true → is_some o ≡ false
    none-some None is = refl
    none-some (Some progress) is = cc

    pub channel-requests : load e (state_after (BindChannel transport peer now) s) ≤ load e s + requested_by e (BindChannel transport peer now) s
    channel-requests = by binds
      where
        call : Call
        call = BindChannel transport peer now

        ip : IpAddr
        ip = socket_ip peer

        few : (number : ℕ) → (ips : List IpAddr) → list_any is_in_progress (channels_to peer s) ≡ false → Has (Channel number peer (Pending true)) (state_after call s).grants
            → (ips ≡ []) ⊎ ((ips ≡ ip ∷ []) × (is_some (permission_state ip s) ≡ false) × Has (pending ip) (state_after call s).grants)
            → passes (is_to_come e) (Channel number peer (Pending true) ∷ map pending ips) ≤ requested_by e call s
        few number ips none there (inl is) =
            rw is (omega (arith, one-requested call (Channel number peer (Pending true)) there (channel-request transport number peer now) (none-channel number peer none)))
        few number ips none there (inr (is, lacks, also)) =
            let one = one-requested call (Channel number peer (Pending true)) there (channel-request transport number peer now) (none-channel number peer none) in
            let other = one-requested call (pending ip) also (peer-request transport peer now) (none-permission ip lacks) in
            rw is (elim (one-kind number ip) [ inl f ↦ rw f (omega (arith, other)) | inr f ↦ rw f (omega (arith, one)) ])

        by : Binds (bind_channel_step transport peer now s) → load e (state_after call s) ≤ load e s + requested_by e call s
        by (inl spends) = omega (arith, spends)
        by (inr (number, is, none)) =
            let there : Has (Channel number peer (Pending true)) (state_after call s).grants =
            subst (λ (u : State). Has (Channel number peer (Pending true)) u.grants) (sym is) (has-right (Channel number peer (Pending true)) s.grants (added number) (inl refl)) in
            let more : load e (state_after call s) ≤ load e s + passes (is_to_come e) (added number) =
            subst (λ (u : State). load e u ≤ load e s + passes (is_to_come e) (added number)) (sym is) (bound-load number) in
            omega (
              arith,
              more,
              few number (missing_permission peer s) none there (elim (cases_Bool (is_none (permission_state ip s))) [
                | inl lacks ↦
                    let all : missing_permission peer s ≡ ip ∷ [] = rw lacks refl in
                    let also : Has (pending ip) (added number) = inr (subst (λ (ips : List IpAddr). Has (pending ip) (map pending ips)) (sym all) (inl refl)) in
                    inr (all, none-some (permission_state ip s) lacks, subst (λ (u : State). Has (pending ip) u.grants) (sym is) (has-right (pending ip) s.grants (added number) also))
                | inr has ↦ inl (rw has refl)
              ]),
            )

  -- ---- a data connection

  module _ (peer : SocketAddr) (now : ℕ) where
    abbrev joined : State
    joined = requested (fresh_id s) (ForConnect peer) now (with_grant (Connect peer) s)

    abbrev Joins : Result Unit TcpConnectError × State → Type 0
    Joins x = Spends e s x.1 ⊎ ((x.1 ≡ joined) × ((is_connected peer s || is_connecting peer s) ≡ false))

    joins : Joins (tcp_connect_step peer now s)
    joins = in-allocation e s Joins (find_allocation_to Tcp (socket_ip peer) s) (socket_ip peer) now _ (connect_step peer now s) (λ x spends. inl spends)
        (by_test Joins (not (is_allocated s.phase)) _ _ (λ f. inl same)
        (λ f. by_test Joins (not (has_active_permission (socket_ip peer) s)) _ _ (λ g. inl same)
        (λ g. by_test Joins (is_connected peer s || is_connecting peer s) _ _ (λ h. inl same) (λ h. inr (refl, h)))))

    joined-load : load e joined ≤ load e s + cond (is_to_come e (Connect peer)) 1 0
    joined-load = omega (arith, passes-append (is_to_come e) s.grants (Connect peer ∷ []))

    connect-request : is_to_come e (Connect peer) ≡ true → is_request_for e (TcpConnect peer now) ≡ true
    connect-request is = by e is
      where
        by : (x : TurnEvent) → is_to_come x (Connect peer) ≡ true → is_request_for x (TcpConnect peer now) ≡ true
        by (TcpConnected other) is = is
        by (TcpConnectFailed other) is = is
        by x is = cc

    none-connection : (is_connected peer s || is_connecting peer s) ≡ false → is_to_come e (Connect peer) ≡ true → list_any (is_about e) s.grants ≡ false
    none-connection free is = false_from_ne_true (list_any (is_about e) s.grants) (λ some.
        let (g, there, about) = any-has (is_about e) s.grants some in
        let (none, idle) = or_parts (is_connected peer s) (is_connecting peer s) free in
        elim (about-connection e peer g is about) [
          | inl connects ↦ clash (is_connecting peer s) (has-any (is_connect_to peer) g s.grants there connects) idle
          | inr joined ↦ clash (is_connected peer s) (has-any (is_connection_to peer) g s.grants there joined) none
        ])

    pub connect-requests : load e (state_after (TcpConnect peer now) s) ≤ load e s + requested_by e (TcpConnect peer now) s
    connect-requests = by joins
      where
        call : Call
        call = TcpConnect peer now

        by : Joins (tcp_connect_step peer now s) → load e (state_after call s) ≤ load e s + requested_by e call s
        by (inl spends) = omega (arith, spends)
        by (inr (is, free)) =
            let there : Has (Connect peer) (state_after call s).grants =
            subst (λ (u : State). Has (Connect peer) u.grants) (sym is) (has-right (Connect peer) s.grants (Connect peer ∷ []) (inl refl)) in
            let more : load e (state_after call s) ≤ load e s + cond (is_to_come e (Connect peer)) 1 0 =
            subst (λ (u : State). load e u ≤ load e s + cond (is_to_come e (Connect peer)) 1 0) (sym is) joined-load in
            omega (arith, more, one-requested call (Connect peer) there connect-request (none-connection free))
