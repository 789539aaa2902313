-- What a call of the control machine does, the client does, with its streams beside it.
use Rattle.std.proofs.Common.{◌≡◌, ◌≤◌, ◌^◌, ◌∙◌, ℕ, Bool, List, ap, refl, subst, sym}
use Rattle.std.proofs.lemmas.Result.{on_ok_weaker, on_err_weaker}
use Rattle.std.specs.Prelude.{Result, Err, IfOk, IsSome, Option, OnErr, OnOk, is_some}
use Rattle.std.specs.declared.net.ip_addr.IpAddr.{IpAddr}
use Rattle.std.specs.declared.net.socket_addr.SocketAddr.{SocketAddr}
use Rattle.turn_stun.specs.declared.transport.Transmit.{Transmit}
use Rattle.turn_stun.specs.declared.transport.TransportType.{TransportType}
use Rattle.turn_client_api.specs.Alarm.{IsTimely}
use Rattle.turn_client_api.specs.Answers.{BindsChannel, Connects, CreatesPermission, Deletes, event_step}
use Rattle.turn_client_api.specs.Calls.{FailsFamilies, bind_channel_step, channel_kept_step, create_permission_step, delete_step, permission_kept_step, protocol_error_step}
use Rattle.turn_client_api.specs.Calls.{send_to_step, tcp_connect_step}
use Rattle.turn_client_api.specs.Effect.{closed}
use Rattle.turn_client_api.specs.Poll.{poll_step}
use Rattle.turn_client_api.specs.Receive.{tcp_closed_step}
use Rattle.turn_client_api.specs.State.{State}
use Rattle.turn_client_api.specs.Transmit.{next_transmit, transmit_step}
use Rattle.turn_client_api.specs.declared.error.BindChannelError.{BindChannelError}
use Rattle.turn_client_api.specs.declared.error.BindChannelError.TheVariants as Bind
use Rattle.turn_client_api.specs.declared.error.CreatePermissionError.{CreatePermissionError}
use Rattle.turn_client_api.specs.declared.error.CreatePermissionError.TheVariants as Create
use Rattle.turn_client_api.specs.declared.error.DeleteError.{DeleteError}
use Rattle.turn_client_api.specs.declared.error.DeleteError.TheVariants as Delete
use Rattle.turn_client_api.specs.declared.error.KeepError.{KeepError}
use Rattle.turn_client_api.specs.declared.error.SendError.{SendError}
use Rattle.turn_client_api.specs.declared.error.TcpConnectError.{TcpConnectError}
use Rattle.turn_client_api.specs.declared.error.TcpConnectError.TheVariants as Join
use Rattle.turn_client_api.specs.declared.event.TurnEvent.{TurnEvent}
use Rattle.turn_client_api.specs.declared.poll.TurnPollRet.{TurnPollRet}
use Rattle.turn_client_core.specs.Apart.{with_streams_of}
use Rattle.turn_client_laws.proofs.AnyStreamsCalls.{bind_channel-alike, channel_kept-alike, create_permission-alike, delete-alike, event-alike, permission_kept-alike, protocol_error-alike}
use Rattle.turn_client_laws.proofs.AnyStreamsCalls.{send_to-alike, tcp_closed-alike, tcp_connect-alike}
use Rattle.turn_client_laws.proofs.AnyStreamsLemmas.{both_with}
use Rattle.turn_client_laws.proofs.AnyStreamsTime.{poll-alike, transmit-alike}
use Rattle.turn_client_laws.proofs.SendOrderLemmas.{steady-FitsPhaseForPoll}
use Rattle.turn_client_laws.proofs.TimelyLemmas.{poll-timely}
use Rattle.turn_client_tcp.specs.Over.{IsClientOver}

-- the control machine goes from `was` to `t`, and its client from `s` to `u`
pub record Follows (s was t u : State) : Type 0 where
  pub before : with_streams_of s was ≡ s
  pub after : u ≡ with_streams_of s t

pub follows : {s v was t u : State} → s ≡ v → with_streams_of s was ≡ s → u ≡ with_streams_of s t → Follows v was t u
follows {s} {v} {was} {t} {u} view before after = subst (λ (x : State). Follows x was t u) view (record { before = before; after = after })

module _ {s was t u : State} (led : Follows s was t u) where
  -- ---- a step that neither reads nor changes streams

  pub same : {A : Type 0} (step : State → A × State) → step (with_streams_of s was) ≡ both_with s.streams (step was) → step s ≡ both_with s.streams (step was)
  same step alike = subst (λ (v : State). step v ≡ both_with s.streams (step was)) led.before alike

  pub left : {A : Type 0} (step : State → A × State) → step (with_streams_of s was) ≡ both_with s.streams (step was) → t ≡ (step was).1 → u ≡ (step s).1
  left step alike e = led.after ∙ (ap (with_streams_of s) e ∙ sym (ap (λ p. p.1) (same step alike)))

  by_step : {A : Type 0} (Said : State → State → A × State → Type 0) (step : State → A × State) → step (with_streams_of s was) ≡ both_with s.streams (step was)
      → Said (with_streams_of s was) (with_streams_of s t) (both_with s.streams (step was)) → Said s u (step s)
  by_step Said step alike said =
      subst (λ (v : State). Said s v (step s)) (sym led.after)
      (subst (Said s (with_streams_of s t)) (sym (same step alike))
      (subst (λ (v : State). Said v (with_streams_of s t) (both_with s.streams (step was))) led.before said))

  -- ---- what the caller requests

  pub deletes : (r : Result Unit DeleteError) (now : ℕ) → Deletes r was t (delete_step now was) → Deletes r s u (delete_step now s)
  deletes r now said = by_step (Deletes r) (delete_step now) (delete-alike s.streams now was) (by r said)
    where
      by : (r : Result Unit DeleteError) → Deletes r was t (delete_step now was) → Deletes r (with_streams_of s was) (with_streams_of s t) (both_with s.streams (delete_step now was))
      by (Err Delete.OutOfMemory) (e, f) = (e, ap (with_streams_of s) f)
      by r (e, f) = (e, ap (with_streams_of s) f)

  pub permits : (r : Result Unit CreatePermissionError) (transport : TransportType) (peer : IpAddr) (now : ℕ)
      → CreatesPermission r was t (create_permission_step transport peer now was) → CreatesPermission r s u (create_permission_step transport peer now s)
  permits r transport peer now said = by_step (CreatesPermission r) (create_permission_step transport peer now) (create_permission-alike s.streams transport peer now was) (by r said)
    where
      by : (r : Result Unit CreatePermissionError) → CreatesPermission r was t (create_permission_step transport peer now was)
          → CreatesPermission r (with_streams_of s was) (with_streams_of s t) (both_with s.streams (create_permission_step transport peer now was))
      by (Err Create.OutOfMemory) (e, f) = (e, ap (with_streams_of s) f)
      by r (e, f) = (e, ap (with_streams_of s) f)

  pub binds : (r : Result Unit BindChannelError) (transport : TransportType) (peer : SocketAddr) (now : ℕ)
      → BindsChannel r was t (bind_channel_step transport peer now was) → BindsChannel r s u (bind_channel_step transport peer now s)
  binds r transport peer now said = by_step (BindsChannel r) (bind_channel_step transport peer now) (bind_channel-alike s.streams transport peer now was) (by r said)
    where
      by : (r : Result Unit BindChannelError) → BindsChannel r was t (bind_channel_step transport peer now was)
          → BindsChannel r (with_streams_of s was) (with_streams_of s t) (both_with s.streams (bind_channel_step transport peer now was))
      by (Err Bind.OutOfMemory) (e, f) = (e, ap (with_streams_of s) f)
      by r (e, f) = (e, ap (with_streams_of s) f)

  pub connects : (r : Result Unit TcpConnectError) (peer : SocketAddr) (now : ℕ) → Connects r was t (tcp_connect_step peer now was) → Connects r s u (tcp_connect_step peer now s)
  connects r peer now said = by_step (Connects r) (tcp_connect_step peer now) (tcp_connect-alike s.streams peer now was) (by r said)
    where
      by : (r : Result Unit TcpConnectError) → Connects r was t (tcp_connect_step peer now was)
          → Connects r (with_streams_of s was) (with_streams_of s t) (both_with s.streams (tcp_connect_step peer now was))
      by (Err Join.OutOfMemory) (e, f) = (e, ap (with_streams_of s) f)
      by r (e, f) = (e, ap (with_streams_of s) f)

  kept : (r : Result Unit KeepError) (step : State → Result Unit KeepError × State) → step (with_streams_of s was) ≡ both_with s.streams (step was) → (r, t) ≡ step was → (r, u) ≡ step s
  kept r step alike e = ap (λ (v : State). (r, v)) led.after ∙ (ap (both_with s.streams) e ∙ sym (same step alike))

  pub permission_kept : (r : Result Unit KeepError) (transport : TransportType) (peer : IpAddr) (is_kept : Bool)
      → (r, t) ≡ permission_kept_step transport peer is_kept was → (r, u) ≡ permission_kept_step transport peer is_kept s
  permission_kept r transport peer is_kept = kept r (permission_kept_step transport peer is_kept) (permission_kept-alike s.streams transport peer is_kept was)

  pub channel_kept : (r : Result Unit KeepError) (transport : TransportType) (peer : SocketAddr) (is_kept : Bool)
      → (r, t) ≡ channel_kept_step transport peer is_kept was → (r, u) ≡ channel_kept_step transport peer is_kept s
  channel_kept r transport peer is_kept = kept r (channel_kept_step transport peer is_kept) (channel_kept-alike s.streams transport peer is_kept was)

  -- ---- data for a peer

  pub send-said : (Sent : Result (Transmit (List ℕ)) SendError → Type 0) (transport : TransportType) (to : SocketAddr) (bytes : List ℕ) (now : ℕ)
      → Sent (send_to_step transport to bytes now was).0 → Sent (send_to_step transport to bytes now s).0
  send-said Sent transport to bytes now said =
      subst (λ (p : Result (Transmit (List ℕ)) SendError × State). Sent p.0) (sym (same (send_to_step transport to bytes now) (send_to-alike s.streams transport to bytes now was))) said

  pub send-left : (transport : TransportType) (to : SocketAddr) (bytes : List ℕ) (now : ℕ) → t ≡ (send_to_step transport to bytes now was).1 → u ≡ (send_to_step transport to bytes now s).1
  send-left transport to bytes now = left (send_to_step transport to bytes now) (send_to-alike s.streams transport to bytes now was)

  -- ---- ends

  plain : (step : State → State) → step (with_streams_of s was) ≡ with_streams_of s (step was) → t ≡ step was → u ≡ step s
  plain step alike e = led.after ∙ (ap (with_streams_of s) e ∙ (sym alike ∙ ap step led.before))

  closed-left : t ≡ closed was → u ≡ closed s
  closed-left = plain closed refl

  pub tcp_closed-left : (local remote : SocketAddr) → t ≡ tcp_closed_step local remote was → u ≡ tcp_closed_step local remote s
  tcp_closed-left local remote = plain (tcp_closed_step local remote) (tcp_closed-alike s.streams local remote was)

  module _ {A E : Type 0} (r : Result A E) where
    pub error-left : OnOk r (t ≡ protocol_error_step was) → OnOk r (u ≡ protocol_error_step s)
    error-left = on_ok_weaker r (plain protocol_error_step (protocol_error-alike s.streams was))

    pub closed-on_err : OnErr r (t ≡ closed was) → OnErr r (u ≡ closed s)
    closed-on_err = on_err_weaker r closed-left

    pub fails : OnErr r (FailsFamilies was) → OnErr r (FailsFamilies s)
    fails = on_err_weaker r (subst FailsFamilies led.before)

  -- ---- events, packets, and the time

  pub event-said : (r : Option TurnEvent) → r ≡ (event_step was).0 → r ≡ (event_step s).0
  event-said r e = e ∙ ap (λ (v : State). (event_step v).0) led.before

  pub event-left : t ≡ (event_step was).1 → u ≡ (event_step s).1
  event-left = left event_step (event-alike s.streams was)

  module _ {E : Type 0} (r : Result (Option (Transmit (List ℕ))) E) (now : ℕ) where
    sends : transmit_step now s ≡ both_with s.streams (transmit_step now was)
    sends = same (transmit_step now) (transmit-alike s.streams now was)

    pub transmit-said : IfOk r (λ packet. packet ≡ (transmit_step now was).0) → IfOk r (λ packet. packet ≡ (transmit_step now s).0)
    transmit-said = subst (λ p. IfOk r (λ packet. packet ≡ p.0)) (sym sends)

    pub transmit-left : OnOk r (t ≡ (transmit_step now was).1) → OnOk r (u ≡ (transmit_step now s).1)
    transmit-left = on_ok_weaker r (left (transmit_step now) (transmit-alike s.streams now was))

    pub transmit-due : OnErr r (IsSome (next_transmit now was)) → OnErr r (IsSome (next_transmit now s))
    transmit-due = on_err_weaker r (λ e. ap (λ p. is_some p.0) sends ∙ e)

  module _ (r : TurnPollRet) (now : ℕ) where
    pub poll-said : r ≡ (poll_step now was).0 → r ≡ (poll_step now s).0
    poll-said e = e ∙ sym (ap (λ (p : TurnPollRet × State). p.0) (same (poll_step now) (poll-alike s.streams now was)))

    pub poll-left : t ≡ (poll_step now was).1 → u ≡ (poll_step now s).1
    poll-left = left (poll_step now) (poll-alike s.streams now was)

    pub timely : (transport : TransportType) → r ≡ (poll_step now was).0 → t ≡ (poll_step now was).1 → IsClientOver transport s → now ≤ 2 ^ 62 → IsTimely r now s u
    timely transport e f h range =
        subst (λ (given : TurnPollRet). IsTimely given now s u) (sym (poll-said e))
        (subst (IsTimely (poll_step now s).0 now s) (sym (poll-left f)) (poll-timely now s (steady-FitsPhaseForPoll s h.fits_phase) h.have_allocations.0 range))
