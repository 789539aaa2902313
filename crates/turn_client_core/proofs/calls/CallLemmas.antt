-- Calls that are refused.
use Rattle.turn_client_laws.proofs.Common.{◌≡◌, ℕ, Bool, false, not, true, Err, Some, None, refl, socket_ip, Option, Result, IpAddr, SocketAddr}
use Rattle.turn_client_laws.proofs.Machine.{connect_step, in_allocation, is_allocated, is_connected, is_connecting, has_active_permission, is_past, State, Relay}
use Rattle.std.specs.Prelude.{◌||◌}
use Rattle.turn_client_api.specs.declared.error.TcpConnectError.TheVariants as Join
use Rattle.turn_client_core.specs.Usable.{is_usable, with_past_expired}

-- without a usable allocation a call is refused, and at most marks one as expired
pub unusable-is : {E : Type 0} (found : Option Relay) (ip : IpAddr) (now : ℕ) (refusal : E) (s : State) (otherwise : Result Unit E × State) → is_usable now found ≡ false
    → in_allocation found ip now refusal s otherwise ≡ (Err refusal, with_past_expired found ip now s)
unusable-is None ip now refusal s otherwise e = refl
unusable-is (Some a) ip now refusal s otherwise e = by (is_past now a) refl e
  where
    by : (past : Bool) → is_past now a ≡ past → not past ≡ false → in_allocation (Some a) ip now refusal s otherwise ≡ (Err refusal, with_past_expired (Some a) ip now s)
    by true is e = rw is refl
    by false is e = cc

-- in a usable one it is not, and nothing changes yet
pub usable-is : {E : Type 0} (found : Option Relay) (ip : IpAddr) (now : ℕ) (refusal : E) (s : State) (otherwise : Result Unit E × State) → is_usable now found ≡ true
    → (in_allocation found ip now refusal s otherwise ≡ otherwise) × (with_past_expired found ip now s ≡ s)
usable-is None ip now refusal s otherwise e = cc
usable-is (Some a) ip now refusal s otherwise e = by (is_past now a) refl e
  where
    by : (past : Bool) → is_past now a ≡ past → not past ≡ true
        → (in_allocation (Some a) ip now refusal s otherwise ≡ otherwise) × (with_past_expired (Some a) ip now s ≡ s)
    by true is e = cc
    by false is e = (rw is refl, rw is refl)

pub connected-is : (peer : SocketAddr) (now : ℕ) (s : State) → is_allocated s.phase ≡ true → has_active_permission (socket_ip peer) s ≡ true → (is_connected peer s || is_connecting peer s) ≡ true
    → connect_step peer now s ≡ (Err Join.AlreadyExists, s)
connected-is peer now s allocated permitted connected = rw (allocated, permitted, connected) refl
