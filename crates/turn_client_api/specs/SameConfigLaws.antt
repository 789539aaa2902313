-- The test of equality of two configurations decides it, and so is an equivalence.
use Rattle.std.specs.Prelude.{◌≡◌, ℕ, Bool, true, false, IsTrue, ◌↔◌, ◌&&◌, Option, Some, None, refl}
use Rattle.std.proofs.Common.{ap}
use Rattle.std.specs.Bool.{Decides}
use Rattle.std.specs.Cmp.{IsEquivalence, decided, unsigned_Decides}
use Rattle.std.specs.Cmp.Lexicographic.{pointwise_decides}
use Rattle.turn_stun.specs.declared.transport.TransportType.{TransportType}
use Rattle.turn_stun.specs.declared.transport.TransportType.TheVariants.{Udp, Tcp}
use Rattle.turn_types.specs.declared.family.AddressFamily.{AddressFamily}
use Rattle.turn_types.specs.declared.family.AddressFamily.TheVariants.{IPV4, IPV6}
use Rattle.turn_auth.specs.Credentials.{Credentials}
use Rattle.turn_auth.specs.LongTerm.{same_algorithm}
use Rattle.turn_auth.specs.declared.feature.Feature.{Feature}
use Rattle.turn_auth.specs.declared.feature.Feature.TheVariants.{Auto, Disabled, Required}
use Rattle.turn_auth.specs.declared.integrity.IntegrityAlgorithm.{IntegrityAlgorithm}
use Rattle.turn_auth.specs.declared.integrity.IntegrityAlgorithm.TheVariants.{Sha1, Sha256}
use Rattle.turn_agent.specs.Schedule.{Timers}
use Rattle.turn_client_api.specs.Config.{Config, same_family}
use Rattle.turn_client_api.specs.SameConfig.{same_config, same_credentials, same_feature, same_keepalive, same_set_timers, same_switch, same_timers}
use Rattle.turn_client_api.specs.SameConfig.{same_allocation_transport}

-- two tests decide whether two parts are the same
both : {r s : Bool} {P Q : Type 0} → Decides r P → Decides s Q → Decides (r && s) (P × Q)
both {r = true} p q = (λ h. (p.0 refl, q.0 h), λ h. q.1 h.1)
both {r = false} p q = (λ h. cc, λ h. p.1 h.0)

-- a fact may be stated in other words
in_other_words : {r : Bool} {P Q : Type 0} → Decides r P → (P → Q) → (Q → P) → Decides r Q
in_other_words d f g = (λ h. f (d.0 h), λ h. d.1 (g h))

same_allocation_transport-Decides : (a b : TransportType) → Decides (same_allocation_transport a b) (a ≡ b)
same_allocation_transport-Decides Udp Udp = (λ _. refl, λ _. refl)
same_allocation_transport-Decides Udp Tcp = (λ e. cc, λ e. cc)
same_allocation_transport-Decides Tcp Udp = (λ e. cc, λ e. cc)
same_allocation_transport-Decides Tcp Tcp = (λ _. refl, λ _. refl)

same_family-Decides : (a b : AddressFamily) → Decides (same_family a b) (a ≡ b)
same_family-Decides IPV4 IPV4 = (λ _. refl, λ _. refl)
same_family-Decides IPV4 IPV6 = (λ e. cc, λ e. cc)
same_family-Decides IPV6 IPV4 = (λ e. cc, λ e. cc)
same_family-Decides IPV6 IPV6 = (λ _. refl, λ _. refl)

same_algorithm-Decides : (a b : IntegrityAlgorithm) → Decides (same_algorithm a b) (a ≡ b)
same_algorithm-Decides Sha1 Sha1 = (λ _. refl, λ _. refl)
same_algorithm-Decides Sha1 Sha256 = (λ e. cc, λ e. cc)
same_algorithm-Decides Sha256 Sha1 = (λ e. cc, λ e. cc)
same_algorithm-Decides Sha256 Sha256 = (λ _. refl, λ _. refl)

same_feature-Decides : (a b : Feature) → Decides (same_feature a b) (a ≡ b)
same_feature-Decides Auto Auto = (λ _. refl, λ _. refl)
same_feature-Decides Auto Disabled = (λ e. cc, λ e. cc)
same_feature-Decides Auto Required = (λ e. cc, λ e. cc)
same_feature-Decides Disabled Auto = (λ e. cc, λ e. cc)
same_feature-Decides Disabled Disabled = (λ _. refl, λ _. refl)
same_feature-Decides Disabled Required = (λ e. cc, λ e. cc)
same_feature-Decides Required Auto = (λ e. cc, λ e. cc)
same_feature-Decides Required Disabled = (λ e. cc, λ e. cc)
same_feature-Decides Required Required = (λ _. refl, λ _. refl)

same_credentials-Decides : (a b : Credentials) → Decides (same_credentials a b) (a ≡ b)
same_credentials-Decides a b =
    in_other_words (both (pointwise_decides unsigned_Decides a.user b.user) (pointwise_decides unsigned_Decides a.password b.password))
    (λ (user, password) i. record { user = user i; password = password i })
    (λ e. (ap (λ c. c.user) e, ap (λ c. c.password) e))

same_timers-Decides : (a b : Timers) → Decides (same_timers a b) (a ≡ b)
same_timers-Decides a b =
    in_other_words (both (both (both (unsigned_Decides a.initial b.initial) (unsigned_Decides a.max b.max)) (unsigned_Decides a.transmissions b.transmissions))
    (unsigned_Decides a.last b.last))
    (λ (((first, longest), count), last) i. record { initial = first i; max = longest i; transmissions = count i; last = last i })
    (λ e. (((ap (λ t. t.initial) e, ap (λ t. t.max) e), ap (λ t. t.transmissions) e), ap (λ t. t.last) e))

same_set_timers-Decides : (a b : Option Timers) → Decides (same_set_timers a b) (a ≡ b)
same_set_timers-Decides None None = (λ _. refl, λ _. refl)
same_set_timers-Decides None (Some b) = (λ e. cc, λ e. cc)
same_set_timers-Decides (Some a) None = (λ e. cc, λ e. cc)
same_set_timers-Decides (Some a) (Some b) = in_other_words (same_timers-Decides a b) (λ e. ap Some e) (λ e. cc)

same_keepalive-Decides : (a b : Option ℕ) → Decides (same_keepalive a b) (a ≡ b)
same_keepalive-Decides None None = (λ _. refl, λ _. refl)
same_keepalive-Decides None (Some b) = (λ e. cc, λ e. cc)
same_keepalive-Decides (Some a) None = (λ e. cc, λ e. cc)
same_keepalive-Decides (Some a) (Some b) = in_other_words (unsigned_Decides a b) (λ e. ap Some e) (λ e. cc)

same_switch-Decides : (a b : Bool) → Decides (same_switch a b) (a ≡ b)
same_switch-Decides true true = (λ _. refl, λ _. refl)
same_switch-Decides true false = (λ e. cc, λ e. cc)
same_switch-Decides false true = (λ e. cc, λ e. cc)
same_switch-Decides false false = (λ _. refl, λ _. refl)

same_config-Decides : (a b : Config) → Decides (same_config a b) (a ≡ b)
same_config-Decides a b =
    in_other_words
    (both (both (both
    (both (same_allocation_transport-Decides a.allocation_transport b.allocation_transport)
    (pointwise_decides same_family-Decides a.address_families b.address_families))
    (both (both (same_credentials-Decides a.credentials b.credentials)
    (pointwise_decides same_algorithm-Decides a.supported_integrity b.supported_integrity))
    (same_feature-Decides a.anonymous_username b.anonymous_username)))
    (both (same_set_timers-Decides a.request_timers b.request_timers) (unsigned_Decides a.max_stale_nonces b.max_stale_nonces)))
    (both (both (both (unsigned_Decides a.request_cadence b.request_cadence) (same_keepalive-Decides a.keepalive b.keepalive))
    (unsigned_Decides a.refresh_ahead b.refresh_ahead))
    (same_switch-Decides a.timed_from_send b.timed_from_send)))
    (λ ((((transport, families), ((credentials, algorithms), anonymous)), (timers, limit)), (((cadence, keepalive), ahead), timed)) i. record {
      allocation_transport = transport i;
      address_families = families i;
      credentials = credentials i;
      supported_integrity = algorithms i;
      anonymous_username = anonymous i;
      request_timers = timers i;
      max_stale_nonces = limit i;
      request_cadence = cadence i;
      keepalive = keepalive i;
      refresh_ahead = ahead i;
      timed_from_send = timed i;
    })
    (λ e. (
      (
        (
          (ap (λ c. c.allocation_transport) e, ap (λ c. c.address_families) e),
          ((ap (λ c. c.credentials) e, ap (λ c. c.supported_integrity) e), ap (λ c. c.anonymous_username) e),
        ),
        (ap (λ c. c.request_timers) e, ap (λ c. c.max_stale_nonces) e),
      ),
      (((ap (λ c. c.request_cadence) e, ap (λ c. c.keepalive) e), ap (λ c. c.refresh_ahead) e), ap (λ c. c.timed_from_send) e),
    ))

pub same_config-equivalence : IsEquivalence same_config
same_config-equivalence = decided same_config same_config-Decides

-- what the result of the test says
pub test_says : (r : Bool) (a b : Config) → r ≡ same_config a b → IsTrue r ↔ (a ≡ b)
test_says r a b e = rw e (same_config-Decides a b)
