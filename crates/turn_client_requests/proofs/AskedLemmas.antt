-- What requests contain, and how long they are.
use Rattle.std.proofs.Common.{◌≡◌, ℕ, ◌+◌, ◌≤◌, List, [], ◌∷◌, None, false, length, refl, sym, ap, ◌∙◌, arith}
use Rattle.std.proofs.lemmas.List.{length-drop}
use Rattle.std.specs.declared.net.socket_addr.SocketAddr.{SocketAddr}
use Rattle.std.specs.declared.net.socket_addr.SocketAddr.TheVariants.{V4}
use Rattle.turn_stun.specs.Message.{IsMessage, id_of, type_of}
use Rattle.turn_stun.specs.MessageType.{class_of, type_number}
use Rattle.turn_stun.specs.XorAddress.{xor_v4}
use Rattle.turn_stun.specs.declared.message.header.MessageClass.TheVariants.{Request}
use Rattle.turn_stun.specs.declared.transport.TransportType.{TransportType}
use Rattle.turn_stun.specs.declared.transport.TransportType.TheVariants.{Udp}
use Rattle.turn_auth.specs.LongTerm.{ClientAuth}
use Rattle.turn_auth.specs.Signature.{signature_len, signed_len}
use Rattle.turn_auth.specs.declared.feature.Feature.TheVariants.{Auto}
use Rattle.turn_types.specs.Values.{family_value}
use Rattle.turn_types.specs.declared.family.AddressFamily.{AddressFamily}
use Rattle.turn_types.specs.declared.family.AddressFamily.TheVariants.{IPV4, IPV6}
use Rattle.turn_client_api.specs.Requests.{additional_family_kind, attribute, family_attributes, method_for}
use Rattle.turn_client_api.specs.State.{State, initial}
use Rattle.turn_client_api.specs.declared.grant.Purpose.{Purpose}
use Rattle.turn_client_api.specs.declared.grant.Purpose.TheVariants.{ForAllocation, ForRefresh, ForPermission, ForChannel, ForConnect, ForBind}
use Rattle.turn_client_requests.specs.RequestAttributes.{AddsAsked, IsAskedLen}

-- two families are requested by the additional one
pub two_families : (families : List AddressFamily) → 2 ≤ length families → family_attributes families ≡ attribute additional_family_kind (family_value IPV6) ∷ []
two_families [] h = absurd (omega arith)
two_families (a ∷ []) h = absurd (omega arith)
two_families (IPV4 ∷ b ∷ others) h = refl
two_families (IPV6 ∷ b ∷ others) h = refl

request_class : (purpose : Purpose) → class_of (type_number (method_for purpose) Request) ≡ Request
request_class ForAllocation = refl
request_class (ForRefresh family lifetime) = refl
request_class (ForPermission ip) = refl
request_class (ForChannel number peer) = refl
request_class (ForConnect peer) = refl
request_class (ForBind local peer connection_id) = refl

-- what holds for every client holds for one
somewhere : SocketAddr
somewhere = V4 (xor_v4 [] 0)

someone : State
someone =
    initial Udp somewhere somewhere (record {
      allocation_transport = Udp;
      address_families = [];
      credentials = record { user = []; password = [] };
      supported_integrity = [];
      anonymous_username = Auto;
      request_timers = None;
      max_stale_nonces = 1;
      request_cadence = 0;
      keepalive = None;
      refresh_ahead = 0;
      timed_from_send = false;
    }) []

-- a request is as long as the length with which it was begun
pub as_long_as_asked : (auth : ClientAuth) (transport : TransportType) (families : List AddressFamily) (purpose : Purpose) (id asked signature : ℕ) (begun message text : List ℕ)
    → IsMessage begun (type_number (method_for purpose) Request) id [] → AddsAsked transport families purpose begun message → IsAskedLen transport families purpose asked
    → signature ≡ signature_len auth Request → length text ≡ signed_len auth message → length text ≡ 20 + asked + signature
as_long_as_asked auth transport families purpose id asked signature begun message text is adds measured signs signed =
    let all = adds someone in
    let class : class_of (type_of message) ≡ Request =
    ap class_of (all.type ∙ is.has_type) ∙ request_class purpose in
    let added : signature_len auth (class_of (type_of message)) ≡ signature = ap (signature_len auth) class ∙ sym signs in
    let header : length begun ≡ 20 = omega (arith, ap length is.has_attributes, length-drop 20 begun, is.whole) in
    omega (arith, signed, added, all.len, measured someone (id_of begun), header)
