-- What a client signs, and which messages bind no data connection, by their first two bytes.
use Rattle.turn_client_laws.proofs.Common.{◌≡◌, ◌⊎◌, ◌+◌, ◌*◌, ℕ, Bool, true, List, [], ◌∷◌, Option, Some, None, refl, inl, inr, ◌≢◌, find, ⊤}
use Rattle.turn_client_laws.proofs.Machine.{Challenge, Addition, additions_for, signed_by, with_additions, type_of, header_of, with_attribute, MessageClass, Error, Indication, Request, Success, Config}
use Rattle.turn_client_laws.proofs.Machine.{State, Has, Purpose, ForAllocation, ForBind, ForChannel, ForConnect, ForPermission, ForRefresh, delete_text, accepted_reply, allocate_method, asked_attributes}
use Rattle.turn_client_laws.proofs.Machine.{asked_lifetime, attribute, binding_indication, binding_method, channel_bind_method, connect_method, connection_attempt_method, connection_bind_method}
use Rattle.turn_client_laws.proofs.Machine.{create_permission_method, dont_fragment_kind, error_kind, family_attributes, first_allocate, fresh_id, lifetime_attribute, message_of, refresh_method}
use Rattle.turn_client_laws.proofs.Machine.{refused_reply, request_for, signed, transport_attribute, first_or, is_allocate_or_connect, is_channel_bind, is_create_permission, is_refresh, retried}
use Rattle.turn_client_laws.proofs.Machine.{has-found}
use Rattle.turn_auth.specs.Credentials.{Credentials}
use Rattle.turn_auth.specs.declared.feature.Feature.{Feature}
use Rattle.turn_stun.specs.MessageType.{class_of, method_of, type_number}
use Rattle.turn_stun.specs.Refusal.{Refusal}
use Rattle.turn_stun.specs.Values.{error_code_value}
use Rattle.turn_client_runs.specs.Leaving.{refusals}
use Rattle.turn_client_runs.specs.Sent.{IsNoBind}

-- ---- the first two bytes stay

abbrev pub Leads : ℕ → ℕ → List ℕ → Type 0
Leads a b text = (rest : List ℕ) × (text ≡ a ∷ b ∷ rest)

module _ (a b : ℕ) where
  attribute-leads : (kind : ℕ) (value text : List ℕ) → Leads a b text → Leads a b (with_attribute kind value text)
  unfolding with_attribute
  attribute-leads kind value text (rest, e) = rw e (_, refl)

  pub additions-leads : (all : List Addition) (text : List ℕ) → Leads a b text → Leads a b (with_additions all text)
  additions-leads [] text leads = leads
  additions-leads (x ∷ later) text leads = additions-leads later (with_attribute x.kind x.value text) (attribute-leads x.kind x.value text leads)

  signed_by-leads : (c : Option Credentials) (o : Option Challenge) (f : Feature) (text : List ℕ) → Leads a b text → Leads a b (signed_by c o f text)
  signed_by-leads (Some c) (Some d) f text leads = attribute-leads _ _ _ (additions-leads (additions_for (class_of (type_of text)) f c d) text leads)
  signed_by-leads (Some c) None f text leads = leads
  signed_by-leads None o f text leads = leads

  signed-leads : (s : State) (text : List ℕ) → Leads a b text → Leads a b (signed s text)
  signed-leads s text leads = signed_by-leads (Some s.config.credentials) s.held s.config.anonymous_username text leads

  no-bind : (text : List ℕ) → method_of (a * 256 + b) ≢ connection_bind_method → Leads a b text → IsNoBind text
  no-bind text other (rest, e) = rw e other

-- a message whose header begins so, signed or not
module _ (method : ℕ) (class : MessageClass) (a b : ℕ) (other : method_of (a * 256 + b) ≢ connection_bind_method)
    (begins : (id : ℕ) → Leads a b (header_of (type_number method class) id)) (attributes : List Addition) (id : ℕ) where
  plain-else : IsNoBind (message_of method class attributes id)
  plain-else = no-bind a b (message_of method class attributes id) other (additions-leads a b attributes (header_of (type_number method class) id) (begins id))

  signed-else : (s : State) → IsNoBind (signed s (message_of method class attributes id))
  signed-else s =
      no-bind a b (signed s (message_of method class attributes id)) other
      (signed-leads a b s (message_of method class attributes id) (additions-leads a b attributes (header_of (type_number method class) id) (begins id)))

-- ---- the messages of a client

-- it binds no data connection
abbrev pub IsElse : Purpose → Type 0
IsElse (ForBind local peer id) = ⊥
IsElse purpose = ⊤

pub request-else : (s : State) (p : Purpose) (id : ℕ) → IsElse p → IsNoBind (request_for s p id)
request-else s ForAllocation id other = signed-else allocate_method Request 0 3 (λ e. cc) (λ n. (_, refl)) (asked_attributes s ForAllocation id) id s
request-else s (ForRefresh family lifetime) id other = signed-else refresh_method Request 0 4 (λ e. cc) (λ n. (_, refl)) (asked_attributes s (ForRefresh family lifetime) id) id s
request-else s (ForPermission ip) id other = signed-else create_permission_method Request 0 8 (λ e. cc) (λ n. (_, refl)) (asked_attributes s (ForPermission ip) id) id s
request-else s (ForChannel number peer) id other = signed-else channel_bind_method Request 0 9 (λ e. cc) (λ n. (_, refl)) (asked_attributes s (ForChannel number peer) id) id s
request-else s (ForConnect peer) id other = signed-else connect_method Request 0 10 (λ e. cc) (λ n. (_, refl)) (asked_attributes s (ForConnect peer) id) id s
request-else s (ForBind local peer connection_id) id other = absurd other

pub first-else : (s : State) (id : ℕ) → IsNoBind (first_allocate s id)
first-else s id =
    let attributes = lifetime_attribute asked_lifetime ∷ transport_attribute s ∷ attribute dont_fragment_kind [] ∷ family_attributes s.families in
    plain-else allocate_method Request 0 3 (λ e. cc) (λ n. (_, refl)) attributes id

pub delete-else : (s : State) → IsNoBind (delete_text s)
delete-else s = signed-else refresh_method Request 0 4 (λ e. cc) (λ n. (_, refl)) (lifetime_attribute 0 ∷ []) (fresh_id s) s

pub indication-else : (id : ℕ) → IsNoBind (binding_indication id)
indication-else id = plain-else binding_method Indication 0 17 (λ e. cc) (λ n. (_, refl)) [] id

pub accepted-else : (s : State) (id : ℕ) → IsNoBind (accepted_reply s id)
accepted-else s id = signed-else connection_attempt_method Success 1 12 (λ e. cc) (λ n. (_, refl)) [] id s

pub refused-else : (code : ℕ) (reason : List ℕ) (s : State) (id : ℕ) → IsNoBind (refused_reply code reason s id)
refused-else code reason s id =
    let attributes = attribute error_kind (error_code_value (record { code = code; reason = reason })) ∷ [] in
    signed-else connection_attempt_method Error 1 28 (λ e. cc) (λ n. (_, refl)) attributes id s

-- ---- what a client signs, which has this configuration and holds such a challenge

module _ (Taken : Challenge → Type 0) (config : Config) where
  abbrev pub IsUnder : State → Type 0
  IsUnder u = (u.config ≡ config) × ((d : Challenge) × (u.held ≡ Some d) × Taken d)

  -- the text requests this
  abbrev pub Requests : Purpose → List ℕ → Type 0
  Requests p text = (u : State) × IsUnder u × ((id : ℕ) × (text ≡ request_for u p id))

  -- it responds to a request of the server
  abbrev pub Says : State → ℕ → List ℕ → Type 0
  Says u id text = (text ≡ accepted_reply u id) ⊎ ((r : Refusal) × Has r refusals × (text ≡ refused_reply r.code r.reason u id))

  abbrev pub Responds : List ℕ → Type 0
  Responds text = (u : State) × IsUnder u × ((id : ℕ) × Says u id text)

  pub requests-else : (p : Purpose) (text : List ℕ) → IsElse p → Requests p text → IsNoBind text
  requests-else p text other (u, under, (id, e)) = rw e (request-else u p id other)

  pub responds-else : (text : List ℕ) → Responds text → IsNoBind text
  responds-else text (u, under, (id, inl e)) = rw e (accepted-else u id)
  responds-else text (u, under, (id, inr (r, listed, e))) = rw e (refused-else r.code r.reason u id)

-- ---- what is requested again over the control connection

found-else : (which : Purpose → Bool) → ((p : Purpose) → which p ≡ true → IsElse p) → (all : List Purpose) (p : Purpose) → find which all ≡ Some p → IsElse p
found-else which other all p e = other p (has-found which p all e).1

first_or-else : (o later : Option Purpose) → ((p : Purpose) → o ≡ Some p → IsElse p) → ((p : Purpose) → later ≡ Some p → IsElse p) → (p : Purpose) → first_or o later ≡ Some p → IsElse p
first_or-else (Some q) later first others p e = first p e
first_or-else None later first others p e = others p e

is_refresh-else : (p : Purpose) → is_refresh p ≡ true → IsElse p
is_refresh-else (ForBind local peer id) e = cc
is_refresh-else p e = tt

is_channel_bind-else : (p : Purpose) → is_channel_bind p ≡ true → IsElse p
is_channel_bind-else (ForBind local peer id) e = cc
is_channel_bind-else p e = tt

is_create_permission-else : (p : Purpose) → is_create_permission p ≡ true → IsElse p
is_create_permission-else (ForBind local peer id) e = cc
is_create_permission-else p e = tt

is_allocate_or_connect-else : (p : Purpose) → is_allocate_or_connect p ≡ true → IsElse p
is_allocate_or_connect-else (ForBind local peer id) e = cc
is_allocate_or_connect-else p e = tt

pub retried-else : (all : List Purpose) (p : Purpose) → retried all ≡ Some p → IsElse p
retried-else all =
    first_or-else (find is_refresh all) _ (found-else is_refresh is_refresh-else all)
    (first_or-else (find is_channel_bind all) _ (found-else is_channel_bind is_channel_bind-else all)
    (first_or-else (find is_create_permission all) (find is_allocate_or_connect all) (found-else is_create_permission is_create_permission-else all)
    (found-else is_allocate_or_connect is_allocate_or_connect-else all)))
