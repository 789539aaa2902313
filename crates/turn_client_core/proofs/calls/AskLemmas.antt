-- Requests that a client makes.
use Rattle.turn_client_laws.proofs.Common.{◌≡◌, ◌∙◌, ℕ, List, [], ◌∷◌, None, false, true, ap, refl, list_any, socket_ip, SocketAddr}
use Rattle.turn_client_laws.proofs.Machine.{channels_to, delete_text, deleted, is_in_progress, is_number_taken, permission_state, with_more_grants, request_started, fresh_id, queued, request_for}
use Rattle.turn_client_laws.proofs.Machine.{sent_from, waits_from, State, Grant, Channel, Permission, Pending, Purpose}
use Rattle.turn_client_core.specs.Asked.{asks}
use Rattle.turn_client_core.specs.Outgoing.{Outgoing}
use Rattle.turn_client_grants.specs.Asked.{Asks, all_back, expired_now}
use Rattle.turn_client_grants.specs.Ledger.{Ledger, with_ledger}
use Rattle.turn_client_grants.specs.Table.{are_new}

-- the client with this outbox
abbrev pub with_outbox : Outgoing → State → State
with_outbox o s = record s {
  transport = o.transport;
  local = o.local;
  remote = o.remote;
  ids = o.ids;
  transactions = o.transactions;
  queue = o.queue;
  last_send = o.last_send;
}

-- the ledger was this client's
pub asked-is : (s : State) (was ledger : Ledger) (id : ℕ) (from : SocketAddr) (text : List ℕ) (purposes : List Purpose) (now : ℕ) (step : State → State) → with_ledger was s ≡ s
    → Asks id purposes now step was ledger s text → queued true from text (with_ledger ledger (request_started id text purposes now s)) ≡ queued true from text
    (request_started id text purposes now (step s))
asked-is s was ledger id from text purposes now step same made =
    ap (queued true from text) (made ∙ ap (λ t. request_started id text purposes now (step t)) same)

pub asks-is : (s : State) (id : ℕ) (from : SocketAddr) (text : List ℕ) (purpose : Purpose) (purposes : List Purpose) (grants : List Grant) (now waits : ℕ) → text ≡ request_for s purpose id
    → from ≡ sent_from s purpose → id ≡ fresh_id s → waits ≡ waits_from now s
    → queued true from text (request_started id text purposes waits (with_more_grants grants s)) ≡ asks purpose purposes grants now s
asks-is s id from text purpose purposes grants now waits is sent next begins = rw (is, sent, next, begins) refl

pub deletes-is : (s : State) (id : ℕ) (from : SocketAddr) (text : List ℕ) (now waits : ℕ) → text ≡ delete_text s → from ≡ s.local → id ≡ fresh_id s → waits ≡ waits_from now s
    → queued true from text (request_started id text (all_back s) waits (expired_now now s)) ≡ deleted now s
deletes-is s id from text now waits is sent next begins = rw (is, sent, next, begins) refl

-- a channel and a permission that are asked for together
pub pair-new : (number : ℕ) (peer : SocketAddr) (s : State) → is_number_taken number s ≡ false → list_any is_in_progress (channels_to peer s) ≡ false → permission_state (socket_ip peer) s ≡ None
    → are_new s.grants (Channel number peer (Pending true) ∷ Permission (socket_ip peer) (Pending true) ∷ []) ≡ true
pair-new number peer s free new none = rw (free, new, none) refl
