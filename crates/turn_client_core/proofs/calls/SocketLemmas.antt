-- Data connections that the caller opens.
use Rattle.turn_client_laws.proofs.Common.{◌≡◌, ◌∙◌, ℕ, true, List, [], ◌∷◌, ap, refl, append-nil, Option, SocketAddr}
use Rattle.turn_client_laws.proofs.Machine.{answered_with, socket_opened, accepted_reply, request_started, fresh_id, queued, request_for, State, Origin, OwnConnect, ServerIndication, ServerRequest}
use Rattle.turn_client_laws.proofs.Machine.{waits_from, ForBind}
use Rattle.turn_client_grants.specs.Asked.{Asks, with_opened}
use Rattle.turn_client_grants.specs.Ledger.{Ledger, with_ledger}
use Rattle.turn_client_core.specs.Apart.{with_streams_of}
use Rattle.turn_client_core.specs.Opened.{answer_to, opened_with, with_reply}

-- the reply is the answer to the server
pub answered-is : (text : ℕ → List ℕ) (origin : Origin) (s : State) → with_reply (answer_to text origin) s ≡ answered_with text origin s
answered-is text OwnConnect s = rw (append-nil s.queue) refl
answered-is text (ServerRequest request) s = refl
answered-is text ServerIndication s = rw (append-nil s.queue) refl

pub opened-is : (origin : Origin) (id : ℕ) (peer local : SocketAddr) (now : ℕ) (s : State)
    → opened_with (answer_to (accepted_reply s) origin) id peer local now s ≡ socket_opened id peer local origin now s
opened-is OwnConnect id peer local now s = rw (append-nil s.queue) refl
opened-is (ServerRequest request) id peer local now s = refl
opened-is ServerIndication id peer local now s = rw (append-nil s.queue) refl

-- the ledger was this client's; the stream is left to who holds the streams
pub opens-is : (s : State) (was ledger : Ledger) (reply : Option (List ℕ)) (id request : ℕ) (peer local : SocketAddr) (text : List ℕ) (now waits : ℕ) → with_ledger was s ≡ s
    → Asks request (ForBind local peer id ∷ []) waits (with_opened id peer local now) was ledger s text
    → text ≡ request_for s (ForBind local peer id) request → request ≡ fresh_id s → waits ≡ waits_from now s
    → with_ledger ledger (queued true local text (with_reply reply (request_started request text (ForBind local peer id ∷ []) waits s)))
    ≡ with_streams_of s (opened_with reply id peer local now s)
opens-is s was ledger reply id request peer local text now waits same made is next begins =
    ap (λ t. queued true local text (with_reply reply t)) (made ∙ ap (λ t. request_started request text (ForBind local peer id ∷ []) waits (with_opened id peer local now t)) same)
    ∙ rw (is, next, begins) refl
