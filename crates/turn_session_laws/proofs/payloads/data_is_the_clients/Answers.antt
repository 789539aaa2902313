use Rattle.std.proofs.Common.{◌≡◌, ℕ, Bool, true, false, List, Option, Some, None, refl, sym, ap, ◌∙◌}
use Rattle.std.specs.declared.net.socket_addr.SocketAddr.{SocketAddr}
use Rattle.std.proofs.lemmas.Bool.{false≢true}
use Rattle.turn_stun.specs.declared.transport.TransportType.{TransportType}
use Rattle.turn_client_api.specs.Calls.{send_to_step}
use Rattle.turn_client_api.specs.Payloads.{Outcome}
use Rattle.turn_client_api.specs.Receive.{is_from_server, recv_step}
use Rattle.turn_client_api.specs.State.{State}
use Rattle.turn_session_book.specs.declared.replies.ErrorReply.{ErrorReply}
use Rattle.turn_session_life.specs.Life.{is_running}
use Rattle.turn_session_life.specs.declared.life.Phase.{Phase}
use Rattle.turn_session_life.specs.declared.life.Phase.TheVariants.{Opening, Open, Leaving, Over}
use Rattle.turn_session_client.proofs.ChannelDataLemmas.{no-answer}
use Rattle.turn_session_client.specs.Answering.{is_channel_data}
use Rattle.turn_session_client.specs.Drain.{drained}
use Rattle.turn_session_client.specs.Ending.{is_over}
use Rattle.turn_session_client.specs.NotedState.{NotedState}
use Rattle.turn_session_client.specs.Reading.{IsReadingFrom}
use Rattle.turn_session_client.specs.Receiving.{answers_nothing, heard_step, is_taken, outcome_in, received, reply_for}
use Rattle.turn_session_client.specs.Receiving as Client
use Rattle.turn_session_client.specs.Sending.{sent_step}
use Rattle.turn_session_client.specs.declared.reading.Reading.{Reading}
use Rattle.turn_session.proofs.ChannelDataLemmas.{passes}
use Rattle.turn_session.specs.Receiving.{Passes, Receives, outcome_after, with_sign}
use Rattle.turn_session.specs.SessionState.{SessionState, with_noted}
use Rattle.turn_session_client.proofs.DrainLemmas.{some-same}
use Rattle.turn_session_laws.proofs.payloads.data_is_the_clients.Goals as goal

-- ---- it is no response

before-end : (phase : Phase) (outcome : Outcome) → is_over phase ≡ false → outcome_in phase false outcome ≡ outcome
before-end Opening outcome running = refl
before-end Open outcome running = refl
before-end (Leaving leave) outcome running = refl
before-end (Over why) outcome running = cc

taken-in : (to : SocketAddr) (bytes : List ℕ) (client : State) (phase : Phase) (outcome : Outcome) → is_channel_data bytes ≡ true → is_over phase ≡ false
    → outcome_in phase (answers_nothing to bytes client) outcome ≡ outcome
taken-in to bytes client phase outcome channel running = rw (no-answer to bytes client channel) (before-end phase outcome running)

is-running : (phase : Phase) → is_running phase ≡ true → is_over phase ≡ false
is-running Opening running = refl
is-running Open running = refl
is-running (Leaving leave) running = refl
is-running (Over why) running = cc

answers : (transport : TransportType) (from to : SocketAddr) (bytes : List ℕ) (now : ℕ) (s : SessionState) → is_channel_data bytes ≡ true
    → is_over s.noted.life.phase ≡ false → outcome_after transport from to bytes now s ≡ (recv_step transport from to bytes now s.noted.client).0
answers transport from to bytes now s channel running =
    let step = recv_step transport from to bytes now s.noted.client in
    rw (passes transport from to bytes now s channel) (taken-in to bytes s.noted.client s.noted.life.phase step.0 channel running)

-- ---- nothing of it is noted

unread : (is_servers : Bool) (bytes : List ℕ) (client : State) (reading : Option Reading) → is_channel_data bytes ≡ true
    → IsReadingFrom is_servers bytes client reading → reading ≡ None
unread false bytes client reading channel is = is
unread true bytes client None channel is = refl
unread true bytes client (Some r) channel is = absurd (false≢true (sym is.is_message ∙ channel))

keeps : (reading : Option Reading) (reply : Option ErrorReply) (taken : Bool) (now : ℕ) (s : NotedState) → reading ≡ None → taken ≡ false
    → received reading reply taken now s ≡ s
keeps reading reply taken now s none ignored = rw (none, ignored) refl

abbrev at : Phase → NotedState → NotedState
at phase s = record s { life = record s.life { phase = phase } }

notes-nothing : (transport : TransportType) (from to : SocketAddr) (bytes : List ℕ) (now : ℕ) (was s : NotedState) (reading : Option Reading)
    → is_channel_data bytes ≡ true → is_taken (recv_step transport from to bytes now was.client).0 ≡ false
    → IsReadingFrom (is_from_server transport from was.client) bytes was.client reading
    → drained now s ≡ drained now (heard_step transport from to bytes reading now was)
    → drained now s ≡ drained now (record was { client = (recv_step transport from to bytes now was.client).1 })
notes-nothing transport from to bytes now was s reading channel ignored is same =
    let step = recv_step transport from to bytes now was.client in let t = record was { client = step.1 } in
    let none : reading ≡ None = unread (is_from_server transport from was.client) bytes was.client reading channel is in
    same ∙ ap (drained now) (keeps reading (reply_for reading t) (is_taken step.0) now t none ignored)

receives-at : (transport : TransportType) (from to : SocketAddr) (bytes : List ℕ) (now : ℕ) (was s : NotedState) (phase : Phase) → is_running phase ≡ true
    → is_channel_data bytes ≡ true → is_taken (recv_step transport from to bytes now was.client).0 ≡ false
    → Client.Receives transport from to bytes now (at phase was) s
    → drained now s ≡ drained now (record (at phase was) { client = (recv_step transport from to bytes now was.client).1 })
receives-at transport from to bytes now was s Opening running channel ignored h =
    let heard = rw (no-answer to bytes was.client channel) at h in
    notes-nothing transport from to bytes now (at Opening was) s heard.0 channel ignored heard.1
    (some-same now (heard_step transport from to bytes heard.0 now (at Opening was)) s heard.2)
receives-at transport from to bytes now was s Open running channel ignored h =
    let heard = rw (no-answer to bytes was.client channel) at h in
    notes-nothing transport from to bytes now (at Open was) s heard.0 channel ignored heard.1
    (some-same now (heard_step transport from to bytes heard.0 now (at Open was)) s heard.2)
receives-at transport from to bytes now was s (Leaving leave) running channel ignored h = cc
receives-at transport from to bytes now was s (Over why) running channel ignored h = cc

before-sent : (transport : TransportType) (peer : SocketAddr) (bytes : List ℕ) (now : ℕ) (s : NotedState) → is_over s.life.phase ≡ false
    → let step = send_to_step transport peer bytes now s.client in sent_step transport peer bytes now s ≡ (step.0, record s { client = step.1 })
before-sent transport peer bytes now s running = rw running refl

receives : (transport : TransportType) (from to : SocketAddr) (bytes : List ℕ) (now : ℕ) (was s : SessionState) → is_channel_data bytes ≡ true
    → is_running was.noted.life.phase ≡ true → is_taken (recv_step transport from to bytes now was.noted.client).0 ≡ false
    → Receives transport from to bytes now was s → let step = recv_step transport from to bytes now was.noted.client in
    (s ≡ with_sign step.0 now (with_noted s.noted was)) × (drained now s.noted ≡ drained now (record was.noted { client = step.1 }))
receives transport from to bytes now was s channel running ignored h =
    let step = recv_step transport from to bytes now was.noted.client in
    let passed : Passes transport from to bytes now was s = rw (passes transport from to bytes now was channel) at h in
    let outcome = taken-in to bytes was.noted.client was.noted.life.phase step.0 channel (is-running was.noted.life.phase running) in (
      passed.1 ∙ ap (λ (o : Outcome). with_sign o now (with_noted s.noted was)) outcome,
      receives-at transport from to bytes now was.noted s.noted was.noted.life.phase running channel ignored passed.0,
    )

pub returns : goal.returns
returns c = record { sent = before-sent; answered = answers; received = receives }
