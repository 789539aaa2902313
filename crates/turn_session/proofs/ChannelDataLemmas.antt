-- A datagram of ChannelData is the client's alone, and shows that the path carries packets.
use Rattle.std.proofs.Common.{◌≡◌, ◌∙◌, ℕ, Bool, true, false, List, None, ap, inl, inr, refl, subst, sym}
use Rattle.std.specs.Prelude.{◌&&◌, not, IfOk, Result, Ok, Err}
use Rattle.std.specs.declared.net.socket_addr.SocketAddr.{SocketAddr}
use Rattle.std.proofs.lemmas.Bool.{cases_Bool}
use Rattle.turn_stun.specs.declared.transport.TransportType.{TransportType}
use Rattle.turn_stun.specs.declared.transport.TransportType.TheVariants.{Udp, Tcp}
use Rattle.turn_client_api.specs.Payloads.{Outcome}
use Rattle.turn_client_api.specs.Payloads as Outcomes
use Rattle.turn_client_api.specs.Receive.{recv_step}
use Rattle.turn_session_client.proofs.ChannelDataLemmas.{no-answer, stays}
use Rattle.turn_session_client.specs.Answering.{is_channel_data}
use Rattle.turn_session_client.specs.Ending.{is_over}
use Rattle.turn_session_client.specs.NotedState.{NotedState}
use Rattle.turn_session_client.specs.Receiving.{answers_nothing, outcome_in}
use Rattle.turn_session_client.specs.Receiving as Client
use Rattle.turn_session.specs.Framing.{BytesGive}
use Rattle.turn_session.specs.PathMessages.{response_in}
use Rattle.turn_session.specs.Receiving.{Passes, is_channel_datagram, is_of_server, noted_outcome, path_step, with_sign}
use Rattle.turn_session.specs.SessionState.{SessionState, with_noted}

-- ---- it is no response of the path

no-response : (bytes : List ℕ) → is_channel_data bytes ≡ true → response_in bytes ≡ None
no-response bytes channel = rw channel refl

pub passes : (transport : TransportType) (from to : SocketAddr) (bytes : List ℕ) (now : ℕ) (s : SessionState) → is_channel_data bytes ≡ true
    → path_step transport from to bytes now s ≡ (false, s)
passes transport from to bytes now s channel = elim (cases_Bool (not (is_over s.noted.life.phase) && is_of_server transport from to s.noted.client)) [
  | inl is_so ↦ rw (is_so, no-response bytes channel) refl
  | inr is_not ↦ rw is_not refl
]

-- ---- it is a datagram

pub datagram : (transport : TransportType) (bytes : List ℕ) → is_channel_datagram transport bytes ≡ true → transport ≡ Udp
datagram Udp bytes is = refl
datagram Tcp bytes is = cc

pub channel-data : (transport : TransportType) (bytes : List ℕ) → is_channel_datagram transport bytes ≡ true → is_channel_data bytes ≡ true
channel-data Udp bytes is = is
channel-data Tcp bytes is = cc

-- ---- the session after it

sign-noted : (outcome : Outcome) (now : ℕ) (s : SessionState) → (with_sign outcome now s).noted ≡ s.noted
sign-noted Outcomes.Handled now s = refl
sign-noted Outcomes.Ignored now s = refl
sign-noted (Outcomes.PeerData payload) now s = refl
sign-noted (Outcomes.PeerIcmp transport peer icmp) now s = refl

passes-in : (from to : SocketAddr) (bytes : List ℕ) (now : ℕ) (was s : SessionState) (outcome : Outcome) → is_channel_data bytes ≡ true
    → outcome ≡ noted_outcome Udp from to bytes now was.noted → s ≡ with_sign outcome now was → Passes Udp from to bytes now was s
passes-in from to bytes now was s outcome channel is same =
    let kept : was.noted ≡ s.noted = sym (ap (λ (t : SessionState). t.noted) same ∙ sign-noted outcome now was) in (
      subst (λ (n : NotedState). Client.Receives Udp from to bytes now was.noted n) kept (stays from to bytes now was.noted channel),
      same ∙ (ap (λ (o : Outcome). with_sign o now was) is
          ∙ ap (λ (n : NotedState). with_sign (noted_outcome Udp from to bytes now was.noted) now (with_noted n was)) kept),
    )

receives-udp : (from to : SocketAddr) (bytes : List ℕ) (now : ℕ) (was s : SessionState) (outcome : Outcome) → is_channel_data bytes ≡ true
    → outcome ≡ outcome_in was.noted.life.phase false (recv_step Udp from to bytes now was.noted.client).0 → s ≡ with_sign outcome now was
    → BytesGive Udp from to bytes now was s outcome
receives-udp from to bytes now was s outcome channel is same =
    let said : outcome ≡ noted_outcome Udp from to bytes now was.noted = rw (no-answer to bytes was.noted.client channel) is in (
      rw (passes Udp from to bytes now was channel) said,
      rw (passes Udp from to bytes now was channel) (passes-in from to bytes now was s outcome channel said same),
    )

pub receives-channel : (transport : TransportType) (from to : SocketAddr) (bytes : List ℕ) (now : ℕ) (was s : SessionState) (outcome : Outcome)
    → is_channel_datagram transport bytes ≡ true
    → outcome ≡ outcome_in was.noted.life.phase false (recv_step Udp from to bytes now was.noted.client).0 → s ≡ with_sign outcome now was
    → BytesGive transport from to bytes now was s outcome
receives-channel Udp from to bytes now was s outcome channel is same = receives-udp from to bytes now was s outcome channel is same
receives-channel Tcp from to bytes now was s outcome channel is same = cc

-- what the call answers, of the session with its notes as they are inside
pub receives-noted : (transport : TransportType) (from to : SocketAddr) (bytes : List ℕ) (now : ℕ) (was s : SessionState) (noted : NotedState)
    (outcome : Outcome) → is_channel_datagram transport bytes ≡ true → was.noted ≡ noted
    → outcome ≡ outcome_in noted.life.phase false (recv_step Udp from to bytes now noted.client).0 → s ≡ with_sign outcome now was
    → BytesGive transport from to bytes now was s outcome
receives-noted transport from to bytes now was s noted outcome channel kept is same =
    let inside : outcome ≡ outcome_in was.noted.life.phase false (recv_step Udp from to bytes now was.noted.client).0 = rw kept is in
    receives-channel transport from to bytes now was s outcome channel inside same

pub on-ok-is : {T E : Type 0} {P Q : T → Type 0} (r : Result T E) → IfOk r P → ((x : T) → r ≡ Ok x → P x → Q x) → IfOk r Q
on-ok-is (Ok x) p f = f x refl p
on-ok-is (Err e) p f = p
