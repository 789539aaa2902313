-- Data for a peer: what the session returned, as a reply.
use Rattle.std.proofs.Common.{◌≡◌, ℕ, List, Result, Ok, Err, length, sym, ap, subst, inl, inr}
use Rattle.std.proofs.lemmas.Bool.{cases_Bool}
use Rattle.std.specs.Prelude.{IfOk}
use Rattle.std.specs.declared.convert.AsSlice.{Ghosts}
use Rattle.std.specs.declared.net.socket_addr.SocketAddr.{SocketAddr}
use Rattle.turn_stun.specs.declared.transport.Transmit.{Transmit}
use Rattle.turn_stun.specs.declared.transport.TransportType.{TransportType}
use Rattle.turn_client_api.specs.declared.error.SendError.{SendError}
use Rattle.turn_client_calls.specs.declared.reply.Reply.TheVariants as Client
use Rattle.turn_session_client.specs.Sending.{sent_step}
use Rattle.turn_session.specs.Giving.{Gives, GivesStep, IsPacket, is_longer, is_permitted}
use Rattle.turn_session.specs.SessionState.{SessionState, with_noted}
use Rattle.turn_session.specs.declared.sent.SendRefusal.{SendRefusal}
use Rattle.turn_session.specs.declared.sent.Sent.{Sent}
use Rattle.turn_session.specs.declared.sent.Sent.TheVariants.{Packet, Requested}
use Rattle.turn_session_lines.specs.Reply.{RepliesToSend, reply_of, sent_reply}
use Rattle.turn_session_lines.specs.declared.reply.SessionReply.{SessionReply}
use Rattle.turn_session_lines.specs.declared.reply.SessionReply.TheVariants as Replies

packet_is : {T : Type 0} {g : Ghosts T ℕ} → (result : Result (Sent T g) SendRefusal) (said : Transmit (List ℕ)) → IsPacket result said
    → reply_of result ≡ Replies.OfClient (Client.SendTo (Ok said))
packet_is (Ok (Packet packet)) said h = ap (λ (t : Transmit (List ℕ)). Replies.OfClient (Client.SendTo (Ok t))) (sym h)
packet_is (Ok (Requested answer)) said h = absurd h
packet_is (Err refusal) said h = absurd h

permitted_reply : {T : Type 0} {g : Ghosts T ℕ} → (transport : TransportType) (to : SocketAddr) (now : ℕ) (step : Result (Transmit (List ℕ)) SendError) (t : SessionState)
    (result : Result (Sent T g) SendRefusal) (s : SessionState) → GivesStep transport to now step t result s
    → (reply_of result ≡ (sent_reply transport to now step t).0) × (s ≡ (sent_reply transport to now step t).1)
permitted_reply transport to now (Err refusal) t result s h = (ap reply_of h.0, h.1)
permitted_reply transport to now (Ok packet) t result s h = elim (cases_Bool (is_longer transport 65_507 (length packet.payload))) [
  | inl long ↦ let said = rw long at h in rw long (ap reply_of said.0, said.1)
  | inr short ↦ let said = rw short at h in rw short (packet_is result packet said.0, said.1)
]

pub given_reply : {T : Type 0} {g : Ghosts T ℕ} → (transport : TransportType) (to : SocketAddr) (bytes : List ℕ) (now : ℕ)
    (result : Result (Sent T g) SendRefusal) (was s : SessionState) → Gives transport to bytes now result was s
    → RepliesToSend transport to bytes now was (reply_of result) s
given_reply transport to bytes now result was s h = elim (cases_Bool (is_longer transport 65_503 (length bytes))) [
  | inl long ↦ let said = rw long at h in rw long (ap reply_of said.0, said.1)
  | inr short ↦ elim (cases_Bool (is_permitted transport to was)) [
    | inl may ↦
        let step = sent_step transport to bytes now was.noted in
        let said = rw (short, may) at h in
        rw (short, may) (permitted_reply transport to now step.0 (with_noted step.1 was) result s said)
    | inr must ↦ let said = rw (short, must) at h in rw (short, must) (said.0, ap reply_of said.1, said.2, said.3)
  ]
]

pub reply_given : {T E : Type 0} {g : Ghosts T ℕ} → (transport : TransportType) (to : SocketAddr) (bytes : List ℕ) (now : ℕ)
    (given : Result (Sent T g) SendRefusal) (was s : SessionState) (result : Result SessionReply E) → Gives transport to bytes now given was s
    → IfOk result (λ reply. reply ≡ reply_of given) → IfOk result (λ reply. RepliesToSend transport to bytes now was reply s)
reply_given transport to bytes now given was s (Ok reply) h said =
    subst (λ (r : SessionReply). RepliesToSend transport to bytes now was r s) (sym said) (given_reply transport to bytes now given was s h)
reply_given transport to bytes now given was s (Err wanted) h said = tt
