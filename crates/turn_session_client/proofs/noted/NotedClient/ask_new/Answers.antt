use Rattle.std.proofs.Common.{◌≡◌, ◌∙◌, ℕ, ap, inl, refl, subst}
use Rattle.std.specs.declared.net.ip_addr.IpAddr.{IpAddr}
use Rattle.turn_stun.specs.declared.transport.TransportType.{TransportType}
use Rattle.turn_client_api.specs.State.{State}
use Rattle.turn_session_life.specs.declared.doubts.Asking.{Asking}
use Rattle.turn_session_client.specs.Doubting.{AsksNew, asked_by, with_question}
use Rattle.turn_session_client.specs.NotedState.{NotedState}
use Rattle.turn_session_client.specs.declared.noted.doubting.DoubtsPoll.TheVariants.{Now}
use Rattle.turn_session_client.proofs.noted.NotedClient.ask_new.Goals as goal

asks-new : (relays : TransportType) (ip : IpAddr) (now : ℕ) (inside was : NotedState) → inside ≡ was →
    (asking : Asking) (client : State) (s : NotedState) → asking ≡ (asked_by relays ip now inside.client).0 →
    client ≡ (asked_by relays ip now inside.client).1 → s ≡ with_question asking ip (record inside { client = client }) →
    AsksNew relays ip now was s Now
asks-new relays ip now inside was same asking client s asked after noted =
    let by-answer = ap (λ (a : Asking). with_question a ip (record inside { client = client })) asked in
    let by-state = ap (λ (c : State). with_question (asked_by relays ip now inside.client).0 ip (record inside { client = c })) after in
    subst (λ (u : NotedState). AsksNew relays ip now u s Now) same (inl (refl, noted ∙ (by-answer ∙ by-state)))

pub returns-in-Some : goal.returns-in-Some
returns-in-Some g c =
    let said = c.in-Some.ensures in
    asks-new c.args.relays c.args.ip c.args.now _ _ c.self.view_is _ _ _ said.0 said.1 c.note_question.ensures
