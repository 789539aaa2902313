use Rattle.std.proofs.Common.{◌≡◌, ℕ, Option, Some, false, inl, subst, rules}
use Rattle.std.specs.declared.net.ip_addr.IpAddr.{IpAddr}
use Rattle.turn_stun.specs.declared.transport.TransportType.{TransportType}
use Rattle.turn_session_book.specs.declared.keys.Key.TheVariants.{Permission}
use Rattle.turn_session_client.specs.Doubting.{AsksNew, AsksNext, question_ip}
use Rattle.turn_session_client.specs.Notes.{is_asked, shelved}
use Rattle.turn_session_client.specs.NotedState.{NotedState}
use Rattle.turn_session_client.specs.declared.noted.doubting.DoubtsPoll.{DoubtsPoll}
use Rattle.turn_session_client.specs.declared.notes.Notes.{Notes}
use Rattle.turn_session_client.proofs.noted.NotedClient.ask_next.Goals as goal

asks-next : (now : ℕ) (inside was : NotedState) → inside ≡ was → (relays : TransportType) (ip : IpAddr) (notes : Notes) (s : NotedState) (answer : DoubtsPoll) →
    inside.notes.relays ≡ Some relays → ip ≡ question_ip inside.doubts.is_ipv6 inside.doubts.number → is_asked (Permission ip) inside.notes ≡ false →
    notes ≡ shelved inside.notes → AsksNew relays ip now (record inside { notes = notes }) s answer → AsksNext now was s answer
asks-next now inside was same relays ip notes s answer known is-ip new shelves asks =
    let shelved_asks : AsksNew relays ip now (record inside { notes = shelved inside.notes }) s answer =
    subst (λ (n : Notes). AsksNew relays ip now (record inside { notes = n }) s answer) shelves asks in
    let known_asks =
    subst (λ (o : Option TransportType). AsksNew relays ip now (record inside { notes = shelved (record inside.notes { relays = o }) }) s answer)
    known shelved_asks in
    subst (λ (u : NotedState). AsksNext now u s answer) same (rw (known, ← is-ip, new) (inl known_asks))

pub returns : goal.returns
returns g c =
    let known : c.self.inside.notes.relays ≡ Some c.in-Some.relays = search rules in
    let new : is_asked (Permission c.question_ip-ip.result) c.self.inside.notes ≡ false = search rules in
    let shelves : c.shelve_question.new.self ≡ shelved c.self.inside.notes = search rules in
    asks-next c.args.now _ _ c.self.view_is c.in-Some.relays c.question_ip-ip.result c.shelve_question.new.self c.ask_new.new.self c.ask_new.result
    known c.question_ip-ip.ensures new shelves c.ask_new.ensures
