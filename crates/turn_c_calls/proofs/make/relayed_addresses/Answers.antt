use Rattle.std.proofs.Common.{ap, ◌∙◌, Option}
use Rattle.std.specs.declared.net.socket_addr.SocketAddr.{SocketAddr}
use Rattle.turn_stun.specs.declared.transport.TransportType.{TransportType}
use Rattle.turn_client_api.specs.Addresses.{relayed_left}
use Rattle.turn_c_calls.specs.Answer.{relayed_answer}
use Rattle.turn_c_calls.proofs.NthLemmas.{nth_of}
use Rattle.turn_c_calls.proofs.make.relayed_addresses.Goals as goal

pub returns : goal.returns
returns g c =
    let found = nth_of relayed_left _ _ c.nth.result c.nth.new.self c.args.index c.relayed_addresses.ensures c.nth.ensures.ran in
    c.set_relayed.ensures ∙ ap (λ (o : Option (TransportType × SocketAddr)). relayed_answer o c.args.answer.now) found
