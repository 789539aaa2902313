use Rattle.std.proofs.Common.{ap, ◌∙◌, Option}
use Rattle.std.specs.declared.net.ip_addr.IpAddr.{IpAddr}
use Rattle.turn_client_api.specs.Addresses.{permitted_left}
use Rattle.turn_c_calls.specs.Answer.{permission_answer}
use Rattle.turn_c_calls.proofs.NthLemmas.{nth_of}
use Rattle.turn_c_calls.proofs.make.permissions.Goals as goal

pub returns : goal.returns
returns g c =
    let found = nth_of permitted_left _ _ c.nth.result c.nth.new.self c.args.index c.permissions.ensures c.nth.ensures.ran in
    c.set_permission.ensures ∙ ap (λ (o : Option IpAddr). permission_answer o c.args.answer.now) found
