use Rattle.turn_client_laws.proofs.Common.{◌≡◌, ◌∙◌, IfSome, ap, false, length, option_and_then, subst, sym, option_map}
use Rattle.turn_client_laws.proofs.Machine.{placed, IsWithin, has_unknown}
use Rattle.turn_types.specs.Icmp.{icmp_of}
use Rattle.turn_client_core.specs.contracts.protocol.TurnClientProtocol.{the_view}
use Rattle.turn_client_core.proofs.incoming.DataLemmas.{data-is, icmp-is, no_peer-is, peer-read, unknown-is}
use Rattle.turn_client_core.proofs.protocol.TurnClientProtocol.found_indicated.Goals as goal

pub returns-then-found-clause-outcome : goal.returns-then-found-clause-outcome
returns-then-found-clause-outcome c = unknown-is c.args.self.now c.args.bytes.now (sym c.requires.unknown ∙ c.if-found.true)

pub returns-in_default-clause-outcome : goal.returns-in_default-clause-outcome
returns-in_default-clause-outcome c =
    let known : has_unknown c.args.bytes.now ≡ false = sym c.requires.unknown ∙ c.if-found.false in
    no_peer-is c.args.self.now c.args.bytes.now known (peer-read c.args.bytes.now _ _ _ _ c.requires.id (c.requires.peer known) c.peer.ensures c.in_default.is)

pub data_place-requires : goal.data_place-requires
data_place-requires c =
    let known : has_unknown c.args.bytes.now ≡ false = sym c.requires.unknown ∙ c.if-found.false in
    subst (λ found. IfSome found (IsWithin 20 (length c.args.bytes.now))) (sym (c.requires.payload known)) c.requires.within

pub returns-in-Some-data_place-clause-outcome : goal.returns-in-Some-data_place-clause-outcome
returns-in-Some-data_place-clause-outcome c =
    let known : has_unknown c.args.bytes.now ≡ false = sym c.requires.unknown ∙ c.if-found.false in
    let peer = peer-read c.args.bytes.now _ _ _ _ c.requires.id (c.requires.peer known) c.peer.ensures c.in-Some.is in
    rw (c.if_permitted.ensures, c.transport.ensures, ← c.self.view_is) (data-is (the_view c.self.inside) c.args.bytes.now c.in-Some.peer known peer
    (option_map placed c.args.found.now.«data») c.in-Some-data_place.place (c.requires.payload known) c.requires.value
    (sym c.data_place.ensures ∙ c.in-Some-data_place.is))

pub returns-in-None-clause-outcome : goal.returns-in-None-clause-outcome
returns-in-None-clause-outcome c =
    let known : has_unknown c.args.bytes.now ≡ false = sym c.requires.unknown ∙ c.if-found.false in
    let peer = peer-read c.args.bytes.now _ _ _ _ c.requires.id (c.requires.peer known) c.peer.ensures c.in-Some.is in
    rw c.icmp_indicated.ensures (icmp-is c.args.self.now c.args.bytes.now c.in-Some.peer known peer
    c.icmp.result (option_map placed c.args.found.now.«data») (c.requires.payload known)
    (sym c.data_place.ensures ∙ c.in-None.is)
    (c.icmp.ensures ∙ ap (option_and_then (λ a. icmp_of a.value)) (c.requires.icmp known)))
