use Rattle.turn_client_laws.proofs.Common.{◌≡◌, ◌+◌, ◌<◌, ◌∙◌, ◌||◌, length, length-drop, drop, fold, None, ap, arith, refl, sym, eqb-false, eqb-true, take_rest, list_any, option_map}
use Rattle.turn_client_laws.proofs.Machine.{placed, attribute_at, attribute_size, attributes_from, padded_len, data_kind, peer_kind, is_unknown, later_of, icmp_kind}
use Rattle.std.proofs.Math.Bool.{or-false}
use Rattle.turn_client_core.proofs.incoming.ReadLemmas.{cut-all, cut-none, end-some, read-all, step-any, step-fold, walked-all}
use Rattle.turn_client_core.proofs.indication.Indication.read_all.Goals as goal

pub returns-in_err-raw-clause-cut : goal.returns-in_err-raw-clause-cut
returns-in_err-raw-clause-cut c =
    let rest = c.loop-rest.rest.now in
    let left : 0 < length rest = (let some : length rest ≡ 0 → ⊥ = eqb-false _ _ (sym c.loop-rest-test.ensures) in omega arith) in
    let none = cut-all _ _ (attributes_from 0 20 (drop 20 c.args.bytes.now)) _
    c.loop-rest.invariant.peer (cut-none _ rest left c.in_err-raw.ensures.cut) in
    rw c.from_residual.ensures none

pub loop-rest-preserved : goal.loop-rest-preserved
loop-rest-preserved c =
    let rest = c.loop-rest.rest.now in
    let left : 0 < length rest = (let some : length rest ≡ 0 → ⊥ = eqb-false _ _ (sym c.loop-rest-test.ensures) in omega arith) in
    let size : c.size-size.result ≡ attribute_size rest = c.size-size.ensures ∙ ap (λ n. 4 + padded_len n) c.in_ok-raw.ensures.len in
    let first : placed (c.loop-rest.offset, c.in_ok-raw.raw) ≡ attribute_at c.loop-rest.offset rest = rw (c.in_ok-raw.ensures.kind, c.in_ok-raw.ensures.value) refl in
    let whole = c.in_ok-raw.ensures.whole in
    let later = take_rest rest c.size-size.result in
    record {
      same = c.read.ensures.id ∙ c.loop-rest.invariant.same;
      place = rw (later, length-drop) (omega (arith, c.loop-rest.invariant.place, size, whole));
      peer = step-fold (later_of peer_kind) _ _ c.loop-rest.offset c.size-size.result rest _ _ _ left whole first c.read.ensures.peer size later c.loop-rest.invariant.peer;
      payload = step-fold (later_of data_kind) _ _ c.loop-rest.offset c.size-size.result rest _ _ _ left whole first c.read.ensures.payload size later c.loop-rest.invariant.payload;
      icmp = step-fold (later_of icmp_kind) _ _ c.loop-rest.offset c.size-size.result rest _ _ _ left whole first c.read.ensures.icmp size later c.loop-rest.invariant.icmp;
      unknown = step-any is_unknown _ _ c.loop-rest.offset c.size-size.result rest _ _ _ left whole first c.read.ensures.unknown size later c.loop-rest.invariant.unknown;
    }

pub returns : goal.returns
returns c =
    let all = attributes_from 0 20 (drop 20 c.args.bytes.now) in
    let ended = end-some c.loop-rest.offset c.loop-rest.rest.now (eqb-true _ _ (sym c.loop-rest-test.ensures)) in
    record {
      cut = tt;
      whole = walked-all _ _ all _ c.loop-rest.invariant.peer ended;
      id = c.loop-rest.invariant.same;
      peer = read-all (fold (later_of peer_kind) (option_map placed c.loop-rest.found.peer))
          (fold (later_of peer_kind) None) all _ c.loop-rest.invariant.peer ended;
      payload = read-all (fold (later_of data_kind) (option_map placed c.loop-rest.found.«data»))
          (fold (later_of data_kind) None) all _ c.loop-rest.invariant.payload ended;
      icmp = read-all (fold (later_of icmp_kind) (option_map placed c.loop-rest.found.icmp))
          (fold (later_of icmp_kind) None) all _ c.loop-rest.invariant.icmp ended;
      unknown = sym (or-false c.loop-rest.found.has_unknown)
          ∙ read-all (λ l. c.loop-rest.found.has_unknown || list_any is_unknown l) (list_any is_unknown) all _ c.loop-rest.invariant.unknown ended;
    }
