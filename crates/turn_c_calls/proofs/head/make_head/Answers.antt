use Rattle.std.proofs.Common.{◌≡◌, ℕ, List, [], ◌++◌, length, drop, replicate, Result, arith, ap, refl, subst, sym, ◌∙◌}
use Rattle.turn_stun.specs.declared.transport.Transmit.{Transmit}
use Rattle.turn_client_api.specs.Delayed.{delayed_send_bytes}
use Rattle.turn_client_api.specs.declared.error.SendError.{SendError}
use Rattle.turn_c_calls.specs.Head.{HeadShows, head_of, padding_of}
use Rattle.turn_c_calls.specs.declared.answer.Answer.{Answer}
use Rattle.turn_c_calls.proofs.HeadLemmas.{IsBare, bare_sent, none_foretells, with_data}
use Rattle.turn_c_calls.proofs.head.make_head.Goals as goal

pub split_at_mut-head-requires : goal.split_at_mut-head-requires
split_at_mut-head-requires g c =
    let s = g.C.TurnClientApi.state c.args.client.now in
    let said = rw c.in-Ok-Some.field-0-is at c.in-Ok-Some.ensures.answer in
    let bare = bare_sent _ _ _ said (none_foretells c.args.transport c.args.to [] c.args.now s).bare in
    omega (arith, bare.most, c.len-head_len.ensures, c.requires.fits)

pub set_lengths-answer-requires-clause-most : goal.set_lengths-answer-requires-clause-most
set_lengths-answer-requires-clause-most g c =
    let s = g.C.TurnClientApi.state c.args.client.now in
    let said = rw c.in-Ok-Some.field-0-is at c.in-Ok-Some.ensures.answer in
    let bare = bare_sent _ _ _ said (none_foretells c.args.transport c.args.to [] c.args.now s).bare in
    omega (arith, bare.most, ap length c.write_into-answer.ensures.written)

pub returns-in-Ok-Some : goal.returns-in-Ok-Some
returns-in-Ok-Some g c = λ bytes e.
    let s = g.C.TurnClientApi.state c.args.client.now in
    let said = rw c.in-Ok-Some.field-0-is at c.in-Ok-Some.ensures.answer in
    let reports = none_foretells c.args.transport c.args.to bytes c.args.now s in
    let none : List ℕ = delayed_send_bytes c.in-Ok-Some.packet.payload in
    let bare : IsBare (length bytes) none = bare_sent (length bytes) _ _ said reports.bare in
    let after : List ℕ = c.set_lengths-answer.new.packet ++ c.split_at_mut-head.result.1.now in
    let last : Answer = record c.set_packet.new.self { len = c.len-head_len.result; start = c.set_lengths-answer.result; left = 0 } in
    let start : c.set_lengths-answer.result ≡ padding_of (length bytes) none =
    c.set_lengths-answer.ensures.padding ∙ rw (c.write_into-answer.ensures.written, e) refl in
    let front : c.set_lengths-answer.new.packet ≡ head_of (length bytes) none =
    c.set_lengths-answer.ensures.head ∙ rw (c.write_into-answer.ensures.written, e) refl in
    let long : c.len-head_len.result ≡ length (head_of (length bytes) none) = c.len-head_len.ensures ∙ sym bare.same in
    record {
      client = c.in-Ok-Some.ensures.after ∙ sym reports.after;
      shows = subst (λ (whole : Result (Transmit (List ℕ)) SendError). HeadShows whole bytes c.args.buffer.now after c.args.answer.now last) (sym (reports.said ∙ ap (with_data bytes) said)) (record {
        head = head_of (length bytes) none;
        spelled = ap (λ (n : ℕ). head_of (length bytes) none ++ bytes ++ replicate n 0) (sym start);
        says = λ i. record (c.set_packet.ensures i) { len = long i; start = c.set_lengths-answer.result; left = 0 };
        buffer_is = λ i. front i ++ (c.split_at_mut-head.ensures.back ∙ ap (λ (n : ℕ). drop n c.args.buffer.now) long) i;
      });
    }
