use Rattle.std.proofs.lemmas.Result.{err_from_is_err_and}
use Rattle.turn_stun.proofs.WriteLemmas.{kept_front}
use Rattle.turn_stun.proofs.message.write.append_attribute.Goals as goal

pub returns-in_err-write_value-clause-err : goal.returns-in_err-write_value-clause-err
returns-in_err-write_value-clause-err g c =
    let kept = kept_front c.args.out.now.items _ _ _ c.in_ok-extend_from_slice.ensures.items c.in_err-write_value.ensures.err in
    let error = err_from_is_err_and c.from_residual-in_err-write_value.result c.from_residual-in_err-write_value.ensures.1 in
    rw error.1 kept
