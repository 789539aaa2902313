use Rattle.std.proofs.Common.{rules, ◌≡◌}
use Rattle.turn_stun.specs.Attributes.{seen_of}
use Rattle.turn_stun.specs.Iterator.{attributes_left}
use Rattle.turn_auth.proofs.DenialLemmas.{first-fold}
use Rattle.turn_auth.proofs.denial.DenialValues.in_message.Goals as goal

pub loop-offset-init : goal.loop-offset-init
loop-offset-init c =
    let seen = seen_of c.args.message.now in
    let left : attributes_left c.into_iter-offset-iterator.result ≡ seen = search rules in
    record {
      realm = rw left (first-fold 0x0014 seen);
      nonce = rw left (first-fold 0x0015 seen);
      error_code = rw left (first-fold 0x0009 seen);
    }
