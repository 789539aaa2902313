use Rattle.std.proofs.Common.{◌≡◌, fold}
use Rattle.std.specs.Prelude.{option_copied}
use Rattle.turn_stun.specs.Iterator.{attributes_left}
use Rattle.turn_auth.specs.Denial.{first_value}
use Rattle.turn_auth.proofs.denial.DenialValues.in_message.Given as goal
use Rattle.turn_stun.specs.Read.{value_in}

-- what was found, with the attributes that are left to read
abbrev pub invariant-loop-offset : goal.invariant-loop-offset
invariant-loop-offset l = record {
  realm : fold (first_value 0x0014) (option_copied l.found.realm) (attributes_left l.offset-iterator) ≡ value_in 0x0014 l.message;
  nonce : fold (first_value 0x0015) (option_copied l.found.nonce) (attributes_left l.offset-iterator) ≡ value_in 0x0015 l.message;
  error_code : fold (first_value 0x0009) (option_copied l.found.error_code) (attributes_left l.offset-iterator) ≡ value_in 0x0009 l.message;
}
