use Rattle.std.proofs.Common.{ap, ◌++◌, List, ℕ, take}
use Rattle.std.specs.Int.{w16, to_be_bytes}
use Rattle.std.proofs.lemmas.List.{drop-drop}
use Rattle.turn_c_calls.proofs.head.set_number.Goals as goal

pub returns : goal.returns
returns c =
    rw (c.split_at_mut-behind.ensures.front, c.copy_from_slice.ensures.after, c.to_be_bytes.ensures, c.split_at_mut-place.ensures.back, c.split_at_mut-behind.ensures.back)
    (ap (λ (rest : List ℕ). take c.args.at c.args.packet.now ++ (to_be_bytes w16 c.args.number ++ rest)) (drop-drop 2 c.args.at c.args.packet.now))
