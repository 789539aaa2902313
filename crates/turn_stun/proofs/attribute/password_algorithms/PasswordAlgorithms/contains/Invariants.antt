use Rattle.std.proofs.Common.{◌≡◌}
use Rattle.std.specs.List.{list_any}
use Rattle.turn_stun.specs.Iterator.{attributes_ahead}
use Rattle.turn_stun.specs.Values.{entries_of, is_bare_entry}
use Rattle.turn_stun.proofs.attribute.password_algorithms.PasswordAlgorithms.contains.Given as goal

-- the entries that were passed are others
abbrev pub invariant-loop-entry : goal.invariant-loop-entry
invariant-loop-entry l =
    list_any (is_bare_entry l.number) (attributes_ahead l.entry-iterator) ≡ list_any (is_bare_entry l.number) (entries_of l.self)
