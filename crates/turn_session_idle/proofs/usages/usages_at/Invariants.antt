use Rattle.std.proofs.Common.{◌≡◌, ◌≤◌, ◌+◌, ◌++◌, drop, length, map, vec_capacity, vec_len}
use Rattle.turn_session_idle.specs.Usages.{grant_at}
use Rattle.turn_session_idle.proofs.usages.usages_at.Given as goal

abbrev pub invariant-loop-grant : goal.invariant-loop-grant
invariant-loop-grant l = record {
  items : l.all.items ++ map (grant_at l.idle l.now l.usages) (drop l.grant-index l.grants) ≡ map (grant_at l.idle l.now l.usages) l.grants;
  room : vec_len l.all + length (drop l.grant-index l.grants) ≤ vec_capacity l.all;
}
