-- The names of the library that most proofs cite, passed on from one place.
pub use Rattle.std.proofs.Common.{Bool, Err, Global, IfSome, IsOk, IsSome, List, None, Ok, OnErr, OnOk, Option, Result, Some, Vec, [], add-one, ap, append-nil, append_assoc, arith, cond, drop, eqb}
pub use Rattle.std.proofs.Common.{false, filter, filter_map, find, flat_map, fold, get_or, if◌then◌else◌, inl, inr, is_none, is_some, leb, length, length-drop, ltb, map, max, min, nat_lt, not}
pub use Rattle.std.proofs.Common.{option_and_then, option_map, refl, reverse, rules, slice_get, subst, suc, suc-add, sum, sym, take, true, unwrap_or, zero, zero-add, ℕ, ◌%◌, ◌&&◌, ◌*◌, ◌++◌, ◌+◌, ◌-◌}
pub use Rattle.std.proofs.Common.{◌/◌, ◌<◌, ◌==◌, ◌^◌, ◌||◌, ◌∙◌, ◌∷◌, ◌≡◌, ◌≢◌, ◌≤◌, ◌⊎◌}
pub use Rattle.std.specs.List.{AllByRecursion, Contains, concat, cons_option, list_all, list_any, position, position_or_len, range_with_len, remove}
unfoldable pub use Rattle.std.specs.List.{IsDistinct}
pub use Rattle.std.specs.Net.Socket.{socket_ip}
pub use Rattle.std.specs.Option.{option_map_or}
pub use Rattle.std.specs.Prelude.{All, IfNone, IfOk, IsSomeAnd, MatchOption, codes, nat_le, option_to_list, slice_range, sum_by, ⊤}
pub use Rattle.std.specs.declared.net.ip_addr.IpAddr.{IpAddr}
pub use Rattle.std.specs.declared.net.socket_addr.SocketAddr.{SocketAddr}
pub use Rattle.std.proofs.Math.Nat.{div-add-mod, le-max_right, le-min, max-le, min-eq_left, min-le_left, min-le_right, mul-le-mul_left, mul-suc}
pub use Rattle.std.proofs.lemmas.Bool.{and_from, and_left, and_parts, and_right, cases_Bool, cases_lt, cond_both, eq-eqb, eqb-false, eqb-true, false_from_ne_true, false≢true, le-leb, le-ltb}
pub use Rattle.std.proofs.lemmas.Bool.{leb-false, leb-true, lt-leb, lt-ltb, ltb-false, ltb-true, ne_eqb, not-false, not-true, not_from_false, not_from_true, or_cases, or_left, or_parts, or_right}
pub use Rattle.std.proofs.lemmas.Bool.{true_from_ne_false}
pub use Rattle.std.proofs.lemmas.Grind.{common_steps, flat_map-append}
pub use Rattle.std.proofs.lemmas.List.{drop-take, length-append, length-map, length-reverse, length-take, length-take-le, map-append, nil_from_length, reverse-append, take-append-drop, take-take}
pub use Rattle.std.proofs.lemmas.List.{take_at, take_rest}
pub use Rattle.std.proofs.lemmas.List.Elements.{All-cons, All-contains, All-head, All-nil, All-push, All-tail, Contains-append_cases, Contains-append_left, Contains-append_right, filter-append}
pub use Rattle.std.proofs.lemmas.List.Elements.{filter_map-append}
pub use Rattle.std.proofs.lemmas.List.Folds.{list_any-append}
pub use Rattle.std.proofs.lemmas.List.Sums.{fold-append, sum_by-cons}
pub use Rattle.std.proofs.lemmas.Option.{cond_some, none-some, same_Some}
pub use Rattle.std.proofs.lemmas.Result.{IfOk-weaker, on_err_weaker, on_ok_weaker}
