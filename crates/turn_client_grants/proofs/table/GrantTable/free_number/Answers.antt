use Rattle.std.proofs.Common.{◌≡◌, ℕ, Bool, List, ◌+◌, ◌∙◌, false, length, not, sym, Some, None}
use Rattle.std.specs.Prelude.{Option, find, option_map}
use Rattle.std.specs.List.{list_any, position}
use Rattle.std.proofs.lemmas.Bool.{not-true}
use Rattle.std.proofs.lemmas.List.{get_or-replicate}
use Rattle.turn_agent.proofs.AgentLemmas.{find-passes}
use Rattle.turn_client_api.specs.Calls.{channel_numbers}
use Rattle.turn_client_api.specs.Grants.{is_channel_of}
use Rattle.turn_client_api.specs.declared.grant.Grant.{Grant}
use Rattle.turn_client_grants.specs.Lists.{Marks}
use Rattle.turn_client_grants.proofs.RangeLemmas.{find-position}
use Rattle.turn_client_grants.proofs.table.GrantTable.free_number.Goals as goal

-- the first place that is not marked is that of the least number that no channel has
first-free : (taken : List Bool) (grants : List Grant) (place : Option ℕ) → length taken ≡ 0x1000 → Marks taken grants → place ≡ position not taken
    → option_map (λ k. 0x4000 + k) place ≡ find (λ number. not (list_any (is_channel_of number) grants)) channel_numbers
unfolding channel_numbers
first-free taken grants place count marks found =
    find-position (λ number. list_any (is_channel_of number) grants) taken 0x4000 0x1000 place count marks found

pub mark_all-requires-clause-clear : goal.mark_all-requires-clause-clear
mark_all-requires-clause-clear c place less = get_or-replicate 0x1000 place false false less

pub returns-in_err-place-clause-found : goal.returns-in_err-place-clause-found
returns-in_err-place-clause-found c =
    rw (← c.self.view_is, ← c.as_slice.ensures.value)
    (c.from_residual.ensures ∙ first-free c.mark_all.new.taken c.as_slice.result.now None c.mark_all.auto.taken c.mark_all.ensures c.in_err-place.ensures.found)

pub returns-clause-found : goal.returns-clause-found
returns-clause-found c =
    rw (← c.self.view_is, ← c.as_slice.ensures.value)
    (first-free c.mark_all.new.taken c.as_slice.result.now (Some c.in_ok-place.place) c.mark_all.auto.taken c.mark_all.ensures c.in_ok-place.ensures.found)

pub returns-clause-free : goal.returns-clause-free
returns-clause-free c =
    let grants = c.as_slice.result.now in
    let number = 0x4000 + c.in_ok-place.place in
    let found = first-free c.mark_all.new.taken grants (Some c.in_ok-place.place) c.mark_all.auto.taken c.mark_all.ensures c.in_ok-place.ensures.found in
    rw (← c.self.view_is, ← c.as_slice.ensures.value)
    (not-true (list_any (is_channel_of number) grants) (find-passes (λ number. not (list_any (is_channel_of number) grants)) channel_numbers number (sym found)))
