use Rattle.turn_client_laws.proofs.Common.{◌≡◌, ◌∙◌, List, [], ◌∷◌, None, Some, false, refl, subst, sym, true, ap, false≢true, list_any, slice_get, IsSome, filter_map}
use Rattle.turn_client_laws.proofs.Machine.{channels_to, free_number, is_allocated, is_in_progress, reserved_from, State}
use Rattle.turn_client_core.proofs.protocol.TurnClientProtocol.ask_channel.Goals as goal

-- a list without a first element is empty
empty : {X : Type 0} (xs : List X) → slice_get xs 0 ≡ None → xs ≡ []
empty [] none = refl
empty (x ∷ xs) none = absurd (false≢true (subst IsSome none refl))

pub returns-in-Ok : goal.returns-in-Ok
returns-in-Ok c =
    let s = c.args.self.now in
    let none : list_any is_in_progress (channels_to c.args.peer s) ≡ false = sym (rw (c.table.ensures.grants ∙ ap (λ (t : State). t.grants) c.self.view_is) at c.has_channel.ensures) ∙ c.if-has_channel.false in
    let expired : filter_map (reserved_from c.args.now) (channels_to c.args.peer s) ≡ [] =
    empty _ (sym (rw (c.table-2.ensures.grants ∙ ap (λ (t : State). t.grants) c.self.view_is) at c.reserved_until.ensures) ∙ c.in_default.is) in
    let free : free_number s ≡ Some c.in-Some-free_number.number = sym (rw (c.table-3.ensures.grants ∙ ap (λ (t : State). t.grants) c.self.view_is) at c.free_number.ensures.found) ∙ c.in-Some-free_number.is in
    let allocated : is_allocated s.phase ≡ true = sym c.is_allocated.ensures.value ∙ c.if-not-is_allocated.false in
    record { step = rw (none, expired, allocated, free) (refl, rw c.in-Ok.is at c.ask_number.ensures.ok) }
