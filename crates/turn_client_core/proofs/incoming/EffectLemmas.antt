-- What a reply changes apart from the grants, and the grants.
use Rattle.turn_client_laws.proofs.Common.{◌≡◌, ◌∙◌, List, [], append-nil, ap, length, refl, sym, true, eqb-true, nil_from_length}
use Rattle.turn_client_laws.proofs.Machine.{fail_all, AddressFamily, State, TurnEvent}
use Rattle.std.specs.Prelude.{◌==◌}
use Rattle.turn_client_core.specs.Effects.{after}
use Rattle.turn_client_core.specs.declared.effect.Effect.{Effect}
use Rattle.turn_client_core.specs.declared.effect.Effect.TheVariants.{Nothing}
use Rattle.turn_client_grants.specs.Ledger.{Ledger, with_ledger}

pub after-on : (effect : Effect) (l : Ledger) (s : State) → after effect (with_ledger l s) ≡ with_ledger l (after effect s)
after-on Nothing l s = refl
after-on effect l s = refl

pub nil-from : {A : Type 0} (xs : List A) → (length xs == 0) ≡ true → xs ≡ []
nil-from xs e = nil_from_length xs (eqb-true (length xs) 0 e)

-- no family is requested, so none fails
pub fail-none : (s : State) → s.families ≡ [] → fail_all s ≡ s
fail-none s none =
    ap (λ (families : List AddressFamily). fail_all (record s { families = families })) none
    ∙ (ap (λ (events : List TurnEvent). record s { families = []; events = events }) (append-nil s.events)
    ∙ ap (λ (families : List AddressFamily). record s { families = families }) (sym none))
