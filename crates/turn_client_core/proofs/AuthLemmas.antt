-- The signer of a client.
use Rattle.turn_client_laws.proofs.Common.{◌≡◌, Some, refl, sym}
use Rattle.turn_client_laws.proofs.Machine.{ClientAuth, State, auth_of}
use Rattle.turn_client_core.specs.Kept.{IsWhole}
use Rattle.turn_client_core.specs.contracts.protocol.TurnClientProtocol.{the_view}
use Rattle.turn_client_core.specs.declared.protocol.TurnClientProtocol.TheInside.{Inside}

pub auth-is : (s : State) (auth : ClientAuth) → auth.credentials ≡ Some s.config.credentials → auth.supported ≡ s.config.supported_integrity → auth.anonymous_username ≡ s.config.anonymous_username
    → auth.held ≡ s.held → auth_of s ≡ auth
auth-is s auth credentials supported anonymous held = rw (← credentials, ← supported, ← anonymous, ← held) refl

-- the parts of a client sign as its state says
pub signs_as : (i : Inside) (s : State) → IsWhole i.config i.auth i.outbox.timers i.phase i.families.items i.ledger.event_room → the_view i ≡ s → i.auth ≡ auth_of s
signs_as i s whole is = rw (← is) (sym (auth-is (the_view i) i.auth whole.credentials whole.supported whole.anonymous refl))
