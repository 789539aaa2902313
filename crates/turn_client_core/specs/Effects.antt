-- What a reply changes in a client apart from its grants.
use Rattle.std.specs.Prelude.{◌≡◌, ℕ, Bool, if◌then◌else◌, List, fold, None}
use Rattle.std.specs.declared.net.socket_addr.SocketAddr.{SocketAddr}
use Rattle.turn_client_api.specs.Effect.{challenges_reset, connect_answered, effect}
use Rattle.turn_client_api.specs.Judgement.{connection_id_in}
use Rattle.turn_client_api.specs.State.{State}
use Rattle.turn_client_api.specs.declared.grant.Purpose.{Purpose}
use Rattle.turn_client_api.specs.declared.state.Phase.TheVariants.{Closed}
use Rattle.turn_client_core.specs.declared.effect.Effect.{Effect}
use Rattle.turn_client_core.specs.declared.effect.Effect.TheVariants.{Nothing, Taken, AllocationsDeleted}
use Rattle.turn_client_grants.specs.Ledger.{Ledger, with_ledger}
use Rattle.turn_stun.specs.Message.{id_of}

-- the client after it
abbrev pub after : Effect → State → State
after Nothing s = s
after Taken s = challenges_reset s
after AllocationsDeleted s = challenges_reset (record s { phase = Closed })

-- with the new ledger, it is all that the reply changes for these purposes, in order
abbrev pub AnswersPurposes : List Purpose → Bool → List ℕ → ℕ → Ledger → Ledger → Effect → Type 0
AnswersPurposes purposes is_granted message now was ledger outcome =
    (s : State) → after outcome (with_ledger ledger s) ≡ fold (effect (id_of message) is_granted message now) (with_ledger was s) purposes

-- the reply to a CONNECT makes an offer, or reports that the connection failed (RFC 6062, section 4.3)
abbrev pub connect_replied : SocketAddr → Bool → List ℕ → State → State
connect_replied peer is_granted message s =
    challenges_reset (connect_answered peer (if is_granted then connection_id_in message else None) s)
